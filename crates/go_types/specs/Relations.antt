-- Which types are identical, and values of which types may be assigned or converted to a type.
use Rattle.std.specs.Prelude.{Bool, true, false, ◌==◌, ◌&&◌, ◌||◌, bytes_eq}
use Rattle.std.specs.Option.{option_eq}
use Rattle.go_types.specs.declared.types.Basic.TheVariants as basics
use Rattle.go_types.specs.declared.types.Untyped.TheVariants as kinds
use Rattle.go_types.specs.Types.{Type', basic, array, slice, struct, named, Fields, no_fields, field}
use Rattle.go_types.specs.Texts.{basic_text}

-- the underlying type: of a declared type, that of the type that it is declared as
abbrev pub underlying : Type' → Type'
underlying (basic b) = basic b
underlying (array n t) = array n t
underlying (slice t) = slice t
underlying (struct fields) = struct fields
underlying (named path name t) = underlying t

-- types are identical: declared ones by path and name, structs by their fields in order
abbrev mutual
  pub identical : Type' → Type' → Bool
  identical (basic b) (basic c) = bytes_eq (basic_text b) (basic_text c)
  identical (array m a) (array n b) = (m == n) && identical a b
  identical (slice a) (slice b) = identical a b
  identical (struct f) (struct g) = all_identical f g
  identical (named p x a) (named q y b) = bytes_eq p q && bytes_eq x y
  identical a b = false

  pub all_identical : Fields → Fields → Bool
  all_identical no_fields no_fields = true
  all_identical (field p x a f) (field q y b g) = option_eq bytes_eq p q && bytes_eq x y && identical a b && all_identical f g
  all_identical f g = false

-- the type is neither basic nor declared
abbrev pub is_literal : Type' → Bool
is_literal (basic _) = false
is_literal (array _ _) = true
is_literal (slice _) = true
is_literal (struct _) = true
is_literal (named _ _ _) = false

-- an untyped value has a kind that fits the basic type
abbrev pub kind_fits : Type' → Type' → Bool
kind_fits (basic (basics.Untyped kinds.Bool)) (basic basics.Bool) = true
kind_fits (basic (basics.Untyped kinds.Int)) (basic (basics.Integer i)) = true
kind_fits (basic (basics.Untyped kinds.Rune)) (basic (basics.Integer i)) = true
kind_fits (basic (basics.Untyped kinds.String)) (basic basics.String) = true
kind_fits value target = false

-- a value of the first type may be assigned to a variable of the second
abbrev pub assignable : Type' → Type' → Bool
assignable v t = identical v t || (is_literal v || is_literal t) && identical (underlying v) (underlying t) || kind_fits v (underlying t)

-- the types are integer types
abbrev pub are_integers : Type' → Type' → Bool
are_integers (basic (basics.Integer i)) (basic (basics.Integer j)) = true
are_integers a b = false

-- a value of the first type that isn't constant may be converted to the second
abbrev pub convertible : Type' → Type' → Bool
convertible v t = identical (underlying v) (underlying t) || are_integers (underlying v) (underlying t) || kind_fits v (underlying t)

-- https://go.dev/ref/spec#Comparison_operators
-- values of the type may be compared: no slice is a part of it
abbrev mutual
  pub is_comparable : Type' → Bool
  is_comparable (basic b) = true
  is_comparable (array n t) = is_comparable t
  is_comparable (slice t) = false
  is_comparable (struct fields) = are_comparable fields
  is_comparable (named path name t) = is_comparable t

  pub are_comparable : Fields → Bool
  are_comparable no_fields = true
  are_comparable (field p x t fields) = is_comparable t && are_comparable fields
