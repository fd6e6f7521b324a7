-- Values of types, and their parts.
use Rattle.std.specs.Prelude.{ℕ, zero, suc, Bool, true, false, ◌&&◌, nat_eq, List, [], ◌∷◌, ◌++◌, length, replicate, ℤ, pos, negsuc, Option, Some, None}
use Rattle.std.specs.List.{list_all}
use Rattle.go_const.specs.Constants.{fits}
use Rattle.go_types.specs.declared.types.Basic.{Basic}
use Rattle.go_types.specs.declared.types.Basic.TheVariants as basics
use Rattle.go_types.specs.declared.types.Untyped.TheVariants as kinds
use Rattle.go_types.specs.Types.{Type', basic, array, slice, struct, named, Fields, no_fields, field}
use Rattle.go_code.specs.declared.cell.Cell.{Cell}
use Rattle.go_code.specs.declared.cell.Cell.TheVariants.{Int, Bool as Truth, Text, Slice}
use Rattle.go_code.specs.declared.ending.PanicKind.TheVariants.{Index}
use Rattle.go_code.specs.Operators.{Operated, Gives, Panics, Senseless}

mutual
  -- a value of a basic type is one cell, and so is a slice: the number of the array that it is a part of, where it starts there, its length and its capacity; an array has its elements, a struct its fields
  pub data Value : Type 0 where
    single : Cell → Value
    parts : Values → Value

  pub data Values : Type 0 where
    no_values : Values
    some_values : Value → Values → Values

abbrev pub pack_values : List Value → Values
pack_values [] = no_values
pack_values (v ∷ vs) = some_values v (pack_values vs)

abbrev pub unpack : Values → List Value
unpack no_values = []
unpack (some_values v vs) = v ∷ unpack vs

-- the cells of a value, in order
abbrev mutual
  pub flat : Value → List Cell
  flat (single c) = c ∷ []
  flat (parts vs) = flat_all vs

  pub flat_all : Values → List Cell
  flat_all no_values = []
  flat_all (some_values v vs) = flat v ++ flat_all vs

-- ---- types

-- a cell is a value of a basic type
abbrev pub is_basic : Basic → Cell → Bool
is_basic basics.Bool (Truth b) = true
is_basic (basics.Untyped kinds.Bool) (Truth b) = true
is_basic basics.String (Text t) = true
is_basic (basics.Integer i) (Int z) = fits (Some i) z
is_basic b c = false

-- https://go.dev/ref/spec#Types
-- a value is one of a type
abbrev mutual
  pub is_of : Type' → Value → Bool
  is_of (basic b) (single c) = is_basic b c
  is_of (array n t) (parts vs) = nat_eq (length (unpack vs)) n && list_all (is_of t) (unpack vs)
  -- https://go.dev/ref/spec#Slice_types
  is_of (slice t) (single (Slice row start length capacity)) = true
  is_of (struct fs) (parts vs) = are_of_fields fs (unpack vs)
  is_of (named path name t) v = is_of t v
  is_of t v = false

  pub are_of_fields : Fields → List Value → Bool
  are_of_fields no_fields [] = true
  are_of_fields (field p x t fs) (v ∷ vs) = is_of t v && are_of_fields fs vs
  are_of_fields fs vs = false

-- values are of some types, in their order
abbrev pub are_of : List Type' → List Value → Bool
are_of [] [] = true
are_of (t ∷ ts) (v ∷ vs) = is_of t v && are_of ts vs
are_of ts vs = false

-- https://go.dev/ref/spec#The_zero_value
abbrev pub zero_cell : Basic → Cell
zero_cell basics.Bool = Truth false
zero_cell basics.String = Text []
zero_cell (basics.Integer i) = Int (pos 0)
zero_cell (basics.Untyped kinds.Bool) = Truth false
zero_cell (basics.Untyped kinds.String) = Text []
zero_cell (basics.Untyped kind) = Int (pos 0)

abbrev mutual
  pub zero_of : Type' → Value
  zero_of (basic b) = single (zero_cell b)
  zero_of (array n t) = parts (pack_values (replicate n (zero_of t)))
  zero_of (slice t) = single (Slice 0 0 0 0)
  zero_of (struct fs) = parts (zeros_of fs)
  zero_of (named path name t) = zero_of t

  pub zeros_of : Fields → Values
  zeros_of no_fields = no_values
  zeros_of (field p x t fs) = some_values (zero_of t) (zeros_of fs)

-- ---- parts

-- a step to a field by its number, or to an element by its index
pub data Step : Type 0 where
  to_field : ℕ → Step
  to_element : ℤ → Step

abbrev pub or_else : {A : Type 0} → Operated A → Option A → Operated A
or_else other None = other
or_else other (Some a) = Gives a

abbrev pub if_gives : {A B : Type 0} → Operated A → (A → Operated B) → Operated B
if_gives (Gives a) next = next a
if_gives (Panics kind) next = Panics kind
if_gives Senseless next = Senseless

abbrev pub nth : Values → ℕ → Option Value
nth no_values n = None
nth (some_values v vs) zero = Some v
nth (some_values v vs) (suc n) = nth vs n

abbrev pub with_nth : Values → ℕ → Value → Values
with_nth no_values n x = no_values
with_nth (some_values v vs) zero x = some_values x vs
with_nth (some_values v vs) (suc n) x = some_values v (with_nth vs n x)

-- https://go.dev/ref/spec#Index_expressions
-- the part that a step leads to; an index out of range panics
abbrev pub part_in : Values → Step → Operated Value
part_in vs (to_field n) = or_else Senseless (nth vs n)
part_in vs (to_element (pos n)) = or_else (Panics Index) (nth vs n)
part_in vs (to_element (negsuc n)) = Panics Index

abbrev pub part_of : Value → Step → Operated Value
part_of (single c) s = Senseless
part_of (parts vs) s = part_in vs s

abbrev pub step_number : Step → ℕ
step_number (to_field n) = n
step_number (to_element (pos n)) = n
step_number (to_element (negsuc n)) = 0

abbrev pub with_part : Value → Step → Value → Value
with_part (single c) s x = single c
with_part (parts vs) s x = parts (with_nth vs (step_number s) x)

-- the part that steps lead to
abbrev pub read : List Step → Value → Operated Value
read [] v = Gives v
read (s ∷ ss) v = if_gives (part_of v s) (read ss)

-- the value with another part there; bounds are tested outermost first
abbrev pub updated : List Step → Value → Value → Operated Value
updated [] v x = Gives x
updated (s ∷ ss) v x = if_gives (part_of v s) (λ inner. if_gives (updated ss inner x) (λ y. Gives (with_part v s y)))
