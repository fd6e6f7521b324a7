-- What the checker may know of names and expressions, so that the trees that it makes of them are well typed.
use Rattle.std.specs.Prelude.{◌≡◌, ℕ, nat_le, bytes_eq, Bool, true, false, List, [], ◌∷◌, Option, Some, None, ◌⊎◌}
use Rattle.std.specs.Map.{lookup}
use Rattle.go_scan.specs.Words.{IsWord}
use Rattle.go_const.specs.declared.constant.Const.{Const}
use Rattle.go_const.specs.declared.constant.Const.TheVariants.{Integer, Text, Bool as Truth}
use Rattle.go_types.specs.declared.types.Basic.TheVariants as basics
use Rattle.go_types.specs.declared.types.Untyped.{Untyped}
use Rattle.go_types.specs.declared.types.Untyped.TheVariants as kinds
use Rattle.go_types.specs.Types.{Type', basic, array, slice, struct, named, Fields, no_fields, field}
use Rattle.go_types.specs.Sizes.{cells}
use Rattle.go_typed.specs.Trees.{Expr, constant, index, unary, binary, both, either, expr_type}
use Rattle.go_typed.specs.Trees as trees
use Rattle.go_meaning.specs.Meaning.{most_cells}
use Rattle.go_meaning_laws.specs.WellTyped.{Setting, is_typed, is_text, IsCall, IsExpr}
use Rattle.go_expr.specs.Known.{Declared, value, type', function, Names}

-- what each declared type is declared as, by its package's path and its name, and which paths are plain
pub record Table : Type 0 where
  pub types : List ℕ → List ℕ → Option Type'
  pub plain : List ℕ → Bool

-- a name of the package of that path: the path is plain, and the name a word
abbrev pub IsNamed : Table → List ℕ → List ℕ → Type 0
IsNamed w path name = (w.plain path ≡ true) × IsWord name

-- the name of a field, which is of a package where it isn't exported
abbrev pub IsNamedField : Table → Option (List ℕ) → List ℕ → Type 0
IsNamedField w None name = IsWord name
IsNamedField w (Some path) name = IsNamed w path name

-- ---- types: typed in all their parts, no larger than types may be, each declared type as it is declared, and named by words

abbrev mutual
  pub IsSoundType : Table → Type' → Type 0
  IsSoundType w (basic b) = is_typed b ≡ true
  IsSoundType w (array n t) = (nat_le n 65536 ≡ true) × (nat_le (cells (array n t)) most_cells ≡ true) × IsSoundType w t
  IsSoundType w (slice t) = IsSoundType w t
  IsSoundType w (struct fs) = (nat_le (cells (struct fs)) most_cells ≡ true) × AreSoundFields w fs
  IsSoundType w (named path name t) = (w.types path name ≡ Some t) × IsSoundType w t × IsNamed w path name

  pub AreSoundFields : Table → Fields → Type 0
  AreSoundFields w no_fields = Unit {0}
  AreSoundFields w (field path name t fs) = IsSoundType w t × AreSoundFields w fs × IsNamedField w path name

abbrev pub AreSoundTypes : Table → List Type' → Type 0
AreSoundTypes w [] = Unit {0}
AreSoundTypes w (t ∷ ts) = IsSoundType w t × AreSoundTypes w ts

-- ---- values

-- https://go.dev/ref/spec#Constants
-- a constant without a type is one of its kind
abbrev pub is_of_kind : Untyped → Const → Bool
is_of_kind kinds.Bool (Truth b) = true
is_of_kind kinds.Int (Integer z) = true
is_of_kind kinds.Rune (Integer z) = true
is_of_kind kinds.String (Text text) = is_text text
is_of_kind kind c = false

abbrev pub IsUntypedConstant : Expr → Type 0
IsUntypedConstant e = (kind : Untyped) × (c : Const) × (e ≡ constant (basic (basics.Untyped kind)) c) × (is_of_kind kind c ≡ true)

-- what is indexed on the way to a part has a sound type; an operation goes on with its left operand, which may be assigned to
abbrev pub HasSoundWay : Table → Expr → Type 0
HasSoundWay w (trees.field t e n) = HasSoundWay w e
HasSoundWay w (index t e i) = IsSoundType w (expr_type e) × HasSoundWay w e
HasSoundWay w (binary t op a b) = HasSoundWay w a
HasSoundWay w e = Unit {0}

-- well typed, and of a sound type
abbrev pub IsTypedValue : Table → Setting → List ℕ → Expr → Type 0
IsTypedValue w g d e = IsExpr g d e × IsSoundType w (expr_type e) × HasSoundWay w e

-- what an operator gives
abbrev pub is_operation : Expr → Bool
is_operation e = elim e [ unary t op a ↦ true | binary t op a b ↦ true | both t a b ↦ true | either t a b ↦ true | _ ↦ false ]

-- the truth value of a comparison, which has no type yet
abbrev pub IsComparison : Table → Setting → List ℕ → Expr → Type 0
IsComparison w g d e = IsExpr g d e × (expr_type e ≡ basic (basics.Untyped kinds.Bool)) × (is_operation e ≡ true) × HasSoundWay w e

abbrev pub IsSoundValue : Table → Setting → List ℕ → Expr → Type 0
IsSoundValue w g d e = IsUntypedConstant e ⊎ IsTypedValue w g d e ⊎ IsComparison w g d e

-- ---- names

abbrev pub IsSoundDeclared : Table → Setting → List ℕ → Declared → Type 0
IsSoundDeclared w g d (value e) = IsSoundValue w g d e
IsSoundDeclared w g d (type' t) = IsSoundType w t
IsSoundDeclared w g d (function s ts rs) = IsCall g s ts rs × AreSoundTypes w ts × AreSoundTypes w rs
IsSoundDeclared w g d k = Unit {0}

abbrev pub AreSoundNames : Table → Setting → List ℕ → Names → Type 0
AreSoundNames w g d names = (x : List ℕ) (k : Declared) → lookup (bytes_eq x) names ≡ Some (Some k) → IsSoundDeclared w g d k
