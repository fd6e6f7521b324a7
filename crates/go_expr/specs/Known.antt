-- What is known of expressions, and of names where they stand.
use Rattle.std.specs.Prelude.{ℕ, Bool, true, false, List, [], ◌∷◌, ◌++◌, map, if◌then◌else◌, Option, Some, None, Result, unwrap_or, bytes_eq, codes}
use Rattle.std.specs.Map.{lookup}
use Rattle.go_text.specs.declared.edition.Edition.{Edition}
use Rattle.go_text.specs.Editions.{has_slices}
use Rattle.go_text.specs.declared.fault.FaultKind.{FaultKind}
use Rattle.go_text.specs.declared.fault.FaultKind.TheVariants.{Undeclared, LeftOut}
use Rattle.go_const.specs.declared.constant.Const.TheVariants.{Bool as Truth}
use Rattle.go_const.specs.declared.kind.IntKind.TheVariants as integers
use Rattle.go_types.specs.declared.types.Basic.{Basic}
use Rattle.go_types.specs.declared.types.Basic.TheVariants as basics
use Rattle.go_types.specs.declared.types.Untyped.TheVariants as kinds
use Rattle.go_types.specs.Texts.{basic_text}
use Rattle.go_types.specs.Types.{Type', basic}
use Rattle.go_typed.specs.Trees.{Symbol, Expr, Exprs, constant}

-- what a name declares, or an expression is: a value, as its typed expression; a type; a function, by its symbol and the types of its parameters and of
-- its results; or the functions Println of the library, len, cap, make, append and panic
pub data Declared : Type 0 where
  value : Expr → Declared
  type' : Type' → Declared
  function : Symbol → List Type' → List Type' → Declared
  println : Declared
  length' : Declared
  capacity' : Declared
  make' : Declared
  append' : Declared
  panic' : Declared

-- names of a package, each with what it declares where that is known
abbrev pub Names : Type 0
Names = List (List ℕ × Option Declared)

pub data Known : Type 0 where
  declared : Declared → Known
  -- an imported package, by the names that it exports
  package' : Names → Known
  -- a call of a function that has no result or several, of these types; a call of Println with operands, or with what is wrong with them, which is asked of a
  -- statement alone; a call of panic
  results : List Type' → Symbol → Exprs → Known
  printed : Result Exprs FaultKind → Known
  panicked : Expr → Known

-- Of a node: it is fine, and this is known of it; it breaks a rule; or it is passed over, since a part of it isn't fine or no rule is known of its form.
pub data Verdict (A : Type 0) : Type 0 where
  Fine : A → Verdict A
  Breaks : FaultKind → Verdict A
  Passed : Verdict A

-- where an expression stands: the path of its package, and what each name finds there, of several the first
pub record Scope : Type 0 where
  pub path : List ℕ
  pub names : List (List ℕ × Verdict Known)

-- https://go.dev/ref/spec#Declarations_and_scope
abbrev pub look_up_known : List ℕ → List (List ℕ × Verdict Known) → Verdict Known
look_up_known x names = unwrap_or (lookup (bytes_eq x) names) (Breaks Undeclared)

-- what a name of a package finds
abbrev pub named : Option Declared → Verdict Known
named o = elim o [ None ↦ Passed | Some d ↦ Fine (declared d) ]

-- what fmt exports
abbrev pub library : Names
library = (codes "Println", Some println) ∷ []

-- https://go.dev/ref/spec#Predeclared_identifiers
abbrev pub basic_types : List (List ℕ × Basic)
basic_types =
    map (λ b. (basic_text b, b)) (basics.Bool ∷ basics.String ∷ map basics.Integer (integers.Int ∷ integers.Int8 ∷ integers.Int16 ∷ integers.Int32 ∷ integers.Int64
    ∷ integers.Uint ∷ integers.Uint8 ∷ integers.Uint16 ∷ integers.Uint32 ∷ integers.Uint64 ∷ []))
    ++ (codes "byte", basics.Integer integers.Uint8) ∷ (codes "rune", basics.Integer integers.Int32) ∷ []

abbrev pub left_out : List (List ℕ)
left_out =
    codes "any" ∷ codes "clear" ∷ codes "close" ∷ codes "comparable" ∷ codes "complex" ∷ codes "complex64" ∷ codes "complex128"
    ∷ codes "copy" ∷ codes "delete" ∷ codes "error" ∷ codes "float32" ∷ codes "float64" ∷ codes "imag" ∷ codes "max" ∷ codes "min" ∷ codes "new"
    ∷ codes "nil" ∷ codes "print" ∷ codes "println" ∷ codes "real" ∷ codes "recover" ∷ codes "uintptr" ∷ []

-- with slices come functions on them
abbrev pub slice_functions : Edition → List (List ℕ × Verdict Known)
slice_functions e =
    let found : Declared → Verdict Known = λ d. if has_slices e then Fine (declared d) else Breaks LeftOut in
    (codes "append", found append') ∷ (codes "cap", found capacity') ∷ (codes "make", found make') ∷ []

abbrev pub truth : Bool → Verdict Known
truth b = Fine (declared (value (constant (basic (basics.Untyped kinds.Bool)) (Truth b))))

abbrev pub others : List (List ℕ × Verdict Known)
others = (codes "true", truth true) ∷ (codes "false", truth false) ∷ (codes "len", Fine (declared length')) ∷ (codes "panic", Fine (declared panic')) ∷ []

unfoldable pub universe : Edition → List (List ℕ × Verdict Known)
universe e = map (λ t. (t.0, Fine (declared (type' (basic t.1))))) basic_types ++ map (λ x. (x, Breaks LeftOut)) left_out ++ slice_functions e ++ others
