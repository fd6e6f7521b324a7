-- What a package declares: https://go.dev/ref/spec#Declarations_and_scope
use Rattle.std.specs.Prelude.{ℕ, suc, ◌||◌, if◌then◌else◌, List, [], ◌∷◌, ◌++◌, length, map, codes, Option, Some, None, option_map, unwrap_or}
use Rattle.std.specs.List.{slice_get, flat_map, list_any}
use Rattle.std.specs.Str.{bytes_eq}
use Rattle.go_text.specs.declared.place.Place.{Place}
use Rattle.go_ast.specs.Trees.{Name, TypeExpr, Expression, ExpressionList, no_exprs, some_exprs, ConstSpec, VarSpec, TypeSpec, constants, variables, types, Parameter, TopLevel, declared, function, File}
use Rattle.go_scope.specs.Specifications.{meant}

-- A constant has the type that is written, if one is, its own value, and the value of iota. A variable has the type that is written;
-- where none is, it has that of its own value, or it takes its place among as many results of a call. A function has a signature.
-- Of constants and variables that have no values of their own no more is known than what they stand on.
pub data Form : Type 0 where
  constant : Option TypeExpr → Expression → ℕ → Form
  type' : TypeExpr → Form
  typed_variable : TypeExpr → Form
  valued_variable : Expression → Form
  result_variable : ℕ → ℕ → Expression → Form
  function' : List Parameter → List TypeExpr → Form
  other : Option TypeExpr → ExpressionList → Form

-- what is declared: the number of its file, where its specification begins, its name and its form
pub record DeclaredObject : Type 0 where
  pub file : ℕ
  pub begins : Place
  pub name : Name
  pub form : Form

-- names, each with its own of some values, where there are as many of both
abbrev pub paired : {A : Type 0} → (Name → Expression → A) → List Name → ExpressionList → Option (List A)
paired f [] no_exprs = Some []
paired f (n ∷ ns) (some_exprs e es) = option_map (λ xs. f n e ∷ xs) (paired f ns es)
paired f _ _ = None

-- the specification of some names, and of this one, begins at the first of them
abbrev pub begin_of : List Name → Name → Place
begin_of ns n = (unwrap_or (slice_get ns 0) n).place

-- one of some names, with all that stands in their specification
abbrev pub other_object : ℕ → List Name → Option TypeExpr → ExpressionList → Name → DeclaredObject
other_object file all t values n = record { file = file; begins = begin_of all n; name = n; form = other t values }

abbrev pub unpaired : ℕ → Option TypeExpr → ExpressionList → List Name → List DeclaredObject
unpaired file t values ns = map (other_object file ns t values) ns

abbrev pub constants_of : ℕ → ℕ → ConstSpec → List DeclaredObject
constants_of file iota s =
    unwrap_or (paired (λ n e. record { file = file; begins = begin_of s.names n; name = n; form = constant s.type e iota }) s.names s.values) (unpaired file s.type s.values s.names)

-- iota counts the specifications of a group from 0 on
abbrev pub in_group : ℕ → ℕ → ConstSpec → List ConstSpec → List DeclaredObject
in_group file iota before [] = []
in_group file iota before (s ∷ ss) = constants_of file iota (meant before s) ++ in_group file (suc iota) (meant before s) ss

-- https://go.dev/ref/spec#Variable_declarations
-- one of some names
abbrev pub typed_object : ℕ → List Name → TypeExpr → Name → DeclaredObject
typed_object file all t n = record { file = file; begins = begin_of all n; name = n; form = typed_variable t }

abbrev pub valued_object : ℕ → List Name → Name → Expression → DeclaredObject
valued_object file all n e = record { file = file; begins = begin_of all n; name = n; form = valued_variable e }

-- each with its number among all, and the call that gives them values
abbrev pub result_objects : ℕ → List Name → ℕ → Expression → List Name → List DeclaredObject
result_objects file all number e [] = []
result_objects file all number e (n ∷ ns) =
    record { file = file; begins = begin_of all n; name = n; form = result_variable number (length all) e } ∷ result_objects file all (suc number) e ns

-- where there aren't as many values as names, one may be a call
abbrev pub uncounted : ℕ → List Name → ExpressionList → List DeclaredObject
uncounted file ns (some_exprs e no_exprs) = result_objects file ns 0 e ns
uncounted file ns es = unpaired file None es ns

abbrev pub variables_of : ℕ → VarSpec → List DeclaredObject
variables_of file s = elim s.type [
  | Some t ↦ map (typed_object file s.names t) s.names
  | None ↦ unwrap_or (paired (valued_object file s.names) s.names s.values) (uncounted file s.names s.values)
]

-- https://go.dev/ref/spec#Type_declarations
abbrev pub type_object : ℕ → TypeSpec → DeclaredObject
type_object file s = record { file = file; begins = s.name.place; name = s.name; form = type' s.type }

abbrev pub objects_in : ℕ → TopLevel → List DeclaredObject
objects_in file (declared (constants p ss)) = in_group file 0 (record { names = []; type = None; values = no_exprs }) ss
objects_in file (declared (variables p ss)) = flat_map (variables_of file) ss
objects_in file (declared (types p ss)) = map (type_object file) ss
-- https://go.dev/ref/spec#Function_declarations
-- init declares no name
objects_in file (function f) =
    if bytes_eq f.name.text (codes "init") then []
    else record { file = file; begins = f.name.place; name = f.name; form = function' f.parameters f.results } ∷ []

abbrev pub objects_from : ℕ → List File → List DeclaredObject
objects_from file [] = []
objects_from file (f ∷ fs) = flat_map (objects_in file) f.declarations ++ objects_from (suc file) fs

-- those that names find: the blank name declares nothing, and of several of one name it is the first
abbrev pub firsts : List (List ℕ) → List DeclaredObject → List DeclaredObject
firsts names [] = []
firsts names (o ∷ os) =
    if bytes_eq o.name.text (codes "_") || list_any (bytes_eq o.name.text) names then firsts names os
    else o ∷ firsts (names ++ o.name.text ∷ []) os

-- what the files of a package declare
abbrev pub objects_of : List File → List DeclaredObject
objects_of files = firsts [] (objects_from 0 files)
