-- A package has one fault, or has none: its faults are the same by any facts that hold of it.
use Rattle.std.proofs.Common.{◌≡◌, ℕ, suc, IsTrue, Bool, true, false, not, List, [], ◌∷◌, ◌++◌, Option, Some, None, map, refl, sym, ap, ◌∙◌}
use Rattle.std.specs.Prelude.{if◌then◌else◌, bytes_eq, codes}
use Rattle.std.specs.List.{slice_get, flat_map}
use Rattle.ws_reach.specs.Worklist.{is_marked}
use Rattle.go_text.specs.declared.place.Place.{Place}
use Rattle.go_text.specs.declared.fault.FaultKind.{FaultKind}
use Rattle.go_text.specs.declared.fault.FaultKind.TheVariants.{Redeclared, Recursive}
use Rattle.go_ast.specs.Trees.{Name, ConstSpec, VarSpec, TypeSpec, constants, variables, types, FunctionDecl, TopLevel, declared, function, File}
use Rattle.go_expr.specs.Known.{Names}
use Rattle.go_expr.specs.Verdicts.{broken, operand_list, type_faults}
use Rattle.go_scope.specs.Specifications.{meant, is_repeated}
use Rattle.go_objects.specs.Objects.{type_object, objects_from}
use Rattle.go_objects.specs.Table.{PackageTable, number_of, scope_at, object_verdict}
use Rattle.go_objects.proofs.Filling.{one_table}
use Rattle.go_stmt.specs.Statements.{values_known}
use Rattle.go_stmt.specs.Functions.{function_at}
use Rattle.go_package.specs.Faults.{Facts, Faults, is_declared_by, name_faults, written_type, parts_faults, constants_by, group_faults, type_spec_faults, var_parts_faults, variables_by, var_spec_faults, context_at, top_faults}
use Rattle.go_package.specs.Faults as decl
use Rattle.go_package.specs.Imports.{Importable, imports_in}
use Rattle.go_package.specs.Packages.{import_faults, imports_faults, file_faults, each_file, numbered_faults, objects_faults, main_faults, package_faults, IsFaultIn}

pub two : {A : Type 0} (a b c d : List A) → a ≡ b → c ≡ d → a ++ c ≡ b ++ d
two a b c d e f = ap (λ x. x ++ c) e ∙ ap (λ x. b ++ x) f

pub flat_same : {A B : Type 0} (f g : A → List B) → ((x : A) → f x ≡ g x) → (xs : List A) → flat_map f xs ≡ flat_map g xs
flat_same f g h [] = refl
flat_same f g h (x ∷ xs) = two (f x) (g x) (flat_map f xs) (flat_map g xs) (h x) (flat_same f g h xs)

-- marks that say the same of each number
abbrev Alike : List Bool → List Bool → Type 0
Alike r q = (k : ℕ) → is_marked r k ≡ is_marked q k

abbrev pub by : PackageTable → Names → List Bool → Facts
by p n r = record { «package» = p; known = n; recursive = r }

abbrev told : PackageTable → ℕ → Name → (ℕ → Bool) → Option ℕ → Faults
told p file m marked o = elim o [
  | None ↦ []
  | Some k ↦ if not (is_declared_by file m (slice_get p.objects k)) then (m.place, Redeclared) ∷ [] else (if marked k then (m.place, Recursive) ∷ [] else [])
]

same_told : (p : PackageTable) (r q : List Bool) → Alike r q → (file : ℕ) (m : Name) (o : Option ℕ) → told p file m (is_marked r) o ≡ told p file m (is_marked q) o
same_told p r q h file m None = refl
same_told p r q h file m (Some k) =
    ap (λ b. if not (is_declared_by file m (slice_get p.objects k)) then (m.place, Redeclared) ∷ [] else (if b then (m.place, Recursive) ∷ [] else [])) (h k)

same_name : (p : PackageTable) (n : Names) (r q : List Bool) → Alike r q → (file : ℕ) (m : Name) → name_faults (by p n r) file m ≡ name_faults (by p n q) file m
same_name p n r q h file m = same_told p r q h file m (number_of p.objects m.text)

same_names : (p : PackageTable) (n : Names) (r q : List Bool) → Alike r q → (file : ℕ) (ms : List Name)
    → flat_map (name_faults (by p n r) file) ms ≡ flat_map (name_faults (by p n q) file) ms
same_names p n r q h file ms = flat_same (name_faults (by p n r) file) (name_faults (by p n q) file) (same_name p n r q h file) ms

-- faults that are told of a specification that has a name
abbrev of_named : (Name → Faults) → Faults → List Name → Faults
of_named rest own ns = elim ns [ [] ↦ [] | first ∷ others ↦ own ++ rest first ]

by_first : (ns : List Name) (rest : Name → Faults) (a b : Faults) → a ≡ b → of_named rest a ns ≡ of_named rest b ns
by_first [] rest a b e = refl
by_first (n ∷ ns) rest a b e = ap (λ x. x ++ rest n) e

same_constants : (p : PackageTable) (n : Names) (r q : List Bool) → Alike r q → (file iota : ℕ) (repeated : Bool) (spec : ConstSpec)
    → decl.constant_spec_faults (by p n r) file iota repeated spec ≡ decl.constant_spec_faults (by p n q) file iota repeated spec
same_constants p n r q h file iota repeated spec =
    let s = scope_at p n file (Some iota) in
    by_first spec.names
    (λ first. parts_faults (by p n q) file repeated first.place s spec ++ constants_by (by p n q) file iota first.place spec (written_type s spec.type) (operand_list s spec.values))
    (flat_map (name_faults (by p n r) file) spec.names) (flat_map (name_faults (by p n q) file) spec.names) (same_names p n r q h file spec.names)

same_group : (p : PackageTable) (n : Names) (r q : List Bool) → Alike r q → (file iota : ℕ) (before : ConstSpec) (ss : List ConstSpec)
    → group_faults (by p n r) file iota before ss ≡ group_faults (by p n q) file iota before ss
same_group p n r q h file iota before [] = refl
same_group p n r q h file iota before (s ∷ ss) =
    two (decl.constant_spec_faults (by p n r) file iota (is_repeated s) (meant before s)) (decl.constant_spec_faults (by p n q) file iota (is_repeated s) (meant before s))
    (group_faults (by p n r) file (suc iota) (meant before s) ss) (group_faults (by p n q) file (suc iota) (meant before s) ss)
    (same_constants p n r q h file iota (is_repeated s) (meant before s)) (same_group p n r q h file (suc iota) (meant before s) ss)

same_type : (p : PackageTable) (n : Names) (r q : List Bool) → Alike r q → (file : ℕ) (s : TypeSpec) → type_spec_faults (by p n r) file s ≡ type_spec_faults (by p n q) file s
same_type p n r q h file s =
    ap (λ x. x ++ (type_faults (scope_at p n file None) s.type ++ broken s.name.place (object_verdict p n (type_object file s)))) (same_name p n r q h file s.name)

same_variables : (p : PackageTable) (n : Names) (r q : List Bool) → Alike r q → (file : ℕ) (spec : VarSpec) → var_spec_faults (by p n r) file spec ≡ var_spec_faults (by p n q) file spec
same_variables p n r q h file spec =
    let s = scope_at p n file None in
    by_first spec.names (λ first. var_parts_faults s spec ++ variables_by (by p n q) file first.place spec (written_type s spec.type) (values_known s spec.values))
    (flat_map (name_faults (by p n r) file) spec.names) (flat_map (name_faults (by p n q) file) spec.names) (same_names p n r q h file spec.names)

same_function : (p : PackageTable) (n : Names) (r q : List Bool) → Alike r q → (file : ℕ) (f : FunctionDecl) → decl.function_faults (by p n r) file f ≡ decl.function_faults (by p n q) file f
same_function p n r q h file f =
    ap (λ x. (if bytes_eq f.name.text (codes "init") then [] else x) ++ (function_at (context_at (by p n r) file) f).faults) (same_name p n r q h file f.name)

same_top : (p : PackageTable) (n : Names) (r q : List Bool) → Alike r q → (file : ℕ) (top : TopLevel) → top_faults (by p n r) file top ≡ top_faults (by p n q) file top
same_top p n r q h file (declared (constants at ss)) = same_group p n r q h file 0 _ ss
same_top p n r q h file (declared (types at ss)) = flat_same (type_spec_faults (by p n r) file) (type_spec_faults (by p n q) file) (same_type p n r q h file) ss
same_top p n r q h file (declared (variables at ss)) = flat_same (var_spec_faults (by p n r) file) (var_spec_faults (by p n q) file) (same_variables p n r q h file) ss
same_top p n r q h file (function f) = same_function p n r q h file f

same_imports : (p : PackageTable) (n : Names) (r q : List Bool) (file : File) (before : List (List ℕ)) (is : List (Place × (List ℕ × Names)))
    → imports_faults (by p n r) file before is ≡ imports_faults (by p n q) file before is
same_imports p n r q file before [] = refl
same_imports p n r q file before (i ∷ is) = ap (λ x. import_faults (by p n r) file before i.0 (i.1).0 ++ x) (same_imports p n r q file (before ++ (i.1).0 ∷ []) is)

same_file : (ps : List Importable) (p : PackageTable) (n : Names) (r q : List Bool) → Alike r q → (number : ℕ) (file : File) → file_faults ps (by p n r) number file ≡ file_faults ps (by p n q) number file
same_file ps p n r q h number file =
    two (imports_faults (by p n r) file [] (imports_in ps file.imports)) (imports_faults (by p n q) file [] (imports_in ps file.imports))
    (flat_map (top_faults (by p n r) number) file.declarations) (flat_map (top_faults (by p n q) number) file.declarations)
    (same_imports p n r q file [] (imports_in ps file.imports))
    (flat_same (top_faults (by p n r) number) (top_faults (by p n q) number) (same_top p n r q h number) file.declarations)

each_same : (f g : ℕ → File → Faults) → ((k : ℕ) (x : File) → f k x ≡ g k x) → (k : ℕ) (xs : List File) → each_file f k xs ≡ each_file g k xs
each_same f g h k [] = refl
each_same f g h k (x ∷ xs) =
    two (map (λ y. (k, y)) (f k x)) (map (λ y. (k, y)) (g k x)) (each_file f (suc k) xs) (each_file g (suc k) xs) (ap (map (λ y. (k, y))) (h k x)) (each_same f g h (suc k) xs)

same_main : (p : PackageTable) (n : Names) (r q : List Bool) (files : List File) → main_faults (by p n r) files ≡ main_faults (by p n q) files
same_main p n r q [] = refl
same_main p n r q (f ∷ fs) = refl

same_package : (ps : List Importable) (p : PackageTable) (n : Names) (r q : List Bool) → Alike r q → (files : List File) → package_faults ps (by p n r) files ≡ package_faults ps (by p n q) files
same_package ps p n r q h files =
    two (each_file (file_faults ps (by p n r)) 0 files) (each_file (file_faults ps (by p n q)) 0 files)
    (objects_faults (by p n r) files ++ main_faults (by p n r) files) (objects_faults (by p n q) files ++ main_faults (by p n q) files)
    (each_same (file_faults ps (by p n r)) (file_faults ps (by p n q)) (same_file ps p n r q h) 0 files)
    (two (objects_faults (by p n r) files) (objects_faults (by p n q) files) (main_faults (by p n r) files) (main_faults (by p n q) files)
    (flat_same (numbered_faults (by p n r)) (numbered_faults (by p n q)) (λ o. refl) (objects_from 0 files)) (same_main p n r q files))

one_truth : (a b : Bool) → (IsTrue a → IsTrue b) → (IsTrue b → IsTrue a) → a ≡ b
one_truth true true f g = refl
one_truth false false f g = refl
one_truth true false f g = sym (f refl)
one_truth false true f g = g refl

pub one_fault : (p : PackageTable) (files : List File) (ps : List Importable) (a b : Option (ℕ × (Place × FaultKind))) → IsFaultIn p files ps a → IsFaultIn p files ps b → a ≡ b
one_fault p files ps a b x y =
    let t = x.facts in
    let u = y.facts in
    let alike : Alike t.recursive u.recursive =
    λ k. one_truth (is_marked t.recursive k) (is_marked u.recursive k) (λ m. (y.are.recursive k).1 ((x.are.recursive k).0 m)) (λ m. (x.are.recursive k).1 ((y.are.recursive k).0 m)) in
    let known : t.known ≡ u.known = one_table p t.known u.known x.are.known y.are.known in
    sym x.first
    ∙ ap (λ z. slice_get (package_faults ps (by z t.known t.recursive) files) 0) x.are.package_is
    ∙ ap (λ z. slice_get (package_faults ps (by p z t.recursive) files) 0) known
    ∙ ap (λ z. slice_get z 0) (same_package ps p u.known t.recursive u.recursive alike files)
    ∙ ap (λ z. slice_get (package_faults ps (by z u.known u.recursive) files) 0) (sym y.are.package_is)
    ∙ y.first
