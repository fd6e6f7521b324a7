-- Each object of a package without fault is known.
use Rattle.std.proofs.Common.{◌≡◌, ℕ, zero, suc, ◌<◌, Bool, ◌||◌, List, [], ◌∷◌, ◌++◌, Option, Some, None, map, length, codes, refl, sym, ap, ◌∙◌, subst, inl, inr, arith}
use Rattle.std.specs.Prelude.{bytes_eq, unwrap_or}
use Rattle.std.specs.List.{slice_get, flat_map, list_any, cons_option, Contains}
use Rattle.std.proofs.lemmas.Bool.{cases_Bool}
use Rattle.go_text.specs.declared.edition.Edition.{Edition}
use Rattle.go_text.specs.declared.place.Place.{Place}
use Rattle.go_ast.specs.Trees.{Name, TypeExpr, ExpressionList, no_exprs, some_exprs, ConstSpec, VarSpec, TypeSpec, ImportSpec, constants, variables, types, TopLevel, declared, function, File}
use Rattle.go_scope.specs.Order.{GroundedIn, Grounded}
use Rattle.go_typed.specs.Trees as typed
use Rattle.go_expr.specs.Known.{Declared, value, type', function as known_function, Names, package', Fine}
use Rattle.go_expr.specs.Rules.{fine}
use Rattle.go_expr.specs.Verdicts.{asked_both, broken, operand_list, type_faults}
use Rattle.go_stmt.specs.Rules.{constants_verdict as constants_rule, variables_source}
use Rattle.go_stmt.specs.Statements.{values_known, values_faults, written_faults}
use Rattle.go_stmt.specs.Functions.{function_at}
use Rattle.go_scope.specs.Specifications.{meant, is_repeated}
use Rattle.go_objects.specs.Objects.{DeclaredObject, constants_of, in_group, variables_of, type_object, objects_in, objects_from, firsts, objects_of}
use Rattle.go_objects.specs.Objects as forms
use Rattle.go_objects.specs.Table.{PackageTable, imports_at, needs, rows, used_by, object_verdict, declared_in, IsTable}
use Rattle.go_objects.proofs.Lookups.{Named, need_edge, rows_stay, length_rows}
use Rattle.go_package.specs.Faults.{Facts, AreRecursive, context_at, name_faults, object_faults, written_type, parts_faults, constants_by, constant_spec_faults, group_faults, type_spec_faults, var_parts_faults, variables_by, var_spec_faults, own_faults, top_faults, files_faults}
use Rattle.go_package.proofs.Faultless.{faultless_grounded}
use Rattle.go_package.specs.Imports.{Importable, package_at, import_name, named_import, imports_in, imports_of}
use Rattle.go_package.specs.Packages.{numbered_faults, file_faults, each_file, main_faults, package_faults, package_in, AreFacts}
use Rattle.go_package.specs.Packages as packages
use Rattle.go_package.proofs.Whole.{no_faults}
use Rattle.go_package_laws.specs.Finds.{IsKnown, IsDetermined, AllImportsAreKnown, AreKnown}
use Rattle.go_package_laws.proofs.Completeness.Faultless.{two_none}
use Rattle.go_package_laws.proofs.Completeness.Told.{KnownAt, second_of, tells_needs}
use Rattle.go_package_laws.proofs.Completeness.Follows.{IsOf, scope_of, AllFollow, follow_both, follow_at, follow_firsts, type_follows}
use Rattle.go_package_laws.proofs.Completeness.Declared.{constants_follow, variables_follow}
use Rattle.go_package_laws.proofs.Completeness.Signatures.{function_follows}

-- ---- declarations without fault

unmapped : {A B : Type 0} (f : A → B) (xs : List A) → map f xs ≡ [] → xs ≡ []
unmapped f [] h = refl
unmapped f (x ∷ xs) h = absurd cc

nameless : (file iota : ℕ) (of : Option TypeExpr) (es : ExpressionList) → constants_of file iota (record { names = []; type = of; values = es }) ≡ []
nameless file iota of no_exprs = refl
nameless file iota of (some_exprs e es) = refl

constant_spec : (t : Facts) (file iota : ℕ) (repeated : Bool) (ns : List Name) (of : Option TypeExpr) (es : ExpressionList) → constant_spec_faults t file iota repeated (record { names = ns; type = of; values = es }) ≡ []
    → AllFollow t (constants_of file iota (record { names = ns; type = of; values = es }))
constant_spec t file iota repeated [] of es none = subst (AllFollow t) (sym (nameless file iota of es)) tt
constant_spec t file iota repeated (n ∷ ns) of es none =
    let s = scope_of t file (Some iota) in
    let spec : ConstSpec = record { names = n ∷ ns; type = of; values = es } in
    let parts = parts_faults t file repeated n.place s spec in
    let itself = constants_by t file iota n.place spec (written_type s of) (operand_list s es) in
    let own = two_none (flat_map (name_faults t file) (n ∷ ns)) (parts ++ itself) none in
    let rest = two_none parts itself own.1 in
    let whole = two_none (broken n.place (asked_both (constants_rule (n ∷ ns)) (written_type s of) (operand_list s es))) _ rest.1 in
    constants_follow t file iota repeated n.place (n ∷ ns) of es rest.0 whole.0

group_follows : (t : Facts) (file iota : ℕ) (before : ConstSpec) (ss : List ConstSpec) → group_faults t file iota before ss ≡ [] → AllFollow t (in_group file iota before ss)
group_follows t file iota before [] none = tt
group_follows t file iota before (s ∷ ss) none =
    let m = meant before s in
    let ns = two_none (constant_spec_faults t file iota (is_repeated s) m) (group_faults t file (suc iota) m ss) none in
    follow_both t (constants_of file iota m) (in_group file (suc iota) m ss) (constant_spec t file iota (is_repeated s) m.names m.type m.values ns.0) (group_follows t file (suc iota) m ss ns.1)

no_variables : (file : ℕ) (of : Option TypeExpr) (es : ExpressionList) → variables_of file (record { names = []; type = of; values = es }) ≡ []
no_variables file (Some of) es = refl
no_variables file None no_exprs = refl
no_variables file None (some_exprs e no_exprs) = refl
no_variables file None (some_exprs e (some_exprs f es)) = refl

variable_spec : (t : Facts) (file : ℕ) (ns : List Name) (of : Option TypeExpr) (es : ExpressionList) → var_spec_faults t file (record { names = ns; type = of; values = es }) ≡ []
    → AllFollow t (variables_of file (record { names = ns; type = of; values = es }))
variable_spec t file [] of es none = subst (AllFollow t) (sym (no_variables file of es)) tt
variable_spec t file (n ∷ ns) of es none =
    let s = scope_of t file None in
    let spec : VarSpec = record { names = n ∷ ns; type = of; values = es } in
    let itself = variables_by t file n.place spec (written_type s of) (values_known s es) in
    let own = two_none (flat_map (name_faults t file) (n ∷ ns)) (var_parts_faults s spec ++ itself) none in
    let rest = two_none (var_parts_faults s spec) itself own.1 in
    let whole = two_none (broken n.place (asked_both (variables_source (n ∷ ns)) (written_type s of) (values_known s es))) _ rest.1 in
    let parts = two_none (written_faults s of) (values_faults s es) rest.0 in
    variables_follow t file n.place n ns of es parts.0 parts.1 whole.0

variables_follow_all : (t : Facts) (file : ℕ) (ss : List VarSpec) → flat_map (var_spec_faults t file) ss ≡ [] → AllFollow t (flat_map (variables_of file) ss)
variables_follow_all t file [] none = tt
variables_follow_all t file (s ∷ ss) none =
    let ns = two_none (var_spec_faults t file s) (flat_map (var_spec_faults t file) ss) none in
    follow_both t (variables_of file s) (flat_map (variables_of file) ss) (variable_spec t file s.names s.type s.values ns.0) (variables_follow_all t file ss ns.1)

types_follow : (t : Facts) (file : ℕ) (ss : List TypeSpec) → flat_map (type_spec_faults t file) ss ≡ [] → AllFollow t (map (type_object file) ss)
types_follow t file [] none = tt
types_follow t file (s ∷ ss) none =
    let ns = two_none (type_spec_faults t file s) (flat_map (type_spec_faults t file) ss) none in
    let whole = broken s.name.place (object_verdict t.package t.known (type_object file s)) in
    let own = two_none (name_faults t file s.name) (type_faults (scope_of t file None) s.type ++ whole) ns.0 in
    let parts = two_none (type_faults (scope_of t file None) s.type) whole own.1 in
    (type_follows t file s parts.0 parts.1, types_follow t file ss ns.1)

top_follows : (t : Facts) (file : ℕ) (top : TopLevel) → top_faults t file top ≡ [] → AllFollow t (objects_in file top)
top_follows t file (declared (constants p ss)) none = group_follows t file 0 (record { names = []; type = None; values = no_exprs }) ss none
top_follows t file (declared (variables p ss)) none = variables_follow_all t file ss none
top_follows t file (declared (types p ss)) none = types_follow t file ss none
top_follows t file (function f) none = elim (cases_Bool (bytes_eq f.name.text (codes "init"))) [
  | inl init ↦ rw init tt
  | inr named ↦ (
      let ns = two_none (own_faults t file f.name) (function_at (context_at t file) f).faults none in
      rw named (function_follows t file f ns.1, tt))
]

tops_follow : (t : Facts) (file : ℕ) (tops : List TopLevel) → flat_map (top_faults t file) tops ≡ [] → AllFollow t (flat_map (objects_in file) tops)
tops_follow t file [] none = tt
tops_follow t file (top ∷ tops) none =
    let ns = two_none (top_faults t file top) (flat_map (top_faults t file) tops) none in
    follow_both t (objects_in file top) (flat_map (objects_in file) tops) (top_follows t file top ns.0) (tops_follow t file tops ns.1)

front : {A : Type 0} (xs ys : List A) → xs ++ ys ≡ [] → (xs ≡ []) × (ys ≡ [])
front [] ys h = (refl, h)
front (x ∷ xs) ys h = absurd cc

files_follow : (t : Facts) (number : ℕ) (files : List File) → files_faults t number files ≡ [] → AllFollow t (objects_from number files)
files_follow t number [] none = tt
files_follow t number (f ∷ fs) none =
    let own = flat_map (top_faults t number) f.declarations in
    let ns = front (map (λ x. (number, x)) own) (files_faults t (suc number) fs) none in
    follow_both t (flat_map (objects_in number) f.declarations) (objects_from (suc number) fs)
    (tops_follow t number f.declarations (unmapped (λ x. (number, x)) own ns.0)) (files_follow t (suc number) fs ns.1)

-- ---- objects by themselves

first_none : (t : Facts) (x : DeclaredObject) (xs : List DeclaredObject) → object_faults t x ≡ [] → ((k : ℕ) (o : DeclaredObject) → slice_get xs k ≡ Some o → object_faults t o ≡ []) → (k : ℕ) (o : DeclaredObject)
    → slice_get (x ∷ xs) k ≡ Some o → object_faults t o ≡ []
first_none t x xs own others zero o at = (let same : x ≡ o = cc in subst (λ (y : DeclaredObject). object_faults t y ≡ []) same own)
first_none t x xs own others (suc k) o at = others k o at

-- the same of those that names find
firsts_none : (t : Facts) (names : List (List ℕ)) (os : List DeclaredObject) → flat_map (numbered_faults t) os ≡ [] → (k : ℕ) (o : DeclaredObject) → slice_get (firsts names os) k ≡ Some o → object_faults t o ≡ []
firsts_none t names [] none k o at = absurd cc
firsts_none t names (x ∷ xs) none k o at =
    let ns = front (numbered_faults t x) (flat_map (numbered_faults t) xs) none in
    elim (cases_Bool (bytes_eq x.name.text (codes "_") || list_any (bytes_eq x.name.text) names)) [
      | inl out ↦ firsts_none t names xs ns.1 k o (rw out at at)
      | inr new ↦ first_none t x (firsts (names ++ x.name.text ∷ []) xs) (unmapped (λ f. (x.file, f)) (object_faults t x) ns.0) (firsts_none t (names ++ x.name.text ∷ []) xs ns.1) k o (rw new at at)
    ]

-- ---- imports

abbrev exported : List Importable → List (List ℕ × Names)
exported ps = map (λ (p : Importable). (p.path, p.exports)) ps

whole_at : (ps : List Importable) → AllImportsAreKnown (exported ps) → (path : List ℕ) (q : Importable) → package_at ps path ≡ Some q → IsDetermined (Fine (package' q.exports))
whole_at [] whole path q at = absurd cc
whole_at (p ∷ ps) whole path q at = elim (cases_Bool (bytes_eq path p.path)) [
  | inl t ↦ (
      let first : Some p ≡ Some q = rw t at at in
      let same : p ≡ q = cc (first) in
      subst (λ (r : Importable). IsDetermined (Fine (package' r.exports))) same whole.0)
  | inr f ↦ whole_at ps whole.1 path q (rw f at at)
]

abbrev Imported : Type 0
Imported = Place × (List ℕ × Names)

abbrev import_from : ImportSpec → Option Importable → Option Imported
import_from spec o = elim o [ None ↦ None | Some p ↦ named_import spec.place (import_name spec.name p.name) p.exports ]

whole_one : (ps : List Importable) → AllImportsAreKnown (exported ps) → (spec : ImportSpec) (rest : List Imported) → AllImportsAreKnown (map (λ i. i.1) rest) → (o : Option Importable) → package_at ps spec.path ≡ o
    → AllImportsAreKnown (map (λ i. i.1) (cons_option (import_from spec o) rest))
whole_one ps whole spec rest h None at = h
whole_one ps whole spec rest h (Some q) at = elim (cases_Bool (bytes_eq (import_name spec.name q.name) (codes "_"))) [
  | inl blank ↦ rw blank h
  | inr named ↦ rw named (whole_at ps whole spec.path q at, h)
]

whole_in : (ps : List Importable) → AllImportsAreKnown (exported ps) → (specs : List ImportSpec) → AllImportsAreKnown (map (λ i. i.1) (imports_in ps specs))
whole_in ps whole [] = tt
whole_in ps whole (spec ∷ specs) = whole_one ps whole spec (imports_in ps specs) (whole_in ps whole specs) (package_at ps spec.path) refl

whole_files : (ps : List Importable) → AllImportsAreKnown (exported ps) → (files : List File) (file : ℕ) → AllImportsAreKnown (unwrap_or (slice_get (imports_of ps files) file) [])
whole_files ps whole [] file = tt
whole_files ps whole (f ∷ fs) zero = whole_in ps whole f.imports
whole_files ps whole (f ∷ fs) (suc file) = whole_files ps whole fs file

-- ---- objects, each behind those that it needs

pub of_form : (form : forms.Form) (o : Option Declared) → IsOf form o → IsKnown o
of_form (forms.constant t e iota) o (u, c, is) = (value (typed.constant u c), is)
of_form (forms.type' t) o (u, is) = (type' u, is)
of_form (forms.typed_variable t) o (u, x, is) = (value (typed.global u x), is)
of_form (forms.valued_variable e) o (u, x, is) = (value (typed.global u x), is)
of_form (forms.result_variable number count e) o (u, x, is) = (value (typed.global u x), is)
of_form (forms.function' ps ts) o (x, us, rs, is) = (known_function x us rs, is)
of_form (forms.other t es) o h = absurd h

some_there : {A : Type 0} (xs : List A) (k : ℕ) → k < length xs → (x : A) × (slice_get xs k ≡ Some x)
some_there [] k lt = absurd (omega (arith, lt))
some_there (x ∷ xs) zero lt = (x, refl)
some_there (x ∷ xs) (suc k) lt = some_there xs k (omega (arith, lt))

-- what is given of a package without fault
pub record Given (t : Facts) : Type 0 where
  pub table : IsTable t.package t.known
  pub whole : (file : ℕ) → AllImportsAreKnown (imports_at t.package file)
  pub follow : AllFollow t t.package.objects
  pub none : (k : ℕ) (o : DeclaredObject) → slice_get t.package.objects k ≡ Some o → object_faults t o ≡ []
  pub grounded : (k : ℕ) → Grounded (rows t.package) k

object_known : (t : Facts) → Given t → (n k : ℕ) → GroundedIn (rows t.package) n k → (o : DeclaredObject) → slice_get t.package.objects k ≡ Some o → IsOf o.form (declared_in (fine (object_verdict t.package t.known o)))
object_known t h zero k g o at = absurd g
object_known t h (suc n) k g o at =
    let p = t.package in
    let each = λ (m : ℕ) (c : Contains (needs p o) m). (
    let edge = need_edge p k m o at c in
    let lt = rows_stay p k m edge in
    let there = some_there p.objects m (omega (arith, lt, length_rows p)) in
    let is = of_form there.0.form _ (object_known t h n m (g m edge) there.0 there.1) in
    let entry = h.table.grounded m there.0 there.1 (n, g m edge) in
    let known : KnownAt t.known m = (there.0.name.text, is.0, entry ∙ ap (λ (d : Option Declared). Some (there.0.name.text, d)) is.1) in
    known) in
    follow_at t p.objects k o h.follow at (λ iota. tells_needs p t.known o.file iota h.table.named (h.whole o.file) (used_by o.form) each) (h.none k o at)

-- what the table has of an object
pub entry_known : (t : Facts) → Given t → (k : ℕ) (o : DeclaredObject) → slice_get t.package.objects k ≡ Some o
    → (d : Option Declared) × (slice_get t.known k ≡ Some (o.name.text, d)) × IsOf o.form d
entry_known t h k o at =
    let g = h.grounded k in
    (declared_in (fine (object_verdict t.package t.known o)), h.table.grounded k o at g, object_known t h g.0 k g.1 o at)

entry_is : (x : List ℕ) (v : Option Declared) (ks : Names) → KnownAt ((x, v) ∷ ks) 0 → IsKnown v
entry_is x None ks (y, d, at) = absurd (let no : None ≡ Some d = ap (λ o. second_of o) at in cc (no))
entry_is x (Some d) ks h = (d, refl)

all_known : (os : List DeclaredObject) (known : Names) → Named os known → ((k : ℕ) (o : DeclaredObject) → slice_get os k ≡ Some o → KnownAt known k) → AreKnown known
all_known [] [] e h = tt
all_known [] (k ∷ ks) e h = absurd cc
all_known (o ∷ os) [] e h = absurd cc
all_known (o ∷ os) ((x, v) ∷ ks) e h = (let rest : Named os ks = cc in (entry_is x v ks (h 0 o refl), all_known os ks rest (λ k p at. h (suc k) p at)))

pub given : (edition : Edition) (path : List ℕ) (files : List File) (ps : List Importable) (t : Facts) → AllImportsAreKnown (exported ps) → AreFacts (package_in edition path files ps) t → package_faults ps t files ≡ [] → Given t
given edition path files ps t whole are none =
    let objects : t.package.objects ≡ objects_of files = ap (λ (p : PackageTable). p.objects) are.package_is in
    let declared_none = no_faults ps t files none in
    let rest = front (each_file (file_faults ps t) 0 files) (packages.objects_faults t files ++ main_faults t files) none in
    let apart = (front (packages.objects_faults t files) (main_faults t files) rest.1).0 in
    let marks = subst (λ (p : PackageTable). AreRecursive (rows p) t.recursive) (sym are.package_is) are.recursive in
    record {
      table = subst (λ (p : PackageTable). IsTable p t.known) (sym are.package_is) are.known;
      whole = λ file. subst (λ (p : PackageTable). AllImportsAreKnown (imports_at p file)) (sym are.package_is) (whole_files ps whole files file);
      follow = subst (λ (os : List DeclaredObject). AllFollow t os) (sym objects) (follow_firsts t [] (objects_from 0 files) (files_follow t 0 files declared_none));
      none = λ k o at. firsts_none t [] (objects_from 0 files) apart k o (subst (λ (os : List DeclaredObject). slice_get os k ≡ Some o) objects at);
      grounded = faultless_grounded t files objects marks declared_none;
    }

pub objects_known : (edition : Edition) (path : List ℕ) (files : List File) (ps : List Importable) (t : Facts) → AllImportsAreKnown (exported ps) → AreFacts (package_in edition path files ps) t → package_faults ps t files ≡ [] → AreKnown t.known
objects_known edition path files ps t whole are none =
    let h = given edition path files ps t whole are none in
    all_known t.package.objects t.known h.table.named (λ k o at. (
    let e = entry_known t h k o at in
    let d = of_form o.form e.0 e.2 in
    (o.name.text, d.0, e.1 ∙ ap (λ (d : Option Declared). Some (o.name.text, d)) d.1)))

-- where each name is known an import of them is whole
pub known_whole : (names : Names) → AreKnown names → IsDetermined (Fine (package' names))
known_whole [] h x at = cc
known_whole ((y, None) ∷ names) h x at = absurd (let k = h.0 in cc)
known_whole ((y, Some d) ∷ names) h x at = elim (cases_Bool (bytes_eq x y)) [
  | inl is ↦ (let here : Some (Some d) ≡ Some None = rw is at at in cc (here))
  | inr not_so ↦ known_whole names h.1 x (rw not_so at at)
]
