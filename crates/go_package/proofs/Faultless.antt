-- Where nothing that files declare has a fault, nothing depends on itself.
use Rattle.std.proofs.Common.{◌≡◌, ℕ, suc, zero, ◌<◌, IsTrue, Bool, true, false, not, ◌||◌, Option, Some, None, List, [], ◌∷◌, ◌++◌, map, length, codes, refl, sym, ap, ◌∙◌, subst, inl, inr, arith, append_assoc, append-nil, eq-eqb}
use Rattle.std.specs.Prelude.{bytes_eq, option_map, unwrap_or, if◌then◌else◌}
use Rattle.std.specs.List.{slice_get, flat_map, list_any}
use Rattle.std.proofs.lemmas.Bool.{cases_Bool}
use Rattle.std.proofs.lemmas.Slice.Eq.{bytes_eq-Decides}
use Rattle.ws_reach.specs.Reach.{EdgesStayWithin}
use Rattle.ws_reach.specs.Worklist.{is_marked}
use Rattle.go_scope.specs.Order.{DependsOnItself, Grounded}
use Rattle.go_scope.proofs.Laws.{all_grounded}
use Rattle.go_text.specs.declared.fault.FaultKind.TheVariants.{Redeclared, Recursive}
use Rattle.go_ast.specs.Trees.{Name, TypeExpr, Expression, ExpressionList, no_exprs, some_exprs, ConstSpec, VarSpec, TypeSpec, constants, variables, types, TopLevel, declared, function, File}
use Rattle.go_scope.specs.Specifications.{meant, is_repeated}
use Rattle.go_objects.specs.Objects.{Form, constant, valued_variable, DeclaredObject, begin_of, other_object, paired, unpaired, constants_of, in_group, typed_object, result_objects, uncounted, variables_of, type_object, objects_in, objects_from, firsts, objects_of}
use Rattle.go_objects.specs.Table.{number_of, rows}
use Rattle.go_objects.specs.Numbers.{Numbered}
use Rattle.go_objects.proofs.Firsts.{numbered_none, numbered_more}
use Rattle.go_objects.proofs.Lookups.{length_rows, rows_stay}
use Rattle.go_package.specs.Faults.{Facts, Faults, AreRecursive, is_declared_by, name_faults, constant_spec_faults, group_faults, type_spec_faults, var_spec_faults, own_faults, top_faults, files_faults}

none_front : {A : Type 0} (xs ys : List A) → xs ++ ys ≡ [] → xs ≡ []
none_front [] ys h = refl
none_front (x ∷ xs) ys h = cc

none_back : {A : Type 0} (xs ys : List A) → xs ++ ys ≡ [] → ys ≡ []
none_back [] ys h = h
none_back (x ∷ xs) ys h = cc

-- the names of objects have no faults
abbrev pub AreFine : Facts → List DeclaredObject → Type 0
AreFine t [] = Unit {0}
AreFine t (o ∷ os) = (name_faults t o.file o.name ≡ []) × AreFine t os

fine_both : (t : Facts) (xs ys : List DeclaredObject) → AreFine t xs → AreFine t ys → AreFine t (xs ++ ys)
fine_both t [] ys f g = g
fine_both t (x ∷ xs) ys f g = (f.0, fine_both t xs ys f.1 g)

pub fine_at : (t : Facts) (os : List DeclaredObject) (k : ℕ) (o : DeclaredObject) → AreFine t os → slice_get os k ≡ Some o → name_faults t o.file o.name ≡ []
fine_at t [] k o f at = cc
fine_at t (x ∷ xs) zero o f at = (let same : x ≡ o = cc in subst (λ (y : DeclaredObject). name_faults t y.file y.name ≡ []) same f.0)
fine_at t (x ∷ xs) (suc k) o f at = fine_at t xs k o f.1 at

-- ---- specifications

fine_others : (t : Facts) (file : ℕ) (all : List Name) (of : Option TypeExpr) (es : ExpressionList) (ns : List Name) → flat_map (name_faults t file) ns ≡ [] → AreFine t (map (other_object file all of es) ns)
fine_others t file all of es [] none = tt
fine_others t file all of es (n ∷ ns) none = (
  none_front (name_faults t file n) (flat_map (name_faults t file) ns) none,
  fine_others t file all of es ns (none_back (name_faults t file n) (flat_map (name_faults t file) ns) none),
)

fine_unpaired : (t : Facts) (file : ℕ) (of : Option TypeExpr) (es : ExpressionList) (ns : List Name) → flat_map (name_faults t file) ns ≡ [] → AreFine t (unpaired file of es ns)
fine_unpaired t file of es ns none = fine_others t file ns of es ns none

abbrev made : ℕ → List Name → (Expression → Form) → Name → Expression → DeclaredObject
made file all form n e = record { file = file; begins = begin_of all n; name = n; form = form e }

fine_paired : (t : Facts) (file : ℕ) (all : List Name) (form : Expression → Form) (ns : List Name) (es : ExpressionList) (os : List DeclaredObject) → flat_map (name_faults t file) ns ≡ [] → paired (made file all form) ns es ≡ Some os → AreFine t os
fine_paired t file all form [] no_exprs os none is = (let same : [] ≡ os = cc in subst (AreFine t) same tt)
fine_paired t file all form [] (some_exprs e es) os none is = cc
fine_paired t file all form (n ∷ ns) no_exprs os none is = cc
fine_paired t file all form (n ∷ ns) (some_exprs e es) os none is =
    elim (paired (made file all form) ns es) as (λ r. paired (made file all form) ns es ≡ r → option_map (λ xs. made file all form n e ∷ xs) r ≡ Some os → AreFine t os) [
      | None ↦ λ at h. cc
      | Some rest ↦ λ at h. (
          let same : made file all form n e ∷ rest ≡ os = cc in
          subst (AreFine t) same (
            none_front (name_faults t file n) (flat_map (name_faults t file) ns) none,
            fine_paired t file all form ns es rest (none_back (name_faults t file n) (flat_map (name_faults t file) ns) none) at,
          ))
    ] refl is

fine_either : (t : Facts) (o : Option (List DeclaredObject)) (os : List DeclaredObject) → ((xs : List DeclaredObject) → o ≡ Some xs → AreFine t xs) → AreFine t os → AreFine t (unwrap_or o os)
fine_either t None os f g = g
fine_either t (Some xs) os f g = f xs refl

fine_constants : (t : Facts) (file iota : ℕ) (s : ConstSpec) → flat_map (name_faults t file) s.names ≡ [] → AreFine t (constants_of file iota s)
fine_constants t file iota s none =
    fine_either t (paired (made file s.names (λ e. constant s.type e iota)) s.names s.values) (unpaired file s.type s.values s.names)
    (λ xs is. fine_paired t file s.names (λ e. constant s.type e iota) s.names s.values xs none is) (fine_unpaired t file s.type s.values s.names none)

names_fine : (t : Facts) (file iota : ℕ) (repeated : Bool) (ns : List Name) (of : Option TypeExpr) (es : ExpressionList) → constant_spec_faults t file iota repeated (record { names = ns; type = of; values = es }) ≡ [] → flat_map (name_faults t file) ns ≡ []
names_fine t file iota repeated [] of es none = refl
names_fine t file iota repeated (n ∷ ns) of es none = none_front (flat_map (name_faults t file) (n ∷ ns)) _ none

fine_group : (t : Facts) (file iota : ℕ) (before : ConstSpec) (ss : List ConstSpec) → group_faults t file iota before ss ≡ [] → AreFine t (in_group file iota before ss)
fine_group t file iota before [] none = tt
fine_group t file iota before (s ∷ ss) none =
    let own = constant_spec_faults t file iota (is_repeated s) (meant before s) in
    let rest = group_faults t file (suc iota) (meant before s) ss in
    let m = meant before s in
    fine_both t (constants_of file iota m) (in_group file (suc iota) m ss)
    (fine_constants t file iota m (names_fine t file iota (is_repeated s) m.names m.type m.values (none_front own rest none)))
    (fine_group t file (suc iota) m ss (none_back own rest none))

fine_typed : (t : Facts) (file : ℕ) (all : List Name) (of : TypeExpr) (ns : List Name) → flat_map (name_faults t file) ns ≡ [] → AreFine t (map (typed_object file all of) ns)
fine_typed t file all of [] none = tt
fine_typed t file all of (n ∷ ns) none = (
  none_front (name_faults t file n) (flat_map (name_faults t file) ns) none,
  fine_typed t file all of ns (none_back (name_faults t file n) (flat_map (name_faults t file) ns) none),
)

fine_results : (t : Facts) (file : ℕ) (all : List Name) (number : ℕ) (e : Expression) (ns : List Name) → flat_map (name_faults t file) ns ≡ [] → AreFine t (result_objects file all number e ns)
fine_results t file all number e [] none = tt
fine_results t file all number e (n ∷ ns) none = (
  none_front (name_faults t file n) (flat_map (name_faults t file) ns) none,
  fine_results t file all (suc number) e ns (none_back (name_faults t file n) (flat_map (name_faults t file) ns) none),
)

fine_uncounted : (t : Facts) (file : ℕ) (ns : List Name) (es : ExpressionList) → flat_map (name_faults t file) ns ≡ [] → AreFine t (uncounted file ns es)
fine_uncounted t file ns no_exprs none = fine_unpaired t file None no_exprs ns none
fine_uncounted t file ns (some_exprs e no_exprs) none = fine_results t file ns 0 e ns none
fine_uncounted t file ns (some_exprs e (some_exprs f es)) none = fine_unpaired t file None (some_exprs e (some_exprs f es)) ns none

fine_variables : (t : Facts) (file : ℕ) (ns : List Name) (of : Option TypeExpr) (es : ExpressionList) → flat_map (name_faults t file) ns ≡ [] → AreFine t (variables_of file (record { names = ns; type = of; values = es }))
fine_variables t file ns None es none =
    fine_either t (paired (made file ns valued_variable) ns es) (uncounted file ns es)
    (λ xs is. fine_paired t file ns valued_variable ns es xs none is) (fine_uncounted t file ns es none)
fine_variables t file ns (Some of) es none = fine_typed t file ns of ns none

var_names_fine : (t : Facts) (file : ℕ) (ns : List Name) (of : Option TypeExpr) (es : ExpressionList) → var_spec_faults t file (record { names = ns; type = of; values = es }) ≡ [] → flat_map (name_faults t file) ns ≡ []
var_names_fine t file [] of es none = refl
var_names_fine t file (n ∷ ns) of es none = none_front (flat_map (name_faults t file) (n ∷ ns)) _ none

fine_all_variables : (t : Facts) (file : ℕ) (ss : List VarSpec) → flat_map (var_spec_faults t file) ss ≡ [] → AreFine t (flat_map (variables_of file) ss)
fine_all_variables t file [] none = tt
fine_all_variables t file (s ∷ ss) none =
    let own = var_spec_faults t file s in
    let rest = flat_map (var_spec_faults t file) ss in
    fine_both t (variables_of file s) (flat_map (variables_of file) ss) (fine_variables t file s.names s.type s.values (var_names_fine t file s.names s.type s.values (none_front own rest none)))
    (fine_all_variables t file ss (none_back own rest none))

fine_types : (t : Facts) (file : ℕ) (ss : List TypeSpec) → flat_map (type_spec_faults t file) ss ≡ [] → AreFine t (map (type_object file) ss)
fine_types t file [] none = tt
fine_types t file (s ∷ ss) none =
    let rest = flat_map (type_spec_faults t file) ss in
    (none_front (name_faults t file s.name) _ (none_front (type_spec_faults t file s) rest none), fine_types t file ss (none_back (type_spec_faults t file s) rest none))

-- ---- files

fine_top : (t : Facts) (file : ℕ) (top : TopLevel) → top_faults t file top ≡ [] → AreFine t (objects_in file top)
fine_top t file (declared (constants p ss)) none = fine_group t file 0 (record { names = []; type = None; values = no_exprs }) ss none
fine_top t file (declared (variables p ss)) none = fine_all_variables t file ss none
fine_top t file (declared (types p ss)) none = fine_types t file ss none
fine_top t file (function f) none = elim (cases_Bool (bytes_eq f.name.text (codes "init"))) [
  | inl init ↦ rw init tt
  | inr named ↦ (let own : name_faults t file f.name ≡ [] = rw named at (none_front (own_faults t file f.name) _ none) in rw named (own, tt))
]

fine_tops : (t : Facts) (file : ℕ) (tops : List TopLevel) → flat_map (top_faults t file) tops ≡ [] → AreFine t (flat_map (objects_in file) tops)
fine_tops t file [] none = tt
fine_tops t file (top ∷ tops) none =
    let rest = flat_map (top_faults t file) tops in
    fine_both t (objects_in file top) (flat_map (objects_in file) tops) (fine_top t file top (none_front (top_faults t file top) rest none)) (fine_tops t file tops (none_back (top_faults t file top) rest none))

none_mapped : {A B : Type 0} (f : A → B) (xs : List A) → map f xs ≡ [] → xs ≡ []
none_mapped f [] h = refl
none_mapped f (x ∷ xs) h = cc

pub fine_files : (t : Facts) (number : ℕ) (files : List File) → files_faults t number files ≡ [] → AreFine t (objects_from number files)
fine_files t number [] none = tt
fine_files t number (f ∷ fs) none =
    let own = flat_map (top_faults t number) f.declarations in
    let rest = files_faults t (suc number) fs in
    fine_both t (flat_map (objects_in number) f.declarations) (objects_from (suc number) fs)
    (fine_tops t number f.declarations (none_mapped (λ x. (number, x)) own (none_front (map (λ x. (number, x)) own) rest none))) (fine_files t (suc number) fs (none_back (map (λ x. (number, x)) own) rest none))

pub fine_firsts : (t : Facts) (names : List (List ℕ)) (os : List DeclaredObject) → AreFine t os → AreFine t (firsts names os)
fine_firsts t names [] f = tt
fine_firsts t names (o ∷ os) f = elim (cases_Bool (bytes_eq o.name.text (codes "_") || list_any (bytes_eq o.name.text) names)) [
  | inl out ↦ rw out (fine_firsts t names os f.1)
  | inr new ↦ rw new (f.0, fine_firsts t (names ++ o.name.text ∷ []) os f.1)
]

-- ---- objects by their numbers

or_false : (a b : Bool) → (a || b) ≡ false → b ≡ false
or_false true b h = cc
or_false false b h = h

numbered_firsts : (ns : List (List ℕ)) (list os : List DeclaredObject) → Numbered ns list → (all : List (List ℕ)) × Numbered all (list ++ firsts ns os)
numbered_firsts ns list [] before = (ns, subst (λ (l : List DeclaredObject). Numbered ns l) (sym (append-nil list)) before)
numbered_firsts ns list (o ∷ os) before = elim (cases_Bool (bytes_eq o.name.text (codes "_") || list_any (bytes_eq o.name.text) ns)) [
  | inl out ↦ rw out (numbered_firsts ns list os before)
  | inr new ↦ rw new (
      let fresh = or_false (bytes_eq o.name.text (codes "_")) (list_any (bytes_eq o.name.text) ns) new in
      let more = numbered_more ns list o ((bytes_eq-Decides o.name.text o.name.text).1 refl) before fresh in
      let all = numbered_firsts (ns ++ o.name.text ∷ []) (list ++ o ∷ []) os more in
      (all.0, subst (λ (l : List DeclaredObject). Numbered all.0 l) (append_assoc list (o ∷ []) (firsts (ns ++ o.name.text ∷ []) os)) all.1))
]

own_number : (files : List File) (k : ℕ) (o : DeclaredObject) → slice_get (objects_of files) k ≡ Some o → number_of (objects_of files) o.name.text ≡ Some k
own_number files k o at = (numbered_firsts [] [] (objects_from 0 files) numbered_none).1.once k o at

by_itself : (file : ℕ) (n : Name) (o : DeclaredObject) → file ≡ o.file → n ≡ o.name → is_declared_by file n (Some o) ≡ true
by_itself file n o same is =
    let a = eq-eqb file o.file same in
    let b = eq-eqb n.place.line o.name.place.line (ap (λ (m : Name). m.place.line) is) in
    let c = eq-eqb n.place.column o.name.place.column (ap (λ (m : Name). m.place.column) is) in
    rw (a, b, c) refl

abbrev judged : Name → Bool → Bool → Faults
judged n own recursive = if not own then (n.place, Redeclared) ∷ [] else (if recursive then (n.place, Recursive) ∷ [] else [])

abbrev at_number : Facts → ℕ → Name → Option ℕ → Faults
at_number t file n o = elim o [ None ↦ [] | Some k ↦ judged n (is_declared_by file n (slice_get t.package.objects k)) (is_marked t.recursive k) ]

not_recursive : (t : Facts) (k : ℕ) (o : DeclaredObject) → number_of t.package.objects o.name.text ≡ Some k → slice_get t.package.objects k ≡ Some o → name_faults t o.file o.name ≡ [] → IsTrue (is_marked t.recursive k) → ⊥
not_recursive t k o number at none marked =
    let told : name_faults t o.file o.name ≡ (o.name.place, Recursive) ∷ [] =
    ap (at_number t o.file o.name) number
    ∙ ap (λ (x : Option DeclaredObject). judged o.name (is_declared_by o.file o.name x) (is_marked t.recursive k)) at
    ∙ ap (λ b. judged o.name b (is_marked t.recursive k)) (by_itself o.file o.name o refl refl)
    ∙ ap (judged o.name true) marked in
    let no : [] ≡ (o.name.place, Recursive) ∷ [] = sym none ∙ told in
    cc (no)

-- ---- packages

all_within : (rows : List (List ℕ)) → EdgesStayWithin rows → (i : ℕ) → DependsOnItself rows i → i < length rows
all_within rows within i d = within d.0 i d.2

some_there : {A : Type 0} (xs : List A) (k : ℕ) → k < length xs → (x : A) × (slice_get xs k ≡ Some x)
some_there [] k lt = absurd (omega (arith, lt))
some_there (x ∷ xs) zero lt = (x, refl)
some_there (x ∷ xs) (suc k) lt = some_there xs k (omega (arith, lt))

none_recursive : (t : Facts) (files : List File) → t.package.objects ≡ objects_of files → AreRecursive (rows t.package) t.recursive → files_faults t 0 files ≡ [] → (i : ℕ) → DependsOnItself (rows t.package) i → ⊥
none_recursive t files are marks none i d =
    let inside = all_within (rows t.package) (rows_stay t.package) i d in
    let there = some_there t.package.objects i (omega (arith, inside, length_rows t.package)) in
    let own = subst (λ (os : List DeclaredObject). slice_get os i ≡ Some there.0) are there.1 in
    let number = subst (λ (os : List DeclaredObject). number_of os there.0.name.text ≡ Some i) (sym are) (own_number files i there.0 own) in
    let fine = fine_at t (objects_of files) i there.0 (fine_firsts t [] (objects_from 0 files) (fine_files t 0 files none)) own in
    not_recursive t i there.0 number there.1 fine ((marks i).1 d)

pub faultless_grounded : (t : Facts) (files : List File) → t.package.objects ≡ objects_of files → AreRecursive (rows t.package) t.recursive → files_faults t 0 files ≡ [] → (i : ℕ) → Grounded (rows t.package) i
faultless_grounded t files are marks none = all_grounded (rows t.package) (rows_stay t.package) (none_recursive t files are marks none)
