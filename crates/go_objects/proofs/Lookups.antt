-- What names find by a package's table, and that what is known of an object depends on its needs alone.
use Rattle.std.proofs.Common.{◌≡◌, ℕ, zero, suc, ◌<◌, Bool, true, false, not, List, [], ◌∷◌, ◌++◌, Option, Some, None, map, length, refl, sym, ap, ◌∙◌, subst, inl, inr, arith}
use Rattle.std.specs.Prelude.{if◌then◌else◌, option_map, option_and_then, unwrap_or, bytes_eq}
use Rattle.std.specs.List.{slice_get, cons_option, filter, filter_map, flat_map, Contains}
use Rattle.std.specs.Map.{lookup}
use Rattle.std.proofs.lemmas.Bool.{cases_Bool}
use Rattle.std.proofs.lemmas.List.{map-append}
use Rattle.std.proofs.lemmas.List.Elements.{Contains-append_left, Contains-append_right}
use Rattle.go_text.specs.declared.fault.FaultKind.TheVariants.{Undeclared, Redeclared}
use Rattle.ws_reach.specs.Reach.{Edge, EdgesStayWithin}
use Rattle.ws_reach.proofs.Reached.{contains_get, get_contains}
use Rattle.go_ast.specs.Trees.{TypeExpr, Expression, Parameter}
use Rattle.go_types.specs.Types.{Type'}
use Rattle.go_typed.specs.Trees.{Symbol}
use Rattle.go_scope.specs.Names.{Used, in_type, in_expr}
use Rattle.go_expr.specs.Known.{Names, Known, declared, function, package', Verdict, Fine, Breaks, Scope, named as known_name, look_up_known, universe}
use Rattle.go_expr.specs.Rules.{fine, valued, constant_due, settled_type, are_distinct}
use Rattle.go_expr.specs.Rules as rules
use Rattle.go_expr.specs.Views.{iota_of}
use Rattle.go_expr.specs.Verdicts.{asked, asked_both, chained, operand, verdict, type_verdict}
use Rattle.go_objects.specs.Objects.{Form, DeclaredObject, constant, type', typed_variable, valued_variable, result_variable, function', other}
use Rattle.go_objects.specs.Table.{PackageTable, used_by, in_written, number_of, imports_at, is_hidden, needs, rows, scope_at, declared_value, named_type, call_result_type, variable, types_known, parameters_known, parameter_names, iota_in, form_verdict, object_verdict}
use Rattle.go_objects.proofs.Agreement.{AgreeOn, verdict_same, type_verdict_same}

abbrev Found : Type 0
Found = List (List ℕ × Verdict Known)

abbrev packages : List (List ℕ × Names) → Found
packages imports = map (λ i. (i.0, Fine (package' i.1))) imports

abbrev in_table : Names → Found
in_table known = map (λ n. (n.0, known_name n.1)) known

-- the names of a table are those of the objects
abbrev pub Named : List DeclaredObject → Names → Type 0
Named os known = map (λ n. n.0) known ≡ map (λ (o : DeclaredObject). o.name.text) os

-- an import hides what stands behind it
hidden : (imports : List (List ℕ × Names)) (x : List ℕ) (a b : Found) → is_hidden imports x ≡ true → lookup (bytes_eq x) (packages imports ++ a) ≡ lookup (bytes_eq x) (packages imports ++ b)
hidden [] x a b h = cc
hidden (i ∷ is) x a b h = elim (cases_Bool (bytes_eq x i.0)) [ inl t ↦ rw t refl | inr f ↦ rw f (hidden is x a b (rw f at h)) ]

visible : (imports : List (List ℕ × Names)) (x : List ℕ) (a : Found) → is_hidden imports x ≡ false → lookup (bytes_eq x) (packages imports ++ a) ≡ lookup (bytes_eq x) a
visible [] x a h = refl
visible (i ∷ is) x a h = elim (cases_Bool (bytes_eq x i.0)) [ inl t ↦ (let no : true ≡ false = rw t at h in cc (no)) | inr f ↦ rw f (visible is x a (rw f at h)) ]

-- a name of an object finds what the table has at its number
in_place : (os : List DeclaredObject) (known : Names) (x : List ℕ) (n : ℕ) (a : Found) → Named os known → number_of os x ≡ Some n →
    lookup (bytes_eq x) (in_table known ++ a) ≡ option_map (λ e. known_name e.1) (slice_get known n)
in_place [] known x n a e h = cc
in_place (o ∷ os) [] x n a e h = cc
in_place (o ∷ os) (k ∷ ks) x n a e h =
    let key : k.0 ≡ o.name.text = cc in
    let rest : Named os ks = cc in
    elim (cases_Bool (bytes_eq x o.name.text)) [
      | inl t ↦ (
          let here : bytes_eq x k.0 ≡ true = ap (bytes_eq x) key ∙ t in
          let first : Some 0 ≡ Some n = rw t at h in
          let zeroth : 0 ≡ n = cc (first) in
          rw here (ap (λ m. option_map (λ e. known_name e.1) (slice_get (k ∷ ks) m)) zeroth))
      | inr f ↦ (
          let here : bytes_eq x k.0 ≡ false = ap (bytes_eq x) key ∙ f in
          let later : option_map suc (number_of os x) ≡ Some n = rw f at h in
          rw here (elim (number_of os x) as (λ r. number_of os x ≡ r → option_map suc r ≡ Some n → lookup (bytes_eq x) (in_table ks ++ a) ≡ option_map (λ e. known_name e.1) (slice_get (k ∷ ks) n)) [
            | None ↦ λ is none. cc (none)
            | Some m ↦ λ is some. (
                let next : suc m ≡ n = cc (some) in
                in_place os ks x m a rest is ∙ ap (λ i. option_map (λ e. known_name e.1) (slice_get (k ∷ ks) i)) next)
          ] refl later))
    ]

absent : (os : List DeclaredObject) (known : Names) (x : List ℕ) (a : Found) → Named os known → number_of os x ≡ None → lookup (bytes_eq x) (in_table known ++ a) ≡ lookup (bytes_eq x) a
absent [] [] x a e h = refl
absent [] (k ∷ ks) x a e h = cc
absent (o ∷ os) [] x a e h = cc
absent (o ∷ os) (k ∷ ks) x a e h =
    let key : k.0 ≡ o.name.text = cc in
    let rest : Named os ks = cc in
    elim (cases_Bool (bytes_eq x o.name.text)) [
      | inl t ↦ (let no : Some 0 ≡ None = rw t at h in cc (no))
      | inr f ↦ (
          let here : bytes_eq x k.0 ≡ false = ap (bytes_eq x) key ∙ f in
          let later : option_map suc (number_of os x) ≡ None = rw f at h in
          rw here (elim (number_of os x) as (λ r. number_of os x ≡ r → option_map suc r ≡ None → lookup (bytes_eq x) (in_table ks ++ a) ≡ lookup (bytes_eq x) a) [
            | None ↦ λ is none. absent os ks x a rest is
            | Some m ↦ λ is some. cc (some)
          ] refl later))
    ]

-- tables that agree at the number of a name that no import hides find the same
same_found : (p : PackageTable) (t u : Names) → Named p.objects t → Named p.objects u → (file : ℕ) (iota : Option ℕ) (x : List ℕ) →
    ((n : ℕ) → is_hidden (imports_at p file) x ≡ false → number_of p.objects x ≡ Some n → slice_get t n ≡ slice_get u n) →
    look_up_known x (scope_at p t file iota).names ≡ look_up_known x (scope_at p u file iota).names
same_found p t u nt nu file iota x h =
    let imports = imports_at p file in
    let a : Found = iota_of iota ++ universe p.edition in
    ap (λ (o : Option (Verdict Known)). unwrap_or o (Breaks Undeclared)) (elim (cases_Bool (is_hidden imports x)) [
      | inl hides ↦ hidden imports x (in_table t ++ a) (in_table u ++ a) hides
      | inr shows ↦ visible imports x (in_table t ++ a) shows
          ∙ elim (number_of p.objects x) as (λ r. number_of p.objects x ≡ r → lookup (bytes_eq x) (in_table t ++ a) ≡ lookup (bytes_eq x) (in_table u ++ a)) [
            | None ↦ λ is. absent p.objects t x a nt is ∙ sym (absent p.objects u x a nu is)
            | Some n ↦ λ is. in_place p.objects t x n a nt is ∙ ap (option_map (λ e. known_name e.1)) (h n shows is) ∙ sym (in_place p.objects u x n a nu is)
          ] refl
          ∙ sym (visible imports x (in_table u ++ a) shows)
    ])

-- a name that is used and isn't hidden is a need
picked : (names : List (List ℕ)) (test : List ℕ → Bool) (f : List ℕ → Option ℕ) (k : ℕ) (x : List ℕ) (n : ℕ) → slice_get names k ≡ Some x → test x ≡ true → f x ≡ Some n →
    (m : ℕ) × (slice_get (filter_map f (filter test names)) m ≡ Some n)
picked [] test f k x n at passes is = cc
picked (y ∷ ys) test f zero x n at passes is =
    let e : y ≡ x = cc in
    let t : test y ≡ true = ap test e ∙ passes in
    let s : f y ≡ Some n = ap f e ∙ is in
    rw t (rw s (0, refl))
picked (y ∷ ys) test f (suc k) x n at passes is =
    let m = picked ys test f k x n at passes is in
    elim (cases_Bool (test y)) [
      | inr fails ↦ rw fails m
      | inl t ↦ rw t (elim (f y) as (λ r. f y ≡ r → (i : ℕ) × (slice_get (filter_map f (y ∷ filter test ys)) i ≡ Some n)) [
        | None ↦ λ none. rw none m
        | Some z ↦ λ gives_z. rw gives_z (suc m.0, m.1)
      ] refl)
    ]

needed : (p : PackageTable) (o : DeclaredObject) (x : List ℕ) (n : ℕ) → Contains (map (λ (u : Used). u.0) (used_by o.form)) x → is_hidden (imports_at p o.file) x ≡ false → number_of p.objects x ≡ Some n → Contains (needs p o) n
needed p o x n c shows is =
    let names = map (λ (u : Used). u.0) (used_by o.form) in
    let m = picked names (λ y. not (is_hidden (imports_at p o.file) y)) (number_of p.objects) c.0 x n (contains_get names x c) (ap not shows) is in
    get_contains (needs p o) m.0 n m.1

front : (s r : Scope) (us vs : List Used) → AgreeOn s r (us ++ vs) → AgreeOn s r us
front s r us vs h = λ x c.
    h x (subst (λ (l : List (List ℕ)). Contains l x) (sym (map-append (λ (w : Used). w.0) us vs)) (Contains-append_left (map (λ (w : Used). w.0) us) (map (λ (w : Used). w.0) vs) x c))

back : (s r : Scope) (us vs : List Used) → AgreeOn s r (us ++ vs) → AgreeOn s r vs
back s r us vs h = λ x c.
    h x (subst (λ (l : List (List ℕ)). Contains l x) (sym (map-append (λ (w : Used). w.0) us vs)) (Contains-append_right (map (λ (w : Used). w.0) us) (map (λ (w : Used). w.0) vs) x c))

same_value : (s r : Scope) → s.path ≡ r.path → (t : Option TypeExpr) (e : Expression) → AgreeOn s r (in_written t ++ in_expr false e) → declared_value s t e ≡ declared_value r t e
same_value s r p None e h = ap operand (verdict_same s r e p h)
same_value s r p (Some t) e h =
    ap (λ (v : Verdict Type'). fine (asked_both rules.assigned (fine v) (operand (verdict s e)))) (type_verdict_same s r t p (front s r (in_type t) (in_expr false e) h))
    ∙ ap (λ (v : Verdict Known). fine (asked_both rules.assigned (fine (type_verdict r t)) (operand v))) (verdict_same s r e p (back s r (in_type t) (in_expr false e) h))

same_types : (s r : Scope) → s.path ≡ r.path → (ts : List TypeExpr) → AgreeOn s r (flat_map in_type ts) → types_known s ts ≡ types_known r ts
same_types s r p [] h = refl
same_types s r p (t ∷ ts) h =
    ap (λ (v : Verdict Type'). chained (option_map (λ t. t ∷ []) (fine v)) (types_known s ts)) (type_verdict_same s r t p (front s r (in_type t) (flat_map in_type ts) h))
    ∙ ap (chained (option_map (λ t. t ∷ []) (fine (type_verdict r t)))) (same_types s r p ts (back s r (in_type t) (flat_map in_type ts) h))

same_parameters : (s r : Scope) → s.path ≡ r.path → (ps : List Parameter) → AgreeOn s r (flat_map (λ (q : Parameter). in_type q.type) ps) → parameters_known s ps ≡ parameters_known r ps
same_parameters s r p [] h = refl
same_parameters s r p (q ∷ ps) h =
    let rest = flat_map (λ (q : Parameter). in_type q.type) ps in
    ap (λ (v : Verdict Type'). chained (option_map (λ t. map (λ n. t) q.names) (fine v)) (parameters_known s ps)) (type_verdict_same s r q.type p (front s r (in_type q.type) rest h))
    ∙ ap (chained (option_map (λ t. map (λ n. t) q.names) (fine (type_verdict r q.type)))) (same_parameters s r p ps (back s r (in_type q.type) rest h))

same_form : (s r : Scope) (x : Symbol) (f : Form) → s.path ≡ r.path → AgreeOn s r (used_by f) → form_verdict s x f ≡ form_verdict r x f
same_form s r x (constant t e iota) p h = ap (λ v. valued (asked constant_due v)) (same_value s r p t e h)
same_form s r x (type' t) p h = ap (λ (v : Verdict Type'). asked (named_type x.path x.name) (fine v)) (type_verdict_same s r t p h)
same_form s r x (typed_variable t) p h = ap (λ (v : Verdict Type'). variable x (fine v)) (type_verdict_same s r t p h)
same_form s r x (valued_variable e) p h = ap (λ (v : Verdict Known). variable x (option_and_then settled_type (operand v))) (verdict_same s r e p h)
same_form s r x (result_variable number count e) p h = ap (λ (v : Verdict Known). variable x (call_result_type number count (fine v))) (verdict_same s r e p h)
same_form s r x (function' ps ts) p h =
    let parameters = flat_map (λ (q : Parameter). in_type q.type) ps in
    ap (λ o. if are_distinct (parameter_names ps) then asked_both (λ ts rs. Fine (declared (function x ts rs))) o (types_known s ts) else Breaks Redeclared)
    (same_parameters s r p ps (front s r parameters (flat_map in_type ts) h))
    ∙ ap (λ o. if are_distinct (parameter_names ps) then asked_both (λ ts rs. Fine (declared (function x ts rs))) (parameters_known r ps) o else Breaks Redeclared)
    (same_types s r p ts (back s r parameters (flat_map in_type ts) h))
same_form s r x (other t es) p h = refl

-- tables that agree at the needs of an object say the same of it
pub same_object : (p : PackageTable) (t u : Names) → Named p.objects t → Named p.objects u → (o : DeclaredObject) → ((n : ℕ) → Contains (needs p o) n → slice_get t n ≡ slice_get u n) → object_verdict p t o ≡ object_verdict p u o
same_object p t u nt nu o h =
    let iota = iota_in o.form in
    same_form (scope_at p t o.file iota) (scope_at p u o.file iota) (record { path = p.path; name = o.name.text }) o.form refl
    (λ x c. same_found p t u nt nu o.file iota x (λ n shows is. h n (needed p o x n c shows is)))

-- ---- rows

pub get_mapped : {A B : Type 0} (f : A → B) (xs : List A) (k : ℕ) (x : A) → slice_get xs k ≡ Some x → slice_get (map f xs) k ≡ Some (f x)
get_mapped f [] k x at = cc
get_mapped f (y ∷ ys) zero x at = let e : y ≡ x = cc in ap (λ z. Some (f z)) e
get_mapped f (y ∷ ys) (suc k) x at = get_mapped f ys k x at

pub need_edge : (p : PackageTable) (k n : ℕ) (o : DeclaredObject) → slice_get p.objects k ≡ Some o → Contains (needs p o) n → Edge (rows p) k n
need_edge p k n o at c = (needs p o, get_mapped (needs p) p.objects k o at, c)

mapped_at : {A B : Type 0} (f : A → B) (xs : List A) (k : ℕ) (y : B) → slice_get (map f xs) k ≡ Some y → (x : A) × (f x ≡ y)
mapped_at f [] k y at = cc
mapped_at f (x ∷ xs) zero y at = (x, (let s : Some (f x) ≡ Some y = at in cc (s)))
mapped_at f (x ∷ xs) (suc k) y at = mapped_at f xs k y at

first_or : (f : List ℕ → Option ℕ) (x : List ℕ) (ys : List ℕ) (z i n : ℕ) → f x ≡ Some z → slice_get (z ∷ ys) i ≡ Some n → ((j : ℕ) → slice_get ys j ≡ Some n → (y : List ℕ) × (f y ≡ Some n)) →
    (y : List ℕ) × (f y ≡ Some n)
first_or f x ys z zero n given at later = (x, given ∙ at)
first_or f x ys z (suc i) n given at later = later i at

gives : (f : List ℕ → Option ℕ) (xs : List (List ℕ)) (m n : ℕ) → slice_get (filter_map f xs) m ≡ Some n → (x : List ℕ) × (f x ≡ Some n)
gives f [] m n at = cc
gives f (x ∷ xs) m n at = elim (f x) as (λ r. f x ≡ r → slice_get (cons_option r (filter_map f xs)) m ≡ Some n → (y : List ℕ) × (f y ≡ Some n)) [
  | None ↦ λ none rest. gives f xs m n rest
  | Some z ↦ λ given rest. first_or f x (filter_map f xs) z m n given rest (λ j there. gives f xs j n there)
] refl at

number_within : (os : List DeclaredObject) (x : List ℕ) (n : ℕ) → number_of os x ≡ Some n → n < length os
number_within [] x n h = cc
number_within (o ∷ os) x n h = elim (cases_Bool (bytes_eq x o.name.text)) [
  | inl t ↦ (
      let first : Some 0 ≡ Some n = rw t at h in
      let zeroth : 0 ≡ n = cc (first) in
      omega (arith, zeroth))
  | inr f ↦ (
      let later : option_map suc (number_of os x) ≡ Some n = rw f at h in
      elim (number_of os x) as (λ r. number_of os x ≡ r → option_map suc r ≡ Some n → n < suc (length os)) [
        | None ↦ λ is none. cc (none)
        | Some m ↦ λ is some. (let next : suc m ≡ n = cc (some) in let lt = number_within os x m is in omega (arith, next, lt))
      ] refl later)
]

pub length_rows : (p : PackageTable) → length (rows p) ≡ length p.objects
length_rows p = length_mapped p.objects
  where
    length_mapped : (os : List DeclaredObject) → length (map (needs p) os) ≡ length os
    length_mapped [] = refl
    length_mapped (o ∷ os) = ap suc (length_mapped os)

pub rows_stay : (p : PackageTable) → EdgesStayWithin (rows p)
rows_stay p k q (row, at, c) =
    let o = mapped_at (needs p) p.objects k row at in
    let there : slice_get (needs p o.0) c.0 ≡ Some q = ap (λ (l : List ℕ). slice_get l c.0) o.1 ∙ contains_get row q c in
    let x = gives (number_of p.objects) (filter (λ y. not (is_hidden (imports_at p (o.0).file) y)) (map (λ (u : Used). u.0) (used_by (o.0).form))) c.0 q there in
    let lt = number_within p.objects x.0 q x.1 in
    omega (arith, lt, length_rows p)
