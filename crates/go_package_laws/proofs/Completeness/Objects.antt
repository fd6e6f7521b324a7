-- Of a package without fault each constant, type and variable is in its tree.
use Rattle.std.proofs.Common.{◌≡◌, ℕ, suc, true, false, ◌||◌, List, [], ◌∷◌, ◌++◌, Option, Some, None, map, codes, append_assoc, append-nil, refl, sym, ap, ◌∙◌, subst, inl, inr}
use Rattle.std.specs.Prelude.{bytes_eq, option_map, unwrap_or, if◌then◌else◌, Bool}
use Rattle.std.specs.List.{slice_get, list_any, filter_map, cons_option}
use Rattle.std.specs.Map.{lookup}
use Rattle.std.proofs.lemmas.Bool.{cases_Bool}
use Rattle.std.proofs.lemmas.Slice.Eq.{bytes_eq-Decides}
use Rattle.go_typed.specs.Trees as typed
use Rattle.go_expr.specs.Known.{Declared, Names}
use Rattle.go_objects.specs.Objects.{Form, constant, type', typed_variable, valued_variable, result_variable, function', other, DeclaredObject, firsts, objects_from, objects_of}
use Rattle.go_objects.specs.Table.{number_of}
use Rattle.go_objects.specs.Numbers.{Numbered}
use Rattle.go_objects.proofs.Firsts.{numbered_none, numbered_more}
use Rattle.go_objects.proofs.Lookups.{Named}
use Rattle.go_ast.specs.Trees.{File}
use Rattle.go_package.specs.Faults.{Facts}
use Rattle.go_package.specs.Typed.{exported_constant, type_in, constants_in, types_in, declared_at, variable_in, variables_in}
use Rattle.go_package_laws.specs.Whole.{is_constant_form, is_type, is_variable, objects_named}
use Rattle.go_package_laws.proofs.Completeness.Follows.{IsOf}
use Rattle.go_package_laws.proofs.Completeness.Known.{Given, entry_known}

abbrev when : Bool → List ℕ → Option (List ℕ)
when b x = if b then Some x else None

-- ---- what the tree has of an object

constant_or : (form : Form) (x : List ℕ) (d : Option Declared) → IsOf form d → option_map (λ c. c.0) (exported_constant (x, d)) ≡ when (is_constant_form form) x
constant_or (constant t e iota) x d (u, c, is) = rw is refl
constant_or (type' t) x d (u, is) = rw is refl
constant_or (typed_variable t) x d (u, y, is) = rw is refl
constant_or (valued_variable e) x d (u, y, is) = rw is refl
constant_or (result_variable number count e) x d (u, y, is) = rw is refl
constant_or (function' ps ts) x d (y, us, rs, is) = rw is refl
constant_or (other t es) x d h = absurd h

type_or : (form : Form) (x : List ℕ) (d : Option Declared) → IsOf form d → option_map (λ t. t.0) (type_in (x, d)) ≡ when (is_type form) x
type_or (constant t e iota) x d (u, c, is) = rw is refl
type_or (type' t) x d (u, is) = rw is refl
type_or (typed_variable t) x d (u, y, is) = rw is refl
type_or (valued_variable e) x d (u, y, is) = rw is refl
type_or (result_variable number count e) x d (u, y, is) = rw is refl
type_or (function' ps ts) x d (y, us, rs, is) = rw is refl
type_or (other t es) x d h = absurd h

variable_or : (files : List (List ℕ)) (o : DeclaredObject) (form : Form) (d : Option Declared) → IsOf form d → option_map (λ (v : typed.Variable). v.name) (variable_in files o d) ≡ when (is_variable form) o.name.text
variable_or files o (constant t e iota) d (u, c, is) = rw is refl
variable_or files o (type' t) d (u, is) = rw is refl
variable_or files o (typed_variable t) d (u, y, is) = rw is refl
variable_or files o (valued_variable e) d (u, y, is) = rw is refl
variable_or files o (result_variable number count e) d (u, y, is) = rw is refl
variable_or files o (function' ps ts) d (y, us, rs, is) = rw is refl
variable_or files o (other t es) d h = absurd h

-- ---- lists

named_option : {A : Type 0} (name : A → List ℕ) (o : Option A) (rest : List A) → map name (cons_option o rest) ≡ cons_option (option_map name o) (map name rest)
named_option name None rest = refl
named_option name (Some x) rest = refl

one_more : {A : Type 0} (name : A → List ℕ) (o : Option A) (rest : List A) (test : Form → Bool) (a : DeclaredObject) (os : List DeclaredObject) → option_map name o ≡ when (test a.form) a.name.text → map name rest ≡ objects_named test os
    → map name (cons_option o rest) ≡ objects_named test (a ∷ os)
one_more name o rest test a os one others =
    named_option name o rest ∙ ap (λ (l : Option (List ℕ)). cons_option l (map name rest)) one ∙ ap (λ l. cons_option (when (test a.form) a.name.text) l) others
    ∙ elim (cases_Bool (test a.form)) [ inl is ↦ rw is refl | inr not_so ↦ rw not_so refl ]

-- what the table has of each object in turn
abbrev Match : List DeclaredObject → Names → Type 0
Match [] [] = Unit {0}
Match [] (n ∷ ns) = ⊥
Match (o ∷ os) [] = ⊥
Match (o ∷ os) (n ∷ ns) = (n.0 ≡ o.name.text) × IsOf o.form n.1 × Match os ns

abbrev Entries : List DeclaredObject → Names → Type 0
Entries os known = (k : ℕ) (o : DeclaredObject) → slice_get os k ≡ Some o → (d : Option Declared) × (slice_get known k ≡ Some (o.name.text, d)) × IsOf o.form d

abbrev first_of : (List ℕ × Option Declared) → Option (List ℕ × Option Declared) → Option Declared
first_of e o = elim o [ None ↦ e.1 | Some x ↦ x.1 ]

match : (os : List DeclaredObject) (known : Names) → Named os known → Entries os known → Match os known
match [] [] same h = tt
match [] (n ∷ ns) same h = absurd cc
match (o ∷ os) [] same h = absurd cc
match (o ∷ os) (n ∷ ns) same h =
    let key : n.0 ≡ o.name.text = cc in
    let rest : Named os ns = cc in
    let e = h 0 o refl in
    let is : n.1 ≡ e.0 = ap (λ o. first_of n o) e.1 in
    (key, subst (λ (d : Option Declared). IsOf o.form d) (sym is) e.2, match os ns rest (λ k p at. h (suc k) p at))

picked : {A : Type 0} (f : List ℕ × Option Declared → Option A) (name : A → List ℕ) (test : Form → Bool) → ((form : Form) (x : List ℕ) (d : Option Declared) → IsOf form d → option_map name (f (x, d)) ≡ when (test form) x)
    → (os : List DeclaredObject) (ns : Names) → Match os ns → map name (filter_map f ns) ≡ objects_named test os
picked f name test each [] [] h = refl
picked f name test each [] (n ∷ ns) h = absurd h
picked f name test each (o ∷ os) [] h = absurd h
picked f name test each (o ∷ os) (n ∷ ns) h =
    one_more name (f n) (filter_map f ns) test o os (each o.form n.0 n.1 h.1 ∙ ap (when (test o.form)) h.0) (picked f name test each os ns h.2)

-- ---- what the table has under the name of an object

lookup_at : (os : List DeclaredObject) (known : Names) (x : List ℕ) (k : ℕ) (e : List ℕ × Option Declared) → Named os known → number_of os x ≡ Some k → slice_get known k ≡ Some e → lookup (bytes_eq x) known ≡ Some e.1
lookup_at [] known x k e same number at = absurd cc
lookup_at (o ∷ os) [] x k e same number at = absurd cc
lookup_at (o ∷ os) (n ∷ ns) x k e same number at =
    let key : n.0 ≡ o.name.text = cc in
    let rest : Named os ns = cc in
    elim (cases_Bool (bytes_eq x o.name.text)) [
      | inl t ↦ (
          let here : bytes_eq x n.0 ≡ true = ap (bytes_eq x) key ∙ t in
          let first : Some 0 ≡ Some k = rw t at number in
          let zeroth : 0 ≡ k = cc (first) in
          let entry : Some n ≡ Some e = ap (slice_get (n ∷ ns)) zeroth ∙ at in
          let is : n ≡ e = cc (entry) in
          rw here (ap (λ (m : List ℕ × Option Declared). Some m.1) is))
      | inr f ↦ (
          let here : bytes_eq x n.0 ≡ false = ap (bytes_eq x) key ∙ f in
          let later : option_map suc (number_of os x) ≡ Some k = rw f at number in
          rw here (elim (number_of os x) as (λ r. number_of os x ≡ r → option_map suc r ≡ Some k → lookup (bytes_eq x) ns ≡ Some e.1) [
            | None ↦ λ is none. cc (none)
            | Some m ↦ λ is some. (
                let next : suc m ≡ k = cc (some) in
                lookup_at os ns x m e rest is (ap (slice_get (n ∷ ns)) next ∙ at))
          ] refl later))
    ]

or_false : (a b : Bool) → (a || b) ≡ false → b ≡ false
or_false true b h = absurd cc
or_false false b h = h

numbered_firsts : (ns : List (List ℕ)) (list os : List DeclaredObject) → Numbered ns list → (all : List (List ℕ)) × Numbered all (list ++ firsts ns os)
numbered_firsts ns list [] before = (ns, subst (λ (l : List DeclaredObject). Numbered ns l) (sym (append-nil list)) before)
numbered_firsts ns list (o ∷ os) before = elim (cases_Bool (bytes_eq o.name.text (codes "_") || list_any (bytes_eq o.name.text) ns)) [
  | inl out ↦ rw out (numbered_firsts ns list os before)
  | inr new ↦ rw new (
      let fresh = or_false (bytes_eq o.name.text (codes "_")) (list_any (bytes_eq o.name.text) ns) new in
      let more = numbered_more ns list o ((bytes_eq-Decides o.name.text o.name.text).1 refl) before fresh in
      let all = numbered_firsts (ns ++ o.name.text ∷ []) (list ++ o ∷ []) os more in
      (all.0, subst (λ (l : List DeclaredObject). Numbered all.0 l) (append_assoc list (o ∷ []) (firsts (ns ++ o.name.text ∷ []) os)) all.1))
]

own_number : (files : List File) (k : ℕ) (o : DeclaredObject) → slice_get (objects_of files) k ≡ Some o → number_of (objects_of files) o.name.text ≡ Some k
own_number files k o at = (numbered_firsts [] [] (objects_from 0 files) numbered_none).1.once k o at

abbrev Declares : Names → List DeclaredObject → Type 0
Declares known os = (k : ℕ) (o : DeclaredObject) → slice_get os k ≡ Some o → (d : Option Declared) × (declared_at known o.name.text ≡ d) × IsOf o.form d

variables_picked : (files : List (List ℕ)) (known : Names) (os : List DeclaredObject) → Declares known os → map (λ (v : typed.Variable). v.name) (variables_in files known os) ≡ objects_named is_variable os
variables_picked files known [] h = refl
variables_picked files known (o ∷ os) h =
    let name : typed.Variable → List ℕ = λ v. v.name in
    let e = h 0 o refl in
    one_more name (variable_in files o (declared_at known o.name.text)) (variables_in files known os) is_variable o os
    (ap (λ (d : Option Declared). option_map name (variable_in files o d)) e.1 ∙ variable_or files o o.form e.0 e.2) (variables_picked files known os (λ k p at. h (suc k) p at))

-- ---- packages

pub constants_whole : (t : Facts) → Given t → map (λ c. c.0) (constants_in t.known) ≡ objects_named is_constant_form t.package.objects
constants_whole t h = picked exported_constant (λ c. c.0) is_constant_form constant_or t.package.objects t.known (match t.package.objects t.known h.table.named (entry_known t h))

pub types_whole : (t : Facts) → Given t → map (λ c. c.0) (types_in t.known) ≡ objects_named is_type t.package.objects
types_whole t h = picked type_in (λ c. c.0) is_type type_or t.package.objects t.known (match t.package.objects t.known h.table.named (entry_known t h))

pub variables_whole : (t : Facts) (files : List File) (names : List (List ℕ)) → Given t → t.package.objects ≡ objects_of files
    → map (λ (v : typed.Variable). v.name) (variables_in names t.known t.package.objects) ≡ objects_named is_variable t.package.objects
variables_whole t files names h are =
    variables_picked names t.known t.package.objects (λ k o at. (
    let e = entry_known t h k o at in
    let number : number_of t.package.objects o.name.text ≡ Some k =
    subst (λ (os : List DeclaredObject). number_of os o.name.text ≡ Some k) (sym are) (own_number files k o (subst (λ (os : List DeclaredObject). slice_get os k ≡ Some o) are at)) in
    (e.0, ap (λ (r : Option (Option Declared)). unwrap_or r None) (lookup_at t.package.objects t.known o.name.text k (o.name.text, e.0) h.table.named number e.1), e.2)))
