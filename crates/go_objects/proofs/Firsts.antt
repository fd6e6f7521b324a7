-- The first object of each name, and its number.
use Rattle.std.proofs.Common.{◌≡◌, ℕ, zero, suc, ◌+◌, ◌<◌, Bool, true, false, cond, nat_lt, List, [], ◌∷◌, ◌++◌, Option, Some, None, map, length, take, get_or, not, append_assoc, Bor, codes, String, string_bytes, string_eq, refl, sym, ap, ◌∙◌, subst, inl, inr, arith}
use Rattle.std.specs.Prelude.{option_map, bytes_eq, position}
use Rattle.std.specs.List.{slice_get, list_any, position_or_len}
use Rattle.std.specs.Global.{Global}
use Rattle.std.specs.Map.{lookup}
use Rattle.std.proofs.lemmas.Slice.Eq.{bytes_eq-Decides}
use Rattle.std.proofs.lemmas.Option.{slice_get-get_or}
use Rattle.indexmap.specs.IndexMap.{IndexMap, get, insert_entry}
use Rattle.indexmap.proofs.CallerLemmas.{insert_entry-new}
use Rattle.std.proofs.lemmas.Bool.{cases_Bool}
use Rattle.std.proofs.lemmas.Bool.Decides.{nat_tests}
use Rattle.std.proofs.lemmas.List.{map-append, take_more}
use Rattle.ws_reach.proofs.Rows.{get_push}
use Rattle.go_expr.specs.declared.known.Declared as declared
use Rattle.go_expr.specs.Views.{declared_of, names_of}
use Rattle.go_objects.specs.Objects.{DeclaredObject, firsts}
use Rattle.go_objects.specs.declared.object.Object as rust
use Rattle.go_objects.specs.Views.{object_view}
use Rattle.go_objects.proofs.Written.{entry_of}
use Rattle.go_objects.proofs.Lookups.{get_mapped}
use Rattle.go_objects.specs.Table.{number_of}
use Rattle.go_objects.specs.Numbers.{Numbered}
use Rattle.go_objects.proofs.Filling.{unknown_entry}

abbrev texts : List DeclaredObject → List (List ℕ)
texts os = map (λ (o : DeclaredObject). o.name.text) os

pub blank : (ns : List (List ℕ)) (o : DeclaredObject) (os : List DeclaredObject) → bytes_eq o.name.text (codes "_") ≡ true → firsts ns (o ∷ os) ≡ firsts ns os
blank ns o os b = rw b refl

pub doubled : (ns : List (List ℕ)) (o : DeclaredObject) (os : List DeclaredObject) → list_any (bytes_eq o.name.text) ns ≡ true → firsts ns (o ∷ os) ≡ firsts ns os
doubled ns o os d = elim (cases_Bool (bytes_eq o.name.text (codes "_"))) [ inl b ↦ rw b refl | inr b ↦ rw (b, d) refl ]

pub taken : (ns : List (List ℕ)) (o : DeclaredObject) (os : List DeclaredObject) → bytes_eq o.name.text (codes "_") ≡ false → list_any (bytes_eq o.name.text) ns ≡ false → firsts ns (o ∷ os) ≡ o ∷ firsts (ns ++ o.name.text ∷ []) os
taken ns o os b d = rw (b, d) refl

pub any_now : (keys : List (Bor (List ℕ))) (x : List ℕ) → list_any (λ k. bytes_eq x k.now) keys ≡ list_any (bytes_eq x) (map (λ k. k.now) keys)
any_now [] x = refl
any_now (k ∷ ks) x = elim (cases_Bool (bytes_eq x k.now)) [ inl t ↦ rw t refl | inr f ↦ rw f (any_now ks x) ]

-- ---- numbers

place : {A : Type 0} → (A → Bool) → List A → Option ℕ
place test [] = None
place test (x ∷ xs) = cond (test x) (Some 0) (option_map suc (place test xs))

further : (q l : ℕ) → cond (nat_lt (1 + q) (suc l)) (Some (1 + q)) None ≡ option_map suc (cond (nat_lt q l) (Some q) None)
further q l = elim (cases_Bool (nat_lt q l)) [
  | inl t ↦ (
      let s : nat_lt (1 + q) (suc l) ≡ true = grind (arith, nat_tests) in
      let e : 1 + q ≡ suc q = omega arith in
      ap (λ b. cond b (Some (1 + q)) None) s ∙ ap Some e ∙ sym (ap (λ b. option_map suc (cond b (Some q) None)) t))
  | inr f ↦ (
      let s : nat_lt (1 + q) (suc l) ≡ false = grind (arith, nat_tests) in
      ap (λ b. cond b (Some (1 + q)) None) s ∙ sym (ap (λ b. option_map suc (cond b (Some q) None)) f))
]

position_place : {A : Type 0} (test : A → Bool) (xs : List A) → position test xs ≡ place test xs
unfolding place
position_place test [] = refl
position_place test (x ∷ xs) = elim (cases_Bool (test x)) [
  | inl t ↦ (let s : nat_lt 0 (suc (length xs)) ≡ true = grind (arith, nat_tests) in rw t (ap (λ b. cond b (Some 0) None) s))
  | inr f ↦ rw f (further (position_or_len test xs) (length xs) ∙ ap (option_map suc) (position_place test xs))
]

place_now : (keys : List (Bor (List ℕ))) (x : List ℕ) → place (λ (k : Bor (List ℕ)). bytes_eq x k.now) keys ≡ place (bytes_eq x) (map (λ k. k.now) keys)
unfolding place
place_now [] x = refl
place_now (k ∷ ks) x = ap (λ r. cond (bytes_eq x k.now) (Some 0) (option_map suc r)) (place_now ks x)

place_number : (os : List DeclaredObject) (x : List ℕ) → place (bytes_eq x) (texts os) ≡ number_of os x
unfolding place
place_number [] x = refl
place_number (o ∷ os) x = ap (λ r. cond (bytes_eq x o.name.text) (Some 0) (option_map suc r)) (place_number os x)

pub number_by_keys : (keys : List (Bor (List ℕ))) (os : List DeclaredObject) (x : List ℕ) → map (λ k. k.now) keys ≡ texts os → position (λ (k : Bor (List ℕ)). bytes_eq x k.now) keys ≡ number_of os x
number_by_keys keys os x same = position_place (λ (k : Bor (List ℕ)). bytes_eq x k.now) keys ∙ place_now keys x ∙ ap (place (bytes_eq x)) same ∙ place_number os x

found_more : (os : List DeclaredObject) (o : DeclaredObject) (x : List ℕ) (n : ℕ) → number_of os x ≡ Some n → number_of (os ++ o ∷ []) x ≡ Some n
found_more [] o x n h = cc
found_more (a ∷ os) o x n h = elim (cases_Bool (bytes_eq x a.name.text)) [
  | inl t ↦ rw t (rw t at h)
  | inr f ↦ rw f (
      let later : option_map suc (number_of os x) ≡ Some n = rw f at h in
      elim (number_of os x) as (λ r. number_of os x ≡ r → option_map suc r ≡ Some n → option_map suc (number_of (os ++ o ∷ []) x) ≡ Some n) [
        | None ↦ λ is none. cc (none)
        | Some m ↦ λ is some. ap (option_map suc) (found_more os o x m is) ∙ some
      ] refl later)
]

last_number : (os : List DeclaredObject) (o : DeclaredObject) (x : List ℕ) → list_any (bytes_eq x) (texts os) ≡ false → bytes_eq x o.name.text ≡ true → number_of (os ++ o ∷ []) x ≡ Some (length os)
last_number [] o x none same = rw same refl
last_number (a ∷ os) o x none same = elim (cases_Bool (bytes_eq x a.name.text)) [
  | inl t ↦ (let no : true ≡ false = rw t at none in cc (no))
  | inr f ↦ rw f (ap (option_map suc) (last_number os o x (rw f at none) same))
]

pub numbered_none : Numbered [] []
numbered_none = record { same = refl; once = λ k o at. cc (at) }

pub numbered_more : (ns : List (List ℕ)) (os : List DeclaredObject) (o : DeclaredObject) → bytes_eq o.name.text o.name.text ≡ true → Numbered ns os → list_any (bytes_eq o.name.text) ns ≡ false → Numbered (ns ++ o.name.text ∷ []) (os ++ o ∷ [])
numbered_more ns os o itself h fresh = record {
  same = ap (λ l. l ++ o.name.text ∷ []) h.same ∙ sym (map-append (λ (a : DeclaredObject). a.name.text) os (o ∷ []));
  once = λ k a at. elim (get_push os o k a at) [
    | inl old ↦ found_more os o a.name.text k (h.once k a old)
    | inr new ↦ subst (λ (b : DeclaredObject). number_of (os ++ o ∷ []) b.name.text ≡ Some k) new.1
        (last_number os o o.name.text (sym (ap (list_any (bytes_eq o.name.text)) h.same) ∙ fresh) itself ∙ ap Some (sym new.0))
  ];
}

-- none of those before an object has its name
pub fresh : (os : List DeclaredObject) (x : List ℕ) (k : ℕ) → number_of os x ≡ Some k → lookup (bytes_eq x) (map unknown_entry (take k os)) ≡ None
fresh os x zero h = refl
fresh [] x (suc k) h = refl
fresh (o ∷ os) x (suc k) h = elim (cases_Bool (bytes_eq x o.name.text)) [
  | inl t ↦ (let no : Some 0 ≡ Some (suc k) = rw t at h in cc (no))
  | inr f ↦ rw f (
      let later : option_map suc (number_of os x) ≡ Some (suc k) = rw f at h in
      elim (number_of os x) as (λ r. number_of os x ≡ r → option_map suc r ≡ Some (suc k) → lookup (bytes_eq x) (map unknown_entry (take k os)) ≡ None) [
        | None ↦ λ is none. cc (none)
        | Some m ↦ λ is some. (let same : m ≡ k = cc (some) in fresh os x k (is ∙ ap Some same))
      ] refl later)
]

-- ---- one object after another

abbrev now : List (Bor (List ℕ)) → List (List ℕ)
now keys = map (λ k. k.now) keys

abbrev Step : List (Bor (List ℕ)) → List rust.Object → List rust.Object → List DeclaredObject → Type 0
Step keys list rest all = Numbered (now keys) (map object_view list) × (map object_view list ++ firsts (now keys) (map object_view rest) ≡ all)

pub next_taken : (keys new : List (Bor (List ℕ))) (k : Bor (List ℕ)) (list longer : List rust.Object) (x : rust.Object) (left rest : List rust.Object) (all : List DeclaredObject) → Step keys list left all →
    left ≡ x ∷ rest → k.now ≡ (object_view x).name.text → bytes_eq k.now (codes "_") ≡ false → list_any (λ (y : Bor (List ℕ)). bytes_eq k.now y.now) keys ≡ false →
    new ≡ cond (list_any (λ (y : Bor (List ℕ)). bytes_eq k.now y.now) keys) keys (keys ++ k ∷ []) → longer ≡ list ++ x ∷ [] → Step new longer rest all
next_taken keys new k list longer x left rest all before is text full fresh grown pushed =
    let o = object_view x in
    let keys_are : new ≡ keys ++ k ∷ [] = grown ∙ ap (λ b. cond b keys (keys ++ k ∷ [])) fresh in
    let names_are : now new ≡ now keys ++ o.name.text ∷ [] = ap now keys_are ∙ map-append (λ (y : Bor (List ℕ)). y.now) keys (k ∷ []) ∙ ap (λ n. now keys ++ n ∷ []) text in
    let list_is : map object_view longer ≡ map object_view list ++ o ∷ [] = ap (map object_view) pushed ∙ map-append object_view list (x ∷ []) in
    let named : bytes_eq o.name.text (codes "_") ≡ false = ap (λ n. bytes_eq n (codes "_")) (sym text) ∙ full in
    let new_name : list_any (bytes_eq o.name.text) (now keys) ≡ false = ap (λ n. list_any (bytes_eq n) (now keys)) (sym text) ∙ sym (any_now keys k.now) ∙ fresh in (
      subst (λ (os : List DeclaredObject). Numbered (now new) os) (sym list_is) (subst (λ (ns : List (List ℕ)). Numbered ns (map object_view list ++ o ∷ [])) (sym names_are)
          (numbered_more (now keys) (map object_view list) o ((bytes_eq-Decides o.name.text o.name.text).1 refl) before.0 new_name)),
      ap (λ (os : List DeclaredObject). os ++ firsts (now new) (map object_view rest)) list_is
          ∙ ap (λ (ns : List (List ℕ)). (map object_view list ++ o ∷ []) ++ firsts ns (map object_view rest)) names_are
          ∙ append_assoc (map object_view list) (o ∷ []) (firsts (now keys ++ o.name.text ∷ []) (map object_view rest))
          ∙ ap (λ (os : List DeclaredObject). map object_view list ++ os) (sym (taken (now keys) o (map object_view rest) named new_name))
          ∙ ap (λ (l : List rust.Object). map object_view list ++ firsts (now keys) (map object_view l)) (sym is)
          ∙ before.1,
    )

pub next_doubled : (keys new : List (Bor (List ℕ))) (k : Bor (List ℕ)) (list : List rust.Object) (x : rust.Object) (left rest : List rust.Object) (all : List DeclaredObject) → Step keys list left all →
    left ≡ x ∷ rest → k.now ≡ (object_view x).name.text → list_any (λ (y : Bor (List ℕ)). bytes_eq k.now y.now) keys ≡ true →
    new ≡ cond (list_any (λ (y : Bor (List ℕ)). bytes_eq k.now y.now) keys) keys (keys ++ k ∷ []) → Step new list rest all
next_doubled keys new k list x left rest all before is text there grown =
    let o = object_view x in
    let keys_are : new ≡ keys = grown ∙ ap (λ b. cond b keys (keys ++ k ∷ [])) there in
    let old_name : list_any (bytes_eq o.name.text) (now keys) ≡ true = ap (λ n. list_any (bytes_eq n) (now keys)) (sym text) ∙ sym (any_now keys k.now) ∙ there in (
      subst (λ (ks : List (Bor (List ℕ))). Numbered (now ks) (map object_view list)) (sym keys_are) before.0,
      ap (λ (ks : List (Bor (List ℕ))). map object_view list ++ firsts (now ks) (map object_view rest)) keys_are
          ∙ ap (λ (os : List DeclaredObject). map object_view list ++ os) (sym (doubled (now keys) o (map object_view rest) old_name))
          ∙ ap (λ (l : List rust.Object). map object_view list ++ firsts (now keys) (map object_view l)) (sym is)
          ∙ before.1,
    )

pub not_false : (a b : Bool) → a ≡ not b → a ≡ true → b ≡ false
not_false a true is t = (let no : true ≡ false = sym t ∙ is in cc (no))
not_false a false is t = refl

pub not_true : (a b : Bool) → a ≡ not b → a ≡ false → b ≡ true
not_true a true is f = refl
not_true a false is f = (let no : true ≡ false = sym is ∙ f in cc (no))

-- ---- a table of which nothing is known

absent_key : (q : List ℕ) (entries : List (String Global × Option declared.Declared)) → lookup (bytes_eq q) (map entry_of entries) ≡ None → lookup (λ k. bytes_eq q (string_bytes k)) entries ≡ None
absent_key q [] h = refl
absent_key q (e ∷ es) h = elim (cases_Bool (bytes_eq q (string_bytes e.0))) [
  | inl t ↦ (let no : Some (option_map declared_of e.1) ≡ None = rw t at h in cc (no))
  | inr f ↦ rw f (absent_key q es (rw f at h))
]

take_mapped : {A B : Type 0} (f : A → B) (k : ℕ) (xs : List A) → take k (map f xs) ≡ map f (take k xs)
take_mapped f zero xs = refl
take_mapped f (suc k) [] = refl
take_mapped f (suc k) (x ∷ xs) = ap (λ l. f x ∷ l) (take_mapped f k xs)

pub unknown_more : {S : Type 0} (m : IndexMap (String Global) (Option declared.Declared) S) (entries : List (String Global × Option declared.Declared)) (key : String Global) (ns : List (List ℕ)) (items : List rust.Object) (i : ℕ) (x : rust.Object) →
    Numbered ns (map object_view items) → i < length items → x ≡ get_or items i x → string_bytes key ≡ (object_view x).name.text → names_of m ≡ map unknown_entry (map object_view (take i items)) →
    entries ≡ insert_entry string_eq m.entries key None → map entry_of entries ≡ map unknown_entry (map object_view (take (i + 1) items))
unknown_more m entries key ns items i x h inside is text before inserted =
    let o = object_view x in
    let there : slice_get (map object_view items) i ≡ Some o = get_mapped object_view items i x (slice_get-get_or items i x inside ∙ ap Some (sym is)) in
    let none : lookup (bytes_eq o.name.text) (names_of m) ≡ None = ap (lookup (bytes_eq o.name.text)) (before ∙ ap (map unknown_entry) (sym (take_mapped object_view i items))) ∙ fresh (map object_view items) o.name.text i (h.once i o there) in
    let absent : get string_eq m key ≡ None = absent_key (string_bytes key) m.entries (ap (λ q. lookup (bytes_eq q) (names_of m)) text ∙ none) in
    ap (map entry_of) (inserted ∙ insert_entry-new string_eq m key None absent)
    ∙ map-append entry_of m.entries ((key, None) ∷ [])
    ∙ ap (λ l. l ++ (string_bytes key, None) ∷ []) before
    ∙ ap (λ q. map unknown_entry (map object_view (take i items)) ++ (q, None) ∷ []) text
    ∙ sym (map-append unknown_entry (map object_view (take i items)) (o ∷ []))
    ∙ ap (map unknown_entry) (sym (map-append object_view (take i items) (x ∷ [])))
    ∙ ap (λ l. map unknown_entry (map object_view l)) (ap (λ y. take i items ++ y ∷ []) is ∙ sym (take_more items i x inside))
