-- Names that are added to a list one after another, and the number of each.
use Rattle.std.proofs.Common.{◌≡◌, ℕ, suc, ◌+◌, Bool, true, false, cond, nat_lt, ◌&&◌, not, List, [], ◌∷◌, ◌++◌, Option, Some, None, map, length, is_some, append_assoc, Bor, refl, sym, ap, ◌∙◌, inl, inr, arith}
use Rattle.std.specs.Prelude.{option_map, position}
use Rattle.std.specs.List.{list_any, position_or_len}
use Rattle.std.specs.Map.{lookup}
use Rattle.std.specs.Str.{bytes_eq}
use Rattle.std.proofs.lemmas.Bool.{cases_Bool}
use Rattle.std.proofs.lemmas.Bool.Decides.{nat_tests}
use Rattle.std.proofs.lemmas.List.{map-append}
use Rattle.std.proofs.lemmas.Slice.Eq.{bytes_eq-Decides}
use Rattle.indexmap.specs.IndexMap.{IndexMap, get, insert_entry}
use Rattle.indexmap.proofs.CallerLemmas.{insert_entry-new}
use Rattle.go_scope.specs.Index.{are_distinct, AreFirsts}
use Rattle.go_scope.proofs.Lookups.{or_else, lookup_append}

-- ---- the first that passes a test

place : {A : Type 0} → (A → Bool) → List A → Option ℕ
place test [] = None
place test (x ∷ xs) = cond (test x) (Some 0) (option_map suc (place test xs))

further : (q l : ℕ) → cond (nat_lt (1 + q) (suc l)) (Some (1 + q)) None ≡ option_map suc (cond (nat_lt q l) (Some q) None)
further q l = elim (cases_Bool (nat_lt q l)) [
  | inl t ↦ (
      let s : nat_lt (1 + q) (suc l) ≡ true = grind (arith, nat_tests) in
      let e : 1 + q ≡ suc q = omega arith in
      ap (λ b. cond b (Some (1 + q)) None) s ∙ ap Some e ∙ sym (ap (λ b. option_map suc (cond b (Some q) None)) t))
  | inr f ↦ (
      let s : nat_lt (1 + q) (suc l) ≡ false = grind (arith, nat_tests) in
      ap (λ b. cond b (Some (1 + q)) None) s ∙ sym (ap (λ b. option_map suc (cond b (Some q) None)) f))
]

position_place : {A : Type 0} (test : A → Bool) (xs : List A) → position test xs ≡ place test xs
unfolding place
position_place test [] = refl
position_place test (x ∷ xs) = elim (cases_Bool (test x)) [
  | inl t ↦ (let s : nat_lt 0 (suc (length xs)) ≡ true = grind (arith, nat_tests) in rw t (ap (λ b. cond b (Some 0) None) s))
  | inr f ↦ rw f (further (position_or_len test xs) (length xs) ∙ ap (option_map suc) (position_place test xs))
]

some_suc : (n : Option ℕ) → is_some (option_map suc n) ≡ is_some n
some_suc None = refl
some_suc (Some n) = refl

some_place : {A : Type 0} (test : A → Bool) (xs : List A) → is_some (place test xs) ≡ list_any test xs
unfolding place
some_place test [] = refl
some_place test (x ∷ xs) = elim (cases_Bool (test x)) [
  | inl t ↦ rw t refl
  | inr f ↦ rw f (some_suc (place test xs) ∙ some_place test xs)
]

-- there is a first where there is one
pub is_some_position : {A : Type 0} (test : A → Bool) (xs : List A) → is_some (position test xs) ≡ list_any test xs
is_some_position test xs = ap is_some (position_place test xs) ∙ some_place test xs

suc_or_else : (a : Option ℕ) (b : Option ℕ) → option_map suc (or_else a b) ≡ or_else (option_map suc a) (option_map suc b)
suc_or_else None b = refl
suc_or_else (Some a) b = refl

suc_cond : (b : Bool) (n : ℕ) → option_map suc (cond b (Some n) None) ≡ cond b (Some (suc n)) None
suc_cond true n = refl
suc_cond false n = refl

place_append : {A : Type 0} (test : A → Bool) (xs : List A) (y : A) → place test (xs ++ y ∷ []) ≡ or_else (place test xs) (cond (test y) (Some (length xs)) None)
unfolding place
place_append test [] y = refl
place_append test (x ∷ xs) y = elim (cases_Bool (test x)) [
  | inl t ↦ rw t refl
  | inr f ↦ rw f (
      ap (option_map suc) (place_append test xs y)
      ∙ suc_or_else (place test xs) (cond (test y) (Some (length xs)) None)
      ∙ ap (or_else (option_map suc (place test xs))) (suc_cond (test y) (length xs)))
]

position_append : {A : Type 0} (test : A → Bool) (xs : List A) (y : A) → position test (xs ++ y ∷ []) ≡ or_else (position test xs) (cond (test y) (Some (length xs)) None)
position_append test xs y =
    position_place test (xs ++ y ∷ []) ∙ place_append test xs y
    ∙ ap (λ o. or_else o (cond (test y) (Some (length xs)) None)) (sym (position_place test xs))

-- ---- an index

abbrev Key : Type 0
Key = Bor (List ℕ)

abbrev seen : Key × ℕ → List ℕ × ℕ
seen e = ((e.0).now, e.1)

abbrev same_key : Key → Key → Bool
same_key a b = bytes_eq a.now b.now

pub lookup_seen : (x : List ℕ) (entries : List (Key × ℕ)) → lookup (bytes_eq x) (map seen entries) ≡ lookup (λ k. bytes_eq x k.now) entries
lookup_seen x [] = refl
lookup_seen x (e ∷ es) = ap (λ rest. cond (bytes_eq x (e.0).now) (Some e.1) rest) (lookup_seen x es)

-- a name that isn't there takes the next number
pub first_added : {S : Type 0} (m : IndexMap Key ℕ S) (name : Key) (number : ℕ) (names new_names : List (List ℕ)) (entries : List (Key × ℕ)) → AreFirsts m.entries names → is_some (position (bytes_eq name.now) names) ≡ false
    → number ≡ length names → entries ≡ insert_entry same_key m.entries name number → new_names ≡ names ++ name.now ∷ [] → AreFirsts entries new_names
first_added m name number names new_names entries before new is inserted grown = λ x.
    let none : position (bytes_eq name.now) names ≡ None = not_some (position (bytes_eq name.now) names) new in
    let absent : get same_key m name ≡ None = sym (lookup_seen name.now m.entries) ∙ before name.now ∙ none in
    let last : entries ≡ m.entries ++ (name, length names) ∷ [] = inserted ∙ insert_entry-new same_key m name number absent ∙ ap (λ n. m.entries ++ (name, n) ∷ []) is in
    ap (λ l. lookup (bytes_eq x) (map seen l)) last
    ∙ ap (lookup (bytes_eq x)) (map-append seen m.entries ((name, length names) ∷ []))
    ∙ lookup_append (bytes_eq x) (map seen m.entries) ((name.now, length names) ∷ [])
    ∙ ap (λ o. or_else o (cond (bytes_eq x name.now) (Some (length names)) None)) (before x)
    ∙ sym (position_append (bytes_eq x) names name.now)
    ∙ ap (position (bytes_eq x)) (sym grown)
  where
    not_some : {A : Type 0} (o : Option A) → is_some o ≡ false → o ≡ None
    not_some None h = refl
    not_some (Some a) h = cc

hidden : (o : Option ℕ) (b : Bool) (n : ℕ) → is_some o ≡ true → or_else o (cond b (Some n) None) ≡ o
hidden None b n h = cc
hidden (Some a) b n h = refl

no_more : (o : Option ℕ) → or_else o None ≡ o
no_more None = refl
no_more (Some a) = refl

-- a name that is there keeps its number
pub first_kept : (name : Key) (names new_names : List (List ℕ)) (entries : List (Key × ℕ)) → AreFirsts entries names → is_some (position (bytes_eq name.now) names) ≡ true → new_names ≡ names ++ name.now ∷ [] → AreFirsts entries new_names
first_kept name names new_names entries before there grown = λ x.
    before x ∙ sym (ap (position (bytes_eq x)) grown ∙ position_append (bytes_eq x) names name.now ∙ elim (cases_Bool (bytes_eq x name.now)) [
      | inl t ↦ hidden (position (bytes_eq x) names) (bytes_eq x name.now) (length names) (ap (λ y. is_some (position (bytes_eq y) names)) ((bytes_eq-Decides x name.now).0 t) ∙ there)
      | inr f ↦ rw f (no_more (position (bytes_eq x) names))
    ])

-- ---- names that differ

and_false : (b : Bool) → (b && false) ≡ false
and_false true = refl
and_false false = refl

and_true : (a b : Bool) → (a && b) ≡ true → (a ≡ true) × (b ≡ true)
and_true true b h = (refl, h)
and_true false b h = cc

any_here : (f : List ℕ → Bool) (xs ys : List (List ℕ)) (x : List ℕ) → f x ≡ true → list_any f (xs ++ x ∷ ys) ≡ true
any_here f [] ys x h = rw h refl
any_here f (y ∷ xs) ys x h = elim (cases_Bool (f y)) [ inl t ↦ rw t refl | inr g ↦ rw g (any_here f xs ys x h) ]

none_more : (f : List ℕ → Bool) (xs : List (List ℕ)) (x : List ℕ) → list_any f xs ≡ false → f x ≡ false → list_any f (xs ++ x ∷ []) ≡ false
none_more f [] x h g = rw g refl
none_more f (y ∷ xs) x h g = elim (cases_Bool (f y)) [ inl t ↦ (let no : true ≡ false = rw t at h in cc (no)) | inr n ↦ rw n (none_more f xs x (rw n at h) g) ]

turned : (x y : List ℕ) → bytes_eq x y ≡ true → bytes_eq y x ≡ true
turned x y t = (bytes_eq-Decides y x).1 (sym ((bytes_eq-Decides x y).0 t))

turned_false : (x y : List ℕ) → bytes_eq x y ≡ false → bytes_eq y x ≡ false
turned_false x y f = elim (cases_Bool (bytes_eq y x)) [ inl t ↦ (let no : true ≡ false = sym (turned y x t) ∙ f in cc (no)) | inr g ↦ g ]

-- a name that stands before
doubled_name : (xs ys : List (List ℕ)) (x : List ℕ) → list_any (bytes_eq x) xs ≡ true → are_distinct (xs ++ x ∷ ys) ≡ false
doubled_name [] ys x h = cc
doubled_name (y ∷ xs) ys x h = elim (cases_Bool (bytes_eq x y)) [
  | inl t ↦ rw (any_here (bytes_eq y) xs ys x (turned x y t)) refl
  | inr f ↦ ap (λ b. not (list_any (bytes_eq y) (xs ++ x ∷ ys)) && b) (doubled_name xs ys x (rw f at h)) ∙ and_false (not (list_any (bytes_eq y) (xs ++ x ∷ ys)))
]

not_any : (b : Bool) → not b ≡ true → b ≡ false
not_any true h = cc
not_any false h = refl

-- a name that doesn't
new_name : (xs : List (List ℕ)) (x : List ℕ) → are_distinct xs ≡ true → list_any (bytes_eq x) xs ≡ false → are_distinct (xs ++ x ∷ []) ≡ true
new_name [] x d n = refl
new_name (y ∷ xs) x d n =
    let parts = and_true (not (list_any (bytes_eq y) xs)) (are_distinct xs) d in
    elim (cases_Bool (bytes_eq x y)) [
      | inl t ↦ (let no : true ≡ false = rw t at n in cc (no))
      | inr f ↦ rw (none_more (bytes_eq y) xs x (not_any (list_any (bytes_eq y) xs) parts.0) (turned_false x y f)) (new_name xs x parts.1 (rw f at n))
    ]

-- names of which none stands twice, and others behind them
abbrev pub Differing : List (List ℕ) → List (List ℕ) → List (List ℕ) → Type 0
Differing names rest all = (names ++ rest ≡ all) × (are_distinct names ≡ true)

pub differing_more : (names left rest all : List (List ℕ)) (x : List ℕ) → Differing names left all → left ≡ x ∷ rest → is_some (position (bytes_eq x) names) ≡ false → Differing (names ++ x ∷ []) rest all
differing_more names left rest all x before is new = (
  append_assoc names (x ∷ []) rest ∙ ap (λ (l : List (List ℕ)). names ++ l) (sym is) ∙ before.0,
  new_name names x before.1 (sym (is_some_position (bytes_eq x) names) ∙ new),
)

pub differing_not : (names left rest all : List (List ℕ)) (x : List ℕ) → Differing names left all → left ≡ x ∷ rest → is_some (position (bytes_eq x) names) ≡ true → false ≡ are_distinct all
differing_not names left rest all x before is there =
    sym (doubled_name names rest x (sym (is_some_position (bytes_eq x) names) ∙ there)) ∙ ap (λ (l : List (List ℕ)). are_distinct (names ++ l)) (sym is) ∙ ap are_distinct before.0

no_rest : (xs : List (List ℕ)) → xs ++ [] ≡ xs
no_rest [] = refl
no_rest (x ∷ xs) = ap (λ l. x ∷ l) (no_rest xs)

pub differing_all : (names all : List (List ℕ)) → Differing names [] all → true ≡ are_distinct all
differing_all names all done = sym done.1 ∙ ap are_distinct (sym (no_rest names) ∙ done.0)
