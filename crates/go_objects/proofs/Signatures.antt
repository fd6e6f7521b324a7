-- The names and the types in a signature, one after another.
use Rattle.std.proofs.Common.{◌≡◌, ℕ, suc, ◌+◌, ◌<◌, length, drop, get_or, add-one, drop-cons, Bool, true, false, ◌&&◌, not, List, [], ◌∷◌, ◌++◌, Option, Some, None, map, cond, Bor, append_assoc, refl, sym, ap, ◌∙◌, inl, inr}
use Rattle.std.specs.Prelude.{bytes_eq, option_map}
use Rattle.std.specs.List.{list_any}
use Rattle.std.proofs.lemmas.Bool.{cases_Bool}
use Rattle.std.proofs.lemmas.List.{map-append}
use Rattle.std.proofs.lemmas.Slice.Eq.{bytes_eq-Decides}
use Rattle.go_ast.specs.Trees.{Parameter}
use Rattle.go_types.specs.Types.{Type'}
use Rattle.go_expr.specs.Known.{Scope}
use Rattle.go_expr.specs.Rules.{fine, are_distinct}
use Rattle.go_expr.specs.Verdicts.{chained, type_verdict}
use Rattle.go_objects.specs.Table.{parameters_known}
use Rattle.go_objects.proofs.Firsts.{any_now}

-- the next of a list
pub next_of : {A : Type 0} (xs : List A) (k : ℕ) (x d : A) → k < length xs → x ≡ get_or xs k d → drop k xs ≡ x ∷ drop (k + 1) xs
next_of xs k x d inside is = rw (add-one, drop-cons xs k d) (ap (λ m. m ∷ drop (suc k) xs) (sym is))

-- ---- types

pub more_known : {A : Type 0} (xs ys : List A) (rest : Option (List A)) → chained (Some xs) (chained (Some ys) rest) ≡ chained (Some (xs ++ ys)) rest
more_known xs ys None = refl
more_known xs ys (Some zs) = ap Some (sym (append_assoc xs ys zs))

pub parameter_more : (s : Scope) (old new : List Type') (q : Parameter) (left rest : List Parameter) (t : Type') (all : Option (List Type')) → chained (Some old) (parameters_known s left) ≡ all → left ≡ q ∷ rest →
    fine (type_verdict s q.type) ≡ Some t → new ≡ old ++ map (λ n. t) q.names → chained (Some new) (parameters_known s rest) ≡ all
parameter_more s old new q left rest t all before is known grown =
    ap (λ (l : List Type'). chained (Some l) (parameters_known s rest)) grown
    ∙ sym (more_known old (map (λ n. t) q.names) (parameters_known s rest))
    ∙ ap (λ (o : Option Type'). chained (Some old) (chained (option_map (λ t. map (λ n. t) q.names) o) (parameters_known s rest))) (sym known)
    ∙ ap (λ (l : List Parameter). chained (Some old) (parameters_known s l)) (sym is)
    ∙ before

-- ---- names

and_false : (b : Bool) → (b && false) ≡ false
and_false true = refl
and_false false = refl

and_true : (a b : Bool) → (a && b) ≡ true → (a ≡ true) × (b ≡ true)
and_true true b h = (refl, h)
and_true false b h = cc

any_here : (f : List ℕ → Bool) (xs ys : List (List ℕ)) (x : List ℕ) → f x ≡ true → list_any f (xs ++ x ∷ ys) ≡ true
any_here f [] ys x h = rw h refl
any_here f (y ∷ xs) ys x h = elim (cases_Bool (f y)) [ inl t ↦ rw t refl | inr g ↦ rw g (any_here f xs ys x h) ]

none_more : (f : List ℕ → Bool) (xs : List (List ℕ)) (x : List ℕ) → list_any f xs ≡ false → f x ≡ false → list_any f (xs ++ x ∷ []) ≡ false
none_more f [] x h g = rw g refl
none_more f (y ∷ xs) x h g = elim (cases_Bool (f y)) [ inl t ↦ (let no : true ≡ false = rw t at h in cc (no)) | inr n ↦ rw n (none_more f xs x (rw n at h) g) ]

turned : (x y : List ℕ) → bytes_eq x y ≡ true → bytes_eq y x ≡ true
turned x y t = (bytes_eq-Decides y x).1 (sym ((bytes_eq-Decides x y).0 t))

turned_false : (x y : List ℕ) → bytes_eq x y ≡ false → bytes_eq y x ≡ false
turned_false x y f = elim (cases_Bool (bytes_eq y x)) [ inl t ↦ (let no : true ≡ false = sym (turned y x t) ∙ f in cc (no)) | inr g ↦ g ]

-- a name that stands before
pub doubled_name : (xs ys : List (List ℕ)) (x : List ℕ) → list_any (bytes_eq x) xs ≡ true → are_distinct (xs ++ x ∷ ys) ≡ false
doubled_name [] ys x h = cc
doubled_name (y ∷ xs) ys x h = elim (cases_Bool (bytes_eq x y)) [
  | inl t ↦ rw (any_here (bytes_eq y) xs ys x (turned x y t)) refl
  | inr f ↦ ap (λ b. not (list_any (bytes_eq y) (xs ++ x ∷ ys)) && b) (doubled_name xs ys x (rw f at h)) ∙ and_false (not (list_any (bytes_eq y) (xs ++ x ∷ ys)))
]

not_any : (b : Bool) → not b ≡ true → b ≡ false
not_any true h = cc
not_any false h = refl

-- a name that doesn't
pub new_name : (xs : List (List ℕ)) (x : List ℕ) → are_distinct xs ≡ true → list_any (bytes_eq x) xs ≡ false → are_distinct (xs ++ x ∷ []) ≡ true
new_name [] x d n = refl
new_name (y ∷ xs) x d n =
    let parts = and_true (not (list_any (bytes_eq y) xs)) (are_distinct xs) d in
    elim (cases_Bool (bytes_eq x y)) [
      | inl t ↦ (let no : true ≡ false = rw t at n in cc (no))
      | inr f ↦ rw (none_more (bytes_eq y) xs x (not_any (list_any (bytes_eq y) xs) parts.0) (turned_false x y f)) (new_name xs x parts.1 (rw f at n))
    ]

abbrev now : List (Bor (List ℕ)) → List (List ℕ)
now keys = map (λ k. k.now) keys

-- names of which none stands twice, and others behind them
abbrev pub Differing : List (Bor (List ℕ)) → List (List ℕ) → List (List ℕ) → Type 0
Differing keys rest all = (now keys ++ rest ≡ all) × (are_distinct (now keys) ≡ true)

pub differing_more : (keys new : List (Bor (List ℕ))) (k : Bor (List ℕ)) (left rest all : List (List ℕ)) → Differing keys left all → left ≡ k.now ∷ rest →
    list_any (λ (y : Bor (List ℕ)). bytes_eq k.now y.now) keys ≡ false → new ≡ cond (list_any (λ (y : Bor (List ℕ)). bytes_eq k.now y.now) keys) keys (keys ++ k ∷ []) → Differing new rest all
differing_more keys new k left rest all before is fresh grown =
    let keys_are : new ≡ keys ++ k ∷ [] = grown ∙ ap (λ b. cond b keys (keys ++ k ∷ [])) fresh in
    let names_are : now new ≡ now keys ++ k.now ∷ [] = ap now keys_are ∙ map-append (λ (y : Bor (List ℕ)). y.now) keys (k ∷ []) in (
      ap (λ (l : List (List ℕ)). l ++ rest) names_are ∙ append_assoc (now keys) (k.now ∷ []) rest ∙ ap (λ (l : List (List ℕ)). now keys ++ l) (sym is) ∙ before.0,
      ap are_distinct names_are ∙ new_name (now keys) k.now before.1 (sym (any_now keys k.now) ∙ fresh),
    )

pub differing_not : (keys : List (Bor (List ℕ))) (k : Bor (List ℕ)) (left rest all : List (List ℕ)) → Differing keys left all → left ≡ k.now ∷ rest →
    list_any (λ (y : Bor (List ℕ)). bytes_eq k.now y.now) keys ≡ true → false ≡ are_distinct all
differing_not keys k left rest all before is there =
    sym (doubled_name (now keys) rest k.now (sym (any_now keys k.now) ∙ there)) ∙ ap (λ (l : List (List ℕ)). are_distinct (now keys ++ l)) (sym is) ∙ ap are_distinct before.0
