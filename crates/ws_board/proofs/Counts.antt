-- As many ids are new as are different ones among what was added.
use Rattle.std.proofs.Common.{◌≡◌, ℕ, suc, Bool, true, false, ◌||◌, List, [], ◌∷◌, ◌++◌, length, map, refl, sym, ap, ◌∙◌, inl, inr, ◌⊎◌}
use Rattle.std.specs.Prelude.{if◌then◌else◌}
use Rattle.std.specs.Bool.{one_answer}
use Rattle.std.specs.List.{list_any, IsDistinct, AllByRecursion, Contains}
use Rattle.std.specs.Str.{bytes_eq}
use Rattle.std.proofs.lemmas.Slice.Eq.{bytes_eq-Decides}
use Rattle.ws_action.specs.Actions.{Action, action_id}
use Rattle.ws_action.proofs.Members.{none_in_empty, head_or_later, later, at_head}
use Rattle.ws_cache.specs.Count.{count_new}
use Rattle.ws_board.proofs.Later.{first_false, second_false}

-- the id is one of these
abbrev pub known : List (List ℕ) → List ℕ → Bool
known ids id = list_any (bytes_eq id) ids

pub same_itself : (s : List ℕ) → bytes_eq s s ≡ true
same_itself s = (bytes_eq-Decides s s).1 refl

pub same_back : (s t : List ℕ) → bytes_eq s t ≡ bytes_eq t s
same_back s t = one_answer {P = s ≡ t} (bytes_eq s t) (bytes_eq t s) (bytes_eq-Decides s t) (λ e. sym ((bytes_eq-Decides t s).0 e), λ e. (bytes_eq-Decides t s).1 (sym e))

or_true : (b : Bool) → (b || true) ≡ true
or_true true = refl
or_true false = refl

or_swap : (a b c : Bool) → (a || (b || c)) ≡ (b || (a || c))
or_swap true true c = refl
or_swap true false c = refl
or_swap false true c = refl
or_swap false false c = refl

or_cases : (a b : Bool) → (a || b) ≡ true → (a ≡ true) ⊎ (b ≡ true)
or_cases true b h = inl refl
or_cases false b h = inr h

-- a count of new ones depends on the members of what is seen alone
count_same : (s t : List (List ℕ)) → ((z : List ℕ) → known s z ≡ known t z) → (xs : List (List ℕ)) → count_new bytes_eq s xs ≡ count_new bytes_eq t xs
count_same s t h [] = refl
count_same s t h (x ∷ xs) =
    ap (λ b. if b then count_new bytes_eq s xs else suc (count_new bytes_eq (x ∷ s) xs)) (h x)
    ∙ ap (λ n. if known t x then n else suc (count_new bytes_eq (x ∷ s) xs)) (count_same s t h xs)
    ∙ ap (λ n. if known t x then count_new bytes_eq t xs else suc n) (count_same (x ∷ s) (x ∷ t) (λ z. ap (λ b. bytes_eq z x || b) (h z)) xs)

step_seen : (seen xs : List (List ℕ)) (x : List ℕ) (b : Bool) → known seen x ≡ b → count_new bytes_eq seen (x ∷ xs) ≡ (if b then count_new bytes_eq seen xs else suc (count_new bytes_eq (x ∷ seen) xs))
step_seen seen xs x b e = ap (λ c. if c then count_new bytes_eq seen xs else suc (count_new bytes_eq (x ∷ seen) xs)) e

count_none : (xs seen : List (List ℕ)) → ((x : List ℕ) → known xs x ≡ true → known seen x ≡ true) → count_new bytes_eq seen xs ≡ 0
count_none [] seen h = refl
count_none (x ∷ xs) seen h =
    step_seen seen xs x true (h x (ap (λ b. b || known xs x) (same_itself x)))
    ∙ count_none xs seen (λ z k. h z (ap (λ b. bytes_eq z x || b) k ∙ or_true (bytes_eq z x)))

abbrev IsOneMore : List ℕ → List (List ℕ) → List (List ℕ) → Type 0
IsOneMore y xs seen = count_new bytes_eq seen xs ≡ suc (count_new bytes_eq (y ∷ seen) xs)

new_by : (y x : List ℕ) (xs seen : List (List ℕ)) → ((s : List (List ℕ)) → known s y ≡ false → known xs y ≡ true → IsOneMore y xs s) → known seen y ≡ false → known (x ∷ xs) y ≡ true → (a b : Bool) → known seen x ≡ a → bytes_eq y x ≡ b → IsOneMore y (x ∷ xs) seen
new_by y x xs seen more unseen among true true e f =
    let same : y ≡ x = (bytes_eq-Decides y x).0 f in
    let c : true ≡ false = sym (ap (known seen) same ∙ e) ∙ unseen in absurd (cc)
new_by y x xs seen more unseen among true false e f =
    let rest : known xs y ≡ true = sym (ap (λ b. b || known xs y) f) ∙ among in
    step_seen seen xs x true e ∙ more seen unseen rest
    ∙ ap suc (sym (step_seen (y ∷ seen) xs x true (ap (λ b. bytes_eq x y || b) e ∙ or_true (bytes_eq x y))))
new_by y x xs seen more unseen among false true e f =
    let same : y ≡ x = (bytes_eq-Decides y x).0 f in
    step_seen seen xs x false e ∙ ap (λ z. suc (count_new bytes_eq (z ∷ seen) xs)) (sym same)
    ∙ ap suc (sym (step_seen (y ∷ seen) xs x true (ap (λ b. b || known seen x) (same_back x y ∙ f))))
new_by y x xs seen more unseen among false false e f =
    let rest : known xs y ≡ true = sym (ap (λ b. b || known xs y) f) ∙ among in
    let still : known (x ∷ seen) y ≡ false = ap (λ b. b || known seen y) f ∙ unseen in
    let swap : count_new bytes_eq (y ∷ x ∷ seen) xs ≡ count_new bytes_eq (x ∷ y ∷ seen) xs = count_same (y ∷ x ∷ seen) (x ∷ y ∷ seen) (λ z. or_swap (bytes_eq z y) (bytes_eq z x) (known seen z)) xs in
    step_seen seen xs x false e ∙ ap suc (more (x ∷ seen) still rest ∙ ap suc swap)
    ∙ ap suc (sym (step_seen (y ∷ seen) xs x false (ap (λ b. b || known seen x) (same_back x y ∙ f) ∙ e)))

-- what isn't seen but is among xs counts for one
new_one : (y : List ℕ) (xs seen : List (List ℕ)) → known seen y ≡ false → known xs y ≡ true → IsOneMore y xs seen
new_one y [] seen unseen among = absurd (cc)
new_one y (x ∷ xs) seen unseen among = new_by y x xs seen (new_one y xs) unseen among (known seen x) (bytes_eq y x) refl refl

not_known : (y : List ℕ) (ys : List (List ℕ)) → AllByRecursion (λ z. bytes_eq y z ≡ false) ys → known ys y ≡ false
not_known y [] h = refl
not_known y (z ∷ ys) h = ap (λ b. b || known ys y) h.0 ∙ not_known y ys h.1

apart_more : (y : List ℕ) (ys seen : List (List ℕ)) → known ys y ≡ false → ((z : List ℕ) → known (y ∷ ys) z ≡ true → known seen z ≡ false) → (z : List ℕ) → known ys z ≡ true → (b : Bool) → bytes_eq z y ≡ b → known (y ∷ seen) z ≡ false
apart_more y ys seen new apart z k true e =
    let c : true ≡ false = sym k ∙ ap (known ys) ((bytes_eq-Decides z y).0 e) ∙ new in absurd (cc)
apart_more y ys seen new apart z k false e = ap (λ b. b || known seen z) e ∙ apart z (ap (λ b. bytes_eq z y || b) k ∙ or_true (bytes_eq z y))

covered_more : (y : List ℕ) (ys seen : List (List ℕ)) (x : List ℕ) → (known seen x ≡ true) ⊎ (known (y ∷ ys) x ≡ true) → (known (y ∷ seen) x ≡ true) ⊎ (known ys x ≡ true)
covered_more y ys seen x (inl s) = inl (ap (λ b. bytes_eq x y || b) s ∙ or_true (bytes_eq x y))
covered_more y ys seen x (inr k) = elim (or_cases (bytes_eq x y) (known ys x) k) [
  | inl e ↦ inl (ap (λ b. b || known seen x) e)
  | inr l ↦ inr l
]

-- where ys are different ones, none of them is seen, all are among xs, and each of xs is seen or one of ys, as many are new as ys are
pub count_is : (ys seen xs : List (List ℕ)) → IsDistinct bytes_eq ys → ((y : List ℕ) → known ys y ≡ true → known seen y ≡ false) → ((y : List ℕ) → known ys y ≡ true → known xs y ≡ true)
    → ((x : List ℕ) → known xs x ≡ true → (known seen x ≡ true) ⊎ (known ys x ≡ true)) → count_new bytes_eq seen xs ≡ length ys
unfolding IsDistinct
count_is [] seen xs d apart among covered = count_none xs seen (λ x k. elim (covered x k) [ inl s ↦ s | inr n ↦ absurd (cc) ])
count_is (y ∷ ys) seen xs d apart among covered =
    let head : known (y ∷ ys) y ≡ true = ap (λ b. b || known ys y) (same_itself y) in
    let new : known ys y ≡ false = not_known y ys d.0 in
    new_one y xs seen (apart y head) (among y head)
    ∙ ap suc (count_is ys (y ∷ seen) xs d.1
    (λ z k. apart_more y ys seen new apart z k (bytes_eq z y) refl)
    (λ z k. among z (ap (λ b. bytes_eq z y || b) k ∙ or_true (bytes_eq z y)))
    (λ x k. covered_more y ys seen x (covered x k)))

-- ---- one more

all_push : (y z : List ℕ) (ys : List (List ℕ)) → AllByRecursion (λ w. bytes_eq y w ≡ false) ys → bytes_eq y z ≡ false → AllByRecursion (λ w. bytes_eq y w ≡ false) (ys ++ z ∷ [])
all_push y z [] h e = (e, tt)
all_push y z (w ∷ ys) h e = (h.0, all_push y z ys h.1 e)

pub distinct_push : (ys : List (List ℕ)) (z : List ℕ) → IsDistinct bytes_eq ys → known ys z ≡ false → IsDistinct bytes_eq (ys ++ z ∷ [])
unfolding IsDistinct
distinct_push [] z d k = (tt, tt)
distinct_push (y ∷ ys) z d k =
    (all_push y z ys d.0 (same_back y z ∙ first_false (bytes_eq z y) (known ys z) k), distinct_push ys z d.1 (second_false (bytes_eq z y) (known ys z) k))

pub distinct_none : IsDistinct bytes_eq []
unfolding IsDistinct
distinct_none = tt

-- ---- ids of actions

pub id_known : (E : List Action) (id : List ℕ) (a : Action) → Contains E a → action_id a ≡ id → known (map action_id E) id ≡ true
id_known [] id a c e = absurd (none_in_empty a c)
id_known (x ∷ rest) id a c e = elim (head_or_later x rest a c) [
  | inl same ↦ ap (λ b. b || known (map action_id rest) id) ((bytes_eq-Decides id (action_id x)).1 (sym e ∙ ap action_id (sym same)))
  | inr l ↦ ap (λ b. bytes_eq id (action_id x) || b) (id_known rest id a l e) ∙ or_true (bytes_eq id (action_id x))
]

pub known_id : (E : List Action) (id : List ℕ) → known (map action_id E) id ≡ true → (a : Action) × Contains E a × (action_id a ≡ id)
known_id [] id k = absurd (cc)
known_id (x ∷ rest) id k = elim (or_cases (bytes_eq id (action_id x)) (known (map action_id rest) id) k) [
  | inl e ↦ (x, at_head rest x x refl, sym ((bytes_eq-Decides id (action_id x)).0 e))
  | inr l ↦ (let r = known_id rest id l in (r.0, later x rest r.0 r.1, r.2))
]

pub not_true : (b : Bool) → (b ≡ true → ⊥) → b ≡ false
not_true true h = absurd (h refl)
not_true false h = refl
