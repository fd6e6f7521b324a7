-- How many of some actions are new hangs on which they are.
use Rattle.std.proofs.Common.{◌≡◌, ℕ, Bool, true, false, ◌||◌, List, [], ◌∷◌, map, refl, sym, ap, ◌∙◌, inl, inr, ◌⊎◌}
use Rattle.std.specs.List.{IsDistinct, AllByRecursion, Contains}
use Rattle.std.specs.Str.{bytes_eq}
use Rattle.std.proofs.lemmas.Slice.Eq.{bytes_eq-Decides}
use Rattle.ws_map.specs.Kept.{SameMembers}
use Rattle.ws_action.specs.Actions.{Action, action_id}
use Rattle.ws_board.proofs.Counts.{known, count_is, distinct_none, id_known, known_id}
use Rattle.ws_board.proofs.Later.{first_false, second_false}
use Rattle.ws_cache.specs.Count.{count_new, compiled_count}

abbrev Id : Type 0
Id = List ℕ

true_or : (a b : Bool) → (a || b) ≡ true → (a ≡ true) ⊎ (b ≡ true)
true_or true b h = inl refl
true_or false b h = inr h

or_true : (a b : Bool) → b ≡ true → (a || b) ≡ true
or_true true b h = refl
or_true false b h = h

or_first : (a b : Bool) → a ≡ true → (a || b) ≡ true
or_first true b h = refl
or_first false b h = cc (h)

all_differ : (x : Id) (ys : List Id) → known ys x ≡ false → AllByRecursion (λ y. bytes_eq x y ≡ false) ys
all_differ x [] h = tt
all_differ x (y ∷ ys) h = (first_false (bytes_eq x y) (known ys x) h, all_differ x ys (second_false (bytes_eq x y) (known ys x) h))

-- the new ones among some, each once
record News (seen xs news : List Id) : Type 0 where
  distinct : IsDistinct bytes_eq news
  apart : (y : Id) → known news y ≡ true → known seen y ≡ false
  among : (y : Id) → known news y ≡ true → known xs y ≡ true
  covered : (x : Id) → known xs x ≡ true → (known seen x ≡ true) ⊎ (known news x ≡ true)

news_more : (seen xs news : List Id) (x : Id) (b : Bool) → (known seen x || known news x) ≡ b → News seen xs news → (more : List Id) × News seen (x ∷ xs) more
unfolding IsDistinct
news_more seen xs news x true e h = (
  news,
  record {
    distinct = h.distinct;
    apart = h.apart;
    among = λ y k. or_true (bytes_eq y x) (known xs y) (h.among y k);
    covered = λ y k. elim (true_or (bytes_eq y x) (known xs y) k) [
      | inl same ↦ (
          let is : y ≡ x = (bytes_eq-Decides y x).0 same in
          elim (true_or (known seen x) (known news x) e) [
            | inl s ↦ inl (ap (known seen) is ∙ s)
            | inr n ↦ inr (ap (known news) is ∙ n)
          ])
      | inr l ↦ h.covered y l
    ];
  },
)
news_more seen xs news x false e h = (
  x ∷ news,
  record {
    distinct = (all_differ x news (second_false (known seen x) (known news x) e), h.distinct);
    apart = λ y k. elim (true_or (bytes_eq y x) (known news y) k) [
      | inl same ↦ ap (known seen) ((bytes_eq-Decides y x).0 same) ∙ first_false (known seen x) (known news x) e
      | inr l ↦ h.apart y l
    ];
    among = λ y k. elim (true_or (bytes_eq y x) (known news y) k) [
      | inl same ↦ or_first (bytes_eq y x) (known xs y) same
      | inr l ↦ or_true (bytes_eq y x) (known xs y) (h.among y l)
    ];
    covered = λ y k. elim (true_or (bytes_eq y x) (known xs y) k) [
      | inl same ↦ inr (or_first (bytes_eq y x) (known news y) same)
      | inr l ↦ elim (h.covered y l) [
        | inl s ↦ inl s
        | inr n ↦ inr (or_true (bytes_eq y x) (known news y) n)
      ]
    ];
  },
)

news_of : (seen xs : List Id) → (news : List Id) × News seen xs news
news_of seen [] = ([], record { distinct = distinct_none; apart = λ y k. cc (k); among = λ y k. k; covered = λ x k. inr k })
news_of seen (x ∷ xs) = let rest = news_of seen xs in news_more seen xs rest.0 x (known seen x || known rest.0 x) refl rest.1

same_new : (seen xs ys : List Id) → ((x : Id) → known xs x ≡ true → known ys x ≡ true) → ((y : Id) → known ys y ≡ true → known xs y ≡ true) → count_new bytes_eq seen xs ≡ count_new bytes_eq seen ys
same_new seen xs ys to from =
    let n = news_of seen xs in
    count_is n.0 seen xs n.1.distinct n.1.apart n.1.among n.1.covered
    ∙ sym (count_is n.0 seen ys n.1.distinct n.1.apart (λ y k. to y (n.1.among y k)) (λ y k. n.1.covered y (from y k)))

known_by : (A B : List Action) → ((a : Action) → Contains A a → Contains B a) → (id : Id) → known (map action_id A) id ≡ true → known (map action_id B) id ≡ true
known_by A B h id k = let a = known_id A id k in id_known B id a.0 (h a.0 a.1) a.2

pub same_count : (E A B : List Action) → SameMembers A B → compiled_count E A ≡ compiled_count E B
same_count E A B same = same_new (map action_id E) (map action_id A) (map action_id B) (known_by A B (λ a. (same a).0)) (known_by B A (λ a. (same a).1))
