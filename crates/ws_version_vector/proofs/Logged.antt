-- Logs that tell the keys of batches: still so with one more, and what they tell of news.
use Rattle.std.specs.Prelude.{◌≡◌, ◌≤◌, ◌<◌, ◌+◌, ◌-◌, ℕ, List, [], ◌∷◌, ◌++◌, map, take, length, slice_index_or}
use Rattle.std.specs.Borrow.{Bor}
use Rattle.std.specs.List.{Contains}
use Rattle.std.proofs.lemmas.Bool.{cases_eq, cases_lt}
use Rattle.std.proofs.lemmas.List.{length_push, get_or_push, get_or_append_left, get_or_default, get_or-take, length-take}
use Rattle.std.proofs.lemmas.List.Elements.{Contains-push, Contains-push_cases, Contains-append_left}
use Rattle.std.proofs.Common.{refl, sym, ap, subst, ◌∙◌, inl, inr, arith}
use Rattle.ws_version_vector.specs.Counts.{count_at}
use Rattle.ws_version_vector.specs.Keyed.{Log, log_at, IsKeyOf, HasKeys, AreKeysBetween, IsPushed, IsLogged, AreLogged, HasNewsAtKeys}
use Rattle.ws_version_vector.specs.Taken.{VectorInvariant}
use Rattle.ws_version_vector.proofs.Reading.{past_reads}
use Rattle.ws_version_vector.proofs.Told.{grown, grown_at, grown_other}

only_one : {A : Type 0} (a x : A) → Contains (a ∷ []) x → a ≡ x
only_one a x c = elim (Contains-push_cases [] a x c) [ inl none ↦ absurd (let lt = none.1 in omega (arith, lt)) | inr same ↦ same ]

-- an element that stands below a number is among as many first ones
pub in_take : {A : Type 0} (l : List A) (m n : ℕ) (x : A) → n < m → n < length l → slice_index_or l n x ≡ x → Contains (take m l) x
in_take l m n x below within is = let long = length-take m l in (n, omega (arith, below, within, long), get_or-take m l n x below ∙ is)

module _ {A : Type 0} (key_of : A → List ℕ) where
  pub none_logged : AreLogged key_of (λ _. []) []
  none_logged j = record { long = omega arith; keyed = λ i a lt c. absurd (omega (arith, lt)) }

  -- a log that begins behind all batches
  begun : (batches : List (List A)) (count : ℕ) → count ≡ length batches → IsLogged key_of batches (count, [])
  begun batches count e = record { long = omega (arith, e); keyed = λ i a lt c. absurd (omega (arith, lt)) }

  -- one more batch of one, and its key
  module _ (batches : List (List A)) (log : Log) (h : IsLogged key_of batches log) (key : List ℕ) (x : A) (is : key ≡ key_of x) where
    keyed_old : (i : ℕ) (a : A) → i < length log.1 → Contains (slice_index_or (batches ++ (x ∷ []) ∷ []) (log.0 + i) []) a → slice_index_or (log.1 ++ key ∷ []) i [] ≡ key_of a
    keyed_old i a lt c =
        let long = h.long in
        let within : log.0 + i < length batches = omega (arith, lt, long) in
        get_or_append_left log.1 (key ∷ []) [] i lt ∙ h.keyed i a lt (subst (λ z. Contains z a) (get_or_append_left batches ((x ∷ []) ∷ []) [] (log.0 + i) within) c)

    keyed_new : (i : ℕ) (a : A) → length log.1 ≡ i → Contains (slice_index_or (batches ++ (x ∷ []) ∷ []) (log.0 + i) []) a → slice_index_or (log.1 ++ key ∷ []) i [] ≡ key_of a
    keyed_new i a e c =
        let long = h.long in
        let last : length batches ≡ log.0 + i = omega (arith, long, e) in
        let one : Contains (x ∷ []) a = subst (λ z. Contains z a) (get_or_push batches (x ∷ []) [] (log.0 + i) last) c in
        get_or_push log.1 key [] i e ∙ is ∙ ap key_of (only_one x a one)

    longer : IsLogged key_of (batches ++ (x ∷ []) ∷ []) (log.0, log.1 ++ key ∷ [])
    longer = record {
      long = let keys = length_push log.1 key in let all = length_push batches (x ∷ []) in let long = h.long in omega (arith, keys, all, long);
      keyed = λ i a lt c. elim (cases_lt i (length log.1)) [
        | inl old ↦ keyed_old i a old c
        | inr last ↦ let keys = length_push log.1 key in keyed_new i a (let below = lt in omega (arith, last, below, keys)) c
      ];
    }

  pub pushed_logged : (lists : ℕ → List (List A)) (k : ℕ) (x : A) (count : ℕ) (key : List ℕ) (logs new : List Log) → AreLogged key_of lists logs → count ≡ length (lists k) → key ≡ key_of x
      → IsPushed k count key logs new → AreLogged key_of (grown lists k (x ∷ [])) new
  pushed_logged lists k x count key logs new h counted is p j =
      let batches : List (List A) = lists k ++ (x ∷ []) ∷ [] in
      let here : IsLogged key_of batches (log_at k new) = elim p.pushed [
        | inl e ↦ subst (λ (l : Log). IsLogged key_of batches l) (sym e) (longer (lists k) (log_at k logs) (h k) key x is)
        | inr e ↦ subst (λ (l : Log). IsLogged key_of batches l) (sym e) (longer (lists k) (count, []) (begun (lists k) count counted) key x is)
      ] in
      elim (cases_eq j k) [
        | inl e ↦ subst (λ z. IsLogged key_of (grown lists k (x ∷ []) z) (log_at z new)) (sym e) (subst (λ z. IsLogged key_of z (log_at k new)) (sym (grown_at lists k (x ∷ []) k refl)) here)
        | inr ne ↦ subst (λ z. IsLogged key_of z (log_at j new)) (sym (grown_other lists k (x ∷ []) j ne)) (subst (λ (l : Log). IsLogged key_of (lists j) l) (sym (p.others j ne)) (h j))
      ]

  -- the batch of that number has the key that its log has
  key_is : (batches : List (List A)) (log : Log) (n : ℕ) (batch : List A) (a : A) (key : List ℕ) → IsLogged key_of batches log → n < length batches → slice_index_or batches n batch ≡ batch → Contains batch a
      → IsKeyOf log n key → key ≡ key_of a
  key_is batches log n batch a key h within is c key_at =
      let above = key_at.0 in
      let number : log.0 + (n - log.0) ≡ n = omega (arith, above) in
      let read : slice_index_or batches (log.0 + (n - log.0)) [] ≡ batch = ap (λ z. slice_index_or batches z []) number ∙ get_or_default batches n [] batch within ∙ is in
      sym key_at.2 ∙ h.keyed (n - log.0) a key_at.1 (subst (λ z. Contains z a) (sym read) c)

  -- what the second took and the first didn't has one of the keys between their counts
  pub news_between : (lists : ℕ → List (List A)) (logs : List Log) (i j : ℕ) (c d : List ℕ) (V W : List A) (keys : List (List ℕ)) → AreLogged key_of lists logs → VectorInvariant lists i c V → VectorInvariant lists j d W
      → AreKeysBetween logs c d keys → HasNewsAtKeys key_of keys V W
  news_between lists logs i j c d V W keys h kept others between a w =
      let told = others.told a w in
      let o : ℕ = told.0 in
      let batch : List A = told.1 in
      let at = told.2 in
      let n : ℕ = at.0 in
      let cut = length-take (count_at o d) (lists o) in
      let lt = at.1 in
      let below : n < count_at o d = omega (arith, lt, cut) in
      let within : n < length (lists o) = omega (arith, lt, cut) in
      let is : slice_index_or (lists o) n batch ≡ batch = sym (get_or-take (count_at o d) (lists o) n batch below) ∙ at.2 in
      elim (cases_lt n (count_at o c)) [
        | inl mine ↦ inl (kept.taken a (o, batch, in_take (lists o) (count_at o c) n batch mine within is, told.3))
        | inr lacks ↦
            let found = between o n lacks below in
            inr (subst (Contains keys) (key_is (lists o) (log_at o logs) n batch a found.0 (h o) within is told.3 found.1) found.2)
      ]

-- ---- keys that are read

in_pushed : (xs : List (List ℕ)) (x y : List ℕ) → Contains xs y → Contains (xs ++ x ∷ []) y
in_pushed xs x y c = Contains-append_left xs (x ∷ []) y c

pub kept_more : (before old new : List (List ℕ)) (key : List ℕ) → new ≡ old ++ key ∷ [] → ((k : List ℕ) → Contains before k → Contains old k) → (k : List ℕ) → Contains before k → Contains new k
kept_more before old new key e h k c = subst (λ z. Contains z k) (sym e) (in_pushed old key k (h k c))

pub keys_more : (log : Log) (from number : ℕ) (old new : List (List ℕ)) (key : List ℕ) → new ≡ old ++ key ∷ [] → HasKeys log from number old → IsKeyOf log number key → HasKeys log from (number + 1) new
keys_more log from number old new key e h is n above below = elim (cases_eq n number) [
  | inl same ↦ (key, subst (λ z. IsKeyOf log z key) (sym same) is, subst (λ z. Contains z key) (sym e) (Contains-push old key))
  | inr ne ↦
      let found = h n above (let b = below in omega (arith, b, ne)) in
      (found.0, found.1, subst (λ z. Contains z found.0) (sym e) (in_pushed old key found.0 found.2))
]

pub keys_none : (log : Log) (from to : ℕ) (keys : List (List ℕ)) → to ≤ from → HasKeys log from to keys
keys_none log from to keys le n above below = absurd (let a = above in let b = below in omega (arith, le, a, b))

keys_kept : (log : Log) (from to : ℕ) (old new : List (List ℕ)) → ((k : List ℕ) → Contains old k → Contains new k) → HasKeys log from to old → HasKeys log from to new
keys_kept log from to old new kept h n above below = let found = h n above below in (found.0, found.1, kept found.0 found.2)

abbrev pub AreKeysFirst : List Log → List ℕ → List ℕ → ℕ → List (List ℕ) → Type 0
AreKeysFirst logs mine theirs n keys = (j : ℕ) → j < n → HasKeys (log_at j logs) (count_at j mine) (count_at j theirs) keys

pub between_more : (logs : List Log) (mine theirs : List ℕ) (i : ℕ) (old new : List (List ℕ)) → AreKeysFirst logs mine theirs i old → ((k : List ℕ) → Contains old k → Contains new k)
    → HasKeys (log_at i logs) (count_at i mine) (count_at i theirs) new → AreKeysFirst logs mine theirs (i + 1) new
between_more logs mine theirs i old new h kept last j below = elim (cases_eq j i) [
  | inl same ↦ subst (λ z. HasKeys (log_at z logs) (count_at z mine) (count_at z theirs) new) (sym same) last
  | inr ne ↦ keys_kept (log_at j logs) (count_at j mine) (count_at j theirs) old new kept (h j (let b = below in omega (arith, b, ne)))
]

pub between_all : (logs : List Log) (mine theirs : List ℕ) (n : ℕ) (keys : List (List ℕ)) → length theirs ≤ n → AreKeysFirst logs mine theirs n keys → AreKeysBetween logs mine theirs keys
between_all logs mine theirs n keys le h j = elim (cases_lt j n) [
  | inl lt ↦ h j lt
  | inr ge ↦ let none = past_reads theirs j 0 (omega (arith, le, ge)) in keys_none (log_at j logs) (count_at j mine) (count_at j theirs) keys (omega (arith, none))
]

-- the keys behind borrows
pub now_push : (xs : List (Bor (List ℕ))) (x : Bor (List ℕ)) → map (λ k. k.now) (xs ++ x ∷ []) ≡ map (λ k. k.now) xs ++ x.now ∷ []
now_push [] x = refl
now_push (y ∷ xs) x = ap (λ l. y.now ∷ l) (now_push xs x)
