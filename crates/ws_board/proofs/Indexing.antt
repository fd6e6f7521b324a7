-- What the index's loops come to: jobs that are marked, and jobs that join their ids and leave them.
use Rattle.std.proofs.Common.{◌≡◌, ℕ, ◌+◌, ◌-◌, ◌<◌, Bool, true, false, List, [], ◌∷◌, ◌++◌, length, take, drop, get_or, refl, sym, ap, ◌∙◌, arith, inl, inr, ◌⊎◌, append_assoc, length-append}
use Rattle.std.specs.Prelude.{if◌then◌else◌, Result, Ok, Err, OnErr}
use Rattle.std.specs.Str.{bytes_eq}
use Rattle.std.proofs.lemmas.List.{take_more, take_all, take-append-le, drop_more, append-nil, append_cancel_right}
use Rattle.ws_board.specs.declared.index.Ready.{Ready as AReady}
use Rattle.ws_board.specs.declared.index.Index.{Index}
use Rattle.ws_board.specs.Rows.{those_of}
use Rattle.ws_board.specs.Indexes.{IsSameBut}
use Rattle.ws_board.proofs.Ids.{at_id, off_id, same_id_or}

pub on_err : {T E : Type 0} (P : Type 0) (r : Result T E) → P → OnErr r P
on_err P (Ok x) p = tt
on_err P (Err e) p = p

-- the last job is gone
pub popped : (old new before : List ℕ) (job n : ℕ) → old ≡ before ++ job ∷ [] → n ≡ length old → new ≡ take (n - 1) old → old ≡ new ++ job ∷ []
popped old new before job n is count rest =
    let len : length old ≡ length (before ++ job ∷ []) = ap length is in
    let m : n - 1 ≡ length before = omega (arith, count, len, length-append before (job ∷ [])) in
    let same : new ≡ before = rest ∙ ap (λ i. take i old) m ∙ ap (take (length before)) is ∙ take-append-le (length before) before (job ∷ []) (omega arith) ∙ take_all (length before) before (omega arith) in
    is ∙ ap (λ l. l ++ job ∷ []) (sym same)

-- ---- jobs with their ids

those_cons : (id : List ℕ) (one : AReady) (ready : List AReady) → those_of id (one ∷ ready) ≡ those_of id (one ∷ []) ++ those_of id ready
those_cons id one ready = by_id (bytes_eq one.id id)
  where
    by_id : (b : Bool) → (if b then one.job ∷ those_of id ready else those_of id ready) ≡ (if b then one.job ∷ [] else []) ++ those_of id ready
    by_id true = refl
    by_id false = refl

those_push : (id : List ℕ) (ready : List AReady) (one : AReady) → those_of id (ready ++ one ∷ []) ≡ those_of id ready ++ those_of id (one ∷ [])
those_push id [] one = refl
those_push id (x ∷ xs) one =
    those_cons id x (xs ++ one ∷ []) ∙ ap (λ l. those_of id (x ∷ []) ++ l) (those_push id xs one) ∙ sym (append_assoc (those_of id (x ∷ [])) (those_of id xs) (those_of id (one ∷ [])))
    ∙ ap (λ l. l ++ those_of id (one ∷ [])) (sym (those_cons id x xs))

pub those_taken : (id : List ℕ) (ready : List AReady) (i : ℕ) (d : AReady) → i < length ready → those_of id (take (i + 1) ready) ≡ those_of id (take i ready) ++ those_of id (get_or ready i d ∷ [])
those_taken id ready i d lt = ap (those_of id) (take_more ready i d lt) ∙ those_push id (take i ready) (get_or ready i d)

those_left : (id : List ℕ) (ready : List AReady) (i : ℕ) (d : AReady) → i < length ready → those_of id (drop i ready) ≡ those_of id (get_or ready i d ∷ []) ++ those_of id (drop (i + 1) ready)
those_left id ready i d lt = ap (those_of id) (drop_more ready i d lt) ∙ those_cons id (get_or ready i d) (drop (i + 1) ready)

pub with_one : (before after : List ℕ → List ℕ) (one : AReady) → ((id : List ℕ) → after id ≡ (if bytes_eq one.id id then (before one.id ++ one.job ∷ []) else before id))
    → (id : List ℕ) → after id ≡ before id ++ those_of id (one ∷ [])
with_one before after one is id = by_id (same_id_or one.id id)
  where
    by_id : (one.id ≡ id) ⊎ (one.id ≡ id → ⊥) → after id ≡ before id ++ those_of id (one ∷ [])
    by_id (inl e) =
        is id ∙ at_id one.id id (before one.id ++ one.job ∷ []) (before id) e ∙ ap (λ i. before i ++ one.job ∷ []) e
        ∙ ap (λ l. before id ++ l) (sym (at_id one.id id (one.job ∷ []) [] e))
    by_id (inr ne) =
        is id ∙ off_id one.id id (before one.id ++ one.job ∷ []) (before id) ne ∙ sym (append-nil (before id))
        ∙ ap (λ l. before id ++ l) (sym (off_id one.id id (one.job ∷ []) [] ne))

-- the jobs with each id after one more joined
pub joins_one : (start now after : List ℕ → List ℕ) (ready : List AReady) (n : ℕ) (d : AReady) → n < length ready → ((id : List ℕ) → now id ≡ start id ++ those_of id (take n ready))
    → ((id : List ℕ) → after id ≡ (if bytes_eq (get_or ready n d).id id then (now (get_or ready n d).id ++ (get_or ready n d).job ∷ []) else now id))
    → (id : List ℕ) → after id ≡ start id ++ those_of id (take (n + 1) ready)
joins_one start now after ready n d lt now_is after_is id =
    with_one now after (get_or ready n d) after_is id ∙ ap (λ l. l ++ those_of id (get_or ready n d ∷ [])) (now_is id)
    ∙ append_assoc (start id) (those_of id (take n ready)) (those_of id (get_or ready n d ∷ [])) ∙ ap (λ l. start id ++ l) (sym (those_taken id ready n d lt))

module _ (now base : List ℕ → List ℕ) (ready : List AReady) (n : ℕ) (d : AReady) (lt : n < length ready) (now_is : (id : List ℕ) → now id ≡ base id ++ those_of id (take (n + 1) ready)) where
  abbrev one : AReady
  one = get_or ready n d

  -- the last that joined stands last
  pub last_one : (before : List ℕ) × (now one.id ≡ before ++ one.job ∷ [])
  last_one = (
    base one.id ++ those_of one.id (take n ready),
    now_is one.id ∙ ap (λ l. base one.id ++ l) (those_taken one.id ready n d lt ∙ ap (λ l. those_of one.id (take n ready) ++ l) (at_id one.id one.id (one.job ∷ []) [] refl))
        ∙ sym (append_assoc (base one.id) (those_of one.id (take n ready)) (one.job ∷ [])),
  )

  module _ (after : List ℕ → List ℕ) (left : (id : List ℕ) → now id ≡ (if bytes_eq one.id id then (after one.id ++ one.job ∷ []) else after id)) where
    -- once it left, the others stand last
    pub leaves_one : (id : List ℕ) → after id ≡ base id ++ those_of id (take n ready)
    leaves_one id =
        append_cancel_right (after id) (base id ++ those_of id (take n ready)) (those_of id (one ∷ []))
        (sym (with_one after now one left id) ∙ now_is id ∙ ap (λ l. base id ++ l) (those_taken id ready n d lt) ∙ sym (append_assoc (base id) (those_of id (take n ready)) (those_of id (one ∷ []))))

    pub left_more : (start : List ℕ → List ℕ) → ((id : List ℕ) → start id ≡ now id ++ those_of id (drop (n + 1) ready)) → (id : List ℕ) → start id ≡ after id ++ those_of id (drop n ready)
    left_more start start_is id =
        start_is id ∙ ap (λ l. l ++ those_of id (drop (n + 1) ready)) (with_one after now one left id)
        ∙ append_assoc (after id) (those_of id (one ∷ [])) (those_of id (drop (n + 1) ready)) ∙ ap (λ l. after id ++ l) (sym (those_left id ready n d lt))

-- ---- nothing but the ids' jobs changed

pub same_none : (index : Index) → IsSameBut index index
same_none index = record { runs = λ id. refl; free = refl; running = refl }

pub same_then : (a b c : Index) → IsSameBut a b → IsSameBut b c → IsSameBut a c
same_then a b c p q = record { runs = λ id. q.runs id ∙ p.runs id; free = q.free ∙ p.free; running = q.running ∙ p.running }
