-- What is queued while packages come into the order.
use Rattle.std.proofs.Common.{◌≡◌, ℕ, zero, suc, ◌<◌, ◌≤◌, ◌⊎◌, Bool, true, false, List, [], ◌∷◌, length, replicate, Some, refl, sym, ap, ◌∙◌, subst, inl, inr, arith}
use Rattle.std.specs.Prelude.{◌↔◌}
use Rattle.std.proofs.Math.ListN.{set, length-set}
use Rattle.std.specs.BTreeSet.{insert_key}
use Rattle.std.specs.Ordering.{nat_cmp}
use Rattle.std.specs.Global.{Vec}
use Rattle.std.specs.List.{Contains, slice_get}
use Rattle.std.proofs.lemmas.Bool.{cases_eq, cases_lt}
use Rattle.std.proofs.lemmas.Option.{slice_get_within}
use Rattle.ws_reach.proofs.Reached.{contains_get, get_contains}
use Rattle.go_init.specs.declared.queue.Queue.{Queue}
use Rattle.go_init.specs.declared.queue.Waiter.{Waiter}
use Rattle.go_init.specs.Queues.{AreQueued, IsAt, IsFrom, IsLeft, IsPut, IsReady, IsWaiter, NoneLeft, Waits}
use Rattle.go_init.proofs.Keys.{key_from, key_kept, key_there}
use Rattle.go_init.proofs.Members.{contained, one_of}
use Rattle.go_init.proofs.Waiters.{at_other, at_set, emptied_from, emptied_to}

-- ---- what is left

pub left_from : (listed : List Bool) (n k : ℕ) → n < length listed → IsLeft (set listed n true) k → IsLeft listed k × (k ≡ n → ⊥)
left_from listed n k lt left = elim (cases_eq k n) [
  | inl same ↦ (let both : Some true ≡ Some false = sym (at_set listed n true lt) ∙ sym (ap (slice_get (set listed n true)) same) ∙ left in absurd (cc))
  | inr ne ↦ (sym (at_other listed n k true (λ e. omega (arith, ne, e))) ∙ left, λ e. omega (arith, ne, e))
]

pub left_to : (listed : List Bool) (n k : ℕ) → IsLeft listed k → (k ≡ n → ⊥) → IsLeft (set listed n true) k
left_to listed n k left ne = at_other listed n k true ne ∙ left

pub left_at_first : (n k : ℕ) → k < n → IsLeft (replicate n false) k
left_at_first zero k lt = absurd (omega (arith, lt))
left_at_first (suc n) zero lt = refl
left_at_first (suc n) (suc k) lt = left_at_first n k (omega (arith, lt))

none_more : (listed : List Bool) (row : List ℕ) (a b c : ℕ) → NoneLeft listed row a b → NoneLeft listed row b c → NoneLeft listed row a c
none_more listed row a b c first second i j low high at = elim (cases_lt i b) [ inl lt ↦ first i j low lt at | inr le ↦ second i j le high at ]

-- ---- a package joins

module _ (old new : Queue) (row : List ℕ) (number from : ℕ) where
  pub put_waits : (place j : ℕ) → new.listed.items ≡ old.listed.items → new.ready.keys ≡ old.ready.keys → length new.waiting.items ≡ length old.waiting.items
      → slice_get row place ≡ Some j → IsLeft old.listed.items j → NoneLeft old.listed.items row from place
      → ((i : ℕ) (w : Waiter) → IsAt new.waiting.items i w ↔ (IsAt old.waiting.items i w ⊎ ((i ≡ j) × (w ≡ record { importer = number; place = place }))))
      → IsPut old row number from new
  put_waits place j listed ready count at left none added = record {
    listed = listed;
    count = count;
    ready = λ k h. inl (subst (λ l. Contains l k) ready h);
    waiting = λ i w h. elim ((added i w).0 h) [
      | inl o ↦ inl o
      | inr s ↦ inr (record {
        importer = ap (λ (x : Waiter). x.importer) s.1;
        import = subst (IsLeft old.listed.items) (sym s.0) left;
        place = ap (λ (x : Waiter). slice_get row x.place) s.1 ∙ at ∙ ap Some (sym s.0);
        before = subst (NoneLeft old.listed.items row from) (sym (ap (λ (x : Waiter). x.place) s.1)) none;
      })
    ];
    stay_ready = λ k h. subst (λ l. Contains l k) (sym ready) h;
    stay = λ k h. (h.0, h.1, (added h.0 h.1).1 (inl h.2), h.3);
    joins = inr (j, record { importer = number; place = place }, (added j (record { importer = number; place = place })).1 (inr (refl, refl)), refl);
  }

  pub put_ready : new.listed.items ≡ old.listed.items → new.ready.keys ≡ insert_key nat_cmp old.ready.keys number → new.waiting.items ≡ old.waiting.items
      → NoneLeft old.listed.items row from (length row) → IsPut old row number from new
  put_ready listed ready waiting none = record {
    listed = listed;
    count = ap length waiting;
    ready = λ k h. elim (key_from old.ready.keys number k (one_of (insert_key nat_cmp old.ready.keys number) k (subst (λ l. Contains l k) ready h))) [
      | inl o ↦ inl (contained old.ready.keys k o)
      | inr e ↦ inr (e, none)
    ];
    waiting = λ i w h. inl (subst (λ l. IsAt l i w) waiting h);
    stay_ready = λ k h. subst (λ l. Contains l k) (sym ready) (contained (insert_key nat_cmp old.ready.keys number) k (key_kept old.ready.keys number k (one_of old.ready.keys k h)));
    stay = λ k h. (h.0, h.1, subst (λ l. IsAt l h.0 h.1) (sym waiting) h.2, h.3);
    joins = inl (subst (λ l. Contains l number) (sym ready) (contained (insert_key nat_cmp old.ready.keys number) number (key_there old.ready.keys number)));
  }

-- a package of the others joins, and is none of them any more
module _ (rows : List (List ℕ)) (old new : Queue) (row : List ℕ) (number from : ℕ) (Others Rest : ℕ → Type 0)
    (queued : AreQueued rows old Others) (put : IsPut old row number from new) (at : slice_get rows number ≡ Some row)
    (left : IsLeft old.listed.items number) (before : NoneLeft old.listed.items row 0 from) (fewer : (k : ℕ) → Others k → (k ≡ number) ⊎ Rest k) where
  is_ready : NoneLeft old.listed.items row from (length row) → IsReady rows old.listed.items number
  is_ready none j (its, there, has) =
      let both : Some its ≡ Some row = sym there ∙ at in
      let same : its ≡ row = cc in
      let h = subst (λ l. Contains l j) same has in
      none_more old.listed.items row 0 from (length row) before none h.0 j (omega arith) h.1 (contains_get row j h)

  is_waiter : (j : ℕ) (w : Waiter) → IsFrom old.listed.items row number from j w → IsWaiter rows old.listed.items j w
  is_waiter j w f = record {
    importer = subst (IsLeft old.listed.items) (sym f.importer) left;
    import = f.import;
    row = row;
    at = ap (slice_get rows) f.importer ∙ at;
    place = f.place;
    before = none_more old.listed.items row 0 from w.place before f.before;
  }

  pub put_queued : AreQueued rows new Rest
  put_queued = record {
    count = put.count ∙ queued.count ∙ ap length (sym put.listed);
    size = queued.size ∙ ap length (sym put.listed);
    ready = λ k h. subst (λ l. IsLeft l k × IsReady rows l k) (sym put.listed) (elim (put.ready k h) [
      | inl o ↦ queued.ready k o
      | inr s ↦ subst (λ n. IsLeft old.listed.items n × IsReady rows old.listed.items n) (sym s.0) (left, is_ready s.1)
    ]);
    waiting = λ j w h. subst (λ l. IsWaiter rows l j w) (sym put.listed) (elim (put.waiting j w h) [ inl o ↦ queued.waiting j w o | inr f ↦ is_waiter j w f ]);
    all = λ k h. elim (queued.all k (subst (λ l. IsLeft l k) put.listed h)) [
      | inl r ↦ inl (put.stay_ready k r)
      | inr s ↦ elim s [
        | inl w ↦ inr (inl (put.stay k w))
        | inr o ↦ elim (fewer k o) [
          | inl e ↦ subst (λ n. Contains new.ready.keys n ⊎ (Waits new.waiting.items n ⊎ Rest n)) (sym e) (elim put.joins [ inl r ↦ inl r | inr w ↦ inr (inl w) ])
          | inr rest ↦ inr (inr rest)
        ]
      ]
    ];
  }

-- ---- none is left of the others

pub none_other : (rows : List (List ℕ)) (queue : Queue) (Others : ℕ → Type 0) → AreQueued rows queue Others → ((k : ℕ) → IsLeft queue.listed.items k → Others k → ⊥) → AreQueued rows queue (λ k. ⊥)
none_other rows queue Others q none = record {
  count = q.count;
  size = q.size;
  ready = q.ready;
  waiting = q.waiting;
  all = λ k h. elim (q.all k h) [ inl r ↦ inl r | inr s ↦ elim s [ inl w ↦ inr (inl w) | inr o ↦ absurd (none k h o) ] ];
}

-- ---- the first that is ready is taken out

module _ (rows : List (List ℕ)) (old new : Queue) (number : ℕ) (queued : AreQueued rows old (λ k. ⊥)) (listed : new.listed ≡ old.listed) (waiting : new.waiting ≡ old.waiting) (ready : old.ready.keys ≡ number ∷ new.ready.keys) where
  pub taken_queued : AreQueued rows new (λ k. k ≡ number)
  taken_queued = record {
    count = ap (λ (v : Vec (Vec Waiter)). length v.items) waiting ∙ queued.count ∙ ap (λ (v : Vec Bool). length v.items) (sym listed);
    size = queued.size ∙ ap (λ (v : Vec Bool). length v.items) (sym listed);
    ready = λ k h. subst (λ (v : Vec Bool). IsLeft v.items k × IsReady rows v.items k) (sym listed)
        (queued.ready k (subst (λ l. Contains l k) (sym ready) (contained (number ∷ new.ready.keys) k (inr (one_of new.ready.keys k h)))));
    waiting = λ j w h. subst (λ (v : Vec Bool). IsWaiter rows v.items j w) (sym listed) (queued.waiting j w (subst (λ (v : Vec (Vec Waiter)). IsAt v.items j w) waiting h));
    all = λ k h. elim (queued.all k (subst (λ (v : Vec Bool). IsLeft v.items k) listed h)) [
      | inl r ↦ elim (one_of (number ∷ new.ready.keys) k (subst (λ l. Contains l k) ready r)) [ inl e ↦ inr (inr e) | inr o ↦ inl (contained new.ready.keys k o) ]
      | inr s ↦ elim s [ inl w ↦ inr (inl (subst (λ (v : Vec (Vec Waiter)). Waits v.items k) (sym waiting) w)) | inr o ↦ absurd o ]
    ];
  }

-- ---- a package comes into the order

-- a waiter whose import is the one that came, where none before it is left
pub record IsFreed (rows : List (List ℕ)) (listed : List Bool) (number : ℕ) (waiter : Waiter) : Type 0 where
  pub importer : IsLeft listed waiter.importer
  pub row : List ℕ
  pub at : slice_get rows waiter.importer ≡ Some row
  pub place : slice_get row waiter.place ≡ Some number
  pub before : NoneLeft listed row 0 waiter.place

-- the waiters from one on are still to be put
abbrev pub AreToPut : List Waiter → ℕ → ℕ → Type 0
AreToPut waiters i k = (n : ℕ) × (w : Waiter) × (i ≤ n) × (slice_get waiters n ≡ Some w) × (w.importer ≡ k)

module _ (rows : List (List ℕ)) (old new : Queue) (number : ℕ) (waiters empty : Vec Waiter) (queued : AreQueued rows old (λ k. k ≡ number)) (left : IsLeft old.listed.items number)
    (free : IsReady rows old.listed.items number) (taken : ¬ (Contains old.ready.keys number)) (at : slice_get old.waiting.items number ≡ Some waiters) (none : empty.items ≡ [])
    (listed : new.listed.items ≡ set old.listed.items number true) (ready : new.ready.keys ≡ old.ready.keys) (waiting : new.waiting.items ≡ set old.waiting.items number empty) where
  inside : number < length old.listed.items
  inside = slice_get_within old.listed.items number false left

  was_left : (k : ℕ) → IsLeft new.listed.items k → IsLeft old.listed.items k × (k ≡ number → ⊥)
  was_left k h = left_from old.listed.items number k inside (subst (λ l. IsLeft l k) listed h)

  is_left : (k : ℕ) → IsLeft old.listed.items k → (k ≡ number → ⊥) → IsLeft new.listed.items k
  is_left k h ne = subst (λ l. IsLeft l k) (sym listed) (left_to old.listed.items number k h ne)

  none_now : (row : List ℕ) (a b : ℕ) → NoneLeft old.listed.items row a b → NoneLeft new.listed.items row a b
  none_now row a b n i j low high is h = n i j low high is (was_left j h).0

  -- who waits isn't the one that came
  another : (j : ℕ) (w : Waiter) → IsWaiter rows old.listed.items j w → w.importer ≡ number → ⊥
  another j w h e = free j (h.row, ap (slice_get rows) (sym e) ∙ h.at, get_contains h.row w.place j h.place) h.import

  stays : (j : ℕ) (w : Waiter) → (j ≡ number → ⊥) → IsWaiter rows old.listed.items j w → IsWaiter rows new.listed.items j w
  stays j w ne h = record {
    importer = is_left w.importer h.importer (another j w h);
    import = is_left j h.import ne;
    row = h.row;
    at = h.at;
    place = h.place;
    before = none_now h.row 0 w.place h.before;
  }

  was_at : (j : ℕ) (w : Waiter) → IsAt new.waiting.items j w → IsAt old.waiting.items j w × (j ≡ number → ⊥)
  was_at j w h = emptied_from old.waiting.items number empty (slice_get_within old.waiting.items number waiters at) none j w (subst (λ l. IsAt l j w) waiting h)

  pub freed : (n : ℕ) (w : Waiter) → slice_get waiters.items n ≡ Some w → IsFreed rows new.listed.items number w
  freed n w there =
      let h = queued.waiting number w (waiters, at, get_contains waiters.items n w there) in
      record {
        importer = is_left w.importer h.importer (another number w h);
        row = h.row;
        at = h.at;
        place = h.place;
        before = none_now h.row 0 w.place h.before;
      }

  pub listed_queued : AreQueued rows new (AreToPut waiters.items 0)
  listed_queued = record {
    count = ap length waiting ∙ length-set old.waiting.items number empty ∙ queued.count ∙ sym (length-set old.listed.items number true) ∙ ap length (sym listed);
    size = queued.size ∙ sym (length-set old.listed.items number true) ∙ ap length (sym listed);
    ready = λ k h. (
        let was = subst (λ l. Contains l k) ready h in
        let r = queued.ready k was in
        (is_left k r.0 (λ e. taken (subst (λ n. Contains old.ready.keys n) e was)), λ j e l. r.1 j e (was_left j l).0));
    waiting = λ j w h. (let o = was_at j w h in stays j w o.1 (queued.waiting j w o.0));
    all = λ k h. (
        let l = was_left k h in
        elim (queued.all k l.0) [
          | inl r ↦ inl (subst (λ l. Contains l k) (sym ready) r)
          | inr s ↦ elim s [
            | inl w ↦ elim (cases_eq w.0 number) [
              | inl same ↦ (
                  let both : Some w.2.0 ≡ Some waiters = sym w.2.1 ∙ ap (slice_get old.waiting.items) same ∙ at in
                  let it : w.2.0 ≡ waiters = cc in
                  let has = subst (λ (v : Vec Waiter). Contains v.items w.1) it w.2.2 in
                  inr (inr (has.0, w.1, omega arith, contains_get waiters.items w.1 has, w.3)))
              | inr ne ↦ inr (inl (w.0, w.1, subst (λ l. IsAt l w.0 w.1) (sym waiting) (emptied_to old.waiting.items number empty (slice_get_within old.waiting.items number waiters at) none w.0 w.1 w.2 (λ e. omega (arith, ne, e))), w.3))
            ]
            | inr e ↦ absurd (l.1 e)
          ]
        ]);
  }
