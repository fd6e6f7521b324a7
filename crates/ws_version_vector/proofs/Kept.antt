-- Replicas that took what their counts tell: still so after each step.
use Rattle.std.specs.Prelude.{◌≡◌, ◌≢◌, ◌≤◌, ◌<◌, ◌+◌, ℕ, Bool, true, false, List, [], ◌∷◌, ◌++◌, take, length}
use Rattle.std.specs.List.{Contains}
use Rattle.std.proofs.lemmas.List.{take_all}
use Rattle.std.proofs.lemmas.List.Elements.{Contains-append_left, Contains-append_right, Contains-append_cases, Contains-push, Contains-push_cases}
use Rattle.std.proofs.lemmas.Bool.{cases_eq}
use Rattle.std.proofs.Common.{refl, sym, ap, subst, ◌∙◌, inl, inr, arith}
use Rattle.ws_version_vector.specs.Counts.{count_at, counts_at, IsBelow, IsMost, IsRaised, ChangedAt, AreShared, AreMaximal, is_among, greatest_count, IsNews}
use Rattle.ws_version_vector.specs.declared.vector.News.{News}
use Rattle.ws_version_vector.specs.declared.vector.News.TheVariants.{Nothing, Everything, Something}
use Rattle.ws_version_vector.specs.Taken.{IsCounted, VectorInvariant, VectorsInvariant, replica_took, IsSubset, Brings}
use Rattle.ws_version_vector.proofs.Told.{left_most, right_most, raised_above, of_take, take_longer, told_below, of_most, grown, grown_at, grown_other, grown_long, grown_longer, grown_told, greatest_above, greatest_within, greatest_is}

none_taken : {A : Type 0} (l : List A) (a : A) → ¬ (Contains (take 0 l) a)
none_taken l a c = absurd (omega (arith, c.1))

by_bool : {P : Type 0} (b : Bool) → (b ≡ true → P) → (b ≡ false → P) → P
by_bool true f g = f refl
by_bool false f g = g refl

module _ {A : Type 0} where
  -- one whose counts are all below another's took nothing that the other didn't
  pub within_below : (lists : ℕ → List (List A)) (i j : ℕ) (c d : List ℕ) (V W : List A) → VectorInvariant lists i c V → VectorInvariant lists j d W → IsBelow c d → IsSubset V W
  within_below lists i j c d V W h k le = λ a v. k.taken a (told_below lists c d a le (h.told a v))

  kept_by : (lists : ℕ → List (List A)) (k : ℕ) (c d : List ℕ) (V W : List A) → d ≡ c → W ≡ V → VectorInvariant lists k c V → VectorInvariant lists k d W
  kept_by lists k c d V W e f h = subst (λ (z : List ℕ). VectorInvariant lists k z W) (sym e) (subst (λ (z : List A). VectorInvariant lists k c z) (sym f) h)

  pub kept_merged : (lists : ℕ → List (List A)) (i j : ℕ) (c d e : List ℕ) (V W : List A) → VectorInvariant lists i c V → VectorInvariant lists j d W → IsMost c d e → VectorInvariant lists i e (V ++ W)
  kept_merged lists i j c d e V W h k most = record {
    told = λ a v. elim (Contains-append_cases V W a v) [
      | inl l ↦ told_below lists c e a (left_most c d e most) (h.told a l)
      | inr r ↦ told_below lists d e a (right_most c d e most) (k.told a r)
    ];
    taken = λ a t. elim (of_most lists c d e a most t) [
      | inl l ↦ Contains-append_left V W a (h.taken a l)
      | inr r ↦ Contains-append_right V W a (k.taken a r)
    ];
    within = λ x. let m = most x in let p = h.within x in let q = k.within x in omega (arith, m, p, q);
    own = let m = most i in let p = h.own in let q = k.within i in omega (arith, m, p, q);
  }

  kept_other : (lists : ℕ → List (List A)) (k : ℕ) (batch : List A) (i : ℕ) (c : List ℕ) (W : List A) → VectorInvariant lists i c W → i ≢ k → VectorInvariant (grown lists k batch) i c W
  kept_other lists k batch i c W h ne = record {
    told = λ a v. let t = h.told a v in (t.0, t.1, subst (λ z. Contains z t.1) (sym (grown_told lists k batch c t.0 (h.within t.0))) t.2, t.3);
    taken = λ a t. h.taken a (t.0, t.1, subst (λ z. Contains z t.1) (grown_told lists k batch c t.0 (h.within t.0)) t.2, t.3);
    within = λ j. let p = h.within j in let q = grown_longer lists k batch j in omega (arith, p, q);
    own = h.own ∙ ap length (sym (grown_other lists k batch i ne));
  }

  -- one more batch of its own
  module _ (lists : ℕ → List (List A)) (k : ℕ) (batch : List A) (c d : List ℕ) (W : List A) (h : VectorInvariant lists k c W) (up : IsRaised k c d) where
    old_told : (a : A) → IsCounted lists c a → IsCounted (grown lists k batch) d a
    old_told a t = (
      t.0,
      t.1,
      take_longer (count_at t.0 c) (count_at t.0 d) (grown lists k batch t.0) t.1 (raised_above k c d up t.0)
          (subst (λ z. Contains z t.1) (sym (grown_told lists k batch c t.0 (h.within t.0))) t.2),
      t.3,
    )

    new_told : (a : A) → Contains batch a → IsCounted (grown lists k batch) d a
    new_told a v =
        let long = grown_long lists k batch k refl in
        let up_by = up.raised in
        let own = h.own in
        let whole = take_all (count_at k d) (grown lists k batch k) (omega (arith, long, up_by, own)) in
        (k, batch, subst (λ z. Contains z batch) (sym (whole ∙ grown_at lists k batch k refl)) (Contains-push (lists k) batch), v)

    taken_here : (j : ℕ) (b : List A) (a : A) → j ≡ k → Contains (take (count_at j d) (grown lists k batch j)) b → Contains b a → Contains (W ++ batch) a
    taken_here j b a e at its =
        let its_own : count_at j c ≡ length (lists j) = subst (λ z. count_at z c ≡ length (lists z)) (sym e) h.own in
        let among : Contains (lists j ++ batch ∷ []) b = subst (λ z. Contains z b) (grown_at lists k batch j e) (of_take (count_at j d) (grown lists k batch j) b at) in
        elim (Contains-push_cases (lists j) batch b among) [
          | inl old ↦ Contains-append_left W batch a (h.taken a (j, b, subst (λ z. Contains z b) (sym (take_all (count_at j c) (lists j) (omega (arith, its_own)))) old, its))
          | inr same ↦ Contains-append_right W batch a (subst (λ z. Contains z a) (sym same) its)
        ]

    taken_there : (j : ℕ) (b : List A) (a : A) → j ≢ k → Contains (take (count_at j d) (grown lists k batch j)) b → Contains b a → Contains (W ++ batch) a
    taken_there j b a ne at its =
        let one : Contains (take (count_at j d) (lists j)) b = subst (λ z. Contains (take (count_at j d) z) b) (grown_other lists k batch j ne) at in
        Contains-append_left W batch a (h.taken a (j, b, subst (λ n. Contains (take n (lists j)) b) (up.others j ne) one, its))

    within_grown : (j : ℕ) → count_at j d ≤ length (grown lists k batch j)
    within_grown j = elim (cases_eq j k) [
      | inl e ↦
          let r = subst (λ z. count_at z d ≡ count_at z c + 1) (sym e) up.raised in
          let long = grown_long lists k batch j e in
          let p = h.within j in
          omega (arith, r, long, p)
      | inr ne ↦
          let r = up.others j ne in
          let long = ap length (grown_other lists k batch j ne) in
          let p = h.within j in
          omega (arith, r, long, p)
    ]

    kept_raised : VectorInvariant (grown lists k batch) k d (W ++ batch)
    kept_raised = record {
      told = λ a v. elim (Contains-append_cases W batch a v) [
        | inl l ↦ old_told a (h.told a l)
        | inr r ↦ new_told a r
      ];
      taken = λ a t. elim (cases_eq t.0 k) [
        | inl e ↦ taken_here t.0 t.1 a e t.2 t.3
        | inr ne ↦ taken_there t.0 t.1 a ne t.2 t.3
      ];
      within = within_grown;
      own = let r = up.raised in let p = h.own in let long = grown_long lists k batch k refl in omega (arith, r, p, long);
    }

  -- ---- of all replicas
  pub none_kept : VectorsInvariant {A = A} (λ _. []) [] []
  none_kept k = record {
    told = λ a v. absurd (omega (arith, v.1));
    taken = λ a t. absurd (none_taken [] t.1 t.2);
    within = λ j. omega arith;
    own = refl;
  }

  pub same_kept : (lists : ℕ → List (List A)) (all : List (List ℕ)) (sets more : List (List A)) → ((k : ℕ) → replica_took k more ≡ replica_took k sets) → VectorsInvariant lists all sets → VectorsInvariant lists all more
  same_kept lists all sets more same h = λ k. subst (λ (z : List A). VectorInvariant lists k (counts_at k all) z) (sym (same k)) (h k)

  pub raised_kept : (lists : ℕ → List (List A)) (k : ℕ) (batch : List A) (all new : List (List ℕ)) (counts : List ℕ) (sets more : List (List A)) → VectorsInvariant lists all sets → IsRaised k (counts_at k all) counts
      → ChangedAt k all new counts → replica_took k more ≡ replica_took k sets ++ batch → ((j : ℕ) → j ≢ k → replica_took j more ≡ replica_took j sets) → VectorsInvariant (grown lists k batch) new more
  raised_kept lists k batch all new counts sets more h up at here others = λ j. elim (cases_eq j k) [
    | inl e ↦ subst (λ z. VectorInvariant (grown lists k batch) z (counts_at z new) (replica_took z more)) (sym e)
        (kept_by (grown lists k batch) k counts (counts_at k new) (replica_took k sets ++ batch) (replica_took k more) at.changed here (kept_raised lists k batch (counts_at k all) counts (replica_took k sets) (h k) up))
    | inr ne ↦ kept_by (grown lists k batch) j (counts_at j all) (counts_at j new) (replica_took j sets) (replica_took j more) (at.others j ne) (others j ne) (kept_other lists k batch j (counts_at j all) (replica_took j sets) (h j) ne)
  ]

  pub merged_kept : (lists : ℕ → List (List A)) (i k : ℕ) (all new : List (List ℕ)) (counts : List ℕ) (sets more : List (List A)) → VectorsInvariant lists all sets → IsMost (counts_at i all) (counts_at k all) counts
      → ChangedAt i all new counts → replica_took i more ≡ replica_took i sets ++ replica_took k sets → ((j : ℕ) → j ≢ i → replica_took j more ≡ replica_took j sets) → VectorsInvariant lists new more
  merged_kept lists i k all new counts sets more h most at here others = λ j. elim (cases_eq j i) [
    | inl e ↦ subst (λ z. VectorInvariant lists z (counts_at z new) (replica_took z more)) (sym e)
        (kept_by lists i counts (counts_at i new) (replica_took i sets ++ replica_took k sets) (replica_took i more) at.changed here (kept_merged lists i k (counts_at i all) (counts_at k all) counts (replica_took i sets) (replica_took k sets) (h i) (h k) most))
    | inr ne ↦ kept_by lists j (counts_at j all) (counts_at j new) (replica_took j sets) (replica_took j more) (at.others j ne) (others j ne) (h j)
  ]

  -- one of some replicas took it
  abbrev pub AnyTook : List ℕ → List (List A) → A → Type 0
  AnyTook ks sets a = (t : ℕ) × (is_among t ks ≡ true) × Contains (replica_took t sets) a

  -- some replicas take what they took together
  module _ (lists : ℕ → List (List A)) (ks : List ℕ) (all : List (List ℕ)) (sets : List (List A)) (h : VectorsInvariant lists all sets) (counts : List ℕ) (greatest : (j : ℕ) → count_at j counts ≡ greatest_count all ks j) where
    told_together : (a : A) → AnyTook ks sets a → IsCounted lists counts a
    told_together a f = told_below lists (counts_at f.0 all) counts a (λ j. let p = greatest j in let q = greatest_above all ks j f.0 f.1 in omega (arith, p, q)) ((h f.0).told a f.2)

    taken_together : (a : A) → IsCounted lists counts a → AnyTook ks sets a
    taken_together a t = elim (greatest_is all ks t.0) [
      | inl none ↦ absurd (none_taken (lists t.0) t.1 (subst (λ n. Contains (take n (lists t.0)) t.1) (greatest t.0 ∙ none) t.2))
      | inr f ↦ (f.0, f.1, (h f.0).taken a (t.0, t.1, subst (λ n. Contains (take n (lists t.0)) t.1) (greatest t.0 ∙ f.2) t.2, t.3))
    ]

    kept_together : (k : ℕ) (W : List A) → is_among k ks ≡ true → ((a : A) → Contains W a → AnyTook ks sets a) → ((a : A) → AnyTook ks sets a → Contains W a) → VectorInvariant lists k counts W
    kept_together k W among f g =
        let within : (j : ℕ) → count_at j counts ≤ length (lists j) = λ j. let p = greatest j in let q = greatest_within all ks j (length (lists j)) (λ t. (h t).within j) in omega (arith, p, q) in
        record {
          told = λ a v. told_together a (f a v);
          taken = λ a t. g a (taken_together a t);
          within = within;
          own = let p = greatest k in let q = greatest_above all ks k k among in let r = within k in let o = (h k).own in omega (arith, p, q, r, o);
        }

  pub shared_kept : (lists : ℕ → List (List A)) (ks : List ℕ) (all new : List (List ℕ)) (sets more : List (List A)) → VectorsInvariant lists all sets → AreShared ks all new
      → ((k : ℕ) → is_among k ks ≡ true → (a : A) → Contains (replica_took k more) a → AnyTook ks sets a) → ((k : ℕ) → is_among k ks ≡ true → (a : A) → AnyTook ks sets a → Contains (replica_took k more) a)
      → ((k : ℕ) → is_among k ks ≡ false → replica_took k more ≡ replica_took k sets) → VectorsInvariant lists new more
  shared_kept lists ks all new sets more h s f g others = λ k. by_bool (is_among k ks)
      (λ yes. subst (λ (z : List ℕ). VectorInvariant lists k z (replica_took k more)) (sym (s.shared k yes)) (kept_together lists ks all sets h s.counts s.greatest k (replica_took k more) yes (f k yes) (g k yes)))
      (λ no. kept_by lists k (counts_at k all) (counts_at k new) (replica_took k sets) (replica_took k more) (s.others k no) (others k no) (h k))

  -- what one of the first took one of the tops took
  pub taken_by_tops : (lists : ℕ → List (List A)) (all : List (List ℕ)) (n : ℕ) (tops : List ℕ) (sets : List (List A)) → VectorsInvariant lists all sets → AreMaximal all n tops
      → (k : ℕ) → k < n → (a : A) → Contains (replica_took k sets) a → (t : ℕ) × Contains tops t × Contains (replica_took t sets) a
  taken_by_tops lists all n tops sets h tops_are k lt a v =
      let top = tops_are k lt in
      (top.0, top.1, within_below lists k top.0 (counts_at k all) (counts_at top.0 all) (replica_took k sets) (replica_took top.0 sets) (h k) (h top.0) top.2 a v)

  -- what counts say is news is what is brought
  pub news_brought : (lists : ℕ → List (List A)) (all : List (List ℕ)) (sets : List (List A)) (i j : ℕ) (news : News) → VectorsInvariant lists all sets → IsNews (counts_at i all) (counts_at j all) news → Brings news (replica_took i sets) (replica_took j sets)
  news_brought lists all sets i j Nothing h is = within_below lists j i (counts_at j all) (counts_at i all) (replica_took j sets) (replica_took i sets) (h j) (h i) is
  news_brought lists all sets i j Everything h is = within_below lists i j (counts_at i all) (counts_at j all) (replica_took i sets) (replica_took j sets) (h i) (h j) is
  news_brought lists all sets i j Something h is = tt
