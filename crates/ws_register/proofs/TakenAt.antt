-- What others hold at some paths stands for all that they have there.
use Rattle.std.specs.Prelude.{◌≡◌, ◌<◌, ◌≤◌, ◌+◌, ℕ, false, List, [], ◌∷◌, ◌++◌, ◌⊎◌, refl, Option, Some, None, take, length, slice_index_or}
use Rattle.std.specs.List.{Contains}
use Rattle.std.specs.FinMap.{get}
use Rattle.std.specs.Ordering.{is_gt}
use Rattle.std.proofs.lemmas.Cmp.{upto}
use Rattle.std.proofs.lemmas.List.{take_all, take_more}
use Rattle.std.proofs.lemmas.List.Elements.{Contains-append_left, Contains-append_right, Contains-append_cases, Contains-push_cases}
use Rattle.std.proofs.Common.{sym, ap, subst, ◌∙◌, inl, inr, arith, append-nil, append_assoc}
use Rattle.ws_map.specs.Kept.{StandsFor, StandsAt, entry_of}
use Rattle.ws_map.proofs.Itself.{Contains-cons_cases, Contains-first, held_or_above, kept_is_member}
use Rattle.ws_version.specs.Writes.{Held, Write, held_cmp}
use Rattle.ws_version.specs.Laws.{held_cmp_total}
use Rattle.ws_register.specs.Edits.{Contents}
use Rattle.ws_register.specs.News.{HasNewsAt, TakesAt, HoldBothAt}

none_in_empty : {A : Type 0} (a : A) → ¬ (Contains [] a)
none_in_empty a c = absurd (omega (arith, c.1))

none_is_some : {A : Type 0} (x : A) (o : Option A) → o ≡ None → o ≡ Some x → ⊥
none_is_some x o e f = cc

-- ---- writes that no others are above

-- each of the second set is in the first, or no more than one of these
abbrev AreUpTo : List Write → List Write → List Write → Type 0
AreUpTo V W taken = (q : List ℕ) (y : Held) → Contains W (q, y) → Contains V (q, y) ⊎ ((h : Held) × Contains taken (q, h) × (is_gt (held_cmp y h) ≡ false))

module _ (V W taken : List Write) (among : (q : List ℕ) (h : Held) → Contains taken (q, h) → Contains W (q, h)) (upto_them : AreUpTo V W taken) where
  at_both : (q : List ℕ) (kept : Option Held) → StandsAt held_cmp (V ++ taken) q kept → StandsAt held_cmp (V ++ W) q kept
  at_both q None h = λ y c. elim (Contains-append_cases V W (q, y) c) [
    | inl mine ↦ h y (Contains-append_left V taken (q, y) mine)
    | inr theirs ↦ elim (upto_them q y theirs) [
      | inl mine ↦ h y (Contains-append_left V taken (q, y) mine)
      | inr one ↦ h one.0 (Contains-append_right V taken (q, one.0) one.1)
    ]
  ]
  at_both q (Some x) h = record {
    among = elim (Contains-append_cases V taken (q, x) h.among) [
      | inl mine ↦ Contains-append_left V W (q, x) mine
      | inr one ↦ Contains-append_right V W (q, x) (among q x one)
    ];
    above = λ y c. elim (Contains-append_cases V W (q, y) c) [
      | inl mine ↦ h.above y (Contains-append_left V taken (q, y) mine)
      | inr theirs ↦ elim (upto_them q y theirs) [
        | inl mine ↦ h.above y (Contains-append_left V taken (q, y) mine)
        | inr one ↦ upto held_cmp_total y one.0 x one.2 (h.above one.0 (Contains-append_right V taken (q, one.0) one.1))
      ]
    ];
  }

  stands_for_both : (m : Contents) → StandsFor held_cmp m (V ++ taken) → StandsFor held_cmp m (V ++ W)
  unfolding StandsFor
  stands_for_both m h = λ q. at_both q (get m q) (h q)

-- ---- what was taken at some paths

pub record AreTakenAt (others : Contents) (paths : List (List ℕ)) (old new : Contents) : Type 0 where
  pub taken : List Write
  pub held : (q : List ℕ) (h : Held) → Contains taken (q, h) → get others q ≡ Some h
  pub all : (q : List ℕ) (h : Held) → Contains paths q → get others q ≡ Some h → Contains taken (q, h)
  pub stands : (V : List Write) → StandsFor held_cmp old V → StandsFor held_cmp new (V ++ taken)

pub none_taken : (others : Contents) (paths : List (List ℕ)) (old : Contents) → AreTakenAt others (take 0 paths) old old
none_taken others paths old = record {
  taken = [];
  held = λ q h c. absurd (none_in_empty {A = Write} (q, h) c);
  all = λ q h c e. absurd (let lt = c.1 in omega (arith, lt));
  stands = λ V h. subst (λ (X : List Write). StandsFor held_cmp old X) (sym (append-nil V)) h;
}

-- the entry of a path is what is held there
entry_held : (others : Contents) (p : List ℕ) (o : Option Held) → get others p ≡ o → (q : List ℕ) (h : Held) → Contains (entry_of p o) (q, h) → get others q ≡ Some h
entry_held others p None e q h c = absurd (none_in_empty {A = Write} (q, h) c)
entry_held others p (Some x) e q h c = elim (Contains-cons_cases {A = Write} (p, x) [] (q, h) c) [
  | inl same ↦
      let paths : p ≡ q = ap (λ (w : Write). w.0) same in
      let helds : x ≡ h = ap (λ (w : Write). w.1) same in
      ap (λ (z : List ℕ). get others z) (sym paths) ∙ e ∙ ap Some helds
  | inr none ↦ absurd (none_in_empty {A = Write} (q, h) none)
]

held_entry : (p : List ℕ) (o : Option Held) (h : Held) → o ≡ Some h → Contains (entry_of p o) (p, h)
held_entry p o h e = subst (λ (z : Option Held). Contains {X = Write} (entry_of p z) (p, h)) (sym e) (Contains-first {A = Write} (p, h) [])

module _ (others : Contents) (paths : List (List ℕ)) (p : List ℕ) (old mid new : Contents) (h : AreTakenAt others paths old mid) (one : TakesAt p others mid new) where
  abbrev entry : List Write
  entry = entry_of p (get others p)

  with_one : AreTakenAt others (paths ++ p ∷ []) old new
  with_one = record {
    taken = h.taken ++ entry;
    held = λ q x c. elim (Contains-append_cases h.taken entry (q, x) c) [
      | inl before ↦ h.held q x before
      | inr last ↦ entry_held others p (get others p) refl q x last
    ];
    all = λ q x c e. elim (Contains-push_cases paths p q c) [
      | inl before ↦ Contains-append_left h.taken entry (q, x) (h.all q x before e)
      | inr same ↦
          let at : get others p ≡ Some x = ap (λ (z : List ℕ). get others z) same ∙ e in
          Contains-append_right h.taken entry (q, x) (subst (λ (z : List ℕ). Contains {X = Write} entry (z, x)) same (held_entry p (get others p) x at))
    ];
    stands = λ V s. subst (λ (X : List Write). StandsFor held_cmp new X) (append_assoc V h.taken entry) (one (V ++ h.taken) (h.stands V s));
  }

pub more_taken : (others : Contents) (paths : List (List ℕ)) (i : ℕ) (p : List ℕ) (old mid new : Contents) → i < length paths → p ≡ slice_index_or paths i p → AreTakenAt others (take i paths) old mid → TakesAt p others mid new
    → AreTakenAt others (take (i + 1) paths) old new
more_taken others paths i p old mid new lt is h one =
    subst (λ (ps : List (List ℕ)). AreTakenAt others ps old new) (ap (λ (z : List ℕ). take i paths ++ z ∷ []) is ∙ sym (take_more paths i p lt)) (with_one others (take i paths) p old mid new h one)

-- what is held at all paths of news is all that is news
holds_both : (others : Contents) (paths : List (List ℕ)) (old new : Contents) → AreTakenAt others paths old new → HoldBothAt paths old others new
holds_both others paths old new h V W news mine theirs =
    stands_for_both V W h.taken (λ q x c. kept_is_member held_cmp others W theirs q x (h.held q x c))
    (λ q y c. elim (news (q, y) c) [
      | inl known ↦ inl known
      | inr at ↦
          let held = held_or_above held_cmp others W theirs q y c in
          inr (held.0, h.all q held.0 at held.1, held.3)
    ]) new (h.stands V mine)

pub all_taken : (others : Contents) (paths : List (List ℕ)) (n : ℕ) (old new : Contents) → length paths ≤ n → AreTakenAt others (take n paths) old new → HoldBothAt paths old others new
all_taken others paths n old new le h = holds_both others paths old new (subst (λ (ps : List (List ℕ)). AreTakenAt others ps old new) (take_all n paths le) h)

-- ---- one path

pub taken_none : (others : Contents) (p : List ℕ) (old : Contents) → None ≡ get others p → TakesAt p others old old
taken_none others p old e W h =
    subst (λ (o : Option Held). StandsFor held_cmp old (W ++ entry_of p o)) e (subst (λ (X : List Write). StandsFor held_cmp old X) (sym (append-nil W)) h)

pub taken_one : (others : Contents) (p : List ℕ) (x : Held) (w : Write) (old new : Contents) → Some x ≡ get others p → w ≡ (p, x) → ((W : List Write) → StandsFor held_cmp old W → StandsFor held_cmp new (W ++ w ∷ [])) → TakesAt p others old new
taken_one others p x w old new e is stands W h =
    subst (λ (o : Option Held). StandsFor held_cmp new (W ++ entry_of p o)) e (subst (λ (v : Write). StandsFor held_cmp new (W ++ v ∷ [])) is (stands W h))
