-- One part of a list replaced, and one write put there.
use Rattle.std.specs.Prelude.{◌≡◌, ◌<◌, ◌≤◌, ◌+◌, ℕ, zero, suc, List, [], ◌∷◌, ◌++◌, length, take, drop, insert, refl}
use Rattle.std.specs.Arc.{arc_value}
use Rattle.std.specs.declared.sync.Arc.{Arc}
use Rattle.std.specs.FinMap.{find, put}
use Rattle.std.specs.declared.cmp.Ordering.TheVariants.{Less, Equal, Greater}
use Rattle.std.proofs.lemmas.List.{append_assoc, append-nil, map-append, set_split, take_all, drop_all}
use Rattle.std.proofs.Common.{sym, ap, subst, ◌∙◌, get_or, set, arith}
use Rattle.ws_version.specs.Writes.{Held, Write, path_cmp}
use Rattle.ws_version.proofs.Writes.{path_cmp_total}
use Rattle.ws_register.specs.Listed.{all_writes_of, all_with}
use Rattle.ws_register.specs.Pages.{values, Ascends, AllPathsBelow, AllAbove}
use Rattle.ws_register.proofs.Order.{sorted-second, sorted-front, find-behind, find-before, put-behind, put-before}
use Rattle.ws_register.proofs.Parts.{parts-append, cut_at}
use Rattle.ws_register.proofs.Searching.{there}

-- a write is put in the middle of three parts
pub put-middle : (F M B : List Write) (path : List ℕ) (held : Held) → AllPathsBelow F path → AllAbove B path → put path_cmp path held (F ++ (M ++ B)) ≡ F ++ (put path_cmp path held M ++ B)
put-middle F M B path held below above =
    put-behind path_cmp path_cmp_total F path held (M ++ B) below
    ∙ ap (λ l. F ++ l) (put-before path_cmp path_cmp_total M path held B above)

-- what is found in the middle of three parts
pub find-middle : (F M B : List Write) (path : List ℕ) → AllPathsBelow F path → AllAbove B path → find path_cmp path (F ++ (M ++ B)) ≡ find path_cmp path M
find-middle F M B path below above = find-behind path_cmp path_cmp_total F path (M ++ B) below ∙ find-before path_cmp path_cmp_total M path B above

-- the middle of three parts ascends
pub middle-ascends : (W F M B : List Write) → W ≡ F ++ (M ++ B) → Ascends W → Ascends M
middle-ascends W F M B e h = sorted-front path_cmp M B (sorted-second path_cmp F (M ++ B) (subst Ascends e h))

module _ {X Z : Type 0} (held : X → List Write) where
  -- the part at a place
  pub part_there : (P : List (Arc X Z)) (i : ℕ) (part : Arc X Z) (writes : List Write) → i < length P → part ≡ get_or P i part → writes ≡ held (arc_value part) → all_writes_of held P ≡ all_with held P i writes
  part_there P i part writes lt read is =
      let q = there P i lt in
      let same : q.0 ≡ part = sym (q.2 part) ∙ sym read in
      let next : suc i ≡ i + 1 = omega arith in
      cut_at held P i q.0 q.1
      ∙ ap (λ (p : Arc X Z). all_writes_of held (take i P) ++ (held (arc_value p) ++ all_writes_of held (drop (suc i) P))) same
      ∙ ap (λ w. all_writes_of held (take i P) ++ (w ++ all_writes_of held (drop (suc i) P))) (sym is)
      ∙ ap (λ j. all_writes_of held (take i P) ++ (writes ++ all_writes_of held (drop j P))) next

  -- there is no part
  pub no_part_there : (P : List (Arc X Z)) (i : ℕ) (writes : List Write) → length P ≤ i → all_writes_of held P ++ writes ≡ all_with held P i writes
  no_part_there P i writes le =
      let past : length P ≤ i + 1 = omega arith in
      ap (λ l. all_writes_of held l ++ writes) (sym (take_all i P le))
      ∙ ap (λ l. all_writes_of held (take i P) ++ l) (sym (append-nil writes))
      ∙ ap (λ l. all_writes_of held (take i P) ++ (writes ++ all_writes_of held l)) (sym (drop_all (i + 1) P past))

  -- a part in the place of another
  pub part_replaced : (P : List (Arc X Z)) (i : ℕ) (part : Arc X Z) (writes : List Write) → i < length P → held (arc_value part) ≡ writes → all_writes_of held (set P i part) ≡ all_with held P i writes
  part_replaced P i part writes lt is =
      let next : suc i ≡ i + 1 = omega arith in
      ap (all_writes_of held) (set_split P i part lt) ∙ parts-append held (take i P) (part ∷ drop (suc i) P)
      ∙ ap (λ w. all_writes_of held (take i P) ++ (w ++ all_writes_of held (drop (suc i) P))) is
      ∙ ap (λ j. all_writes_of held (take i P) ++ (writes ++ all_writes_of held (drop j P))) next

  split_at : (P : List (Arc X Z)) (i : ℕ) (low high : Arc X Z) → i < length P → set (insert P i low) (i + 1) high ≡ take i P ++ low ∷ high ∷ drop (suc i) P
  split_at [] i low high lt = absurd (omega (arith, lt))
  split_at (p ∷ P) zero low high lt = refl
  split_at (p ∷ P) (suc i) low high lt = let more : suc i + 1 ≡ suc (i + 1) = omega arith in rw more (ap (λ l. p ∷ l) (split_at P i low high (omega (arith, lt))))

  -- two parts in the place of one
  pub part_split : (P Q : List (Arc X Z)) (i : ℕ) (low high : Arc X Z) (writes : List Write) → i < length P → Q ≡ insert P i low → held (arc_value low) ++ held (arc_value high) ≡ writes → all_writes_of held (set Q (i + 1) high) ≡ all_with held P i writes
  part_split P Q i low high writes lt inserted whole =
      let next : suc i ≡ i + 1 = omega arith in
      ap (λ l. all_writes_of held (set l (i + 1) high)) inserted ∙ ap (all_writes_of held) (split_at P i low high lt)
      ∙ parts-append held (take i P) (low ∷ high ∷ drop (suc i) P)
      ∙ ap (λ l. all_writes_of held (take i P) ++ l) (sym (append_assoc (held (arc_value low)) (held (arc_value high)) (all_writes_of held (drop (suc i) P))))
      ∙ ap (λ w. all_writes_of held (take i P) ++ (w ++ all_writes_of held (drop (suc i) P))) whole
      ∙ ap (λ j. all_writes_of held (take i P) ++ (writes ++ all_writes_of held (drop j P))) next

  -- where one part alone is changed, by a write that belongs to it, the write is put in the list
  pub put-on_part : (P : List (Arc X Z)) (i : ℕ) (old new all : List Write) (path : List ℕ) (what : Held) → all_writes_of held P ≡ all_with held P i old → AllPathsBelow (all_writes_of held (take i P)) path → AllAbove (all_writes_of held (drop (i + 1) P)) path → new ≡ put path_cmp path what old → all ≡ all_with held P i new → all ≡ put path_cmp path what (all_writes_of held P)
  put-on_part P i old new all path what cut below above is whole =
      whole ∙ ap (λ w. all_writes_of held (take i P) ++ (w ++ all_writes_of held (drop (i + 1) P))) is
      ∙ sym (put-middle (all_writes_of held (take i P)) old (all_writes_of held (drop (i + 1) P)) path what below above)
      ∙ ap (put path_cmp path what) (sym cut)

  -- one more part, of one write, behind all others
  pub put-behind_parts : (P : List (Arc X Z)) (i : ℕ) (part : Arc X Z) (path : List ℕ) (what : Held) → length P ≤ i → AllPathsBelow (all_writes_of held (take i P)) path → held (arc_value part) ≡ (path, what) ∷ [] → all_writes_of held (P ++ part ∷ []) ≡ put path_cmp path what (all_writes_of held P)
  put-behind_parts P i part path what le below is =
      parts-append held P (part ∷ []) ∙ ap (λ l. all_writes_of held P ++ l) (append-nil (held (arc_value part)) ∙ is)
      ∙ sym (put-behind path_cmp path_cmp_total (all_writes_of held P) path what [] (subst (λ l. AllPathsBelow (all_writes_of held l) path) (take_all i P le) below))
      ∙ ap (put path_cmp path what) (append-nil (all_writes_of held P))

  -- the first write of all
  pub first_write : (P : List (Arc X Z)) (part : Arc X Z) (w : Write) → 0 < length P → part ≡ get_or P 0 part → (rest : List Write) × (held (arc_value part) ≡ w ∷ rest) → (tail : List Write) × (all_writes_of held P ≡ w ∷ tail)
  first_write [] part w some read h = absurd (omega (arith, some))
  first_write (p ∷ P) part w some read h = (h.0 ++ all_writes_of held P, ap (λ (q : Arc X Z). held (arc_value q) ++ all_writes_of held P) (sym read) ∙ ap (λ l. l ++ all_writes_of held P) h.1)

-- two halves of a list
pub halves : {Z : Type 0} (ws front back : List (Arc Write Z)) (low high : List Write) → ws ≡ front ++ back → low ≡ values front → high ≡ values back → low ++ high ≡ values ws
halves ws front back low high cut is_low is_high =
    ap (λ l. l ++ high) is_low ∙ ap (λ l. values front ++ l) is_high ∙ sym (map-append arc_value front back) ∙ ap values (sym cut)

-- where something was put, there is something
pub put-some : (path : List ℕ) (what : Held) (W : List Write) → 0 < length (put path_cmp path what W)
put-some path what [] = omega arith
put-some path what (w ∷ W) = elim (path_cmp path w.0) as (λ r. path_cmp path w.0 ≡ r → 0 < length (put path_cmp path what (w ∷ W))) [
  | Less ↦ λ e. rw e (omega arith)
  | Equal ↦ λ e. rw e (omega arith)
  | Greater ↦ λ e. rw e (omega arith)
] refl
