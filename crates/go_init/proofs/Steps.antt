-- The order so far and what is left make package order.
use Rattle.std.proofs.Common.{◌≡◌, ℕ, zero, suc, ◌+◌, ◌<◌, Bool, true, false, not, List, [], ◌∷◌, ◌++◌, length, replicate, refl, sym, ap, ◌∙◌, subst, inl, inr, arith, append_assoc, append-nil}
use Rattle.std.specs.Prelude.{◌↔◌}
use Rattle.std.proofs.Math.ListN.{length-replicate, set}
use Rattle.std.specs.List.{Contains, list_any, range_with_len}
use Rattle.std.proofs.lemmas.List.FromFn.{length-range_with_len}
use Rattle.std.proofs.lemmas.Option.{slice_get_within}
use Rattle.ws_reach.proofs.Closure.{IsOneOf}
use Rattle.ws_reach.proofs.Reached.{get_contains}
use Rattle.go_init.specs.declared.queue.Queue.{Queue}
use Rattle.go_init.specs.declared.queue.Waiter.{Waiter}
use Rattle.go_init.specs.Packages.{imports, package_order}
use Rattle.go_init.specs.Queues.{AreQueued, IsLeft, IsReady, IsWaiter}
use Rattle.go_init.specs.Turns.{turn_order}
use Rattle.go_init.proofs.First.{Ascending, free, least_first, none_first, turns_none, turns_some}
use Rattle.go_init.proofs.Members.{any_one, contained, one_any, one_of}
use Rattle.go_init.proofs.Orders.{edge_is, edge_of, in_range, range_has}
use Rattle.go_init.proofs.Queued.{left_at_first, left_from, left_to}

-- the numbers that are left, in order
pub record AreLeft (listed : List Bool) (xs : List ℕ) : Type 0 where
  pub ascend : Ascending xs
  pub has : (k : ℕ) → IsOneOf k xs ↔ IsLeft listed k

-- what the order has so far, and the turns that are to come over what is left
pub record SoFar (rows : List (List ℕ)) (listed : List Bool) (order : List ℕ) (todo : ℕ) : Type 0 where
  pub xs : List ℕ
  pub left : AreLeft listed xs
  pub same : order ++ (turn_order (imports rows) todo xs).0 ≡ package_order rows

pub range_ascends : (a n : ℕ) → Ascending (range_with_len a n)
range_ascends a zero = tt
range_ascends a (suc n) = (λ y h. (let r = in_range (a + 1) n y h in let low = r.0 in omega (arith, low)), range_ascends (a + 1) n)

pub so_far_first : (rows : List (List ℕ)) (listed : List Bool) → listed ≡ replicate (length rows) false → SoFar rows listed [] (length rows)
so_far_first rows listed is =
    let n = length rows in
    record {
      xs = range_with_len 0 n;
      left = record {
        ascend = range_ascends 0 n;
        has = λ k. (
          λ h. subst (λ l. IsLeft l k) (sym is) (left_at_first n k (let r = in_range 0 n k h in let high = r.1 in omega (arith, high))),
          λ h. (let lt = slice_get_within listed k false h in range_has 0 n k (omega arith) (omega (arith, lt, ap length is, length-replicate n false))),
        );
      };
      same = ap (λ m. (turn_order (imports rows) m (range_with_len 0 n)).0) (sym (length-range_with_len 0 n));
    }

none_any : (test : ℕ → Bool) (xs : List ℕ) (b : Bool) → list_any test xs ≡ b → ((y : ℕ) → IsOneOf y xs → test y ≡ true → ⊥) → not b ≡ true
none_any test xs false is none = refl
none_any test xs true is none = (let one = any_one test xs is in absurd (none one.0 one.1 one.2))

module _ (rows : List (List ℕ)) (listed : List Bool) (xs : List ℕ) (left : AreLeft listed xs) where
  ready_free : (k : ℕ) → IsReady rows listed k → free (imports rows) xs k ≡ true
  ready_free k ready = none_any (imports rows k) xs (list_any (imports rows k) xs) refl (λ y h is. ready y (edge_of rows k y is) ((left.has y).0 h))

  waits_not_free : (j : ℕ) (w : Waiter) → IsWaiter rows listed j w → free (imports rows) xs w.importer ≡ false
  waits_not_free j w h = ap not (one_any (imports rows w.importer) xs j ((left.has j).1 h.import) (edge_is rows w.importer j (h.row, h.at, get_contains h.row w.place j h.place)))

module _ (rows : List (List ℕ)) (queue : Queue) (queued : AreQueued rows queue (λ k. ⊥)) (order : List ℕ) (todo : ℕ) (so : SoFar rows queue.listed.items order (suc todo)) where
  -- what is left and isn't ready isn't free
  not_free : (j : ℕ) → IsOneOf j so.xs → (Contains queue.ready.keys j → ⊥) → free (imports rows) so.xs j ≡ false
  not_free j h none = elim (queued.all j ((so.left.has j).0 h)) [
    | inl r ↦ absurd (none r)
    | inr s ↦ elim s [
      | inl w ↦ subst (λ k. free (imports rows) so.xs k ≡ false) w.3 (waits_not_free rows queue.listed.items so.xs so.left w.0 w.1 (queued.waiting w.0 w.1 w.2))
      | inr o ↦ absurd o
    ]
  ]

  pub so_far_none : queue.ready.keys ≡ [] → order ≡ package_order rows
  so_far_none none =
      let e = none_first (free (imports rows) so.xs) so.xs (λ j h. not_free j h (λ r. one_of [] j (subst (λ l. Contains l j) none r))) in
      sym (append-nil order) ∙ ap (λ l. order ++ l) (sym (turns_none (imports rows) todo so.xs e)) ∙ so.same

  pub so_far_next : (number : ℕ) (rest : List ℕ) (listed : List Bool) → queue.ready.keys ≡ number ∷ rest → ((k : ℕ) → Contains rest k → number < k) → listed ≡ set queue.listed.items number true → SoFar rows listed (order ++ number ∷ []) todo
  so_far_next number rest listed ready least is =
      let old = queue.listed.items in
      let r = queued.ready number (subst (λ l. Contains l number) (sym ready) (contained (number ∷ rest) number (inl refl))) in
      let first = least_first (free (imports rows) so.xs) so.xs number so.left.ascend ((so.left.has number).1 r.0) (ready_free rows old so.xs so.left number r.1)
      (λ j h below. not_free j h (λ c. elim (one_of (number ∷ rest) j (subst (λ l. Contains l j) ready c)) [
        | inl e ↦ omega (arith, below, e)
        | inr o ↦ (let lt = least j (contained rest j o) in omega (arith, below, lt))
      ])) in
      let others = first.2 in
      let inside = slice_get_within old number false r.0 in
      record {
        xs = first.0;
        left = record {
          ascend = others.ascend;
          has = λ k. (
            λ h. (let w = others.within k h in subst (λ l. IsLeft l k) (sym is) (left_to old number k ((so.left.has k).0 w.0) w.1)),
            λ h. (let l = left_from old number k inside (subst (λ l. IsLeft l k) is h) in others.all k ((so.left.has k).1 l.0) l.1),
          );
        };
        same = append_assoc order (number ∷ []) (turn_order (imports rows) todo first.0).0 ∙ ap (λ l. order ++ l) (sym (turns_some (imports rows) todo so.xs number first.0 first.1)) ∙ so.same;
      }

pub so_far_end : (rows : List (List ℕ)) (listed : List Bool) (order : List ℕ) → SoFar rows listed order 0 → order ≡ package_order rows
so_far_end rows listed order so = sym (append-nil order) ∙ so.same
