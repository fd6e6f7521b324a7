-- What levels hold together, where one of them changes.
use Rattle.std.specs.Prelude.{◌≡◌, ◌<◌, ◌+◌, ℕ, zero, suc, List, [], ◌∷◌, ◌++◌, length, take, slice_index_or}
use Rattle.std.specs.declared.cmp.Ordering.{Ordering}
use Rattle.std.specs.FinMap.{FinMap, IsAntisymmetric, empty, get}
use Rattle.std.specs.Cmp.{IsTotalOrder}
use Rattle.std.proofs.Common.{sym, ap, ◌∙◌, arith, Option}
use Rattle.std.proofs.Math.ListN.{set}
use lib.Seq.{lt-length-set, set-get_or, set-set}
use Rattle.std.proofs.lemmas.List.{take_more}
use Rattle.ws_map.specs.Greater.{greater, joined_option}
use Rattle.ws_map.specs.Keyed.{bytes_cmp}
use Rattle.ws_map.specs.Kept.{joined}
use Rattle.ws_map.proofs.Greater.{greater-semilattice}
use Rattle.ws_map.proofs.Kept.{get-joined, joined-commutative, joined-associative}
use Rattle.ws_map.proofs.Gathered.{joined_empty}
use Rattle.ws_map.proofs.Keyed.{bytes_cmp_total, bytes_cmp-IsAntisymmetric}
use Rattle.ws_cache.specs.Levels.{joined_all}

module _ {X : Type 0} {R : X → X → Ordering} (total : IsTotalOrder R) (one : IsAntisymmetric R) where
  abbrev Held : Type 0
  Held = FinMap bytes_cmp X

  abbrev both : Held → Held → Held
  both = joined (greater R)

  abbrev all : List Held → Held
  all = joined_all (greater R)

  commutative : (m n : Held) → both m n ≡ both n m
  commutative = joined-commutative bytes_cmp_total bytes_cmp-IsAntisymmetric (greater-semilattice total one)

  associative : (m n l : Held) → both (both m n) l ≡ both m (both n l)
  associative = joined-associative bytes_cmp_total bytes_cmp-IsAntisymmetric (greater-semilattice total one)

  pub empty_first : (m : Held) → both empty m ≡ m
  empty_first m = joined_empty bytes_cmp_total bytes_cmp-IsAntisymmetric (greater R) m

  pub empty_last : (m : Held) → both m empty ≡ m
  empty_last m = commutative m empty ∙ empty_first m

  last_two : (m n l : Held) → both (both m n) l ≡ both (both m l) n
  last_two m n l = associative m n l ∙ ap (both m) (commutative n l) ∙ sym (associative m l n)

  -- one more level
  pub pushed : (ms : List Held) (m : Held) → all (ms ++ m ∷ []) ≡ both (all ms) m
  pushed [] m = empty_last m ∙ sym (empty_first m)
  pushed (n ∷ ms) m = ap (both n) (pushed ms m) ∙ sym (associative n (all ms) m)

  pub pushed_empty : (ms more : List Held) (m : Held) → more ≡ ms ++ m ∷ [] → m ≡ empty → all more ≡ all ms
  pushed_empty ms more m e none = ap all e ∙ pushed ms m ∙ ap (both (all ms)) none ∙ empty_last (all ms)

  -- the first levels with one more
  pub taken_more : (ms : List Held) (i : ℕ) (m : Held) → i < length ms → m ≡ slice_index_or ms i m → all (take (i + 1) ms) ≡ both (all (take i ms)) m
  taken_more ms i m lt is = ap all (take_more ms i m lt ∙ ap (λ (n : Held). take i ms ++ n ∷ []) (sym is)) ∙ pushed (take i ms) m

  -- a level takes more
  pub set_more : (ms : List Held) (i : ℕ) (m x more : Held) → i < length ms → m ≡ slice_index_or ms i m → more ≡ both m x → all (set ms i more) ≡ both (all ms) x
  set_more [] i m x more lt is e = absurd (omega (arith, lt))
  set_more (n ∷ ms) zero m x more lt is e = ap (λ (l : Held). both l (all ms)) (e ∙ ap (λ (l : Held). both l x) is) ∙ last_two n x (all ms)
  set_more (n ∷ ms) (suc i) m x more lt is e = ap (both n) (set_more ms i m x more (omega (arith, lt)) is e) ∙ sym (associative n (all ms) x)

  -- a level is emptied
  pub set_empty : (ms : List Held) (i : ℕ) (m none : Held) → i < length ms → m ≡ slice_index_or ms i m → none ≡ empty → both (all (set ms i none)) m ≡ all ms
  set_empty [] i m none lt is e = absurd (omega (arith, lt))
  set_empty (n ∷ ms) zero m none lt is e =
      ap (λ (l : Held). both (both l (all ms)) m) e ∙ ap (λ (l : Held). both l m) (empty_first (all ms)) ∙ commutative (all ms) m ∙ ap (λ (l : Held). both l (all ms)) is
  set_empty (n ∷ ms) (suc i) m none lt is e = associative n (all (set ms i none)) m ∙ ap (both n) (set_empty ms i m none (omega (arith, lt)) is e)

  -- what is held at a key by one level more
  pub get_more : (ms : List Held) (i : ℕ) (m : Held) (key : List ℕ) (a b o : Option X) → i < length ms → m ≡ slice_index_or ms i m → a ≡ get (all (take i ms)) key → b ≡ get m key → o ≡ joined_option (greater R) a b
      → o ≡ get (all (take (i + 1) ms)) key
  get_more ms i m key a b o lt is at_first at_next found =
      found
      ∙ ap (λ z. joined_option (greater R) z b) at_first
      ∙ ap (joined_option (greater R) (get (all (take i ms)) key)) at_next
      ∙ sym (get-joined bytes_cmp_total (greater R) (all (take i ms)) m key)
      ∙ ap (λ n. get n key) (sym (taken_more ms i m lt is))

  -- one level more is taken into what others hold
  pub merged_more : (base now more : Held) (ms : List Held) (i : ℕ) (m : Held) → i < length ms → m ≡ slice_index_or ms i m → now ≡ both base (all (take i ms)) → more ≡ both now m → more ≡ both base (all (take (i + 1) ms))
  merged_more base now more ms i m lt is before took =
      took ∙ ap (λ n. both n m) before ∙ associative base (all (take i ms)) m ∙ ap (both base) (sym (taken_more ms i m lt is))

  -- a level goes into the next one
  pub sunk : (ms : List Held) (at : ℕ) (full none next more : Held) → at + 1 < length ms → full ≡ slice_index_or ms at full → none ≡ empty → next ≡ slice_index_or (set ms at none) (at + 1) next → more ≡ both next full
      → all (set (set ms at none) (at + 1) more) ≡ all ms
  sunk ms at full none next more lt is is_empty behind took =
      set_more (set ms at none) (at + 1) next full more (lt-length-set ms at none lt) behind took ∙ set_empty ms at full none (omega (arith, lt)) is is_empty

  -- a level that was taken out is put back, where the next one stays
  pub put_back : (ms : List Held) (at : ℕ) (full none next more : Held) → full ≡ slice_index_or ms at full → next ≡ slice_index_or (set ms at none) (at + 1) next → more ≡ next → all (set (set (set ms at none) (at + 1) more) at full) ≡ all ms
  put_back ms at full none next more is behind stays =
      ap (λ n. all (set (set (set ms at none) (at + 1) n) at full)) (stays ∙ behind)
      ∙ ap (λ (ns : List Held). all (set ns at full)) (set-get_or (set ms at none) (at + 1) next)
      ∙ ap all (set-set ms at none full)
      ∙ ap (λ n. all (set ms at n)) is
      ∙ ap all (set-get_or ms at full)
