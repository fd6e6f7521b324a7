-- Two layers as one map: what is taken into one of them, and what is joined layer by layer.
use Rattle.std.specs.Prelude.{◌≡◌, ℕ, List, Option}
use Rattle.std.specs.declared.cmp.Ordering.{Ordering}
use Rattle.std.specs.FinMap.{FinMap, IsAntisymmetric, empty, get, insert}
use Rattle.std.specs.Cmp.{IsTotalOrder}
use Rattle.std.proofs.Common.{sym, ap, ◌∙◌}
use Rattle.ws_map.specs.Greater.{greater, joined_option}
use Rattle.ws_map.specs.Keyed.{bytes_cmp}
use Rattle.ws_map.specs.Kept.{joined, taken}
use Rattle.ws_map.proofs.Greater.{greater-semilattice}
use Rattle.ws_map.proofs.Kept.{get-joined, joined-commutative, joined-associative}
use Rattle.ws_map.proofs.Gathered.{joined_empty}
use Rattle.ws_map.proofs.Keyed.{bytes_cmp_total, bytes_cmp-IsAntisymmetric}

module _ {X : Type 0} {R : X → X → Ordering} (total : IsTotalOrder R) (one : IsAntisymmetric R) where
  abbrev Held : Type 0
  Held = FinMap bytes_cmp X

  abbrev both : Held → Held → Held
  both = joined (greater R)

  commutative : (m n : Held) → both m n ≡ both n m
  commutative = joined-commutative bytes_cmp_total bytes_cmp-IsAntisymmetric (greater-semilattice total one)

  associative : (m n l : Held) → both (both m n) l ≡ both m (both n l)
  associative = joined-associative bytes_cmp_total bytes_cmp-IsAntisymmetric (greater-semilattice total one)

  pub with_empty : (m : Held) → both m empty ≡ m
  with_empty m = commutative m empty ∙ joined_empty bytes_cmp_total bytes_cmp-IsAntisymmetric (greater R) m

  -- bare layers hold nothing
  pub bare : (base news : Held) → base ≡ empty → news ≡ empty → both base news ≡ empty
  bare base news b n = ap (λ m. both m news) b ∙ ap (both empty) n ∙ with_empty empty

  -- what is held at a key
  pub get-both : (base news held : Held) (key : List ℕ) (a b o : Option X) → a ≡ get base key → b ≡ get news key → both base news ≡ held → o ≡ joined_option (greater R) a b → o ≡ get held key
  get-both base news held key a b o at_base at_news is found =
      found
      ∙ ap (λ z. joined_option (greater R) z b) at_base
      ∙ ap (joined_option (greater R) (get base key)) at_news
      ∙ sym (get-joined bytes_cmp_total (greater R) base news key)
      ∙ ap (λ m. get m key) is

  -- the news go into the base
  pub folded : (base news grown bare held : Held) → grown ≡ both base news → bare ≡ empty → both base news ≡ held → both grown bare ≡ held
  folded base news grown bare held joined_in none is = ap (both grown) none ∙ with_empty grown ∙ joined_in ∙ is

  -- a value is taken into the news
  pub taken_in : (base news more held : Held) (key : List ℕ) (x : X) → more ≡ taken (greater R) news key x → both base news ≡ held → both base more ≡ taken (greater R) held key x
  taken_in base news more held key x took is =
      ap (both base) took
      ∙ sym (associative base news (insert empty key x))
      ∙ ap (λ m. both m (insert empty key x)) is

  turned : (a b c d : Held) → both (both a b) (both c d) ≡ both (both a c) (both b d)
  turned a b c d =
      associative a b (both c d)
      ∙ ap (both a) (sym (associative b c d) ∙ ap (λ m. both m d) (commutative b c) ∙ associative c b d)
      ∙ sym (associative a c (both b d))

  -- layer by layer
  pub joined_in : (base news held others other_news other base' news' : Held) → base' ≡ both base others → news' ≡ both news other_news
      → both base news ≡ held → both others other_news ≡ other → both base' news' ≡ both held other
  joined_in base news held others other_news other base' news' bases all_news is of_other =
      ap (λ m. both m news') bases
      ∙ ap (both (both base others)) all_news
      ∙ turned base others news other_news
      ∙ ap (λ m. both m (both others other_news)) is
      ∙ ap (both held) of_other
