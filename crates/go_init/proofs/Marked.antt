-- Marks of numbers.
use Rattle.std.proofs.Common.{◌≡◌, ℕ, zero, suc, ◌+◌, ◌<◌, ◌≤◌, Bool, true, false, IsTrue, List, [], ◌∷◌, length, replicate, Option, Some, None, refl, sym, ap, ◌∙◌, subst, inl, inr, arith, get_or-set_other, get_or-set_same}
use Rattle.std.specs.Prelude.{IfNone, IfSome}
use Rattle.std.proofs.Math.ListN.{set, length-set}
use Rattle.std.proofs.lemmas.Bool.{cases_eq}
use Rattle.std.specs.List.{Contains, slice_get}
use Rattle.ws_reach.proofs.Reached.{get_contains}
use Rattle.ws_reach.specs.Worklist.{is_marked}

pub set_past : {A : Type 0} (xs : List A) (i : ℕ) (x : A) → length xs ≤ i → set xs i x ≡ xs
set_past [] i x le = refl
set_past (y ∷ ys) zero x le = absurd (omega (arith, le))
set_past (y ∷ ys) (suc i) x le = ap (λ l. y ∷ l) (set_past ys i x (omega (arith, le)))

-- of the first numbers, as many as i, those below the count are marked, and no others
pub record AreMarked (numbers : List ℕ) (marks : List Bool) (count i : ℕ) : Type 0 where
  pub size : length marks ≡ count
  pub from : (k : ℕ) → IsTrue (is_marked marks k) → Contains numbers k
  pub taken : (j k : ℕ) → j < i → k < count → slice_get numbers j ≡ Some k → IsTrue (is_marked marks k)

pub marked_next : (numbers : List ℕ) (marks marks' : List Bool) (count i number : ℕ) → slice_get numbers i ≡ Some number → marks' ≡ set marks number true → AreMarked numbers marks count i → AreMarked numbers marks' count (i + 1)
marked_next numbers marks marks' count i number at is h =
    let here : (k : ℕ) → k ≡ number → k < count → IsTrue (is_marked marks' k) = λ k same lt.
    ap (λ (l : List Bool). is_marked l k) is ∙ ap (λ z. is_marked (set marks number true) z) same ∙ get_or-set_same marks number true false (let s = h.size in omega (arith, lt, same, s)) in
    let others : (k : ℕ) → (k ≡ number → ⊥) → is_marked marks' k ≡ is_marked marks k = λ k ne. ap (λ (l : List Bool). is_marked l k) is ∙ get_or-set_other marks number k true false ne in
    record {
      size = ap length is ∙ length-set marks number true ∙ h.size;
      from = λ k m. elim (cases_eq k number) [
        | inl same ↦ subst (Contains numbers) (sym same) (get_contains numbers i number at)
        | inr ne ↦ h.from k (sym (others k ne) ∙ m)
      ];
      taken = λ j k lt below is_k. elim (cases_eq k number) [
        | inl same ↦ here k same below
        | inr ne ↦ elim (cases_eq j i) [
          | inl same ↦ (let both : Some k ≡ Some number = sym is_k ∙ ap (slice_get numbers) same ∙ at in let it : k ≡ number = cc in absurd (ne it))
          | inr other ↦ others k ne ∙ h.taken j k (omega (arith, lt, other)) below is_k
        ]
      ];
    }

pub none_marked : (n k : ℕ) → IsTrue (is_marked (replicate n false) k) → ⊥
none_marked zero k m = (let no : false ≡ true = m in cc (no))
none_marked (suc n) zero m = (let no : false ≡ true = m in cc (no))
none_marked (suc n) (suc k) m = none_marked n k m

pub if_none : {A : Type 0} (P Q : Type 0) (o : Option A) → (P → Q) → IfNone o P → IfNone o Q
if_none P Q None each h = each h
if_none P Q (Some x) each h = h

pub if_some : {A : Type 0} (P Q R : A → Type 0) (o : Option A) → ((x : A) → P x → Q x → R x) → IfSome o P → IfSome o Q → IfSome o R
if_some P Q R None each h k = h
if_some P Q R (Some x) each h k = each x h k
