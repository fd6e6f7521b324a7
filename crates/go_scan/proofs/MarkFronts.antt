-- Operators and punctuation at the front of a text.
use Rattle.std.proofs.Common.{◌≡◌, ℕ, ◌+◌, ◌≤◌, zero, suc, List, [], ◌∷◌, ◌++◌, length, take, drop, ◌-◌, append-nil, Option, Some, None, refl, sym, ap, ◌∙◌, subst, arith, length-append, length-take, take-append-drop}
use Rattle.std.proofs.Math.Seq.{take-append_seam, take-add}
use Rattle.go_scan.specs.declared.punctuation.Punctuation.{Punctuation}
use Rattle.go_scan.specs.declared.shape.Shape.{Shape}
use Rattle.go_scan.specs.declared.shape.Shape.TheVariants.{Word}
use Rattle.go_scan.specs.declared.token.TokenKind.TheVariants as kinds
use Rattle.go_scan.specs.Punctuations.{punctuation_spelling}
use Rattle.go_scan.specs.Fronts.{punctuation_in, mark_of, mark_at, first_front}
use Rattle.go_scan.proofs.Keys.{punctuation_found, punctuation_some, punctuation_of_spelling, mark_size}
use Rattle.go_scan.proofs.Runs.{Good, Fits}

-- what is found is spelled so
found_good : (text : List ℕ) (k : ℕ) → Good text (mark_of (take k text))
found_good text k = by_found (punctuation_in (take k text)) refl
  where
    by_found : (o : Option Punctuation) → punctuation_in (take k text) ≡ o → Good text (elim o [ None ↦ None | Some p ↦ Some (Word (kinds.Punctuation p), length (take k text)) ])
    by_found None e = tt
    by_found (Some p) e =
        let spelled = punctuation_found (take k text) p e in
        let same : take (length (take k text)) text ≡ take k text = ap (λ ys. take (length (take k text)) ys) (sym (take-append-drop k text)) ∙ take-append_seam (take k text) (drop k text) in
        let size : length (take k text) ≡ length (punctuation_spelling p) = ap (λ (ys : List ℕ). length ys) spelled in
        (same ∙ spelled, omega (arith, size, (mark_size p).0), omega (arith, length-take k text))

good_else : (text : List ℕ) (x y : Option (Shape × ℕ)) → Good text x → Good text y → Good text (first_front x y)
good_else text None y g h = h
good_else text (Some x) y g h = g

pub mark_good : (text : List ℕ) → Good text (mark_at text)
mark_good text = good_else text (mark_of (take 3 text)) _ (found_good text 3) (good_else text (mark_of (take 2 text)) _ (found_good text 2) (found_good text 1))

-- what is found in a front of at least a spelling's length, if anything
abbrev FitsOrNone : Shape → ℕ → Option (Shape × ℕ) → Type 0
FitsOrNone s n None = Unit {0}
FitsOrNone s n (Some p) = (n ≤ p.1) × (p.1 ≡ n → p.0 ≡ s)

fits_else : (s : Shape) (n : ℕ) (x y : Option (Shape × ℕ)) → FitsOrNone s n x → Fits s n y → Fits s n (first_front x y)
fits_else s n None y f g = g
fits_else s n (Some x) y f g = f

found_first : (s : Shape) (n : ℕ) (x y : Option (Shape × ℕ)) → Fits s n x → Fits s n (first_front x y)
found_first s n None y f = absurd f
found_first s n (Some x) y f = f

further : (p : Punctuation) (rest : List ℕ) (k : ℕ) → length (punctuation_spelling p) ≤ k →
    FitsOrNone (Word (kinds.Punctuation p)) (length (punctuation_spelling p)) (mark_of (take k (punctuation_spelling p ++ rest)))
further p rest k le = by_found (punctuation_in (take k (punctuation_spelling p ++ rest))) refl
  where
    empty : (xs : List ℕ) → length xs ≡ 0 → xs ≡ []
    empty [] e = refl
    empty (x ∷ xs) e = absurd (omega arith)

    by_found : (o : Option Punctuation) → punctuation_in (take k (punctuation_spelling p ++ rest)) ≡ o → FitsOrNone (Word (kinds.Punctuation p)) (length (punctuation_spelling p)) (elim o [ None ↦ None | Some q ↦ Some (Word (kinds.Punctuation q), length (take k (punctuation_spelling p ++ rest))) ])
    by_found None e = tt
    by_found (Some q) e = (
      omega (arith, length-take k (punctuation_spelling p ++ rest), length-append (punctuation_spelling p) rest),
      λ size. (
          let n : ℕ = length (punctuation_spelling p) in
          let more : k ≡ n + (k - n) = omega arith in
          let split : take k (punctuation_spelling p ++ rest) ≡ punctuation_spelling p ++ take (k - n) (drop n (punctuation_spelling p ++ rest)) =
          ap (λ j. take j (punctuation_spelling p ++ rest)) more ∙ take-add n (k - n) (punctuation_spelling p ++ rest)
          ∙ ap (λ ys. ys ++ take (k - n) (drop n (punctuation_spelling p ++ rest))) (take-append_seam (punctuation_spelling p) rest) in
          let none : take (k - n) (drop n (punctuation_spelling p ++ rest)) ≡ [] = empty _ (omega (arith, size, ap (λ (ys : List ℕ). length ys) split, length-append (punctuation_spelling p) (take (k - n) (drop n (punctuation_spelling p ++ rest))))) in
          let same : take k (punctuation_spelling p ++ rest) ≡ punctuation_spelling p = split ∙ ap (λ ys. punctuation_spelling p ++ ys) none ∙ append-nil (punctuation_spelling p) in
          ap (λ r. Word (kinds.Punctuation r)) (punctuation_of_spelling q p (sym (punctuation_found _ q e) ∙ same))),
    )

exactly : (p : Punctuation) (rest : List ℕ) (k : ℕ) → length (punctuation_spelling p) ≡ k → Fits (Word (kinds.Punctuation p)) k (mark_of (take k (punctuation_spelling p ++ rest)))
exactly p rest k e =
    let front : take k (punctuation_spelling p ++ rest) ≡ punctuation_spelling p = ap (λ j. take j (punctuation_spelling p ++ rest)) (sym e) ∙ take-append_seam (punctuation_spelling p) rest in
    subst (λ ys. Fits (Word (kinds.Punctuation p)) k (mark_of ys)) (sym front)
    (subst (λ o. Fits (Word (kinds.Punctuation p)) k (elim o [ None ↦ None | Some q ↦ Some (Word (kinds.Punctuation q), length (punctuation_spelling p)) ])) (sym (punctuation_some (punctuation_spelling p) p refl))
    (omega (arith, e), λ _. refl))

pub mark_fits : (p : Punctuation) (rest : List ℕ) → Fits (Word (kinds.Punctuation p)) (length (punctuation_spelling p)) (mark_at (punctuation_spelling p ++ rest))
mark_fits p rest = by_size (length (punctuation_spelling p)) refl
  where
    wider : (k : ℕ) → length (punctuation_spelling p) ≤ k → FitsOrNone (Word (kinds.Punctuation p)) (length (punctuation_spelling p)) (mark_of (take k (punctuation_spelling p ++ rest)))
    wider k le = further p rest k le

    by_size : (n : ℕ) → length (punctuation_spelling p) ≡ n → Fits (Word (kinds.Punctuation p)) n (mark_at (punctuation_spelling p ++ rest))
    by_size zero e = absurd (omega (arith, (mark_size p).0))
    by_size (suc zero) e =
        fits_else _ 1 (mark_of (take 3 (punctuation_spelling p ++ rest))) _ (subst (λ n. FitsOrNone (Word (kinds.Punctuation p)) n (mark_of (take 3 (punctuation_spelling p ++ rest)))) e (wider 3 (omega arith)))
        (fits_else _ 1 (mark_of (take 2 (punctuation_spelling p ++ rest))) _ (subst (λ n. FitsOrNone (Word (kinds.Punctuation p)) n (mark_of (take 2 (punctuation_spelling p ++ rest)))) e (wider 2 (omega arith)))
        (exactly p rest 1 e))
    by_size (suc (suc zero)) e =
        fits_else _ 2 (mark_of (take 3 (punctuation_spelling p ++ rest))) _ (subst (λ n. FitsOrNone (Word (kinds.Punctuation p)) n (mark_of (take 3 (punctuation_spelling p ++ rest)))) e (wider 3 (omega arith)))
        (found_first _ 2 (mark_of (take 2 (punctuation_spelling p ++ rest))) _ (exactly p rest 2 e))
    by_size (suc (suc (suc zero))) e = found_first _ 3 (mark_of (take 3 (punctuation_spelling p ++ rest))) _ (exactly p rest 3 e)
    by_size (suc (suc (suc (suc n)))) e = absurd (omega (arith, (mark_size p).1))
