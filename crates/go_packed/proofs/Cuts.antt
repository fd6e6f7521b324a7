-- Names that are joined are cut again.
use Rattle.std.proofs.Common.{◌≡◌, ℕ, ◌+◌, ◌<◌, ◌≤◌, List, [], ◌∷◌, ◌++◌, length, take, drop, get_or, length-append, refl, sym, ap, ◌∙◌, subst, arith, rules}
use Rattle.std.specs.Str.{IsUtf8, IsCharBoundary}
use Rattle.std.proofs.Math.Seq.{take-append_seam, drop-append_seam}
use Rattle.std.proofs.lemmas.List.{drop_more, take-append-le, drop-append-le, take-append-drop}
use Rattle.std.proofs.lemmas.Str.{IsUtf8-append, IsCharBoundary-from_drop}
use Rattle.go_packed.specs.Cuts.{cut, AreCuts}

-- ---- one more name behind others

alone : (text name : List ℕ) → text ≡ [] → (take (length name) (text ++ name) ≡ name) × (drop (length name) (text ++ name) ≡ [])
alone text name e = (
  ap (λ (t : List ℕ). take (length name) (t ++ name)) e ∙ ap (take (length name)) (sym (end name)) ∙ take-append_seam name [],
  ap (λ (t : List ℕ). drop (length name) (t ++ name)) e ∙ ap (drop (length name)) (sym (end name)) ∙ drop-append_seam name [],
)
  where
    end : (xs : List ℕ) → xs ++ [] ≡ xs
    end [] = refl
    end (x ∷ xs) = ap (λ ys. x ∷ ys) (end xs)

cut_more : (lengths text name : List ℕ) → AreCuts lengths text → cut (lengths ++ length name ∷ []) (text ++ name) ≡ cut lengths text ++ name ∷ []
cut_more [] text name h = ap (λ (x : List ℕ). x ∷ []) (alone text name h).0
cut_more (n ∷ lengths) text name h =
    ap (λ (x : List ℕ). x ∷ cut (lengths ++ length name ∷ []) (drop n (text ++ name))) (take-append-le n text name h.0)
    ∙ ap (λ (t : List ℕ). take n text ∷ cut (lengths ++ length name ∷ []) t) (drop-append-le n text name h.0)
    ∙ ap (λ (xs : List (List ℕ)). take n text ∷ xs) (cut_more lengths (drop n text) name h.2)

cuts_more : (lengths text name : List ℕ) → AreCuts lengths text → IsUtf8 name → AreCuts (lengths ++ length name ∷ []) (text ++ name)
cuts_more [] text name h utf8 =
    let le : length name ≤ length (text ++ name) = omega (arith, length-append text name) in
    (le, subst IsUtf8 (sym (alone text name h).0) utf8, (alone text name h).1)
cuts_more (n ∷ lengths) text name h utf8 =
    let le : n ≤ length (text ++ name) = omega (arith, length-append text name, h.0) in (
      le,
      subst IsUtf8 (sym (take-append-le n text name h.0)) h.1,
      subst (AreCuts (lengths ++ length name ∷ [])) (sym (drop-append-le n text name h.0)) (cuts_more lengths (drop n text) name h.2 utf8),
    )

-- the lengths and the text with one more
pub pushed : (lengths text name items bytes : List ℕ) → items ≡ lengths ++ length name ∷ [] → bytes ≡ text ++ name → AreCuts lengths text → IsUtf8 name
    → AreCuts items bytes × (cut items bytes ≡ cut lengths text ++ name ∷ [])
pushed lengths text name items bytes e f h utf8 = (
  subst (λ (l : List ℕ). AreCuts l bytes) (sym e) (subst (AreCuts (lengths ++ length name ∷ [])) (sym f) (cuts_more lengths text name h utf8)),
  ap (λ (l : List ℕ). cut l bytes) e ∙ ap (cut (lengths ++ length name ∷ [])) f ∙ cut_more lengths text name h,
)

-- ---- a text that is cut

is_text : (lengths text : List ℕ) → AreCuts lengths text → IsUtf8 text
is_text [] text h = subst IsUtf8 (sym h) empty
  where
    empty : IsUtf8 []
    empty = search rules
is_text (n ∷ lengths) text h = subst IsUtf8 (take-append-drop n text) (IsUtf8-append (take n text) (drop n text) h.1 (is_text lengths (drop n text) h.2))

-- these names were cut off, and this is left
pub record Left (all : List (List ℕ)) (names : List (List ℕ)) (lengths text : List ℕ) : Type 0 where
  pub whole : names ++ cut lengths text ≡ all
  pub cuts : AreCuts lengths text

pub cut_here : (all names : List (List ℕ)) (lengths : List ℕ) (i : ℕ) (text : List ℕ) → i < length lengths → Left all names (drop i lengths) text → IsCharBoundary text (get_or lengths i 0)
cut_here all names lengths i text within h =
    let n = get_or lengths i 0 in
    let cuts : AreCuts (n ∷ drop (i + 1) lengths) text = subst (λ (l : List ℕ). AreCuts l text) (drop_more lengths i 0 within) h.cuts in
    IsCharBoundary-from_drop text n cuts.0 (is_text (drop (i + 1) lengths) (drop n text) cuts.2)
