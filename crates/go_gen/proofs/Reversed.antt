-- A place in a list that is kept from its end.
use Rattle.std.proofs.Common.{◌≡◌, ℕ, List, [], ◌∷◌, ◌++◌, length, reverse, sym, ap, ◌∙◌, append_assoc}
use Rattle.std.specs.Prelude.{slice_set}
use Rattle.std.proofs.Math.Seq.{set-append_seam}
use Rattle.std.proofs.lemmas.List.{reverse-append, length-reverse, reverse-reverse}

-- x in the middle, from the other end
seen_back : {A : Type 0} (front back : List A) (x : A) → reverse (front ++ x ∷ back) ≡ reverse back ++ x ∷ reverse front
seen_back front back x =
    reverse-append front (x ∷ back)
    ∙ ap (λ l. l ++ reverse front) (reverse-append (x ∷ []) back)
    ∙ append_assoc (reverse back) (x ∷ []) (reverse front)

pub replaced : {A : Type 0} (kept front back : List A) (x y : A) (n : ℕ) → reverse kept ≡ front ++ x ∷ back → length back ≡ n → reverse (slice_set kept n y) ≡ front ++ y ∷ back
replaced kept front back x y n e len =
    let is = sym (reverse-reverse kept) ∙ ap reverse e ∙ seen_back front back x in
    let at = sym len ∙ sym (length-reverse back) in
    ap (λ l. reverse (slice_set l n y)) is
    ∙ ap (λ k. reverse (slice_set (reverse back ++ x ∷ reverse front) k y)) at
    ∙ ap reverse (set-append_seam (reverse back) x (reverse front) y)
    ∙ seen_back (reverse back) (reverse front) y
    ∙ ap (λ l. l ++ y ∷ reverse (reverse back)) (reverse-reverse front)
    ∙ ap (λ l. front ++ y ∷ l) (reverse-reverse back)
