-- The first line of a script.
use Rattle.std.proofs.Common.{◌++◌, ◌-◌, ◌≡◌, ℕ, zero, suc, ◌+◌, ◌<◌, List, [], ◌∷◌, length, take, drop, get_or, length-append, add-one, refl, ap, inl, inr, ◌∙◌, arith}
use Rattle.std.specs.Prelude.{◌==◌, cond, if◌then◌else◌}
use Rattle.std.specs.List.{onto_first}
use Rattle.std.proofs.lemmas.Bool.Decides.{eqb_tells}
use Rattle.std.proofs.Math.Seq.{take-suc, take-length, drop-length, get_or-append_seam, take-append_seam}
use Rattle.ws_command.specs.Lines.{lines_of}
use Rattle.ws_command.specs.Pieces.{without_newline}

not_newline : (b : ℕ) (x y : List (List ℕ)) → (b ≡ 10 → ⊥) → cond (b == 10) x y ≡ y
not_newline b x y h = elim (eqb_tells b 10) [ inl t ↦ absurd (h t.1) | inr t ↦ rw t.0 refl ]

newline : (b : ℕ) (x y : List (List ℕ)) → b ≡ 10 → cond (b == 10) x y ≡ x
newline b x y h = rw h refl

pub line_at : (bytes : List ℕ) (i : ℕ) → ((k : ℕ) → k < i → get_or bytes k 0 ≡ 10 → ⊥) → i < length bytes → get_or bytes i 0 ≡ 10 → lines_of bytes ≡ take i bytes ∷ lines_of (drop (suc i) bytes)
line_at [] i none lt is = absurd (omega arith)
line_at (b ∷ bytes) zero none lt is = newline b _ _ is
line_at (b ∷ bytes) (suc i) none lt is =
    not_newline b _ _ (none 0 (omega arith)) ∙ ap (onto_first b) (line_at bytes i (λ k h. none (suc k) (omega arith)) (omega arith) is)

pub last_line : (bytes : List ℕ) → 0 < length bytes → ((k : ℕ) → k < length bytes → get_or bytes k 0 ≡ 10 → ⊥) → lines_of bytes ≡ bytes ∷ []
last_line [] lt none = absurd (omega arith)
last_line (b ∷ []) lt none = not_newline b _ _ (none 0 (omega arith))
last_line (b ∷ c ∷ bytes) lt none = not_newline b _ _ (none 0 (omega arith)) ∙ ap (onto_first b) (last_line (c ∷ bytes) (omega arith) (λ k h. none (suc k) (omega arith)))

cut_newline : (line front : List ℕ) (n : ℕ) → length line - 1 ≡ n → get_or line n 0 ≡ 10 → take n line ≡ front → without_newline line ≡ front
cut_newline line front n e g t = rw (e, g) t

-- a newline at the end is left out
without_newline-append : (front : List ℕ) → without_newline (front ++ 10 ∷ []) ≡ front
without_newline-append front = cut_newline (front ++ 10 ∷ []) front (length front) (omega (arith, length-append front (10 ∷ []))) (get_or-append_seam front 10 [] 0) (take-append_seam front (10 ∷ []))

no_choice : (b : ℕ) (x y : List ℕ) → (b ≡ 10 → ⊥) → (if b == 10 then x else y) ≡ y
no_choice b x y h = elim (eqb_tells b 10) [ inl t ↦ absurd (h t.1) | inr t ↦ rw t.0 refl ]

-- where there is none, nothing is
without_newline-none : (line : List ℕ) → ((k : ℕ) → k < length line → get_or line k 0 ≡ 10 → ⊥) → 0 < length line → without_newline line ≡ line
without_newline-none line none lt = no_choice _ _ _ (none (length line - 1) (omega arith))

-- the front up to the newline
ends_there : (bytes : List ℕ) (i : ℕ) → i < length bytes → get_or bytes i 0 ≡ 10 → take (suc i) bytes ≡ take i bytes ++ 10 ∷ []
ends_there bytes i lt is = take-suc bytes i 0 lt ∙ ap (λ (b : ℕ). take i bytes ++ b ∷ []) is

-- the line that a newline ends
pub ended_line : (bytes : List ℕ) (i : ℕ) → ((k : ℕ) → k < i → get_or bytes k 0 ≡ 10 → ⊥) → i < length bytes → get_or bytes i 0 ≡ 10 → (front back : List ℕ) → front ≡ take (i + 1) bytes → back ≡ drop (i + 1) bytes → lines_of bytes ≡ without_newline front ∷ lines_of back
ended_line bytes i none lt is front back e f = rw (e, f, add-one i, ends_there bytes i lt is, without_newline-append (take i bytes)) (line_at bytes i none lt is)

-- the line that the script's end ends
pub open_line : (bytes : List ℕ) → 0 < length bytes → ((k : ℕ) → k < length bytes → get_or bytes k 0 ≡ 10 → ⊥) → (front back : List ℕ) → front ≡ take (length bytes) bytes → back ≡ drop (length bytes) bytes → lines_of bytes ≡ without_newline front ∷ lines_of back
open_line bytes lt none front back e f = rw (e, f, take-length bytes, drop-length bytes, without_newline-none bytes none lt) (last_line bytes lt none)
