-- The words of a line, one by one.
use Rattle.std.proofs.Common.{◌≡◌, ℕ, zero, suc, ◌<◌, List, [], ◌∷◌, length, length-take, take, drop, get_or, refl, ap, inl, inr, ◌∙◌, sym, arith}
use Rattle.std.specs.Prelude.{◌==◌, cond, not}
use Rattle.std.specs.List.{onto_first, filter, slice_split}
use Rattle.std.proofs.lemmas.Bool.Decides.{eqb_tells}
use Rattle.std.proofs.Math.Dec.{eqb-suc-zero}
use Rattle.std.proofs.Math.Seq.{drop-cons, take-length, drop-length}
use Rattle.ws_command.specs.Lines.{words_of}

abbrev pub parts_of : List ℕ → List (List ℕ)
parts_of line = slice_split (λ b. b == 32) line

no_space : (b : ℕ) (x y : List (List ℕ)) → (b ≡ 32 → ⊥) → cond (b == 32) x y ≡ y
no_space b x y h = elim (eqb_tells b 32) [ inl t ↦ absurd (h t.1) | inr t ↦ rw t.0 refl ]

part_at : (bytes : List ℕ) (i : ℕ) → ((k : ℕ) → k < i → get_or bytes k 0 ≡ 32 → ⊥) → i < length bytes → get_or bytes i 0 ≡ 32 → parts_of bytes ≡ take i bytes ∷ parts_of (drop (suc i) bytes)
part_at [] i none lt is = absurd (omega arith)
part_at (b ∷ bytes) zero none lt is = rw is refl
part_at (b ∷ bytes) (suc i) none lt is =
    no_space b _ _ (none 0 (omega arith)) ∙ ap (onto_first b) (part_at bytes i (λ k h. none (suc k) (omega arith)) (omega arith) is)

last_part : (bytes : List ℕ) → ((k : ℕ) → k < length bytes → get_or bytes k 0 ≡ 32 → ⊥) → parts_of bytes ≡ bytes ∷ []
last_part [] none = refl
last_part (b ∷ bytes) none = no_space b _ _ (none 0 (omega arith)) ∙ ap (onto_first b) (last_part bytes (λ k h. none (suc k) (omega arith)))

kept : (word : List ℕ) (parts : List (List ℕ)) → 0 < length word → filter (λ word. not (length word == 0)) (word ∷ parts) ≡ word ∷ filter (λ word. not (length word == 0)) parts
kept [] parts lt = absurd (omega arith)
kept (b ∷ word) parts lt = rw (eqb-suc-zero (length word)) refl

behind_space : (b : ℕ) (bytes : List ℕ) → b ≡ 32 → words_of (b ∷ bytes) ≡ words_of bytes
behind_space b bytes e = rw e refl

-- spaces at the beginning don't count
pub spaces_skipped : (bytes : List ℕ) (i : ℕ) → ((k : ℕ) → k < i → get_or bytes k 0 ≡ 32) → words_of (drop i bytes) ≡ words_of bytes
spaces_skipped bytes zero all = refl
spaces_skipped [] (suc i) all = refl
spaces_skipped (b ∷ bytes) (suc i) all = spaces_skipped bytes i (λ k h. all (suc k) (omega arith)) ∙ sym (behind_space b bytes (all 0 (omega arith)))

-- the word that a space ends
pub word_at : (bytes : List ℕ) (i : ℕ) → ((k : ℕ) → k < i → get_or bytes k 0 ≡ 32 → ⊥) → i < length bytes → get_or bytes i 0 ≡ 32 → 0 < i → (front back : List ℕ) → front ≡ take i bytes → back ≡ drop i bytes → words_of bytes ≡ front ∷ words_of back
word_at bytes i none lt is some front back e f =
    let cut = ap (λ (parts : List (List ℕ)). filter (λ word. not (length word == 0)) parts) (part_at bytes i none lt is) in
    let back_is : words_of (drop i bytes) ≡ words_of (drop (suc i) bytes) = ap words_of (drop-cons bytes i 0 lt) ∙ behind_space (get_or bytes i 0) (drop (suc i) bytes) is in
    rw (e, f) (cut ∙ kept (take i bytes) (parts_of (drop (suc i) bytes)) (omega (arith, length-take i bytes)) ∙ ap (λ (ws : List (List ℕ)). take i bytes ∷ ws) (sym back_is))

-- the word that the line's end ends
pub last_word : (bytes : List ℕ) → 0 < length bytes → ((k : ℕ) → k < length bytes → get_or bytes k 0 ≡ 32 → ⊥) → (front back : List ℕ) → front ≡ take (length bytes) bytes → back ≡ drop (length bytes) bytes → words_of bytes ≡ front ∷ words_of back
last_word bytes some none front back e f =
    let cut = ap (λ (parts : List (List ℕ)). filter (λ word. not (length word == 0)) parts) (last_part bytes none) in
    rw (e, f, take-length bytes, drop-length bytes) (cut ∙ kept bytes [] some)

-- a line of spaces has no words
pub all_spaces : (bytes : List ℕ) → ((k : ℕ) → k < length bytes → get_or bytes k 0 ≡ 32) → [] ≡ words_of bytes
all_spaces bytes all = ap words_of (sym (drop-length bytes)) ∙ spaces_skipped bytes (length bytes) all

-- a word has a byte
pub not_first : (bytes : List ℕ) (i : ℕ) → (get_or bytes 0 0 ≡ 32 → ⊥) → get_or bytes i 0 ≡ 32 → 0 < i
not_first bytes zero h is = absurd (h is)
not_first bytes (suc i) h is = omega arith
