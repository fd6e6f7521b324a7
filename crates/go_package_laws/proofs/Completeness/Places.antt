-- Names of a text stand at places of their own, each later than those before it.
use Rattle.std.proofs.Common.{◌≡◌, ℕ, ◌+◌, ◌-◌, ◌≤◌, ◌<◌, ◌⊎◌, zero, suc, inl, inr, Bool, true, false, cond, List, [], ◌∷◌, ◌++◌, length, take, drop, length-append, length-drop, Some, None, refl, sym, ap, ◌∙◌, subst, arith}
use Rattle.std.specs.Prelude.{nat_eq, nat_lt, if◌then◌else◌}
use Rattle.std.proofs.lemmas.Bool.{cases_Bool}
use Rattle.std.proofs.lemmas.List.{drop-drop}
use Rattle.std.proofs.Math.Seq.{drop-append_seam}
use Rattle.go_text.specs.declared.place.Place.{Place}
use Rattle.go_text.specs.Places.{place_after, place_at, mark_size}
use Rattle.go_text.proofs.Places.{lines_behind, columns_behind, before_more}
use Rattle.go_scan.specs.declared.shape.Shape.{Shape}
use Rattle.go_scan.specs.declared.shape.Shape.TheVariants.{Word}
use Rattle.go_scan.specs.declared.token.Token.{Token}
use Rattle.go_scan.specs.declared.token.TokenKind.TheVariants as kinds
use Rattle.go_scan.specs.declared.punctuation.Punctuation.TheVariants as marks
use Rattle.go_scan.specs.Lex.{Piece, has_begun, IsRow, token_of, with_token, tokens_of, ends_statement, due_behind, due_before, with_semis, Lexes}
use Rattle.go_scan.proofs.Rows.{begins_some}
use Rattle.go_ast.specs.Grammar.{Lexeme}
use Rattle.go_ast.specs.Tokens.{lexemes}

-- ---- places

abbrev Later : Place → Place → Type 0
Later p q = (p.line < q.line) ⊎ ((p.line ≡ q.line) × (p.column < q.column))

later_still : (p q r : Place) → Later p q → Later q r → Later p r
later_still p q r (inl a) (inl b) = inl (omega (arith, a, b))
later_still p q r (inl a) (inr b) = inl (omega (arith, a, b.0))
later_still p q r (inr a) (inl b) = inl (omega (arith, a.0, b))
later_still p q r (inr a) (inr b) = inr (a.0 ∙ b.0, omega (arith, a.1, b.1))

one_byte : (xs : List ℕ) (b : ℕ) → Later (place_after xs) (place_after (xs ++ b ∷ []))
one_byte xs b = elim (cases_Bool (nat_eq b 10)) [
  | inl is ↦ inl (let line : (place_after (xs ++ b ∷ [])).line ≡ (place_after xs).line + 1 = lines_behind xs b ∙ ap (λ c. (place_after xs).line + cond c 1 0) is in omega (arith, line))
  | inr not_so ↦ inr (
    (let line : (place_after (xs ++ b ∷ [])).line ≡ (place_after xs).line + 0 = lines_behind xs b ∙ ap (λ c. (place_after xs).line + cond c 1 0) not_so in omega (arith, line)),
    (let column : (place_after (xs ++ b ∷ [])).column ≡ (place_after xs).column + 1 = columns_behind xs b ∙ ap (λ c. cond c 1 ((place_after xs).column + 1)) not_so in omega (arith, column)),
  )
]

first_byte : (bytes : List ℕ) → 1 ≤ length bytes → (b : ℕ) × (take 1 bytes ≡ b ∷ [])
first_byte [] some = absurd (omega (arith, some))
first_byte (b ∷ bs) some = (b, refl)

one_later : (text : List ℕ) (at : ℕ) → mark_size text ≤ at → at < length text → Later (place_at text at) (place_at text (at + 1))
one_later text at le lt =
    let size : length (drop at text) ≡ length text - at = length-drop at text in
    let byte = first_byte (drop at text) (omega (arith, size, lt)) in
    let before = take (at - mark_size text) (drop (mark_size text) text) in
    let more : before ++ byte.0 ∷ [] ≡ take (at + 1 - mark_size text) (drop (mark_size text) text) = ap (λ l. before ++ l) (sym byte.1) ∙ before_more text at 1 le in
    subst (λ (l : List ℕ). Later (place_after before) (place_after l)) more (one_byte before byte.0)

all_later : (text : List ℕ) (at n : ℕ) → mark_size text ≤ at → at + suc n < length text → Later (place_at text at) (place_at text (at + suc n))
all_later text at zero le lt = one_later text at le (omega (arith, lt))
all_later text at (suc n) le lt =
    let next : at + suc n + 1 ≡ at + suc (suc n) = omega arith in
    later_still (place_at text at) (place_at text (at + suc n)) (place_at text (at + suc (suc n))) (all_later text at n le (omega (arith, lt)))
    (subst (λ (k : ℕ). Later (place_at text (at + suc n)) (place_at text k)) next (one_later text (at + suc n) (omega (arith, le)) (omega (arith, lt))))

not_itself : (p : Place) → Later p p → ⊥
not_itself p (inl a) = omega (arith, a)
not_itself p (inr a) = omega (arith, a.1)

pub places_differ : (text : List ℕ) (a b : ℕ) → mark_size text ≤ a → a < b → b < length text → place_at text a ≡ place_at text b → ⊥
places_differ text a b le lt within same =
    let further : a + suc (b - a - 1) ≡ b = omega (arith, lt) in
    let later = subst (λ (k : ℕ). Later (place_at text a) (place_at text k)) further (all_later text a (b - a - 1) le (omega (arith, further, within))) in
    not_itself (place_at text b) (subst (λ (p : Place). Later p (place_at text b)) same later)

-- ---- tokens

-- names among tokens stand at bytes of a text, each behind those before it
abbrev pub Rises : List ℕ → ℕ → List Lexeme → Type 0
Rises text at [] = Unit {0}
Rises text at (t ∷ ts) = ((t.kind ≡ kinds.Name → ⊥) × Rises text at ts) ⊎ ((k : ℕ) × (at ≤ k) × (k < length text) × (t.place ≡ place_at text k) × Rises text (suc k) ts)

pub rises_from : (text : List ℕ) (a b : ℕ) (ts : List Lexeme) → a ≤ b → Rises text b ts → Rises text a ts
rises_from text a b [] le h = tt
rises_from text a b (t ∷ ts) le (inl h) = inl (h.0, rises_from text a b ts le h.1)
rises_from text a b (t ∷ ts) le (inr (k, l, within, place, rest)) = inr (k, omega (arith, le, l), within, place, rest)

abbrev AllSemis : List Token → Type 0
AllSemis [] = Unit {0}
AllSemis (t ∷ ts) = (t.kind ≡ kinds.Punctuation marks.Semicolon) × AllSemis ts

one_due : (s : Token) (ts : List Token) → s.kind ≡ kinds.Punctuation marks.Semicolon → AllSemis (due_before (Some s) ts)
one_due s [] is = (is, tt)
one_due s (t ∷ ts) is = elim (cases_Bool (nat_lt s.place.line t.place.line)) [ inl later ↦ rw later (is, tt) | inr not_so ↦ rw not_so tt ]

abbrev semi_behind : Token → Place → Token
semi_behind t behind = record { kind = kinds.Punctuation marks.Semicolon; start = t.end; end = t.end; place = behind }

some_due : (t : Token) (behind : Place) (c : Bool) (ts : List Token) → AllSemis (due_before (if c then Some (semi_behind t behind) else None) ts)
some_due t behind true ts = one_due (semi_behind t behind) ts refl
some_due t behind false ts = tt

due_semis : (t : Token) (behind : Place) (ts : List Token) → AllSemis (due_before (due_behind t behind) ts)
due_semis t behind ts = some_due t behind (ends_statement t.kind) ts

semis_rise : (text : List ℕ) (at : ℕ) (ss ts : List Token) → AllSemis ss → Rises text at (lexemes text ts) → Rises text at (lexemes text (ss ++ ts))
semis_rise text at [] ts h k = k
semis_rise text at (s ∷ ss) ts h k = inl ((λ is. (let no : kinds.Punctuation marks.Semicolon ≡ kinds.Name = sym h.0 ∙ is in cc (no))), semis_rise text at ss ts h.1 k)

token_rises : (text : List ℕ) (at : ℕ) (shape : Shape) (size : ℕ) (ts : List Token) → 1 ≤ size → at < length text → Rises text (at + size) (lexemes text (with_semis text ts))
    → Rises text at (lexemes text (with_semis text (with_token text at shape size ts)))
token_rises text at (Word kind) size ts some within h =
    let t = token_of text at kind size in
    inr (
      at,
      omega arith,
      within,
      refl,
      semis_rise text (suc at) (due_before (due_behind t (place_at text t.end)) ts) (with_semis text ts) (due_semis t (place_at text t.end) ts)
          (rises_from text (suc at) (at + size) (lexemes text (with_semis text ts)) (omega (arith, some)) h),
    )
token_rises text at shape size ts some within h = rises_from text at (at + size) (lexemes text (with_semis text ts)) (omega arith) h

row_rises : (text : List ℕ) (at : ℕ) (begun : Bool) (ps : List Piece) (last : List ℕ) → IsRow begun ps (drop at text) last → Rises text at (lexemes text (with_semis text (tokens_of text at ps)))
row_rises text at begun [] last row = tt
row_rises text at begun (p ∷ ps) last row =
    let b = row.1 in
    let some = begins_some p (drop at text) row.0 b in
    let behind : row.0 ≡ drop (at + length p.bytes) text = sym (drop-append_seam p.bytes row.0) ∙ ap (λ ys. drop (length p.bytes) ys) (sym b.whole) ∙ drop-drop (length p.bytes) at text in
    let size : length text - at ≡ length p.bytes + length row.0 = sym (length-drop at text) ∙ ap (λ (ys : List ℕ). length ys) b.whole ∙ length-append p.bytes row.0 in
    token_rises text at p.shape (length p.bytes) (tokens_of text (at + length p.bytes) ps) some (omega (arith, size, some))
    (row_rises text (at + length p.bytes) (has_begun begun p.shape) ps last (subst (λ ys. IsRow (has_begun begun p.shape) ps ys last) behind row.3))

pub lexes_rise : (text : List ℕ) (ts : List Token) → Lexes text ts → Rises text (mark_size text) (lexemes text ts)
lexes_rise text ts (pieces, row, semis) = subst (λ (us : List Token). Rises text (mark_size text) (lexemes text us)) (sym semis) (row_rises text (mark_size text) false pieces [] row)
