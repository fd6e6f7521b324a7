-- Tokens stand in their text.
use Rattle.std.proofs.Common.{◌≡◌, ℕ, ◌+◌, ◌-◌, ◌≤◌, inl, inr, Bool, true, false, cond, List, [], ◌∷◌, ◌++◌, length, take, drop, length-append, length-drop, Some, None, refl, sym, ap, ◌∙◌, subst, arith}
use Rattle.std.specs.Prelude.{nat_lt}
use Rattle.std.specs.List.{All, slice_range}
use Rattle.std.proofs.lemmas.List.{drop-drop}
use Rattle.std.proofs.lemmas.List.Elements.{All-nil, All-cons, All-head, All-tail, All-append, All-same}
use Rattle.std.proofs.Math.Seq.{drop-append_seam, take-append_seam}
use Rattle.go_text.specs.Places.{place_at, mark_size}
use Rattle.go_scan.specs.declared.shape.Shape.{Shape}
use Rattle.go_scan.specs.declared.shape.Shape.TheVariants.{Word}
use Rattle.go_scan.specs.declared.token.Token.{Token}
use Rattle.go_scan.specs.declared.token.TokenKind.{TokenKind}
use Rattle.go_scan.specs.declared.token.TokenKind.TheVariants as kinds
use Rattle.go_scan.specs.declared.punctuation.Punctuation.TheVariants as marks
use Rattle.go_scan.specs.Lex.{Spells, SpellsToken, StandsIn, Piece, has_begun, IsRow, token_of, with_token, tokens_of, ends_statement, due_behind, due_before, with_semis, Lexes}
use Rattle.go_scan.proofs.Rows.{begins_some}

-- the token of a piece
piece_stands : (text : List ℕ) (at : ℕ) (kind : TokenKind) (bytes rest : List ℕ) → SpellsToken kind bytes → 1 ≤ length bytes → drop at text ≡ bytes ++ rest → StandsIn text (token_of text at kind (length bytes))
piece_stands text at kind bytes rest d some whole =
    let size : length text - at ≡ length bytes + length rest = sym (length-drop at text) ∙ ap (λ (ys : List ℕ). length ys) whole ∙ length-append bytes rest in
    let count : at + length bytes - at ≡ length bytes = omega arith in
    let slice : slice_range text at (at + length bytes) ≡ bytes = ap (λ k. take k (drop at text)) count ∙ ap (λ ys. take (length bytes) ys) whole ∙ take-append_seam bytes rest in
    record {
      order = omega arith;
      within = omega arith;
      place = refl;
      spelled = inl (subst (SpellsToken kind) (sym slice) d);
    }

with_token_stand : (text : List ℕ) (at : ℕ) (shape : Shape) (bytes rest : List ℕ) (ts : List Token) → Spells shape bytes → 1 ≤ length bytes → drop at text ≡ bytes ++ rest → All (StandsIn text) ts → All (StandsIn text) (with_token text at shape (length bytes) ts)
with_token_stand text at (Word kind) bytes rest ts d some whole all = All-cons (StandsIn text) (token_of text at kind (length bytes)) ts (piece_stands text at kind bytes rest d some whole) all
with_token_stand text at _ bytes rest ts d some whole all = all

row_stands : (text : List ℕ) (at : ℕ) (begun : Bool) (ps : List Piece) (last : List ℕ) → IsRow begun ps (drop at text) last → All (StandsIn text) (tokens_of text at ps)
row_stands text at begun [] last row = All-nil (StandsIn text)
row_stands text at begun (p ∷ ps) last row =
    let b = row.1 in
    let behind : row.0 ≡ drop (at + length p.bytes) text = sym (drop-append_seam p.bytes row.0) ∙ ap (λ ys. drop (length p.bytes) ys) (sym b.whole) ∙ drop-drop (length p.bytes) at text in
    with_token_stand text at p.shape p.bytes row.0 (tokens_of text (at + length p.bytes) ps) b.spelled (begins_some p (drop at text) row.0 b) b.whole
    (row_stands text (at + length p.bytes) (has_begun begun p.shape) ps last (subst (λ ys. IsRow (has_begun begun p.shape) ps ys last) behind row.3))

-- the semicolon that is due
semicolon_stands : (text : List ℕ) (t : Token) (ts : List Token) → StandsIn text t → All (StandsIn text) (due_before (due_behind t (place_at text t.end)) ts)
semicolon_stands text t ts s = by_test (ends_statement t.kind) ts
  where
    stands : StandsIn text (record { kind = kinds.Punctuation marks.Semicolon; start = t.end; end = t.end; place = place_at text t.end })
    stands = record {
      order = omega arith;
      within = s.within;
      place = refl;
      spelled = inr (refl, ap (λ k. take k (drop t.end text)) (let none : t.end - t.end ≡ 0 = omega arith in none));
    }

    one : All (StandsIn text) (record { kind = kinds.Punctuation marks.Semicolon; start = t.end; end = t.end; place = place_at text t.end } ∷ [])
    one = All-cons (StandsIn text) _ [] stands (All-nil (StandsIn text))

    by_line : (c : Bool) → All (StandsIn text) (cond c (record { kind = kinds.Punctuation marks.Semicolon; start = t.end; end = t.end; place = place_at text t.end } ∷ []) [])
    by_line true = one
    by_line false = All-nil (StandsIn text)

    by_test : (c : Bool) (us : List Token) → All (StandsIn text) (due_before (cond c (Some (record { kind = kinds.Punctuation marks.Semicolon; start = t.end; end = t.end; place = place_at text t.end })) None) us)
    by_test false us = All-nil (StandsIn text)
    by_test true [] = one
    by_test true (u ∷ us) = by_line (nat_lt (place_at text t.end).line u.place.line)

semis_stand : (text : List ℕ) (ts : List Token) → All (StandsIn text) ts → All (StandsIn text) (with_semis text ts)
semis_stand text [] all = All-nil (StandsIn text)
semis_stand text (t ∷ ts) all =
    let first = All-head (StandsIn text) t ts all in
    let due = due_before (due_behind t (place_at text t.end)) ts in
    All-append (StandsIn text) (t ∷ due) (with_semis text ts)
    (All-cons (StandsIn text) t due first (semicolon_stands text t ts first))
    (semis_stand text ts (All-tail (StandsIn text) t ts all))

pub tokens_stand : (text : List ℕ) (ts : List Token) → Lexes text ts → All (StandsIn text) ts
tokens_stand text ts lexes =
    All-same (StandsIn text) ts _ lexes.2 (semis_stand text (tokens_of text (mark_size text) lexes.0) (row_stands text (mark_size text) false lexes.0 [] lexes.1))
