use Rattle.std.proofs.Common.{◌≡◌, ℕ, ◌+◌, ◌-◌, ◌≤◌, ◌<◌, List, [], ◌∷◌, ◌++◌, take, drop, length, Option, Some, None, refl, sym, ap, ◌∙◌, subst, arith, length-take, length-drop, Vec, Global, rules}
use Rattle.std.proofs.lemmas.List.{take_rest, drop_all}
use Rattle.go_text.specs.declared.place.Place.{Place}
use Rattle.go_text.specs.Places.{place_after, place_at, mark_size}
use Rattle.go_text.proofs.Places.{place_at-bound, before_more}
use Rattle.go_text.specs.declared.edition.Edition.TheVariants.{Two}
use Rattle.go_text.proofs.Texts.{valid_is_short}
use Rattle.go_scan.specs.declared.fault.ScanFault.TheVariants.{Malformed}
use Rattle.go_scan.specs.declared.token.Token.{Token}
use Rattle.go_scan.specs.Lex.{has_begun, Lexes, token_of, due_before, due_behind}
use Rattle.go_scan.proofs.Steps.{Rowed, Adds, Ends, rowed_init, rowed_on, ended, refused_here, refused_none, refused_piece, refuses_same, no_word, no_word_begun}
use Rattle.go_scan.proofs.scanner.scan.Goals as goal
use Rattle.go_scan.proofs.scanner.scan.Goals.{in-Word+in_ok-push, in_default-shape, in-Some-due+in_ok-push-2, in_default-due}

pub pieces-init : goal.pieces-init
pieces-init c = record {
  row = rowed_init c.as_bytes-text.result.now c.mark_size-at.result c.new-tokens.result.items c.mark_size-at.ensures.value c.new-tokens.ensures.items;
  place = c.place_at-place.ensures;
  from = omega (arith, c.mark_size-at.ensures.value);
  within = c.mark_size-at.ensures.within;
}

pub returns-in_default-clause-err : goal.returns-in_default-clause-err
returns-in_default-clause-err c = λ fault place e.
    let text = c.as_bytes-text.result.now in
    let at = c.pieces.at in
    let rest : List ℕ = take (length text - at) (drop at text) in
    let some : 1 ≤ length rest = omega (arith, c.pieces-test.true, length-take (length text - at) (drop at text), length-drop at text) in
    let refused = refused_here text at c.pieces.begun c.pieces.tokens.items c.pieces.due rest Malformed c.pieces.place c.pieces.invariant.row (take_rest text at) (refused_none c.pieces.begun rest some c.in_default.ensures.value) c.pieces.invariant.place in
    let same_fault : Malformed ≡ fault = cc in
    let same_place : c.pieces.place ≡ place = cc in
    refuses_same text c.args.source.now.text Malformed fault c.pieces.place place (c.as_bytes-text.ensures.value ∙ c.as_str.ensures.value ∙ c.text.ensures) same_fault same_place refused

pub returns-in-Some-shape_fault-clause-err : goal.returns-in-Some-shape_fault-clause-err
returns-in-Some-shape_fault-clause-err c = λ fault place e.
    let text = c.as_bytes-text.result.now in
    let at = c.pieces.at in
    let rest : List ℕ = take (length text - at) (drop at text) in
    let found = c.in-Some-shape_fault.fault in
    let refused = refused_here text at c.pieces.begun c.pieces.tokens.items c.pieces.due rest found c.pieces.place c.pieces.invariant.row (take_rest text at) (refused_piece c.pieces.begun rest c.in-Some.shape c.in-Some.len found c.in-Some.ensures.value c.in-Some-shape_fault.ensures) c.pieces.invariant.place in
    let same_fault : found ≡ fault = cc in
    let same_place : c.pieces.place ≡ place = cc in
    refuses_same text c.args.source.now.text found fault c.pieces.place place (c.as_bytes-text.ensures.value ∙ c.as_str.ensures.value ∙ c.text.ensures) same_fault same_place refused

-- a place of a short text has room for the text
fits : (text : List ℕ) (p : Place) (at m n : ℕ) → length text ≤ 4194304 → p ≡ place_at text at → (p.line + length (take n (take m (drop at text))) < 4294967296) × (p.column + length (take n (take m (drop at text))) < 4294967296)
fits text p at m n short e =
    let line : p.line ≤ 1 + length text = subst (λ (q : Place). q.line ≤ 1 + length text) (sym e) (place_at-bound text at).0 in
    let column : p.column ≤ 1 + length text = subst (λ (q : Place). q.column ≤ 1 + length text) (sym e) (place_at-bound text at).1 in
    let size : length (take n (take m (drop at text))) ≤ length text = omega (arith, length-take {A = ℕ}, length-drop {A = ℕ}) in
    (omega arith, omega arith)

pub after-behind-requires-clause-line : goal.after-behind-requires-clause-line
after-behind-requires-clause-line c =
    let text = c.as_bytes-text.result.now in
    (fits text c.pieces.place c.pieces.at (length text - c.pieces.at) c.in-Some.len
    (subst (λ (t : List ℕ). length t ≤ 4194304) (sym (c.as_bytes-text.ensures.value ∙ c.as_str.ensures.value)) (valid_is_short Two c.text.result.now c.as_str.ensures.valid)) c.pieces.invariant.place).0

pub after-behind-requires-clause-column : goal.after-behind-requires-clause-column
after-behind-requires-clause-column c =
    let text = c.as_bytes-text.result.now in
    (fits text c.pieces.place c.pieces.at (length text - c.pieces.at) c.in-Some.len
    (subst (λ (t : List ℕ). length t ≤ 4194304) (sym (c.as_bytes-text.ensures.value ∙ c.as_str.ensures.value)) (valid_is_short Two c.text.result.now c.as_str.ensures.valid)) c.pieces.invariant.place).1

pub overflow_cast-start : goal.overflow_cast-start
overflow_cast-start c =
    let text = c.as_bytes-text.result.now in
    let short = subst (λ (t : List ℕ). length t ≤ 4194304) (sym (c.as_bytes-text.ensures.value ∙ c.as_str.ensures.value)) (valid_is_short Two c.text.result.now c.as_str.ensures.valid) in
    let less : c.pieces.at < 4294967296 = omega (arith, short, c.pieces.invariant.within) in
    search (rules, less)

pub overflow_cast-end : goal.overflow_cast-end
overflow_cast-end c =
    let text = c.as_bytes-text.result.now in
    let at = c.pieces.at in
    let short = subst (λ (t : List ℕ). length t ≤ 4194304) (sym (c.as_bytes-text.ensures.value ∙ c.as_str.ensures.value)) (valid_is_short Two c.text.result.now c.as_str.ensures.valid) in
    let le = c.in-Some.ensures.within.1 in
    let less : at + c.in-Some.len < 4294967296 = omega (arith, short, le, c.pieces.invariant.within, length-take (length text - at) (drop at text), length-drop at text) in
    search (rules, less)

pub pieces-preserved : goal.pieces-preserved
pieces-preserved c =
    let text = c.as_bytes-text.result.now in
    let at = c.pieces.at in
    let n = c.in-Some.len in
    let shape = c.in-Some.shape in
    let m = mark_size text in
    let rest : List ℕ = take (length text - at) (drop at text) in
    let here : rest ≡ drop at text = take_rest text at in
    let le : n ≤ length rest = c.in-Some.ensures.within.1 in
    let behind : c.after-behind.result ≡ place_at text (at + n) =
    c.after-behind.ensures (take (at - m) (drop m text)) c.pieces.invariant.place
    ∙ ap (λ ys. place_after (take (at - m) (drop m text) ++ take n ys)) here
    ∙ ap place_after (before_more text at n c.pieces.invariant.from) in
    let begun : c.match-shape.begun ≡ has_begun c.pieces.begun shape =
    elim c.match-shape.branch [
      | in-Word+in_ok-push w ↦ w.begun-is ∙ sym (ap (has_begun c.pieces.begun) w.in-Word.is)
      | in_default-shape w ↦ w.begun-is ∙ sym (no_word_begun shape c.pieces.begun w.in_default-shape.not-Word)
    ] in
    let adds : Adds text at n shape c.pieces.tokens.items c.pieces.due c.match-shape.tokens.items c.match-shape.due =
    elim c.match-shape.branch [
      | in-Word+in_ok-push w ↦ (
          let old = c.pieces.tokens.items in
          let k = w.in-Word.kind in
          let here_is : c.pieces.place ≡ place_at text at = c.pieces.invariant.place in
          let added : c.match-shape.tokens.items ≡ old ++ due_before c.pieces.due (token_of text at k n ∷ []) ++ token_of text at k n ∷ [] =
          ap (λ (v : Vec Token Global). v.items) w.tokens-is
          ∙ w.in_ok-push.ensures.ok
          ∙ ap (λ p. let t : Token = record { kind = k; start = at; end = at + n; place = p } in old ++ due_before c.pieces.due (t ∷ []) ++ t ∷ []) here_is in
          let now_due : c.match-shape.due ≡ due_behind (token_of text at k n) (place_at text (at + n)) =
          w.due-is ∙ w.due_behind-due.ensures
          ∙ ap (λ p. due_behind (record { kind = k; start = at; end = at + n; place = p }) c.after-behind.result) here_is
          ∙ ap (due_behind (token_of text at k n)) behind in
          subst (λ s. Adds text at n s old c.pieces.due c.match-shape.tokens.items c.match-shape.due) (sym w.in-Word.is) (added, now_due))
      | in_default-shape w ↦ no_word shape text at n c.pieces.tokens.items c.match-shape.tokens.items c.pieces.due c.match-shape.due w.in_default-shape.not-Word (ap (λ (v : Vec Token Global). v.items) w.tokens-is) w.due-is
    ] in
    record {
      row = subst (λ b. Rowed text m (at + n) b c.match-shape.tokens.items c.match-shape.due) (sym begun)
          (rowed_on text m at n c.pieces.begun shape rest c.pieces.tokens.items c.match-shape.tokens.items c.pieces.due c.match-shape.due here (sym c.in-Some.ensures.value) (sym c.in_default-shape_fault.ensures) adds c.pieces.invariant.row);
      place = behind;
      from = omega (arith, c.pieces.invariant.from);
      within = omega (arith, c.pieces.invariant.within, le, length-take (length text - at) (drop at text), length-drop at text);
    }

no_semicolon : (due : Option Token) (old new : List Token) → ((s : Token) → due ≡ Some s → ⊥) → new ≡ old → Ends due old new
no_semicolon None old new never e = e
no_semicolon (Some s) old new never e = absurd (never s refl)

pub returns-clause-ok : goal.returns-clause-ok
returns-clause-ok c =
    let text = c.as_bytes-text.result.now in
    let w = c.pieces.invariant.row [] [] (drop_all c.pieces.at text c.pieces-test.false) in
    let ends : Ends c.pieces.due c.pieces.tokens.items c.match-due.tokens.items =
    elim c.match-due.branch [
      | in-Some-due+in_ok-push-2 w ↦ subst (λ d. Ends d c.pieces.tokens.items c.match-due.tokens.items) (sym w.in-Some-due.is) (ap (λ (v : Vec Token Global). v.items) w.tokens-is ∙ w.in_ok-push-2.ensures.items)
      | in_default-due w ↦ no_semicolon c.pieces.due c.pieces.tokens.items c.match-due.tokens.items w.in_default-due.not-Some (ap (λ (v : Vec Token Global). v.items) w.tokens-is)
    ] in
    let lexes : Lexes text c.match-due.tokens.items = (w.0, w.1, sym (ended text c.pieces.due c.pieces.tokens.items c.match-due.tokens.items ends) ∙ sym w.2) in
    subst (λ t. Lexes t c.match-due.tokens.items) (c.as_bytes-text.ensures.value ∙ c.as_str.ensures.value ∙ c.text.ensures) lexes
