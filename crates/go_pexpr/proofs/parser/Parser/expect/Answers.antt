use Rattle.std.proofs.Common.{◌≡◌, ◌-◌, true, false, List, ◌∷◌, length, take, drop, refl, sym, ap, ◌∙◌, subst, arith}
use Rattle.std.specs.Prelude.{slice_index_or}
use Rattle.std.proofs.lemmas.List.Elements.{All-tail, All-same}
use Rattle.go_scan.specs.declared.token.Token.{Token}
use Rattle.go_scan.specs.declared.token.TokenKind.TheVariants as kinds
use Rattle.go_ast.specs.Machine.{token, Refused, run_parser}
use Rattle.go_ast.specs.Tokens.{LiesIn}
use Rattle.go_ast.specs.Tokens.{lexeme, lexemes}
use Rattle.go_pexpr.specs.Reads.{First, fault_of, left, expected_of}
use Rattle.go_pexpr.proofs.Reading.{then_refuses}
use Rattle.go_pexpr.proofs.Steps.{Kind, first_and_rest, empty_list, token_takes, token_deep, token_fails}
use Rattle.go_pexpr.proofs.parser.Parser.expect.Goals as goal

-- what code takes for the first of a list, and for the rest
abbrev first : List Token → Token
first ts = slice_index_or ts 0 (record { kind = kinds.Name; start = 0; end = 0; place = record { line = 0; column = 0 } })

abbrev rest : List Token → List Token
rest ts = take (length ts - 1) (drop 1 ts)

false_true : false ≡ true → ⊥
false_true e = cc (e)

pub returns-in_default-clause-reads : goal.returns-in_default-clause-reads
returns-in_default-clause-reads c = λ next.
    let none = ap (lexemes c.args.self.now.text.now) (empty_list c.args.self.now.tokens.now c.in_default.len_below) in
    then_refuses c.wrong.result (fault_of (expected_of c.args.expected) (left c.args.self.now))
    (token_fails c.args.self.now.edition c.args.kind c.args.need (expected_of c.args.expected) next (left c.args.self.now) (λ h. subst (First (Kind c.args.kind)) none h)) c.wrong.ensures

pub returns-then-not-is_kind-clause-reads : goal.returns-then-not-is_kind-clause-reads
returns-then-not-is_kind-clause-reads c = λ next.
    let ts = c.args.self.now.tokens.now in
    let some = ap (lexemes c.args.self.now.text.now) (first_and_rest ts _ c.in-len1-up.len_at_least) in
    then_refuses c.wrong-then-not-is_kind.result (fault_of (expected_of c.args.expected) (left c.args.self.now))
    (token_fails c.args.self.now.edition c.args.kind c.args.need (expected_of c.args.expected) next (left c.args.self.now) (λ h. false_true (c.if-not-is_kind.ensures.1 (subst (First (Kind c.args.kind)) some h)))) c.wrong-then-not-is_kind.ensures

pub returns-then-need-gt-LEVELS-clause-reads : goal.returns-then-need-gt-LEVELS-clause-reads
returns-then-need-gt-LEVELS-clause-reads c = λ next.
    let ts = c.args.self.now.tokens.now in
    let text = c.args.self.now.text.now in
    let some = ap (lexemes text) (first_and_rest ts _ c.in-len1-up.len_at_least) in
    record {
      by = ap (run_parser c.args.self.now.edition 250 (token c.args.kind c.args.need (expected_of c.args.expected) next)) some
          ∙ token_deep c.args.self.now.edition c.args.kind c.args.need (expected_of c.args.expected) next (lexeme text (first ts)) (lexemes text (rest ts)) (c.if-not-is_kind.ensures.0 refl) (omega (arith, c.if-need-gt-LEVELS.true))
          ∙ ap (Refused 4) (sym some);
    }

pub returns-clause-reads : goal.returns-clause-reads
returns-clause-reads c = λ next.
    let ts = c.args.self.now.tokens.now in
    let text = c.args.self.now.text.now in
    let some = ap (lexemes text) (first_and_rest ts _ c.in-len1-up.len_at_least) in
    record {
      by = ap (run_parser c.args.self.now.edition 250 (token c.args.kind c.args.need (expected_of c.args.expected) next)) some
          ∙ token_takes c.args.self.now.edition c.args.kind c.args.need (expected_of c.args.expected) next (lexeme text (first ts)) (lexemes text (rest ts)) (c.if-not-is_kind.ensures.0 refl) (omega (arith, c.if-need-gt-LEVELS.false));
    }

pub invariant_of-self : goal.invariant_of-self
invariant_of-self c =
    let ts = c.args.self.now.tokens.now in
    record {
      stands = All-tail (LiesIn c.args.self.now.text.now) (first ts) (rest ts)
          (All-same (LiesIn c.args.self.now.text.now) (first ts ∷ rest ts) ts (sym (first_and_rest ts _ c.in-len1-up.len_at_least)) c.args.self.now.stands);
    }
