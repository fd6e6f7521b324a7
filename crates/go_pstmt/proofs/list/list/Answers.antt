use Rattle.std.proofs.Common.{arith, List, [], ◌∷◌, ◌++◌, map, sym, ap, ◌∙◌}
use Rattle.go_ast.specs.Grammar.{Lexeme, closing}
use Rattle.go_ast.specs.Machine.{Reader, list_start, run_parser}
use Rattle.go_pexpr.specs.Reads.{First, left}
use Rattle.go_pexpr.proofs.Reading.{then_fails}
use Rattle.go_pexpr.proofs.Steps.{Kind}
use Rattle.go_pstmt.proofs.Lists.{pushed}
use Rattle.go_pstmt.proofs.ListReads.{closing_due, ends_there, separator_there}
use Rattle.go_pstmt.proofs.Reading.{went}
use Rattle.go_pstmt.proofs.Steps.{false_true}
use Rattle.go_pstmt.proofs.list.list.Goals as goal

abbrev last : {A : Type 0} → (List A → Reader) → List A → Lexeme → Reader
last next ns t = next ns

pub returns-in_err-item-clause-reads : goal.returns-in_err-item-clause-reads
returns-in_err-item-clause-reads g c = λ next.
    let front = map (g.L.Items.seen c.args.items.now) c.nodes.nodes.items in
    then_fails (c.nodes.invariant.reads (last next)) (c.in_err-item.ensures.reads front (last next)) c.from_residual.ensures.1

pub nodes-preserved-in_ok-expect : goal.nodes-preserved-in_ok-expect
nodes-preserved-in_ok-expect g c =
    let items = c.args.items.now in
    let k = g.L.Items.kind items in
    let seen = g.L.Items.seen items in
    record {
      reads = λ next.
          let front = map seen c.nodes.nodes.items in
          let n = seen c.in_ok-item.field-0 in
          let other : First (Kind closing) (left c.item.new.parser) → ⊥ = λ h. false_true (sym c.if-not-is_next.true ∙ c.is_next-in-nodes.ensures.1 h) in
          c.nodes.invariant.reads next ∙ went (c.in_ok-item.ensures.reads front next)
          ∙ separator_there c.item.new.parser.edition k (g.met.L.Items.closes items) (front ++ n ∷ []) next _ (g.L.Items.due items) _ _ c.behind.ensures c.separator.ensures other
          ∙ went (c.in_ok-expect.ensures.reads _)
          ∙ ap (λ ns. run_parser c.expect.new.self.edition 250 (list_start k ns next) (left c.expect.new.self)) (sym (pushed seen c.nodes.nodes.items _ c.in_ok-item.field-0 c.in_ok-push.ensures.items));
      shorter = omega (arith, c.nodes.invariant.shorter, c.in_ok-item.ensures.shorter, c.in_ok-expect.ensures.shorter);
    }

pub returns-in_err-expect-clause-reads : goal.returns-in_err-expect-clause-reads
returns-in_err-expect-clause-reads g c = λ next.
    let items = c.args.items.now in
    let k = g.L.Items.kind items in
    let front = map (g.L.Items.seen items) c.nodes.nodes.items in
    let n = g.L.Items.seen items c.in_ok-item.field-0 in
    let other : First (Kind closing) (left c.item.new.parser) → ⊥ = λ h. false_true (sym c.if-not-is_next.true ∙ c.is_next-in-nodes.ensures.1 h) in
    then_fails (
    c.nodes.invariant.reads (last next) ∙ went (c.in_ok-item.ensures.reads front (last next))
    ∙ separator_there _ k (g.met.L.Items.closes items) (front ++ n ∷ []) (last next) _ (g.L.Items.due items) _ _ c.behind.ensures c.separator.ensures other)
    (c.in_err-expect.ensures.reads _) c.from_residual-in_err-expect.ensures.1

pub nodes-preserved : goal.nodes-preserved
nodes-preserved g c =
    let items = c.args.items.now in
    let k = g.L.Items.kind items in
    let seen = g.L.Items.seen items in
    record {
      reads = λ next.
          let front = map seen c.nodes.nodes.items in
          let n = seen c.in_ok-item.field-0 in
          let is : First (Kind closing) (left c.item.new.parser) = c.is_next-in-nodes.ensures.0 c.if-not-is_next.false in
          c.nodes.invariant.reads next ∙ went (c.in_ok-item.ensures.reads front next)
          ∙ ends_there c.item.new.parser.edition k (g.met.L.Items.closes items) (front ++ n ∷ []) next _ (g.L.Items.due items) is
          ∙ ap (λ ns. run_parser c.item.new.parser.edition 250 (list_start k ns next) (left c.item.new.parser)) (sym (pushed seen c.nodes.nodes.items _ c.in_ok-item.field-0 c.in_ok-push.ensures.items));
      shorter = omega (arith, c.nodes.invariant.shorter, c.in_ok-item.ensures.shorter);
    }

pub returns-in_err-expect-2-clause-reads : goal.returns-in_err-expect-2-clause-reads
returns-in_err-expect-2-clause-reads g c = λ next.
    let items = c.args.items.now in
    let k = g.L.Items.kind items in
    let front = map (g.L.Items.seen items) c.nodes.nodes.items in
    let is : First (Kind closing) (left c.nodes.parser) = c.is_next.ensures.0 c.nodes-test.false in
    then_fails (c.nodes.invariant.reads (last next) ∙ closing_due _ k (g.met.L.Items.closes items) front (last next) _ is) (c.in_err-expect-2.ensures.reads _) c.from_residual-in_err-expect-2.ensures.1

pub returns-clause-reads : goal.returns-clause-reads
returns-clause-reads g c = λ next.
    let items = c.args.items.now in
    let k = g.L.Items.kind items in
    let front = map (g.L.Items.seen items) c.nodes.nodes.items in
    let is : First (Kind closing) (left c.nodes.parser) = c.is_next.ensures.0 c.nodes-test.false in
    record {
      by = c.nodes.invariant.reads (last next) ∙ closing_due _ k (g.met.L.Items.closes items) front (last next) _ is ∙ went (c.in_ok-expect-2.ensures.reads (last next front))
          ∙ ap (λ ns. run_parser c.expect-2.new.self.edition 250 (next (map (g.L.Items.seen items) ns)) (left c.expect-2.new.self)) (sym c.shrink_to_fit.ensures.items);
    }
