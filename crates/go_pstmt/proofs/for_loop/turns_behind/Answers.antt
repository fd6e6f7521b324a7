use Rattle.std.proofs.Common.{◌+◌, true, Some, None, refl, sym, ap, ◌∙◌}
use Rattle.go_ast.specs.Trees as trees
use Rattle.go_ast.specs.Expected.{another, an_operand}
use Rattle.go_ast.specs.Grammar.{opening_brace}
use Rattle.go_ast.specs.Machine.{expr, behind_turns, list_lefts, run_parser, read_block, open_block, for_body}
use Rattle.go_ast.specs.Views.{expr_of, simple_of, if_boxed}
use Rattle.go_ast.specs.declared.statement.Simple.{Simple}
use Rattle.go_pexpr.specs.Reads.{left}
use Rattle.go_pexpr.proofs.Reading.{then_fails}
use Rattle.go_pexpr.proofs.Steps.{optional_some, optional_none}
use Rattle.go_pstmt.proofs.Lefts.{false_true}
use Rattle.go_pstmt.proofs.for_loop.turns_behind.Goals as goal

pub returns-then-is_next-clause-reads : goal.returns-then-is_next-clause-reads
returns-then-is_next-clause-reads c = λ p next.
    let l = c.args.level in
    let i = if_boxed simple_of c.args.init in
    let e = if_boxed expr_of c.args.condition in
    let ts = left c.args.parser.now in
    let body = for_body l p next i e None in
    let behind = λ (s : trees.Simple). read_block (l + 1) (for_body l p next i e (Some s)) in
    record { by = optional_some c.args.parser.now.edition opening_brace (l + 1) another (open_block (l + 1) body) (expr 5 true (l + 1) an_operand (list_lefts behind_turns true (l + 1) behind)) ts (c.if-is_next.ensures.0 refl) }

pub returns-in_err-post-clause-reads : goal.returns-in_err-post-clause-reads
returns-in_err-post-clause-reads c = λ p next.
    let l = c.args.level in
    let i = if_boxed simple_of c.args.init in
    let e = if_boxed expr_of c.args.condition in
    let ts = left c.args.parser.now in
    let body = for_body l p next i e None in
    let behind = λ (s : trees.Simple). read_block (l + 1) (for_body l p next i e (Some s)) in
    let went = optional_none c.args.parser.now.edition opening_brace (l + 1) (open_block (l + 1) body) (expr 5 true (l + 1) an_operand (list_lefts behind_turns true (l + 1) behind)) ts (λ f. false_true (c.if-is_next.ensures.1 f)) in
    then_fails went (c.in_err-post.ensures.reads behind) c.from_residual.ensures.1

pub returns-clause-reads : goal.returns-clause-reads
returns-clause-reads c = λ p next.
    let l = c.args.level in
    let i = if_boxed simple_of c.args.init in
    let e = if_boxed expr_of c.args.condition in
    let ts = left c.args.parser.now in
    let body = for_body l p next i e None in
    let behind = λ (s : trees.Simple). read_block (l + 1) (for_body l p next i e (Some s)) in
    let went = optional_none c.args.parser.now.edition opening_brace (l + 1) (open_block (l + 1) body) (expr 5 true (l + 1) an_operand (list_lefts behind_turns true (l + 1) behind)) ts (λ f. false_true (c.if-is_next.ensures.1 f)) in
    record { by = went ∙ (c.in_ok-post.ensures.reads behind).by ∙ ap (λ (x : Simple). run_parser c.simple.new.parser.edition 250 (behind (simple_of x)) (left c.simple.new.parser)) (sym c.in_ok-post-2.ensures.ok) }
