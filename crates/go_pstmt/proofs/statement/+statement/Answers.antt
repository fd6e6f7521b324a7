use Rattle.std.proofs.Common.{◌+◌, List, [], ◌∷◌, ◌++◌, map, refl, sym, ap, ◌∙◌, subst, arith}
use Rattle.go_text.specs.declared.place.Place.{Place}
use Rattle.go_ast.specs.Trees as trees
use Rattle.go_ast.specs.Expected.{Expected}
use Rattle.go_ast.specs.Grammar.{Lexeme, closing_brace, simple_place}
use Rattle.go_ast.specs.Machine.{Reader, list_start, list_end, clause_start, clause_end, statements, open_block, else_part, behind_if, behind_else, behind_for, behind_switch, pack_cases, run_parser}
use Rattle.go_ast.specs.Tokens.{lexeme}
use Rattle.go_ast.specs.Views.{stmt_of, clause_of, block_of, expr_of, simple_of, if_boxed}
use Rattle.go_pstmt.specs.Turns.{for_of}
use Rattle.go_ast.specs.declared.statement.Stmt.{Stmt}
use Rattle.go_ast.specs.declared.statement.Stmt as stmts
use Rattle.go_ast.proofs.StatementRows.{empty_seen, block_seen, if_seen, simple_seen, switch_seen, no_else_seen, else_block_seen, else_if_seen}
use Rattle.go_pexpr.specs.Reads.{Reads, left, expected_of}
use Rattle.go_pexpr.proofs.Reading.{then_fails, then_reads}
use Rattle.go_pexpr.proofs.Steps.{same_at}
use Rattle.go_pstmt.specs.Due.{behind_of, clauses_behind}
use Rattle.go_pstmt.proofs.Lefts.{false_true, pushed}
use Rattle.go_pstmt.proofs.Items.{list_item, list_between, clause_item, clause_between, clause_done, item_due, item_empty}
use Rattle.go_pstmt.proofs.Reading.{missed}
use Rattle.go_pstmt.proofs.Choices.{due_jump, due_block, block_comes, no_block, if_comes, no_if, for_comes, no_for, switch_comes, no_switch, turns_open, else_missing, else_comes, else_if_comes, else_block_comes, clauses_close}
use Rattle.go_pstmt.proofs.statement.+statement.Goals as goal

-- blocks

-- what is due behind the statements of a block
abbrev in_block : Place → (trees.Block → Reader) → List trees.Statement → Lexeme → Reader
in_block p next ss closing = next (trees.block p (trees.pack_statements ss) closing.place)

pub block-returns-in_err-item-clause-reads : goal.block-returns-in_err-item-clause-reads
block-returns-in_err-item-clause-reads t c = λ next.
    let l = c.args.level + 1 in
    let n = in_block c.in_ok-opening.opening.place next in
    then_fails ((c.in_ok-opening.ensures.reads (open_block c.args.level next)).by ∙ c.statements.invariant.reads n)
    (c.in_err-item.ensures.reads (list_start (statements l) (map stmt_of c.statements.statements.items) n) (λ x ss. list_end (statements l) x ss n) (λ ss. list_start (statements l) ss n)
    (list_item c.statements.parser.edition l (map stmt_of c.statements.statements.items) n (left c.statements.parser) (λ f. false_true (sym c.statements-test.true ∙ c.is_next.ensures.1 f)))
    (λ ed. list_between ed l n))
    c.from_residual-in_err-item.ensures.1

pub block-statements-preserved : goal.block-statements-preserved
block-statements-preserved t c =
    let l = c.args.level + 1 in
    record {
      reads = λ n.
          c.statements.invariant.reads n
          ∙ (c.in_ok-item.ensures.reads (list_start (statements l) (map stmt_of c.statements.statements.items) n) (λ x ss. list_end (statements l) x ss n) (λ ss. list_start (statements l) ss n)
          (list_item c.statements.parser.edition l (map stmt_of c.statements.statements.items) n (left c.statements.parser) (λ f. false_true (sym c.statements-test.true ∙ c.is_next.ensures.1 f)))
          (λ ed. list_between ed l n)).by;
      shorter = omega (arith, c.in_ok-item.ensures.shorter, c.statements.invariant.shorter);
    }

pub block-returns-in_err-closing-clause-reads : goal.block-returns-in_err-closing-clause-reads
block-returns-in_err-closing-clause-reads t c = λ next.
    let l = c.args.level + 1 in
    let n = in_block c.in_ok-opening.opening.place next in
    then_fails
    ((c.in_ok-opening.ensures.reads (open_block c.args.level next)).by ∙ c.statements.invariant.reads n
    ∙ same_at c.statements.parser.edition _ _ closing_brace (left c.statements.parser) (c.is_next.ensures.0 c.statements-test.false) (λ text p. refl))
    (c.in_err-closing.ensures.reads (n (map stmt_of c.statements.statements.items))) c.from_residual-in_err-closing.ensures.1

pub block-returns-clause-reads : goal.block-returns-clause-reads
block-returns-clause-reads t c = λ next.
    let l = c.args.level + 1 in
    let n = in_block c.in_ok-opening.opening.place next in
    record {
      by = (c.in_ok-opening.ensures.reads (open_block c.args.level next)).by ∙ c.statements.invariant.reads n
          ∙ same_at c.statements.parser.edition _ _ closing_brace (left c.statements.parser) (c.is_next.ensures.0 c.statements-test.false) (λ text p. refl)
          ∙ (c.in_ok-closing.ensures.reads (n (map stmt_of c.statements.statements.items))).by
          ∙ ap (λ (ss : List Stmt). run_parser c.expect-2.new.self.edition 250 (n (map stmt_of ss) (lexeme c.args.parser.now.text.now c.in_ok-closing.closing)) (left c.expect-2.new.self)) (sym c.shrink_to_fit.ensures.items);
    }

-- items

pub item-returns-in_err-token-clause-reads : goal.item-returns-in_err-token-clause-reads
item-returns-in_err-token-clause-reads t c = λ before next front does between.
    let old = map stmt_of c.args.statements.now.items in
    let n = λ (x : Expected) (s : trees.Statement). next x (old ++ s ∷ []) in
    let f = λ (s : trees.Statement). front (old ++ s ∷ []) in
    then_fails (item_empty c.args.parser.now.edition before c.args.level n f (left c.args.parser.now) does (c.if-is_next.ensures.0 refl)) (c.in_err-token.ensures.reads (λ t. f (trees.empty t.place))) c.from_residual.ensures.1

pub item-returns-in_err-statement-clause-reads : goal.item-returns-in_err-statement-clause-reads
item-returns-in_err-statement-clause-reads t c = λ before next front does between.
    let old = map stmt_of c.args.statements.now.items in
    let n = λ (x : Expected) (s : trees.Statement). next x (old ++ s ∷ []) in
    let f = λ (s : trees.Statement). front (old ++ s ∷ []) in
    then_fails (item_due c.args.parser.now.edition before c.args.level n f (left c.args.parser.now) does (λ h. false_true (c.if-is_next.ensures.1 h))) (c.in_err-statement.ensures.reads (λ s. n (behind_of s) s)) c.from_residual-in_err-statement.ensures.1

pub item-returns-then-is_next-clause-reads : goal.item-returns-then-is_next-clause-reads
item-returns-then-is_next-clause-reads t c = λ before next front does between.
    let old = map stmt_of c.args.statements.now.items in
    let n = λ (x : Expected) (s : trees.Statement). next x (old ++ s ∷ []) in
    let f = λ (s : trees.Statement). front (old ++ s ∷ []) in
    let p = c.in_ok-token.token.place in
    let all = ap (λ (ss : List Stmt). map stmt_of ss) c.in_ok-push.ensures.items ∙ pushed stmt_of c.args.statements.now.items (stmts.Empty p) ∙ ap (λ (s : trees.Statement). old ++ s ∷ []) (empty_seen p) in
    record {
      by = item_empty c.args.parser.now.edition before c.args.level n f (left c.args.parser.now) does (c.if-is_next.ensures.0 refl)
          ∙ (c.in_ok-token.ensures.reads (λ t. f (trees.empty t.place))).by
          ∙ ap (λ (ss : List trees.Statement). run_parser c.expect.new.self.edition 250 (front ss) (left c.expect.new.self)) (sym all);
    }

pub item-returns-clause-reads : goal.item-returns-clause-reads
item-returns-clause-reads t c = λ before next front does between.
    let old = map stmt_of c.args.statements.now.items in
    let n = λ (x : Expected) (s : trees.Statement). next x (old ++ s ∷ []) in
    let f = λ (s : trees.Statement). front (old ++ s ∷ []) in
    let s = stmt_of c.in_ok-statement.statement in
    let x = expected_of c.expected_behind-behind.result in
    let all = ap (λ (ss : List Stmt). map stmt_of ss) c.in_ok-push-2.ensures.items ∙ pushed stmt_of c.args.statements.now.items c.in_ok-statement.statement in
    subst (λ (ss : List trees.Statement). Reads {A = Unit {0}} before (λ _. front ss) c.args.parser.now c.item_end.result c.item_end.new.parser) (sym all)
    (then_reads c.item_end.result
    (item_due c.args.parser.now.edition before c.args.level n f (left c.args.parser.now) does (λ h. false_true (c.if-is_next.ensures.1 h))
    ∙ (c.in_ok-statement.ensures.reads (λ r. n (behind_of r) r)).by
    ∙ ap (λ (y : Expected). run_parser c.statement.new.parser.edition 250 (n y s) (left c.statement.new.parser)) (sym c.expected_behind-behind.ensures))
    (c.item_end.ensures.reads (n x s) (f s) (between _ x (old ++ s ∷ []))))

-- clauses

pub clause_statements-returns-in_err-item-clause-reads : goal.clause_statements-returns-in_err-item-clause-reads
clause_statements-returns-in_err-item-clause-reads t c = λ done p values next.
    let l = c.args.level in
    let ss = map stmt_of c.statements.statements.items in
    then_fails (c.statements.invariant.reads done p values next)
    (c.in_err-item.ensures.reads (clause_start l done p values ss next) (λ x ss. clause_end l x done p values ss next) (λ ss. clause_start l done p values ss next)
    (clause_item c.statements.parser.edition l done p values next ss (left c.statements.parser) (λ f. false_true (sym c.statements-test.true ∙ c.ends_clause.ensures.1 f)))
    (λ ed. clause_between ed l done p values next))
    c.from_residual.ensures.1

pub clause_statements-statements-preserved : goal.clause_statements-statements-preserved
clause_statements-statements-preserved t c =
    let l = c.args.level in
    let ss = map stmt_of c.statements.statements.items in
    record {
      reads = λ done p values next.
          c.statements.invariant.reads done p values next
          ∙ (c.in_ok-item.ensures.reads (clause_start l done p values ss next) (λ x ss. clause_end l x done p values ss next) (λ ss. clause_start l done p values ss next)
          (clause_item c.statements.parser.edition l done p values next ss (left c.statements.parser) (λ f. false_true (sym c.statements-test.true ∙ c.ends_clause.ensures.1 f)))
          (λ ed. clause_between ed l done p values next)).by;
      shorter = omega (arith, c.in_ok-item.ensures.shorter, c.statements.invariant.shorter);
    }

pub clause_statements-returns-clause-reads : goal.clause_statements-returns-clause-reads
clause_statements-returns-clause-reads t c = λ done p values next.
    record {
      by = c.statements.invariant.reads done p values next
          ∙ clause_done c.statements.parser.edition c.args.level done p values next (map stmt_of c.statements.statements.items) (left c.statements.parser) (c.ends_clause.ensures.0 c.statements-test.false)
          ∙ ap (λ (ss : List Stmt). run_parser c.statements.parser.edition 250 (clauses_behind c.args.level (done ++ (p, (values, map stmt_of ss)) ∷ []) next) (left c.statements.parser)) (sym c.shrink_to_fit.ensures.items);
    }

pub clauses-returns-in_err-clause-clause-reads : goal.clauses-returns-in_err-clause-clause-reads
clauses-returns-in_err-clause-clause-reads t c = λ next.
    then_fails (c.clauses.invariant.reads (λ cs _. next cs)) (c.in_err-clause.ensures.reads (map clause_of c.clauses.clauses.items) (λ cs _. next cs)) c.from_residual.ensures.1

pub clauses-returns-in_err-clause-2-clause-reads : goal.clauses-returns-in_err-clause-2-clause-reads
clauses-returns-in_err-clause-2-clause-reads t c = λ next.
    let done = map clause_of c.clauses.clauses.items in
    let n = λ (cs : trees.Cases) (_ : Lexeme). next cs in
    let k = c.in_ok-clause.clause in
    then_fails (c.clauses.invariant.reads n ∙ (c.in_ok-clause.ensures.reads done n).by) (c.in_err-clause-2.ensures.reads done k.place (clause_of k).1.0 n) c.from_residual-in_err-clause-2.ensures.1

pub clauses-returns-in_err-expect-clause-reads : goal.clauses-returns-in_err-expect-clause-reads
clauses-returns-in_err-expect-clause-reads t c = λ next.
    let done = map clause_of c.clauses.clauses.items in
    let n = λ (cs : trees.Cases) (_ : Lexeme). next cs in
    let closed = c.clauses.invariant.reads n ∙ clauses_close c.clauses.parser.edition c.args.level done n (left c.clauses.parser) (c.is_next.ensures.0 c.clauses-test.false) in
    then_fails closed (c.in_err-expect.ensures.reads (n (pack_cases done))) c.from_residual-in_err-expect.ensures.1

pub clauses-returns-clause-reads : goal.clauses-returns-clause-reads
clauses-returns-clause-reads t c = λ next.
    let done = map clause_of c.clauses.clauses.items in
    let n = λ (cs : trees.Cases) (_ : Lexeme). next cs in
    let closed = c.clauses.invariant.reads n ∙ clauses_close c.clauses.parser.edition c.args.level done n (left c.clauses.parser) (c.is_next.ensures.0 c.clauses-test.false) in
    record { by = closed ∙ (c.in_ok-expect.ensures.reads (n (pack_cases done))).by }

pub conditional-returns-in_err-head-clause-reads : goal.conditional-returns-in_err-head-clause-reads
conditional-returns-in_err-head-clause-reads t c = λ next.
    let l = c.args.level in
    let p = c.in_ok-word.word.place in
    let one = (c.in_ok-word.ensures.reads (behind_if l next)).by in
    then_fails one (c.in_err-head.ensures.reads (lexeme c.args.parser.now.text.now c.in_ok-word.word) next) c.from_residual-in_err-head.ensures.1

pub conditional-returns-in_err-body-clause-reads : goal.conditional-returns-in_err-body-clause-reads
conditional-returns-in_err-body-clause-reads t c = λ next.
    let l = c.args.level in
    let p = c.in_ok-word.word.place in
    let one = (c.in_ok-word.ensures.reads (behind_if l next)).by in
    let i = if_boxed simple_of c.in_ok-head.head.init in
    let e = expr_of c.in_ok-head.head.condition.value in
    let two = one ∙ (c.in_ok-head.ensures.reads (lexeme c.args.parser.now.text.now c.in_ok-word.word) next).by in
    then_fails two (c.in_err-body.ensures.reads (λ b. else_part l p i e b next)) c.from_residual-in_err-body.ensures.1

pub conditional-returns-in_err-otherwise-clause-reads : goal.conditional-returns-in_err-otherwise-clause-reads
conditional-returns-in_err-otherwise-clause-reads t c = λ next.
    let l = c.args.level in
    let p = c.in_ok-word.word.place in
    let one = (c.in_ok-word.ensures.reads (behind_if l next)).by in
    let i = if_boxed simple_of c.in_ok-head.head.init in
    let e = expr_of c.in_ok-head.head.condition.value in
    let two = one ∙ (c.in_ok-head.ensures.reads (lexeme c.args.parser.now.text.now c.in_ok-word.word) next).by in
    then_fails (two ∙ (c.in_ok-body.ensures.reads (λ b. else_part l p i e b next)).by) (c.in_err-otherwise.ensures.reads p i e (block_of c.in_ok-body.body) next) c.from_residual-in_err-otherwise.ensures.1

pub for_loop-returns-in_err-turns-clause-reads : goal.for_loop-returns-in_err-turns-clause-reads
for_loop-returns-in_err-turns-clause-reads t c = λ next.
    let one = (c.in_ok-word.ensures.reads (behind_for c.args.level next)).by in
    then_fails one (c.in_err-turns.ensures.reads (lexeme c.args.parser.now.text.now c.in_ok-word.word) next) c.from_residual-in_err-turns.ensures.1

pub for_loop-returns-in_err-body-clause-reads : goal.for_loop-returns-in_err-body-clause-reads
for_loop-returns-in_err-body-clause-reads t c = λ next.
    let l = c.args.level in
    let p = c.in_ok-word.word.place in
    let h = c.in_ok-turns.turns in
    let one = (c.in_ok-word.ensures.reads (behind_for l next)).by in
    let two = one ∙ (c.in_ok-turns.ensures.reads (lexeme c.args.parser.now.text.now c.in_ok-word.word) next).by in
    let three = two ∙ ap (λ (s : Reader). run_parser c.turns_from.new.parser.edition 250 s (left c.turns_from.new.parser)) (turns_open l p next h) in
    then_fails three (c.in_err-body.ensures.reads (λ b. next (for_of p h b))) c.from_residual-in_err-body.ensures.1

pub otherwise-returns-then-not-is_next-clause-reads : goal.otherwise-returns-then-not-is_next-clause-reads
otherwise-returns-then-not-is_next-clause-reads t c = λ p i e b next.
    let l = c.args.level in
    let n = λ (r : trees.Else). next (trees.conditional p i e b r) in
    let ts = left c.args.parser.now in
    record { by = else_missing c.args.parser.now.edition l p i e b next ts (λ f. false_true (c.if-not-is_next.ensures.1 f)) ∙ ap (λ (r : trees.Else). run_parser c.args.parser.now.edition 250 (n r) ts) (sym no_else_seen) }

pub otherwise-returns-in_err-expect-clause-reads : goal.otherwise-returns-in_err-expect-clause-reads
otherwise-returns-in_err-expect-clause-reads t c = λ p i e b next.
    let l = c.args.level in
    let n = λ (r : trees.Else). next (trees.conditional p i e b r) in
    let one = else_comes c.args.parser.now.edition l p i e b next (left c.args.parser.now) (c.is_next.ensures.0 c.if-not-is_next.false) in
    then_fails one (c.in_err-expect.ensures.reads (λ _. behind_else l n)) c.from_residual.ensures.1

pub otherwise-returns-in_err-other-clause-reads : goal.otherwise-returns-in_err-other-clause-reads
otherwise-returns-in_err-other-clause-reads t c = λ p i e b next.
    let l = c.args.level in
    let n = λ (r : trees.Else). next (trees.conditional p i e b r) in
    let one = else_comes c.args.parser.now.edition l p i e b next (left c.args.parser.now) (c.is_next.ensures.0 c.if-not-is_next.false) in
    let two = one ∙ (c.in_ok-expect.ensures.reads (λ _. behind_else l n)).by in
    let three = two ∙ else_if_comes c.expect.new.self.edition l n (left c.expect.new.self) (c.if-is_next.ensures.0 refl) in
    then_fails three (c.in_err-other.ensures.reads (λ o. n (trees.else_if o))) c.from_residual-in_err-other.ensures.1

pub otherwise-returns-then-is_next-clause-reads : goal.otherwise-returns-then-is_next-clause-reads
otherwise-returns-then-is_next-clause-reads t c = λ p i e b next.
    let l = c.args.level in
    let n = λ (r : trees.Else). next (trees.conditional p i e b r) in
    let one = else_comes c.args.parser.now.edition l p i e b next (left c.args.parser.now) (c.is_next.ensures.0 c.if-not-is_next.false) in
    let two = one ∙ (c.in_ok-expect.ensures.reads (λ _. behind_else l n)).by in
    let three = two ∙ else_if_comes c.expect.new.self.edition l n (left c.expect.new.self) (c.if-is_next.ensures.0 refl) in
    record {
      by = three ∙ (c.in_ok-other.ensures.reads (λ o. n (trees.else_if o))).by
          ∙ ap (λ (r : trees.Else). run_parser c.conditional.new.parser.edition 250 (n r) (left c.conditional.new.parser)) (sym (else_if_seen c.in_ok-other-2.other c.in_ok-other.other c.in_ok-other-2.ensures.ok));
    }

pub otherwise-returns-in_err-block-clause-reads : goal.otherwise-returns-in_err-block-clause-reads
otherwise-returns-in_err-block-clause-reads t c = λ p i e b next.
    let l = c.args.level in
    let n = λ (r : trees.Else). next (trees.conditional p i e b r) in
    let one = else_comes c.args.parser.now.edition l p i e b next (left c.args.parser.now) (c.is_next.ensures.0 c.if-not-is_next.false) in
    let two = one ∙ (c.in_ok-expect.ensures.reads (λ _. behind_else l n)).by in
    let three = two ∙ else_block_comes c.expect.new.self.edition l n (left c.expect.new.self) (λ f. false_true (c.if-is_next.ensures.1 f)) in
    then_fails three (c.in_err-block.ensures.reads (λ o. n (trees.else_block o))) c.from_residual-in_err-block.ensures.1

pub otherwise-returns-clause-reads : goal.otherwise-returns-clause-reads
otherwise-returns-clause-reads t c = λ p i e b next.
    let l = c.args.level in
    let n = λ (r : trees.Else). next (trees.conditional p i e b r) in
    let one = else_comes c.args.parser.now.edition l p i e b next (left c.args.parser.now) (c.is_next.ensures.0 c.if-not-is_next.false) in
    let two = one ∙ (c.in_ok-expect.ensures.reads (λ _. behind_else l n)).by in
    let three = two ∙ else_block_comes c.expect.new.self.edition l n (left c.expect.new.self) (λ f. false_true (c.if-is_next.ensures.1 f)) in
    record {
      by = three ∙ (c.in_ok-block.ensures.reads (λ o. n (trees.else_block o))).by
          ∙ ap (λ (r : trees.Else). run_parser c.block.new.parser.edition 250 (n r) (left c.block.new.parser)) (sym (else_block_seen c.in_ok-block.block));
    }

pub statement-returns-in_err-statement-2-clause-reads : goal.statement-returns-in_err-statement-2-clause-reads
statement-returns-in_err-statement-2-clause-reads t c = λ next.
    let l = c.args.level in
    let one = missed (c.in_ok-statement.ensures.reads next (due_jump c.jump.new.parser.edition l next)) c.in_default.is in
    then_fails one (c.in_err-statement-2.ensures.reads next (due_block c.jump.new.parser.edition l next)) c.from_residual-in_err-statement-2.ensures.1

pub statement-returns-in_err-block-clause-reads : goal.statement-returns-in_err-block-clause-reads
statement-returns-in_err-block-clause-reads t c = λ next.
    let l = c.args.level in
    let one = missed (c.in_ok-statement.ensures.reads next (due_jump c.jump.new.parser.edition l next)) c.in_default.is in
    let two = one ∙ missed (c.in_ok-statement-2.ensures.reads next (due_block c.jump.new.parser.edition l next)) c.in_default-2.is in
    let ts = left c.jump.new.parser in
    let n = λ (b : trees.Block). next (trees.block_statement b) in
    let three = two ∙ block_comes c.jump.new.parser.edition l next ts (c.if-is_next.ensures.0 refl) in
    then_fails three (c.in_err-block.ensures.reads n) c.from_residual-in_err-block.ensures.1

pub statement-returns-then-is_next-clause-reads : goal.statement-returns-then-is_next-clause-reads
statement-returns-then-is_next-clause-reads t c = λ next.
    let l = c.args.level in
    let one = missed (c.in_ok-statement.ensures.reads next (due_jump c.jump.new.parser.edition l next)) c.in_default.is in
    let two = one ∙ missed (c.in_ok-statement-2.ensures.reads next (due_block c.jump.new.parser.edition l next)) c.in_default-2.is in
    let ts = left c.jump.new.parser in
    let n = λ (b : trees.Block). next (trees.block_statement b) in
    let three = two ∙ block_comes c.jump.new.parser.edition l next ts (c.if-is_next.ensures.0 refl) in
    record { by = three ∙ (c.in_ok-block.ensures.reads n).by ∙ ap (λ (s : trees.Statement). run_parser c.block.new.parser.edition 250 (next s) (left c.block.new.parser)) (sym (block_seen c.in_ok-block.block)) }

pub statement-returns-in_err-conditional-clause-reads : goal.statement-returns-in_err-conditional-clause-reads
statement-returns-in_err-conditional-clause-reads t c = λ next.
    let l = c.args.level in
    let one = missed (c.in_ok-statement.ensures.reads next (due_jump c.jump.new.parser.edition l next)) c.in_default.is in
    let two = one ∙ missed (c.in_ok-statement-2.ensures.reads next (due_block c.jump.new.parser.edition l next)) c.in_default-2.is in
    let ts = left c.jump.new.parser in
    let three = two ∙ no_block c.jump.new.parser.edition l next ts (λ f. false_true (c.if-is_next.ensures.1 f)) in
    let n = λ (i : trees.If). next (trees.if_statement i) in
    let four = three ∙ if_comes c.jump.new.parser.edition l next ts (c.if-is_next-2.ensures.0 refl) in
    then_fails four (c.in_err-conditional.ensures.reads n) c.from_residual-in_err-conditional.ensures.1

pub statement-returns-then-is_next-2-clause-reads : goal.statement-returns-then-is_next-2-clause-reads
statement-returns-then-is_next-2-clause-reads t c = λ next.
    let l = c.args.level in
    let one = missed (c.in_ok-statement.ensures.reads next (due_jump c.jump.new.parser.edition l next)) c.in_default.is in
    let two = one ∙ missed (c.in_ok-statement-2.ensures.reads next (due_block c.jump.new.parser.edition l next)) c.in_default-2.is in
    let ts = left c.jump.new.parser in
    let three = two ∙ no_block c.jump.new.parser.edition l next ts (λ f. false_true (c.if-is_next.ensures.1 f)) in
    let n = λ (i : trees.If). next (trees.if_statement i) in
    let four = three ∙ if_comes c.jump.new.parser.edition l next ts (c.if-is_next-2.ensures.0 refl) in
    record {
      by = four ∙ (c.in_ok-conditional.ensures.reads n).by
          ∙ ap (λ (s : trees.Statement). run_parser c.conditional.new.parser.edition 250 (next s) (left c.conditional.new.parser)) (sym (if_seen c.in_ok-conditional.conditional));
    }

pub statement-returns-then-is_next-3-clause-reads : goal.statement-returns-then-is_next-3-clause-reads
statement-returns-then-is_next-3-clause-reads t c = λ next.
    let l = c.args.level in
    let one = missed (c.in_ok-statement.ensures.reads next (due_jump c.jump.new.parser.edition l next)) c.in_default.is in
    let two = one ∙ missed (c.in_ok-statement-2.ensures.reads next (due_block c.jump.new.parser.edition l next)) c.in_default-2.is in
    let ts = left c.jump.new.parser in
    let three = two ∙ no_block c.jump.new.parser.edition l next ts (λ f. false_true (c.if-is_next.ensures.1 f)) in
    let four = three ∙ no_if c.jump.new.parser.edition l next ts (λ f. false_true (c.if-is_next-2.ensures.1 f)) in
    then_reads c.for_loop.result (four ∙ for_comes c.jump.new.parser.edition l next ts (c.if-is_next-3.ensures.0 refl)) (c.for_loop.ensures.reads next)

pub statement-returns-then-is_next-4-clause-reads : goal.statement-returns-then-is_next-4-clause-reads
statement-returns-then-is_next-4-clause-reads t c = λ next.
    let l = c.args.level in
    let one = missed (c.in_ok-statement.ensures.reads next (due_jump c.jump.new.parser.edition l next)) c.in_default.is in
    let two = one ∙ missed (c.in_ok-statement-2.ensures.reads next (due_block c.jump.new.parser.edition l next)) c.in_default-2.is in
    let ts = left c.jump.new.parser in
    let three = two ∙ no_block c.jump.new.parser.edition l next ts (λ f. false_true (c.if-is_next.ensures.1 f)) in
    let four = three ∙ no_if c.jump.new.parser.edition l next ts (λ f. false_true (c.if-is_next-2.ensures.1 f)) in
    let five = four ∙ no_for c.jump.new.parser.edition l next ts (λ f. false_true (c.if-is_next-3.ensures.1 f)) in
    then_reads c.switch.result (five ∙ switch_comes c.jump.new.parser.edition l next ts (c.if-is_next-4.ensures.0 refl)) (c.switch.ensures.reads next)

pub statement-returns-in_err-simple-clause-reads : goal.statement-returns-in_err-simple-clause-reads
statement-returns-in_err-simple-clause-reads t c = λ next.
    let l = c.args.level in
    let one = missed (c.in_ok-statement.ensures.reads next (due_jump c.jump.new.parser.edition l next)) c.in_default.is in
    let two = one ∙ missed (c.in_ok-statement-2.ensures.reads next (due_block c.jump.new.parser.edition l next)) c.in_default-2.is in
    let ts = left c.jump.new.parser in
    let three = two ∙ no_block c.jump.new.parser.edition l next ts (λ f. false_true (c.if-is_next.ensures.1 f)) in
    let four = three ∙ no_if c.jump.new.parser.edition l next ts (λ f. false_true (c.if-is_next-2.ensures.1 f)) in
    let five = four ∙ no_for c.jump.new.parser.edition l next ts (λ f. false_true (c.if-is_next-3.ensures.1 f)) in
    let six = five ∙ no_switch c.jump.new.parser.edition l next ts (λ f. false_true (c.if-is_next-4.ensures.1 f)) in
    let n = λ (s : trees.Simple). next (trees.simple (simple_place s) s) in
    then_fails six (c.in_err-simple.ensures.reads n) c.from_residual-in_err-simple.ensures.1

pub statement-returns-clause-reads : goal.statement-returns-clause-reads
statement-returns-clause-reads t c = λ next.
    let l = c.args.level in
    let one = missed (c.in_ok-statement.ensures.reads next (due_jump c.jump.new.parser.edition l next)) c.in_default.is in
    let two = one ∙ missed (c.in_ok-statement-2.ensures.reads next (due_block c.jump.new.parser.edition l next)) c.in_default-2.is in
    let ts = left c.jump.new.parser in
    let three = two ∙ no_block c.jump.new.parser.edition l next ts (λ f. false_true (c.if-is_next.ensures.1 f)) in
    let four = three ∙ no_if c.jump.new.parser.edition l next ts (λ f. false_true (c.if-is_next-2.ensures.1 f)) in
    let five = four ∙ no_for c.jump.new.parser.edition l next ts (λ f. false_true (c.if-is_next-3.ensures.1 f)) in
    let six = five ∙ no_switch c.jump.new.parser.edition l next ts (λ f. false_true (c.if-is_next-4.ensures.1 f)) in
    let n = λ (s : trees.Simple). next (trees.simple (simple_place s) s) in
    let s = c.in_ok-simple.simple in
    let rest = left c.simple.new.parser in
    record {
      by = six ∙ (c.in_ok-simple.ensures.reads n).by
          ∙ ap (λ (p : Place). run_parser c.simple.new.parser.edition 250 (next (trees.simple p (simple_of s))) rest) (sym c.place_of-place.ensures)
          ∙ ap (λ (r : trees.Statement). run_parser c.simple.new.parser.edition 250 (next r) rest) (sym (simple_seen c.place_of-place.result s));
    }

pub switch-returns-in_err-head-clause-reads : goal.switch-returns-in_err-head-clause-reads
switch-returns-in_err-head-clause-reads t c = λ next.
    let l = c.args.level in
    let one = (c.in_ok-word.ensures.reads (behind_switch l next)).by in
    then_fails one (c.in_err-head.ensures.reads (lexeme c.args.parser.now.text.now c.in_ok-word.word) next) c.from_residual-in_err-head.ensures.1

pub switch-returns-in_err-clauses-clause-reads : goal.switch-returns-in_err-clauses-clause-reads
switch-returns-in_err-clauses-clause-reads t c = λ next.
    let l = c.args.level in
    let one = (c.in_ok-word.ensures.reads (behind_switch l next)).by in
    let i = if_boxed simple_of c.in_ok-head.head.init in
    let e = if_boxed expr_of c.in_ok-head.head.value in
    then_fails (one ∙ (c.in_ok-head.ensures.reads (lexeme c.args.parser.now.text.now c.in_ok-word.word) next).by) (c.in_err-clauses.ensures.reads (λ cs. next (trees.switch_statement c.in_ok-word.word.place i e cs))) c.from_residual-in_err-clauses.ensures.1

pub switch-returns-clause-reads : goal.switch-returns-clause-reads
switch-returns-clause-reads t c = λ next.
    let l = c.args.level in
    let p = c.in_ok-word.word.place in
    let i = if_boxed simple_of c.in_ok-head.head.init in
    let e = if_boxed expr_of c.in_ok-head.head.value in
    let rest = left c.clauses.new.parser in
    record {
      by = (c.in_ok-word.ensures.reads (behind_switch l next)).by
          ∙ (c.in_ok-head.ensures.reads (lexeme c.args.parser.now.text.now c.in_ok-word.word) next).by
          ∙ (c.in_ok-clauses.ensures.reads (λ ks. next (trees.switch_statement p i e ks))).by
          ∙ ap (λ (s : trees.Statement). run_parser c.clauses.new.parser.edition 250 (next s) rest) (sym (switch_seen p c.in_ok-head.head.init c.in_ok-head.head.value c.in_ok-clauses.clauses));
    }
