use Rattle.std.proofs.Common.{◌+◌, true, [], ◌∷◌, Some, None, refl, sym, ap, ◌∙◌}
use Rattle.go_ast.specs.Trees as trees
use Rattle.go_scan.specs.declared.keyword.Keyword.TheVariants as keywords
use Rattle.go_ast.specs.Expected.{another, an_operand}
use Rattle.go_ast.specs.Grammar.{Lexeme, semicolon, opening_brace}
use Rattle.go_ast.specs.Machine.{Reader, expr, token, optional, lefts, in_for, keyword, run_parser, read_block, open_block, for_body, for_condition, range_body}
use Rattle.go_ast.specs.Views.{expr_of, simple_of}
use Rattle.go_ast.specs.declared.expression.Expr.{Expr}
use Rattle.go_pexpr.specs.Reads.{left}
use Rattle.go_pexpr.proofs.Reading.{then_fails, then_reads}
use Rattle.go_pexpr.proofs.Steps.{optional_some, optional_none}
use Rattle.go_pstmt.specs.declared.simple.Header.{Header}
use Rattle.go_pstmt.specs.Statements.{by_header}
use Rattle.go_pstmt.proofs.Reading.{took, missed}
use Rattle.go_pstmt.proofs.Lefts.{false_true}
use Rattle.go_pstmt.proofs.for_loop.turns_from.Goals as goal

pub returns-then-is_next-clause-reads : goal.returns-then-is_next-clause-reads
returns-then-is_next-clause-reads c = λ t next.
    let l = c.args.level in
    let ts = left c.args.parser.now in
    let ns = λ (s : trees.Simple). token semicolon 0 another (λ _. for_condition l t.place next (Some s)) in
    let al = λ (e : trees.Expression). read_block (l + 1) (for_body l t.place next None (Some e) None) in
    let ra = λ (n : trees.Name) (e : trees.Expression). range_body l t.place next (Some n) e in
    let head : Reader = expr 5 true (l + 1) an_operand (λ e. lefts in_for true (l + 1) (e ∷ []) ns al ra) in
    let ranged = λ (_ : Lexeme). expr 5 true (l + 1) an_operand (range_body l t.place next None) in
    let condition = λ (_ : Lexeme). for_condition l t.place next None in
    let inner : Reader = optional (keyword keywords.Range) 0 ranged head in
    let outer : Reader = optional semicolon 0 condition inner in
    let body = open_block (l + 1) (for_body l t.place next None None None) in
    record { by = optional_some c.args.parser.now.edition opening_brace (l + 1) another body outer ts (c.if-is_next.ensures.0 refl) }

pub returns-in_err-accept-clause-reads : goal.returns-in_err-accept-clause-reads
returns-in_err-accept-clause-reads c = λ t next.
    let l = c.args.level in
    let ts = left c.args.parser.now in
    let ns = λ (s : trees.Simple). token semicolon 0 another (λ _. for_condition l t.place next (Some s)) in
    let al = λ (e : trees.Expression). read_block (l + 1) (for_body l t.place next None (Some e) None) in
    let ra = λ (n : trees.Name) (e : trees.Expression). range_body l t.place next (Some n) e in
    let head : Reader = expr 5 true (l + 1) an_operand (λ e. lefts in_for true (l + 1) (e ∷ []) ns al ra) in
    let ranged = λ (_ : Lexeme). expr 5 true (l + 1) an_operand (range_body l t.place next None) in
    let condition = λ (_ : Lexeme). for_condition l t.place next None in
    let inner : Reader = optional (keyword keywords.Range) 0 ranged head in
    let outer : Reader = optional semicolon 0 condition inner in
    let body = open_block (l + 1) (for_body l t.place next None None None) in
    let zero = optional_none c.args.parser.now.edition opening_brace (l + 1) body outer ts (λ f. false_true (c.if-is_next.ensures.1 f)) in
    then_fails zero (c.in_err-accept.ensures.reads condition inner) c.from_residual.ensures.1

pub returns-in-Some-clause-reads : goal.returns-in-Some-clause-reads
returns-in-Some-clause-reads c = λ t next.
    let l = c.args.level in
    let ts = left c.args.parser.now in
    let ns = λ (s : trees.Simple). token semicolon 0 another (λ _. for_condition l t.place next (Some s)) in
    let al = λ (e : trees.Expression). read_block (l + 1) (for_body l t.place next None (Some e) None) in
    let ra = λ (n : trees.Name) (e : trees.Expression). range_body l t.place next (Some n) e in
    let head : Reader = expr 5 true (l + 1) an_operand (λ e. lefts in_for true (l + 1) (e ∷ []) ns al ra) in
    let ranged = λ (_ : Lexeme). expr 5 true (l + 1) an_operand (range_body l t.place next None) in
    let condition = λ (_ : Lexeme). for_condition l t.place next None in
    let inner : Reader = optional (keyword keywords.Range) 0 ranged head in
    let outer : Reader = optional semicolon 0 condition inner in
    let body = open_block (l + 1) (for_body l t.place next None None None) in
    let zero = optional_none c.args.parser.now.edition opening_brace (l + 1) body outer ts (λ f. false_true (c.if-is_next.ensures.1 f)) in
    then_reads c.condition_behind.result (zero ∙ took (c.in_ok-accept.ensures.reads condition inner) c.in-Some.is) (c.condition_behind.ensures.reads t.place next)

pub returns-in_err-accept-2-clause-reads : goal.returns-in_err-accept-2-clause-reads
returns-in_err-accept-2-clause-reads c = λ t next.
    let l = c.args.level in
    let ts = left c.args.parser.now in
    let ns = λ (s : trees.Simple). token semicolon 0 another (λ _. for_condition l t.place next (Some s)) in
    let al = λ (e : trees.Expression). read_block (l + 1) (for_body l t.place next None (Some e) None) in
    let ra = λ (n : trees.Name) (e : trees.Expression). range_body l t.place next (Some n) e in
    let head : Reader = expr 5 true (l + 1) an_operand (λ e. lefts in_for true (l + 1) (e ∷ []) ns al ra) in
    let ranged = λ (_ : Lexeme). expr 5 true (l + 1) an_operand (range_body l t.place next None) in
    let condition = λ (_ : Lexeme). for_condition l t.place next None in
    let inner : Reader = optional (keyword keywords.Range) 0 ranged head in
    let outer : Reader = optional semicolon 0 condition inner in
    let body = open_block (l + 1) (for_body l t.place next None None None) in
    let zero = optional_none c.args.parser.now.edition opening_brace (l + 1) body outer ts (λ f. false_true (c.if-is_next.ensures.1 f)) in
    let one = zero ∙ missed (c.in_ok-accept.ensures.reads condition inner) c.in_default.is in
    then_fails one (c.in_err-accept-2.ensures.reads ranged head) c.from_residual-in_err-accept-2.ensures.1

pub returns-in_err-operand-clause-reads : goal.returns-in_err-operand-clause-reads
returns-in_err-operand-clause-reads c = λ t next.
    let l = c.args.level in
    let ts = left c.args.parser.now in
    let ns = λ (s : trees.Simple). token semicolon 0 another (λ _. for_condition l t.place next (Some s)) in
    let al = λ (e : trees.Expression). read_block (l + 1) (for_body l t.place next None (Some e) None) in
    let ra = λ (n : trees.Name) (e : trees.Expression). range_body l t.place next (Some n) e in
    let head : Reader = expr 5 true (l + 1) an_operand (λ e. lefts in_for true (l + 1) (e ∷ []) ns al ra) in
    let ranged = λ (_ : Lexeme). expr 5 true (l + 1) an_operand (range_body l t.place next None) in
    let condition = λ (_ : Lexeme). for_condition l t.place next None in
    let inner : Reader = optional (keyword keywords.Range) 0 ranged head in
    let outer : Reader = optional semicolon 0 condition inner in
    let body = open_block (l + 1) (for_body l t.place next None None None) in
    let zero = optional_none c.args.parser.now.edition opening_brace (l + 1) body outer ts (λ f. false_true (c.if-is_next.ensures.1 f)) in
    let one = zero ∙ missed (c.in_ok-accept.ensures.reads condition inner) c.in_default.is in
    then_fails (one ∙ took (c.in_ok-accept-2.ensures.reads ranged head) c.in-Some-2.is) (c.in_err-operand.ensures.reads (range_body l t.place next None)) c.from_residual-in_err-operand.ensures.1

pub returns-in-Some-2-clause-reads : goal.returns-in-Some-2-clause-reads
returns-in-Some-2-clause-reads c = λ t next.
    let l = c.args.level in
    let ts = left c.args.parser.now in
    let ns = λ (s : trees.Simple). token semicolon 0 another (λ _. for_condition l t.place next (Some s)) in
    let al = λ (e : trees.Expression). read_block (l + 1) (for_body l t.place next None (Some e) None) in
    let ra = λ (n : trees.Name) (e : trees.Expression). range_body l t.place next (Some n) e in
    let head : Reader = expr 5 true (l + 1) an_operand (λ e. lefts in_for true (l + 1) (e ∷ []) ns al ra) in
    let ranged = λ (_ : Lexeme). expr 5 true (l + 1) an_operand (range_body l t.place next None) in
    let condition = λ (_ : Lexeme). for_condition l t.place next None in
    let inner : Reader = optional (keyword keywords.Range) 0 ranged head in
    let outer : Reader = optional semicolon 0 condition inner in
    let body = open_block (l + 1) (for_body l t.place next None None None) in
    let zero = optional_none c.args.parser.now.edition opening_brace (l + 1) body outer ts (λ f. false_true (c.if-is_next.ensures.1 f)) in
    let one = zero ∙ missed (c.in_ok-accept.ensures.reads condition inner) c.in_default.is in
    record {
      by = one ∙ took (c.in_ok-accept-2.ensures.reads ranged head) c.in-Some-2.is ∙ (c.in_ok-operand.ensures.reads (range_body l t.place next None)).by
          ∙ ap (λ (x : Expr). run_parser c.expr_from.new.self.edition 250 (range_body l t.place next None (expr_of x)) (left c.expr_from.new.self)) (sym c.in_ok-operand-2.ensures.ok);
    }

pub returns-in_err-init-clause-reads : goal.returns-in_err-init-clause-reads
returns-in_err-init-clause-reads c = λ t next.
    let l = c.args.level in
    let ts = left c.args.parser.now in
    let ns = λ (s : trees.Simple). token semicolon 0 another (λ _. for_condition l t.place next (Some s)) in
    let al = λ (e : trees.Expression). read_block (l + 1) (for_body l t.place next None (Some e) None) in
    let ra = λ (n : trees.Name) (e : trees.Expression). range_body l t.place next (Some n) e in
    let head : Reader = expr 5 true (l + 1) an_operand (λ e. lefts in_for true (l + 1) (e ∷ []) ns al ra) in
    let ranged = λ (_ : Lexeme). expr 5 true (l + 1) an_operand (range_body l t.place next None) in
    let condition = λ (_ : Lexeme). for_condition l t.place next None in
    let inner : Reader = optional (keyword keywords.Range) 0 ranged head in
    let outer : Reader = optional semicolon 0 condition inner in
    let body = open_block (l + 1) (for_body l t.place next None None None) in
    let zero = optional_none c.args.parser.now.edition opening_brace (l + 1) body outer ts (λ f. false_true (c.if-is_next.ensures.1 f)) in
    let one = zero ∙ missed (c.in_ok-accept.ensures.reads condition inner) c.in_default.is in
    let two = one ∙ missed (c.in_ok-accept-2.ensures.reads ranged head) c.in_default-2.is in
    then_fails two (c.in_err-init.ensures.reads ns al ra) c.from_residual-in_err-init.ensures.1

pub returns-in_err-expect-in-Simple-clause-reads : goal.returns-in_err-expect-in-Simple-clause-reads
returns-in_err-expect-in-Simple-clause-reads c = λ t next.
    let l = c.args.level in
    let ts = left c.args.parser.now in
    let ns = λ (s : trees.Simple). token semicolon 0 another (λ _. for_condition l t.place next (Some s)) in
    let al = λ (e : trees.Expression). read_block (l + 1) (for_body l t.place next None (Some e) None) in
    let ra = λ (n : trees.Name) (e : trees.Expression). range_body l t.place next (Some n) e in
    let head : Reader = expr 5 true (l + 1) an_operand (λ e. lefts in_for true (l + 1) (e ∷ []) ns al ra) in
    let ranged = λ (_ : Lexeme). expr 5 true (l + 1) an_operand (range_body l t.place next None) in
    let condition = λ (_ : Lexeme). for_condition l t.place next None in
    let inner : Reader = optional (keyword keywords.Range) 0 ranged head in
    let outer : Reader = optional semicolon 0 condition inner in
    let body = open_block (l + 1) (for_body l t.place next None None None) in
    let zero = optional_none c.args.parser.now.edition opening_brace (l + 1) body outer ts (λ f. false_true (c.if-is_next.ensures.1 f)) in
    let one = zero ∙ missed (c.in_ok-accept.ensures.reads condition inner) c.in_default.is in
    let two = one ∙ missed (c.in_ok-accept-2.ensures.reads ranged head) c.in_default-2.is in
    let here = two ∙ (c.in_ok-init.ensures.reads ns al ra).by ∙ ap (λ (x : Header). run_parser c.header_from.new.parser.edition 250 (by_header ns al ra x) (left c.header_from.new.parser)) c.in-Simple.is in
    then_fails here (c.in_err-expect-in-Simple.ensures.reads (λ _. for_condition l t.place next (Some (simple_of c.in-Simple.init.value)))) c.from_residual-in_err-expect-in-Simple.ensures.1

pub returns-in_ok-expect-in-Simple-clause-reads : goal.returns-in_ok-expect-in-Simple-clause-reads
returns-in_ok-expect-in-Simple-clause-reads c = λ t next.
    let l = c.args.level in
    let ts = left c.args.parser.now in
    let ns = λ (s : trees.Simple). token semicolon 0 another (λ _. for_condition l t.place next (Some s)) in
    let al = λ (e : trees.Expression). read_block (l + 1) (for_body l t.place next None (Some e) None) in
    let ra = λ (n : trees.Name) (e : trees.Expression). range_body l t.place next (Some n) e in
    let head : Reader = expr 5 true (l + 1) an_operand (λ e. lefts in_for true (l + 1) (e ∷ []) ns al ra) in
    let ranged = λ (_ : Lexeme). expr 5 true (l + 1) an_operand (range_body l t.place next None) in
    let condition = λ (_ : Lexeme). for_condition l t.place next None in
    let inner : Reader = optional (keyword keywords.Range) 0 ranged head in
    let outer : Reader = optional semicolon 0 condition inner in
    let body = open_block (l + 1) (for_body l t.place next None None None) in
    let zero = optional_none c.args.parser.now.edition opening_brace (l + 1) body outer ts (λ f. false_true (c.if-is_next.ensures.1 f)) in
    let one = zero ∙ missed (c.in_ok-accept.ensures.reads condition inner) c.in_default.is in
    let two = one ∙ missed (c.in_ok-accept-2.ensures.reads ranged head) c.in_default-2.is in
    let here = two ∙ (c.in_ok-init.ensures.reads ns al ra).by ∙ ap (λ (x : Header). run_parser c.header_from.new.parser.edition 250 (by_header ns al ra x) (left c.header_from.new.parser)) c.in-Simple.is in
    then_reads c.condition_behind-in-Simple.result (here ∙ (c.in_ok-expect-in-Simple.ensures.reads (λ _. for_condition l t.place next (Some (simple_of c.in-Simple.init.value)))).by) (c.condition_behind-in-Simple.ensures.reads t.place next)

pub returns-in-Alone-clause-reads : goal.returns-in-Alone-clause-reads
returns-in-Alone-clause-reads c = λ t next.
    let l = c.args.level in
    let ts = left c.args.parser.now in
    let ns = λ (s : trees.Simple). token semicolon 0 another (λ _. for_condition l t.place next (Some s)) in
    let al = λ (e : trees.Expression). read_block (l + 1) (for_body l t.place next None (Some e) None) in
    let ra = λ (n : trees.Name) (e : trees.Expression). range_body l t.place next (Some n) e in
    let head : Reader = expr 5 true (l + 1) an_operand (λ e. lefts in_for true (l + 1) (e ∷ []) ns al ra) in
    let ranged = λ (_ : Lexeme). expr 5 true (l + 1) an_operand (range_body l t.place next None) in
    let condition = λ (_ : Lexeme). for_condition l t.place next None in
    let inner : Reader = optional (keyword keywords.Range) 0 ranged head in
    let outer : Reader = optional semicolon 0 condition inner in
    let body = open_block (l + 1) (for_body l t.place next None None None) in
    let zero = optional_none c.args.parser.now.edition opening_brace (l + 1) body outer ts (λ f. false_true (c.if-is_next.ensures.1 f)) in
    let one = zero ∙ missed (c.in_ok-accept.ensures.reads condition inner) c.in_default.is in
    let two = one ∙ missed (c.in_ok-accept-2.ensures.reads ranged head) c.in_default-2.is in
    let here = two ∙ (c.in_ok-init.ensures.reads ns al ra).by ∙ ap (λ (x : Header). run_parser c.header_from.new.parser.edition 250 (by_header ns al ra x) (left c.header_from.new.parser)) c.in-Alone.is in
    record { by = here }

pub returns-in-Range-clause-reads : goal.returns-in-Range-clause-reads
returns-in-Range-clause-reads c = λ t next.
    let l = c.args.level in
    let ts = left c.args.parser.now in
    let ns = λ (s : trees.Simple). token semicolon 0 another (λ _. for_condition l t.place next (Some s)) in
    let al = λ (e : trees.Expression). read_block (l + 1) (for_body l t.place next None (Some e) None) in
    let ra = λ (n : trees.Name) (e : trees.Expression). range_body l t.place next (Some n) e in
    let head : Reader = expr 5 true (l + 1) an_operand (λ e. lefts in_for true (l + 1) (e ∷ []) ns al ra) in
    let ranged = λ (_ : Lexeme). expr 5 true (l + 1) an_operand (range_body l t.place next None) in
    let condition = λ (_ : Lexeme). for_condition l t.place next None in
    let inner : Reader = optional (keyword keywords.Range) 0 ranged head in
    let outer : Reader = optional semicolon 0 condition inner in
    let body = open_block (l + 1) (for_body l t.place next None None None) in
    let zero = optional_none c.args.parser.now.edition opening_brace (l + 1) body outer ts (λ f. false_true (c.if-is_next.ensures.1 f)) in
    let one = zero ∙ missed (c.in_ok-accept.ensures.reads condition inner) c.in_default.is in
    let two = one ∙ missed (c.in_ok-accept-2.ensures.reads ranged head) c.in_default-2.is in
    let here = two ∙ (c.in_ok-init.ensures.reads ns al ra).by ∙ ap (λ (x : Header). run_parser c.header_from.new.parser.edition 250 (by_header ns al ra x) (left c.header_from.new.parser)) c.in-Range.is in
    record { by = here }
