use Rattle.std.proofs.Common.{◌+◌, true, [], ◌∷◌, Some, None, ap, ◌∙◌}
use Rattle.go_ast.specs.Trees as trees
use Rattle.go_ast.specs.Expected.{another, an_operand}
use Rattle.go_ast.specs.Grammar.{semicolon, opening_brace}
use Rattle.go_ast.specs.Machine.{Reader, expr, token, optional, lefts, in_header, run_parser, switch_tag, switch_body}
use Rattle.go_ast.specs.Views.{expr_of, simple_of}
use Rattle.go_pexpr.specs.Reads.{left}
use Rattle.go_pexpr.proofs.Reading.{then_fails, then_reads}
use Rattle.go_pstmt.specs.declared.simple.Header.{Header}
use Rattle.go_pstmt.specs.Statements.{by_header}
use Rattle.go_pstmt.proofs.Reading.{took, missed}
use Rattle.go_pstmt.proofs.header.compared_from.Goals as goal

pub returns-in_err-accept-2-clause-reads : goal.returns-in_err-accept-2-clause-reads
returns-in_err-accept-2-clause-reads c = λ t next.
    let l = c.args.level in
    let ns = λ (s : trees.Simple). token semicolon 0 another (λ _. switch_tag l t.place next (Some s)) in
    let al = λ (e : trees.Expression). token opening_brace 0 another (λ _. switch_body l t.place next None (Some e)) in
    let ra = λ (n : trees.Name) (e : trees.Expression). switch_tag l t.place next None in
    let head : Reader = expr 5 true (l + 1) an_operand (λ e. lefts in_header true (l + 1) (e ∷ []) ns al ra) in
    let one = missed (c.in_ok-accept.ensures.reads (λ _. switch_body l t.place next None None) (optional semicolon 0 (λ _. switch_tag l t.place next None) head)) c.in_default.is in
    then_fails one (c.in_err-accept-2.ensures.reads (λ _. switch_tag l t.place next None) head) c.from_residual-in_err-accept-2.ensures.1

pub returns-in-Some-2-clause-reads : goal.returns-in-Some-2-clause-reads
returns-in-Some-2-clause-reads c = λ t next.
    let l = c.args.level in
    let ns = λ (s : trees.Simple). token semicolon 0 another (λ _. switch_tag l t.place next (Some s)) in
    let al = λ (e : trees.Expression). token opening_brace 0 another (λ _. switch_body l t.place next None (Some e)) in
    let ra = λ (n : trees.Name) (e : trees.Expression). switch_tag l t.place next None in
    let head : Reader = expr 5 true (l + 1) an_operand (λ e. lefts in_header true (l + 1) (e ∷ []) ns al ra) in
    let one = missed (c.in_ok-accept.ensures.reads (λ _. switch_body l t.place next None None) (optional semicolon 0 (λ _. switch_tag l t.place next None) head)) c.in_default.is in
    then_reads c.compared_behind.result (one ∙ took (c.in_ok-accept-2.ensures.reads (λ _. switch_tag l t.place next None) head) c.in-Some-2.is) (c.compared_behind.ensures.reads t.place next)

pub returns-in_err-init-clause-reads : goal.returns-in_err-init-clause-reads
returns-in_err-init-clause-reads c = λ t next.
    let l = c.args.level in
    let ns = λ (s : trees.Simple). token semicolon 0 another (λ _. switch_tag l t.place next (Some s)) in
    let al = λ (e : trees.Expression). token opening_brace 0 another (λ _. switch_body l t.place next None (Some e)) in
    let ra = λ (n : trees.Name) (e : trees.Expression). switch_tag l t.place next None in
    let head : Reader = expr 5 true (l + 1) an_operand (λ e. lefts in_header true (l + 1) (e ∷ []) ns al ra) in
    let one = missed (c.in_ok-accept.ensures.reads (λ _. switch_body l t.place next None None) (optional semicolon 0 (λ _. switch_tag l t.place next None) head)) c.in_default.is in
    let two = one ∙ missed (c.in_ok-accept-2.ensures.reads (λ _. switch_tag l t.place next None) head) c.in_default-2.is in
    then_fails two (c.in_err-init.ensures.reads ns al ra) c.from_residual-in_err-init.ensures.1

pub returns-in_err-expect-in-Simple-clause-reads : goal.returns-in_err-expect-in-Simple-clause-reads
returns-in_err-expect-in-Simple-clause-reads c = λ t next.
    let l = c.args.level in
    let ns = λ (s : trees.Simple). token semicolon 0 another (λ _. switch_tag l t.place next (Some s)) in
    let al = λ (e : trees.Expression). token opening_brace 0 another (λ _. switch_body l t.place next None (Some e)) in
    let ra = λ (n : trees.Name) (e : trees.Expression). switch_tag l t.place next None in
    let head : Reader = expr 5 true (l + 1) an_operand (λ e. lefts in_header true (l + 1) (e ∷ []) ns al ra) in
    let one = missed (c.in_ok-accept.ensures.reads (λ _. switch_body l t.place next None None) (optional semicolon 0 (λ _. switch_tag l t.place next None) head)) c.in_default.is in
    let two = one ∙ missed (c.in_ok-accept-2.ensures.reads (λ _. switch_tag l t.place next None) head) c.in_default-2.is in
    let here = two ∙ (c.in_ok-init.ensures.reads ns al ra).by ∙ ap (λ (x : Header). run_parser c.header_from.new.parser.edition 250 (by_header ns al ra x) (left c.header_from.new.parser)) c.in-Simple.is in
    then_fails here (c.in_err-expect-in-Simple.ensures.reads (λ _. switch_tag l t.place next (Some (simple_of c.in-Simple.init.value)))) c.from_residual-in_err-expect-in-Simple.ensures.1

pub returns-in_ok-expect-in-Simple-clause-reads : goal.returns-in_ok-expect-in-Simple-clause-reads
returns-in_ok-expect-in-Simple-clause-reads c = λ t next.
    let l = c.args.level in
    let ns = λ (s : trees.Simple). token semicolon 0 another (λ _. switch_tag l t.place next (Some s)) in
    let al = λ (e : trees.Expression). token opening_brace 0 another (λ _. switch_body l t.place next None (Some e)) in
    let ra = λ (n : trees.Name) (e : trees.Expression). switch_tag l t.place next None in
    let head : Reader = expr 5 true (l + 1) an_operand (λ e. lefts in_header true (l + 1) (e ∷ []) ns al ra) in
    let one = missed (c.in_ok-accept.ensures.reads (λ _. switch_body l t.place next None None) (optional semicolon 0 (λ _. switch_tag l t.place next None) head)) c.in_default.is in
    let two = one ∙ missed (c.in_ok-accept-2.ensures.reads (λ _. switch_tag l t.place next None) head) c.in_default-2.is in
    let here = two ∙ (c.in_ok-init.ensures.reads ns al ra).by ∙ ap (λ (x : Header). run_parser c.header_from.new.parser.edition 250 (by_header ns al ra x) (left c.header_from.new.parser)) c.in-Simple.is in
    then_reads c.compared_behind-in-Simple.result (here ∙ (c.in_ok-expect-in-Simple.ensures.reads (λ _. switch_tag l t.place next (Some (simple_of c.in-Simple.init.value)))).by) (c.compared_behind-in-Simple.ensures.reads t.place next)

pub returns-in_err-expect-in-Alone-clause-reads : goal.returns-in_err-expect-in-Alone-clause-reads
returns-in_err-expect-in-Alone-clause-reads c = λ t next.
    let l = c.args.level in
    let ns = λ (s : trees.Simple). token semicolon 0 another (λ _. switch_tag l t.place next (Some s)) in
    let al = λ (e : trees.Expression). token opening_brace 0 another (λ _. switch_body l t.place next None (Some e)) in
    let ra = λ (n : trees.Name) (e : trees.Expression). switch_tag l t.place next None in
    let head : Reader = expr 5 true (l + 1) an_operand (λ e. lefts in_header true (l + 1) (e ∷ []) ns al ra) in
    let one = missed (c.in_ok-accept.ensures.reads (λ _. switch_body l t.place next None None) (optional semicolon 0 (λ _. switch_tag l t.place next None) head)) c.in_default.is in
    let two = one ∙ missed (c.in_ok-accept-2.ensures.reads (λ _. switch_tag l t.place next None) head) c.in_default-2.is in
    let here = two ∙ (c.in_ok-init.ensures.reads ns al ra).by ∙ ap (λ (x : Header). run_parser c.header_from.new.parser.edition 250 (by_header ns al ra x) (left c.header_from.new.parser)) c.in-Alone.is in
    then_fails here (c.in_err-expect-in-Alone.ensures.reads (λ _. switch_body l t.place next None (Some (expr_of c.in-Alone.value.value)))) c.from_residual-in_err-expect-in-Alone.ensures.1

pub returns-in_ok-expect-in-Alone-clause-reads : goal.returns-in_ok-expect-in-Alone-clause-reads
returns-in_ok-expect-in-Alone-clause-reads c = λ t next.
    let l = c.args.level in
    let ns = λ (s : trees.Simple). token semicolon 0 another (λ _. switch_tag l t.place next (Some s)) in
    let al = λ (e : trees.Expression). token opening_brace 0 another (λ _. switch_body l t.place next None (Some e)) in
    let ra = λ (n : trees.Name) (e : trees.Expression). switch_tag l t.place next None in
    let head : Reader = expr 5 true (l + 1) an_operand (λ e. lefts in_header true (l + 1) (e ∷ []) ns al ra) in
    let one = missed (c.in_ok-accept.ensures.reads (λ _. switch_body l t.place next None None) (optional semicolon 0 (λ _. switch_tag l t.place next None) head)) c.in_default.is in
    let two = one ∙ missed (c.in_ok-accept-2.ensures.reads (λ _. switch_tag l t.place next None) head) c.in_default-2.is in
    let here = two ∙ (c.in_ok-init.ensures.reads ns al ra).by ∙ ap (λ (x : Header). run_parser c.header_from.new.parser.edition 250 (by_header ns al ra x) (left c.header_from.new.parser)) c.in-Alone.is in
    record { by = here ∙ (c.in_ok-expect-in-Alone.ensures.reads (λ _. switch_body l t.place next None (Some (expr_of c.in-Alone.value.value)))).by }

pub returns-in-Range-clause-reads : goal.returns-in-Range-clause-reads
returns-in-Range-clause-reads c = λ t next.
    let l = c.args.level in
    let ns = λ (s : trees.Simple). token semicolon 0 another (λ _. switch_tag l t.place next (Some s)) in
    let al = λ (e : trees.Expression). token opening_brace 0 another (λ _. switch_body l t.place next None (Some e)) in
    let ra = λ (n : trees.Name) (e : trees.Expression). switch_tag l t.place next None in
    let head : Reader = expr 5 true (l + 1) an_operand (λ e. lefts in_header true (l + 1) (e ∷ []) ns al ra) in
    let one = missed (c.in_ok-accept.ensures.reads (λ _. switch_body l t.place next None None) (optional semicolon 0 (λ _. switch_tag l t.place next None) head)) c.in_default.is in
    let two = one ∙ missed (c.in_ok-accept-2.ensures.reads (λ _. switch_tag l t.place next None) head) c.in_default-2.is in
    let here = two ∙ (c.in_ok-init.ensures.reads ns al ra).by ∙ ap (λ (x : Header). run_parser c.header_from.new.parser.edition 250 (by_header ns al ra x) (left c.header_from.new.parser)) c.in-Range.is in
    then_reads c.compared_behind-in-Range.result here (c.compared_behind-in-Range.ensures.reads t.place next)
