use Rattle.std.proofs.Common.{List, [], ◌∷◌, length, map, refl, sym, ap, ◌∙◌, subst}
use Rattle.go_ast.specs.declared.expression.Expr.{Expr}
use Rattle.go_ast.specs.Trees as trees
use Rattle.go_ast.specs.Expected.{another, a_value}
use Rattle.go_ast.specs.Grammar.{assign}
use Rattle.go_ast.specs.Machine.{expr, more_exprs, token, lefts, names_if, run_parser}
use Rattle.go_ast.specs.Views.{expr_of, exprs_in}
use Rattle.go_pexpr.specs.Reads.{left, fault_of}
use Rattle.go_pexpr.proofs.Reading.{then_reads, then_refuses}
use Rattle.go_pstmt.specs.Statements.{position_of, is_bare, Does, on_one, at_one}
use Rattle.go_pstmt.proofs.Lefts.{lefts_assign, lefts_define, lefts_one, lefts_refused, some_exprs, two_exprs, only, false_true}
use Rattle.go_pstmt.proofs.simple.behind_sides.Goals as goal

pub returns-then-is_next-clause-reads : goal.returns-then-is_next-clause-reads
returns-then-is_next-clause-reads c = λ next alone range.
    let m = position_of c.args.position in
    let h = is_bare c.args.position in
    let behind = λ (es : List trees.Expression). next (trees.assignment (exprs_in c.args.sides.items) (trees.pack es)) in
    then_reads c.assignment.result
    (lefts_assign c.args.parser.now.edition m h c.args.level next alone range (map expr_of c.args.sides.items) (left c.args.parser.now) (some_exprs c.args.sides.items c.requires.some) (c.if-is_next.ensures.0 refl)
    ∙ ap (λ b. run_parser c.args.parser.now.edition 250 (token assign 0 another (λ _. expr 5 b c.args.level a_value (λ e. more_exprs b c.args.level (e ∷ []) behind))) (left c.args.parser.now)) (sym c.is_bare.ensures))
    (c.assignment.ensures.reads next alone range)

pub returns-in-Some-clause-reads : goal.returns-in-Some-clause-reads
returns-in-Some-clause-reads c = λ next alone range.
    let m = position_of c.args.position in
    let h = is_bare c.args.position in
    let g = c.in_ok-names.ensures.some c.in-Some.names c.in-Some.is in
    then_reads c.short_var_decl.result
    (lefts_define c.args.parser.now.edition m h c.args.level next alone range (map expr_of c.args.sides.items) c.in-Some.names.items (left c.args.parser.now) (some_exprs c.args.sides.items c.requires.some) g.0 g.1
    (ap (λ (xs : List Expr). names_if (map expr_of xs)) (sym c.deref.ensures.value) ∙ g.2))
    (c.short_var_decl.ensures.reads next alone range)

pub returns-then-len-ne1-clause-reads : goal.returns-then-len-ne1-clause-reads
returns-then-len-ne1-clause-reads c = λ next alone range.
    let m = position_of c.args.position in
    let h = is_bare c.args.position in
    let ts = left c.args.parser.now in
    then_refuses c.wrong.result (fault_of another ts)
    (lefts_refused c.args.parser.now.edition m h c.args.level next alone range (map expr_of c.args.sides.items) ts (two_exprs c.args.sides.items c.requires.some (λ e. c.if-len-ne1.true (c.len.ensures ∙ sym (ap (λ (xs : List Expr). length xs) (sym c.deref.ensures.value) ∙ c.deref.ensures.len) ∙ e))) c.requires.last (λ f. false_true (c.if-is_next.ensures.1 f))
    (λ f may. ap (λ (xs : List Expr). names_if (map expr_of xs)) (sym c.deref.ensures.value) ∙ c.in_ok-names.ensures.none c.in_default.is f may))
    c.wrong.ensures

pub returns-clause-reads : goal.returns-clause-reads
returns-clause-reads c = λ next alone range.
    let m = position_of c.args.position in
    let h = is_bare c.args.position in
    let ts = left c.args.parser.now in
    let one = only c.args.sides.items (ap (λ (xs : List Expr). length xs) (sym c.deref.ensures.value) ∙ c.deref.ensures.len ∙ sym c.len.ensures ∙ c.if-len-ne1.false) in
    c.behind_one.ensures.reads one.0 (lefts m h c.args.level (map expr_of c.args.sides.items) next alone range) next alone range one.1
    (subst (λ (xs : List Expr). Does c.args.parser.now.edition (lefts m h c.args.level (map expr_of xs) next alone range) (on_one c.args.parser.now.edition m h c.args.level (expr_of one.0) next alone) (at_one (expr_of one.0) next) ts) (sym one.1)
    (lefts_one c.args.parser.now.edition m h c.args.level next alone range (expr_of one.0) ts c.requires.last (λ f. false_true (c.if-is_next.ensures.1 f))
    (λ f may. ap (λ (xs : List Expr). names_if (map expr_of xs)) (sym one.1 ∙ sym c.deref.ensures.value) ∙ c.in_ok-names.ensures.none c.in_default.is f may)))
