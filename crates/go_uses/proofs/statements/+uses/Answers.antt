use Rattle.std.proofs.Common.{◌≡◌, ◌+◌, ◌<◌, ◌++◌, List, map, drop, length, sym, ap, ◌∙◌, arith}
use Rattle.go_ast.specs.Trees.{pack_statements}
use Rattle.go_ast.specs.Views.{stmt_of}
use Rattle.go_ast.specs.declared.statement.Stmt.{Stmt}
use Rattle.go_scope.specs.Names.{used}
use Rattle.go_scope.specs.declared.names.UsedName.{UsedName}
use Rattle.go_uses.specs.Uses.{outside, stmt_names, in_stmt, in_list}
use Rattle.go_uses.proofs.Names.{begins, further, left}
use Rattle.go_uses.proofs.statements.+uses.Goals as goal

pub in_list-loop-statement-init : goal.in_list-loop-statement-init
in_list-loop-statement-init t c =
    begins (map used c.new-found.result.items) c.new-hidden.result (in_list (pack_statements (map stmt_of c.args.statements.now))) (ap (map used) c.new-found.ensures.items) c.new-hidden.ensures

pub in_list-loop-statement-preserved : goal.in_list-loop-statement-preserved
in_list-loop-statement-preserved t c =
    let ss = c.args.statements.now in
    let i = c.loop-statement.statement-index in
    let s = c.statement-item.result in
    let hidden = c.loop-statement.hidden in
    let found = map used c.loop-statement.found.items in
    let next = map used c.add_outside.new.found.items in
    let names = in_stmt (stmt_of s) in
    let own = stmt_names (stmt_of s) in
    let all = λ (l : List Stmt). in_list (pack_statements (map stmt_of l)) in
    let within : i < length ss = omega arith in
    let splits : all (drop i ss) ≡ names ++ outside own (all (drop (i + 1) ss)) = ap all (left ss i s within c.statement-item.is) in
    let so_far : found ++ outside hidden (names ++ outside own (all (drop (i + 1) ss))) ≡ all ss = ap (λ l. found ++ outside hidden l) (sym splits) ∙ c.loop-statement.invariant in
    let grown : next ≡ found ++ outside hidden names =
    c.in_ok-add_outside.ensures ∙ ap (λ (l : List UsedName). found ++ outside hidden (map used l)) c.deref.ensures.value ∙ ap (λ l. found ++ outside hidden l) c.in_ok-names.ensures in
    ap (λ xs. next ++ outside xs (all (drop (i + 1) ss))) c.in_ok-hide_stmt.ensures ∙ further found names next hidden own (all (drop (i + 1) ss)) (all ss) so_far grown
