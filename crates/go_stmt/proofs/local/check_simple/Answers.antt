use Rattle.std.proofs.Common.{Result, Ok, Err, sym, ap, ◌∙◌}
use Rattle.std.specs.Prelude.{OnOk}
use Rattle.go_ast.specs.Views.{exprs_in, simple_of}
use Rattle.go_ast.specs.declared.statement.Simple.{Simple}
use Rattle.go_stmt.specs.Views.{context_of, env_of}
use Rattle.go_stmt.specs.Statements.{simple_at}
use Rattle.go_stmt.proofs.Lefts.{lefts_kept}
use Rattle.go_stmt.proofs.local.check_simple.Goals as goal

always : {X E P : Type 0} (r : Result X E) → P → OnOk r P
always (Ok x) h = h
always (Err e) h = tt

pub returns-in-Assignment-clause-after : goal.returns-in-Assignment-clause-after
returns-in-Assignment-clause-after c =
    let context = context_of c.args.context in
    let env = env_of c.args.env.now in
    always c.check_assignment.result
    (sym (lefts_kept context (exprs_in c.in-Assignment.left.items) env) ∙ sym (ap (λ (s : Simple). (simple_at context c.args.place (simple_of s) env).after) c.in-Assignment.is))
