-- The machine follows all statements where it follows calls.
use Rattle.std.proofs.Common.{ℕ, List, Option, Some, None, refl}
use Rattle.go_types.specs.Types.{Type'}
use Rattle.go_code.specs.declared.image.Start.{Start}
use Rattle.go_code.specs.declared.instr.Instr.{Instr}
use Rattle.go_code.specs.Finals.{Final}
use Rattle.go_code.specs.Images.{Image}
use Rattle.go_code.specs.Machine.{Frame}
use Rattle.go_typed.specs.Trees as trees
use Rattle.go_typed.specs.Trees.{Symbol, Expr, ValueSource, Stmt, Stmts, no_stmts, some_stmts, Clauses, no_clauses, clause, Package}
use Rattle.go_meaning.specs.Meaning.{Calls}
use Rattle.go_gen.specs.Translation.{Places}
use Rattle.go_translation_laws.proofs.Exprs.{Runs}
use Rattle.go_translation_laws.proofs.Expressions.{AllCalled, SourceRuns, expr_runs, source_runs}
use Rattle.go_translation_laws.proofs.Following.{Placed, StmtRuns, StmtsRun}
use Rattle.go_translation_laws.proofs.Flows as flows
use Rattle.go_translation_laws.proofs.Sources as sources
use Rattle.go_translation_laws.proofs.Assignments.{assign_runs, update_runs}
use Rattle.go_translation_laws.proofs.Loops.{TestRuns, for_runs}
use Rattle.go_translation_laws.proofs.Ranges.{range_runs}
use Rattle.go_translation_laws.proofs.Switches.{ClausesRun, switch_runs}
use Rattle.go_translation_laws.proofs.Calls.{BodiesRun}

module _ (image : Image) (final : Final) (depth : ℕ) (code : List (Instr ℕ)) (callers : List Frame) (starts : List Start) (p : Places ℕ) (types : List Type') (placed : Placed image final depth code callers starts p types) (calls : Calls) (called : AllCalled image final depth code callers starts p calls) where
  every : (e : Expr) → Runs image final depth code callers starts p calls e
  every e = expr_runs image final depth code callers starts p calls called e

  each : (s : ValueSource) → SourceRuns image final depth code callers starts p calls s
  each s = source_runs image final depth code callers starts p calls called s

  tests_run : (o : Option Expr) → TestRuns image final depth code callers starts p types placed calls o
  tests_run None = tt
  tests_run (Some e) = every e

  mutual
    pub stmt_runs : (s : Stmt) → StmtRuns image final depth code callers starts p types calls s
    stmt_runs (trees.define ns s) = sources.define_runs image final depth code callers starts p types placed calls ns s (each s)
    stmt_runs (trees.assign ls s) = assign_runs image final depth code callers starts p types placed calls every ls s (each s)
    stmt_runs (trees.update t l op e) = update_runs image final depth code callers starts p types placed calls every t l op e
    stmt_runs (trees.run ts s es) = sources.run_runs image final depth code callers starts p types placed calls ts s es (each (trees.results ts s es))
    stmt_runs (trees.print es) = sources.print_runs image final depth code callers starts p types placed calls es (each (trees.each es))
    stmt_runs (trees.panic e) = flows.panic_runs image final depth code callers starts p types placed calls e (every e)
    stmt_runs (trees.if_statement e a b) = flows.if_runs image final depth code callers starts p types placed calls e a b (every e) (stmts_run a) (stmts_run b)
    stmt_runs (trees.for_statement o post body) = for_runs image final depth code callers starts p types placed calls o post body (tests_run o) (stmts_run body) (stmts_run post)
    stmt_runs (trees.range_statement o t e body) = range_runs image final depth code callers starts p types placed calls o t e body (every e) (stmts_run body)
    stmt_runs (trees.switch_statement e cs) = switch_runs image final depth code callers starts p types placed calls every e cs (clauses_run cs)
    stmt_runs (trees.block ss) = flows.block_runs image final depth code callers starts p types placed calls ss (stmts_run ss)
    stmt_runs trees.break = flows.break_runs image final depth code callers starts p types placed calls
    stmt_runs trees.continue = flows.continue_runs image final depth code callers starts p types placed calls
    stmt_runs (trees.return s) = sources.return_runs image final depth code callers starts p types placed calls s (each s)

    pub stmts_run : (ss : Stmts) → StmtsRun image final depth code callers starts p types calls ss
    stmts_run no_stmts = flows.no_stmts_run image final depth code callers starts p types placed calls
    stmts_run (some_stmts s ss) = flows.some_stmts_run image final depth code callers starts p types placed calls s ss (stmt_runs s) (stmts_run ss)

    clauses_run : (cs : Clauses) → ClausesRun image final depth code callers starts p types placed calls cs
    clauses_run no_clauses = tt
    clauses_run (clause es body falls cs) = (stmts_run body, clauses_run cs)

-- bodies are followed where calls are
pub bodies_run : (image : Image) (final : Final) (starts : List Start) (packages : List Package) (globals functions : Symbol → ℕ) → BodiesRun image final starts packages globals functions
bodies_run image final starts packages globals functions depth code callers types calls body called =
    stmts_run image final depth code callers starts _ types (λ n. refl) calls called body
