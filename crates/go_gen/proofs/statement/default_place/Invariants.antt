use Rattle.std.proofs.Common.{◌≡◌, drop}
use Rattle.go_typed.specs.Views.{clauses_in}
use Rattle.go_gen.specs.Translation.{default_place}
use Rattle.go_gen.proofs.statement.default_place.Given as goal

abbrev pub invariant-loop-clause : goal.invariant-loop-clause
invariant-loop-clause l =
    default_place (clauses_in (drop l.clause-index l.clauses)) l.rest l.before l.place ≡ default_place (clauses_in l.clauses) l.sizes 0 l.other
