use Rattle.std.proofs.Common.{sym, ◌∙◌}
use Rattle.go_expr.specs.Views.{scope_of}
use Rattle.go_objects.specs.Views.{spec_of}
use Rattle.go_package.specs.Views.{facts_of}
use Rattle.go_package.proofs.Repeated.{nothing_told, least_told, never_none}
use Rattle.go_package.proofs.constants.told_repeated.Goals as goal

pub returns-then-hidden : goal.returns-then-hidden
returns-then-hidden c = λ iota some. nothing_told (facts_of c.args.facts.now) c.args.file iota c.args.place (scope_of c.args.scope.now) (spec_of c.args.spec) (sym c.in_ok-hidden.ensures ∙ c.if-hidden.true) some

pub returns-in-Some : goal.returns-in-Some
returns-in-Some c = λ iota some. least_told (facts_of c.args.facts.now) c.args.file iota c.args.place (scope_of c.args.scope.now) (spec_of c.args.spec) c.in-Some.kind
    (sym c.in_ok-hidden.ensures ∙ c.if-hidden.false) (sym c.in-Some.is ∙ c.in_ok-kind.ensures)

pub returns-in-None : goal.returns-in-None
returns-in-None c = λ iota some. (
    let s = scope_of c.args.scope.now in
    let spec = spec_of c.args.spec in
    absurd (never_none c.args.place s spec.type spec.values some (sym c.in-None.is ∙ c.in_ok-kind.ensures))
    )
