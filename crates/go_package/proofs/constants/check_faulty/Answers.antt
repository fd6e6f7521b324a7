use Rattle.std.proofs.Common.{◌++◌, Bool, sym, subst}
use Rattle.go_expr.specs.Views.{scope_of}
use Rattle.go_expr.specs.Verdicts.{operand_list}
use Rattle.go_objects.specs.Views.{spec_of}
use Rattle.go_package.specs.Faults.{parts_faults, written_type, constants_by}
use Rattle.go_package.specs.Views.{facts_of, Finds}
use Rattle.go_package.proofs.Parts.{sooner}
use Rattle.go_package.proofs.Repeated.{parts_shown}
use Rattle.go_package.proofs.constants.check_faulty.Goals as goal

pub returns-then-repeated : goal.returns-then-repeated
returns-then-repeated c = λ iota h. (
    let t = facts_of c.args.facts.now in
    let s = scope_of c.args.scope.now in
    let spec = spec_of c.args.spec in
    let p = c.args.place in
    let own = constants_by t c.args.file iota p spec (written_type s spec.type) (operand_list s spec.values) in
    subst (λ (b : Bool). Finds c.check_repeated.result (parts_faults t c.args.file b p s spec ++ own)) (sym c.if-repeated.true) (c.check_repeated.ensures iota h)
    )

pub returns-else-repeated : goal.returns-else-repeated
returns-else-repeated c = λ iota h. (
    let t = facts_of c.args.facts.now in
    let s = scope_of c.args.scope.now in
    let spec = spec_of c.args.spec in
    let p = c.args.place in
    sooner c.args.error (parts_faults t c.args.file c.args.repeated p s spec) (constants_by t c.args.file iota p spec (written_type s spec.type) (operand_list s spec.values))
    (parts_shown c.args.error t c.args.file c.args.repeated p s spec c.if-repeated.false h)
    )
