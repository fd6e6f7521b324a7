use Rattle.std.proofs.Common.{◌≡◌, [], drop, refl, sym, subst, ap}
use Rattle.std.proofs.lemmas.List.{drop_all}
use Rattle.go_code.specs.Finals.{Ends, BadCode}
use Rattle.go_code.proofs.Follows.{ended_leads}
use Rattle.go_code.specs.Machine.{Leads}
use Rattle.go_vm.specs.Flows.{between}
use Rattle.go_vm.specs.declared.machine.Exit.TheVariants.{Ends as Is_over, BadCode as Is_nonsense}
use Rattle.go_vm.proofs.Coming.{comes_round, comes_away}
use Rattle.go_vm.proofs.run.run_starts.Goals as goal

pub returns-in-Ends : goal.returns-in-Ends
returns-in-Ends c =
    c.loop-start.invariant (Ends c.outcome_of.result.ending c.outcome_of.result.output)
    (comes_away c.args.image.now c.start-item.result c.args.starts.now c.loop-start.start-index c.in_ok-run_start.field-0 (Is_over c.in-Ends.ending) c.loop-start.world c.run_start.new.world (Ends c.outcome_of.result.ending c.outcome_of.result.output)
    c.loop-start-test.true c.start-item.is c.in_ok-run_start.ensures c.in-Ends.is (ap (λ o. Ends o.ending o.output) (sym c.outcome_of.ensures)))

pub returns-in-BadCode : goal.returns-in-BadCode
returns-in-BadCode c =
    c.loop-start.invariant BadCode
    (comes_away c.args.image.now c.start-item.result c.args.starts.now c.loop-start.start-index c.in_ok-run_start.field-0 Is_nonsense c.loop-start.world c.run_start.new.world BadCode
    c.loop-start-test.true c.start-item.is c.in_ok-run_start.ensures c.in-BadCode.is refl)

pub loop-start-preserved : goal.loop-start-preserved
loop-start-preserved c = λ final l.
    c.loop-start.invariant final
    (comes_round c.args.image.now c.start-item.result c.args.starts.now c.loop-start.start-index c.in_ok-run_start.field-0 c.loop-start.world c.run_start.new.world final
    c.loop-start-test.true c.start-item.is c.in_ok-run_start.ensures c.in-Returned.is l)

pub returns : goal.returns
returns c =
    let none : drop c.loop-start.start-index c.args.starts.now ≡ [] = drop_all c.loop-start.start-index c.args.starts.now c.loop-start-test.false in
    let s = between (drop c.loop-start.start-index c.args.starts.now) c.loop-start.world in
    c.loop-start.invariant (Ends c.outcome_of-2.result.ending c.outcome_of-2.result.output)
    (subst (λ o. Leads c.args.image.now s (Ends o.ending o.output)) (sym c.outcome_of-2.ensures) (ended_leads c.args.image.now s refl none))
