use Rattle.std.proofs.Common.{subst}
use Rattle.std.specs.Prelude.{Err}
use Rattle.go_vm.specs.Answers.{ImageAnswers}
use Rattle.ws_run.proofs.Running.{are_good, runs_as}
use Rattle.ws_run.proofs.run.ran.Goals as goal

pub returns-in-Ok : goal.returns-in-Ok
returns-in-Ok c edition files directory p =
    let good = are_good edition files directory c.args.image.now p in
    runs_as edition files directory c.args.image.now p (c.law_held_program_means_its_sources.ensures.means p.packages c.args.image.now good p.linked) c.args.ticks c.in-Ok.outcome c.in-Ok.ensures

pub returns-in-Err-BadCode : goal.returns-in-Err-BadCode
returns-in-Err-BadCode c edition files directory p =
    let good = are_good edition files directory c.args.image.now p in
    absurd (c.law_held_program_means_its_sources.ensures.sense p.packages c.args.image.now c.args.ticks good p.linked
    (subst (λ error. ImageAnswers c.args.image.now c.args.ticks (Err error)) c.in-Err-BadCode.field-0-is c.in-Err-BadCode.ensures))
