use Rattle.std.proofs.Common.{arith, ap, refl, subst, take, List, ℕ}
use Rattle.ws_command.specs.Views.{command_view}
use Rattle.ws_keep.specs.Keeping.{kept_lines}
use Rattle.goset_cli.specs.Streams.{GrowsBy}
use Rattle.ws_session.proofs.SomeText.{some_text_from}
use Rattle.goset_cli.proofs.Growth.{grows_by}
use Rattle.goset_cli.proofs.Journals.{all_so_far, more_so_far, none_so_far, part_so_far, some_so_far}
use Rattle.goset_cli.proofs.Reaches.{first_reaches}
use Rattle.goset_cli.proofs.Refused.{on_refusal}
use Rattle.goset_cli.proofs.Texts.{empty_is}
use Rattle.goset_cli.proofs.running.answer.Goals as goal

pub commands-init : goal.commands-init
commands-init g c = record {
  so_far = λ edition before first leaves stand clear. none_so_far edition before first c.args.script.now _ _ _ leaves stand;
  no_failure = refl;
}

pub returns-clause-ok : goal.returns-clause-ok
returns-clause-ok g c = λ edition before world leaves stand clear.
    all_so_far (c.commands.invariant.so_far edition before world leaves stand clear) (empty_is c.is_empty.result _ c.is_empty.ensures c.commands-test.false)

pub returns-in_err-asked-clause-err : goal.returns-in_err-asked-clause-err
returns-in_err-asked-clause-err g c = on_refusal c.from_residual.result
    (λ edition before world leaves stand clear. some_so_far (some_text_from c.law_held_program_means_its_sources.ensures.ends) (c.commands.invariant.so_far edition before world leaves stand clear))

pub returns-in_err-told-clause-err : goal.returns-in_err-told-clause-err
returns-in_err-told-clause-err g c = on_refusal c.from_residual-in_err-told.result
    (λ edition before world leaves stand clear. some_so_far (some_text_from c.law_held_program_means_its_sources.ensures.ends) (c.commands.invariant.so_far edition before world leaves stand clear))

pub returns-in_err-enter-clause-err : goal.returns-in_err-enter-clause-err
returns-in_err-enter-clause-err g c = on_refusal c.from_residual-in_err-enter.result
    (λ edition before world leaves stand clear. some_so_far (some_text_from c.law_held_program_means_its_sources.ensures.ends) (c.commands.invariant.so_far edition before world leaves stand clear))

pub returns-in_err-write_whole-clause-err : goal.returns-in_err-write_whole-clause-err
returns-in_err-write_whole-clause-err g c = on_refusal c.from_residual-in_err-write_whole.result
    (λ edition before world leaves stand clear.
    let written = g.O.ScriptOut.written in
    let so_far = c.commands.invariant.so_far edition before world leaves stand clear in
    let ran = c.in_ok-told.ensures so_far.world so_far.stand in
    let first = c.in_ok-asked.ensures.first in
    let printed = ran.2 (clear ran.0 (first_reaches first so_far.leads ran.0 ran.1)) in
    let told : List ℕ = c.in_ok-told.told.items in
    let some = c.in_err-write_whole.ensures.err in
    let wrote : GrowsBy (written c.commands.writer) (written c.write_whole.new.writer) (take some.0 told) =
    grows_by _ _ _ _ (ap (λ (t : List ℕ). take some.0 t) c.as_slice.ensures.value) some.1 in
    part_so_far (some_text_from c.law_held_program_means_its_sources.ensures.ends) so_far first told some.0 _ printed.0 wrote)

pub commands-preserved : goal.commands-preserved
commands-preserved g c = record {
  so_far = λ edition before world leaves stand clear.
      let written = g.O.ScriptOut.written in
      let so_far = c.commands.invariant.so_far edition before world leaves stand clear in
      let ran = c.in_ok-told.ensures so_far.world so_far.stand in
      let first = c.in_ok-asked.ensures.first in
      let printed = ran.2 (clear ran.0 (first_reaches first so_far.leads ran.0 ran.1)) in
      let told : List ℕ = c.in_ok-told.told.items in
      let wrote : GrowsBy (written c.commands.writer) (written c.write_whole.new.writer) told = grows_by _ _ _ _ c.as_slice.ensures.value c.in_ok-write_whole.ensures.ok in
      let taken = g.J.Journal.taken in
      let entered : GrowsBy (taken c.commands.journal) (taken c.enter.new.journal) (kept_lines (command_view c.in_ok-asked.field-0.asked) told c.in_ok-asked.field-0.lines.now) =
      subst (λ (t : List ℕ). GrowsBy (taken c.commands.journal) (taken c.enter.new.journal) (kept_lines (command_view c.in_ok-asked.field-0.asked) t c.in_ok-asked.field-0.lines.now))
      c.deref.ensures.value c.in_ok-enter.ensures in
      more_so_far so_far first c.in_ok-asked.ensures.some ran.0 told _ _ _ ran.1 printed.0 printed.1 wrote entered;
  no_failure = omega (arith, c.in_ok-write_whole.ensures.failed, c.commands.invariant.no_failure);
}

pub commands-preserved-in_ok-write_whole : goal.commands-preserved-in_ok-write_whole
commands-preserved-in_ok-write_whole g c = record {
  so_far = λ edition before world leaves stand clear.
      let written = g.O.ScriptOut.written in
      let so_far = c.commands.invariant.so_far edition before world leaves stand clear in
      let ran = c.in_ok-told.ensures so_far.world so_far.stand in
      let first = c.in_ok-asked.ensures.first in
      let printed = ran.2 (clear ran.0 (first_reaches first so_far.leads ran.0 ran.1)) in
      let told : List ℕ = c.in_ok-told.told.items in
      let wrote : GrowsBy (written c.commands.writer) (written c.write_whole.new.writer) told = grows_by _ _ _ _ c.as_slice.ensures.value c.in_ok-write_whole.ensures.ok in
      let taken = g.J.Journal.taken in
      let entered : GrowsBy (taken c.commands.journal) (taken c.enter.new.journal) (kept_lines (command_view c.in_ok-asked.field-0.asked) told c.in_ok-asked.field-0.lines.now) =
      subst (λ (t : List ℕ). GrowsBy (taken c.commands.journal) (taken c.enter.new.journal) (kept_lines (command_view c.in_ok-asked.field-0.asked) t c.in_ok-asked.field-0.lines.now))
      c.deref.ensures.value c.in_ok-enter.ensures in
      more_so_far so_far first c.in_ok-asked.ensures.some ran.0 told _ _ _ ran.1 printed.0 printed.1 wrote entered;
  no_failure = omega (arith, c.in_ok-write_whole.ensures.failed, c.commands.invariant.no_failure);
}
