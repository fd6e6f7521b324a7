use Rattle.workspace_tests.specs.Remembered.{events}
use Rattle.workspace_tests.proofs.Tells.{told_session, events_none}
use Rattle.workspace_tests.proofs.remembering.retell.Goals as goal

pub returns : goal.returns
returns g c =
    let before = c.args.reader.now in
    let after = c.run_script.new.reader in
    told_session c.run_script.result (events before.told.items before.failed) (events after.told.items after.failed) _ _
    (events_none before.told.items before.failed c.requires.fresh.0 c.requires.fresh.1) c.run_script.ensures.session
