use Rattle.ws_session.proofs.Unbuilt.{clear_unbuilt}
use Rattle.ws_session.proofs.law.law_script_without_builds_is_clear.Goals as goal

pub returns : goal.returns
returns c = clear_unbuilt
