use Rattle.ws_session.proofs.SomeText.{some_session_text}
use Rattle.ws_session.proofs.law.law_some_session.Goals as goal

pub returns : goal.returns
returns c = some_session_text c.law_held_program_means_its_sources.ensures.ends
