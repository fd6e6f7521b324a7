use Rattle.ws_session.proofs.OneText.{one_session_text}
use Rattle.ws_session.proofs.law.law_one_session.Goals as goal

pub returns : goal.returns
returns c = one_session_text
