use Rattle.ws_session.proofs.SameAnswers.{same_answer}
use Rattle.ws_session.proofs.law.law_same_answers.Goals as goal

pub returns : goal.returns
returns c = same_answer
