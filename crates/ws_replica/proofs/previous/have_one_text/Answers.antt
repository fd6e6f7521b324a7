use Rattle.std.proofs.Common.{◌∙◌}
use Rattle.ws_replica.proofs.SameFiles.{one_text}
use Rattle.ws_replica.proofs.previous.have_one_text.Goals as goal

pub returns : goal.returns
returns c =
    one_text c.eq.result c.args.one.now.text c.args.other.now.text c.as_str.result.now c.as_str-2.result.now (c.as_str.ensures.value ∙ c.text.ensures) (c.as_str-2.ensures.value ∙ c.text-2.ensures) c.eq.ensures
