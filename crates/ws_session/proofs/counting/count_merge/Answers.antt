use Rattle.std.proofs.Common.{sym, ◌∙◌}
use Rattle.ws_session.proofs.Counted.{merge_refused, merge_nowhere, merge_of_none, merge_there}
use Rattle.ws_session.proofs.Standings.{on_ok_map}
use Rattle.ws_session.proofs.counting.count_merge.Goals as goal

pub returns-then-is_some : goal.returns-then-is_some
returns-then-is_some c = merge_refused c.args.refusal.now c.args.mine c.args.theirs c.args.vectors.now (sym c.is_some.ensures ∙ c.if-is_some.true)

pub returns-in_default : goal.returns-in_default
returns-in_default c = merge_nowhere c.args.refusal.now c.args.mine c.args.theirs c.args.vectors.now c.in_default.is

pub returns-in_default-theirs : goal.returns-in_default-theirs
returns-in_default-theirs c = merge_of_none c.args.refusal.now c.args.mine c.args.theirs c.args.vectors.now c.in_default-theirs.is

pub returns : goal.returns
returns c =
    on_ok_map c.merge.result (λ h. merge_there c.args.refusal.now c.args.mine c.args.theirs c.in-Some.mine c.in-Some-theirs.theirs c.args.vectors.now c.merge.new.self (sym c.is_some.ensures ∙ c.if-is_some.false) c.in-Some.is c.in-Some-theirs.is h)
    c.merge.ensures
