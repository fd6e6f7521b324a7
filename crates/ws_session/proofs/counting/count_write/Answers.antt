use Rattle.std.proofs.Common.{sym, ◌∙◌}
use Rattle.ws_session.proofs.Counted.{write_refused, write_nowhere, write_there}
use Rattle.ws_session.proofs.Standings.{on_ok_map}
use Rattle.ws_session.proofs.counting.count_write.Goals as goal

pub returns-then-is_some : goal.returns-then-is_some
returns-then-is_some c = write_refused c.args.refusal.now c.args.at c.args.path.now c.args.wrote.now (sym c.is_some.ensures ∙ c.if-is_some.true)

pub returns-in-None : goal.returns-in-None
returns-in-None c = write_nowhere c.args.refusal.now c.args.at c.args.path.now c.args.wrote.now c.in-None.is

pub returns-in-Some : goal.returns-in-Some
returns-in-Some c =
    on_ok_map c.raise.result (λ h. write_there c.args.refusal.now c.args.at c.in-Some.at c.args.path.now c.args.wrote.now c.raise.new.self (sym c.is_some.ensures ∙ c.if-is_some.false) c.in-Some.is h) c.raise.ensures
