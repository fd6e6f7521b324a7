use Rattle.ws_session.proofs.clock.WriteClock.new.Goals as goal

pub returns : goal.returns
returns c = let counts = c.new.ensures in let logs = c.new-2.ensures in λ i. record { counts = counts i; logs = logs i }
