use Rattle.std.proofs.Common.{subst}
use Rattle.ws_register.specs.Edits.{IsGreatestCounter}
use Rattle.ws_register.proofs.Counters.{counts-top, counts-entries}
use Rattle.ws_register.proofs.Registers.greatest_counter.Goals as goal

pub returns-clause-value : goal.returns-clause-value
returns-clause-value c =
    counts-entries c.args.self.now c.self.inside.greatest
    (subst (λ m. IsGreatestCounter m c.self.inside.greatest) c.self.view_is c.self.invariant.counter)

pub returns-clause-stands : goal.returns-clause-stands
returns-clause-stands c W h =
    counts-top c.args.self.now c.self.inside.greatest W
    (subst (λ m. IsGreatestCounter m c.self.inside.greatest) c.self.view_is c.self.invariant.counter) h
