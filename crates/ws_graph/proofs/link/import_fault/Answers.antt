use Rattle.std.proofs.Common.{rules}
use Rattle.ws_graph.specs.Discovery.{of_missing, of_cycle, of_program}
use Rattle.ws_graph.proofs.link.import_fault.Goals as goal

pub returns-in-Some : goal.returns-in-Some
returns-in-Some c = (c.in-Some.target.now, of_missing (search rules) (search rules))

pub returns-in-Some-first_with : goal.returns-in-Some-first_with
returns-in-Some-first_with c = (c.in-Some-first_with.target.now, of_cycle (search rules) (search rules) (search rules))

pub returns-in-Some-first_with-2 : goal.returns-in-Some-first_with-2
returns-in-Some-first_with-2 c = (c.in-Some-first_with-2.target.now, of_program (search rules) (search rules) (search rules) (search rules))
