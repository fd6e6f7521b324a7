use Rattle.ws_replica.proofs.WellTyped.{good_checked, good_linked, good_refused, good_means, good_sense, good_ends}
use Rattle.ws_replica.proofs.law.law_held_program_means_its_sources.Goals as goal

pub returns-clause-checked : goal.returns-clause-checked
returns-clause-checked c = good_checked

pub returns-clause-linked : goal.returns-clause-linked
returns-clause-linked c = good_linked

pub returns-clause-refused : goal.returns-clause-refused
returns-clause-refused c = good_refused

pub returns-clause-means : goal.returns-clause-means
returns-clause-means c = good_means

pub returns-clause-sense : goal.returns-clause-sense
returns-clause-sense c = good_sense

pub returns-clause-ends : goal.returns-clause-ends
returns-clause-ends c = good_ends
