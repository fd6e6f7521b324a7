use Rattle.go_package_laws.proofs.Meant.{packages_linked, packages_refused, packages_same, packages_sense}
use Rattle.go_package_laws.proofs.law.law_checked_program_means_its_sources.Goals as goal

pub returns-clause-linked : goal.returns-clause-linked
returns-clause-linked c packages are named one = packages_linked packages are named one

pub returns-clause-same : goal.returns-clause-same
returns-clause-same c packages image are named = packages_same packages are named image

pub returns-clause-sense : goal.returns-clause-sense
returns-clause-sense c packages image ticks are named = packages_sense packages are named image ticks

pub returns-clause-refused : goal.returns-clause-refused
returns-clause-refused c packages are other = packages_refused packages other
