use Rattle.go_package_laws.proofs.Meant.{packages_never, packages_mean}
use Rattle.go_package_laws.proofs.law.law_checked_program_is_never_stuck.Goals as goal

pub returns-clause-never : goal.returns-clause-never
returns-clause-never c packages ticks are named = packages_never packages are named ticks

pub returns-clause-means : goal.returns-clause-means
returns-clause-means c packages ticks are named = packages_mean packages are named ticks
