use Rattle.go_meaning_laws.proofs.Programs.{never_stuck, means}
use Rattle.go_meaning_laws.proofs.law.law_typed_program_is_never_stuck.Goals as goal

pub returns-clause-never : goal.returns-clause-never
returns-clause-never c = λ packages ticks typed. never_stuck packages typed ticks

pub returns-clause-means : goal.returns-clause-means
returns-clause-means c = λ packages ticks typed program. means packages typed ticks program
