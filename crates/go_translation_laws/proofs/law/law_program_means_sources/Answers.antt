use Rattle.go_translation_laws.proofs.Linking.{links_to, program_means, program_meant, program_sense}
use Rattle.go_translation_laws.proofs.law.law_program_means_sources.Goals as goal

pub returns-clause-means : goal.returns-clause-means
returns-clause-means c packages image linked ticks ending output = program_means packages image ticks ending output (links_to packages image linked)

pub returns-clause-meant : goal.returns-clause-meant
returns-clause-meant c packages image ticks linked safe ending output = program_meant packages image ticks ending output (links_to packages image linked) safe

pub returns-clause-sense : goal.returns-clause-sense
returns-clause-sense c packages image ticks linked safe = program_sense packages image ticks (links_to packages image linked) safe
