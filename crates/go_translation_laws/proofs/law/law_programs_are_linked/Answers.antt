use Rattle.go_translation_laws.proofs.Editions.{linked_edition}
use Rattle.go_translation_laws.proofs.Refusals.{linked_program, no_main}
use Rattle.go_translation_laws.proofs.law.law_programs_are_linked.Goals as goal

pub returns-clause-linked : goal.returns-clause-linked
returns-clause-linked c packages linked = (linked_program packages linked, linked_edition packages linked)

pub returns-clause-no_main : goal.returns-clause-no_main
returns-clause-no_main c = no_main
