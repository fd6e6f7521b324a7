use Rattle.std.proofs.Common.{inl, inr}
use Rattle.go_translation_laws.proofs.LinkedNames.{program_differs, program_linked, refused_for}
use Rattle.go_translation_laws.proofs.Editions.{linked_edition}
use Rattle.go_translation_laws.proofs.Refusals.{linked_program}
use Rattle.go_translation_laws.proofs.WellTyped.{means_the_same, always_sense, has_meaning}
use Rattle.go_translation_laws.proofs.law.law_well_typed_programs_are_meant.Goals as goal

pub returns-clause-same : goal.returns-clause-same
returns-clause-same c packages image well linked = means_the_same packages image well linked

pub returns-clause-sense : goal.returns-clause-sense
returns-clause-sense c packages image ticks well linked = always_sense packages image well linked ticks

pub returns-clause-ends : goal.returns-clause-ends
returns-clause-ends c packages image ticks well linked = has_meaning packages image well linked ticks

pub returns-clause-linked : goal.returns-clause-linked
returns-clause-linked c packages well = (
  λ linked. (linked_program packages linked, linked_edition packages linked),
  λ h. program_linked packages well h.0 h.1,
)

pub returns-clause-several : goal.returns-clause-several
returns-clause-several c = program_differs

pub returns-clause-refused : goal.returns-clause-refused
returns-clause-refused c packages e well one refused = elim (refused_for packages well e refused) [ inl none ↦ none | inr several ↦ absurd (several.1 one) ]
