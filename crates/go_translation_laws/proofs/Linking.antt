-- A linked program means its sources.
use Rattle.std.proofs.Common.{◌≡◌, ℕ, suc, ◌+◌, ◌-◌, List, [], map, None, ap, ◌∙◌, sym, arith}
use Rattle.go_text.specs.Editions.{most_open}
use Rattle.go_code.specs.declared.ending.Ending.{Ending}
use Rattle.go_code.specs.Finals.{Final, Ends, BadCode}
use Rattle.go_code.specs.Images.{Image}
use Rattle.go_code.specs.Machine.{MachineMeaning}
use Rattle.go_code.proofs.Limits.{one_may_open}
use Rattle.go_link.specs.Links.{link_refusal, linked}
use Rattle.go_typed.specs.Trees.{Package}
use Rattle.go_meaning.specs.Meaning.{Stuck}
use Rattle.go_meaning.specs.Programs.{program_edition, last_package, run_program, SourceMeaning}
use Rattle.go_gen.specs.Translation.{object_of}
use Rattle.go_translation_laws.specs.Programs.{IsLinked}
use Rattle.go_translation_laws.proofs.Calls.{body_leads}
use Rattle.go_translation_laws.proofs.Images.{slot_in, linked_number, links_starts, edition_linked}
use Rattle.go_translation_laws.proofs.Programs.{BodiesLead, SetupsLead, program_follows, source_follows, makes_sense}
use Rattle.go_translation_laws.proofs.Refusals.{linked_program}
use Rattle.go_translation_laws.proofs.Setups.{sets_lead}
use Rattle.go_translation_laws.proofs.Statements.{bodies_run}

-- the packages' objects, in their order, are linked to the image
abbrev pub LinksTo : List Package → Image → Type 0
LinksTo packages image = (link_refusal (map object_of packages) ≡ None) × (image ≡ linked (map object_of packages))

-- in whatever order the objects came
pub links_to : (packages : List Package) (image : Image) → IsLinked packages image → LinksTo packages image
links_to packages image l = (ap link_refusal (sym l.2) ∙ l.3.0, l.3.1 ∙ ap linked l.2)

-- how many more calls may be open with a start step's, which is the first open one
abbrev more_open : Image → ℕ
more_open image = most_open image.edition - 1

first_open : (image : Image) → 1 + more_open image ≡ most_open image.edition
first_open image = omega (arith, one_may_open image.edition)

all_open : (image : Image) → suc (more_open image) ≡ most_open image.edition
all_open image = omega (arith, one_may_open image.edition)

-- as many may be in the source
same_bound : (packages : List Package) (image : Image) → image ≡ linked (map object_of packages) → most_open (program_edition (last_package packages)) ≡ suc (more_open image)
same_bound packages image l =
    let same : image.edition ≡ program_edition (last_package packages) = ap (λ (i : Image). i.edition) l ∙ edition_linked packages in
    ap most_open (sym same) ∙ sym (all_open image)

bodies_lead : (packages : List Package) (image : Image) → image ≡ linked (map object_of packages) → (final : Final) → BodiesLead image final packages (slot_in packages) (linked_number packages) (more_open image)
bodies_lead packages image l final starts f t w none few lies h =
    body_leads image final packages (slot_in packages) (linked_number packages) (links_starts packages image l).found
    (λ others. bodies_run image final others packages (slot_in packages) (linked_number packages)) (more_open image) 1 (first_open image) t [] starts f [] w none lies few h

setups_lead : (packages : List Package) (image : Image) → image ≡ linked (map object_of packages) → (final : Final) → SetupsLead image final packages (slot_in packages) (linked_number packages) (more_open image)
setups_lead packages image l final starts path i t w lies few h =
    sets_lead image final starts packages (slot_in packages) (linked_number packages) (links_starts packages image l).found
    (bodies_run image final starts packages (slot_in packages) (linked_number packages)) (suc (more_open image)) (all_open image) path i.source i.variables t w lies few h

-- what the sources mean the machine does
pub program_means : (packages : List Package) (image : Image) (ticks : ℕ) (ending : Ending) (output : List ℕ) → LinksTo packages image → SourceMeaning packages ticks ending output → MachineMeaning image ticks (Ends ending output)
program_means packages image ticks ending output l h = program_follows packages image (more_open image) (same_bound packages image l.1) (bodies_lead packages image l.1) (setups_lead packages image l.1) ticks ending output l.1 h

-- it does nothing else, unless a rule of the language is broken
pub program_meant : (packages : List Package) (image : Image) (ticks : ℕ) (ending : Ending) (output : List ℕ) → LinksTo packages image → (run_program packages ticks ≡ Stuck → ⊥) → MachineMeaning image ticks (Ends ending output) → SourceMeaning packages ticks ending output
program_meant packages image ticks ending output l goes h = source_follows packages image (more_open image) (same_bound packages image l.1) (bodies_lead packages image l.1) (setups_lead packages image l.1) ticks ending output l.1 (linked_program packages l.0) goes h

pub program_sense : (packages : List Package) (image : Image) (ticks : ℕ) → LinksTo packages image → (run_program packages ticks ≡ Stuck → ⊥) → MachineMeaning image ticks BadCode → ⊥
program_sense packages image ticks l goes h = makes_sense packages image (more_open image) (same_bound packages image l.1) (bodies_lead packages image l.1) (setups_lead packages image l.1) ticks l.1 (linked_program packages l.0) goes h
