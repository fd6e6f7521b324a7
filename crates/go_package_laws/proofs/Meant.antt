-- Checked packages are linked, and their image means the same as their sources.
use Rattle.std.proofs.Common.{◌≡◌, ◌≢◌, ℕ, List, [], ◌∷◌, Some, None, map, refl, sym, subst, append-nil}
use Rattle.std.specs.List.{Contains}
use Rattle.std.proofs.lemmas.List.Elements.{All-nil, All-cons}
use Rattle.go_ast.specs.Trees.{File}
use Rattle.go_code.specs.Images.{Image}
use Rattle.go_link.specs.declared.link.LinkError.TheVariants.{NoMain}
use Rattle.go_link.specs.Links.{link_refusal}
use Rattle.go_typed.specs.Trees.{Package}
use Rattle.go_meaning.specs.Meaning.{Stuck}
use Rattle.go_meaning.specs.Programs.{IsProgram, run_program}
use Rattle.go_package.specs.Imports.{Importable}
use Rattle.go_package.specs.Packages.{package_in}
use Rattle.go_package.specs.Typed.{IsTypedIn}
use Rattle.go_meaning_laws.specs.WellTyped.{IsWellTyped}
use Rattle.go_meaning_laws.proofs.Programs.{never_stuck, means}
use Rattle.go_gen.specs.Translation.{object_of}
use Rattle.go_translation_laws.specs.Programs.{HaveOneEdition, IsLinked, MeansTheSame, MakesSense}
use Rattle.go_translation_laws.proofs.LinkedNames.{program_linked}
use Rattle.go_translation_laws.proofs.Refusals.{no_main}
use Rattle.go_translation_laws.proofs.WellTyped.{means_the_same, always_sense}
use Rattle.go_package_laws.specs.Packages.{AreLibraries, AreProgram, AreChecked, IsNamedMain, HasMeaning}
use Rattle.go_package_laws.proofs.Given.{named_main}
use Rattle.go_package_laws.proofs.Programs.{packages_typed}

pub packages_refused : (packages : List Package) → (IsNamedMain packages → ⊥) → link_refusal (map object_of packages) ≡ Some NoMain
packages_refused packages other = no_main packages (λ program. other (named_main packages program))

module _ (packages : List Package) (are : AreChecked packages) (named : IsNamedMain packages) where
  pub packages_linked : HaveOneEdition packages → link_refusal (map object_of packages) ≡ None
  packages_linked one = (let h = packages_typed packages are named in program_linked packages h.0 h.1 one)

  pub packages_same : (image : Image) → IsLinked packages image → MeansTheSame packages image
  packages_same image linked = means_the_same packages image (packages_typed packages are named).0 linked

  pub packages_sense : (image : Image) (ticks : ℕ) → IsLinked packages image → MakesSense image ticks
  packages_sense image ticks linked = always_sense packages image (packages_typed packages are named).0 linked ticks

  pub packages_never : (ticks : ℕ) → run_program packages ticks ≢ Stuck
  packages_never ticks = never_stuck packages (packages_typed packages are named).0 ticks

  pub packages_mean : (ticks : ℕ) → HasMeaning packages ticks
  packages_mean ticks = (let h = packages_typed packages are named in means packages h.0 ticks h.1)

-- one package that may import libraries alone
module _ (path : List ℕ) (files : List File) (ps : List Importable) (names : List (List ℕ)) (p : Package) (libraries : AreLibraries ps) (it : AreProgram path files ps names p) where
  pub alone : AreChecked (p ∷ [])
  alone = (
    record {
      path = path;
      edition = it.edition;
      files = files;
      names = names;
      libraries = ps;
      imported = [];
      are_libraries = libraries;
      stand_before = All-nil (Contains []);
      sources = it.sources;
      typed = subst (λ (qs : List Importable). IsTypedIn it.edition (package_in it.edition path files qs) files qs names p) (sym (append-nil ps)) it.typed;
      new = All-nil (λ (q : Package). p.path ≢ q.path);
      ordered = it.ordered;
    },
    tt,
  )

  pub last : IsNamedMain (p ∷ [])
  last = (p, refl, it.named)

  pub program_typed : IsWellTyped (p ∷ []) × IsProgram (p ∷ [])
  program_typed = packages_typed (p ∷ []) alone last

  pub checked_linked : link_refusal (object_of p ∷ []) ≡ None
  checked_linked = packages_linked (p ∷ []) alone last (All-cons (λ (q : Package). q.edition ≡ p.edition) p [] refl (All-nil (λ (q : Package). q.edition ≡ p.edition)))

  pub checked_same : (image : Image) → IsLinked (p ∷ []) image → MeansTheSame (p ∷ []) image
  checked_same = packages_same (p ∷ []) alone last

  pub checked_sense : (image : Image) (ticks : ℕ) → IsLinked (p ∷ []) image → MakesSense image ticks
  checked_sense = packages_sense (p ∷ []) alone last
