-- Whether a package is a program.
use Rattle.std.proofs.Common.{◌≡◌, ℕ, Bool, true, false, List, ◌∷◌, refl, sym, ◌∙◌, subst}
use Rattle.std.specs.Bool.{OnTrue, OnFalse}
use Rattle.go_ast.specs.Parse.{Parsed, IsNamed, IsOther}
use Rattle.go_text.specs.declared.edition.Edition.{Edition}
use Rattle.ws_graph.specs.Packages.{package_files}
use Rattle.ws_graph.specs.Plan.{AreParsed}
use Rattle.ws_graph.specs.BuildPlan.{Sources, IsMainPackage}
use Rattle.ws_graph.specs.Discovery.{IsFirstMain}
use Rattle.ws_graph.proofs.OnePlan.{named_so, one_parsed}

-- the first of some files is named so
abbrev NamedFirst : List ℕ → List Parsed → Type 0
NamedFirst name parsed = (first : Parsed) × (rest : List Parsed) × (parsed ≡ first ∷ rest) × IsNamed first.edition name first.text

pub main_iff : (name : List ℕ) (b : Bool) (first : Parsed) (rest parsed : List Parsed) → parsed ≡ first ∷ rest → OnTrue b (IsNamed first.edition name first.text) → OnFalse b (IsOther first.edition name first.text)
    → (b ≡ true → NamedFirst name parsed) × (NamedFirst name parsed → b ≡ true)
main_iff name true first rest parsed is named other = (λ _. (first, rest, is, named), λ _. refl)
main_iff name false first rest parsed is named other = (
  λ e. cc (e),
  λ h. (
      let lists : first ∷ rest ≡ h.0 ∷ h.1 = sym is ∙ h.2 in
      let heads : h.0 ≡ first = cc in
      absurd (named_so first.edition name first.text (subst (λ (p : Parsed). IsNamed p.edition name p.text) heads h.3) other)),
)

pub program_iff : (ed : Edition) (sources : Sources) (path : List ℕ) (parsed : List Parsed) → AreParsed ed (package_files path sources) parsed → (IsFirstMain parsed → IsMainPackage ed sources path) × (IsMainPackage ed sources path → IsFirstMain parsed)
program_iff ed sources path parsed are = (
  λ h. record { first = h.0; rest = h.1; parses = subst (AreParsed ed (package_files path sources)) h.2 are; named = h.3 },
  λ h. (h.first, h.rest, one_parsed ed (package_files path sources) parsed (h.first ∷ h.rest) are h.parses, h.named),
)
