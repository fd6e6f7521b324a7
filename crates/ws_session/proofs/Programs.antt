-- Whether what a target reaches is a program that is held compiled is decided, and it is one, which means something.
use Rattle.std.proofs.Common.{◌≡◌, ◌⊎◌, ℕ, List, [], ◌∷◌, map, Option, None, Some, Bool, true, false, refl, sym, subst, ◌∙◌, inl, inr}
use Rattle.std.specs.Prelude.{codes, is_some}
use Rattle.std.specs.List.{All, Contains}
use Rattle.std.specs.Str.{bytes_eq}
use Rattle.std.proofs.lemmas.List.Elements.{All-nil, All-cons, All-head, All-tail}
use Rattle.std.proofs.lemmas.Slice.Eq.{bytes_eq-Decides}
use Rattle.go_text.specs.declared.edition.Edition.{Edition}
use Rattle.go_init.specs.Packages.{package_order}
use Rattle.go_meaning.specs.Programs.{HasMain, IsProgram, function_named, last_package}
use Rattle.go_typed.specs.Trees.{Package}
use Rattle.ws_version.specs.Writes.{Write}
use Rattle.ws_register.specs.Sources.{HasFiles}
use Rattle.ws_action.specs.Actions.{Action}
use Rattle.ws_action.proofs.Members.{none_in_empty, head_or_later, later, at_head}
use Rattle.ws_cache.proofs.Laws.{same_action, same_action-Decides}
use Rattle.ws_replica.specs.Reports.{DirectoryOutcome, ArePackages, actions_of, TargetBuild, IsTargetBuild}
use Rattle.ws_replica.specs.GoodPackages.{AreGoodPackages}
use Rattle.ws_replica.specs.Programs.{IsGood, IsHeldProgram}
use Rattle.ws_replica.proofs.OneBuild.{one_packages, agree_refl}
use Rattle.ws_replica.proofs.SomeBuild.{good_or_not, some_packages}

-- ---- what holds of all of a list, or not

pub each : {X : Type 0} (P : X → Type 0) → ((x : X) → P x ⊎ (P x → ⊥)) → (xs : List X) → All P xs ⊎ (All P xs → ⊥)
each P test [] = inl (All-nil P)
each P test (x ∷ xs) = elim (test x) [
  | inr bad ↦ inr (λ h. bad (All-head P x xs h))
  | inl here ↦ elim (each P test xs) [
    | inr bad ↦ inr (λ h. bad (All-tail P x xs h))
    | inl rest ↦ inl (All-cons P x xs here rest)
  ]
]

among_by : (x : Action) (xs : List Action) (a : Action) (b : Bool) → same_action x a ≡ b → Contains xs a ⊎ (Contains xs a → ⊥) → Contains (x ∷ xs) a ⊎ (Contains (x ∷ xs) a → ⊥)
among_by x xs a true e rest = inl (at_head xs x a ((same_action-Decides x a).0 e))
among_by x xs a false e (inl is) = inl (later x xs a is)
among_by x xs a false e (inr no_rest) = inr (λ c. elim (head_or_later x xs a c) [ inl same ↦ (let t : same_action x a ≡ true = (same_action-Decides x a).1 same in let wrong : true ≡ false = sym t ∙ e in absurd (cc (wrong))) | inr r ↦ no_rest r ])

pub among : (xs : List Action) (a : Action) → Contains xs a ⊎ (Contains xs a → ⊥)
among [] a = inr (none_in_empty a)
among (x ∷ xs) a = among_by x xs a (same_action x a) refl (among xs a)

good : (fate : DirectoryOutcome) → IsGood fate ⊎ (IsGood fate → ⊥)
good fate = elim (good_or_not fate) [ inl is ↦ inl is | inr bad ↦ inr (λ g. bad g.0 g.1) ]

-- ---- the program

pub one_program : (edition : Edition) (held : List Action) (build : TargetBuild) (a b : List Package) → IsHeldProgram edition held build a → IsHeldProgram edition held build b → a ≡ b
one_program edition held build a b g h =
    let order = package_order (map (λ d. d.imports) build.directories) in
    one_packages build.fates build.fates order a b (agree_refl build.fates order) g.in_order h.in_order

-- whether packages are a program is decided
named_by : (p : Package) (named has_main : Bool) → bytes_eq p.name (codes "main") ≡ named → is_some (function_named (codes "main") p.functions) ≡ has_main → HasMain (Some p) ⊎ (HasMain (Some p) → ⊥)
named_by p true true named has = inl ((bytes_eq-Decides p.name (codes "main")).0 named, has)
named_by p true false named has = inr (λ h. (let wrong : true ≡ false = sym h.1 ∙ has in cc (wrong)))
named_by p false has_main named has = inr (λ h. (let wrong : true ≡ false = sym ((bytes_eq-Decides p.name (codes "main")).1 h.0) ∙ named in cc (wrong)))

main_decided : (o : Option Package) → HasMain o ⊎ (HasMain o → ⊥)
main_decided None = inr (λ h. h)
main_decided (Some p) = named_by p (bytes_eq p.name (codes "main")) (is_some (function_named (codes "main") p.functions)) refl refl

module _ (edition : Edition) (W : List Write) (files : HasFiles W) (target : List ℕ) (held : List Action) (build : TargetBuild) (are : IsTargetBuild edition W target (Some build)) where
  pub held_good : (packages : List Package) → IsHeldProgram edition held build packages → AreGoodPackages packages
  held_good packages h = record {
    edition = edition;
    writes = W;
    files = files;
    target = target;
    build = build;
    are = are;
    good = h.good;
    in_order = h.in_order;
  }

  abbrev pub Decided : Type 0
  Decided = ((packages : List Package) × IsHeldProgram edition held build packages) ⊎ ((packages : List Package) → IsHeldProgram edition held build packages → ⊥)

  abbrev order : List ℕ
  order = package_order (map (λ d. d.imports) build.directories)

  by_main : All IsGood build.fates → All (Contains held) (actions_of edition build) → (packages : List Package) → ArePackages build.fates order packages → IsProgram packages ⊎ (IsProgram packages → ⊥) → Decided
  by_main all compiled packages in_order (inl program) = inl (packages, record { good = all; compiled = compiled; in_order = in_order; program = program })
  by_main all compiled packages in_order (inr no_program) = inr (λ others h.
      let same : others ≡ packages = one_packages build.fates build.fates order others packages (agree_refl build.fates order) h.in_order in_order in
      no_program (subst IsProgram same h.program))

  pub program_decided : Decided
  program_decided = elim (each IsGood good build.fates) [
    | inr bad ↦ inr (λ packages h. bad h.good)
    | inl all ↦ elim (each (Contains held) (among held) (actions_of edition build)) [
      | inr lacks ↦ inr (λ packages h. lacks h.compiled)
      | inl compiled ↦ elim (some_packages build.fates order) [
        | inr none ↦ inr (λ packages h. none packages h.in_order)
        | inl (packages, in_order) ↦ by_main all compiled packages in_order (main_decided (last_package packages))
      ]
    ]
  ]
