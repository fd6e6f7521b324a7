-- The paths that a directory's files import.
use Rattle.std.proofs.Common.{◌≡◌, ◌<◌, ◌+◌, ℕ, List, [], ◌∷◌, ◌++◌, take, length, get_or, sym, ap, ◌∙◌, subst, inl, inr, append-nil, append_assoc}
use Rattle.std.specs.List.{Contains}
use Rattle.std.proofs.lemmas.List.Elements.{Contains-append_left, Contains-push, Contains-push_cases}
use Rattle.go_text.specs.declared.edition.Edition.{Edition}
use Rattle.ws_graph.specs.Packages.{package_files}
use Rattle.ws_graph.specs.Plan.{Planned, NoFiles, Faulty, Sound, IsPlan}
use Rattle.ws_graph.specs.BuildPlan.{Sources, Import, HasImports, HasNoFiles, Imports}
use Rattle.ws_graph.specs.Discovery.{IsTarget, AreTargetsOf, AddsPath, AddsPaths, AddsImported}
use Rattle.ws_graph.specs.declared.target.Target.{Target}
use Rattle.ws_graph.proofs.Leading.{zip_to, zip_from, none_not_sound, fault_not_sound}
use Rattle.ws_graph.proofs.OnePlan.{one_plan}
use Rattle.ws_graph.proofs.OneBuildPlan.{same_imports}
use Rattle.ws_graph.proofs.Places.{taken_next}
use Rattle.ws_graph.proofs.Sorted.{one_of, contained}

abbrev Path : Type 0
Path = List ℕ

pub paths_none : (sources : Sources) (old : List Path) → AddsPaths sources [] old old
paths_none sources old = record {
  more = [];
  is = sym (append-nil old);
  from = λ p c. absurd (one_of [] p c);
  all = λ t c. absurd (one_of [] t c);
}

more_paths : (sources : Sources) (ts : List Target) (t : Target) (old mid new : List Path) → AddsPaths sources ts old mid → AddsPath sources t.path.items mid new → AddsPaths sources (ts ++ t ∷ []) old new
more_paths sources ts t old mid new h (inl pushed) = record {
  more = h.more ++ t.path.items ∷ [];
  is = pushed ∙ ap (λ l. l ++ t.path.items ∷ []) h.is ∙ append_assoc old h.more (t.path.items ∷ []);
  from = λ p c. elim (Contains-push_cases h.more t.path.items p c) [
    | inl o ↦ (let f = h.from p o in (f.0, Contains-append_left ts (t ∷ []) f.0 f.1, f.2))
    | inr e ↦ (t, Contains-push ts t, e)
  ];
  all = λ u c. elim (Contains-push_cases ts t u c) [
    | inl o ↦ elim (h.all u o) [
      | inl none ↦ inl none
      | inr there ↦ inr (Contains-append_left h.more (t.path.items ∷ []) u.path.items there)
    ]
    | inr e ↦ inr (subst (λ (v : Target). Contains (h.more ++ t.path.items ∷ []) v.path.items) e (Contains-push h.more t.path.items))
  ];
}
more_paths sources ts t old mid new h (inr (none, same)) = record {
  more = h.more;
  is = same ∙ h.is;
  from = λ p c. (let f = h.from p c in (f.0, Contains-append_left ts (t ∷ []) f.0 f.1, f.2));
  all = λ u c. elim (Contains-push_cases ts t u c) [
    | inl o ↦ h.all u o
    | inr e ↦ inl (subst (λ (v : Target). HasNoFiles sources v.path.items) e none)
  ];
}

pub paths_next : (sources : Sources) (ts : List Target) (i : ℕ) (t : Target) (old mid new : List Path) → t ≡ get_or ts i t → i < length ts → AddsPaths sources (take i ts) old mid → AddsPath sources t.path.items mid new → AddsPaths sources (take (i + 1) ts) old new
paths_next sources ts i t old mid new is lt h more = subst (λ l. AddsPaths sources l old new) (sym (taken_next ts i t is lt)) (more_paths sources (take i ts) t old mid new h more)

no_paths : (sources : Sources) (planned : Planned) (targets : List Target) (old new : List Path) → targets ≡ [] → ((ed : Edition) (p q : Path) → IsPlan ed (package_files p sources) planned → Imports ed sources p q → ⊥) → AddsPaths sources targets old new → AddsImported sources planned old new
no_paths sources planned targets old new none never h = record {
  more = h.more;
  is = h.is;
  from = λ ed p q plan c. (let f = h.from q c in absurd (one_of [] f.0 (subst (λ (l : List Target). Contains l f.0) none f.1)));
  all = λ ed p q plan i. absurd (never ed p q plan i);
}

pub imported : (sources : Sources) (all : List Path) (planned : Planned) (targets : List Target) (old new : List Path) → AreTargetsOf all planned targets → AddsPaths sources targets old new → AddsImported sources planned old new
imported sources all NoFiles targets old new none h =
    no_paths sources NoFiles targets old new none (λ ed p q plan i. (let imp = i.import in none_not_sound imp.has.parsed (one_plan ed (package_files p sources) NoFiles (Sound imp.has.parsed) plan imp.has.sound))) h
imported sources all (Faulty f) targets old new none h =
    no_paths sources (Faulty f) targets old new none (λ ed p q plan i. (let imp = i.import in fault_not_sound f imp.has.parsed (one_plan ed (package_files p sources) (Faulty f) (Sound imp.has.parsed) plan imp.has.sound))) h
imported sources all (Sound parsed) targets old new are h = record {
  more = h.more;
  is = h.is;
  from = λ ed p q plan c. (
      let f = h.from q c in
      let i = zip_from (IsTarget all) are.imports targets are.targets_are f.0 (one_of targets f.0 f.1) in
      let has : HasImports ed sources p are.imports = record { parsed = parsed; sound = plan; are = are.are } in
      record { imports = are.imports; has = has; import = i.0; among = contained are.imports i.0 i.1; path = sym i.2.path ∙ f.2 });
  all = λ ed p q plan imp. (
      let has : HasImports ed sources p are.imports = record { parsed = parsed; sound = plan; are = are.are } in
      let same = same_imports ed sources p imp.import.imports are.imports imp.import.has has in
      let import = imp.import.import in
      let t = zip_to (IsTarget all) are.imports targets are.targets_are import (one_of are.imports import (subst (λ (l : List Import). Contains l import) same imp.import.among)) in
      let path : t.0.path.items ≡ q = t.2.path ∙ imp.import.path in
      elim (h.all t.0 (contained targets t.0 t.1)) [
        | inl none ↦ absurd (imp.files (subst (HasNoFiles sources) path none))
        | inr there ↦ subst (Contains h.more) path there
      ]);
}
