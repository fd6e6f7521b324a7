-- Directories and their numbers: what leads from one to another.
use Rattle.std.proofs.Common.{◌≡◌, ◌⊎◌, ℕ, List, [], ◌∷◌, Option, Some, None, refl, sym, ap, ◌∙◌, subst, inl, inr}
use Rattle.std.specs.List.{AllZip, Contains, slice_get}
use Rattle.std.specs.List.Sorted.{IsStrictlySortedBy}
use Rattle.ws_version.specs.Writes.{path_cmp}
use Rattle.ws_version.proofs.Writes.{path_cmp_total}
use Rattle.ws_reach.specs.Reach.{Walks, Reaches}
use Rattle.ws_reach.proofs.Reached.{reaches_itself, reaches_from, get_contains, contains_get}
use Rattle.ws_reach.proofs.Closure.{IsOneOf}
use Rattle.go_text.specs.declared.edition.Edition.{Edition}
use Rattle.go_text.specs.Faults.{Fault}
use Rattle.go_ast.specs.Parse.{Parsed}
use Rattle.ws_graph.specs.Packages.{package_files}
use Rattle.ws_graph.specs.Plan.{Planned, NoFiles, Faulty, Sound, IsPlan}
use Rattle.ws_graph.specs.BuildPlan.{Sources, Import, HasImports, HasImport, HasNoFiles, Imports}
use Rattle.ws_graph.specs.Discovery.{IsNumber, IsTarget, AreTargets, AreTargetsOf, HasNumber, ImportLeads}
use Rattle.ws_graph.specs.declared.target.Target.{Target}
use Rattle.ws_graph.proofs.OnePlan.{one_plan}
use Rattle.ws_graph.proofs.OneBuildPlan.{same_imports}
use Rattle.ws_graph.proofs.Sorted.{one_of, contained, one_place}

-- ---- two lists, place by place

pub zip_to : {A B : Type 0} (R : A → B → Type 0) (xs : List A) (ys : List B) → AllZip R xs ys → (x : A) → IsOneOf x xs → (y : B) × IsOneOf y ys × R x y
zip_to R [] [] z x one = absurd one
zip_to R [] (y ∷ ys) z x one = absurd one
zip_to R (x ∷ xs) [] z w one = absurd z
zip_to R (x ∷ xs) (y ∷ ys) z w (inl e) = (y, inl refl, subst (λ v. R v y) (sym e) z.0)
zip_to R (x ∷ xs) (y ∷ ys) z w (inr one) = let h = zip_to R xs ys z.1 w one in (h.0, inr h.1, h.2)

pub zip_from : {A B : Type 0} (R : A → B → Type 0) (xs : List A) (ys : List B) → AllZip R xs ys → (y : B) → IsOneOf y ys → (x : A) × IsOneOf x xs × R x y
zip_from R [] [] z y one = absurd one
zip_from R [] (y ∷ ys) z w one = absurd z
zip_from R (x ∷ xs) [] z w one = absurd one
zip_from R (x ∷ xs) (y ∷ ys) z w (inl e) = (x, inl refl, subst (R x) (sym e) z.0)
zip_from R (x ∷ xs) (y ∷ ys) z w (inr one) = let h = zip_from R xs ys z.1 w one in (h.0, inr h.1, h.2)

-- ---- walks over numbers and over paths

same_some : {A : Type 0} (x y : A) → Some x ≡ Some y → x ≡ y
same_some x y e = cc

pub lead_paths : (ed : Edition) (sources : Sources) (all : List (List ℕ)) (steps : List ℕ) (p q : ℕ) (a b : List ℕ) → Walks (ImportLeads ed sources all) p steps q → slice_get all p ≡ Some a → slice_get all q ≡ Some b → Reaches (Imports ed sources) a b
lead_paths ed sources all [] p q a b w at_p at_q = ([], same_some a b (sym at_p ∙ ap (slice_get all) w ∙ at_q))
lead_paths ed sources all (r ∷ rs) p q a b (first, rest) at_p at_q =
    let from : first.from ≡ a = same_some first.from a (sym first.at_from ∙ at_p) in
    reaches_from (Imports ed sources) a first.to b (subst (λ x. Imports ed sources x first.to) from first.imports) (lead_paths ed sources all rs r q first.to b rest first.at_to at_q)

-- what directories of the list import is in the list
abbrev pub IsClosed : Edition → Sources → List (List ℕ) → Type 0
IsClosed ed sources all = (a b : List ℕ) → Contains all a → Imports ed sources a b → Contains all b

pub lead_numbers : (ed : Edition) (sources : Sources) (all : List (List ℕ)) → IsClosed ed sources all → (steps : List (List ℕ)) (p : ℕ) (a b : List ℕ) → Walks (Imports ed sources) a steps b → slice_get all p ≡ Some a → (q : ℕ) × (slice_get all q ≡ Some b) × Reaches (ImportLeads ed sources all) p q
lead_numbers ed sources all closed [] p a b w at_p = (p, at_p ∙ ap Some w, reaches_itself (ImportLeads ed sources all) p)
lead_numbers ed sources all closed (c ∷ cs) p a b (first, rest) at_p =
    let there = closed a c (get_contains all p a at_p) first in
    let at_c = contains_get all c there in
    let more = lead_numbers ed sources all closed cs there.0 c b rest at_c in
    let one : ImportLeads ed sources all p there.0 = record { from = a; to = c; at_from = at_p; at_to = at_c; imports = first } in
    (more.0, more.1, reaches_from (ImportLeads ed sources all) p there.0 more.0 one more.2)

-- ---- the numbers of targets

pub number_cases : (all : List (List ℕ)) (path : List ℕ) (number : Option ℕ) → IsNumber all path number → (number ≡ None × ¬ (Contains all path)) ⊎ ((k : ℕ) × (number ≡ Some k) × (slice_get all k ≡ Some path))
number_cases all path None h = inl (refl, h)
number_cases all path (Some k) h = inr (k, refl, h)

pub number_at : (all : List (List ℕ)) (path : List ℕ) (number : Option ℕ) (k : ℕ) → IsNumber all path number → number ≡ Some k → slice_get all k ≡ Some path
number_at all path number k h e = subst (IsNumber all path) e h

-- which of the imported paths are in the list: those that have files
pub record HasImported (ed : Edition) (sources : Sources) (all : List (List ℕ)) (p : List ℕ) : Type 0 where
  pub filed : (q : List ℕ) → HasImport ed sources p q → Contains all q → ¬ (HasNoFiles sources q)
  pub listed : (q : List ℕ) → HasImport ed sources p q → ¬ (HasNoFiles sources q) → Contains all q

abbrev pub ToNumber : Edition → Sources → List (List ℕ) → List ℕ → ℕ → Type 0
ToNumber ed sources all p k = (q : List ℕ) × (slice_get all k ≡ Some q) × Imports ed sources p q

pub no_number : (targets : List Target) (k : ℕ) → targets ≡ [] → HasNumber targets k → ⊥
no_number targets k e (t, c, n) = one_of [] t (subst (λ (l : List Target). Contains l t) e c)

number_to : (ed : Edition) (sources : Sources) (all : List (List ℕ)) (p : List ℕ) (imports : List Import) (targets : List Target) → HasImports ed sources p imports → AreTargets all imports targets → HasImported ed sources all p → (k : ℕ) → HasNumber targets k → ToNumber ed sources all p k
number_to ed sources all p imports targets has zip known k (t, c, n) =
    let i = zip_from (IsTarget all) imports targets zip t (one_of targets t c) in
    let at = number_at all i.0.spec.path t.number k i.2.number n in
    let import : HasImport ed sources p i.0.spec.path = record { imports = imports; has = has; import = i.0; among = contained imports i.0 i.1; path = refl } in
    (i.0.spec.path, at, record { import = import; files = known.filed i.0.spec.path import (get_contains all k i.0.spec.path at) })

to_number : (ed : Edition) (sources : Sources) (all : List (List ℕ)) (p : List ℕ) (imports : List Import) (targets : List Target) → HasImports ed sources p imports → AreTargets all imports targets → IsStrictlySortedBy path_cmp all → (k : ℕ) → ToNumber ed sources all p k → HasNumber targets k
to_number ed sources all p imports targets has zip sorted k (q, at, imp) =
    let same = same_imports ed sources p imp.import.imports imports imp.import.has has in
    let import = imp.import.import in
    let t = zip_to (IsTarget all) imports targets zip import (one_of imports import (subst (λ (l : List Import). Contains l import) same imp.import.among)) in
    elim (number_cases all import.spec.path t.0.number t.2.number) [
      | inl none ↦ absurd (none.1 (subst (Contains all) (sym imp.import.path) (get_contains all k q at)))
      | inr some ↦ (
          let there : slice_get all some.0 ≡ Some q = some.2 ∙ ap Some imp.import.path in
          let same_place = one_place path_cmp path_cmp_total all sorted q some.0 k there at in
          (t.0, contained targets t.0 t.1, some.1 ∙ ap Some same_place))
    ]

pub none_not_sound : (parsed : List Parsed) → NoFiles ≡ Sound parsed → ⊥
none_not_sound parsed e = cc (e)

pub fault_not_sound : (fault : Fault) (parsed : List Parsed) → Faulty fault ≡ Sound parsed → ⊥
fault_not_sound fault parsed e = cc (e)

pub numbers_lead : (ed : Edition) (sources : Sources) (all : List (List ℕ)) (p : List ℕ) (planned : Planned) (targets : List Target) → IsPlan ed (package_files p sources) planned → AreTargetsOf all planned targets → IsStrictlySortedBy path_cmp all → HasImported ed sources all p
    → (k : ℕ) → (HasNumber targets k → ToNumber ed sources all p k) × (ToNumber ed sources all p k → HasNumber targets k)
numbers_lead ed sources all p NoFiles targets plan are sorted known k = (
  λ h. absurd (no_number targets k are h),
  λ h. (let imp = h.2.import in absurd (none_not_sound imp.has.parsed (one_plan ed (package_files p sources) NoFiles (Sound imp.has.parsed) plan imp.has.sound))),
)
numbers_lead ed sources all p (Faulty f) targets plan are sorted known k = (
  λ h. absurd (no_number targets k are h),
  λ h. (let imp = h.2.import in absurd (fault_not_sound f imp.has.parsed (one_plan ed (package_files p sources) (Faulty f) (Sound imp.has.parsed) plan imp.has.sound))),
)
numbers_lead ed sources all p (Sound parsed) targets plan are sorted known k =
    let has : HasImports ed sources p are.imports = record { parsed = parsed; sound = plan; are = are.are } in (
      number_to ed sources all p are.imports targets has are.targets_are known k,
      to_number ed sources all p are.imports targets has are.targets_are sorted k,
    )
