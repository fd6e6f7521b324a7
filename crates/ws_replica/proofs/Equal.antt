-- What is equal of replicas that took the same.
use Rattle.std.proofs.Common.{◌≡◌, ℕ, List, [], ◌∷◌, ◌++◌, map, Option, None, Some, refl, sym, ap, subst, ◌∙◌, inl, inr}
use Rattle.std.specs.List.{All, Contains, flat_map}
use Rattle.std.proofs.lemmas.List.Elements.{All-nil, All-cons, All-head, All-tail, Contains-append_left, Contains-append_right, Contains-append_cases}
use Rattle.go_text.specs.declared.edition.Edition.{Edition}
use Rattle.go_code.specs.Images.{Image}
use Rattle.go_typed.specs.Trees.{Package}
use Rattle.go_gen.specs.Translation.{object_of}
use Rattle.go_init.specs.Packages.{package_order}
use Rattle.go_link.specs.Links.{linked}
use Rattle.go_translation_laws.specs.Programs.{IsLinked}
use Rattle.ws_version.specs.Writes.{Write}
use Rattle.ws_map.specs.Kept.{SameMembers}
use Rattle.ws_register.specs.Sources.{IsSources}
use Rattle.ws_register.proofs.Laws.{one_contents, one_sources, SameMembers-itself}
use Rattle.ws_action.proofs.Members.{none_in_empty, head_or_later, at_head, later}
use Rattle.ws_action.specs.Actions.{Action}
use Rattle.ws_action.specs.Clash.{NoClash, hashed, hashed_actions}
use Rattle.ws_cache.proofs.Joined.{one_cache}
use Rattle.ws_graph.specs.BuildPlan.{Directory, IsBuildPlan}
use Rattle.ws_replica.specs.Holdings.{Replica, ReplicaStandsFor}
use Rattle.ws_replica.specs.Programs.{IsHeldProgram, IsImageOf, IsImage, IsImageOfSources, IsPackageOrder}
use Rattle.ws_replica.specs.Reports.{TargetBuild, IsTargetBuild, actions_of}
use Rattle.ws_replica.proofs.Numbered.{some_same}
use Rattle.ws_replica.proofs.OneBuild.{agree_refl, one_packages, one_build}

pub equal_replicas : (a b : Replica) (V W : List Write) (E F : List Action) → SameMembers V W → SameMembers E F → ReplicaStandsFor a V E → ReplicaStandsFor b W F → a ≡ b
equal_replicas a b V W E F writes results g h =
    let registers = one_contents a.registers b.registers V W writes g.registers h.registers in
    let caches = one_cache a.cache b.cache E F results g.cache h.cache in
    λ i. record { registers = registers i; cache = caches i }

-- ---- texts of actions with the same members

from_flat : {X Y : Type 0} (f : X → List Y) (xs : List X) (y : Y) → Contains (flat_map f xs) y → (x : X) × Contains xs x × Contains (f x) y
from_flat f [] y c = absurd (none_in_empty y c)
from_flat f (x ∷ xs) y c = elim (Contains-append_cases (f x) (flat_map f xs) y c) [
  | inl l ↦ (x, at_head xs x x refl, l)
  | inr r ↦ let rest = from_flat f xs y r in (rest.0, later x xs rest.0 rest.1, rest.2)
]

into_flat : {X Y : Type 0} (f : X → List Y) (xs : List X) (x : X) (y : Y) → Contains xs x → Contains (f x) y → Contains (flat_map f xs) y
into_flat f [] x y c d = absurd (none_in_empty x c)
into_flat f (z ∷ xs) x y c d = elim (head_or_later z xs x c) [
  | inl e ↦ Contains-append_left (f z) (flat_map f xs) y (subst (λ w. Contains (f w) y) (sym e) d)
  | inr l ↦ Contains-append_right (f z) (flat_map f xs) y (into_flat f xs x y l d)
]

moved_member : (E F A : List Action) → SameMembers E F → (a : Action) → Contains (F ++ A) a → Contains (E ++ A) a
moved_member E F A same a c = elim (Contains-append_cases F A a c) [
  | inl l ↦ Contains-append_left E A a ((same a).1 l)
  | inr r ↦ Contains-append_right E A a r
]

moved_clear : (E F A : List Action) → SameMembers E F → NoClash (hashed_actions (E ++ A)) → NoClash (hashed_actions (F ++ A))
moved_clear E F A same clear s t c d e =
    let x = from_flat hashed (F ++ A) s c in
    let y = from_flat hashed (F ++ A) t d in
    clear s t (into_flat hashed (E ++ A) x.0 s (moved_member E F A same x.0 x.1) x.2) (into_flat hashed (E ++ A) y.0 t (moved_member E F A same y.0 y.1) y.2) e

-- ---- images

all_moved : (E F : List Action) → ((a : Action) → Contains E a → Contains F a) → (xs : List Action) → All (Contains E) xs → All (Contains F) xs
all_moved E F to [] h = All-nil (Contains F)
all_moved E F to (x ∷ xs) h = All-cons (Contains F) x xs (to x (All-head (Contains E) x xs h)) (all_moved E F to xs (All-tail (Contains E) x xs h))

moved_program : (edition : Edition) (E F : List Action) → ((a : Action) → Contains E a → Contains F a) → (build : TargetBuild) (packages : List Package) → IsHeldProgram edition E build packages → IsHeldProgram edition F build packages
moved_program edition E F to build packages h = record { good = h.good; compiled = all_moved E F to (actions_of edition build) h.compiled; in_order = h.in_order; program = h.program }

-- packages are linked to one image
image_is : (packages : List Package) (image : Image) → IsLinked packages image → image ≡ linked (map object_of packages)
image_is packages image (objects, order, are, links) = links.1 ∙ ap linked are

one_image : (edition : Edition) (E F : List Action) → SameMembers E F → (build : TargetBuild) (a b : Option Image) → IsImageOf edition E build a → IsImageOf edition F build b → a ≡ b
one_image edition E F same build None None g h = refl
one_image edition E F same build None (Some b) g h = absurd (g h.0 (moved_program edition F E (λ a. (same a).1) build h.0 h.1))
one_image edition E F same build (Some a) None g h = absurd (h g.0 (moved_program edition E F (λ a. (same a).0) build g.0 g.1))
one_image edition E F same build (Some a) (Some b) g h =
    let order = package_order (map (λ (d : Directory). d.imports) build.directories) in
    let packages : g.0 ≡ h.0 = one_packages build.fates build.fates order g.0 h.0 (agree_refl build.fates order) (g.1).in_order (h.1).in_order in
    ap Some (image_is g.0 a g.2 ∙ ap (λ ps. linked (map object_of ps)) packages ∙ sym (image_is h.0 b h.2))

pub equal_images : (edition : Edition) (target : List ℕ) (a b : Option Image) (V W : List Write) (E F : List Action) → SameMembers V W → SameMembers E F
    → (p : IsImage edition V E target a) → IsImage edition W F target b → NoClash (hashed_actions (E ++ actions_of edition p.build)) → a ≡ b
equal_images edition target a b V W E F writes results p q clear =
    let same : p.build ≡ q.build = some_same p.build q.build (one_build edition V W target (Some p.build) (Some q.build) writes p.are q.are) in
    let also : NoClash (hashed_actions (F ++ actions_of edition q.build)) =
    moved_clear E F (actions_of edition q.build) results (subst (λ (z : TargetBuild). NoClash (hashed_actions (E ++ actions_of edition z))) same clear) in
    one_image edition E F results q.build a b (subst (λ (z : TargetBuild). IsImageOf edition E z a) same (p.right clear)) (q.right also)

-- ---- images of equal sources

abbrev Sources : Type 0
Sources = List (List ℕ × List ℕ)

-- what becomes of a target is a matter of the sources alone
moved_build : (edition : Edition) (V W : List Write) (S : Sources) (target : List ℕ) (build : TargetBuild) → IsSources V S → IsSources W S
    → IsTargetBuild edition V target (Some build) → IsTargetBuild edition W target (Some build)
moved_build edition V W S target build of_first of_second ((sources, are, plan), fates) =
    let same : sources ≡ S = one_sources V sources S are of_first in
    ((S, of_second, subst (λ (s : Sources). IsBuildPlan edition s target build.directories) same plan), fates)

module _ (edition : Edition) (target : List ℕ) (a b : Image) (V W : List Write) (E F : List Action) (S : Sources) (of_first : IsSources V S) (of_second : IsSources W S)
    (p : IsImage edition V E target (Some a)) (q : IsImage edition W F target (Some b)) where
  its_build : p.build ≡ q.build
  its_build = some_same p.build q.build (one_build edition W W target (Some p.build) (Some q.build) (SameMembers-itself W) (moved_build edition V W S target p.build of_first of_second p.are) q.are)

  images_of_sources : NoClash (hashed_actions (E ++ actions_of edition p.build)) → NoClash (hashed_actions (F ++ actions_of edition q.build)) → a ≡ b
  images_of_sources clear also =
      let g = p.right clear in
      let h = q.right also in
      let order = package_order (map (λ (d : Directory). d.imports) q.build.directories) in
      let first : IsPackageOrder q.build g.0 = subst (λ (z : TargetBuild). IsPackageOrder z g.0) its_build (g.1).in_order in
      let packages : g.0 ≡ h.0 = one_packages q.build.fates q.build.fates order g.0 h.0 (agree_refl q.build.fates order) first (h.1).in_order in
      image_is g.0 a g.2 ∙ ap (λ ps. linked (map object_of ps)) packages ∙ sym (image_is h.0 b h.2)

pub one_of_sources : (edition : Edition) (sources : Sources) (target : List ℕ) (a b : Image) → IsImageOfSources edition sources target a → IsImageOfSources edition sources target b → a ≡ b
one_of_sources edition sources target a b p q = images_of_sources edition target a b p.writes q.writes p.held q.held sources p.of_writes q.of_writes p.given q.given p.clear q.clear
