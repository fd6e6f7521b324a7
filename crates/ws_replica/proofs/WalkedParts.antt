-- What a walk over numbers reaches is what a target reaches.
use Rattle.std.proofs.Common.{◌≡◌, ℕ, List, [], ◌∷◌, map, Some, sym, subst, ◌∙◌}
use Rattle.std.specs.List.{Contains, slice_get}
use Rattle.go_text.specs.declared.edition.Edition.{Edition}
use Rattle.ws_version.specs.Writes.{path_cmp}
use Rattle.ws_version.proofs.Writes.{path_cmp_total}
use Rattle.ws_reach.specs.Reach.{Walks, Edge}
use Rattle.ws_reach.specs.Reach as reach
use Rattle.ws_reach.proofs.Reached.{reaches_itself, reaches_from, get_contains}
use Rattle.ws_graph.specs.BuildPlan.{Sources, ReachesByImports, Imports, Directory, paths_of, IsJointPlan}
use Rattle.ws_graph.specs.Discovery.{ImportLeads}
use Rattle.ws_graph.proofs.Leading.{lead_numbers}
use Rattle.ws_graph.proofs.Linked.{map_left, map_right}
use Rattle.ws_graph.proofs.RankedPlan.{path_at}
use Rattle.ws_graph.proofs.Sorted.{one_place}
use Rattle.ws_graph.proofs.Wholes.{whole_joint}
use Rattle.ws_replica.specs.Parts.{ArePart}
use Rattle.ws_replica.proofs.Numbered.{some_same, member_at}
use Rattle.ws_replica.proofs.Picked.{IsPart}

walks_by : {A : Type 0} (E F : A → A → Type 0) → ((p q : A) → E p q → F p q) → (steps : List A) (p q : A) → Walks E p steps q → Walks F p steps q
walks_by E F f [] p q w = w
walks_by E F f (r ∷ rs) p q (first, rest) = (f p r first, walks_by E F f rs r q rest)

-- the paths that a walk leads to
walked_paths : (edition : Edition) (sources : Sources) (all : List (List ℕ)) (steps : List ℕ) (p q : ℕ) (a : List ℕ) → Walks (ImportLeads edition sources all) p steps q → slice_get all p ≡ Some a → (b : List ℕ) × (slice_get all q ≡ Some b) × ReachesByImports edition sources a b
walked_paths edition sources all [] p q a w at = (a, subst (λ n. slice_get all n ≡ Some a) w at, reaches_itself (Imports edition sources) a)
walked_paths edition sources all (r ∷ rs) p q a (first, rest) at =
    let from : first.from ≡ a = some_same first.from a (sym first.at_from ∙ at) in
    let more = walked_paths edition sources all rs r q first.to rest first.at_to in
    (more.0, more.1, reaches_from (Imports edition sources) a first.to more.0 (subst (λ x. Imports edition sources x first.to) from first.imports) more.2)

module _ (edition : Edition) (sources : Sources) (targets : List (List ℕ)) (ds : List Directory) (joint : IsJointPlan edition sources targets ds) where
  abbrev rows : List (List ℕ)
  rows = map (λ (d : Directory). d.imports) ds

  edge_leads : (p q : ℕ) → Edge rows p q → ImportLeads edition sources (paths_of ds) p q
  edge_leads p q (row, at, c) =
      let d = map_left (λ (x : Directory). x.imports) ds p row at in
      let there = ((joint.imports d.0 (get_contains ds p d.0 d.1)).are q).0 (subst (λ (l : List ℕ). Contains l q) d.2 c) in
      record { from = d.0.path; to = there.0; at_from = path_at ds p d.0 d.1; at_to = there.1; imports = there.2 }

  leads_edge : (p q : ℕ) → ImportLeads edition sources (paths_of ds) p q → Edge rows p q
  leads_edge p q lead =
      let d = map_left (λ (x : Directory). x.path) ds p lead.from lead.at_from in (
        d.0.imports,
        map_right (λ (x : Directory). x.imports) ds p d.0 d.1,
        ((joint.imports d.0 (get_contains ds p d.0 d.1)).are q).1 (lead.to, lead.at_to, subst (λ x. Imports edition sources x lead.to) d.2 lead.imports),
      )

  pub is_part : (target : List ℕ) → Contains targets target → (ns : List ℕ) → ArePart (paths_of ds) rows target ns → IsPart edition sources (paths_of ds) target ns
  is_part target among ns part = record {
    ascending = part.ascending;
    are = λ k. (
      λ c. (let way = (part.are k).0 c in walked_paths edition sources (paths_of ds) way.2.0 way.0 k target (walks_by (Edge rows) (ImportLeads edition sources (paths_of ds)) edge_leads way.2.0 way.0 k way.2.1) way.1),
      λ (q, at, way). (
          let start = member_at (paths_of ds) target ((joint.reached target).1 (target, among, reaches_itself (Imports edition sources) target)) in
          let n = lead_numbers edition sources (paths_of ds) (whole_joint edition sources targets ds joint).closed way.0 start.0 target q way.1 start.1 in
          let same : n.0 ≡ k = one_place path_cmp path_cmp_total (paths_of ds) joint.ascending q n.0 k n.1 at in
          (part.are k).1 (start.0, start.1, subst (reach.Reaches (Edge rows) start.0) same (n.2.0, walks_by (ImportLeads edition sources (paths_of ds)) (Edge rows) leads_edge n.2.0 start.0 n.0 n.2.1))),
    );
  }
