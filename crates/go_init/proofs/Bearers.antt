-- Which nodes have which names, by a map from names to numbers.
use Rattle.std.proofs.Common.{◌≡◌, ◌<◌, ◌≤◌, ◌+◌, ℕ, List, [], ◌++◌, Option, Some, None, Bor, map, length, refl, sym, ap, ◌∙◌, subst, inl, inr, ◌⊎◌, arith}
use Rattle.std.specs.Prelude.{◌↔◌, option_map, string_bytes, String}
use Rattle.std.specs.Global.{Global, Vec}
use Rattle.std.specs.BTreeMap.{BTreeMap, is_at}
use Rattle.std.specs.Cmp.Lexicographic.{slice_cmp}
use Rattle.std.specs.Map.{lookup}
use Rattle.std.specs.Ordering.{nat_cmp}
use Rattle.std.specs.List.{slice_get, Contains}
use Rattle.std.proofs.lemmas.Bool.{cases_eq}
use Rattle.std.proofs.lemmas.Option.{slice_get-map, slice_get_within}
use Rattle.ws_reach.specs.Reach.{Edge, EdgesStayWithin}
use Rattle.ws_reach.proofs.Reached.{contains_get, get_contains}
use Rattle.go_init.specs.Nodes.{Node, Refers}
use Rattle.go_init.specs.Views.{bearers, listed_numbers, node_of}
use Rattle.go_init.specs.declared.nodes.Node.{Node as CodeNode}
use Rattle.go_init.proofs.Members.{contained, one_left, one_of}
use Rattle.go_init.proofs.Names.{one_either, one_right}

abbrev Name : Type 0
Name = Bor (List ℕ)

abbrev Map : Type 0
Map = BTreeMap (Bor (List ℕ)) (Vec ℕ)

unmapped_from : {A B : Type 0} (f : A → B) (xs : List A) (k : ℕ) (y : B) (o : Option A) → slice_get xs k ≡ o → option_map f o ≡ Some y → (x : A) × (slice_get xs k ≡ Some x) × (y ≡ f x)
unmapped_from f xs k y None is e = cc
unmapped_from f xs k y (Some x) is e = (x, is, (let same : f x ≡ y = cc in sym same))

pub unmapped : {A B : Type 0} (f : A → B) (xs : List A) (k : ℕ) (y : B) → slice_get (map f xs) k ≡ Some y → (x : A) × (slice_get xs k ≡ Some x) × (y ≡ f x)
unmapped f xs k y at = unmapped_from f xs k y (slice_get xs k) refl (sym (slice_get-map f xs k) ∙ at)

-- ---- a node is added under the first of some names

abbrev pub Among : List (Bor (List ℕ)) → ℕ → Bor (List ℕ) → Type 0
Among names i x = (j : ℕ) × (n : Bor (List ℕ)) × (j < i) × (slice_get names j ≡ Some n) × (x.now ≡ n.now)

pub among_next : (m mid n : Map) (names : List Name) (i number : ℕ) (name : Name) → slice_get names i ≡ Some name
    → ((x : Name) (k : ℕ) → Contains (bearers mid x) k ↔ (Contains (bearers m x) k ⊎ (Among names i x × (k ≡ number))))
    → ((x : Name) (k : ℕ) → Contains (bearers n x) k ↔ (Contains (bearers mid x) k ⊎ ((x.now ≡ name.now) × (k ≡ number))))
    → (x : Name) (k : ℕ) → Contains (bearers n x) k ↔ (Contains (bearers m x) k ⊎ (Among names (i + 1) x × (k ≡ number)))
among_next m mid n names i number name at so_far added x k = (
  λ h. elim ((added x k).0 h) [
    | inl old ↦ elim ((so_far x k).0 old) [
      | inl first ↦ inl first
      | inr a ↦ (let r = a.0 in let lt = r.2 in inr ((r.0, r.1, omega (arith, lt), r.3, r.4), a.1))
    ]
    | inr new ↦ inr ((i, name, omega arith, at, new.0), new.1)
  ],
  λ h. (added x k).1 (elim h [
    | inl first ↦ inl ((so_far x k).1 (inl first))
    | inr a ↦ (
        let r = a.0 in
        let lt = r.2 in
        elim (cases_eq r.0 i) [
          | inl same ↦ (
              let both : Some name ≡ Some r.1 = sym at ∙ sym (ap (slice_get names) same) ∙ r.3 in
              let it : name ≡ r.1 = cc in
              inr (r.4 ∙ sym (ap (λ (n : Name). n.now) it), a.1))
          | inr ne ↦ inl ((so_far x k).1 (inr ((r.0, r.1, omega (arith, lt, ne), r.3, r.4), a.1)))
        ])
  ]),
)

pub among_all : (m n : Map) (names : List Name) (i number : ℕ) → length names ≤ i
    → ((x : Name) (k : ℕ) → Contains (bearers n x) k ↔ (Contains (bearers m x) k ⊎ (Among names i x × (k ≡ number))))
    → (x : Name) (k : ℕ) → Contains (bearers n x) k ↔ (Contains (bearers m x) k ⊎ (Contains (map (λ (n : Name). n.now) names) x.now × (k ≡ number)))
among_all m n names i number past so_far x k = (
  λ h. elim ((so_far x k).0 h) [
    | inl old ↦ inl old
    | inr a ↦ (
        let r = a.0 in
        inr (get_contains (map (λ (n : Name). n.now) names) r.0 x.now (slice_get-map (λ (n : Name). n.now) names r.0 ∙ ap (option_map (λ (n : Name). n.now)) r.3 ∙ ap Some (sym r.4)), a.1))
  ],
  λ h. (so_far x k).1 (elim h [
    | inl old ↦ inl old
    | inr a ↦ (
        let c = a.0 in
        let there = unmapped (λ (n : Name). n.now) names c.0 x.now (contains_get (map (λ (n : Name). n.now) names) x.now c) in
        let lt = slice_get_within names c.0 there.0 there.1 in
        inr ((c.0, there.0, omega (arith, lt, past), there.1, there.2), a.1))
  ]),
)

-- ---- the first nodes are under their names

abbrev pub AreUnder : List CodeNode → ℕ → BTreeMap (Bor (List ℕ)) (Vec ℕ) → Type 0
AreUnder nodes i m = (x : Bor (List ℕ)) (k : ℕ) → Contains (bearers m x) k ↔ ((k < i) × ((to : Node) × (slice_get (map node_of nodes) k ≡ Some to) × Contains to.names x.now))

pub under_none : (nodes : List CodeNode) (m : Map) → m.entries ≡ [] → AreUnder nodes 0 m
under_none nodes m none x k = (
  λ h. absurd (one_of [] k (subst (λ (l : List ℕ). Contains l k) (ap (λ (es : List (Bor (List ℕ) × Vec ℕ)). listed_numbers (lookup (is_at (λ (n : Name). slice_cmp nat_cmp x.now n.now)) es)) none) h)),
  λ h. (let lt = h.0 in absurd (omega (arith, lt))),
)

pub under_next : (nodes : List CodeNode) (i : ℕ) (m n : Map) (node : CodeNode) → slice_get nodes i ≡ Some node → AreUnder nodes i m
    → ((x : Name) (k : ℕ) → Contains (bearers n x) k ↔ (Contains (bearers m x) k ⊎ (Contains (node_of node).names x.now × (k ≡ i))))
    → AreUnder nodes (i + 1) n
under_next nodes i m n node at so_far added x k =
    let here : slice_get (map node_of nodes) i ≡ Some (node_of node) = slice_get-map node_of nodes i ∙ ap (option_map node_of) at in (
      λ h. elim ((added x k).0 h) [
        | inl old ↦ (let r = (so_far x k).0 old in let lt = r.0 in (omega (arith, lt), r.1))
        | inr new ↦ (let same = new.1 in (omega (arith, same), (node_of node, ap (slice_get (map node_of nodes)) same ∙ here, new.0)))
      ],
      λ h. (added x k).1 (elim (cases_eq k i) [
        | inl same ↦ (
            let r = h.1 in
            let both : Some (node_of node) ≡ Some r.0 = sym here ∙ sym (ap (slice_get (map node_of nodes)) same) ∙ r.1 in
            let it : node_of node ≡ r.0 = cc in
            inr (subst (λ (t : Node). Contains t.names x.now) (sym it) r.2, same))
        | inr ne ↦ (let lt = h.0 in inl ((so_far x k).1 (omega (arith, lt, ne), h.1)))
      ]),
    )

pub under_all : (nodes : List CodeNode) (i : ℕ) (m : Map) → length nodes ≤ i → AreUnder nodes i m
    → (x : Name) (k : ℕ) → Contains (bearers m x) k ↔ ((to : Node) × (slice_get (map node_of nodes) k ≡ Some to) × Contains to.names x.now)
under_all nodes i m past so_far x k = (
  λ h. ((so_far x k).0 h).1,
  λ h. (
      let there = unmapped node_of nodes k h.0 h.1 in
      let lt = slice_get_within nodes k there.0 there.1 in
      (so_far x k).1 (omega (arith, lt, past), h)),
)

-- ---- those to a name of which some names refer

abbrev pub IsMet : List (String Global) → ℕ → BTreeMap (Bor (List ℕ)) (Vec ℕ) → ℕ → Type 0
IsMet references i m k = (j : ℕ) × (x : Bor (List ℕ)) × (j < i) × (slice_get (map string_bytes references) j ≡ Some x.now) × Contains (bearers m x) k

pub met_next : (references : List (String Global)) (i : ℕ) (m : Map) (row new : List ℕ) (name : Name) → slice_get (map string_bytes references) i ≡ Some name.now → new ≡ row ++ bearers m name
    → ((x : Name) → x.now ≡ name.now → bearers m x ≡ bearers m name) → ((k : ℕ) → Contains row k ↔ IsMet references i m k) → (k : ℕ) → Contains new k ↔ IsMet references (i + 1) m k
met_next references i m row new name at is same so_far k = (
  λ h. elim (one_either row (bearers m name) k (one_of (row ++ bearers m name) k (subst (λ (l : List ℕ). Contains l k) is h))) [
    | inl old ↦ (let r = (so_far k).0 (contained row k old) in let lt = r.2 in (r.0, r.1, omega (arith, lt), r.3, r.4))
    | inr b ↦ (i, name, omega arith, at, contained (bearers m name) k b)
  ],
  λ h. subst (λ (l : List ℕ). Contains l k) (sym is) (contained (row ++ bearers m name) k (elim (cases_eq h.0 i) [
    | inl here ↦ (
        let both : Some name.now ≡ Some (h.1).now = sym at ∙ sym (ap (slice_get (map string_bytes references)) here) ∙ h.3 in
        let it : name.now ≡ (h.1).now = cc in
        one_right row (bearers m name) k (one_of (bearers m name) k (subst (λ (l : List ℕ). Contains l k) (same h.1 (sym it)) h.4)))
    | inr ne ↦ (let lt = h.2 in one_left row (bearers m name) k (one_of row k ((so_far k).1 (h.0, h.1, omega (arith, lt, ne), h.3, h.4))))
  ])),
)

pub met_all : (references : List (String Global)) (i : ℕ) (m : Map) (row : List ℕ) → length references ≤ i → ((k : ℕ) → Contains row k ↔ IsMet references i m k)
    → (k : ℕ) → Contains row k ↔ ((x : Name) × Contains (map string_bytes references) x.now × Contains (bearers m x) k)
met_all references i m row past so_far k = (
  λ h. (let r = (so_far k).0 h in (r.1, get_contains (map string_bytes references) r.0 (r.1).now r.3, r.4)),
  λ h. (
      let c = h.1 in
      let at = contains_get (map string_bytes references) (h.0).now c in
      let there = unmapped string_bytes references c.0 (h.0).now at in
      let lt = slice_get_within references c.0 there.0 there.1 in
      (so_far k).1 (c.0, h.0, omega (arith, lt, past), at, h.2)),
)

-- ---- rows

pub row_refers : (nodes : List CodeNode) (m : Map) → ((x : Name) (k : ℕ) → Contains (bearers m x) k ↔ ((to : Node) × (slice_get (map node_of nodes) k ≡ Some to) × Contains to.names x.now))
    → (i : ℕ) (node : CodeNode) → slice_get nodes i ≡ Some node → (row : List ℕ) → ((k : ℕ) → Contains row k ↔ ((x : Name) × Contains (node_of node).references x.now × Contains (bearers m x) k))
    → (k : ℕ) → (Contains row k → Refers (map node_of nodes) i k) × (Refers (map node_of nodes) i k → Contains row k)
row_refers nodes m under i node at row is k =
    let here : slice_get (map node_of nodes) i ≡ Some (node_of node) = slice_get-map node_of nodes i ∙ ap (option_map node_of) at in (
      λ h. (
          let r = (is k).0 h in
          let to = (under r.0 k).0 r.2 in
          (node_of node, to.0, (r.0).now, here, to.1, r.1, to.2)),
      λ h. (
          let both : Some (node_of node) ≡ Some h.0 = sym here ∙ h.3 in
          let it : node_of node ≡ h.0 = cc in
          let name : Name = record { ref_ptr = (0, 0); now = h.2 } in
          (is k).1 (name, subst (λ (f : Node). Contains f.references h.2) (sym it) h.5, (under name k).1 (h.1, h.4, h.6))),
    )

pub stay_within : (nodes : List Node) (rows : List (List ℕ)) → length rows ≡ length nodes → ((k q : ℕ) → Edge rows k q ↔ Refers nodes k q) → EdgesStayWithin rows
stay_within nodes rows size are k q e = (let r = (are k q).0 e in let lt = slice_get_within nodes q r.1 r.4 in omega (arith, lt, size))
