-- Nodes that refer to each other's names lead to one another just where initializations depend on one another.
use Rattle.std.proofs.Common.{◌≡◌, ℕ, zero, suc, ◌≤◌, true, List, [], ◌∷◌, ◌++◌, length, map, Some, refl, sym, ap, ◌∙◌, subst, arith}
use Rattle.std.specs.Prelude.{◌↔◌, option_map}
use Rattle.std.specs.List.{Contains, slice_get}
use Rattle.std.proofs.lemmas.List.{length-append, length-map}
use Rattle.std.proofs.lemmas.Option.{slice_get-map}
use Rattle.ws_reach.specs.Reach.{Reaches, Walks}
use Rattle.go_typed.specs.Trees.{Initialization, Package}
use Rattle.go_init.specs.Nodes.{Node, variables_node, function_node, nodes_of, Refers}
use Rattle.go_init.specs.Variables.{referred, depends}
use Rattle.go_init.proofs.Depends.{Leads, depends_is}
use Rattle.go_init.proofs.Members.{contained, one_of}
use Rattle.go_init.proofs.Names.{By, by_referred, named, referred_by, sets_it}

get_front : {A : Type 0} (xs ys : List A) (k : ℕ) (x : A) → slice_get xs k ≡ Some x → slice_get (xs ++ ys) k ≡ Some x
get_front [] ys k x e = cc
get_front (z ∷ zs) ys zero x e = e
get_front (z ∷ zs) ys (suc k) x e = get_front zs ys k x e

module _ (p : Package) where
  pub node_at : (k : ℕ) (i : Initialization) → slice_get p.initializations k ≡ Some i → slice_get (nodes_of p) k ≡ Some (variables_node i)
  node_at k i at = get_front (map variables_node p.initializations) (map function_node p.uses) k (variables_node i) (slice_get-map variables_node p.initializations k ∙ ap (option_map variables_node) at)

  pub count_nodes : length p.initializations ≤ length (nodes_of p)
  count_nodes = omega (arith, length-append (map variables_node p.initializations) (map function_node p.uses), length-map p.initializations variables_node)

  module _ (E : ℕ → ℕ → Type 0) (is_edge : (k q : ℕ) → E k q ↔ Refers (nodes_of p) k q) where
    -- a walk of names is one of nodes: each name is one of a node that leads on
    up : (x : List ℕ) (names : List (List ℕ)) (y : List ℕ) (b : ℕ) (to : Node) → Walks (Leads p) x names y → slice_get (nodes_of p) b ≡ Some to → Contains to.names y
        → (q : ℕ) × (n : Node) × (slice_get (nodes_of p) q ≡ Some n) × Contains n.names x × Reaches E q b
    up x [] y b to w at has = (b, to, at, subst (λ v. Contains to.names v) (sym w) has, ([], refl))
    up x (v ∷ vs) y b to w at has =
        let r = referred_by p x v (one_of (referred p x) v w.0) in
        let by = r.1 in
        let rest = up v vs y b to w.1 at has in
        let e : E r.0 rest.0 = (is_edge r.0 rest.0).1 (by.node, rest.1, v, by.at, rest.2, contained by.node.references v by.refers, rest.3) in
        (r.0, by.node, by.at, contained by.node.names x by.has, (rest.0 ∷ (rest.4).0, (e, (rest.4).1)))

    -- and back
    down : (q : ℕ) (steps : List ℕ) (b : ℕ) (n to : Node) (x : List ℕ) → Walks E q steps b → slice_get (nodes_of p) q ≡ Some n → Contains n.names x → slice_get (nodes_of p) b ≡ Some to
        → (y : List ℕ) × Reaches (Leads p) x y × Contains to.names y
    down q [] b n to x w at has at_b =
        let both : Some n ≡ Some to = sym at ∙ ap (slice_get (nodes_of p)) w ∙ at_b in
        let same : n ≡ to = cc in
        (x, ([], refl), subst (λ (m : Node). Contains m.names x) same has)
    down q (s ∷ ss) b n to x w at has at_b =
        let r = (is_edge q s).0 w.0 in
        let both : Some n ≡ Some r.0 = sym at ∙ r.3 in
        let same : n ≡ r.0 = cc in
        let refers : Contains n.references r.2 = subst (λ (m : Node). Contains m.references r.2) (sym same) r.5 in
        let by : By (nodes_of p) q x r.2 = record { node = n; at = at; has = one_of n.names x has; refers = one_of n.references r.2 refers } in
        let rest = down s ss b r.1 to r.2 w.1 r.4 r.6 at_b in
        (rest.0, (r.2 ∷ (rest.1).0, (contained (referred p x) r.2 (by_referred p q x r.2 by), (rest.1).1)), rest.2)

    pub ahead_due : (a b : ℕ) (i j : Initialization) → slice_get p.initializations a ≡ Some i → slice_get p.initializations b ≡ Some j → (first : ℕ) → E a first → Reaches E first b → depends p i j ≡ true
    ahead_due a b i j at_a at_b first e way =
        let r = (is_edge a first).0 e in
        let both : Some r.0 ≡ Some (variables_node i) = sym r.3 ∙ node_at a i at_a in
        let same : r.0 ≡ variables_node i = cc in
        let d = down first way.0 b r.1 (variables_node j) r.2 way.1 r.4 r.6 (node_at b j at_b) in
        (depends_is p i j).1 (r.2, d.0, subst (λ (m : Node). Contains m.references r.2) same r.5, d.1, sets_it j d.0 (one_of (variables_node j).names d.0 d.2))

    pub due_ahead : (a b : ℕ) (i j : Initialization) → slice_get p.initializations a ≡ Some i → slice_get p.initializations b ≡ Some j → depends p i j ≡ true → (first : ℕ) × E a first × Reaches E first b
    due_ahead a b i j at_a at_b due =
        let d = (depends_is p i j).0 due in
        let u = up d.0 (d.3).0 d.1 b (variables_node j) (d.3).1 (node_at b j at_b) (contained (variables_node j).names d.1 (named j d.1 d.4)) in
        (u.0, (is_edge a u.0).1 (variables_node i, u.1, d.0, node_at a i at_a, u.2, d.2, u.3), u.4)
