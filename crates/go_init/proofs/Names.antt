-- Which names a name leads to, and by which nodes.
use Rattle.std.proofs.Common.{◌≡◌, ℕ, Bool, true, false, List, [], ◌∷◌, ◌++◌, map, Option, Some, None, refl, ap, subst, inl, inr, ◌⊎◌}
use Rattle.std.specs.Prelude.{bytes_eq}
use Rattle.std.specs.List.{filter, filter_map, flat_map, list_any, slice_get}
use Rattle.std.proofs.lemmas.Bool.{cases_Bool}
use Rattle.std.proofs.lemmas.Slice.Eq.{bytes_eq-Decides}
use Rattle.ws_reach.proofs.Closure.{IsOneOf}
use Rattle.ws_reach.proofs.Reached.{contains_get, get_contains}
use Rattle.go_typed.specs.Trees.{Initialization, Package}
use Rattle.go_init.specs.Nodes.{Node, variables_node, function_node, nodes_of}
use Rattle.go_init.specs.Variables.{sets, referred}
use Rattle.go_init.proofs.Members.{contained, one_of, one_left}

-- ---- members of lists that are made of others

pub one_right : {A : Type 0} (xs ys : List A) (x : A) → IsOneOf x ys → IsOneOf x (xs ++ ys)
one_right [] ys x h = h
one_right (z ∷ zs) ys x h = inr (one_right zs ys x h)

pub one_either : {A : Type 0} (xs ys : List A) (x : A) → IsOneOf x (xs ++ ys) → IsOneOf x xs ⊎ IsOneOf x ys
one_either [] ys x h = inr h
one_either (z ∷ zs) ys x (inl e) = inl (inl e)
one_either (z ∷ zs) ys x (inr h) = elim (one_either zs ys x h) [ inl a ↦ inl (inr a) | inr b ↦ inr b ]

pub one_map : {A B : Type 0} (f : A → B) (xs : List A) (x : A) → IsOneOf x xs → IsOneOf (f x) (map f xs)
one_map f [] x h = absurd h
one_map f (y ∷ ys) x (inl e) = inl (ap f e)
one_map f (y ∷ ys) x (inr h) = inr (one_map f ys x h)

pub one_mapped : {A B : Type 0} (f : A → B) (xs : List A) (y : B) → IsOneOf y (map f xs) → (x : A) × IsOneOf x xs × (y ≡ f x)
one_mapped f [] y h = absurd h
one_mapped f (x ∷ xs) y (inl e) = (x, inl refl, e)
one_mapped f (x ∷ xs) y (inr h) = (let r = one_mapped f xs y h in (r.0, inr r.1, r.2))

-- of those that pass a test the parts
pub parts_from : {A B : Type 0} (test : A → Bool) (f : A → List B) (xs : List A) (y : B) → IsOneOf y (flat_map f (filter test xs)) → (x : A) × IsOneOf x xs × (test x ≡ true) × IsOneOf y (f x)
parts_from test f [] y h = absurd h
parts_from test f (x ∷ xs) y h = elim (cases_Bool (test x)) [
  | inl t ↦ (
      let s : IsOneOf y (f x ++ flat_map f (filter test xs)) = rw t at h in
      elim (one_either (f x) (flat_map f (filter test xs)) y s) [
        | inl a ↦ (x, inl refl, t, a)
        | inr b ↦ (let r = parts_from test f xs y b in (r.0, inr r.1, r.2, r.3))
      ])
  | inr n ↦ (
      let s : IsOneOf y (flat_map f (filter test xs)) = rw n at h in
      let r = parts_from test f xs y s in
      (r.0, inr r.1, r.2, r.3))
]

pub parts_to : {A B : Type 0} (test : A → Bool) (f : A → List B) (xs : List A) (x : A) (y : B) → IsOneOf x xs → test x ≡ true → IsOneOf y (f x) → IsOneOf y (flat_map f (filter test xs))
parts_to test f [] x y h t o = absurd h
parts_to test f (z ∷ zs) x y (inl e) t o =
    let s : test z ≡ true = subst (λ w. test w ≡ true) e t in
    rw s (one_left (f z) (flat_map f (filter test zs)) y (subst (λ w. IsOneOf y (f w)) e o))
parts_to test f (z ∷ zs) x y (inr h) t o = elim (cases_Bool (test z)) [
  | inl s ↦ rw s (one_right (f z) (flat_map f (filter test zs)) y (parts_to test f zs x y h t o))
  | inr n ↦ rw n (parts_to test f zs x y h t o)
]

-- ---- names of nodes

sets_names : (x : List ℕ) (vs : List (Option (List ℕ))) → list_any (λ (o : Option (List ℕ)). elim o [ None ↦ false | Some y ↦ bytes_eq x y ]) vs ≡ true → IsOneOf x (filter_map (λ (o : Option (List ℕ)). o) vs)
sets_names x [] h = cc
sets_names x (None ∷ vs) h = sets_names x vs h
sets_names x (Some y ∷ vs) h = elim (cases_Bool (bytes_eq x y)) [
  | inl t ↦ inl ((bytes_eq-Decides x y).0 t)
  | inr n ↦ inr (sets_names x vs (rw n at h))
]

names_set : (x : List ℕ) (vs : List (Option (List ℕ))) → IsOneOf x (filter_map (λ (o : Option (List ℕ)). o) vs) → list_any (λ (o : Option (List ℕ)). elim o [ None ↦ false | Some y ↦ bytes_eq x y ]) vs ≡ true
names_set x [] h = absurd h
names_set x (None ∷ vs) h = names_set x vs h
names_set x (Some y ∷ vs) (inl e) = rw ((bytes_eq-Decides x y).1 e) refl
names_set x (Some y ∷ vs) (inr h) = elim (cases_Bool (bytes_eq x y)) [ inl t ↦ rw t refl | inr n ↦ rw n (names_set x vs h) ]

pub named : (i : Initialization) (x : List ℕ) → sets i x ≡ true → IsOneOf x (variables_node i).names
named i x h = sets_names x i.variables h

pub sets_it : (i : Initialization) (x : List ℕ) → IsOneOf x (variables_node i).names → sets i x ≡ true
sets_it i x h = names_set x i.variables h

-- ---- edges between names

-- the node at k has one name and refers to the other
pub record By (nodes : List Node) (k : ℕ) (u v : List ℕ) : Type 0 where
  pub node : Node
  pub at : slice_get nodes k ≡ Some node
  pub has : IsOneOf u node.names
  pub refers : IsOneOf v node.references

pub node_of_one : (nodes : List Node) (n : Node) (u v : List ℕ) → IsOneOf n nodes → IsOneOf u n.names → IsOneOf v n.references → (k : ℕ) × By nodes k u v
node_of_one nodes n u v h has refers =
    let c = contained nodes n h in
    (c.0, record { node = n; at = contains_get nodes n c; has = has; refers = refers })

pub referred_by : (p : Package) (u v : List ℕ) → IsOneOf v (referred p u) → (k : ℕ) × By (nodes_of p) k u v
referred_by p u v h =
    let values = flat_map (λ (i : Initialization). i.references) (filter (λ (i : Initialization). sets i u) p.initializations) in
    let texts = flat_map (λ (f : List ℕ × List (List ℕ)). f.1) (filter (λ (f : List ℕ × List (List ℕ)). bytes_eq u f.0) p.uses) in
    elim (one_either values texts v h) [
      | inl a ↦ (
          let r = parts_from (λ (i : Initialization). sets i u) (λ (i : Initialization). i.references) p.initializations v a in
          node_of_one (nodes_of p) (variables_node r.0) u v (one_left (map variables_node p.initializations) (map function_node p.uses) (variables_node r.0) (one_map variables_node p.initializations r.0 r.1)) (named r.0 u r.2) r.3)
      | inr b ↦ (
          let r = parts_from (λ (f : List ℕ × List (List ℕ)). bytes_eq u f.0) (λ (f : List ℕ × List (List ℕ)). f.1) p.uses v b in
          node_of_one (nodes_of p) (function_node r.0) u v (one_right (map variables_node p.initializations) (map function_node p.uses) (function_node r.0) (one_map function_node p.uses r.0 r.1)) (inl ((bytes_eq-Decides u (r.0).0).0 r.2)) r.3)
    ]

pub by_referred : (p : Package) (k : ℕ) (u v : List ℕ) → By (nodes_of p) k u v → IsOneOf v (referred p u)
by_referred p k u v b =
    let values = flat_map (λ (i : Initialization). i.references) (filter (λ (i : Initialization). sets i u) p.initializations) in
    let texts = flat_map (λ (f : List ℕ × List (List ℕ)). f.1) (filter (λ (f : List ℕ × List (List ℕ)). bytes_eq u f.0) p.uses) in
    elim (one_either (map variables_node p.initializations) (map function_node p.uses) b.node (one_of (nodes_of p) b.node (get_contains (nodes_of p) k b.node b.at))) [
      | inl a ↦ (
          let r = one_mapped variables_node p.initializations b.node a in
          one_left values texts v (parts_to (λ (i : Initialization). sets i u) (λ (i : Initialization). i.references) p.initializations r.0 v r.1
          (sets_it r.0 u (subst (λ (n : Node). IsOneOf u n.names) r.2 b.has)) (subst (λ (n : Node). IsOneOf v n.references) r.2 b.refers)))
      | inr c ↦ (
          let r = one_mapped function_node p.uses b.node c in
          let same : u ≡ (r.0).0 = elim (subst (λ (n : Node). IsOneOf u n.names) r.2 b.has) [ inl e ↦ e | inr none ↦ absurd none ] in
          one_right values texts v (parts_to (λ (f : List ℕ × List (List ℕ)). bytes_eq u f.0) (λ (f : List ℕ × List (List ℕ)). f.1) p.uses r.0 v r.1
          ((bytes_eq-Decides u (r.0).0).1 same) (subst (λ (n : Node). IsOneOf v n.references) r.2 b.refers)))
    ]
