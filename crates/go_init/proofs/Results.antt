-- Walks along what nodes refer to find what each initialization depends on.
use Rattle.std.proofs.Common.{◌≡◌, ◌<◌, ◌≤◌, ℕ, zero, suc, Bool, false, List, [], ◌∷◌, Option, Some, None, map, length, refl, sym, ap, ◌∙◌, subst, arith}
use Rattle.std.specs.Prelude.{◌↔◌, IfOk, Result, Ok, Err}
use Rattle.std.specs.Global.{Vec}
use Rattle.std.specs.List.{slice_get}
use Rattle.std.proofs.lemmas.List.{length-map}
use Rattle.ws_reach.specs.Reach.{Edge, EdgesStayWithin, rows_of}
use Rattle.ws_reach.proofs.Rows.{length-rows}
use Rattle.go_typed.specs.Trees.{Initialization, Package}
use Rattle.go_init.specs.Condensation.{AreDue}
use Rattle.go_init.specs.Nodes.{Node, nodes_of, Refers}
use Rattle.go_init.specs.Variables.{depends, is_due}
use Rattle.go_init.specs.Views.{node_of}
use Rattle.go_init.specs.declared.nodes.Node.{Node as CodeNode}
use Rattle.go_init.proofs.Bearers.{stay_within}
use Rattle.go_init.proofs.Graphs.{ahead_due, count_nodes, due_ahead}

pub if_ok : {X E : Type 0} (P Q : X → Type 0) (r : Result X E) → ((x : X) → P x → Q x) → IfOk r P → IfOk r Q
if_ok P Q (Ok x) each h = each x h
if_ok P Q (Err e) each h = h

inside : {A : Type 0} (xs : List A) (k : ℕ) → k < length xs → (x : A) × (slice_get xs k ≡ Some x)
inside [] k lt = absurd (omega (arith, lt))
inside (x ∷ xs) zero lt = (x, refl)
inside (x ∷ xs) (suc k) lt = inside xs k (omega (arith, lt))

abbrev due_to : Package → Initialization → Option Initialization → Bool
due_to p i o = elim o [ None ↦ false | Some j ↦ depends p i j ]

abbrev due_from : Package → ℕ → Option Initialization → Bool
due_from p q o = elim o [ None ↦ false | Some i ↦ due_to p i (slice_get p.initializations q) ]

pub is_due_at : (p : Package) (k q : ℕ) (i j : Initialization) → slice_get p.initializations k ≡ Some i → slice_get p.initializations q ≡ Some j → is_due p k q ≡ depends p i j
is_due_at p k q i j at_k at_q =
    ap (due_from p q) at_k ∙ ap (due_to p i) at_q

module _ (p : Package) (nodes : List CodeNode) (are : map node_of nodes ≡ nodes_of p) (rows : List (Vec ℕ)) (size : length rows ≡ length nodes)
    (edges : (k q : ℕ) → Edge (rows_of rows) k q ↔ Refers (map node_of nodes) k q) (count : ℕ) (counted : count ≡ length p.initializations) where
  pub few : count ≤ length rows
  few =
      let same : length (map node_of nodes) ≡ length (nodes_of p) = ap length are in
      omega (arith, size, counted, same, length-map nodes node_of, count_nodes p)

  pub within : EdgesStayWithin (rows_of rows)
  within = stay_within (map node_of nodes) (rows_of rows) (length-rows rows ∙ size ∙ sym (length-map nodes node_of)) edges

  refer : (k q : ℕ) → Edge (rows_of rows) k q ↔ Refers (nodes_of p) k q
  refer = subst (λ (ns : List Node). (k q : ℕ) → Edge (rows_of rows) k q ↔ Refers ns k q) are edges

  pub due_is : AreDue (rows_of rows) count (is_due p)
  due_is k q from to =
      let a = inside p.initializations k (omega (arith, from, counted)) in
      let b = inside p.initializations q (omega (arith, to, counted)) in
      let same : is_due p k q ≡ depends p a.0 b.0 = is_due_at p k q a.0 b.0 a.1 b.1 in (
        λ h. due_ahead p (Edge (rows_of rows)) refer k q a.0 b.0 a.1 b.1 (sym same ∙ h),
        λ w. same ∙ ahead_due p (Edge (rows_of rows)) refer k q a.0 b.0 a.1 b.1 w.0 w.1 w.2,
      )
