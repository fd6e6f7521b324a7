use Rattle.std.proofs.Common.{◌≡◌, ℕ, Bool, List, map, length, sym, ap, ◌∙◌, subst, arith}
use Rattle.std.specs.Prelude.{◌↔◌}
use Rattle.std.specs.Global.{Vec}
use Rattle.std.specs.List.{range_with_len}
use Rattle.std.proofs.lemmas.List.{length-map}
use Rattle.ws_reach.specs.Reach.{Edge, rows_of}
use Rattle.go_typed.specs.Views.{initialization_of, typed_of}
use Rattle.go_init.specs.Condensation.{AreDue}
use Rattle.go_init.specs.Nodes.{Refers}
use Rattle.go_init.specs.Turns.{in_turn}
use Rattle.go_init.specs.Variables.{is_due}
use Rattle.go_init.specs.Views.{node_of}
use Rattle.go_init.proofs.Results.{due_is, few, if_ok, within}
use Rattle.go_init.proofs.order.order_of.Goals as goal

pub first_in_turn-requires-clause-few : goal.first_in_turn-requires-clause-few
first_in_turn-requires-clause-few c =
    let nodes = c.as_slice.result.now in
    let rows = c.as_slice-2.result.now in
    let typed = c.args.typed.now in
    let edges = subst (λ (l : List (Vec ℕ)). (k q : ℕ) → Edge (rows_of l) k q ↔ Refers (map node_of nodes) k q) (sym c.as_slice-2.ensures.value) c.in_ok-rows.ensures.edges in
    let counted : c.len.result ≡ length (map initialization_of typed.initializations.items) = omega (arith, c.len.ensures, typed.initializations.ok.0, length-map typed.initializations.items initialization_of) in
    few (typed_of typed) nodes (ap (map node_of) c.as_slice.ensures.value ∙ c.in_ok-nodes.ensures) rows (ap length c.as_slice-2.ensures.value ∙ c.in_ok-rows.ensures.size) edges c.len.result counted

pub first_in_turn-requires-clause-within : goal.first_in_turn-requires-clause-within
first_in_turn-requires-clause-within c =
    let nodes = c.as_slice.result.now in
    let rows = c.as_slice-2.result.now in
    let typed = c.args.typed.now in
    let edges = subst (λ (l : List (Vec ℕ)). (k q : ℕ) → Edge (rows_of l) k q ↔ Refers (map node_of nodes) k q) (sym c.as_slice-2.ensures.value) c.in_ok-rows.ensures.edges in
    let counted : c.len.result ≡ length (map initialization_of typed.initializations.items) = omega (arith, c.len.ensures, typed.initializations.ok.0, length-map typed.initializations.items initialization_of) in
    within (typed_of typed) nodes (ap (map node_of) c.as_slice.ensures.value ∙ c.in_ok-nodes.ensures) rows (ap length c.as_slice-2.ensures.value ∙ c.in_ok-rows.ensures.size) edges c.len.result counted

pub returns : goal.returns
returns c =
    let nodes = c.as_slice.result.now in
    let rows = c.as_slice-2.result.now in
    let typed = c.args.typed.now in
    let edges = subst (λ (l : List (Vec ℕ)). (k q : ℕ) → Edge (rows_of l) k q ↔ Refers (map node_of nodes) k q) (sym c.as_slice-2.ensures.value) c.in_ok-rows.ensures.edges in
    let counted : c.len.result ≡ length (map initialization_of typed.initializations.items) = omega (arith, c.len.ensures, typed.initializations.ok.0, length-map typed.initializations.items initialization_of) in
    let p = typed_of typed in
    let due = due_is p nodes (ap (map node_of) c.as_slice.ensures.value ∙ c.in_ok-nodes.ensures) rows (ap length c.as_slice-2.ensures.value ∙ c.in_ok-rows.ensures.size) edges c.len.result counted in
    if_ok (λ (order : Vec ℕ). (depends : ℕ → ℕ → Bool) → AreDue (rows_of rows) c.len.result depends → order.items ≡ (in_turn depends (range_with_len 0 c.len.result)).0)
    (λ (order : Vec ℕ). order.items ≡ (in_turn (is_due p) (range_with_len 0 (length p.initializations))).0)
    c.first_in_turn.result
    (λ order h. h (is_due p) due ∙ ap (λ n. (in_turn (is_due p) (range_with_len 0 n)).0) counted)
    c.first_in_turn.ensures
