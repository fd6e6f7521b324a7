-- A loop over a range: its variable is known, where the range is.
use Rattle.std.proofs.Common.{◌≡◌, ℕ, Bool, false, not, Option, Some, None, List, [], ◌∷◌, ◌++◌, refl, sym, ap, subst, ◌∙◌, inl, inr}
use Rattle.std.specs.Prelude.{if◌then◌else◌}
use Rattle.std.proofs.lemmas.Bool.{cases_Bool}
use Rattle.go_text.specs.declared.place.Place.{Place}
use Rattle.go_text.specs.declared.fault.FaultKind.TheVariants.{Mismatch, Assign, Range}
use Rattle.go_ast.specs.Trees.{Name, Expression, Block, range_statement}
use Rattle.go_types.specs.Types.{Type'}
use Rattle.go_types.specs.Relations.{assignable}
use Rattle.go_typed.specs.Trees as typed
use Rattle.go_typed.specs.Trees.{expr_type}
use Rattle.go_expr.specs.Known.{Scope, look_up_known}
use Rattle.go_expr.specs.Rules.{fine, is_integer, lies_in, default_type}
use Rattle.go_expr.specs.Verdicts.{asked, both, operand, verdict, broken}
use Rattle.go_stmt.specs.Scopes.{StatementEnv, Context, scope_in, declare_new, Checked, follow, node, perhaps}
use Rattle.go_stmt.specs.Rules.{ranged}
use Rattle.go_stmt.specs.Statements.{value_at, in_loop, range_type, range_names, range_number, is_unsure, block_at, statement_at}
use Rattle.go_package_laws.specs.Finds.{IsKnown, IsDetermined}
use Rattle.go_package_laws.proofs.Completeness.Rules.{IsAsked}
use Rattle.go_package_laws.proofs.Completeness.Steps.{ranges}
use Rattle.go_package_laws.proofs.Completeness.Faultless.{two_none, known}
use Rattle.go_package_laws.proofs.Completeness.Forms.{Outside, all_told, AllTyped, new_whole, Any, Sure, any, sure_inside}
use Rattle.go_package_laws.proofs.Completeness.Leaves.{value_sure}
use Rattle.go_package_laws.proofs.Completeness.Shown.{all_shown}

abbrev inner_range : Context → Place → Option Name → Expression → Block → StatementEnv → Checked (List typed.Stmt)
inner_range c p o e b env =
    let s = scope_in c None env in
    let t = range_type (operand (verdict s e)) in
    let change = declare_new (range_names o t) in
    node p (λ k. ranged (range_number o (change env)) k.0 k.1) (follow (value_at c e) (perhaps (is_unsure s o t b) (λ env. block_at (in_loop c) b (change env)))) env

typed_names : (o : Option Name) (t : Option Type') → IsKnown t → AllTyped (range_names o t)
typed_names None t k = tt
typed_names (Some n) None k = absurd cc
typed_names (Some n) (Some t) k = tt

shown : (s : Scope) → ((x : List ℕ) → IsDetermined (look_up_known x s.names)) → (o : Option Name) (t : Option Type') (b : Block) → is_unsure s o t b ≡ false
shown s told o None b = all_shown s told _
shown s told o (Some t) b = refl

-- a range that breaks no rule has a type for its variable, whether its body is known or not
ranged_over : (number : Option ℕ) (e : typed.Expr) (body : Option (List typed.Stmt)) (p : Place) → broken p (ranged number e body) ≡ [] → IsKnown (range_type (Some e))
ranged_over number e body p none = elim (cases_Bool (is_integer (expr_type e))) [
  | inr other ↦ absurd (let r : broken p (ranged number e body) ≡ (p, Mismatch) ∷ [] = rw other refl in cc)
  | inl integer ↦ elim (cases_Bool (not (assignable (expr_type e) (default_type (expr_type e))))) [
    | inl unfit ↦ absurd (let r : broken p (ranged number e body) ≡ (p, Assign) ∷ [] = rw (integer, unfit) refl in cc)
    | inr fit ↦ elim (cases_Bool (lies_in (default_type (expr_type e)) e)) [
      | inr not_so ↦ absurd (let r : broken p (ranged number e body) ≡ (p, Range) ∷ [] = rw (integer, fit, not_so) refl in cc)
      | inl is ↦ rw (integer, is) (default_type (expr_type e), refl)
    ]
  ]
]

ruled : (number : Option ℕ) (a : Option typed.Expr) (b : Option (Option (List typed.Stmt))) (e : typed.Expr) (ss : List typed.Stmt) → a ≡ Some e → b ≡ Some (Some ss)
    → IsAsked (asked (λ k. ranged number k.0 k.1) (both a b))
ruled number a b e ss at body = rw (at, body) (ranges number e ss)

pub range_sure : (c : Context) → Outside c → (p : Place) (o : Option Name) (e : Expression) (b : Block) → Sure Any (block_at (in_loop c) b) → Sure Any (statement_at c (range_statement p o e b))
range_sure c out p o e b h = sure_inside Any (inner_range c p o e b) (λ env whole none.
    let s = scope_in c None env in
    let v = operand (verdict s e) in
    let t = range_type v in
    let change = declare_new (range_names o t) in
    let number = range_number o (change env) in
    let rule = λ (k : typed.Expr × Option (List typed.Stmt)). ranged number k.0 k.1 in
    let body = block_at (in_loop c) b (change env) in
    let told : Bool → Option (Option (List typed.Stmt)) = λ hidden. if hidden then None else Some body.known in
    let hidden = is_unsure s o t b in
    let visible : hidden ≡ false = shown s (all_told c None env out whole) o t b in
    let all = asked rule (both v (told hidden)) in
    let ns = two_none ((value_at c e env).faults ++ body.faults) (broken p all) none in
    let parts = two_none (value_at c e env).faults body.faults ns.0 in
    let one = value_sure c out e env whole parts.0 in
    let x = (one.0).0 in
    let is : v ≡ Some x = (one.0).1 in
    let seen : broken p (asked rule (both v (Some body.known))) ≡ [] = subst (λ (h : Bool). broken p (asked rule (both v (told h))) ≡ []) visible ns.1 in
    let over = ranged_over number x body.known p (subst (λ (a : Option typed.Expr). broken p (asked rule (both a (Some body.known))) ≡ []) is seen) in
    let typed : IsKnown t = subst (λ (a : Option typed.Expr). IsKnown (range_type a)) (sym is) over in
    let two = h (change env) (new_whole (range_names o t) env (typed_names o t typed) whole) parts.1 in
    let known_body : told hidden ≡ Some (Some (two.0).0) = ap told visible ∙ ap Some (two.0).1 in
    (any (fine all) (known p all (ruled number v (told hidden) x (two.0).0 is known_body) ns.1), two.1))
