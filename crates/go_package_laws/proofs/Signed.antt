-- The typed tree of a function has the name and the signature that its declaration says.
use Rattle.std.proofs.Common.{◌≡◌, List, [], ◌∷◌, Option, Some, None, map, length, refl, sym, ap, ◌∙◌, inl, inr}
use Rattle.std.specs.Prelude.{option_map, nat_eq, ◌||◌}
use Rattle.std.proofs.lemmas.Bool.{cases_Bool}
use Rattle.go_ast.specs.Trees.{Name, TypeExpr, Block, block, Parameter, FunctionDecl}
use Rattle.go_types.specs.Types.{Type'}
use Rattle.go_typed.specs.Trees as typed
use Rattle.go_typed.specs.Trees.{pack_stmts}
use Rattle.go_typed.specs.Terminating.{list_terminates}
use Rattle.go_expr.specs.Known.{Scope, Fine, Breaks}
use Rattle.go_expr.specs.Rules.{fine}
use Rattle.go_expr.specs.Verdicts.{both, chained, type_verdict}
use Rattle.go_stmt.specs.Scopes.{StatementEnv, Context, nothing, scope_in}
use Rattle.go_stmt.specs.Rules.{all_some, ended}
use Rattle.go_stmt.specs.Statements.{block_context, list_at}
use Rattle.go_stmt.specs.Functions.{parameter_at, parameters_at, result_types, results_at, body_at, CheckedParts, whole_function, whole_at, function_from, function_at}
use Rattle.go_objects.specs.Table.{types_known, parameters_known}
use Rattle.go_package_laws.proofs.Forms.{fine_is, asked_parts, mapped_is}
use Rattle.go_package_laws.proofs.Values.{checked_part}

abbrev outer : Context → Scope
outer c = scope_in c None nothing

both_are : {A B : Type 0} (a : Option A) (b : Option B) (x : A × B) → both a b ≡ Some x → (a ≡ Some x.0) × (b ≡ Some x.1)
both_are (Some a) (Some b) x h = (let same : (a, b) ≡ x = cc in (ap (λ k. Some k.0) same, ap (λ k. Some k.1) same))
both_are None b x h = absurd cc
both_are (Some a) None x h = absurd cc

one_parameter : (ns : List Name) (o : Option Type') → option_map (λ k. map (λ (n : Name). k.1) k.0) (both (Some ns) o) ≡ option_map (λ t. map (λ (n : Name). t) ns) o
one_parameter ns None = refl
one_parameter ns (Some t) = refl

parameters_same : (c : Context) (ps : List Parameter) (env : StatementEnv) → (parameters_at c ps env).known ≡ parameters_known (outer c) ps
parameters_same c [] env = refl
parameters_same c (p ∷ ps) env =
    ap (λ o. chained o (parameters_at c ps (parameter_at c p env).after).known) (one_parameter p.names (fine (type_verdict (outer c) p.type)))
    ∙ ap (chained (option_map (λ t. map (λ n. t) p.names) (fine (type_verdict (outer c) p.type)))) (parameters_same c ps (parameter_at c p env).after)

one_result : (o : Option Type') (os : List (Option Type')) → all_some (o ∷ os) ≡ chained (option_map (λ t. t ∷ []) o) (all_some os)
one_result None os = refl
one_result (Some t) os = elim (all_some os) as (λ r. option_map (λ xs. t ∷ xs) r ≡ chained (Some (t ∷ [])) r) [ None ↦ refl | Some ts ↦ refl ]

results_same : (s : Scope) (ts : List TypeExpr) → all_some (map (λ t. fine (type_verdict s t)) ts) ≡ types_known s ts
results_same s [] = refl
results_same s (t ∷ ts) =
    one_result (fine (type_verdict s t)) (map (λ t. fine (type_verdict s t)) ts) ∙ ap (chained (option_map (λ t. t ∷ []) (fine (type_verdict s t)))) (results_same s ts)

ended_is : (ts : List Type') (ss : List typed.Stmt) (k : List Type' × List typed.Stmt) → ended ts ss ≡ Fine k → k.0 ≡ ts
ended_is ts ss k h = elim (cases_Bool (nat_eq (length ts) 0 || list_terminates (pack_stmts ss))) [
  | inl is ↦ (let same : Fine (ts, ss) ≡ Fine k = rw is at h in let one : (ts, ss) ≡ k = cc in sym (ap (λ j. j.0) one))
  | inr not_so ↦ absurd (let no : Breaks _ ≡ Fine k = rw not_so at h in cc (no))
]

body_results : (c : Context) (rs : List TypeExpr) (b : Block) (env : StatementEnv) (k : List Type' × List typed.Stmt) → (body_at c rs b env).known ≡ Some k → types_known (outer c) rs ≡ Some k.0
body_results c rs (block p ss q) env k h =
    let inner = record (block_context c) { results = result_types c rs } in
    sym (results_same (outer c) rs) ∙ (both_are (results_at c rs env).known (list_at inner ss (results_at c rs env).after).known k h).0

-- its name, its parameters and its results
pub signed : (c : Context) (f : FunctionDecl) (g : typed.Function) → (function_at c f).known ≡ Some g
    → (g.name ≡ f.name.text) × (parameters_known (outer c) f.parameters ≡ Some g.parameters) × (types_known (outer c) f.results ≡ Some g.results)
unfolding function_at
signed c f g is =
    let parameters = parameters_at c f.parameters nothing in
    let body = body_at c f.results f.body parameters.after in
    let made = mapped_is (function_from f (whole_at c f nothing).after.types) (whole_at c f nothing).known g is in
    let closed = asked_parts whole_function (both parameters.known body.known) made.0 (fine_is _ made.0 made.1) in
    let parts = both_are parameters.known body.known closed.0 closed.1 in
    let part = checked_part (λ inside. Fine ((closed.0).0, inside)) (ended ((closed.0).1).0 ((closed.0).1).1) made.0 closed.2 in
    let same : ((closed.0).0, part.0) ≡ made.0 = (let q : Fine ((closed.0).0, part.0) ≡ Fine made.0 = part.2 in cc) in
    let results : (part.0).0 ≡ ((closed.0).1).0 = ended_is ((closed.0).1).0 ((closed.0).1).1 part.0 part.1 in (
      ap (λ (h : typed.Function). h.name) made.2,
      sym (parameters_same c f.parameters nothing) ∙ parts.0 ∙ ap (λ (j : CheckedParts). Some j.0) same ∙ ap (λ (h : typed.Function). Some h.parameters) (sym made.2),
      body_results c f.results f.body parameters.after (closed.0).1 parts.1 ∙ ap Some (sym results) ∙ ap (λ (j : CheckedParts). Some (j.1).0) same ∙ ap (λ (h : typed.Function). Some h.results) (sym made.2),
    )
