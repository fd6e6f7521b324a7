use Rattle.std.proofs.Common.{◌≡◌, ◌++◌, [], Option, Some, None, List, map, refl, ap, sym, ◌∙◌}
use Rattle.std.specs.Option.{option_map}
use Rattle.go_ast.specs.Trees.{Name}
use Rattle.go_ast.specs.Views.{type_of as type_tree}
use Rattle.go_types.specs.Types.{Type'}
use Rattle.go_types.specs.Views.{go_type}
use Rattle.go_expr.specs.Known.{Scope}
use Rattle.go_expr.specs.Rules.{fine}
use Rattle.go_expr.specs.Verdicts.{both, type_verdict, type_faults}
use Rattle.go_stmt.specs.Scopes.{StatementFaults, nothing, scope_in}
use Rattle.go_stmt.specs.Statements.{names_faults}
use Rattle.go_stmt.specs.Views.{context_of, env_of}
use Rattle.go_stmt.proofs.function.check_parameter.Goals as goal

abbrev typed_names : List Name × Type' → List Type'
typed_names k = map (λ n. k.1) k.0

each_typed : (ns : List Name) (o : Option Type') → option_map typed_names (both (Some ns) o) ≡ option_map (λ t. map (λ n. t) ns) o
each_typed ns None = refl
each_typed ns (Some t) = refl

pub returns-clause-answer : goal.returns-clause-answer
returns-clause-answer c =
    let ns = c.args.parameter.now.names.items in
    let t = type_tree c.args.parameter.now.type_expr in
    let of = option_map go_type c.in_ok-of.of in
    let named : names_faults (env_of c.args.env.now) [] ns ≡ [] = ap (λ (l : List Name). names_faults (env_of c.args.env.now) [] l) (sym c.deref.ensures.value) ∙ c.in_ok-check_names.ensures in (
      ap (λ (l : StatementFaults). l ++ type_faults (scope_in (context_of c.args.context) None nothing) t) named ∙ ap (λ (s : Scope). type_faults s t) (sym c.outside.ensures) ∙ c.in_ok-of.ensures.0,
      ap (λ (s : Scope). option_map typed_names (both (Some ns) (fine (type_verdict s t)))) (sym c.outside.ensures)
          ∙ ap (λ (o : Option Type'). option_map typed_names (both (Some ns) o)) c.in_ok-of.ensures.1
          ∙ each_typed ns of ∙ ap (λ (l : List Name). option_map (λ t. map (λ n. t) l) of) (sym c.deref-3.ensures.value) ∙ sym c.in_ok-types_of.ensures,
    )
