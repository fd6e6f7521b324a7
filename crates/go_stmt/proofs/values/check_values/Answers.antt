use Rattle.std.proofs.Common.{◌≡◌, List, Option, map, subst}
use Rattle.std.specs.Prelude.{IfOk}
use Rattle.std.specs.Option.{option_map}
use Rattle.go_types.specs.Types.{Type'}
use Rattle.go_types.specs.Views.{go_type}
use Rattle.go_expr.specs.Views.{scope_of}
use Rattle.go_stmt.specs.Scopes.{StatementFaults}
use Rattle.go_stmt.specs.Rules.{AssignedValues}
use Rattle.go_stmt.specs.Views.{Finds, values_seen}
use Rattle.go_stmt.specs.declared.values.Valued.{Valued}
use Rattle.go_stmt.proofs.Several.{faults_of_several, known_of_several, types_of_several}
use Rattle.go_stmt.proofs.values.check_values.Goals as goal

pub returns-in-len2-up-clause-faults : goal.returns-in-len2-up-clause-faults
returns-in-len2-up-clause-faults c =
    let r = c.check_separate-in-len2-up in
    subst (λ (l : StatementFaults). Finds r.result l) (faults_of_several (scope_of c.args.scope.now) c.args.es.now c.in-len2-up.len_at_least) r.ensures.faults

pub returns-in-len2-up-clause-types : goal.returns-in-len2-up-clause-types
returns-in-len2-up-clause-types c =
    let r = c.check_separate-in-len2-up in
    subst (λ (ts : List (Option Type')). IfOk r.result (λ (v : Valued). map (option_map go_type) v.types.items ≡ ts)) (types_of_several (scope_of c.args.scope.now) c.args.es.now c.in-len2-up.len_at_least) r.ensures.types

pub returns-in-len2-up-clause-known : goal.returns-in-len2-up-clause-known
returns-in-len2-up-clause-known c =
    let r = c.check_separate-in-len2-up in
    subst (λ (k : Option AssignedValues). IfOk r.result (λ (v : Valued). option_map values_seen v.known ≡ k)) (known_of_several (scope_of c.args.scope.now) c.args.es.now c.in-len2-up.len_at_least) r.ensures.known
