use Rattle.std.proofs.Common.{◌≡◌, true, is_some, sym, ap, ◌∙◌}
use Rattle.std.specs.Map.{lookup}
use Rattle.std.specs.Str.{bytes_eq}
use Rattle.go_scope.specs.Scopes.{look_up}
use Rattle.go_stmt.proofs.Lookups.{own_found, own_missing}
use Rattle.go_stmt.proofs.env.Env.own.Goals as goal

pub returns-then-is_own : goal.returns-then-is_own
returns-then-is_own c =
    let env = c.args.self.now.names in
    let x = c.args.name.now.text in
    let own : is_some (lookup (bytes_eq x) env.inner) ≡ true = ap (λ t. is_some (lookup (bytes_eq t) env.inner)) (sym c.text.ensures) ∙ sym c.is_own.ensures ∙ c.if-is_own.true in
    own_found env x _ own (c.look_up.ensures ∙ ap (look_up env) c.text-then-is_own.ensures)

pub returns-else-is_own : goal.returns-else-is_own
returns-else-is_own c =
    let env = c.args.self.now.names in
    let x = c.args.name.now.text in
    own_missing env x (ap (λ t. is_some (lookup (bytes_eq t) env.inner)) (sym c.text.ensures) ∙ sym c.is_own.ensures ∙ c.if-is_own.false)
