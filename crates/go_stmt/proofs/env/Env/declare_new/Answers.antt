use Rattle.std.proofs.Common.{◌≡◌, true, false, sym, ap, ◌∙◌}
use Rattle.std.specs.Option.{option_map}
use Rattle.go_scope.specs.Scopes.{is_own, is_blank}
use Rattle.go_types.specs.Views.{go_type}
use Rattle.go_stmt.proofs.Declaring.{mapped_ok, kept_own, new_one}
use Rattle.go_stmt.proofs.env.Env.declare_new.Goals as goal

pub returns-then-is_own : goal.returns-then-is_own
returns-then-is_own c =
    let names = c.args.self.now.names in
    let other : is_blank c.args.name.now.text ≡ false = ap is_blank (sym c.text.ensures) ∙ sym c.eq.ensures ∙ c.if-eq.false in
    let own : is_own names c.args.name.now.text ≡ true = ap (is_own names) (sym c.text-2.ensures) ∙ sym c.is_own.ensures ∙ c.if-is_own.true in
    kept_own names c.args.self.now.types.items c.args.name.now (option_map go_type c.args.of) other own

pub returns : goal.returns
returns c =
    let names = c.args.self.now.names in
    let n = c.args.name.now in
    let other : is_blank n.text ≡ false = ap is_blank (sym c.text.ensures) ∙ sym c.eq.ensures ∙ c.if-eq.false in
    let own : is_own names n.text ≡ false = ap (is_own names) (sym c.text-2.ensures) ∙ sym c.is_own.ensures ∙ c.if-is_own.false in
    mapped_ok c.declare_variable.result (λ h. h ∙ new_one names c.args.self.now.types.items n (option_map go_type c.args.of) other own) c.declare_variable.ensures
