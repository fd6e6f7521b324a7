use Rattle.std.proofs.Common.{◌≡◌, Some, None, Option, List, length, arith, sym, ap, ◌∙◌, subst}
use Rattle.std.specs.Prelude.{OnOk}
use Rattle.std.specs.Option.{option_map}
use Rattle.go_scope.specs.Scopes.{declare}
use Rattle.go_types.specs.Views.{go_type}
use Rattle.go_types.specs.declared.types.GoType.{GoType}
use Rattle.go_expr.specs.declared.known.Declared.TheVariants.{Local}
use Rattle.go_stmt.specs.Scopes.{declare_variable}
use Rattle.go_stmt.proofs.Declaring.{shown, mapped_ok, new_unknown, new_variable}
use Rattle.go_stmt.proofs.env.Env.declare_variable.Goals as goal

pub returns-in-None : goal.returns-in-None
returns-in-None c =
    let names = c.args.self.now.names in
    let types = c.args.self.now.types.items in
    let x = c.args.name.now.text in
    mapped_ok c.declared.result
    (λ h. (let new : c.declare.new.self ≡ declare names x None = subst (λ r. OnOk r (c.declare.new.self ≡ declare names c.text.result.now None)) h c.declare.ensures.ok ∙ ap (λ x. declare names x None) c.text.ensures in
    new_unknown names c.declare.new.self types x new
    ∙ ap (λ (o : Option GoType). declare_variable x (option_map go_type o) (shown names types)) (sym c.in-None.is)))
    c.declared.ensures

pub returns-in_ok-push-in-Some : goal.returns-in_ok-push-in-Some
returns-in_ok-push-in-Some c =
    let names = c.args.self.now.names in
    let types = c.args.self.now.types.items in
    let x = c.args.name.now.text in
    let of = c.in-Some.of in
    let copy = c.in_ok-copy-in-Some.field-0 in
    let there = c.declare-in-Some.new.self in
    let known : c.args.self.now.types.len ≡ length types = omega (arith, c.args.self.now.types.ok.0) in
    let size : c.len.result ≡ length types = c.len.ensures ∙ known in
    mapped_ok c.declared-in-Some.result
    (λ h. (let new : there ≡ declare names x (Some (Local copy (length types))) =
    subst (λ r. OnOk r (there ≡ declare names c.text-in-Some.result.now (Some (Local copy c.len.result)))) h c.declare-in-Some.ensures.ok
    ∙ ap (λ x. declare names x (Some (Local copy c.len.result))) c.text-in-Some.ensures
    ∙ ap (λ k. declare names x (Some (Local copy k))) size in
    ap (λ (l : List GoType). shown there l) c.in_ok-push-in-Some.ensures.items
    ∙ new_variable names there types x of copy c.in_ok-copy-in-Some.ensures new
    ∙ ap (λ (o : Option GoType). declare_variable x (option_map go_type o) (shown names types)) (sym c.in-Some.is)))
    c.declared-in-Some.ensures
