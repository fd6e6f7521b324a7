use Rattle.std.proofs.Common.{◌≡◌, ◌<◌, true, length, sym, arith, string_bytes}
use Rattle.std.specs.Str.{bytes_eq}
use Rattle.go_expr.specs.Views.{typed_field}
use Rattle.go_expr.proofs.Numbers.{find_here}
use Rattle.go_expr.proofs.selector.field_named.Goals as goal

pub returns-then-eq : goal.returns-then-eq
returns-then-eq c =
    let fields = c.args.fields.now in
    let i = c.loop-number.number in
    let f = c.index-fields-number.result in
    let within : i < length fields = omega arith in
    let here : bytes_eq c.args.name.now (string_bytes f.name) ≡ true = cc in
    sym (find_here (λ f. bytes_eq c.args.name.now ((f.1).1).0) typed_field fields i f _ within c.index-fields-number.is here c.loop-number.invariant)
