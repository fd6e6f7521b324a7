use Rattle.std.proofs.Common.{◌≡◌, Vec, Global, drop, length, map, sym, ap, ◌∙◌}
use Rattle.std.proofs.lemmas.List.{drop-map, length-map}
use Rattle.std.proofs.lemmas.Result.{IfOk-weaker}
use Rattle.go_types.specs.Views.{go_type}
use Rattle.go_types.specs.declared.types.GoType.{GoType}
use Rattle.go_stmt.proofs.function.locals_of.Goals as goal

pub returns : goal.returns
returns c =
    let types = c.args.types.items in
    let ps = c.args.parameters.now in
    let n = length ps in
    IfOk-weaker c.behind.result (λ (v : Vec GoType Global). v.items ≡ drop n types) (λ (v : Vec GoType Global). map go_type v.items ≡ drop (length (map go_type ps)) (map go_type types))
    (λ v h. ap (map go_type) h ∙ sym (drop-map go_type n types) ∙ ap (λ k. drop k (map go_type types)) (sym (length-map ps go_type))) c.behind.ensures
