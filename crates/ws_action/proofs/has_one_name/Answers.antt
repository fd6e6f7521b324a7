use Rattle.std.proofs.Common.{rules, ◌≡◌, ◌<◌, ◌≤◌, ◌∷◌, length, arith, subst, List}
use Rattle.std.specs.List.{All}
use Rattle.go_ast.specs.Parse.{IsNamed}
use Rattle.ws_action.proofs.Naming.{named_more, named_all, have_one_name}
use Rattle.ws_action.proofs.has_one_name.Goals as goal

pub loop-file-preserved : goal.loop-file-preserved
loop-file-preserved c =
    let within : c.loop-file.file-index < length c.in-Some.rest.now = omega arith in
    named_more c.text-name.result.now c.in-Some.rest.now c.loop-file.file-index c.file-item.result within c.file-item.is c.loop-file.invariant c.if-not-is_named.ensures.named

pub returns-clause-named : goal.returns-clause-named
returns-clause-named c =
    let is : c.args.files.now ≡ c.in-Some.first.now ∷ c.in-Some.rest.now = search rules in
    let over : length c.in-Some.rest.now ≤ c.loop-file.file-index = omega arith in
    let named = named_all c.text-name.result.now c.in-Some.rest.now c.loop-file.file-index over c.loop-file.invariant in
    have_one_name c.args.files.now c.in-Some.first.now c.in-Some.rest.now c.package.result.now is c.package.ensures (subst (λ (n : List _). All (λ file. IsNamed file.edition n file.text) c.in-Some.rest.now) c.text-name.ensures named)
