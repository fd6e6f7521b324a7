use Rattle.std.proofs.Common.{◌≡◌, ◌++◌, ◌∷◌, List, map, drop, length, sym, ap, ◌∙◌, arith}
use Rattle.std.proofs.lemmas.List.{append-nil, length_push}
use Rattle.std.proofs.lemmas.Slice.Zip.{zip_turn, zip_end}
use Rattle.go_text.specs.declared.place.Place.{Place}
use Rattle.go_ast.specs.Trees.{Name, Expression}
use Rattle.go_ast.specs.Views.{expr_of}
use Rattle.go_objects.specs.Objects.{DeclaredObject, begin_of, constant}
use Rattle.go_objects.specs.Views.{object_view, spec_of}
use Rattle.go_objects.proofs.Pairs.{pairs, pairs_next, pairs_done, pushed, constants_paired}
use Rattle.go_objects.proofs.declarations.add_paired_constants.Goals as goal

pub loop-name-preserved : goal.loop-name-preserved
loop-name-preserved c =
    let names = c.args.spec.names.now in
    let values = c.args.spec.values.now in
    let form : Name → Expression → DeclaredObject = λ n e. record { file = c.args.file; begins = begin_of names n; name = n; form = constant (spec_of c.args.spec).type e c.args.iota } in
    let k = length c.loop-name.yielded in
    let turn = zip_turn names values c.loop-name.yielded c.into_iter-name-iterator.result c.loop-name.name-iterator c.next.new.self c.next.result (cc) (cc) c.loop-name.yielded_by (c.in-Some.name, c.in-Some.value) c.in-Some.is c.next.ensures.steps in
    let begins : Place → DeclaredObject = λ p. record { file = c.args.file; begins = p; name = c.in-Some.name.now; form = constant (spec_of c.args.spec).type (expr_of c.in-Some.value.now) c.args.iota } in
    let begun = ap begins c.begin_of.ensures in
    pushed c.loop-name.found.items c.push.new.self.items _ (form c.in-Some.name.now (expr_of c.in-Some.value.now)) (pairs form (drop k names) (drop k values)) _ _ c.in_ok-push.ensures.items begun
    (pairs_next form names values k c.in-Some.name.now c.in-Some.value.now turn.0 turn.1 (turn.2 _) (turn.3 _)
    ∙ ap (λ i. form c.in-Some.name.now (expr_of c.in-Some.value.now) ∷ pairs form (drop i names) (drop i values)) (sym (length_push c.loop-name.yielded (c.in-Some.name, c.in-Some.value))))
    c.loop-name.invariant

pub returns : goal.returns
returns c =
    let names = c.args.spec.names.now in
    let values = c.args.spec.values.now in
    let form : Name → Expression → DeclaredObject = λ n e. record { file = c.args.file; begins = begin_of names n; name = n; form = constant (spec_of c.args.spec).type e c.args.iota } in
    let finish = zip_end names values c.loop-name.yielded c.into_iter-name-iterator.result c.loop-name.name-iterator c.next.new.self c.next.result (cc) (cc) c.loop-name.yielded_by c.in-None.is c.next.ensures.steps in
    let all : length names ≡ length c.loop-name.yielded = omega (arith, finish, c.requires) in
    let old = map object_view c.args.found.now.items in
    sym (append-nil (map object_view c.loop-name.found.items))
    ∙ ap (λ (l : List DeclaredObject). map object_view c.loop-name.found.items ++ l) (sym (pairs_done form names values (length c.loop-name.yielded) all))
    ∙ c.loop-name.invariant
    ∙ ap (λ (l : List DeclaredObject). old ++ l) (sym (constants_paired c.args.file c.args.iota names (spec_of c.args.spec).type values c.requires))
