use Rattle.std.proofs.Common.{◌≡◌, Option, Some, List, sym, ap, ◌∙◌, subst}
use Rattle.std.specs.Option.{option_map}
use Rattle.go_text.specs.declared.place.Place.{Place}
use Rattle.go_types.specs.Types.{Type'}
use Rattle.go_types.specs.Views.{go_type}
use Rattle.go_expr.specs.Known.{Names}
use Rattle.go_typed.specs.Trees.{Expr}
use Rattle.go_typed.specs.Views.{as_expr}
use Rattle.go_expr.specs.Verdicts.{operand_list}
use Rattle.go_expr.specs.Views.{scope_of, names_of, all_of}
use Rattle.go_objects.specs.Table.{PackageTable, scope_at}
use Rattle.go_objects.specs.Views.{spec_of}
use Rattle.go_package.specs.Faults.{Faults, parts_faults, written_type, constants_by}
use Rattle.go_package.specs.Views.{facts_of, Finds}
use Rattle.go_package.proofs.Parts.{later, checked_spec}
use Rattle.go_package.proofs.Repeated.{parts_none}
use Rattle.go_package.proofs.constants.check_constants.Goals as goal

pub returns-in-Ok : goal.returns-in-Ok
returns-in-Ok c =
    let t = facts_of c.args.facts.now in
    let spec = c.args.spec in
    let whole_spec = spec_of spec in
    let s = scope_of c.scope_in-scope.result in
    let p = c.place.result in
    let stands : s ≡ scope_at t.package t.known c.args.file (Some c.args.iota) =
    c.scope_in-scope.ensures
    ∙ ap (λ (x : PackageTable). scope_at x (names_of c.known.result.now) c.args.file (Some c.args.iota)) c.package.ensures
    ∙ ap (λ (k : Names). scope_at t.package k c.args.file (Some c.args.iota)) c.known.ensures in
    let whole = λ (q : Place) (o : Option (Option Type')) (v : Option (List Expr)). constants_by t c.args.file c.args.iota q whole_spec o v in
    let parts = c.in-Ok.parts in
    let of = option_map (option_map go_type) parts.of in
    let values = option_map (all_of as_expr) parts.values in
    let seen : whole p of values ≡ whole p (written_type s whole_spec.type) (operand_list s whole_spec.values) =
    ap (λ (o : Option (Option Type')). whole p o values) c.in-Ok.ensures.of
    ∙ ap (λ (v : Option (List Expr)). whole p (written_type s whole_spec.type) v) c.in-Ok.ensures.values in
    checked_spec c.check_whole.result t c.args.file c.args.iota c.args.repeated whole_spec.names whole_spec.type whole_spec.values s c.in-Some.first.now p (sym c.in-Some.ensures.value) c.place.ensures stands
    c.in_ok-check_names.ensures
    (later c.check_whole.result (parts_faults t c.args.file c.args.repeated p s whole_spec) (whole p (written_type s whole_spec.type) (operand_list s whole_spec.values))
    (parts_none t c.args.file c.args.repeated p s whole_spec c.in-Ok.ensures.faults)
    (subst (λ (l : Faults). Finds c.check_whole.result l) seen c.check_whole.ensures))

pub returns-in-Err : goal.returns-in-Err
returns-in-Err c =
    let t = facts_of c.args.facts.now in
    let spec = c.args.spec in
    let whole_spec = spec_of spec in
    let s = scope_of c.scope_in-scope.result in
    let p = c.place-in-Err.result in
    let stands : s ≡ scope_at t.package t.known c.args.file (Some c.args.iota) =
    c.scope_in-scope.ensures
    ∙ ap (λ (x : PackageTable). scope_at x (names_of c.known.result.now) c.args.file (Some c.args.iota)) c.package.ensures
    ∙ ap (λ (k : Names). scope_at t.package k c.args.file (Some c.args.iota)) c.known.ensures in
    checked_spec c.check_faulty.result t c.args.file c.args.iota c.args.repeated whole_spec.names whole_spec.type whole_spec.values s c.in-Some.first.now p (sym c.in-Some.ensures.value) c.place-in-Err.ensures stands
    c.in_ok-check_names.ensures (c.check_faulty.ensures c.args.iota c.in-Err.ensures.faults)
