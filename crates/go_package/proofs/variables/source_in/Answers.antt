use Rattle.std.proofs.Common.{◌≡◌, ◌++◌, Option, None, List, sym, ap, ◌∙◌, subst}
use Rattle.std.specs.Prelude.{is_some}
use Rattle.std.specs.List.{slice_get, flat_map}
use Rattle.std.specs.Option.{option_map}
use Rattle.go_ast.specs.Trees.{Name}
use Rattle.go_ast.specs.Views.{var_of}
use Rattle.go_types.specs.Types.{Type'}
use Rattle.go_types.specs.Views.{go_type}
use Rattle.go_expr.specs.Known.{Names}
use Rattle.go_scope.specs.Names.{in_exprs}
use Rattle.go_expr.specs.Verdicts.{both, asked_both, broken}
use Rattle.go_expr.specs.Views.{scope_of, names_of}
use Rattle.go_stmt.specs.Rules.{AssignedValues, variables_source}
use Rattle.go_stmt.specs.Statements.{values_known}
use Rattle.go_stmt.specs.Views.{values_seen}
use Rattle.go_objects.specs.Objects.{variables_of}
use Rattle.go_objects.specs.Table.{PackageTable, in_written, scope_at}
use Rattle.go_package.specs.Faults.{Faults, name_faults, written_type, apart}
use Rattle.go_package.specs.Views.{facts_of, Finds}
use Rattle.go_package.proofs.Parts.{checked_variables}
use Rattle.go_package.proofs.Sources.{nameless, from_parts}
use Rattle.go_package.proofs.variables.source_in.Goals as goal

pub returns-in_default-clause-initializations : goal.returns-in_default-clause-initializations
returns-in_default-clause-initializations c = λ files.
    let spec = var_of c.args.spec.now in
    nameless (facts_of c.args.facts.now) files c.args.file spec.names spec.type spec.values (rw c.deref.ensures.value at c.in_default.ensures.value)

pub returns-clause-initializations : goal.returns-clause-initializations
returns-clause-initializations c = λ files.
    let t = facts_of c.args.facts.now in
    let spec = var_of c.args.spec.now in
    let parts = c.in_ok-parts.parts in
    let stands =
    c.scope_in-scope.ensures
    ∙ ap (λ (x : PackageTable). scope_at x (names_of c.known.result.now) c.args.file None) c.package.ensures
    ∙ ap (λ (k : Names). scope_at t.package k c.args.file None) c.known.ensures in
    from_parts c.check_whole.result t files c.args.file spec (scope_of c.scope_in-scope.result) (option_map (option_map go_type) parts.of) (option_map values_seen parts.values)
    stands c.in_ok-parts.ensures.of c.in_ok-parts.ensures.values c.check_whole.ensures.source

pub returns-clause-faults : goal.returns-clause-faults
returns-clause-faults c =
    let t = facts_of c.args.facts.now in
    let spec = var_of c.args.spec.now in
    let s = scope_of c.scope_in-scope.result in
    let p = c.place.result in
    let stands : s ≡ scope_at t.package t.known c.args.file None =
    c.scope_in-scope.ensures
    ∙ ap (λ (x : PackageTable). scope_at x (names_of c.known.result.now) c.args.file None) c.package.ensures
    ∙ ap (λ (k : Names). scope_at t.package k c.args.file None) c.known.ensures in
    let ns = spec.names in
    let parts = c.in_ok-parts.parts in
    let of_is : option_map (option_map go_type) parts.of ≡ written_type s spec.type = c.in_ok-parts.ensures.of in
    let values_are : option_map values_seen parts.values ≡ values_known s spec.values = c.in_ok-parts.ensures.values in
    let us = in_written spec.type ++ in_exprs spec.values in
    let os = variables_of c.args.file spec in
    let whole = λ (o : Option (Option Type')) (v : Option AssignedValues). broken p (asked_both (variables_source ns) o v) ++ apart t c.args.file p (is_some (both o v)) us os in
    let seen : whole (option_map (option_map go_type) parts.of) (option_map values_seen parts.values) ≡ whole (written_type s spec.type) (values_known s spec.values) =
    ap (λ (o : Option (Option Type')). whole o (option_map values_seen parts.values)) of_is
    ∙ ap (λ (v : Option AssignedValues). whole (written_type s spec.type) v) values_are in
    checked_variables c.check_whole.result t c.args.file ns spec.type spec.values s c.in-Some.first.now p
    (ap (λ (l : List Name). slice_get l 0) (sym c.deref.ensures.value) ∙ sym c.in-Some.ensures.value) c.place.ensures stands
    (ap (λ (l : List Name). flat_map (name_faults t c.args.file) l) (sym c.deref-2.ensures.value) ∙ c.in_ok-check_names.ensures) c.in_ok-parts.ensures.faults
    (subst (λ (l : Faults). Finds c.check_whole.result l) seen c.check_whole.ensures.faults)
