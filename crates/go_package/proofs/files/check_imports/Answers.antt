use Rattle.std.proofs.Common.{◌≡◌, ℕ, ◌+◌, ◌<◌, List, [], length, map, drop, ap, ◌∙◌, sym, subst, is_some, arith}
use Rattle.std.specs.Prelude.{bytes_eq}
use Rattle.std.specs.Option.{option_map}
use Rattle.std.proofs.lemmas.Result.{err_from_is_err_and}
use Rattle.go_scope.proofs.Indexes.{is_some_position}
use Rattle.go_ast.specs.Views.{file_of, import_of}
use Rattle.go_package.specs.Views.{facts_of, importable_view, imported_of}
use Rattle.go_package.proofs.Dotted.{is_referred}
use Rattle.go_package.specs.Imports.{imports_in}
use Rattle.go_package.specs.Packages.{imports_faults}
use Rattle.go_package.proofs.Several.{imports_here, imports_later}
use Rattle.go_package.proofs.files.check_imports.Goals as goal

pub returns-in_err-check_import : goal.returns-in_err-check_import
returns-in_err-check_import c =
    let specs = c.args.file.now.imports.items in
    let same : c.deref-spec-items.result.now ≡ specs = c.deref-spec-items.ensures.value in
    let before : c.loop-spec.spec-index < length c.deref-spec-items.result.now = omega arith in
    let within = rw same at before in
    let item = rw same at c.spec-item.is in
    let invariant = rw same at c.loop-spec.invariant in
    let p = err_from_is_err_and c.from_residual-in_err-check_import.result c.from_residual-in_err-check_import.ensures.1 in
    let x = c.in-Some.imported in
    let found = sym c.declared_by.ensures ∙ ap (option_map imported_of) c.in-Some.is in
    let file = file_of c.args.file.now in
    let doubled = c.is_some-doubled.ensures ∙ ap is_some c.in_ok-insert.ensures.first ∙ is_some_position (bytes_eq x.import.name.now) c.loop-spec.before in
    let refers = c.is_some-refers.ensures ∙ ap is_some c.get.ensures ∙ is_referred x.import.name.now c.args.used.now file c.requires in
    let fails = c.in_err-check_import.ensures file c.loop-spec.before doubled refers in
    rw (p.1, p.2) (imports_here (facts_of c.args.facts.now) file c.loop-spec.before (map importable_view c.args.packages.now.all.now) specs c.loop-spec.spec-index c.spec-item.result
    (imported_of x) c.in_err-check_import.field-0.0 _ within item found invariant fails)

pub loop-spec-preserved : goal.loop-spec-preserved
loop-spec-preserved c =
    let specs = c.deref-spec-items.result.now in
    let within : c.loop-spec.spec-index < length specs = omega arith in
    let x = c.in-Some.imported in
    let found = sym c.declared_by.ensures ∙ ap (option_map imported_of) c.in-Some.is in
    let t = facts_of c.args.facts.now in
    let file = file_of c.args.file.now in
    let ps = map importable_view c.args.packages.now.all.now in
    let before = c.loop-spec.before in
    let doubled = c.is_some-doubled.ensures ∙ ap is_some c.in_ok-insert.ensures.first ∙ is_some_position (bytes_eq x.import.name.now) before in
    let refers = c.is_some-refers.ensures ∙ ap is_some c.get.ensures ∙ is_referred x.import.name.now c.args.used.now file c.requires in
    let none = c.in_ok-check_import.ensures file before doubled refers in
    let rest = imports_in ps (map import_of (drop (c.loop-spec.spec-index + 1) specs)) in
    subst (λ (ns : List (List ℕ)). imports_faults t file ns rest ≡ imports_faults t file [] (imports_in ps (map import_of specs))) (sym c.in_ok-insert.ensures.ok)
    (imports_later t file before ps specs c.loop-spec.spec-index c.spec-item.result (imported_of x) _ within c.spec-item.is found c.loop-spec.invariant none)
