use Rattle.std.proofs.Common.{◌≡◌, ◌++◌, List, OnOk, map, length, sym, subst}
use Rattle.go_objects.specs.Objects.{DeclaredObject}
use Rattle.go_objects.specs.Views.{object_view, spec_of}
use Rattle.go_objects.proofs.Pairs.{constants_unpaired}
use Rattle.go_objects.proofs.declarations.add_constants.Goals as goal

pub returns-else-spec : goal.returns-else-spec
returns-else-spec c =
    let names = c.args.spec.names.now in
    let values = c.args.spec.values.now in
    let differ : length names ≡ length values → ⊥ = c.if-spec.false in
    subst (λ (l : List DeclaredObject). OnOk c.add_unpaired.result (map object_view c.add_unpaired.new.found.items ≡ map object_view c.args.found.now.items ++ l))
    (sym (constants_unpaired c.args.file c.args.iota names (spec_of c.args.spec).type values differ)) c.add_unpaired.ensures
