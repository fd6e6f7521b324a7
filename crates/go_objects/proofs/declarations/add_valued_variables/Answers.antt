use Rattle.std.proofs.Common.{◌≡◌, ◌++◌, List, OnOk, map, sym, subst}
use Rattle.go_objects.specs.Objects.{DeclaredObject}
use Rattle.go_objects.specs.Views.{object_view}
use Rattle.go_objects.proofs.Pairs.{variables_unpaired}
use Rattle.go_objects.proofs.declarations.add_valued_variables.Goals as goal

pub returns-else-names-values : goal.returns-else-names-values
returns-else-names-values c =
    let names = c.args.names.now in
    let values = c.args.values.now in
    subst (λ (l : List DeclaredObject). OnOk c.add_uncounted.result (map object_view c.add_uncounted.new.found.items ≡ map object_view c.args.found.now.items ++ l))
    (sym (variables_unpaired c.args.file names values c.if-names-values.false)) c.add_uncounted.ensures
