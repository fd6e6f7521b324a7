use Rattle.std.proofs.Common.{◌≡◌, ◌++◌, List, OnOk, map, sym, subst}
use Rattle.go_objects.specs.Objects.{DeclaredObject}
use Rattle.go_objects.specs.Views.{object_view}
use Rattle.go_objects.proofs.Pairs.{not_alone, alone}
use Rattle.go_objects.proofs.declarations.add_uncounted.Goals as goal

pub returns : goal.returns
returns c =
    subst (λ (l : List DeclaredObject). OnOk c.add_unpaired.result (map object_view c.add_unpaired.new.found.items ≡ map object_view c.args.found.now.items ++ l))
    (sym (not_alone c.args.file c.args.names.now c.args.values.now c.if-values-eq1.false)) c.add_unpaired.ensures

pub returns-then-values-eq1 : goal.returns-then-values-eq1
returns-then-values-eq1 c =
    subst (λ (l : List DeclaredObject). OnOk c.add_result_variables.result (map object_view c.add_result_variables.new.found.items ≡ map object_view c.args.found.now.items ++ l))
    (sym (alone c.args.file c.args.names.now c.args.values.now c.index-values-0.result c.if-values-eq1.true c.index-values-0.is)) c.add_result_variables.ensures
