use Rattle.go_expr.specs.Views.{scope_of}
use Rattle.go_objects.specs.Packages.{package_of}
use Rattle.go_objects.proofs.Standing.{stands}
use Rattle.go_objects.proofs.evaluation.scope_in.Goals as goal

pub returns : goal.returns
returns c = stands (package_of c.args.package.now) c.imports_at.result.now c.args.known.now c.args.file c.args.iota (scope_of c.new.result) c.new.ensures c.imports_at.ensures
