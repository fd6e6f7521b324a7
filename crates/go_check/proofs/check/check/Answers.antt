use Rattle.std.proofs.Common.{map}
use Rattle.std.specs.Arc.{arc_value}
use Rattle.go_check.specs.Names.{importable_by}
use Rattle.go_check.proofs.Answered.{typed_told}
use Rattle.go_check.proofs.check.check.Goals as goal

pub returns-clause-typed : goal.returns-clause-typed
returns-clause-typed c = typed_told c.args.path.now c.args.files.now (map importable_by (map arc_value c.args.imports.now)) c.check_told.result c.check_told.ensures
