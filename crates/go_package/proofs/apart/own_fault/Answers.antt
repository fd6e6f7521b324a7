use Rattle.go_objects.proofs.Silence.{first_fault}
use Rattle.go_objects.specs.Views.{object_view}
use Rattle.go_package.specs.Faults.{object_faults}
use Rattle.go_package.specs.Views.{facts_of}
use Rattle.go_package.proofs.Single.{own_least}
use Rattle.go_package.proofs.apart.own_fault.Goals as goal

pub returns-in-Err-Faulty : goal.returns-in-Err-Faulty
returns-in-Err-Faulty c =
    let t = facts_of c.args.facts.now in
    let o = object_view c.args.object.now in
    let err = c.in-Err-Faulty in
    let first = first_fault err.field-0 err.field-0-0 err.kind (object_faults t o) err.field-0-is err.ensures in
    own_least t o err.field-0-0 err.kind first.0 first.1
