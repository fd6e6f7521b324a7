use Rattle.go_types.specs.Views.{go_type}
use Rattle.go_gen.proofs.Found.{field_some, field_none}
use Rattle.go_gen.proofs.assignment.field_at.Goals as goal

pub returns-then-number-fields : goal.returns-then-number-fields
returns-then-number-fields c = field_some c.args.fields.now c.args.number (go_type c.args.other.now) c.index-fields-number.result c.if-number-fields.true

pub returns-else-number-fields : goal.returns-else-number-fields
returns-else-number-fields c = field_none c.args.fields.now c.args.number (go_type c.args.other.now) c.if-number-fields.false
