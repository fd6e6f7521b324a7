use Rattle.go_objects.proofs.Filling.{one_table}
use Rattle.go_objects.proofs.law.law_one_table.Goals as goal

pub returns : goal.returns
returns c = one_table
