use Rattle.go_packed.specs.Reading.{read_variable, read_many}
use Rattle.go_packed.proofs.Many.{one_more}
use Rattle.go_packed.proofs.source.Source.variables.Goals as goal

pub loop-done-preserved : goal.loop-done-preserved
loop-done-preserved c =
    one_more read_variable c.number-count.result c.loop-done.done c.loop-done.variables.items c.push.new.self.items c.loop-done.self c.variable.new.self c.in_ok-variable.field-0
    (read_many read_variable c.number-count.result c.number-count.new.self) c.loop-done-test.true c.loop-done.invariant c.in_ok-variable.ensures c.in_ok-push.ensures.items
