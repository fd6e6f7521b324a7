use Rattle.std.proofs.Common.{rules, ◌-◌, [], ap, ◌∙◌}
use Rattle.go_code.specs.Machine.{State, Goes, call}
use Rattle.go_vm.specs.Flows.{machine_rows}
use Rattle.go_vm.proofs.Begun.{first_call}
use Rattle.go_vm.proofs.machine.begin_function.Goals as goal

pub returns : goal.returns
returns c = λ starts.
    let w = c.args.world.now in
    let edition = c.args.image.now.edition in
    let s : State = record { frames = []; starts = starts; globals = w.globals.items; rows = machine_rows w.rows.items; ticks = w.ticks; output = w.output.items } in
    ap (call edition s (λ rest. []) 1 []) c.in-Some.ensures
    ∙ first_call edition s c.in-Some.function.now (w.ticks - 1) (search rules) (search rules)
    ∙ ap Goes (search rules)
