use Rattle.std.proofs.Common.{[], subst, arith}
use Rattle.go_vm.specs.Ahead.{PlusOrLeaves}
use Rattle.go_vm.specs.Flows.{state_of}
use Rattle.go_vm.specs.declared.machine.World.{World}
use Rattle.go_vm.proofs.Coming.{comes_out}
use Rattle.go_vm.proofs.Lifting.{reaches_leads, reaches_less}
use Rattle.go_vm.proofs.Together.{comes_leads, comes_less}
use Rattle.go_vm.proofs.run.finish.Goals as goal

pub loop-pace-smaller : goal.loop-pace-smaller
loop-pace-smaller c =
    let image = c.args.image.now in
    let w : World = c.run_flat.new.world in
    omega (
      arith,
      reaches_less image (state_of c.loop-pace.frames [] c.loop-pace.world) (state_of c.run_flat.new.frames [] w) (c.in_ok-run_flat.ensures []),
      comes_less image (state_of c.run_flat.new.frames [] w) (state_of c.advance.new.frames [] c.advance.new.world)
          (subst (λ flow. PlusOrLeaves image (state_of c.run_flat.new.frames [] w) flow (state_of c.advance.new.frames [] c.advance.new.world)) c.in-GoesOn.is (c.in_ok-advance.ensures [])),
    )

pub loop-pace-preserved : goal.loop-pace-preserved
loop-pace-preserved c = λ starts final l.
    let image = c.args.image.now in
    let w : World = c.run_flat.new.world in
    c.loop-pace.invariant starts final
    (reaches_leads image (state_of c.loop-pace.frames starts c.loop-pace.world) (state_of c.run_flat.new.frames starts w) final (c.in_ok-run_flat.ensures starts)
    (comes_leads image (state_of c.run_flat.new.frames starts w) (state_of c.advance.new.frames starts c.advance.new.world) final
    (subst (λ flow. PlusOrLeaves image (state_of c.run_flat.new.frames starts w) flow (state_of c.advance.new.frames starts c.advance.new.world)) c.in-GoesOn.is (c.in_ok-advance.ensures starts)) l))

pub returns-in-Leaves : goal.returns-in-Leaves
returns-in-Leaves c = λ starts final l.
    let image = c.args.image.now in
    let w : World = c.run_flat.new.world in
    c.loop-pace.invariant starts final
    (reaches_leads image (state_of c.loop-pace.frames starts c.loop-pace.world) (state_of c.run_flat.new.frames starts w) final (c.in_ok-run_flat.ensures starts)
    (comes_out image (state_of c.run_flat.new.frames starts w) c.in-Leaves.exit c.advance.new.frames starts c.advance.new.world
    (subst (λ flow. PlusOrLeaves image (state_of c.run_flat.new.frames starts w) flow (state_of c.advance.new.frames starts c.advance.new.world)) c.in-Leaves.is (c.in_ok-advance.ensures starts)) final l))
