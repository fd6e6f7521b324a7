use Rattle.std.proofs.Common.{List, map, refl, rules, sym, subst}
use Rattle.std.specs.Prelude.{String}
use Rattle.std.specs.Global.{Global}
use Rattle.ws_graph.specs.BuildPlan.{Directory, IsJointPlanFor, SomeHasNoFiles}
use Rattle.ws_graph.specs.Discovery.{string_texts}
use Rattle.ws_graph.specs.Node.{directory_of}
use Rattle.ws_replica.proofs.plan.planned.Goals as goal

pub returns-clause-ok : goal.returns-clause-ok
returns-clause-ok g c =
    let edition = c.args.edition in
    let registers = c.args.registers.now in
    let ds : List Directory = map directory_of c.in_ok-plan.plan.directories.items in
    record {
      is_in = refl;
      of = refl;
      planned = subst (IsJointPlanFor edition registers (string_texts c.args.targets.items)) (sym c.in_ok-directories.ensures)
          (subst (λ (ts : List (String Global)). IsJointPlanFor edition registers (string_texts ts) ds) c.as_slice.ensures.value c.in_ok-plan.ensures.ok);
      files = λ W stands. c.see_files.ensures W stands;
    }

pub returns-in_err-plan-clause-none : goal.returns-in_err-plan-clause-none
returns-in_err-plan-clause-none g c is W stands =
    subst (λ (ts : List (String Global)). SomeHasNoFiles c.args.edition W (string_texts ts)) c.as_slice.ensures.value (c.in_err-plan.ensures.none W stands (search rules))
