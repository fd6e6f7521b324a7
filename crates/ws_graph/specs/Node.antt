-- What a plan is, of what the code keeps.
use Rattle.std.specs.Prelude.{string_bytes}
use Rattle.ws_graph.specs.Plan.{Planned, Faulty, Sound}
use Rattle.ws_graph.specs.BuildPlan as plan
use Rattle.ws_graph.specs.declared.planned.Node.{Node}
use Rattle.ws_graph.specs.declared.planned.Node.TheVariants as node
use Rattle.ws_graph.specs.declared.planning.Directory.{Directory}

abbrev pub planned_of : Node → Planned
planned_of (node.Faulty fault) = Faulty fault
planned_of (node.Sound parsed) = Sound parsed.items

abbrev pub directory_of : Directory → plan.Directory
directory_of d = record { path = string_bytes d.path; planned = planned_of d.node; imports = d.imports.items }
