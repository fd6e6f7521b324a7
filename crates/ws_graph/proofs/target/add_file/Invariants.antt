use Rattle.std.proofs.Common.{map, take}
use Rattle.go_ast.specs.Views.{import_of}
use Rattle.ws_graph.specs.BuildPlan.{directory_imports}
use Rattle.ws_graph.specs.Discovery.{AddsTargets, string_texts}
use Rattle.ws_graph.proofs.target.add_file.Given as goal

abbrev pub invariant-loop-spec : goal.invariant-loop-spec
invariant-loop-spec l = AddsTargets (string_texts l.all) (directory_imports l.name (map import_of (take l.spec-index l.spec-items))) l.fn.targets.items l.targets.items
