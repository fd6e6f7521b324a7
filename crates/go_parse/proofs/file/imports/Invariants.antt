use Rattle.std.proofs.Common.{◌≡◌, ◌≤◌, List, [], map}
use Rattle.go_ast.specs.Trees as trees
use Rattle.go_ast.specs.Grammar.{concat}
use Rattle.go_ast.specs.Machine.{read_imports, run_parser}
use Rattle.go_ast.specs.Views.{import_of}
use Rattle.go_pexpr.specs.Reads.{left, size}
use Rattle.go_parse.proofs.file.imports.Given as goal

abbrev pub invariant-imports : goal.invariant-imports
invariant-imports l = record {
  reads : (iss : List (List trees.ImportSpec)) × (concat iss ≡ map import_of l.imports.items) × ((p : trees.Name) → run_parser l.initial.parser.edition 250 (read_imports p []) (left l.initial.parser) ≡ run_parser l.parser.edition 250 (read_imports p iss) (left l.parser));
  shorter : size l.parser ≤ size l.fn.parser;
}

abbrev pub decreases-imports : goal.decreases-imports
decreases-imports l = size l.parser
