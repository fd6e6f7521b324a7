use Rattle.std.proofs.Common.{◌≡◌, List, [], map}
use Rattle.go_ast.specs.Trees as trees
use Rattle.go_ast.specs.Machine.{decls_at, run_parser}
use Rattle.go_ast.specs.Views.{top_of}
use Rattle.go_pexpr.specs.Reads.{left, size}
use Rattle.go_parse.proofs.file.declarations.Given as goal

abbrev pub invariant-declarations : goal.invariant-declarations
invariant-declarations l = record {
  reads : (p : trees.Name) (is : List trees.ImportSpec) → run_parser l.initial.parser.edition 250 (decls_at p is []) (left l.initial.parser) ≡ run_parser l.parser.edition 250 (decls_at p is (map top_of l.declarations.items)) (left l.parser);
}

abbrev pub decreases-declarations : goal.decreases-declarations
decreases-declarations l = size l.parser
