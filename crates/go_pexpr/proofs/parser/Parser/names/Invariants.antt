use Rattle.std.proofs.Common.{◌≡◌, ◌<◌, ◌≤◌, List}
use Rattle.go_ast.specs.Trees as trees
use Rattle.go_ast.specs.Machine.{Reader, names, more_names, run_parser}
use Rattle.go_pexpr.specs.Reads.{left, size}
use Rattle.go_pexpr.proofs.parser.Parser.names.Given as goal

abbrev pub invariant-names : goal.invariant-names
invariant-names l = record {
  reads : (next : List trees.Name → Reader) → run_parser l.fn.self.edition 250 (names l.need next) (left l.fn.self) ≡ run_parser l.self.edition 250 (more_names l.names.items next) (left l.self);
  fits : l.need ≤ 250;
  shorter : size l.self < size l.fn.self;
}

abbrev pub decreases-names : goal.decreases-names
decreases-names l = size l.self
