use Rattle.std.proofs.Common.{◌≡◌, ◌≤◌, List, map}
use Rattle.go_ast.specs.Trees as trees
use Rattle.go_ast.specs.Machine.{Reader, more_exprs, run_parser}
use Rattle.go_ast.specs.Views.{expr_of}
use Rattle.go_pexpr.specs.Reads.{left, size}
use Rattle.go_pexpr.proofs.parser.Parser.more_exprs.Given as goal

abbrev pub invariant-exprs : goal.invariant-exprs
invariant-exprs l = record {
  reads : (next : List trees.Expression → Reader) → run_parser l.fn.self.edition 250 (more_exprs l.header l.level (map expr_of l.fn.front.items) next) (left l.fn.self) ≡ run_parser l.self.edition 250 (more_exprs l.header l.level (map expr_of l.exprs.items) next) (left l.self);
  no_longer : size l.self ≤ size l.fn.self;
}

abbrev pub decreases-exprs : goal.decreases-exprs
decreases-exprs l = size l.self
