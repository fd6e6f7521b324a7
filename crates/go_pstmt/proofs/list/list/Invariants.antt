use Rattle.std.proofs.Common.{◌≡◌, ◌≤◌, List, [], map}
use Rattle.go_ast.specs.Grammar.{Lexeme}
use Rattle.go_ast.specs.Machine.{Reader, Item, list_start, run_parser}
use Rattle.go_pexpr.specs.Reads.{left, size}
use Rattle.go_pstmt.proofs.list.list.Given as goal

-- what was read so far
abbrev pub invariant-nodes : goal.invariant-nodes
invariant-nodes g l =
    let k = g.L.Items.kind l.items in
    record {
      reads : (next : List (Item k) → Lexeme → Reader) → run_parser l.fn.parser.edition 250 (list_start k [] next) (left l.fn.parser) ≡ run_parser l.parser.edition 250 (list_start k (map (g.L.Items.seen l.items) l.nodes.items) next) (left l.parser);
      shorter : size l.parser ≤ size l.fn.parser;
    }

abbrev pub decreases-nodes : goal.decreases-nodes
decreases-nodes g l = size l.parser
