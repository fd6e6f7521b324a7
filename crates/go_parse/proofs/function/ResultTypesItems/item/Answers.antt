use Rattle.std.proofs.Common.{[], ◌∷◌, ◌++◌, refl}
use Rattle.go_ast.specs.Trees as trees
use Rattle.go_ast.specs.Expected.{a_result_end, a_type}
use Rattle.go_ast.specs.Machine.{list_end, type, results}
use Rattle.go_pexpr.specs.Reads.{left}
use Rattle.go_pexpr.proofs.ListTurns.{list_item}
use Rattle.go_pstmt.proofs.Reading.{then_reads}
use Rattle.go_parse.proofs.function.ResultTypesItems.item.Goals as goal

pub returns-clause-reads : goal.returns-clause-reads
returns-clause-reads c = λ front next.
    let behind = λ (s : trees.TypeExpr). list_end results a_result_end (front ++ s ∷ []) next in
    then_reads (list_item c.args.parser.now.edition results front next (type 1 a_type behind) (left c.args.parser.now) (λ t. refl) refl c.requires.some) (c.type_from.ensures.reads behind)
