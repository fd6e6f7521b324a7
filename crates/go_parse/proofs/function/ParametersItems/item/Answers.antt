use Rattle.std.proofs.Common.{[], ◌∷◌, ◌++◌, refl}
use Rattle.go_ast.specs.Trees as trees
use Rattle.go_ast.specs.Expected.{another}
use Rattle.go_ast.specs.Machine.{list_end, parameters}
use Rattle.go_parse.specs.Files.{parameter_item}
use Rattle.go_pexpr.specs.Reads.{left}
use Rattle.go_pexpr.proofs.ListTurns.{list_item}
use Rattle.go_pstmt.proofs.Reading.{then_reads}
use Rattle.go_parse.proofs.function.ParametersItems.item.Goals as goal

pub returns-clause-reads : goal.returns-clause-reads
returns-clause-reads c = λ front next.
    let behind = λ (s : trees.Parameter). list_end parameters another (front ++ s ∷ []) next in
    then_reads (list_item c.args.parser.now.edition parameters front next (parameter_item behind) (left c.args.parser.now) (λ t. refl) refl c.requires.some) (c.parameter.ensures.reads behind)
