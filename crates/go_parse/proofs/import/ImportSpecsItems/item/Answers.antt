use Rattle.std.proofs.Common.{[], ◌∷◌, ◌++◌, refl}
use Rattle.go_ast.specs.Trees as trees
use Rattle.go_ast.specs.Expected.{another}
use Rattle.go_ast.specs.Machine.{list_end, import_spec, import_specs}
use Rattle.go_pexpr.specs.Reads.{left}
use Rattle.go_pexpr.proofs.ListTurns.{list_item}
use Rattle.go_pstmt.proofs.Reading.{then_reads}
use Rattle.go_parse.proofs.import.ImportSpecsItems.item.Goals as goal

pub returns-clause-reads : goal.returns-clause-reads
returns-clause-reads c = λ front next.
    let behind = λ (s : trees.ImportSpec). list_end import_specs another (front ++ s ∷ []) next in
    then_reads (list_item c.args.parser.now.edition import_specs front next (import_spec behind) (left c.args.parser.now) (λ t. refl) refl c.requires.some) (c.import_spec.ensures.reads behind)
