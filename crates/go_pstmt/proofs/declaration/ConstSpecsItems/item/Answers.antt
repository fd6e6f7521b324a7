use Rattle.std.proofs.Common.{[], ◌∷◌, ◌++◌, refl}
use Rattle.go_ast.specs.Trees as trees
use Rattle.go_ast.specs.Expected.{another}
use Rattle.go_ast.specs.Machine.{list_end, names, const_rest, const_specs}
use Rattle.go_pexpr.specs.Reads.{left}
use Rattle.go_pexpr.proofs.ListTurns.{list_item}
use Rattle.go_pstmt.proofs.Reading.{then_reads}
use Rattle.go_pstmt.proofs.declaration.ConstSpecsItems.item.Goals as goal

pub returns-clause-reads : goal.returns-clause-reads
returns-clause-reads c = λ front next.
    let l = c.args.self.now.level in
    let behind = λ (s : trees.ConstSpec). list_end (const_specs l) another (front ++ s ∷ []) next in
    then_reads (list_item c.args.parser.now.edition (const_specs l) front next (names 0 (const_rest l behind)) (left c.args.parser.now) (λ t. refl) refl c.requires.some) (c.const_spec.ensures.reads behind)
