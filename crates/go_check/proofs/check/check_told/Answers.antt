use Rattle.std.proofs.Common.{List, map, Err, sym, ap, ◌∙◌, subst}
use Rattle.std.specs.Arc.{arc_value}
use Rattle.std.specs.Borrow.{Bor}
use Rattle.go_ast.specs.declared.file.File.{File}
use Rattle.go_check.specs.Names.{importable_by}
use Rattle.go_package.specs.Views.{files_of, importables_of}
use Rattle.go_check.specs.Checked.{AreTrees}
use Rattle.go_check.proofs.Answered.{within, fault_by}
use Rattle.go_check.proofs.check.check_told.Goals as goal

pub fault_in-requires : goal.fault_in-requires
fault_in-requires c =
    let at = c.in-Err-Faulty in
    let parse = subst (λ (fs : List (Bor File)). AreTrees c.args.files.now (files_of fs)) (sym c.deref-3.ensures.value) c.in_ok-trees.ensures in
    let are = ap importables_of c.deref-4.ensures.value ∙ c.in_ok-packages.ensures in
    let told = c.typed.ensures.faulty at.number at.place at.kind (at.is ∙ ap Err at.field-0-is) in
    within c.args.path.now c.args.files.now (map importable_by (map arc_value c.args.imports.now)) (importables_of c.deref-4.result.now) (files_of c.deref-3.result.now) parse are
    c.edition_of.result (at.number, (at.place, at.kind)) c.edition_of.ensures told

pub returns-in-Err-Faulty : goal.returns-in-Err-Faulty
returns-in-Err-Faulty c =
    let at = c.in-Err-Faulty in
    let parse = subst (λ (fs : List (Bor File)). AreTrees c.args.files.now (files_of fs)) (sym c.deref-3.ensures.value) c.in_ok-trees.ensures in
    let are = ap importables_of c.deref-4.ensures.value ∙ c.in_ok-packages.ensures in
    let told = c.typed.ensures.faulty at.number at.place at.kind (at.is ∙ ap Err at.field-0-is) in
    fault_by c.args.path.now c.args.files.now (map importable_by (map arc_value c.args.imports.now)) (importables_of c.deref-4.result.now) (files_of c.deref-3.result.now) parse are
    c.edition_of.result at.number at.place at.kind c.in_ok-fault-in-Err-Faulty.fault c.edition_of.ensures told c.in_ok-fault-in-Err-Faulty.ensures
