use Rattle.std.proofs.Common.{map, sym, ◌∙◌}
use Rattle.go_ast.specs.Views.{import_of, top_of}
use Rattle.go_ast.specs.Machine.{to_file, start}
use Rattle.go_pexpr.specs.Reads.{left}
use Rattle.go_parse.proofs.Files.{ends, refused_end, then_stops}
use Rattle.go_pstmt.proofs.Reading.{went}
use Rattle.go_parse.proofs.file.file.Goals as goal

pub returns-in_err-package-clause-err : goal.returns-in_err-package-clause-err
returns-in_err-package-clause-err c =
    then_stops start c.args.parser.now _ (went (c.in_ok-expect.ensures.reads _)) (c.in_err-package.ensures.reads _) c.from_residual-in_err-package.ensures.1

pub returns-in_err-expect-2-clause-err : goal.returns-in_err-expect-2-clause-err
returns-in_err-expect-2-clause-err c =
    then_stops start c.args.parser.now _ (went (c.in_ok-expect.ensures.reads _) ∙ went (c.in_ok-package.ensures.reads _)) (c.in_err-expect-2.ensures.reads _) c.from_residual-in_err-expect-2.ensures.1

pub returns-in_err-imports-clause-err : goal.returns-in_err-imports-clause-err
returns-in_err-imports-clause-err c =
    then_stops start c.args.parser.now _ (went (c.in_ok-expect.ensures.reads _) ∙ went (c.in_ok-package.ensures.reads _) ∙ went (c.in_ok-expect-2.ensures.reads _))
    (c.in_err-imports.ensures.reads c.in_ok-package.package) c.from_residual-in_err-imports.ensures.1

pub returns-in_err-declarations-clause-err : goal.returns-in_err-declarations-clause-err
returns-in_err-declarations-clause-err c =
    let p = c.in_ok-package.package in
    then_stops start c.args.parser.now _ (
    went (c.in_ok-expect.ensures.reads _) ∙ went (c.in_ok-package.ensures.reads _) ∙ went (c.in_ok-expect-2.ensures.reads _) ∙ went (c.in_ok-imports.ensures.reads p))
    (c.in_err-declarations.ensures.reads p (map import_of c.in_ok-imports.imports.items)) c.from_residual-in_err-declarations.ensures.1

pub returns-then-is_some-clause-err : goal.returns-then-is_some-clause-err
returns-then-is_some-clause-err c =
    let p = c.in_ok-package.package in
    let is = map import_of c.in_ok-imports.imports.items in
    refused_end start c.args.parser.now c.declarations.new.parser c.wrong.result (to_file p is (map top_of c.in_ok-declarations.declarations.items)) c.kind.result (
    went (c.in_ok-expect.ensures.reads _) ∙ went (c.in_ok-package.ensures.reads _) ∙ went (c.in_ok-expect-2.ensures.reads _) ∙ went (c.in_ok-imports.ensures.reads p)
    ∙ went (c.in_ok-declarations.ensures.reads p is)) c.kind.ensures (sym c.is_some.ensures ∙ c.if-is_some.true) c.wrong.ensures

pub returns-clause-ok : goal.returns-clause-ok
returns-clause-ok c =
    let p = c.in_ok-package.package in
    let is = map import_of c.in_ok-imports.imports.items in
    went (c.in_ok-expect.ensures.reads _) ∙ went (c.in_ok-package.ensures.reads _) ∙ went (c.in_ok-expect-2.ensures.reads _) ∙ went (c.in_ok-imports.ensures.reads p)
    ∙ went (c.in_ok-declarations.ensures.reads p is)
    ∙ ends c.declarations.new.parser.edition (to_file p is (map top_of c.in_ok-declarations.declarations.items)) c.kind.result (left c.declarations.new.parser) c.kind.ensures (sym c.is_some.ensures ∙ c.if-is_some.false)
