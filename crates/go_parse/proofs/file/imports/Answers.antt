use Rattle.std.proofs.Common.{arith, List, [], ◌∷◌, ◌++◌, map, ◌∙◌}
use Rattle.go_ast.specs.Trees as trees
use Rattle.go_ast.specs.Machine.{Reader, import_end}
use Rattle.go_ast.specs.Views.{import_of}
use Rattle.go_pexpr.specs.Reads.{left}
use Rattle.go_parse.proofs.Files.{joined, behind_import}
use Rattle.go_pexpr.proofs.Reading.{then_fails}
use Rattle.go_pstmt.proofs.Reading.{went, took}
use Rattle.go_parse.proofs.file.imports.Goals as goal

-- what is due behind an import
abbrev behind : trees.Name → List (List trees.ImportSpec) → List trees.ImportSpec → Reader
behind p iss is = import_end p (iss ++ is ∷ [])

pub returns-in_err-accept-clause-reads : goal.returns-in_err-accept-clause-reads
returns-in_err-accept-clause-reads c = λ p.
    then_fails (c.imports.invariant.reads.2 p) (c.in_err-accept.ensures.reads _ _) c.from_residual.ensures.1

pub returns-in_err-more-clause-reads : goal.returns-in_err-more-clause-reads
returns-in_err-more-clause-reads c = λ p.
    then_fails (c.imports.invariant.reads.2 p ∙ took (c.in_ok-accept.ensures.reads _ _) c.in-Some.is)
    (c.in_err-more.ensures.reads (behind p c.imports.invariant.reads.0)) c.from_residual-in_err-more.ensures.1

pub returns-in_err-expect-clause-reads : goal.returns-in_err-expect-clause-reads
returns-in_err-expect-clause-reads c = λ p.
    let iss = c.imports.invariant.reads.0 in
    then_fails (
    c.imports.invariant.reads.2 p ∙ took (c.in_ok-accept.ensures.reads _ _) c.in-Some.is ∙ went (c.in_ok-more.ensures.reads (behind p iss))
    ∙ behind_import c.imports_behind.new.parser.edition p (iss ++ map import_of c.in_ok-more.more.items ∷ []) (left c.imports_behind.new.parser)) (c.in_err-expect.ensures.reads _) c.from_residual-in_err-expect.ensures.1

pub imports-preserved : goal.imports-preserved
imports-preserved c =
    let iss = c.imports.invariant.reads.0 in
    let more = map import_of c.in_ok-more.more.items in
    record {
      reads = (
        iss ++ more ∷ [],
        joined import_of iss c.imports.imports.items c.in_ok-more.more.items c.append.new.self.items c.imports.invariant.reads.1 c.in_ok-append.ensures.items,
        λ p. c.imports.invariant.reads.2 p ∙ took (c.in_ok-accept.ensures.reads _ _) c.in-Some.is ∙ went (c.in_ok-more.ensures.reads (behind p iss))
            ∙ behind_import c.imports_behind.new.parser.edition p (iss ++ more ∷ []) (left c.imports_behind.new.parser) ∙ went (c.in_ok-expect.ensures.reads _),
      );
      shorter = omega (arith, c.imports.invariant.shorter, c.in_ok-accept.ensures.no_longer, c.in_ok-more.ensures.shorter, c.in_ok-expect.ensures.shorter);
    }
