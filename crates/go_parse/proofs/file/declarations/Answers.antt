use Rattle.std.proofs.Common.{List, [], ◌∷◌, ◌++◌, map, ap, sym, ◌∙◌}
use Rattle.go_ast.specs.Trees as trees
use Rattle.go_ast.specs.Machine.{Reader, decls_at, decl_end, ended, to_file, run_parser}
use Rattle.go_ast.specs.Views.{top_of}
use Rattle.go_pexpr.specs.Reads.{left}
use Rattle.go_parse.proofs.Files.{behind_declaration}
use Rattle.go_pstmt.proofs.Lists.{pushed}
use Rattle.go_pexpr.proofs.Reading.{then_fails}
use Rattle.go_pstmt.proofs.Reading.{went, took, missed}
use Rattle.go_parse.proofs.file.declarations.Goals as goal

-- what is due behind a declaration
abbrev behind : trees.Name → List trees.ImportSpec → List trees.TopLevel → trees.TopLevel → Reader
behind p is ds d = decl_end p is (ds ++ d ∷ [])

pub returns-in_err-declaration : goal.returns-in_err-declaration
returns-in_err-declaration c = record {
  reads = λ p is.
      let ds = map top_of c.declarations.declarations.items in
      then_fails (c.declarations.invariant.reads p is) (c.in_err-declaration.ensures.reads (behind p is ds) (ended (to_file p is ds))) c.from_residual.ensures.1;
}

pub declarations-preserved : goal.declarations-preserved
declarations-preserved c = record {
  reads = λ p is.
      let ds = map top_of c.declarations.declarations.items in
      let d = top_of c.in-Some.declaration in
      c.declarations.invariant.reads p is ∙ took (c.in_ok-declaration.ensures.reads (behind p is ds) (ended (to_file p is ds))) c.in-Some.is
      ∙ behind_declaration c.declaration.new.parser.edition p is (ds ++ d ∷ []) (left c.declaration.new.parser) ∙ went (c.in_ok-expect.ensures.reads (λ _. decls_at p is (ds ++ d ∷ [])))
      ∙ ap (λ xs. run_parser c.expect.new.self.edition 250 (decls_at p is xs) (left c.expect.new.self)) (sym (pushed top_of c.declarations.declarations.items _ c.in-Some.declaration c.in_ok-push.ensures.items));
}

pub returns-in_err-expect : goal.returns-in_err-expect
returns-in_err-expect c = record {
  reads = λ p is.
      let ds = map top_of c.declarations.declarations.items in
      let d = top_of c.in-Some.declaration in
      then_fails (
      c.declarations.invariant.reads p is ∙ took (c.in_ok-declaration.ensures.reads (behind p is ds) (ended (to_file p is ds))) c.in-Some.is
      ∙ behind_declaration c.declaration.new.parser.edition p is (ds ++ d ∷ []) (left c.declaration.new.parser)) (c.in_err-expect.ensures.reads (λ _. decls_at p is (ds ++ d ∷ []))) c.from_residual-in_err-expect.ensures.1;
}

pub returns : goal.returns
returns c = record {
  reads = λ p is.
      let ds = map top_of c.declarations.declarations.items in
      record { by = c.declarations.invariant.reads p is ∙ missed (c.in_ok-declaration.ensures.reads (behind p is ds) (ended (to_file p is ds))) c.in_default.is };
}
