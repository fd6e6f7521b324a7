use Rattle.std.proofs.Common.{ℕ, List, Some, None, ap, sym, ◌∙◌}
use Rattle.go_ast.specs.Trees as trees
use Rattle.go_text.specs.declared.place.Place.{Place}
use Rattle.go_ast.specs.Grammar.{Lexeme, name_of}
use Rattle.go_ast.specs.Machine.{Reader, run_parser}
use Rattle.go_pexpr.specs.Reads.{left, lexeme_of}
use Rattle.go_pexpr.proofs.Reading.{then_fails}
use Rattle.go_pstmt.proofs.Reading.{went, took, missed}
use Rattle.go_parse.proofs.import.import_spec.Goals as goal

-- what is due behind a path, where a name stands before it, and where none does
abbrev behind_named : (trees.ImportSpec → Reader) → Lexeme → List ℕ → Place → Reader
behind_named next n path p = next (record { place = n.place; name = Some (name_of n); path = path; path_place = p })

abbrev behind_unnamed : (trees.ImportSpec → Reader) → List ℕ → Place → Reader
behind_unnamed next path p = next (record { place = p; name = None; path = path; path_place = p })

pub returns-in_err-path-clause-reads : goal.returns-in_err-path-clause-reads
returns-in_err-path-clause-reads c = λ next.
    then_fails (missed (c.in_ok-name.ensures.reads _ _) c.in_default.is) (c.in_err-path.ensures.reads (behind_unnamed next)) c.from_residual-in_err-path.ensures.1

pub returns-in_default-clause-reads : goal.returns-in_default-clause-reads
returns-in_default-clause-reads c = λ next.
    record { by = missed (c.in_ok-name.ensures.reads _ _) c.in_default.is ∙ went (c.in_ok-path.ensures.reads (behind_unnamed next)) }

pub returns-in_err-path-2-clause-reads : goal.returns-in_err-path-2-clause-reads
returns-in_err-path-2-clause-reads c = λ next.
    then_fails (took (c.in_ok-name.ensures.reads _ _) c.in-Some.is) (c.in_err-path-2.ensures.reads (behind_named next (lexeme_of c.in-Some.name))) c.from_residual-in_err-path-2.ensures.1

pub returns-clause-reads : goal.returns-clause-reads
returns-clause-reads c = λ next.
    let path = c.in_ok-path-2.path in
    record {
      by = took (c.in_ok-name.ensures.reads _ _) c.in-Some.is ∙ went (c.in_ok-path-2.ensures.reads (behind_named next (lexeme_of c.in-Some.name)))
          ∙ ap (λ p. run_parser c.import_path-2.new.parser.edition 250 (next (record { place = p; name = Some c.in-Some.name; path = path.value.items; path_place = path.place })) (left c.import_path-2.new.parser)) (sym c.place.ensures);
    }
