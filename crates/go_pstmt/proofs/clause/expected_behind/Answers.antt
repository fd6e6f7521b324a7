use Rattle.std.proofs.Common.{◌≡◌, refl, sym, ap, ◌∙◌}
use Rattle.go_text.specs.declared.place.Place.{Place}
use Rattle.go_ast.specs.declared.statement.Stmt.{Stmt}
use Rattle.go_ast.specs.declared.statement.Stmt as stmts
use Rattle.go_ast.specs.Expected.{another}
use Rattle.go_ast.specs.Views.{stmt_of}
use Rattle.go_ast.proofs.StatementRows.{break_seen, continue_seen}
use Rattle.go_pstmt.specs.Due.{behind_of}
use Rattle.go_pstmt.proofs.clause.expected_behind.Goals as goal

other : (s : Stmt) → ((p : Place) → s ≡ stmts.Break p → ⊥) → ((p : Place) → s ≡ stmts.Continue p → ⊥) → another ≡ behind_of (stmt_of s)
unfolding stmt_of
other (stmts.Break p) a b = absurd (a p refl)
other (stmts.Continue p) a b = absurd (b p refl)
other _ a b = refl

pub returns-in-Break : goal.returns-in-Break
returns-in-Break c = sym (ap (λ s. behind_of (stmt_of s)) c.in-Break.is ∙ ap behind_of (break_seen _))

pub returns-in-Continue : goal.returns-in-Continue
returns-in-Continue c = sym (ap (λ s. behind_of (stmt_of s)) c.in-Continue.is ∙ ap behind_of (continue_seen _))

pub returns-in_default : goal.returns-in_default
returns-in_default c = other _ c.in_default.not-Break c.in_default.not-Continue
