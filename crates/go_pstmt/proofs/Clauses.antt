-- Which clause begins.
use Rattle.std.proofs.Common.{◌≡◌, ℕ, ◌+◌, List, [], ◌∷◌, None, refl, sym, ap, ◌∙◌}
use Rattle.go_text.specs.declared.edition.Edition.{Edition}
use Rattle.go_scan.specs.declared.token.TokenKind.{TokenKind}
use Rattle.go_scan.specs.declared.keyword.Keyword.TheVariants as keywords
use Rattle.go_ast.specs.Kinds.{same}
use Rattle.go_ast.specs.Expected.{another}
use Rattle.go_ast.specs.Trees as trees
use Rattle.go_ast.specs.Grammar.{Lexeme, closing_brace}
use Rattle.go_ast.specs.Machine.{Reader, Clause, token, keyword, behind_case, clause_body, Take, cond, run_parser}
use Rattle.go_pexpr.specs.Reads.{First}
use Rattle.go_pstmt.specs.Due.{clauses_behind}
use Rattle.go_pstmt.proofs.Steps.{Kind, same_first, same_step, same_end, taken_by, passed_by}

no_case : (k : TokenKind) → k ≡ keyword keywords.Default → k ≡ keyword keywords.Case → ⊥
no_case k d e = let both : keyword keywords.Default ≡ keyword keywords.Case = sym d ∙ e in cc (both)

module _ (ed : Edition) (l : ℕ) (done : List Clause) (next : trees.Cases → Lexeme → Reader) where
  abbrev default_body : Lexeme → Reader
  default_body t = clause_body l done next t.place None

  pub default_comes : (ts : List Lexeme) → First (Kind (keyword keywords.Default)) ts → run_parser ed 250 (clauses_behind l done next) ts ≡ run_parser ed 250 (token (keyword keywords.Default) 0 another default_body) ts
  default_comes ts h = same_first ed (Kind (keyword keywords.Default)) (clauses_behind l done next) (token (keyword keywords.Default) 0 another default_body) ts h (λ t e.
      passed_by (keyword keywords.Case) t _ _ (no_case t.kind e) ∙ taken_by (keyword keywords.Default) t _ _ e ∙ sym (taken_by (keyword keywords.Default) t _ _ e))

  pub case_due : (ts : List Lexeme) → (First (Kind (keyword keywords.Default)) ts → ⊥) → (First (Kind closing_brace) ts → ⊥) → run_parser ed 250 (clauses_behind l done next) ts ≡ run_parser ed 250 (token (keyword keywords.Case) (l + 1) another (behind_case l done next)) ts
  case_due [] a b = same_end ed (clauses_behind l done next) (token (keyword keywords.Case) (l + 1) another (behind_case l done next)) refl
  case_due (t ∷ ts) a b = same_step ed (clauses_behind l done next) (token (keyword keywords.Case) (l + 1) another (behind_case l done next)) t ts (
      ap (cond (same (keyword keywords.Case) t.kind) (Take (l + 1) (behind_case l done next t)))
      (passed_by (keyword keywords.Default) t _ _ a ∙ passed_by closing_brace t _ _ b))
