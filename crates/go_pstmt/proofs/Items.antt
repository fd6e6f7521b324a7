-- Items of lists of statements and of clauses.
use Rattle.std.proofs.Common.{◌≡◌, ℕ, ◌+◌, Bool, true, false, List, [], ◌∷◌, ◌++◌, Option, None, refl, sym, ap, ◌∙◌}
use Rattle.go_text.specs.declared.edition.Edition.{Edition}
use Rattle.go_text.specs.declared.place.Place.{Place}
use Rattle.go_scan.specs.declared.token.TokenKind.{TokenKind}
use Rattle.go_scan.specs.declared.keyword.Keyword.TheVariants as keywords
use Rattle.go_ast.specs.Kinds.{same}
use Rattle.go_ast.proofs.Same.{are_same, is_same}
use Rattle.go_ast.specs.Trees as trees
use Rattle.go_ast.specs.Expected.{Expected, another}
use Rattle.go_ast.specs.Grammar.{Lexeme, semicolon, closing_brace}
use Rattle.go_ast.specs.Machine.{Reader, Clause, token, statements, list_start, list_end, clause_start, clause_end, keyword, run_parser, parser_step, cond, Take, Fail}
use Rattle.go_pexpr.specs.Reads.{First}
use Rattle.go_pexpr.proofs.Steps.{Kind, same_step, same_end, passed, chosen}
use Rattle.go_pstmt.specs.Due.{behind_of, clauses_behind}
use Rattle.go_pstmt.specs.Statements.{Does, Between, read_item, due_stmt, EndsClause, by_case, by_default, by_brace}
use Rattle.go_pstmt.proofs.Lefts.{does_at, false_true as no_false}

no_semicolon : (k : TokenKind) → k ≡ closing_brace → k ≡ semicolon → ⊥
no_semicolon k d e = let both : closing_brace ≡ semicolon = sym d ∙ e in cc (both)

no_case : (k : TokenKind) → k ≡ closing_brace → k ≡ keyword keywords.Case → ⊥
no_case k d e = let both : closing_brace ≡ keyword keywords.Case = sym d ∙ e in cc (both)

no_default : (k : TokenKind) → k ≡ closing_brace → k ≡ keyword keywords.Default → ⊥
no_default k d e = let both : closing_brace ≡ keyword keywords.Default = sym d ∙ e in cc (both)

default_no_case : (k : TokenKind) → k ≡ keyword keywords.Default → k ≡ keyword keywords.Case → ⊥
default_no_case k d e = let both : keyword keywords.Default ≡ keyword keywords.Case = sym d ∙ e in cc (both)

pub list_between : (ed : Edition) → (l : ℕ) (next : List trees.Statement → Lexeme → Reader) (x : Expected) (ss : List trees.Statement) → Between ed (list_end (statements l) x ss next) x (list_start (statements l) ss next)
list_between ed l next x ss = record {
  ends = refl;
  goes_on = λ t e. chosen semicolon t _ _ e;
  closes = λ t e. passed semicolon t _ _ (no_semicolon t.kind e) ∙ chosen closing_brace t _ _ e ∙ sym (chosen closing_brace t _ _ e);
  fails = λ t a b. passed semicolon t _ _ a ∙ passed closing_brace t _ _ b;
}

pub list_item : (ed : Edition) → (l : ℕ) (front : List trees.Statement) (next : List trees.Statement → Lexeme → Reader) (ts : List Lexeme) → (First (Kind closing_brace) ts → ⊥) →
    Does ed (list_start (statements l) front next) (read_item l (λ x s. list_end (statements l) x (front ++ s ∷ []) next) (λ s. list_start (statements l) (front ++ s ∷ []) next)) None ts
list_item ed l front next [] never = refl
list_item ed l front next (t ∷ ts) never = passed closing_brace t _ _ never

module _ (ed : Edition) (l : ℕ) (done : List Clause) (p : Place) (values : Option trees.ExpressionList) (next : trees.Cases → Lexeme → Reader) where
  pub clause_between : (x : Expected) (ss : List trees.Statement) → Between ed (clause_end l x done p values ss next) x (clause_start l done p values ss next)
  clause_between x ss = record {
    ends = refl;
    goes_on = λ t e. chosen semicolon t _ _ e;
    closes = λ t e. passed semicolon t _ _ (no_semicolon t.kind e) ∙ chosen closing_brace t _ _ e
        ∙ sym (passed (keyword keywords.Case) t _ _ (no_case t.kind e) ∙ passed (keyword keywords.Default) t _ _ (no_default t.kind e) ∙ chosen closing_brace t _ _ e);
    fails = λ t a b. passed semicolon t _ _ a ∙ passed closing_brace t _ _ b;
  }

  pub clause_item : (front : List trees.Statement) (ts : List Lexeme) → (First (λ t. EndsClause t.kind) ts → ⊥) →
      Does ed (clause_start l done p values front next) (read_item (l + 1) (λ x s. clause_end l x done p values (front ++ s ∷ []) next) (λ s. clause_start l done p values (front ++ s ∷ []) next)) None ts
  clause_item front [] never = refl
  clause_item front (t ∷ ts) never =
      passed (keyword keywords.Case) t _ _ (λ e. never (by_case e)) ∙ passed (keyword keywords.Default) t _ _ (λ e. never (by_default e)) ∙ passed closing_brace t _ _ (λ e. never (by_brace e))

  pub clause_done : (front : List trees.Statement) (ts : List Lexeme) → First (λ t. EndsClause t.kind) ts →
      run_parser ed 250 (clause_start l done p values front next) ts ≡ run_parser ed 250 (clauses_behind l (done ++ (p, (values, front)) ∷ []) next) ts
  clause_done front [] h = absurd h
  clause_done front (t ∷ ts) (by_case e) = same_step ed _ _ t ts (chosen (keyword keywords.Case) t _ _ e ∙ sym (chosen (keyword keywords.Case) t _ _ e))
  clause_done front (t ∷ ts) (by_default e) = same_step ed _ _ t ts (
      passed (keyword keywords.Case) t _ _ (default_no_case t.kind e) ∙ chosen (keyword keywords.Default) t _ _ e
      ∙ sym (passed (keyword keywords.Case) t _ _ (default_no_case t.kind e) ∙ chosen (keyword keywords.Default) t _ _ e))
  clause_done front (t ∷ ts) (by_brace e) = same_step ed _ _ t ts (
      passed (keyword keywords.Case) t _ _ (no_case t.kind e) ∙ passed (keyword keywords.Default) t _ _ (no_default t.kind e) ∙ chosen closing_brace t _ _ e
      ∙ sym (passed (keyword keywords.Case) t _ _ (no_case t.kind e) ∙ passed (keyword keywords.Default) t _ _ (no_default t.kind e) ∙ chosen closing_brace t _ _ e))

module _ (ed : Edition) (before : Reader) (l : ℕ) (next : Expected → trees.Statement → Reader) (front : trees.Statement → Reader) where
  pub item_due : (ts : List Lexeme) → Does ed before (read_item l next front) None ts → (First (Kind semicolon) ts → ⊥) → run_parser ed 250 before ts ≡ run_parser ed 250 (due_stmt l (λ s. next (behind_of s) s)) ts
  item_due [] does never = same_end ed before (due_stmt l (λ s. next (behind_of s) s)) does
  item_due (t ∷ ts) does never = same_step ed before (due_stmt l (λ s. next (behind_of s) s)) t ts (does ∙ passed semicolon t _ _ never)

  pub item_empty : (ts : List Lexeme) → Does ed before (read_item l next front) None ts → First (Kind semicolon) ts → run_parser ed 250 before ts ≡ run_parser ed 250 (token semicolon l another (λ t. front (trees.empty t.place))) ts
  item_empty ts does f = does_at ed before (token semicolon l another (λ t. front (trees.empty t.place))) (read_item l next front) None semicolon ts does f (λ text p. refl)

-- what is behind an item: the end, or a semicolon
module _ (ed : Edition) (behind front : Reader) (x : Expected) (b : Between ed behind x front) where
  pub item_closes : (ts : List Lexeme) → First (Kind closing_brace) ts → run_parser ed 250 behind ts ≡ run_parser ed 250 front ts
  item_closes [] f = absurd f
  item_closes (t ∷ ts) f = same_step ed behind front t ts (b.closes t f)

  pub item_ends : (ts : List Lexeme) → (First (Kind closing_brace) ts → ⊥) → run_parser ed 250 behind ts ≡ run_parser ed 250 (token semicolon 0 x (λ _. front)) ts
  item_ends [] never = same_end ed behind (token semicolon 0 x (λ _. front)) b.ends
  item_ends (t ∷ ts) never = same_step ed behind (token semicolon 0 x (λ _. front)) t ts (by_test (same semicolon t.kind) refl)
    where
      by_test : (c : Bool) → same semicolon t.kind ≡ c → parser_step ed behind t ≡ parser_step ed (token semicolon 0 x (λ _. front)) t
      by_test true e = b.goes_on t (are_same semicolon t.kind e) ∙ sym (ap (λ y. cond y (Take 0 front) (Fail x)) e)
      by_test false e = b.fails t (λ k. no_false (sym e ∙ is_same semicolon t.kind k)) never ∙ sym (ap (λ y. cond y (Take 0 front) (Fail x)) e)
