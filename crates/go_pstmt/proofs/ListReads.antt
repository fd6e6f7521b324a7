-- Where a list in parentheses goes on.
use Rattle.std.proofs.Common.{◌≡◌, List, ap, sym, ◌∙◌, subst}
use Rattle.go_text.specs.declared.edition.Edition.{Edition}
use Rattle.go_scan.specs.declared.token.TokenKind.{TokenKind}
use Rattle.go_ast.specs.Expected.{Expected, another}
use Rattle.go_ast.specs.Grammar.{Lexeme, closing}
use Rattle.go_ast.specs.Machine.{Reader, ListKind, Item, token, list_start, list_end, separator, closer, run_parser}
use Rattle.go_pexpr.specs.Reads.{First}
use Rattle.go_pexpr.proofs.Steps.{Kind}
use Rattle.go_pexpr.proofs.ListTurns.{list_closes, list_ends, list_goes}

module _ (ed : Edition) (k : ListKind) (closes : closer k ≡ closing) (front : List (Item k)) (next : List (Item k) → Lexeme → Reader) (ts : List Lexeme) where
  at_closer : First (Kind closing) ts → First (Kind (closer k)) ts
  at_closer is = subst (λ j. First (Kind j) ts) (sym closes) is

  -- the closing parenthesis is due where one stands
  pub closing_due : First (Kind closing) ts → run_parser ed 250 (list_start k front next) ts ≡ run_parser ed 250 (token closing 0 another (next front)) ts
  closing_due is = list_closes ed k front next ts (at_closer is) ∙ ap (λ j. run_parser ed 250 (token j 0 another (next front)) ts) closes

  -- behind an item it may stand as behind a separator
  pub ends_there : (x : Expected) → First (Kind closing) ts → run_parser ed 250 (list_end k x front next) ts ≡ run_parser ed 250 (list_start k front next) ts
  ends_there x is = list_ends ed k front next x ts (at_closer is)

  -- elsewhere the separator is due
  pub separator_there : (x y : Expected) (j : TokenKind) → y ≡ x → j ≡ separator k → (First (Kind closing) ts → ⊥) →
      run_parser ed 250 (list_end k x front next) ts ≡ run_parser ed 250 (token j 0 y (λ _. list_start k front next)) ts
  separator_there x y j due is never =
      list_goes ed k front next x ts (λ h. never (subst (λ i. First (Kind i) ts) closes h))
      ∙ ap (λ i. run_parser ed 250 (token i 0 x (λ _. list_start k front next)) ts) (sym is)
      ∙ ap (λ z. run_parser ed 250 (token j 0 z (λ _. list_start k front next)) ts) (sym due)
