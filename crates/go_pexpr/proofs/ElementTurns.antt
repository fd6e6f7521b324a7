-- Where the elements of a literal go on.
use Rattle.std.proofs.Common.{◌≡◌, ℕ, Bool, true, false, List, [], ◌∷◌, ◌++◌, Option, Some, None, refl, ap, ◌∙◌}
use Rattle.go_text.specs.declared.edition.Edition.{Edition}
use Rattle.go_scan.specs.declared.token.TokenKind.{TokenKind}
use Rattle.go_scan.specs.declared.token.TokenKind.TheVariants as kinds
use Rattle.go_scan.specs.declared.punctuation.Punctuation.TheVariants as marks
use Rattle.go_ast.specs.Kinds.{same}
use Rattle.go_ast.specs.Expected.{an_element_end, another, fault_at}
use Rattle.go_ast.specs.Trees.{Name, name, Element, expression_element, value_element}
use Rattle.go_ast.specs.Grammar.{Lexeme, comma, colon, closing_brace}
use Rattle.go_ast.specs.Machine.{Reader, Move, Take, Fail, token, list_start, list_end, elements, cond, ParseOutcome, Refused, by_move, run_parser}
use Rattle.go_pexpr.specs.Reads.{First}
use Rattle.go_pexpr.specs.Turns.{read_value, key_in, behind_first, behind_last}
use Rattle.go_pexpr.proofs.Steps.{Kind, optional_some, optional_none}

-- only at a colon it matters whether a key may have ended
no_colon : (k : TokenKind) → (k ≡ colon → ⊥) → fault_at another k ≡ fault_at an_element_end k
no_colon (kinds.Punctuation marks.Colon) never = absurd (never refl)
no_colon _ never = refl

same_fault : (go : Reader → ParseOutcome) (k : TokenKind) (ts : List Lexeme) (b c : Bool) (m n : Move) → fault_at another k ≡ fault_at an_element_end k →
    by_move 250 go k ts (cond b m (cond c n (Fail another))) ≡ by_move 250 go k ts (cond b m (cond c n (Fail an_element_end)))
same_fault go k ts true c m n e = refl
same_fault go k ts false true m n e = refl
same_fault go k ts false false m n e = ap (λ f. Refused f ts) e

module _ (ed : Edition) (l : ℕ) (front : List (Option Name × Element)) (next : List (Option Name × Element) → Lexeme → Reader) where
  ends_alike : (ts : List Lexeme) → (First (Kind colon) ts → ⊥) → run_parser ed 250 (list_end (elements l) another front next) ts ≡ run_parser ed 250 (list_end (elements l) an_element_end front next) ts
  unfolding run_parser
  ends_alike [] never = refl
  ends_alike (t ∷ ts) never =
      same_fault (λ r. run_parser ed 250 r ts) t.kind (t ∷ ts) (same comma t.kind) (same closing_brace t.kind) (Take 0 (list_start (elements l) front next)) (Take 0 (next front t)) (no_colon t.kind never)

module _ (ed : Edition) (l : ℕ) (front : List (Option Name × Element)) (next : List (Option Name × Element) → Lexeme → Reader) where
  -- a value without a colon behind it is no key
  pub no_colon_ends : (v : Element) (ts : List Lexeme) → (First (Kind colon) ts → ⊥) → run_parser ed 250 (behind_first l front next v) ts ≡ run_parser ed 250 (behind_last l front next None v) ts
  no_colon_ends (value_element p es) ts never = refl
  no_colon_ends (expression_element (name p text)) ts never =
      let more = front ++ (None, expression_element (name p text)) ∷ [] in
      optional_none ed colon 0 (λ _. read_value l (behind_last l front next (Some (record { text = text; place = p })))) (list_end (elements l) another more next) ts never
      ∙ ends_alike ed l more next ts never
  no_colon_ends (expression_element _) ts never = refl

  -- nor is one that is no name
  pub no_key_ends : (v : Element) → key_in v ≡ None → behind_first l front next v ≡ behind_last l front next None v
  no_key_ends (value_element p es) e = refl
  no_key_ends (expression_element (name p text)) e = cc (e)
  no_key_ends (expression_element _) e = refl

  -- a name with a colon behind it is one
  pub key_takes : (v : Element) (n : Name) (ts : List Lexeme) → key_in v ≡ Some n → First (Kind colon) ts →
      run_parser ed 250 (behind_first l front next v) ts ≡ run_parser ed 250 (token colon 0 another (λ _. read_value l (behind_last l front next (Some n)))) ts
  key_takes (value_element p es) n ts e f = cc (e)
  key_takes (expression_element (name p text)) n ts e f =
      optional_some ed colon 0 another (λ _. read_value l (behind_last l front next (Some (record { text = text; place = p })))) (list_end (elements l) another (front ++ (None, expression_element (name p text)) ∷ []) next) ts f
      ∙ ap (λ m. run_parser ed 250 (token colon 0 another (λ _. read_value l (behind_last l front next m))) ts) e
  key_takes (expression_element _) n ts e f = cc (e)
