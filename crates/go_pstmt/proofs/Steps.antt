-- Where one state goes on as another does.
use Rattle.std.proofs.Common.{◌≡◌, ℕ, true, false, List, [], ◌∷◌, refl, sym, ap, ◌∙◌}
use Rattle.go_text.specs.declared.edition.Edition.{Edition}
use Rattle.go_scan.specs.declared.token.TokenKind.{TokenKind}
use Rattle.go_ast.specs.Kinds.{same}
use Rattle.go_ast.specs.Expected.{Expected}
use Rattle.go_ast.specs.Grammar.{Lexeme}
use Rattle.go_ast.specs.Machine.{Reader, token, optional, Move, cond, parser_step, final, by_move, at_end, run_parser}
use Rattle.go_ast.proofs.Same.{is_same, not_same}
use Rattle.go_pexpr.specs.Reads.{First}

abbrev pub Kind : TokenKind → Lexeme → Type 0
Kind kind t = t.kind ≡ kind

pub false_true : false ≡ true → ⊥
false_true e = cc (e)

pub same_step : (ed : Edition) → (s r : Reader) (t : Lexeme) (ts : List Lexeme) → parser_step ed s t ≡ parser_step ed r t → run_parser ed 250 s (t ∷ ts) ≡ run_parser ed 250 r (t ∷ ts)
unfolding run_parser
same_step ed s r t ts e = ap (by_move 250 (λ q. run_parser ed 250 q ts) t.kind (t ∷ ts)) e

pub same_end : (ed : Edition) → (s r : Reader) → final s ≡ final r → run_parser ed 250 s [] ≡ run_parser ed 250 r []
unfolding run_parser
same_end ed s r e = ap at_end e

-- states that do the same with each token
pub same_state : (ed : Edition) → (s r : Reader) (ts : List Lexeme) → ((t : Lexeme) → parser_step ed s t ≡ parser_step ed r t) → final s ≡ final r → run_parser ed 250 s ts ≡ run_parser ed 250 r ts
same_state ed s r [] on end = same_end ed s r end
same_state ed s r (t ∷ ts) on end = same_step ed s r t ts (on t)

-- states that do the same with the first token, as it is such
pub same_first : (ed : Edition) → (Is : Lexeme → Type 0) (s r : Reader) (ts : List Lexeme) → First Is ts → ((t : Lexeme) → Is t → parser_step ed s t ≡ parser_step ed r t) → run_parser ed 250 s ts ≡ run_parser ed 250 r ts
same_first ed Is s r [] h on = absurd h
same_first ed Is s r (t ∷ ts) h on = same_step ed s r t ts (on t h)

-- and as it isn't
pub same_other : (ed : Edition) → (Is : Lexeme → Type 0) (s r : Reader) (ts : List Lexeme) → (First Is ts → ⊥) → ((t : Lexeme) → (Is t → ⊥) → parser_step ed s t ≡ parser_step ed r t) → final s ≡ final r → run_parser ed 250 s ts ≡ run_parser ed 250 r ts
same_other ed Is s r [] never on end = same_end ed s r end
same_other ed Is s r (t ∷ ts) never on end = same_step ed s r t ts (on t never)

-- a test that holds, and one that fails
pub taken_by : (kind : TokenKind) (t : Lexeme) (m other : Move) → Kind kind t → cond (same kind t.kind) m other ≡ m
taken_by kind t m other e = ap (λ x. cond x m other) (is_same kind t.kind e)

pub passed_by : (kind : TokenKind) (t : Lexeme) (m other : Move) → (Kind kind t → ⊥) → cond (same kind t.kind) m other ≡ other
passed_by kind t m other never = ap (λ x. cond x m other) (not_same kind t.kind never)

-- what may be missing is there, or is missing
pub is_there : (ed : Edition) → (kind : TokenKind) (need : ℕ) (x : Expected) (some : Lexeme → Reader) (none : Reader) (ts : List Lexeme) → First (Kind kind) ts → run_parser ed 250 (optional kind need some none) ts ≡ run_parser ed 250 (token kind need x some) ts
is_there ed kind need x some none ts h = same_first ed (Kind kind) _ _ ts h (λ t e. taken_by kind t _ _ e ∙ sym (taken_by kind t _ _ e))

pub is_missing : (ed : Edition) → (kind : TokenKind) (need : ℕ) (some : Lexeme → Reader) (none : Reader) (ts : List Lexeme) → (First (Kind kind) ts → ⊥) → run_parser ed 250 (optional kind need some none) ts ≡ run_parser ed 250 none ts
is_missing ed kind need some none ts never = same_other ed (Kind kind) _ _ ts never (λ t e. passed_by kind t _ _ e) refl
