-- Which statement begins, and what is behind the parts of `if` and `for`.
use Rattle.std.proofs.Common.{◌≡◌, ℕ, ◌+◌, false, List, [], ◌∷◌, Option, refl, ap, ◌∙◌, arith}
use Rattle.go_text.specs.declared.edition.Edition.{Edition}
use Rattle.go_text.specs.declared.place.Place.{Place}
use Rattle.go_scan.specs.declared.keyword.Keyword.TheVariants as keywords
use Rattle.go_ast.specs.Trees as trees
use Rattle.go_ast.specs.Expected.{another, a_statement}
use Rattle.go_ast.specs.Grammar.{Lexeme, closing_brace, opening_brace, simple_place}
use Rattle.go_ast.specs.Machine.{Reader, Clause, token, optional, expr, list_lefts, in_list, keyword, run_parser, read_block, open_block, behind_if, behind_for, behind_switch, behind_else, else_part, pack_cases}
use Rattle.go_pexpr.specs.Reads.{First}
use Rattle.go_pexpr.proofs.Steps.{Kind, same_at, same_step, same_end, passed, optional_some, optional_none}
use Rattle.go_pstmt.specs.declared.for_loop.Turns.{Turns}
use Rattle.go_pstmt.specs.declared.for_loop.Turns.TheVariants as turns
use Rattle.go_pstmt.specs.Turns.{by_turns, for_of}
use Rattle.go_pstmt.specs.Due.{jump_or, clauses_behind}

-- what is due where the statements before these don't begin
module _ (ed : Edition) (l : ℕ) (next : trees.Statement → Reader) where
  abbrev pub due_simple : Reader
  due_simple = expr 5 false (l + 1) a_statement (list_lefts in_list false (l + 1) (λ s. next (trees.simple (simple_place s) s)))

  abbrev pub due_switch : Reader
  due_switch = optional (keyword keywords.Switch) l (behind_switch l next) due_simple

  abbrev pub due_for : Reader
  due_for = optional (keyword keywords.For) (l + 1) (behind_for l next) due_switch

  abbrev pub due_if : Reader
  due_if = optional (keyword keywords.If) (l + 1) (behind_if l (λ i. next (trees.if_statement i))) due_for

  abbrev pub due_block : Reader
  due_block = optional opening_brace (l + 1) (open_block (l + 1) (λ b. next (trees.block_statement b))) due_if

  abbrev pub due_jump : Reader
  due_jump = jump_or l next due_block

  pub block_comes : (ts : List Lexeme) → First (Kind opening_brace) ts → run_parser ed 250 due_block ts ≡ run_parser ed 250 (read_block (l + 1) (λ b. next (trees.block_statement b))) ts
  block_comes ts f = optional_some ed opening_brace (l + 1) another (open_block (l + 1) (λ b. next (trees.block_statement b))) due_if ts f

  pub no_block : (ts : List Lexeme) → (First (Kind opening_brace) ts → ⊥) → run_parser ed 250 due_block ts ≡ run_parser ed 250 due_if ts
  no_block ts never = optional_none ed opening_brace (l + 1) (open_block (l + 1) (λ b. next (trees.block_statement b))) due_if ts never

  pub if_comes : (ts : List Lexeme) → First (Kind (keyword keywords.If)) ts →
      run_parser ed 250 due_if ts ≡ run_parser ed 250 (token (keyword keywords.If) (l + 1) another (behind_if l (λ i. next (trees.if_statement i)))) ts
  if_comes ts f = optional_some ed (keyword keywords.If) (l + 1) another (behind_if l (λ i. next (trees.if_statement i))) due_for ts f

  pub no_if : (ts : List Lexeme) → (First (Kind (keyword keywords.If)) ts → ⊥) → run_parser ed 250 due_if ts ≡ run_parser ed 250 due_for ts
  no_if ts never = optional_none ed (keyword keywords.If) (l + 1) (behind_if l (λ i. next (trees.if_statement i))) due_for ts never

  pub for_comes : (ts : List Lexeme) → First (Kind (keyword keywords.For)) ts → run_parser ed 250 due_for ts ≡ run_parser ed 250 (token (keyword keywords.For) (l + 1) another (behind_for l next)) ts
  for_comes ts f = optional_some ed (keyword keywords.For) (l + 1) another (behind_for l next) due_switch ts f

  pub no_for : (ts : List Lexeme) → (First (Kind (keyword keywords.For)) ts → ⊥) → run_parser ed 250 due_for ts ≡ run_parser ed 250 due_switch ts
  no_for ts never = optional_none ed (keyword keywords.For) (l + 1) (behind_for l next) due_switch ts never

  pub switch_comes : (ts : List Lexeme) → First (Kind (keyword keywords.Switch)) ts → run_parser ed 250 due_switch ts ≡ run_parser ed 250 (token (keyword keywords.Switch) l another (behind_switch l next)) ts
  switch_comes ts f = optional_some ed (keyword keywords.Switch) l another (behind_switch l next) due_simple ts f

  pub no_switch : (ts : List Lexeme) → (First (Kind (keyword keywords.Switch)) ts → ⊥) → run_parser ed 250 due_switch ts ≡ run_parser ed 250 due_simple ts
  no_switch ts never = optional_none ed (keyword keywords.Switch) l (behind_switch l next) due_simple ts never

-- the block of a `for`, behind its head
pub turns_open : (l : ℕ) (p : Place) (next : trees.Statement → Reader) (h : Turns) → by_turns l p next h ≡ read_block (l + 1) (λ b. next (for_of p h b))
turns_open l p next (turns.Steps i c s) = refl
turns_open l p next (turns.Range n e) = refl

-- what is behind the block of an `if`
module _ (ed : Edition) (l : ℕ) (p : Place) (i : Option trees.Simple) (c : trees.Expression) (b : trees.Block) (next : trees.If → Reader) where
  pub else_missing : (ts : List Lexeme) → (First (Kind (keyword keywords.Else)) ts → ⊥) → run_parser ed 250 (else_part l p i c b next) ts ≡ run_parser ed 250 (next (trees.conditional p i c b trees.no_else)) ts
  else_missing [] never = same_end ed (else_part l p i c b next) (next (trees.conditional p i c b trees.no_else)) refl
  else_missing (t ∷ ts) never = same_step ed (else_part l p i c b next) (next (trees.conditional p i c b trees.no_else)) t ts (passed (keyword keywords.Else) t _ _ never)

  pub else_comes : (ts : List Lexeme) → First (Kind (keyword keywords.Else)) ts →
      run_parser ed 250 (else_part l p i c b next) ts ≡ run_parser ed 250 (token (keyword keywords.Else) 0 another (λ _. behind_else l (λ e. next (trees.conditional p i c b e)))) ts
  else_comes ts f = same_at ed _ _ (keyword keywords.Else) ts f (λ text q. refl)

-- what is behind `else`
module _ (ed : Edition) (l : ℕ) (next : trees.Else → Reader) where
  pub else_if_comes : (ts : List Lexeme) → First (Kind (keyword keywords.If)) ts →
      run_parser ed 250 (behind_else l next) ts ≡ run_parser ed 250 (token (keyword keywords.If) (l + 1 + 1) another (behind_if (l + 1) (λ o. next (trees.else_if o)))) ts
  else_if_comes ts f =
      let deeper : l + 2 ≡ l + 1 + 1 = omega arith in
      let other = behind_if (l + 1) (λ o. next (trees.else_if o)) in
      optional_some ed (keyword keywords.If) (l + 2) another other (read_block (l + 1) (λ o. next (trees.else_block o))) ts f
      ∙ ap (λ (n : ℕ). run_parser ed 250 (token (keyword keywords.If) n another other) ts) deeper

  pub else_block_comes : (ts : List Lexeme) → (First (Kind (keyword keywords.If)) ts → ⊥) →
      run_parser ed 250 (behind_else l next) ts ≡ run_parser ed 250 (read_block (l + 1) (λ o. next (trees.else_block o))) ts
  else_block_comes ts never = optional_none ed (keyword keywords.If) (l + 2) (behind_if (l + 1) (λ o. next (trees.else_if o))) (read_block (l + 1) (λ o. next (trees.else_block o))) ts never

-- the clauses end
pub clauses_close : (ed : Edition) → (l : ℕ) (done : List Clause) (next : trees.Cases → Lexeme → Reader) (ts : List Lexeme) → First (Kind closing_brace) ts →
    run_parser ed 250 (clauses_behind l done next) ts ≡ run_parser ed 250 (token closing_brace 0 another (next (pack_cases done))) ts
clauses_close ed l done next ts f = same_at ed _ _ closing_brace ts f (λ text p. refl)
