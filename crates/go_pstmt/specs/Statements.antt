-- What is due behind parts of statements, by what was read.
use Rattle.std.specs.Prelude.{◌≡◌, ℕ, ◌+◌, Bool, true, false, ◌&&◌, List, [], ◌∷◌, Option, Some, None}
use Rattle.go_text.specs.declared.edition.Edition.{Edition}
use Rattle.go_scan.specs.declared.token.TokenKind.{TokenKind}
use Rattle.go_scan.specs.declared.keyword.Keyword.TheVariants as keywords
use Rattle.go_ast.specs.declared.expression.BinaryOperator.{BinaryOperator}
use Rattle.go_ast.specs.Trees as trees
use Rattle.go_ast.specs.Kinds.{same}
use Rattle.go_ast.specs.Operators.{assignment_of}
use Rattle.go_ast.specs.Expected as expected
use Rattle.go_ast.specs.Grammar.{Lexeme, semicolon, closing_brace, opening_brace, is_call, simple_place}
use Rattle.go_ast.specs.Machine as machine
use Rattle.go_ast.specs.Machine.{Reader, Move, Take, Fail, cond, parser_step, final, final_if, optional, keyword, is_header, on_left, behind_left}
use Rattle.go_ast.specs.Views.{expr_of, simple_of}
use Rattle.go_pstmt.specs.Due.{declared_or, jump_or}
use Rattle.go_pstmt.specs.declared.simple.Position.{Position}
use Rattle.go_pstmt.specs.declared.simple.Position.TheVariants as position
use Rattle.go_pstmt.specs.declared.simple.Header.{Header}
use Rattle.go_pstmt.specs.declared.simple.Header.TheVariants as header

-- simple statements

abbrev pub position_of : Position → machine.Position
position_of position.List = machine.in_list
position_of position.Header = machine.in_header
position_of position.For = machine.in_for
position_of position.Turns = machine.behind_turns

-- in front of a block: a literal of a named type needs parentheses
abbrev pub is_bare : Position → Bool
is_bare position.List = false
is_bare _ = true

-- what is expected where a simple statement begins
abbrev pub beginning : Position → expected.Expected
beginning position.List = expected.a_statement
beginning _ = expected.an_operand

-- what is due behind what was read: a statement, an expression alone, or `name := range` and an expression
abbrev pub by_header : (trees.Simple → Reader) → (trees.Expression → Reader) → (trees.Name → trees.Expression → Reader) → Header → Reader
by_header next alone range (header.Simple s) = next (simple_of s.value)
by_header next alone range (header.Alone e) = alone (expr_of e.value)
by_header next alone range (header.Range n e) = range n (expr_of e.value)

-- the operator of an assignment such as `+=`, if its token comes
abbrev pub assignment_operator : Option TokenKind → Option BinaryOperator
assignment_operator None = None
assignment_operator (Some k) = assignment_of k

-- What a state does with the first of these tokens, or at their end.
abbrev pub Does : Edition → Reader → (Lexeme → Move) → Option trees.File → List Lexeme → Type 0
Does ed s on end [] = final s ≡ end
Does ed s on end (t ∷ ts) = parser_step ed s t ≡ on t

-- behind one left side, where neither another nor `=` nor a short variable declaration follows
abbrev pub on_alone : Edition → machine.Position → trees.Expression → (trees.Simple → Reader) → (trees.Expression → Reader) → Lexeme → Move
on_alone ed m e next alone t =
    cond (is_header m && same opening_brace t.kind) (parser_step ed (alone e) t) (cond (is_call e) (parser_step ed (next (trees.call_statement e)) t) (Fail (behind_left m e)))

abbrev pub on_one : Edition → machine.Position → Bool → ℕ → trees.Expression → (trees.Simple → Reader) → (trees.Expression → Reader) → Lexeme → Move
on_one ed m h l e next alone t = on_left h l e next t (on_alone ed m e next alone t)

abbrev pub at_one : trees.Expression → (trees.Simple → Reader) → Option trees.File
at_one e next = final_if (is_call e) (final (next (trees.call_statement e)))

-- statements

-- One state is behind an item of a list of statements, behind which this is expected; the other is in front of the next item.
pub record Between (ed : Edition) (behind : Reader) (x : expected.Expected) (front : Reader) : Type 0 where
  pub ends : final behind ≡ None
  pub goes_on : (t : Lexeme) → t.kind ≡ semicolon → parser_step ed behind t ≡ Take 0 front
  pub closes : (t : Lexeme) → t.kind ≡ closing_brace → parser_step ed behind t ≡ parser_step ed front t
  pub fails : (t : Lexeme) → (t.kind ≡ semicolon → ⊥) → (t.kind ≡ closing_brace → ⊥) → parser_step ed behind t ≡ Fail x

-- an item of a list of statements
abbrev pub read_item : ℕ → (expected.Expected → trees.Statement → Reader) → (trees.Statement → Reader) → Lexeme → Move
read_item l next front t = cond (same semicolon t.kind) (Take l (front (trees.empty t.place))) (machine.on_stmt l next t)

-- a statement that isn't empty
abbrev pub due_stmt : ℕ → (trees.Statement → Reader) → Reader
due_stmt l next =
    declared_or l next
    (jump_or l next
    (optional opening_brace (l + 1) (machine.open_block (l + 1) (λ b. next (trees.block_statement b)))
    (optional (keyword keywords.If) (l + 1) (machine.behind_if l (λ i. next (trees.if_statement i)))
    (optional (keyword keywords.For) (l + 1) (machine.behind_for l next)
    (optional (keyword keywords.Switch) l (machine.behind_switch l next)
    (machine.expr 5 false (l + 1) expected.a_statement (machine.list_lefts machine.in_list false (l + 1) (λ s. next (trees.simple (simple_place s) s)))))))))

-- a clause ends
pub data EndsClause (k : TokenKind) : Type 0 where
  by_case : k ≡ keyword keywords.Case → EndsClause k
  by_default : k ≡ keyword keywords.Default → EndsClause k
  by_brace : k ≡ closing_brace → EndsClause k
