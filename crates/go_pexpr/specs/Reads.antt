-- What a function of the parser did.
use Rattle.std.specs.Prelude.{◌≡◌, ℕ, false, List, [], ◌∷◌, length, Result, Ok, Err, Option, Some, None}
use Rattle.go_text.specs.declared.edition.Edition.{Edition}
use Rattle.go_text.specs.Editions.{has_slices}
use Rattle.go_scan.specs.declared.token.TokenKind.{TokenKind}
use Rattle.go_scan.specs.declared.token.TokenKind.TheVariants as kinds
use Rattle.go_ast.specs.Expected as expected
use Rattle.go_ast.specs.Trees.{Name}
use Rattle.go_ast.specs.Grammar.{Lexeme}
use Rattle.go_ast.specs.Machine.{Reader, Refused, run_parser}
use Rattle.go_ast.specs.Tokens.{lexemes}
use Rattle.go_pexpr.specs.declared.expected.Expected.{Expected}
use Rattle.go_pexpr.specs.declared.expected.Expected.TheVariants as code
use Rattle.go_pexpr.specs.declared.parser.Parser.{Parser}
use Rattle.go_pexpr.specs.declared.parser.Fault.{Fault}
use Rattle.go_pexpr.specs.declared.parser.Fault.TheVariants.{LeftOut, Parse, Deep}
use Rattle.go_pexpr.specs.declared.parser.Refusal.{Refusal}
use Rattle.go_pexpr.specs.declared.parser.Refusal.TheVariants.{Memory, Wrong}

abbrev pub expected_of : Expected → expected.Expected
expected_of code.Operand = expected.an_operand
expected_of code.Value = expected.a_value
expected_of code.Type = expected.a_type
expected_of code.DeclaredType = expected.a_declared_type
expected_of code.ParameterType = expected.a_parameter_type
expected_of code.Length = expected.a_length
expected_of code.Index = expected.an_index
expected_of code.IndexEnd = expected.an_index_end
expected_of code.SelectedName = expected.a_selected_name
expected_of code.ElementEnd = expected.an_element_end
expected_of code.FieldEnd = expected.a_field_end
expected_of code.ResultEnd = expected.a_result_end
expected_of code.Statement = expected.a_statement
expected_of code.BehindName = expected.behind_a_name
expected_of code.BehindJump = expected.behind_a_jump
expected_of code.FunctionName = expected.a_function_name
expected_of code.FunctionOpening = expected.a_function_opening
expected_of code.Import = expected.an_import
expected_of code.ImportPath = expected.an_import_path
expected_of code.Another = expected.another

-- the number of a fault
abbrev pub number : Fault → ℕ
number LeftOut = 2
number Parse = 3
number Deep = 4

-- the token that a name is
abbrev pub lexeme_of : Name → Lexeme
lexeme_of n = record { kind = kinds.Name; text = n.text; place = n.place }

-- the tokens that a parser has left, with their bytes, and how many they are
abbrev pub left : Parser → List Lexeme
left r = lexemes r.text.now r.tokens.now

abbrev pub size : Parser → ℕ
size r = length r.tokens.now

-- there is a first token, and it is such
abbrev pub First : (Lexeme → Type 0) → List Lexeme → Type 0
First Is [] = ⊥
First Is (t ∷ ts) = Is t

-- the first token's kind, if there is one
abbrev pub first_kind : List Lexeme → Option TokenKind
first_kind [] = None
first_kind (t ∷ ts) = Some t.kind

-- the number of the fault where this is expected, and the first of these comes, or their end
abbrev pub fault_of : expected.Expected → List Lexeme → ℕ
fault_of x [] = 3
fault_of x (t ∷ ts) = expected.fault_at x t.kind

-- it is a fault of this number
abbrev pub Says : ℕ → Refusal → Type 0
Says n Memory = ⊥
Says n (Wrong f) = number f ≡ n

-- what is due behind what there may be
abbrev pub either : {A : Type 0} → (A → Reader) → Reader → Option A → Reader
either some none None = none
either some none (Some a) = some a

abbrev pub Failing : Refusal → Reader → Parser → Parser → Type 0
Failing (Wrong f) before old new = run_parser old.edition 250 before (left old) ≡ Refused (number f) (left new)
Failing Memory before old new = Unit {0}

abbrev pub Reading : {A : Type 0} → Reader → (A → Reader) → Parser → Result A Refusal → Parser → Type 0
Reading before after old (Ok a) new = run_parser old.edition 250 before (left old) ≡ run_parser new.edition 250 (after a) (left new)
Reading before after old (Err e) new = Failing e before old new

-- a state without slices that refuses a token which came with them, as what is left out where this is expected
abbrev pub Refusing : Edition → TokenKind → expected.Expected → Reader → Type 0
Refusing e k x s = has_slices e ≡ false → (ts : List Lexeme) → First (λ t. t.kind ≡ k) ts → run_parser e 250 s ts ≡ Refused (fault_of x ts) ts

-- the next token is of this kind
abbrev pub IsNext : TokenKind → Parser → Type 0
IsNext k r = First (λ t. t.kind ≡ k) (left r)

-- From one state and the tokens of old it came to another state and the tokens of new, or failed.
pub record Reads {A : Type 0} (before : Reader) (after : A → Reader) (old : Parser) (result : Result A Refusal) (new : Parser) : Type 0 where
  pub by : Reading before after old result new

-- what a function reads, seen so, is what this state is due in front of, whatever is due behind it
abbrev pub ReadsAs : {A B : Type 0} → (A → B) → ((B → Reader) → Reader) → Parser → Result A Refusal → Parser → Type 0
ReadsAs {A} {B} seen due old result new = (next : B → Reader) → Reads (due next) (λ a. next (seen a)) old result new

-- the same where there may be nothing to read
abbrev pub ReadsIf : {A B : Type 0} → (A → B) → ((B → Reader) → Reader → Reader) → Parser → Result (Option A) Refusal → Parser → Type 0
ReadsIf {A} {B} seen due old result new = (some : B → Reader) (none : Reader) → Reads (due some none) (either (λ a. some (seen a)) none) old result new
