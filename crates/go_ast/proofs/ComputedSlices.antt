-- Files with slices, by the machine: what each edition makes of them.
use Rattle.std.proofs.Common.{◌≡◌, ℕ, ◌+◌, List, [], ◌∷◌, ◌++◌, Option, Some, None, refl}
use Rattle.std.specs.Prelude.{codes}
use Rattle.go_text.specs.declared.edition.Edition.{Edition}
use Rattle.go_text.specs.declared.edition.Edition.TheVariants.{One, Two}
use Rattle.go_text.specs.declared.place.Place.{Place}
use Rattle.go_scan.specs.declared.token.TokenKind.{TokenKind}
use Rattle.go_scan.specs.declared.token.TokenKind.TheVariants as kinds
use Rattle.go_scan.specs.declared.keyword.Keyword.TheVariants as keywords
use Rattle.go_ast.specs.Trees.{Name, TypeExpr, named, array, slice, struct, no_fields, Expression, name, integer, composite_lit, conversion, index, cut, no_bound, bound, call, type_operand, ExpressionList, no_exprs, some_exprs, no_elements, File, Decl, variables, TopLevel, declared}
use Rattle.go_ast.specs.Grammar.{Lexeme, assign, opening, closing, opening_bracket, closing_bracket, opening_brace, closing_brace, comma, period, semicolon, colon}
use Rattle.go_ast.specs.Machine.{Reader, ParseOutcome, Done, Refused, run_parser, start}

-- tokens of one line, each at the column of its number
abbrev placed : ℕ → List (TokenKind × List ℕ) → List Lexeme
placed n [] = []
placed n (k ∷ ks) = record { kind = k.0; text = k.1; place = record { line = 1; column = n } } ∷ placed (n + 1) ks

abbrev at : ℕ → Place
at n = record { line = 1; column = n }

abbrev w : List ℕ → TokenKind × List ℕ
w text = (kinds.Name, text)

abbrev i : List ℕ → TokenKind × List ℕ
i text = (kinds.Integer, text)

abbrev m : TokenKind → TokenKind × List ℕ
m kind = (kind, [])

-- package p; var s = ..;
abbrev file : List (TokenKind × List ℕ) → List Lexeme
file ks =
    placed 1 (m (kinds.Keyword keywords.Package) ∷ w (codes "p") ∷ m semicolon ∷ m (kinds.Keyword keywords.Var) ∷ w (codes "s") ∷ m assign ∷ ks ++ m semicolon ∷ [])

abbrev value : ParseOutcome → Option Expression
value (Done f) = elim f.declarations [ declared (variables p (s ∷ [])) ∷ [] ↦ (elim s.values [ some_exprs e no_exprs ↦ Some e | _ ↦ None ]) | _ ↦ None ]
value (Refused number bad) = None

abbrev first_column : List Lexeme → ℕ
first_column [] = 0
first_column (t ∷ ts) = t.place.column

abbrev stop : ParseOutcome → Option (ℕ × ℕ)
stop (Done f) = None
stop (Refused number bad) = Some (number, first_column bad)

abbrev result : Edition → List (TokenKind × List ℕ) → ParseOutcome
result e ks = run_parser e 250 start (file ks)

abbrev int_at : ℕ → TypeExpr
int_at n = named (at n) (record { text = codes "int"; place = at n })

-- make([]int, 2, 1)
abbrev making : List (TokenKind × List ℕ)
making = w (codes "make") ∷ m opening ∷ m opening_bracket ∷ m closing_bracket ∷ w (codes "int") ∷ m comma ∷ i (codes "2") ∷ m comma ∷ i (codes "1") ∷ m closing ∷ []

pub make_row : value (result Two making) ≡ Some (call (at 7) (name (at 7) (codes "make"))
    (some_exprs (type_operand (at 9) (slice (at 9) (int_at 11))) (some_exprs (integer (at 13) (codes "2")) (some_exprs (integer (at 15) (codes "1")) no_exprs))))
unfolding Rattle.go_ast.specs.Machine.run_parser
make_row = refl

-- in the first edition it stops at the bracket that closes, by what is left out
pub make_row_one : stop (result One making) ≡ Some (2, 10)
unfolding Rattle.go_ast.specs.Machine.run_parser
make_row_one = refl

-- x[a:b], x[:], x[a:]
abbrev cutting : List (TokenKind × List ℕ) → List (TokenKind × List ℕ)
cutting ks = w (codes "x") ∷ m opening_bracket ∷ ks ++ m closing_bracket ∷ []

abbrev x : Expression
x = name (at 7) (codes "x")

pub cut_row : value (result Two (cutting (i (codes "1") ∷ m colon ∷ i (codes "2") ∷ []))) ≡ Some (cut (at 7) x (bound (integer (at 9) (codes "1"))) (bound (integer (at 11) (codes "2"))))
unfolding Rattle.go_ast.specs.Machine.run_parser
cut_row = refl

pub whole_row : value (result Two (cutting (m colon ∷ []))) ≡ Some (cut (at 7) x no_bound no_bound)
unfolding Rattle.go_ast.specs.Machine.run_parser
whole_row = refl

pub tail_row : value (result Two (cutting (i (codes "1") ∷ m colon ∷ []))) ≡ Some (cut (at 7) x (bound (integer (at 9) (codes "1"))) no_bound)
unfolding Rattle.go_ast.specs.Machine.run_parser
tail_row = refl

-- left out in both: a second colon, an index that is missing; and in the first the first colon
pub second_colon : stop (result Two (cutting (i (codes "1") ∷ m colon ∷ i (codes "2") ∷ m colon ∷ i (codes "3") ∷ []))) ≡ Some (2, 12)
unfolding Rattle.go_ast.specs.Machine.run_parser
second_colon = refl

pub two_colons : stop (result Two (cutting (m colon ∷ m colon ∷ []))) ≡ Some (2, 10)
unfolding Rattle.go_ast.specs.Machine.run_parser
two_colons = refl

pub no_index : stop (result Two (cutting [])) ≡ Some (2, 9)
unfolding Rattle.go_ast.specs.Machine.run_parser
no_index = refl

pub colon_one : stop (result One (cutting (i (codes "1") ∷ m colon ∷ []))) ≡ Some (2, 10)
unfolding Rattle.go_ast.specs.Machine.run_parser
colon_one = refl

pub first_colon_one : stop (result One (cutting (m colon ∷ []))) ≡ Some (2, 9)
unfolding Rattle.go_ast.specs.Machine.run_parser
first_colon_one = refl

-- []int{}, []int(x), [][2]int{}
pub literal_row : value (result Two (m opening_bracket ∷ m closing_bracket ∷ w (codes "int") ∷ m opening_brace ∷ m closing_brace ∷ [])) ≡ Some (composite_lit (at 7) (slice (at 7) (int_at 9)) (at 10) no_elements)
unfolding Rattle.go_ast.specs.Machine.run_parser
literal_row = refl

pub conversion_row : stop (result Two (m opening_bracket ∷ m closing_bracket ∷ w (codes "int") ∷ m opening ∷ w (codes "x") ∷ m closing ∷ [])) ≡ Some (3, 10)
unfolding Rattle.go_ast.specs.Machine.run_parser
conversion_row = refl

-- f([2]int{}), f([2]int), f([]int{}[0]), f(1, []int): a type is a call's first operand alone
abbrev calling : List (TokenKind × List ℕ) → List (TokenKind × List ℕ)
calling ks = w (codes "f") ∷ m opening ∷ ks ++ m closing ∷ []

abbrev pairs : List (TokenKind × List ℕ)
pairs = m opening_bracket ∷ i (codes "2") ∷ m closing_bracket ∷ w (codes "int") ∷ []

abbrev called : Expression → Expression
called e = call (at 7) (name (at 7) (codes "f")) (some_exprs e no_exprs)

abbrev pair_type : TypeExpr
pair_type = array (at 9) (integer (at 10) (codes "2")) (int_at 12)

pub operand_literal : value (result Two (calling (pairs ++ m opening_brace ∷ m closing_brace ∷ []))) ≡ Some (called (composite_lit (at 9) pair_type (at 13) no_elements))
unfolding Rattle.go_ast.specs.Machine.run_parser
operand_literal = refl

pub operand_literal_one : value (result One (calling (pairs ++ m opening_brace ∷ m closing_brace ∷ []))) ≡ Some (called (composite_lit (at 9) pair_type (at 13) no_elements))
unfolding Rattle.go_ast.specs.Machine.run_parser
operand_literal_one = refl

pub operand_type : value (result Two (calling pairs)) ≡ Some (called (type_operand (at 9) pair_type))
unfolding Rattle.go_ast.specs.Machine.run_parser
operand_type = refl

pub operand_type_one : stop (result One (calling pairs)) ≡ Some (3, 13)
unfolding Rattle.go_ast.specs.Machine.run_parser
operand_type_one = refl

pub operand_struct : value (result Two (calling (m (kinds.Keyword keywords.Struct) ∷ m opening_brace ∷ m closing_brace ∷ []))) ≡ Some (called (type_operand (at 9) (struct (at 9) no_fields)))
unfolding Rattle.go_ast.specs.Machine.run_parser
operand_struct = refl

pub operand_conversion : value (result Two (calling (pairs ++ m opening ∷ w (codes "x") ∷ m closing ∷ []))) ≡ Some (called (conversion (at 9) pair_type (name (at 14) (codes "x"))))
unfolding Rattle.go_ast.specs.Machine.run_parser
operand_conversion = refl

pub operand_index : value (result Two (calling (m opening_bracket ∷ m closing_bracket ∷ w (codes "int") ∷ m opening_brace ∷ m closing_brace ∷ m opening_bracket ∷ i (codes "0") ∷ m closing_bracket ∷ [])))
    ≡ Some (called (index (at 9) (composite_lit (at 9) (slice (at 9) (int_at 11)) (at 12) no_elements) (integer (at 15) (codes "0"))))
unfolding Rattle.go_ast.specs.Machine.run_parser
operand_index = refl

pub second_operand : stop (result Two (calling (i (codes "1") ∷ m comma ∷ m opening_bracket ∷ m closing_bracket ∷ w (codes "int") ∷ []))) ≡ Some (3, 14)
unfolding Rattle.go_ast.specs.Machine.run_parser
second_operand = refl
