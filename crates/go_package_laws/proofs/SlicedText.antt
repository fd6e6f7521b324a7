-- A text of edition 2, a package main with a slice, and the file that it is.
use Rattle.std.proofs.Common.{◌≤◌, ℕ, false, List, [], ◌∷◌, None, codes, refl, inl, inr, arith}
use Rattle.ucd_category.specs.GeneralCategory.{general_category}
use Rattle.ucd_category.specs.GeneralCategoryRows.{general_category_rows}
use Rattle.ucd_table.specs.Rows.{value_in}
use Rattle.go_text.specs.declared.edition.Edition.TheVariants.{Two}
use Rattle.go_scan.specs.declared.keyword.Keyword.TheVariants as keywords
use Rattle.go_scan.specs.declared.punctuation.Punctuation.TheVariants as marks
use Rattle.go_scan.specs.declared.token.Token.{Token}
use Rattle.go_scan.specs.declared.token.TokenKind.TheVariants as kinds
use Rattle.go_scan.specs.Lex.{Lexes}
use Rattle.go_ast.specs.Grammar.{Lexeme, assign, opening, closing, opening_bracket, closing_bracket, opening_brace, closing_brace, semicolon, IsExpr, IsDecl, IsFunction, IsFile, Derives}
use Rattle.go_ast.specs.Parse.{Derived, IsParse}
use Rattle.go_ast.specs.Tokens.{lexemes}
use Rattle.go_ast.specs.Trees.{TypeExpr, named, slice, Expression, integer, composite_lit, element, no_elements, expression_element, no_exprs, some_exprs, block, no_stmts, variables, Decl, declared, FunctionDecl, function, File}
use Rattle.go_package_laws.proofs.LexedTexts.{token, pieces_in, row_by}
use Rattle.go_package_laws.proofs.ParsedTexts.{at, name_at, lexeme_at, differ}

-- ---- its tokens

abbrev pub sliced_text : List ℕ
sliced_text = codes "package main;var x=[]int{1};func main(){}"

abbrev sliced_tokens : List Token
sliced_tokens =
    token (kinds.Keyword keywords.Package) 0 7 ∷ token kinds.Name 8 12 ∷ token (kinds.Punctuation marks.Semicolon) 12 13
    ∷ token (kinds.Keyword keywords.Var) 13 16 ∷ token kinds.Name 17 18 ∷ token (kinds.Punctuation marks.Assign) 18 19
    ∷ token (kinds.Punctuation marks.OpenBracket) 19 20 ∷ token (kinds.Punctuation marks.CloseBracket) 20 21 ∷ token kinds.Name 21 24
    ∷ token (kinds.Punctuation marks.OpenBrace) 24 25 ∷ token kinds.Integer 25 26 ∷ token (kinds.Punctuation marks.CloseBrace) 26 27
    ∷ token (kinds.Punctuation marks.Semicolon) 27 28
    ∷ token (kinds.Keyword keywords.Func) 28 32 ∷ token kinds.Name 33 37
    ∷ token (kinds.Punctuation marks.OpenParenthesis) 37 38 ∷ token (kinds.Punctuation marks.CloseParenthesis) 38 39
    ∷ token (kinds.Punctuation marks.OpenBrace) 39 40 ∷ token (kinds.Punctuation marks.CloseBrace) 40 41 ∷ token (kinds.Punctuation marks.Semicolon) 41 41 ∷ []

sliced_lexes : Lexes sliced_text sliced_tokens
unfolding general_category value_in general_category_rows
sliced_lexes = (pieces_in 22 sliced_text, row_by 22 false sliced_text refl, refl)

-- ---- its tree

abbrev ints : TypeExpr
ints = slice (at 19) (named (at 21) (name_at (codes "int") 21))

abbrev literal : Expression
literal = composite_lit (at 19) ints (at 24) (element None (expression_element (integer (at 25) (codes "1"))) no_elements)

abbrev declaration : Decl
declaration = variables (at 13) (record { names = name_at (codes "x") 17 ∷ []; type = None; values = some_exprs literal no_exprs } ∷ [])

abbrev main_function : FunctionDecl
main_function = record { place = at 28; name = name_at (codes "main") 33; parameters = []; results = []; body = block (at 39) no_stmts (at 40) }

abbrev pub sliced_file : File
sliced_file = record { «package» = name_at (codes "main") 8; imports = []; declarations = declared declaration ∷ function main_function ∷ [] }

-- ---- the tokens from some places on

abbrev the_end : List Lexeme
the_end = lexeme_at semicolon [] 41 ∷ []

abbrev body : List Lexeme
body = lexeme_at opening_brace (codes "{") 39 ∷ lexeme_at closing_brace (codes "}") 40 ∷ the_end

abbrev signature : List Lexeme
signature = lexeme_at opening (codes "(") 37 ∷ lexeme_at closing (codes ")") 38 ∷ body

abbrev main_declaration : List Lexeme
main_declaration = lexeme_at (kinds.Keyword keywords.Func) (codes "func") 28 ∷ lexeme_at kinds.Name (codes "main") 33 ∷ signature

abbrev behind_literal : List Lexeme
behind_literal = lexeme_at semicolon (codes ";") 27 ∷ main_declaration

abbrev elements_end : List Lexeme
elements_end = lexeme_at closing_brace (codes "}") 26 ∷ behind_literal

abbrev elements : List Lexeme
elements = lexeme_at kinds.Integer (codes "1") 25 ∷ elements_end

abbrev braces : List Lexeme
braces = lexeme_at opening_brace (codes "{") 24 ∷ elements

abbrev element_type : List Lexeme
element_type = lexeme_at kinds.Name (codes "int") 21 ∷ braces

abbrev bracket_end : List Lexeme
bracket_end = lexeme_at closing_bracket (codes "]") 20 ∷ element_type

abbrev value : List Lexeme
value = lexeme_at opening_bracket (codes "[") 19 ∷ bracket_end

abbrev assigned : List Lexeme
assigned = lexeme_at assign (codes "=") 18 ∷ value

abbrev spec : List Lexeme
spec = lexeme_at kinds.Name (codes "x") 17 ∷ assigned

abbrev variable_declaration : List Lexeme
variable_declaration = lexeme_at (kinds.Keyword keywords.Var) (codes "var") 13 ∷ spec

-- ---- they are the tree

is_literal : IsExpr Two 5 false literal value behind_literal
is_literal = (
  lexeme_at opening_brace (codes "{") 24,
  lexeme_at closing_brace (codes "}") 26,
  braces,
  elements,
  elements_end,
  λ header. refl,
  (
    lexeme_at opening_bracket (codes "[") 19,
    lexeme_at closing_bracket (codes "]") 20,
    bracket_end,
    element_type,
    refl,
    record { whole = refl; is = refl },
    refl,
    record { whole = refl; is = refl },
    (lexeme_at kinds.Name (codes "int") 21, record { whole = refl; is = refl }, refl, refl),
  ),
  refl,
  record { whole = refl; is = refl },
  refl,
  (
    elements,
    elements_end,
    refl,
    (lexeme_at kinds.Integer (codes "1") 25, record { whole = refl; is = refl }, refl, refl),
    inr (refl, refl),
  ),
  record { whole = refl; is = refl },
)

is_declaration : IsDecl Two declaration variable_declaration behind_literal
is_declaration = (
  lexeme_at (kinds.Keyword keywords.Var) (codes "var") 13,
  spec,
  record { whole = refl; is = refl },
  refl,
  inl (
    record { names = name_at (codes "x") 17 ∷ []; type = None; values = some_exprs literal no_exprs },
    refl,
    (
      assigned,
      (lexeme_at kinds.Name (codes "x") 17, assigned, record { whole = refl; is = refl }, refl, refl),
      inr (
        assigned,
        refl,
        (lexeme_at assign (codes "=") 18, value, record { whole = refl; is = refl }, (behind_literal, is_literal, refl)),
      ),
    ),
  ),
)

is_main : IsFunction Two main_function main_declaration the_end
is_main = (
  lexeme_at (kinds.Keyword keywords.Func) (codes "func") 28,
  lexeme_at kinds.Name (codes "main") 33,
  lexeme_at opening (codes "(") 37,
  lexeme_at closing (codes ")") 38,
  lexeme_at kinds.Name (codes "main") 33 ∷ signature,
  signature,
  lexeme_at closing (codes ")") 38 ∷ body,
  lexeme_at closing (codes ")") 38 ∷ body,
  body,
  body,
  record { whole = refl; is = refl },
  refl,
  record { whole = refl; is = refl },
  refl,
  record { whole = refl; is = refl },
  refl,
  record { whole = refl; is = refl },
  inl (refl, refl),
  (
    lexeme_at opening_brace (codes "{") 39,
    lexeme_at closing_brace (codes "}") 40,
    lexeme_at closing_brace (codes "}") 40 ∷ the_end,
    lexeme_at closing_brace (codes "}") 40 ∷ the_end,
    record { whole = refl; is = refl },
    refl,
    refl,
    record { whole = refl; is = refl },
    refl,
  ),
)

is_file : IsFile Two sliced_file (lexemes sliced_text sliced_tokens)
is_file = (
  lexeme_at (kinds.Keyword keywords.Package) (codes "package") 0,
  lexeme_at kinds.Name (codes "main") 8,
  lexeme_at semicolon (codes ";") 12,
  lexeme_at kinds.Name (codes "main") 8 ∷ lexeme_at semicolon (codes ";") 12 ∷ variable_declaration,
  lexeme_at semicolon (codes ";") 12 ∷ variable_declaration,
  variable_declaration,
  variable_declaration,
  [],
  record { whole = refl; is = refl },
  record { whole = refl; is = refl },
  differ (codes "main") (codes "_") refl,
  refl,
  record { whole = refl; is = refl },
  refl,
  refl,
  (
    lexeme_at semicolon (codes ";") 27,
    behind_literal,
    main_declaration,
    is_declaration,
    record { whole = refl; is = refl },
    (lexeme_at semicolon [] 41, the_end, [], is_main, record { whole = refl; is = refl }, refl),
  ),
)

derives : Derives Two 250 (lexemes sliced_text sliced_tokens) sliced_file
derives = record { derived = is_file; fits = (let le : 3 ≤ 250 = omega arith in le) }

pub sliced_parses : IsParse Two sliced_text (Derived sliced_file)
unfolding IsParse
sliced_parses = (sliced_tokens, sliced_lexes, derives)
