-- The files that two texts are: a package with a function, and a package main that calls it.
use Rattle.std.proofs.Common.{◌≡◌, ◌≢◌, ◌≤◌, ℕ, suc, true, false, List, [], ◌∷◌, None, codes, refl, sym, ◌∙◌, inl, inr, arith}
use Rattle.std.specs.Prelude.{bytes_eq}
use Rattle.std.proofs.lemmas.Slice.Eq.{bytes_eq-Decides}
use Rattle.go_text.specs.declared.edition.Edition.TheVariants.{One}
use Rattle.go_text.specs.declared.place.Place.{Place}
use Rattle.go_scan.specs.declared.keyword.Keyword.TheVariants as keywords
use Rattle.go_scan.specs.declared.token.TokenKind.{TokenKind}
use Rattle.go_scan.specs.declared.token.TokenKind.TheVariants as kinds
use Rattle.go_ast.specs.Grammar.{Lexeme, opening, closing, opening_brace, closing_brace, period, semicolon, IsExpr, IsFunction, AreImports, IsFile, Derives}
use Rattle.go_ast.specs.Parse.{Derived, IsParse}
use Rattle.go_ast.specs.Tokens.{lexemes}
use Rattle.go_ast.specs.Trees.{Name, Expression, name as name_expr, selector, call, call_statement, simple, no_exprs, Block, block, no_stmts, some_stmts, ImportSpec, FunctionDecl, function, File}
use Rattle.go_package_laws.proofs.LexedTexts.{library_text, library_tokens, library_lexes, caller_text, caller_tokens, caller_lexes}

-- a place on the first line, behind so many bytes
abbrev pub at : ℕ → Place
at n = record { line = 1; column = suc n }

abbrev pub name_at : List ℕ → ℕ → Name
name_at x n = record { text = x; place = at n }

abbrev pub lexeme_at : TokenKind → List ℕ → ℕ → Lexeme
lexeme_at kind text n = record { kind = kind; text = text; place = at n }

pub differ : (x y : List ℕ) → bytes_eq x y ≡ false → x ≢ y
differ x y other same =
    let no : false ≡ true = sym other ∙ (bytes_eq-Decides x y).1 same in
    cc (no)

-- ---- the library

abbrev library_function : FunctionDecl
library_function = record { place = at 12; name = name_at (codes "F") 17; parameters = []; results = []; body = block (at 20) no_stmts (at 21) }

abbrev pub library_file : File
library_file = record { «package» = name_at (codes "lib") 8; imports = []; declarations = function library_function ∷ [] }

abbrev library_end : List Lexeme
library_end = lexeme_at semicolon [] 22 ∷ []

abbrev library_body : List Lexeme
library_body = lexeme_at opening_brace (codes "{") 20 ∷ lexeme_at closing_brace (codes "}") 21 ∷ library_end

abbrev library_signature : List Lexeme
library_signature = lexeme_at opening (codes "(") 18 ∷ lexeme_at closing (codes ")") 19 ∷ library_body

abbrev library_declaration : List Lexeme
library_declaration = lexeme_at (kinds.Keyword keywords.Func) (codes "func") 12 ∷ lexeme_at kinds.Name (codes "F") 17 ∷ library_signature

library_is_function : IsFunction One library_function library_declaration library_end
library_is_function = (
  lexeme_at (kinds.Keyword keywords.Func) (codes "func") 12,
  lexeme_at kinds.Name (codes "F") 17,
  lexeme_at opening (codes "(") 18,
  lexeme_at closing (codes ")") 19,
  lexeme_at kinds.Name (codes "F") 17 ∷ library_signature,
  library_signature,
  lexeme_at closing (codes ")") 19 ∷ library_body,
  lexeme_at closing (codes ")") 19 ∷ library_body,
  library_body,
  library_body,
  record { whole = refl; is = refl },
  refl,
  record { whole = refl; is = refl },
  refl,
  record { whole = refl; is = refl },
  refl,
  record { whole = refl; is = refl },
  inl (refl, refl),
  (
    lexeme_at opening_brace (codes "{") 20,
    lexeme_at closing_brace (codes "}") 21,
    lexeme_at closing_brace (codes "}") 21 ∷ library_end,
    lexeme_at closing_brace (codes "}") 21 ∷ library_end,
    record { whole = refl; is = refl },
    refl,
    refl,
    record { whole = refl; is = refl },
    refl,
  ),
)

library_is_file : IsFile One library_file (lexemes library_text library_tokens)
library_is_file = (
  lexeme_at (kinds.Keyword keywords.Package) (codes "package") 0,
  lexeme_at kinds.Name (codes "lib") 8,
  lexeme_at semicolon (codes ";") 11,
  lexeme_at kinds.Name (codes "lib") 8 ∷ lexeme_at semicolon (codes ";") 11 ∷ library_declaration,
  lexeme_at semicolon (codes ";") 11 ∷ library_declaration,
  library_declaration,
  library_declaration,
  [],
  record { whole = refl; is = refl },
  record { whole = refl; is = refl },
  differ (codes "lib") (codes "_") refl,
  refl,
  record { whole = refl; is = refl },
  refl,
  refl,
  (lexeme_at semicolon [] 22, library_end, [], library_is_function, record { whole = refl; is = refl }, refl),
)

library_derives : Derives One 250 (lexemes library_text library_tokens) library_file
library_derives = record { derived = library_is_file; fits = (let le : 1 ≤ 250 = omega arith in le) }

pub library_parses : IsParse One library_text (Derived library_file)
unfolding IsParse
library_parses = (library_tokens, library_lexes, library_derives)

-- ---- its caller

abbrev called : Expression
called = call (at 38) (selector (at 38) (name_expr (at 38) (codes "lib")) (name_at (codes "F") 42)) no_exprs

abbrev caller_body : Block
caller_body = block (at 37) (some_stmts (simple (at 38) (call_statement called)) no_stmts) (at 45)

abbrev caller_function : FunctionDecl
caller_function = record { place = at 26; name = name_at (codes "main") 31; parameters = []; results = []; body = caller_body }

abbrev imports_library : ImportSpec
imports_library = record { place = at 20; name = None; path = codes "lib"; path_place = at 20 }

abbrev pub caller_file : File
caller_file = record { «package» = name_at (codes "main") 8; imports = imports_library ∷ []; declarations = function caller_function ∷ [] }

abbrev caller_end : List Lexeme
caller_end = lexeme_at semicolon [] 46 ∷ []

abbrev after_call : List Lexeme
after_call = lexeme_at closing_brace (codes "}") 45 ∷ caller_end

abbrev arguments : List Lexeme
arguments = lexeme_at opening (codes "(") 43 ∷ lexeme_at closing (codes ")") 44 ∷ after_call

abbrev selected : List Lexeme
selected = lexeme_at period (codes ".") 41 ∷ lexeme_at kinds.Name (codes "F") 42 ∷ arguments

abbrev statement : List Lexeme
statement = lexeme_at kinds.Name (codes "lib") 38 ∷ selected

abbrev body : List Lexeme
body = lexeme_at opening_brace (codes "{") 37 ∷ statement

abbrev caller_signature : List Lexeme
caller_signature = lexeme_at opening (codes "(") 35 ∷ lexeme_at closing (codes ")") 36 ∷ body

abbrev caller_declaration : List Lexeme
caller_declaration = lexeme_at (kinds.Keyword keywords.Func) (codes "func") 26 ∷ lexeme_at kinds.Name (codes "main") 31 ∷ caller_signature

abbrev behind_import : List Lexeme
behind_import = lexeme_at semicolon (codes ";") 25 ∷ caller_declaration

abbrev import_spec : List Lexeme
import_spec = lexeme_at kinds.String (codes "`lib`") 20 ∷ behind_import

abbrev import_declaration : List Lexeme
import_declaration = lexeme_at (kinds.Keyword keywords.Import) (codes "import") 13 ∷ import_spec

caller_is_function : IsFunction One caller_function caller_declaration caller_end
caller_is_function = (
  lexeme_at (kinds.Keyword keywords.Func) (codes "func") 26,
  lexeme_at kinds.Name (codes "main") 31,
  lexeme_at opening (codes "(") 35,
  lexeme_at closing (codes ")") 36,
  lexeme_at kinds.Name (codes "main") 31 ∷ caller_signature,
  caller_signature,
  lexeme_at closing (codes ")") 36 ∷ body,
  lexeme_at closing (codes ")") 36 ∷ body,
  body,
  body,
  record { whole = refl; is = refl },
  refl,
  record { whole = refl; is = refl },
  refl,
  record { whole = refl; is = refl },
  refl,
  record { whole = refl; is = refl },
  inl (refl, refl),
  (
    lexeme_at opening_brace (codes "{") 37,
    lexeme_at closing_brace (codes "}") 45,
    statement,
    after_call,
    record { whole = refl; is = refl },
    refl,
    (after_call, ((is_called, refl), refl), inr ((refl, refl), refl)),
    record { whole = refl; is = refl },
    refl,
  ),
)
  where
    is_selector : IsExpr One 0 false (selector (at 38) (name_expr (at 38) (codes "lib")) (name_at (codes "F") 42)) statement arguments
    is_selector = (
      lexeme_at period (codes ".") 41,
      lexeme_at kinds.Name (codes "F") 42,
      selected,
      lexeme_at kinds.Name (codes "F") 42 ∷ arguments,
      refl,
      tt,
      (lexeme_at kinds.Name (codes "lib") 38, record { whole = refl; is = refl }, refl, refl),
      record { whole = refl; is = refl },
      record { whole = refl; is = refl },
      refl,
    )

    is_called : IsExpr One 5 false called statement after_call
    is_called = (
      lexeme_at opening (codes "(") 43,
      lexeme_at closing (codes ")") 44,
      arguments,
      lexeme_at closing (codes ")") 44 ∷ after_call,
      lexeme_at closing (codes ")") 44 ∷ after_call,
      refl,
      tt,
      is_selector,
      record { whole = refl; is = refl },
      refl,
      record { whole = refl; is = refl },
    )

caller_imports : AreImports ((imports_library ∷ []) ∷ []) import_declaration caller_declaration
caller_imports = (
  lexeme_at (kinds.Keyword keywords.Import) (codes "import") 13,
  lexeme_at semicolon (codes ";") 25,
  import_spec,
  behind_import,
  caller_declaration,
  record { whole = refl; is = refl },
  inl (
    imports_library,
    refl,
    (
      lexeme_at kinds.String (codes "`lib`") 20,
      lexeme_at kinds.String (codes "`lib`") 20,
      import_spec,
      inl (refl, refl, refl),
      record { whole = refl; is = refl },
      inl (inr (codes "lib", refl, refl, refl)),
      differ (codes "lib") (codes "C") refl,
      refl,
    ),
  ),
  record { whole = refl; is = refl },
  refl,
)

caller_is_file : IsFile One caller_file (lexemes caller_text caller_tokens)
caller_is_file = (
  lexeme_at (kinds.Keyword keywords.Package) (codes "package") 0,
  lexeme_at kinds.Name (codes "main") 8,
  lexeme_at semicolon (codes ";") 12,
  lexeme_at kinds.Name (codes "main") 8 ∷ lexeme_at semicolon (codes ";") 12 ∷ import_declaration,
  lexeme_at semicolon (codes ";") 12 ∷ import_declaration,
  import_declaration,
  caller_declaration,
  (imports_library ∷ []) ∷ [],
  record { whole = refl; is = refl },
  record { whole = refl; is = refl },
  differ (codes "main") (codes "_") refl,
  refl,
  record { whole = refl; is = refl },
  caller_imports,
  refl,
  (lexeme_at semicolon [] 46, caller_end, [], caller_is_function, record { whole = refl; is = refl }, refl),
)

caller_derives : Derives One 250 (lexemes caller_text caller_tokens) caller_file
caller_derives = record { derived = caller_is_file; fits = (let le : 5 ≤ 250 = omega arith in le) }

pub caller_parses : IsParse One caller_text (Derived caller_file)
unfolding IsParse
caller_parses = (caller_tokens, caller_lexes, caller_derives)
