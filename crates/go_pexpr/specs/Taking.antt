-- What the functions do that take tokens.
use Rattle.std.specs.Prelude.{◌≡◌, ℕ, List, Result, Option}
use Rattle.go_scan.specs.declared.token.Token.{Token}
use Rattle.go_scan.specs.declared.token.TokenKind.{TokenKind}
use Rattle.go_ast.specs.Expected.{Expected}
use Rattle.go_ast.specs.Grammar.{Lexeme}
use Rattle.go_ast.specs.Machine.{Reader, ListKind, Item, token, newer, list_start, list_end, separator, closer}
use Rattle.go_ast.specs.Tokens.{lexeme}
use Rattle.go_pexpr.specs.declared.parser.Parser.{Parser}
use Rattle.go_pexpr.specs.declared.parser.Refusal.{Refusal}
use Rattle.go_pexpr.specs.Reads.{IsNext, Reads, Refusing, either}

-- the next token is taken, whatever kind of it is due
abbrev pub TakesNext : ℕ → Parser → Result Token Refusal → Parser → Type 0
TakesNext need old result new =
    (k : TokenKind) (x : Expected) (next : Lexeme → Reader) → IsNext k old → Reads (token k need x next) (λ t. next (lexeme old.text.now t)) old result new

-- a token that came with slices is taken, if it is next
abbrev pub TakesNewer : TokenKind → Parser → Result (Option Token) Refusal → Parser → Type 0
TakesNewer kind old result new =
    (x : Expected) (some : Lexeme → Reader) (none : Reader) → Refusing old.edition kind x none
    → Reads (newer kind 0 x some none) (either (λ t. some (lexeme old.text.now t)) none) old result new

-- what stands behind an item of a list is taken, so that the next one begins or the list ends
abbrev pub Separates : TokenKind → TokenKind → Expected → Parser → Result (Unit {0}) Refusal → Parser → Type 0
Separates between last x old result new =
    (k : ListKind) (front : List (Item k)) (next : List (Item k) → Lexeme → Reader) → between ≡ separator k → last ≡ closer k
    → Reads (list_end k x front next) (λ _. list_start k front next) old result new
