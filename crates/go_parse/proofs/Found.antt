-- What a text is, by what its tokens were read as.
use Rattle.std.proofs.Common.{◌≡◌, ℕ, List, inl, inr, sym, ap, ◌∙◌, subst, arith}
use Rattle.go_text.specs.declared.edition.Edition.{Edition}
use Rattle.go_text.specs.declared.fault.FaultKind.{FaultKind}
use Rattle.go_text.specs.declared.place.Place.{Place}
use Rattle.go_text.specs.Faults.{fault_number}
use Rattle.go_scan.specs.declared.fault.ScanFault.{ScanFault}
use Rattle.go_scan.specs.declared.token.Token.{Token}
use Rattle.go_scan.specs.Lex.{Lexes, Refuses}
use Rattle.go_ast.specs.Trees.{File}
use Rattle.go_ast.specs.Grammar.{Lexeme}
use Rattle.go_ast.specs.Machine.{start, Done, Refused, run_parser}
use Rattle.go_ast.specs.Stops.{StopsAt}
use Rattle.go_ast.specs.Tokens.{lexemes}
use Rattle.go_ast.proofs.Theorem.{taken_derived, refused_stops}
use Rattle.go_pexpr.specs.declared.parser.Parser.{Parser}
use Rattle.go_pexpr.specs.declared.parser.Fault.{Fault}
use Rattle.go_pexpr.specs.declared.parser.Refusal.{Refusal}
use Rattle.go_pexpr.specs.declared.parser.Refusal.TheVariants.{Wrong}
use Rattle.go_pexpr.specs.Reads.{Failing, left, number}
use Rattle.go_ast.specs.Parse.{Derived, Stopped, IsParse, scan_kind, place_before}

-- the tokens that are read are those of the text
pub same_tokens : {text seen : List ℕ} {ts us : List Token} → seen ≡ text → us ≡ ts → lexemes text ts ≡ lexemes seen us
same_tokens {seen = seen} {ts = ts} text_is ts_is = ap (λ t. lexemes t ts) (sym text_is) ∙ ap (lexemes seen) (sym ts_is)

-- it has no tokens
pub has_none : (ed : Edition) → (text : List ℕ) (fault : ScanFault) (kind : FaultKind) (place : Place) → Refuses text fault place → kind ≡ scan_kind fault → IsParse ed text (Stopped kind place)
unfolding IsParse
has_none ed text fault kind place refuses e = inl (fault, refuses, e)

-- its tokens are a file
pub is_file : (ed : Edition) → (text : List ℕ) (ts : List Token) (f : File) → Lexes text ts → run_parser ed 250 start (lexemes text ts) ≡ Done f → IsParse ed text (Derived f)
unfolding IsParse
is_file ed text ts f lexes e = (ts, lexes, taken_derived ed 250 (lexemes text ts) f (omega arith) e)

-- or they stop being one
pub stops_being : (ed : Edition) → (text : List ℕ) (ts : List Token) (n : ℕ) (bad : List Lexeme) (kind : FaultKind) (place : Place) →
    Lexes text ts → run_parser ed 250 start (lexemes text ts) ≡ Refused n bad → fault_number kind ≡ n → place ≡ place_before text bad → IsParse ed text (Stopped kind place)
unfolding IsParse
stops_being ed text ts n bad kind place lexes e same there =
    inr (ts, bad, lexes, subst (λ m. StopsAt ed 250 (lexemes text ts) m bad) (sym same) (refused_stops ed 250 (lexemes text ts) n bad (omega arith) e), there)

-- a parser that failed by what its tokens are
pub refused_by : {e : Refusal} {fault : Fault} (old new : Parser) → e ≡ Wrong fault → Failing e start old new → run_parser old.edition 250 start (left old) ≡ Refused (number fault) (left new)
refused_by old new is failing = subst (λ z. Failing z start old new) is failing
