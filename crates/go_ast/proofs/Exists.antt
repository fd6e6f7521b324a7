-- A text has a parse.
use Rattle.std.proofs.Common.{◌≡◌, ℕ, List, ◌⊎◌, inl, inr, refl, sym, subst, arith}
use Rattle.go_text.specs.declared.edition.Edition.{Edition}
use Rattle.go_text.specs.declared.fault.FaultKind.{FaultKind}
use Rattle.go_text.specs.declared.fault.FaultKind.TheVariants as faults
use Rattle.go_text.specs.declared.place.Place.{Place}
use Rattle.go_text.specs.Faults.{fault_number}
use Rattle.go_scan.specs.declared.fault.ScanFault.{ScanFault}
use Rattle.go_scan.specs.declared.token.Token.{Token}
use Rattle.go_scan.specs.Lex.{Lexes, Refuses}
use Rattle.go_scan.proofs.Rows.{list_or_refusal}
use Rattle.go_ast.specs.Trees.{File}
use Rattle.go_ast.specs.Grammar.{Lexeme, Derives}
use Rattle.go_ast.specs.Stops.{StopsAt}
use Rattle.go_ast.specs.Tokens.{lexemes}
use Rattle.go_ast.specs.Parse.{Parse, Derived, Stopped, IsParse, most_levels, scan_kind, place_before}
use Rattle.go_ast.proofs.Theorem.{file_or_stop, numbers}

-- there is a kind of each number that there is
some_kind : (n : ℕ) → (n ≡ 2) ⊎ ((n ≡ 3) ⊎ (n ≡ 4)) → (k : FaultKind) × (fault_number k ≡ n)
some_kind n (inl e) = (faults.LeftOut, sym e)
some_kind n (inr (inl e)) = (faults.Parse, sym e)
some_kind n (inr (inr e)) = (faults.Deep, sym e)

by_tokens : (ed : Edition) → (text : List ℕ) (ts : List Token) → Lexes text ts → ((f : File) × Derives ed most_levels (lexemes text ts) f) ⊎ ((n : ℕ) × (bad : List Lexeme) × StopsAt ed most_levels (lexemes text ts) n bad) → (parse : Parse) × IsParse ed text parse
unfolding IsParse
by_tokens ed text ts lexes (inl d) = (Derived d.0, (ts, lexes, d.1))
by_tokens ed text ts lexes (inr s) =
    let kind = some_kind s.0 (numbers ed most_levels (lexemes text ts) s.0 s.1 s.2) in
    (Stopped kind.0 (place_before text s.1), inr (ts, s.1, lexes, subst (λ n. StopsAt ed most_levels (lexemes text ts) n s.1) (sym kind.1) s.2, refl))

by_scan : (ed : Edition) → (text : List ℕ) → ((ts : List Token) × Lexes text ts) ⊎ ((fault : ScanFault) × (place : Place) × Refuses text fault place) → (parse : Parse) × IsParse ed text parse
unfolding IsParse
by_scan ed text (inl ts) = by_tokens ed text ts.0 ts.1 (file_or_stop ed most_levels (lexemes text ts.0) (omega arith))
by_scan ed text (inr r) = (Stopped (scan_kind r.0) r.1, inl (r.0, r.2, refl))

pub parse_exists : (ed : Edition) → (text : List ℕ) → (parse : Parse) × IsParse ed text parse
parse_exists ed text = by_scan ed text (list_or_refusal text)
