-- A text has one parse.
use Rattle.std.proofs.Common.{◌≡◌, ℕ, List, ◌⊎◌, inl, inr, refl, sym, ap, ◌∙◌, subst}
use Rattle.std.specs.Prelude.{nat_eq, if◌then◌else◌}
use Rattle.go_text.specs.declared.edition.Edition.{Edition}
use Rattle.go_text.specs.declared.fault.FaultKind.{FaultKind}
use Rattle.go_text.specs.declared.fault.FaultKind.TheVariants as faults
use Rattle.go_text.specs.declared.place.Place.{Place}
use Rattle.go_text.specs.Faults.{fault_number}
use Rattle.go_scan.specs.declared.token.Token.{Token}
use Rattle.go_scan.specs.Lex.{Lexes}
use Rattle.go_scan.proofs.Rows.{one_list, one_refusal}
use Rattle.go_scan.proofs.Rows as rows
use Rattle.go_ast.specs.Trees.{File}
use Rattle.go_ast.specs.Grammar.{Derives}
use Rattle.go_ast.specs.Stops.{StopsAt}
use Rattle.go_ast.specs.Tokens.{lexemes}
use Rattle.go_ast.specs.Parse.{Parse, Derived, Stopped, IsParse, IsRefused, StopsBeing, most_levels, scan_kind, place_before}
use Rattle.go_ast.proofs.Exact.{not_both, only_stop}
use Rattle.go_ast.proofs.Theorem.{one_file}

-- a kind is known by its number
kind_of : ℕ → FaultKind
kind_of n =
    if nat_eq n 1 then faults.Scan
    else (if nat_eq n 2 then faults.LeftOut
    else (if nat_eq n 3 then faults.Parse
    else (if nat_eq n 4 then faults.Deep
    else (if nat_eq n 5 then faults.Size
    else (if nat_eq n 6 then faults.PackageName
    else (if nat_eq n 7 then faults.NoImport
    else (if nat_eq n 8 then faults.Cycle
    else (if nat_eq n 9 then faults.Program
    else (if nat_eq n 10 then faults.Redeclared
    else (if nat_eq n 11 then faults.Undeclared
    else (if nat_eq n 12 then faults.UnusedImport
    else (if nat_eq n 13 then faults.Mismatch
    else (if nat_eq n 14 then faults.Range
    else (if nat_eq n 15 then faults.Constant
    else (if nat_eq n 16 then faults.DivideByZero
    else (if nat_eq n 17 then faults.Index
    else (if nat_eq n 18 then faults.NoReturn
    else (if nat_eq n 19 then faults.Assign
    else (if nat_eq n 20 then faults.Count
    else (if nat_eq n 21 then faults.Recursive
    else (if nat_eq n 22 then faults.InitCycle
    else (if nat_eq n 23 then faults.Main
    else (if nat_eq n 24 then faults.Branch
    else (if nat_eq n 25 then faults.Unexported
    else faults.Large))))))))))))))))))))))))

kind_again : (k : FaultKind) → kind_of (fault_number k) ≡ k
unfolding kind_of
kind_again faults.Scan = refl
kind_again faults.LeftOut = refl
kind_again faults.Parse = refl
kind_again faults.Deep = refl
kind_again faults.Size = refl
kind_again faults.PackageName = refl
kind_again faults.NoImport = refl
kind_again faults.Cycle = refl
kind_again faults.Program = refl
kind_again faults.Redeclared = refl
kind_again faults.Undeclared = refl
kind_again faults.UnusedImport = refl
kind_again faults.Mismatch = refl
kind_again faults.Range = refl
kind_again faults.Constant = refl
kind_again faults.DivideByZero = refl
kind_again faults.Index = refl
kind_again faults.NoReturn = refl
kind_again faults.Assign = refl
kind_again faults.Count = refl
kind_again faults.Recursive = refl
kind_again faults.InitCycle = refl
kind_again faults.Main = refl
kind_again faults.Branch = refl
kind_again faults.Unexported = refl
kind_again faults.Large = refl

one_kind : (k l : FaultKind) → fault_number k ≡ fault_number l → k ≡ l
one_kind k l e = sym (kind_again k) ∙ ap kind_of e ∙ kind_again l

same_lexemes : (text : List ℕ) (a b : List Token) → Lexes text a → Lexes text b → lexemes text b ≡ lexemes text a
same_lexemes text a b x y = ap (lexemes text) (one_list text b a y x)

-- a text isn't a file and stops being one
file_and_stop : (ed : Edition) → (text : List ℕ) (f : File) (kind : FaultKind) (place : Place) → IsParse ed text (Derived f) → IsParse ed text (Stopped kind place) → ⊥
unfolding IsParse
file_and_stop ed text f kind place p (inl r) = rows.not_both text p.0 r.0 place p.1 r.1
file_and_stop ed text f kind place p (inr s) =
    not_both ed most_levels (lexemes text p.0) f (fault_number kind) s.1 p.2
    (subst (λ us. StopsAt ed most_levels us (fault_number kind) s.1) (same_lexemes text p.0 s.0 p.1 s.2) s.3)

-- a text stops at one place for one fault
one_stop : (ed : Edition) → (text : List ℕ) (k l : FaultKind) (p q : Place) → IsRefused text k p ⊎ StopsBeing ed text k p → IsRefused text l q ⊎ StopsBeing ed text l q → (k ≡ l) × (p ≡ q)
one_stop ed text k l p q (inl r) (inl s) =
    let same = one_refusal text r.0 s.0 p q r.1 s.1 in (r.2 ∙ ap scan_kind same.0 ∙ sym s.2, same.1)
one_stop ed text k l p q (inl r) (inr s) = absurd (rows.not_both text s.0 r.0 p s.2 r.1)
one_stop ed text k l p q (inr r) (inl s) = absurd (rows.not_both text r.0 s.0 q r.2 s.1)
one_stop ed text k l p q (inr r) (inr s) =
    let same = only_stop ed most_levels (lexemes text r.0) (fault_number k) (fault_number l) r.1 s.1 r.3 (subst (λ us. StopsAt ed most_levels us (fault_number l) s.1) (same_lexemes text r.0 s.0 r.2 s.2) s.3) in
    (one_kind k l same.0, r.4 ∙ ap (place_before text) same.1 ∙ sym s.4)

pub one_parse : (ed : Edition) → (text : List ℕ) (a b : Parse) → IsParse ed text a → IsParse ed text b → a ≡ b
unfolding IsParse
one_parse ed text (Derived f) (Derived g) p q =
    ap Derived (one_file ed most_levels most_levels (lexemes text p.0) f g p.2 (subst (λ us. Derives ed most_levels us g) (same_lexemes text p.0 q.0 p.1 q.1) q.2))
one_parse ed text (Derived f) (Stopped l y) p q = absurd (file_and_stop ed text f l y p q)
one_parse ed text (Stopped k x) (Derived g) p q = absurd (file_and_stop ed text g k x q p)
one_parse ed text (Stopped k x) (Stopped l y) p q =
    let same = one_stop ed text k l x y p q in ap (λ z. Stopped z x) same.0 ∙ ap (Stopped l) same.1
