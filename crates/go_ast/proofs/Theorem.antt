-- The machine and the grammar agree: for lists of tokens that are files, for all others, and for the token at which they
-- stop being one.
use Rattle.std.proofs.Common.{◌≡◌, ◌≢◌, ℕ, ◌≤◌, max, ◌⊎◌, inl, inr, Bool, true, false, List, [], ◌∷◌, refl, sym, ap, ◌∙◌, arith}
use Rattle.std.specs.Prelude.{nat_eq}
use Rattle.std.proofs.lemmas.Bool.Decides.{nat_tests}
use Rattle.go_text.specs.declared.edition.Edition.{Edition}
use Rattle.go_ast.specs.Trees.{File}
use Rattle.go_ast.specs.Grammar.{Lexeme, Derives}
use Rattle.go_ast.specs.Machine.{start, ParseOutcome, Done, Refused, run_parser}
use Rattle.go_ast.specs.Stops.{IsFault, StopsAt}
use Rattle.go_ast.proofs.StatementTokens.{statement_known}
use Rattle.go_ast.proofs.All.{all}
use Rattle.go_ast.proofs.Final as final
use Rattle.go_ast.proofs.Final.{Theory, larger}
use Rattle.go_ast.proofs.Exact.{not_both, only_stop}
use Rattle.go_ast.proofs.LeftOutFault.{told}

pub theory : (ed : Edition) → (B : ℕ) → Theory ed B
theory ed B = all ed B (statement_known ed B)

-- a list of tokens that is taken is derived, and the other way round
pub taken_derived : (ed : Edition) → (B : ℕ) (ts : List Lexeme) (f : File) → 1 ≤ B → run_parser ed B start ts ≡ Done f → Derives ed B ts f
taken_derived ed B ts f one e = final.is_derived ed B (theory ed B) ts f one e

pub derived_taken : (ed : Edition) → (B : ℕ) (ts : List Lexeme) (f : File) → 1 ≤ B → Derives ed B ts f → run_parser ed B start ts ≡ Done f
derived_taken ed B ts f one d = final.is_done ed B (theory ed B) ts f one d

-- tokens are at most one file
pub one_file : (ed : Edition) → (m n : ℕ) (ts : List Lexeme) (f g : File) → Derives ed m ts f → Derives ed n ts g → f ≡ g
one_file ed m n ts f g d e =
    let C = max 1 (max m n) in
    final.only_one ed C (theory ed C) ts f g (omega arith) (larger ed m C ts f (omega arith) d) (larger ed n C ts g (omega arith) e)

-- where a list is refused it stops being a file, and the other way round
pub refused_stops : (ed : Edition) → (B : ℕ) (ts : List Lexeme) (n : ℕ) (bad : List Lexeme) → 1 ≤ B → run_parser ed B start ts ≡ Refused n bad → StopsAt ed B ts n bad
refused_stops ed B ts n bad one e = final.stops_at ed (theory ed) (told ed (theory ed)) B ts n bad one e

pub stops_refused : (ed : Edition) → (B : ℕ) (ts : List Lexeme) (n : ℕ) (bad : List Lexeme) → 1 ≤ B → StopsAt ed B ts n bad → run_parser ed B start ts ≡ Refused n bad
stops_refused ed B ts n bad one s = by_outcome (run_parser ed B start ts) refl
  where
    by_outcome : (o : ParseOutcome) → run_parser ed B start ts ≡ o → run_parser ed B start ts ≡ Refused n bad
    by_outcome (Done f) e = absurd (not_both ed B ts f n bad (taken_derived ed B ts f one e) s)
    by_outcome (Refused m ys) e =
        let same = only_stop ed B ts m n ys bad (refused_stops ed B ts m ys one e) s in
        e ∙ ap (λ x. Refused x ys) same.0 ∙ ap (λ x. Refused n x) same.1

-- each list of tokens is a file or stops being one
pub file_or_stop : (ed : Edition) → (B : ℕ) (ts : List Lexeme) → 1 ≤ B → ((f : File) × Derives ed B ts f) ⊎ ((n : ℕ) × (bad : List Lexeme) × StopsAt ed B ts n bad)
file_or_stop ed B ts one = by_outcome (run_parser ed B start ts) refl
  where
    by_outcome : (o : ParseOutcome) → run_parser ed B start ts ≡ o → ((f : File) × Derives ed B ts f) ⊎ ((n : ℕ) × (bad : List Lexeme) × StopsAt ed B ts n bad)
    by_outcome (Done f) e = inl (f, taken_derived ed B ts f one e)
    by_outcome (Refused n bad) e = inr (n, bad, refused_stops ed B ts n bad one e)

-- the numbers that there are
fault_of : (ed : Edition) → (good bad : List Lexeme) (n : ℕ) → IsFault ed good bad n → (n ≡ 2) ⊎ ((n ≡ 3) ⊎ (n ≡ 4))
fault_of ed good [] n e = inr (inl e)
fault_of ed good (t ∷ ts) n (inl f) = inl f.0
fault_of ed good (t ∷ ts) n (inr f) = inr (inl f.0)

pub numbers : (ed : Edition) → (B : ℕ) (ts : List Lexeme) (n : ℕ) (bad : List Lexeme) → StopsAt ed B ts n bad → (n ≡ 2) ⊎ ((n ≡ 3) ⊎ (n ≡ 4))
numbers ed B ts n bad s = by_test (nat_eq n 4) refl
  where
    by_test : (c : Bool) → nat_eq n 4 ≡ c → (n ≡ 2) ⊎ ((n ≡ 3) ⊎ (n ≡ 4))
    by_test true e = inr (inr (grind (arith, nat_tests)))
    by_test false e =
        let other : n ≢ 4 = λ q. (let wrong : true ≡ false = sym (ap (λ k. nat_eq k 4) q) ∙ e in cc (wrong)) in
        fault_of ed s.good bad n (s.fault other)
