-- One step of the scanner: what it adds, and that the tokens behind it stay.
use Rattle.std.proofs.Common.{◌≡◌, ℕ, ◌+◌, ◌≤◌, inl, inr, Bool, false, List, [], ◌∷◌, ◌++◌, length, take, drop, Option, Some, None, refl, sym, ap, ◌∙◌, arith, append_assoc, append-nil, length-take, subst}
use Rattle.go_text.specs.declared.place.Place.{Place}
use Rattle.go_text.specs.Places.{place_at, mark_size}
use Rattle.go_scan.specs.declared.fault.ScanFault.{ScanFault}
use Rattle.go_scan.specs.declared.fault.ScanFault.TheVariants.{Malformed}
use Rattle.go_scan.specs.declared.shape.Shape.{Shape}
use Rattle.go_scan.specs.declared.shape.Shape.TheVariants.{Word}
use Rattle.go_scan.specs.declared.token.Token.{Token}
use Rattle.go_scan.specs.declared.token.TokenKind.{TokenKind}
use Rattle.std.proofs.lemmas.List.{drop-drop}
use Rattle.go_scan.specs.Fronts.{front}
use Rattle.go_scan.proofs.Runs.{Good}
use Rattle.go_scan.proofs.Fronts.{good, piece_begins, begins_none}
use Rattle.go_scan.specs.Lex.{Piece, Begins, has_begun, shape_fault, piece_fault, IsRow, begun_after, IsRefused, Refuses, tokens_of, token_of, with_token, due_behind, due_before, with_semis}

-- what a step adds to the tokens for a piece of n bytes, and what is due then
abbrev pub Adds : List ℕ → ℕ → ℕ → Shape → List Token → Option Token → List Token → Option Token → Type 0
Adds text at n (Word kind) old due new then_due =
    (new ≡ old ++ due_before due (token_of text at kind n ∷ []) ++ token_of text at kind n ∷ [])
    × (then_due ≡ due_behind (token_of text at kind n) (place_at text (at + n)))
Adds text at n _ old due new then_due = (new ≡ old) × (then_due ≡ due)

-- all tokens: those so far, and what comes of those behind
abbrev pub all_with : List ℕ → List Token → Option Token → List Token → List Token
all_with text old due ts = old ++ (due_before due ts ++ with_semis text ts)

due_before_first : (due : Option Token) (t : Token) (ts : List Token) → due_before due (t ∷ ts) ≡ due_before due (t ∷ [])
due_before_first None t ts = refl
due_before_first (Some s) t ts = refl

pub adds_on : (text : List ℕ) (at n : ℕ) (shape : Shape) (old new : List Token) (due then_due : Option Token) → Adds text at n shape old due new then_due →
    (ts : List Token) → all_with text old due (with_token text at shape n ts) ≡ all_with text new then_due ts
adds_on text at n (Word kind) old new due then_due a ts =
    let t = token_of text at kind n in
    let D : List Token = due_before due (t ∷ []) in
    let E : List Token = due_before (due_behind t (place_at text (at + n))) ts in
    let W : List Token = with_semis text ts in
    ap (λ xs. old ++ (xs ++ ((t ∷ E) ++ W))) (due_before_first due t ts)
    ∙ regroup old D E W t
    ∙ ap (λ xs. xs ++ (E ++ W)) (sym a.0)
    ∙ ap (λ d. new ++ (due_before d ts ++ W)) (sym a.1)
  where
    regroup : (old D E W : List Token) (t : Token) → old ++ (D ++ ((t ∷ E) ++ W)) ≡ (old ++ D ++ t ∷ []) ++ (E ++ W)
    regroup old D E W t = simp append_assoc
adds_on text at n _ old new due then_due a ts =
    ap (λ xs. xs ++ (due_before due ts ++ with_semis text ts)) (sym a.0) ∙ ap (λ d. new ++ (due_before d ts ++ with_semis text ts)) (sym a.1)

-- whatever row the text from an offset on is, the whole text is one, with the tokens so far in front
abbrev pub Rowed : List ℕ → ℕ → ℕ → Bool → List Token → Option Token → Type 0
Rowed text start at begun old due =
    (qs : List Piece) (r : List ℕ) → IsRow begun qs (drop at text) r →
    (ps : List Piece) × IsRow false ps (drop start text) r × (with_semis text (tokens_of text start ps) ≡ all_with text old due (tokens_of text at qs)) × (begun_after false ps ≡ begun_after begun qs)

-- a step over the piece that the rest begins with keeps that
pub rowed_on : (text : List ℕ) (start at n : ℕ) (begun : Bool) (shape : Shape) (rest : List ℕ) (old new : List Token) (due then_due : Option Token) →
    rest ≡ drop at text → front rest ≡ Some (shape, n) → piece_fault begun (record { shape = shape; bytes = take n rest }) ≡ None → Adds text at n shape old due new then_due →
    Rowed text start at begun old due → Rowed text start (at + n) (has_begun begun shape) new then_due
rowed_on text start at n begun shape rest old new due then_due here found sound adds before qs r row =
    let x : Piece = record { shape = shape; bytes = take n rest } in
    let g : Good rest (Some (shape, n)) = subst (Good rest) found (good rest) in
    let size : length (take n rest) ≡ n = omega (arith, g.2, length-take n rest) in
    let behind : drop (at + n) text ≡ drop n rest = sym (drop-drop n at text) ∙ ap (λ ys. drop n ys) (sym here) in
    let first : Begins x (drop at text) (drop n rest) = subst (λ ys. Begins x ys (drop n rest)) here (piece_begins rest shape n found) in
    let w = before (x ∷ qs) r (drop n rest, first, sound, subst (λ ys. IsRow (has_begun begun shape) qs ys r) behind row) in (
      w.0,
      w.1,
      w.2 ∙ ap (λ k. all_with text old due (with_token text at shape k (tokens_of text (at + k) qs))) size
          ∙ adds_on text at n shape old new due then_due adds (tokens_of text (at + n) qs),
      w.3,
    )

-- what the end adds: the semicolon that is due
abbrev pub Ends : Option Token → List Token → List Token → Type 0
Ends None old new = new ≡ old
Ends (Some s) old new = new ≡ old ++ s ∷ []

pub ended : (text : List ℕ) (due : Option Token) (old new : List Token) → Ends due old new → all_with text old due [] ≡ new
ended text None old new e = append-nil old ∙ sym e
ended text (Some s) old new e = sym e

-- a row up to here, and what is refused here
pub refused_here : (text : List ℕ) (at : ℕ) (begun : Bool) (old : List Token) (due : Option Token) (rest : List ℕ) (fault : ScanFault) (place : Place) →
    Rowed text (mark_size text) at begun old due → rest ≡ drop at text → IsRefused begun rest fault → place ≡ place_at text at → Refuses text fault place
refused_here text at begun old due rest fault place rowed here refused same =
    let w = rowed [] (drop at text) refl in
    let there : IsRefused (begun_after false w.0) (drop at text) fault = subst (λ b. IsRefused b (drop at text) fault) (sym w.3) (subst (λ ys. IsRefused begun ys fault) here refused) in
    (w.0, at, w.1, there, same)

-- a rest that begins with no piece
pub refused_none : (begun : Bool) (rest : List ℕ) → 1 ≤ length rest → None ≡ front rest → IsRefused begun rest Malformed
refused_none begun [] some e = absurd (omega arith)
refused_none begun (b ∷ bs) some e = inr (begins_none b bs (sym e), refl)

-- a rest that begins with a piece with which something is wrong
pub refused_piece : (begun : Bool) (rest : List ℕ) (shape : Shape) (n : ℕ) (fault : ScanFault) → Some (shape, n) ≡ front rest → Some fault ≡ shape_fault begun shape (take n rest) → IsRefused begun rest fault
refused_piece begun rest shape n fault found e = inl (record { shape = shape; bytes = take n rest }, drop n rest, piece_begins rest shape n (sym found), sym e)

-- a piece that is no token adds nothing
pub no_word : (shape : Shape) (text : List ℕ) (at n : ℕ) (old new : List Token) (due then_due : Option Token) → ((k : TokenKind) → shape ≡ Word k → ⊥) → new ≡ old → then_due ≡ due → Adds text at n shape old due new then_due
no_word (Word k) text at n old new due then_due never e f = absurd (never k refl)
no_word _ text at n old new due then_due never e f = (e, f)

pub no_word_begun : (shape : Shape) (begun : Bool) → ((k : TokenKind) → shape ≡ Word k → ⊥) → has_begun begun shape ≡ begun
no_word_begun (Word k) begun never = absurd (never k refl)
no_word_begun _ begun never = refl

-- the first row
pub rowed_init : (text : List ℕ) (at : ℕ) (old : List Token) → at ≡ mark_size text → old ≡ [] → Rowed text (mark_size text) at false old None
rowed_init text at old e none qs r row = (
  qs,
  subst (λ k. IsRow false qs (drop k text) r) e row,
  ap (λ k. with_semis text (tokens_of text k qs)) (sym e) ∙ ap (λ xs. all_with text xs None (tokens_of text at qs)) (sym none),
  refl,
)

pub refuses_same : (text source : List ℕ) (f g : ScanFault) (a b : Place) → text ≡ source → f ≡ g → a ≡ b → Refuses text f a → Refuses source g b
refuses_same text source f g a b e h q r = subst (λ p. Refuses source g p) q (subst (λ x. Refuses source x a) h (subst (λ t. Refuses t f a) e r))
