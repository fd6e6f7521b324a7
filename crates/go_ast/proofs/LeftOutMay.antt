-- Behind some tokens a file may go on with some kinds just where the machine's state takes tokens of these kinds.
use Rattle.std.proofs.Common.{◌≡◌, ℕ, ◌≤◌, max, true, false, List, [], ◌∷◌, ◌++◌, refl, sym, ◌∙◌, subst, arith, append_assoc}
use Rattle.go_text.specs.declared.edition.Edition.{Edition}
use Rattle.go_scan.specs.declared.token.TokenKind.{TokenKind}
use Rattle.go_ast.specs.Kinds.{same}
use Rattle.go_ast.specs.Trees.{File}
use Rattle.go_ast.specs.Grammar.{Lexeme, Derives, opening_brace}
use Rattle.go_ast.specs.LeftOut.{AreOf, May}
use Rattle.go_ast.specs.Machine.{Reader, Move, Take, Fail, parser_step, start}
use Rattle.go_ast.proofs.Base.{false_true}
use Rattle.go_ast.proofs.Means.{Means, Good, After, Kept}
use Rattle.go_ast.proofs.Final.{Theory, Leads, deeper, larger, leads_good, behind, begins_so}
use Rattle.go_ast.proofs.LeftOutStates.{tok, GoesBy, Goes, starts, label}
use Rattle.go_ast.proofs.LeftOutSaid.{is_sure, Says, said}

pub leads_append : (ed : Edition) → (B : ℕ) (xs ys : List Lexeme) (s q r : Reader) → Leads ed B s xs q → Leads ed B q ys r → Leads ed B s (xs ++ ys) r
leads_append ed B [] ys s q r h i = subst (λ x. Leads ed B x ys r) (sym h) i
leads_append ed B (x ∷ xs) ys s q r h i = (h.0, h.1, h.2, h.3, leads_append ed B xs ys h.1 q r h.4 i)

-- tokens that are taken, and the levels that they need
leads_goes : (ed : Edition) → (ks : List TokenKind) (s : Reader) → Goes ed ks s → (ts : List Lexeme) × AreOf ks ts × (C : ℕ) × (r : Reader) × ((D : ℕ) → C ≤ D → Leads ed D s ts r)
leads_goes ed [] s g = ([], refl, 0, s, λ D le. refl)
leads_goes ed (k ∷ ks) s g = by_move (λ q h. leads_goes ed ks q h) (parser_step ed s (tok k g.0 g.1)) refl g.2
  where
    by_move : ((q : Reader) → Goes ed ks q → (ts : List Lexeme) × AreOf ks ts × (C : ℕ) × (r : Reader) × ((D : ℕ) → C ≤ D → Leads ed D q ts r)) →
        (m : Move) → parser_step ed s (tok k g.0 g.1) ≡ m → GoesBy (Goes ed ks) m →
        (ts : List Lexeme) × AreOf (k ∷ ks) ts × (C : ℕ) × (r : Reader) × ((D : ℕ) → C ≤ D → Leads ed D s ts r)
    by_move ih (Fail x) e h = absurd h
    by_move ih (Take need q) e h =
        let w = ih q h in
        (tok k g.0 g.1 ∷ w.0, (refl, w.1), max need w.2, w.3, λ D le. (need, q, e, omega (arith, le), w.4 D (omega (arith, le))))

module _ (ed : Edition) (theory : (B : ℕ) → Theory ed B) where
  pub goes_may : (B : ℕ) (good : List Lexeme) (s : Reader) (ks : List TokenKind) → 1 ≤ B → Leads ed B start good s → Goes ed ks s → May ed good ks
  goes_may B good s ks one h g =
      let w = leads_goes ed ks s g in
      let D = max B w.2 in
      let all : Leads ed D start (good ++ w.0) w.3 =
      leads_append ed D good w.0 start s w.3 (deeper ed B D (omega arith) good start s h) (w.4 D (omega arith)) in
      (w.0, w.1, D, begins_so ed D (theory D) (good ++ w.0) w.3 (omega arith) all)

  goes_of : (C : ℕ) (ks : List TokenKind) (ts us : List Lexeme) (s : Reader) (f : File) → Good ed C s → AreOf ks ts → Means ed C s (ts ++ us) f → Goes ed ks s
  goes_of C [] ts us s f good of m = tt
  goes_of C (k ∷ ks) [] us s f good of m = absurd of
  goes_of C (k ∷ ks) (t ∷ ts) us s f good of m =
      let th = theory C in
      let there : GoesBy (Goes ed ks) (parser_step ed s t) =
      by_move (λ q h n. goes_of C ks ts us q f h of.1 n) (parser_step ed s t) (th.kept s t good.1) (th.forth s t (ts ++ us) f good.1 m) in
      (t.text, t.place, subst (λ j. GoesBy (Goes ed ks) (parser_step ed s (tok j t.text t.place))) of.0 there)
    where
      by_move : ((q : Reader) → Good ed C q → Means ed C q (ts ++ us) f → Goes ed ks q) → (x : Move) → Kept ed C x → After ed C x (ts ++ us) f → GoesBy (Goes ed ks) x
      by_move ih (Fail x) kept a = absurd a
      by_move ih (Take need q) kept a = ih q (kept a.0) a.1

  pub may_goes : (B : ℕ) (good : List Lexeme) (s : Reader) (ks : List TokenKind) → 1 ≤ B → Leads ed B start good s → May ed good ks → Goes ed ks s
  may_goes B good s ks one h (ts, of, levels, (us, f, d)) =
      let C = max levels B in
      let th = theory C in
      let low : 1 ≤ C = omega arith in
      let lead : Leads ed C start good s = deeper ed B C (omega arith) good start s h in
      let all : Derives ed C (good ++ (ts ++ us)) f =
      subst (λ x. Derives ed C x f) (append_assoc good ts us) (larger ed levels C ((good ++ ts) ++ us) f (omega arith) d) in
      goes_of C ks ts us s f (leads_good ed C th good start s lead (th.good low)) of (behind ed C th good (ts ++ us) s f low lead all)

-- one token

pub goes_starts : (ed : Edition) → (k : TokenKind) (ks : List TokenKind) (s : Reader) → same opening_brace k ≡ false → Goes ed (k ∷ ks) s → starts ed s k ≡ true
goes_starts ed k ks s e g = by_move (parser_step ed s (tok k g.0 g.1)) (said ed s (tok k g.0 g.1) e) g.2
  where
    by_move : (m : Move) → Says k (starts ed s k) (label s k) m → GoesBy (Goes ed ks) m → starts ed s k ≡ true
    by_move (Take need q) h i = h
    by_move (Fail x) h i = absurd i

pub starts_goes : (ed : Edition) → (k : TokenKind) (s : Reader) → same opening_brace k ≡ false → is_sure k ≡ true → starts ed s k ≡ true → Goes ed (k ∷ []) s
starts_goes ed k s e sure there = ([], record { line = 0; column = 0 }, by_move (parser_step ed s a) (said ed s a e))
  where
    a : Lexeme
    a = tok k [] (record { line = 0; column = 0 })

    by_move : (m : Move) → Says k (starts ed s k) (label s k) m → GoesBy (Goes ed []) m
    by_move (Take need q) h = tt
    by_move (Fail x) h = absurd (false_true (sym (h.1 sure) ∙ there))
