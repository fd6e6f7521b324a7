-- Tokens are a file or stop being one, never both, and they stop at one place, with one number.
use Rattle.std.proofs.Common.{◌≡◌, ◌≢◌, ℕ, ◌⊎◌, inl, inr, Bool, true, false, List, [], ◌∷◌, ◌++◌, refl, sym, ap, ◌∙◌, subst, arith, append_assoc, append-nil}
use Rattle.std.specs.Prelude.{nat_eq}
use Rattle.std.proofs.lemmas.Bool.Decides.{nat_tests}
use Rattle.go_text.specs.declared.edition.Edition.{Edition}
use Rattle.go_ast.specs.Trees.{File}
use Rattle.go_ast.specs.Grammar.{Lexeme, Derives, Begins}
use Rattle.go_ast.specs.Stops.{NoneAfter, GoesOn, IsFault, StopsAt}

-- of two beginnings of a list one goes on to the other
split : (xs ys cs ds : List Lexeme) → xs ++ ys ≡ cs ++ ds →
    ((xs ≡ cs) × (ys ≡ ds)) ⊎
    (((t : Lexeme) × (us ws : List Lexeme) × (cs ≡ xs ++ t ∷ us) × (ys ≡ t ∷ ws)) ⊎
    ((t : Lexeme) × (us ws : List Lexeme) × (xs ≡ cs ++ t ∷ us) × (ds ≡ t ∷ ws)))
split [] ys [] ds e = inl (refl, e)
split [] ys (c ∷ cs) ds e = inr (inl (c, cs, cs ++ ds, refl, e))
split (a ∷ xs) ys [] ds e = inr (inr (a, xs, xs ++ ys, refl, sym e))
split (a ∷ xs) ys (c ∷ cs) ds e =
    let first : a ≡ c = cc (e) in
    let rest : xs ++ ys ≡ cs ++ ds = cc (e) in
    elim (split xs ys cs ds rest) [
      | inl h ↦ inl (ap (λ x. x ∷ xs) first ∙ ap (λ x. c ∷ x) h.0, h.1)
      | inr r ↦ elim r [
        | inl h ↦ inr (inl (h.0, h.1, h.2, ap (λ x. x ∷ cs) (sym first) ∙ ap (λ x. a ∷ x) h.3, h.4))
        | inr h ↦ inr (inr (h.0, h.1, h.2, ap (λ x. x ∷ xs) first ∙ ap (λ x. c ∷ x) h.3, h.4))
      ]
    ]

-- what begins a file does so at each of its tokens
begins_before : (ed : Edition) → (levels : ℕ) (good us : List Lexeme) (t : Lexeme) → Begins ed levels (good ++ t ∷ us) → Begins ed levels (good ++ t ∷ [])
begins_before ed levels good us t b =
    (us ++ b.0, b.1, subst (λ x. Derives ed levels x b.1) (append_assoc good (t ∷ us) b.0 ∙ sym (append_assoc good (t ∷ []) (us ++ b.0))) b.2)

-- tokens that stop being a file are none
pub not_both : (ed : Edition) → (levels : ℕ) (ts : List Lexeme) (f : File) (n : ℕ) (bad : List Lexeme) → Derives ed levels ts f → StopsAt ed levels ts n bad → ⊥
not_both ed levels ts f n bad d s = by_bad bad s.whole s.ends
  where
    by_bad : (bad : List Lexeme) → ts ≡ s.good ++ bad → NoneAfter ed levels s.good bad → ⊥
    by_bad [] whole none = none f (subst (λ x. Derives ed levels x f) (whole ∙ append-nil s.good) d)
    by_bad (t ∷ us) whole none = none (us, f, subst (λ x. Derives ed levels x f) (whole ∙ sym (append_assoc s.good (t ∷ []) us)) d)

-- nothing begins a file behind the place where another stops
no_further : (ed : Edition) → (levels : ℕ) (good long : List Lexeme) (t : Lexeme) (us bad ws : List Lexeme) → NoneAfter ed levels good bad → bad ≡ t ∷ ws →
    long ≡ good ++ t ∷ us → Begins ed levels long → ⊥
no_further ed levels good long t us bad ws none e q b =
    let at : NoneAfter ed levels good (t ∷ ws) = subst (NoneAfter ed levels good) e none in
    at (begins_before ed levels good us t (subst (Begins ed levels) q b))

same_place : (ed : Edition) → (levels : ℕ) (ts : List Lexeme) (m n : ℕ) (xs ys : List Lexeme) (s : StopsAt ed levels ts m xs) (r : StopsAt ed levels ts n ys) →
    (s.good ≡ r.good) × (xs ≡ ys)
same_place ed levels ts m n xs ys s r = elim (split s.good xs r.good ys (sym s.whole ∙ r.whole)) [
  | inl h ↦ h
  | inr o ↦ elim o [
    | inl h ↦ absurd (no_further ed levels s.good r.good h.0 h.1 xs h.2 s.ends h.4 h.3 r.begins)
    | inr h ↦ absurd (no_further ed levels r.good s.good h.0 h.1 ys h.2 r.ends h.4 h.3 s.begins)
  ]
]

same_fault : (ed : Edition) → (good bad : List Lexeme) (m n : ℕ) → IsFault ed good bad m → IsFault ed good bad n → m ≡ n
same_fault ed good [] m n a b = a ∙ sym b
same_fault ed good (t ∷ ts) m n (inl a) (inl b) = a.0 ∙ sym b.0
same_fault ed good (t ∷ ts) m n (inl a) (inr b) = absurd (b.1 a.1)
same_fault ed good (t ∷ ts) m n (inr a) (inl b) = absurd (a.1 b.1)
same_fault ed good (t ∷ ts) m n (inr a) (inr b) = a.0 ∙ sym b.0

-- the place and the number are determined
pub only_stop : (ed : Edition) → (levels : ℕ) (ts : List Lexeme) (m n : ℕ) (xs ys : List Lexeme) → StopsAt ed levels ts m xs → StopsAt ed levels ts n ys → (m ≡ n) × (xs ≡ ys)
only_stop ed levels ts m n xs ys s r =
    let p = same_place ed levels ts m n xs ys s r in
    (by_four (nat_eq m 4) (nat_eq n 4) refl refl p.0 p.1, p.1)
  where
    on : (P : List Lexeme → List Lexeme → Type 0) → s.good ≡ r.good → xs ≡ ys → P r.good ys → P s.good xs
    on P g b x = subst (λ y. P y xs) (sym g) (subst (P r.good) (sym b) x)

    by_four : (c d : Bool) → nat_eq m 4 ≡ c → nat_eq n 4 ≡ d → s.good ≡ r.good → xs ≡ ys → m ≡ n
    by_four true true c d g b =
        let x : m ≡ 4 = grind (arith, nat_tests) in
        let y : n ≡ 4 = grind (arith, nat_tests) in
        x ∙ sym y
    by_four true false c d g b =
        let x : m ≡ 4 = grind (arith, nat_tests) in
        let y : n ≢ 4 = λ e. (let q : true ≡ false = sym (ap (λ k. nat_eq k 4) e) ∙ d in cc (q)) in
        absurd (r.wrong y (subst (GoesOn ed r.good) b (subst (λ z. GoesOn ed z xs) g (s.too_deep x))))
    by_four false true c d g b =
        let x : m ≢ 4 = λ e. (let q : true ≡ false = sym (ap (λ k. nat_eq k 4) e) ∙ c in cc (q)) in
        let y : n ≡ 4 = grind (arith, nat_tests) in
        absurd (s.wrong x (on (GoesOn ed) g b (r.too_deep y)))
    by_four false false c d g b =
        let x : m ≢ 4 = λ e. (let q : true ≡ false = sym (ap (λ k. nat_eq k 4) e) ∙ c in cc (q)) in
        let y : n ≢ 4 = λ e. (let q : true ≡ false = sym (ap (λ k. nat_eq k 4) e) ∙ d in cc (q)) in
        same_fault ed s.good xs m n (s.fault x) (on (λ u v. IsFault ed u v n) g b (r.fault y))
