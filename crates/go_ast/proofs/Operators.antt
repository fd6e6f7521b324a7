-- What grows by operators: one operator at a time, its state, and the states of several levels.
use Rattle.std.proofs.Common.{◌≡◌, ℕ, zero, suc, ◌+◌, ◌<◌, ◌≤◌, max, ◌⊎◌, inl, inr, Bool, true, false, ◌||◌, ◌&&◌, List, ◌∷◌, Option, Some, None, refl, sym, ap, ◌∙◌, subst, arith}
use Rattle.std.specs.Prelude.{nat_eq, not}
use Rattle.std.proofs.lemmas.Bool.Decides.{nat_tests}
use Rattle.go_text.specs.declared.edition.Edition.{Edition}
use Rattle.go_scan.specs.declared.token.TokenKind.{TokenKind}
use Rattle.go_ast.specs.Kinds.{same}
use Rattle.go_ast.specs.Operators.{binary_of, tighter}
use Rattle.go_ast.specs.Expected.{an_operand}
use Rattle.go_ast.specs.Trees.{BinaryOperator, Expression, binary, File, place_of}
use Rattle.go_ast.specs.Heights.{height}
use Rattle.go_ast.specs.Grammar.{Lexeme, opening, opening_bracket, opening_brace, period, IsExpr}
use Rattle.go_ast.specs.Machine.{Reader, operators, expr, Move, Take, cond, on_operator, tails, parser_step}
use Rattle.go_ast.proofs.Same.{are_same}
use Rattle.go_ast.proofs.Means.{Itself, Joined, is_tail, is_level, begins, Means, Okay, Good, Ends, After, Kept}
use Rattle.go_ast.proofs.Base.{false_true, either_true, both_true, left_true, right_true, after_cond, kept_cond, neither}
use Rattle.go_ast.proofs.Chains.{Chain, moved, joined_height}
use Rattle.go_ast.proofs.Levels.{height_positive}

-- one operator of a level, and its right operand
abbrev pub Link : (ed : Edition) → ℕ → Bool → Expression → Expression → List Lexeme → List Lexeme → Type 0
Link ed n h a b us ws =
    (t : Lexeme) × (xs : List Lexeme) × (op : BinaryOperator) × (r : Expression) × (us ≡ t ∷ xs) × (binary_of t.kind ≡ Some op) × (tighter op ≡ n)
    × IsExpr ed n h r xs ws
    × (b ≡ binary (place_of a) op a r)

pub joined_itself : (ed : Edition) → (n : ℕ) (h : Bool) (a e : Expression) (us ws : List Lexeme) → Itself a e us ws → Joined ed n h a e us ws
joined_itself ed n h a (binary p op e b) us ws i = inl i
joined_itself ed n h a _ us ws i = i

-- the first operator, and the others
pub first_link : (ed : Edition) → (n : ℕ) (h : Bool) (a e : Expression) (us ws : List Lexeme) → Joined ed n h a e us ws →
    Itself a e us ws ⊎ ((b : Expression) × (vs : List Lexeme) × Link ed n h a b us vs × Joined ed n h b e vs ws)
first_link ed n h a (binary p op e b) us ws j = elim j [
  | inl i ↦ inl i
  | inr r ↦ elim (first_link ed n h a e us r.1 r.5) [
    | inl i ↦ (let here : us ≡ r.0 ∷ r.2 = i.1 ∙ r.6 in
        let same_place : p ≡ place_of a = r.4 ∙ ap place_of i.0 in
        inr (binary p op e b, ws, (r.0, r.2, op, b, here, r.7, r.3, r.8, cc (same_place, i.0)), inl (refl, refl)))
    | inr q ↦ inr (q.0, q.1, q.2, inr (r.0, r.1, r.2, r.3, r.4, q.3, r.6, r.7, r.8))
  ]
]
first_link ed n h a e us ws j = inl j

link_joined : (ed : Edition) → (n : ℕ) (h : Bool) (a b : Expression) (us ws : List Lexeme) → Link ed n h a b us ws → Joined ed n h a b us ws
link_joined ed n h a b us ws k =
    subst (λ x. Joined ed n h a x us ws) (sym k.8) (inr (k.0, us, k.1, k.6, refl, joined_itself ed n h a a us us (refl, refl), k.4, k.5, k.7))

pub then_links : (ed : Edition) → (n : ℕ) (h : Bool) (a b e : Expression) (us vs ws : List Lexeme) → Link ed n h a b us vs → Joined ed n h b e vs ws → Joined ed n h a e us ws
then_links ed n h a b (binary p op e r) us vs ws k j = elim j [
  | inl i ↦ moved (λ x xs. Joined ed n h a x us xs) b (binary p op e r) vs ws i (link_joined ed n h a b us vs k)
  | inr s ↦ inr (s.0, s.1, s.2, s.3, s.4, then_links ed n h a b e us vs s.1 k s.5, s.6, s.7, s.8)
]
then_links ed n h a b e us vs ws k j = moved (λ x xs. Joined ed n h a x us xs) b e vs ws j (link_joined ed n h a b us vs k)

link_height : (ed : Edition) → (n : ℕ) (h : Bool) (a b : Expression) (us ws : List Lexeme) (k : Link ed n h a b us ws) → height b ≡ max (height a) (height k.3) + 1
link_height ed n h a b us ws k = ap height k.8

-- what begins a suffix is no operator
tail_none : (h : Bool) (j k : TokenKind) → same j k ≡ true → binary_of j ≡ None → binary_of k ≡ None
tail_none h j k e n = ap binary_of (are_same j k e) ∙ n

pub tail_no_operator : (h : Bool) (k : TokenKind) → is_tail h k ≡ true → binary_of k ≡ None
tail_no_operator h k e = elim (either_true (same period k || same opening_bracket k || same opening k) (not h && same opening_brace k) e) [
  | inl f ↦ elim (either_true (same period k || same opening_bracket k) (same opening k) f) [
    | inl g ↦ elim (either_true (same period k) (same opening_bracket k) g) [
      | inl p ↦ tail_none h period k p refl
      | inr p ↦ tail_none h opening_bracket k p refl
    ]
    | inr p ↦ tail_none h opening k p refl
  ]
  | inr b ↦ tail_none h opening_brace k (both_true (not h) (same opening_brace k) b).1 refl
]

level_none : (n : ℕ) (o : Option BinaryOperator) → o ≡ None → is_level n o ≡ false
level_none n o e = ap (is_level n) e

-- an operator is of one level
level_other : (n : ℕ) (o : Option BinaryOperator) (op : BinaryOperator) → o ≡ Some op → (tighter op ≡ n → ⊥) → is_level n o ≡ false
level_other n o op e never =
    let test : nat_eq (tighter op) n ≡ false = grind (arith, nat_tests) in
    ap (is_level n) e ∙ test

level_is : (n : ℕ) (o : Option BinaryOperator) (op : BinaryOperator) → o ≡ Some op → tighter op ≡ n → is_level n o ≡ true
level_is n o op e at =
    let test : nat_eq (tighter op) n ≡ true = grind (arith, nat_tests) in
    ap (is_level n) e ∙ test

-- the operator of a level that there is
level_op : (n : ℕ) (o : Option BinaryOperator) → is_level n o ≡ true → (op : BinaryOperator) × (o ≡ Some op) × (tighter op ≡ n)
level_op n None e = absurd (false_true e)
level_op n (Some op) e = (op, refl, grind (arith, nat_tests))

module _ (ed : Edition) (B : ℕ) where
  more_links : (n : ℕ) (h : Bool) (l : ℕ) (a b : Expression) (next : Expression → Reader) (us vs : List Lexeme) (f : File) →
      Link ed n h a b us vs → Means ed B (operators n h l b next) vs f → Means ed B (operators n h l a next) us f
  more_links n h l a b next us vs f k m = (m.0, m.1, then_links ed n h a b m.0 us vs m.1 k m.2, m.3, m.4)

  -- the state, as it leads on
  operator_back : (n : ℕ) (h : Bool) (l : ℕ) (a : Expression) (next : Expression → Reader) (t : Lexeme) (us : List Lexeme) (f : File) (o : Option BinaryOperator) →
      binary_of t.kind ≡ o →
      (After ed B (parser_step ed (next a) t) us f → Means ed B (operators n h l a next) (t ∷ us) f) →
      After ed B (on_operator n h l a (λ x. operators n h l x next) (parser_step ed (next a) t) o) us f → Means ed B (operators n h l a next) (t ∷ us) f
  operator_back n h l a next t us f None e other after = other after
  operator_back n h l a next t us f (Some op) e other after = elim (after_cond ed B (nat_eq (tighter op) n) _ _ us f after) [
    | inl g ↦ (let m = g.1.1 in
        let at : tighter op ≡ n = let test = g.0 in grind (arith, nat_tests) in
        more_links n h l a (binary (place_of a) op a m.0) next (t ∷ us) m.1 f (t, us, op, m.0, refl, e, at, m.2, refl) m.4)
    | inr g ↦ other g.1
  ]

  pub operators_back : (n : ℕ) (h : Bool) (l : ℕ) (a : Expression) (next : Expression → Reader) (t : Lexeme) (us : List Lexeme) (f : File) → l + height a ≤ B + 1 →
      (After ed B (parser_step ed (next a) t) us f → Means ed B (next a) (t ∷ us) f) → After ed B (parser_step ed (operators n h l a next) t) us f →
      Means ed B (operators n h l a next) (t ∷ us) f
  operators_back n h l a next t us f fits back after =
      operator_back n h l a next t us f (binary_of t.kind) refl (λ x. (a, t ∷ us, joined_itself ed n h a a (t ∷ us) (t ∷ us) (refl, refl), fits, back x)) after

  -- an operator of this level is taken
  taken : (n : ℕ) (h : Bool) (l : ℕ) (a : Expression) (next : Expression → Reader) (us : List Lexeme) (f : File) (other : Move) (o : Option BinaryOperator)
      (op : BinaryOperator) → o ≡ Some op → tighter op ≡ n →
      After ed B (Take (l + height a) (expr n h (l + 1) an_operand (λ r. operators n h l (binary (place_of a) op a r) next))) us f →
      After ed B (on_operator n h l a (λ x. operators n h l x next) other o) us f
  taken n h l a next us f other o op e at after =
      let test : nat_eq (tighter op) n ≡ true = grind (arith, nat_tests) in
      subst (λ x. After ed B (on_operator n h l a (λ x. operators n h l x next) other x) us f) (sym e)
      (subst (λ c. After ed B (cond c (Take (l + height a) (expr n h (l + 1) an_operand (λ r. operators n h l (binary (place_of a) op a r) next))) other) us f)
      (sym test) after)

  -- any other is passed on
  passed : (n : ℕ) (h : Bool) (l : ℕ) (a : Expression) (behind : Expression → Reader) (us : List Lexeme) (f : File) (other : Move) (o : Option BinaryOperator) →
      is_level n o ≡ false →
      After ed B other us f → After ed B (on_operator n h l a behind other o) us f
  passed n h l a behind us f other None e after = after
  passed n h l a behind us f other (Some op) e after =
      subst (λ c. After ed B (cond c (Take (l + height a) (expr n h (l + 1) an_operand (λ r. behind (binary (place_of a) op a r)))) other) us f) (sym e) after

  no_level : (n : ℕ) (k : TokenKind) (o : Option BinaryOperator) (b : Bool) → binary_of k ≡ o →
      ((op : BinaryOperator) → binary_of k ≡ Some op → tighter op < suc n → b ≡ false) → b ≡ true → is_level n o ≡ false
  no_level n k None b e no_operator here = refl
  no_level n k (Some op) b e no_operator here = by_test (nat_eq (tighter op) n) refl
    where
      by_test : (c : Bool) → nat_eq (tighter op) n ≡ c → c ≡ false
      by_test false q = refl
      by_test true q =
          let less : tighter op < suc n = grind (arith, nat_tests) in
          absurd (false_true (sym (no_operator op e less) ∙ here))

  pub operators_forth : (n : ℕ) (h : Bool) (l : ℕ) (a : Expression) (next : Expression → Reader) (t : Lexeme) (us : List Lexeme) (f : File) →
      Okay ed B (operators n h l a next) →
      (Means ed B (next a) (t ∷ us) f → begins (next a) t.kind ≡ true) → (Means ed B (next a) (t ∷ us) f → After ed B (parser_step ed (next a) t) us f) →
      Means ed B (operators n h l a next) (t ∷ us) f → After ed B (parser_step ed (operators n h l a next) t) us f
  operators_forth n h l a next t us f okay first forth m = elim (first_link ed n h a m.0 (t ∷ us) m.1 m.2) [
    | inl i ↦ (let on : Means ed B (next a) (t ∷ us) f = subst (λ xs. Means ed B (next a) xs f) (sym i.1) (subst (λ x. Means ed B (next x) m.1 f) i.0 m.4) in
        passed n h l a (λ x. operators n h l x next) us f (parser_step ed (next a) t) (binary_of t.kind)
        (no_level n t.kind (binary_of t.kind) (begins (next a) t.kind) refl (λ op. okay.2.no_operator a t.kind op) (first on)) (forth on))
    | inr q ↦ (let k = q.2 in
        let first_token : t ≡ k.0 = let whole : t ∷ us ≡ k.0 ∷ k.1 = k.4 in cc (whole) in
        let others : us ≡ k.1 = let whole : t ∷ us ≡ k.0 ∷ k.1 = k.4 in cc (whole) in
        let less = joined_height ed n h q.0 m.0 q.1 m.1 q.3 in
        let same_height : height q.0 ≡ max (height a) (height k.3) + 1 = ap height k.8 in
        taken n h l a next us f (parser_step ed (next a) t) (binary_of t.kind) k.2 (ap (λ (x : Lexeme). binary_of x.kind) first_token ∙ k.5) k.6 (
          omega (arith, m.3, less, same_height),
          (
            k.3,
            q.1,
            subst (λ xs. IsExpr ed n h k.3 xs q.1) (sym others) k.7,
            omega (arith, m.3, less, same_height),
            (m.0, m.1, subst (λ x. Joined ed n h x m.0 q.1 m.1) k.8 q.3, m.3, m.4),
          ),
        ))
  ]

  -- what a level's operators leave is good
  level_ends : (n : ℕ) (h : Bool) (l : ℕ) (next : Expression → Reader) → Ends ed B (suc n) h next → Ends ed B n h (λ a. operators n h l a next)
  level_ends n h l next e =
      record {
        no_suffix = λ a k s. neither (is_level n (binary_of k)) (begins (next a) k) (level_none n (binary_of k) (tail_no_operator h k s)) (e.no_suffix a k s);
        no_operator = λ a k op o less. neither (is_level n (binary_of k)) (begins (next a) k)
            (level_other n (binary_of k) op o (λ q. absurd (omega (arith, less, q))))
            (e.no_operator a k op o (omega (arith, less)));
      }

  operator_kept : (n : ℕ) (h : Bool) (l : ℕ) (a : Expression) (next : Expression → Reader) (other : Move) (o : Option BinaryOperator) →
      Okay ed B (operators n h l a next) → Kept ed B other →
      Kept ed B (on_operator n h l a (λ x. operators n h l x next) other o)
  operator_kept n h l a next other None okay kept = kept
  operator_kept n h l a next other (Some op) okay kept =
      let ends = level_ends n h l next okay.2 in
      kept_cond ed B (nat_eq (tighter op) n) _ _ (λ _ need. (
        omega (arith, need, height_positive a),
        (
          (λ r fits. (tt, (omega (arith, need, fits), okay.1, okay.2))),
          record {
            no_suffix = λ r k s. ends.no_suffix (binary (place_of a) op a r) k s;
            no_operator = λ r k op' o less. ends.no_operator
                (binary (place_of a) op a r) k op' o less;
          },
        ),
      )) (λ _. kept)

  pub operators_kept : (n : ℕ) (h : Bool) (l : ℕ) (a : Expression) (next : Expression → Reader) (t : Lexeme) → Okay ed B (operators n h l a next) →
      Kept ed B (parser_step ed (next a) t) →
      Kept ed B (parser_step ed (operators n h l a next) t)
  operators_kept n h l a next t okay kept = operator_kept n h l a next (parser_step ed (next a) t) (binary_of t.kind) okay kept

  pub operators_first : (n : ℕ) (h : Bool) (l : ℕ) (a : Expression) (next : Expression → Reader) (t : Lexeme) (us : List Lexeme) (f : File) →
      (Means ed B (next a) (t ∷ us) f → begins (next a) t.kind ≡ true) → Means ed B (operators n h l a next) (t ∷ us) f →
      begins (operators n h l a next) t.kind ≡ true
  operators_first n h l a next t us f first m = elim (first_link ed n h a m.0 (t ∷ us) m.1 m.2) [
    | inl i ↦ (let on : Means ed B (next a) (t ∷ us) f = subst (λ xs. Means ed B (next a) xs f) (sym i.1) (subst (λ x. Means ed B (next x) m.1 f) i.0 m.4) in
        right_true (is_level n (binary_of t.kind)) (begins (next a) t.kind) (first on))
    | inr q ↦ (let k = q.2 in
        let first_token : t ≡ k.0 = let whole : t ∷ us ≡ k.0 ∷ k.1 = k.4 in cc (whole) in
        left_true (is_level n (binary_of t.kind)) (begins (next a) t.kind)
        (level_is n (binary_of t.kind) k.2 (ap (λ (x : Lexeme). binary_of x.kind) first_token ∙ k.5) k.6))
  ]

  pub operators_comes : (n : ℕ) (h : Bool) (l : ℕ) (a : Expression) (next : Expression → Reader) → l + height a ≤ B + 1 →
      (us : List Lexeme) × (f : File) × Means ed B (next a) us f →
      (us : List Lexeme) × (f : File) × Means ed B (operators n h l a next) us f
  operators_comes n h l a next fits c = (c.0, c.1, (a, c.0, joined_itself ed n h a a c.0 c.0 (refl, refl), fits, c.2))

  -- several levels
  pub tails_back : (n : ℕ) (h : Bool) (l : ℕ) (next : Expression → Reader) (e : Expression) (us : List Lexeme) (f : File) → l + height e ≤ B + 1 →
      Means ed B (tails n h l next e) us f →
      (g : Expression) × (ws : List Lexeme) × Chain ed n h e g us ws × (l + height g ≤ B + 1) × Means ed B (next g) ws f
  tails_back zero h l next e us f fits m = (e, us, (refl, refl), fits, m)
  tails_back (suc n) h l next e us f fits m =
      let r = tails_back n h l (λ a. operators n h l a next) e us f fits m in
      let o = r.4 in
      (o.0, o.1, (r.0, r.1, r.2, o.2), o.3, o.4)

  pub tails_forth : (n : ℕ) (h : Bool) (l : ℕ) (next : Expression → Reader) (e g : Expression) (us ws : List Lexeme) (f : File) → Chain ed n h e g us ws →
      l + height g ≤ B + 1 → Means ed B (next g) ws f →
      Means ed B (tails n h l next e) us f
  tails_forth zero h l next e g us ws f c fits m = subst (λ xs. Means ed B (next e) xs f) (sym c.1) (subst (λ x. Means ed B (next x) ws f) c.0 m)
  tails_forth (suc n) h l next e g us ws f c fits m =
      tails_forth n h l (λ a. operators n h l a next) e c.0 us c.1 f c.2 (omega (arith, fits, joined_height ed n h c.0 g c.1 ws c.3)) (g, ws, c.3, fits, m)

  pub tails_good : (n : ℕ) (h : Bool) (l : ℕ) (next : Expression → Reader) → ((e : Expression) → l + height e ≤ B + 1 → Good ed B (next e)) → Ends ed B n h next →
      (e : Expression) → l + height e ≤ B + 1 → Good ed B (tails n h l next e)
  tails_good zero h l next good ends e fits = good e fits
  tails_good (suc n) h l next good ends e fits =
      tails_good n h l (λ a. operators n h l a next) (λ a fits. (tt, (fits, good, ends))) (level_ends n h l next ends) e fits

  -- what may be behind an expression, in front of the operators too
  pub tails_ends : (n : ℕ) (h : Bool) (l : ℕ) (next : Expression → Reader) → Ends ed B n h next → Ends ed B 0 h (tails n h l next)
  tails_ends zero h l next ends = ends
  tails_ends (suc n) h l next ends = tails_ends n h l (λ a. operators n h l a next) (level_ends n h l next ends)

  -- it begins with an operator of these levels, or as what is behind it
  pub tails_begins : (n : ℕ) (h : Bool) (l : ℕ) (next : Expression → Reader) (e : Expression) (k : TokenKind) → begins (tails n h l next e) k ≡ true →
      ((op : BinaryOperator) × (binary_of k ≡ Some op) × (tighter op < n)) ⊎ (begins (next e) k ≡ true)
  tails_begins zero h l next e k b = inr b
  tails_begins (suc n) h l next e k b = elim (tails_begins n h l (λ a. operators n h l a next) e k b) [
    | inl o ↦ inl (o.0, o.1, omega (arith, o.2))
    | inr c ↦ elim (either_true (is_level n (binary_of k)) (begins (next e) k) c) [
      | inl at ↦ (let o = level_op n (binary_of k) at in inl (o.0, o.1, omega (arith, o.2)))
      | inr d ↦ inr d
    ]
  ]
