-- An expression is an operand that grows by suffixes, or a unary expression, and then grows by operators, level by level.
use Rattle.std.proofs.Common.{◌≡◌, ℕ, zero, suc, ◌<◌, ◌≤◌, ◌⊎◌, inl, inr, Bool, true, false, List, Some, None, refl, sym, ap, ◌∙◌, subst, arith}
use Rattle.std.specs.Prelude.{nat_eq}
use Rattle.std.proofs.lemmas.Bool.Decides.{nat_tests}
use Rattle.go_text.specs.declared.edition.Edition.{Edition}
use Rattle.go_scan.specs.declared.token.TokenKind.TheVariants as kinds
use Rattle.go_scan.specs.Runes.{RuneValue}
use Rattle.go_scan.specs.Strings.{StringValue}
use Rattle.go_ast.specs.Operators.{tighter}
use Rattle.go_ast.specs.Trees.{TypeExpr, named, qualified, array, slice, struct, Expression, name, integer, rune, string, parenthesized, composite_lit, conversion, selector, index, cut, call, type_operand, unary, binary, place_of}
use Rattle.go_ast.specs.Heights.{height}
use Rattle.go_ast.specs.Grammar.{Lexeme, Token, name_of, opening, closing, opening_brace, closing_brace, comma, MayBe, IsType, IsExpr, AreElements, IsPrimary, is_named, converts, type_place}
use Rattle.go_ast.specs.Machine.{literal_type}
use Rattle.go_ast.proofs.Means.{Itself, IsTypeName, Suffixed, Joined}

-- the operands of which no other is a part
abbrev pub IsOperand : (ed : Edition) → Expression → List Lexeme → List Lexeme → Type 0
IsOperand ed (name p text) us ws = (t : Lexeme) × Token kinds.Name t us ws × (p ≡ t.place) × (text ≡ t.text)
IsOperand ed (integer p text) us ws = (t : Lexeme) × Token kinds.Integer t us ws × (p ≡ t.place) × (text ≡ t.text)
IsOperand ed (rune p value) us ws = (t : Lexeme) × Token kinds.Rune t us ws × (p ≡ t.place) × RuneValue t.text value
IsOperand ed (string p value) us ws = (t : Lexeme) × Token kinds.String t us ws × (p ≡ t.place) × StringValue t.text value
IsOperand ed (parenthesized p e) us ws =
    (o c : Lexeme) × (vs xs : List Lexeme) × Token opening o us vs × (p ≡ o.place) × IsExpr ed 5 false e vs xs × Token closing c xs ws
IsOperand ed (composite_lit p a q es) us ws =
    (o c : Lexeme) × (vs xs ys : List Lexeme) × (is_named a ≡ false) × IsType ed a us vs × (p ≡ type_place a)
    × Token opening_brace o vs xs × (q ≡ o.place) × AreElements ed es xs ys × Token closing_brace c ys ws
IsOperand ed (conversion p a e) us ws =
    (o c : Lexeme) × (vs xs ys zs : List Lexeme) × (converts a ≡ true) × IsType ed a us vs × (p ≡ type_place a)
    × Token opening o vs xs × IsExpr ed 5 false e xs ys × MayBe comma ys zs × Token closing c zs ws
IsOperand ed _ us ws = ⊥

abbrev pub IsUnary : (ed : Edition) → Bool → Expression → List Lexeme → List Lexeme → Type 0
IsUnary ed h (unary p op e) us ws = IsExpr ed 0 h (unary p op e) us ws
IsUnary ed h _ us ws = ⊥

-- an expression grows to another by operators of n levels, the tightest first
abbrev pub Chain : (ed : Edition) → ℕ → Bool → Expression → Expression → List Lexeme → List Lexeme → Type 0
Chain ed zero h b e us ws = Itself b e us ws
Chain ed (suc n) h b e us ws = (c : Expression) × (vs : List Lexeme) × Chain ed n h b c us vs × Joined ed n h c e vs ws

-- by suffixes, and then by operators
abbrev pub Grown : (ed : Edition) → ℕ → Bool → Expression → Expression → List Lexeme → List Lexeme → Type 0
Grown ed n h a e us ws = (b : Expression) × (vs : List Lexeme) × Suffixed ed h a b us vs × Chain ed n h b e vs ws

pub moved : (P : Expression → List Lexeme → Type 0) (a e : Expression) (us ws : List Lexeme) → Itself a e us ws → P a us → P e ws
moved P a e us ws i h = subst (λ x. P x ws) (sym i.0) (subst (P a) i.1 h)

-- one level of operators more
raised : (ed : Edition) → (n : ℕ) (h : Bool) (e : Expression) (us ws : List Lexeme) → IsExpr ed n h e us ws → IsExpr ed (suc n) h e us ws
raised ed n h (binary p op a b) us ws d = (d.0, d.1, d.2, omega (arith, d.3), d.4, d.5, d.6, d.7, d.8)
raised ed n h _ us ws d = d

below_or_at : (m n : ℕ) → m < suc n → (m < n) ⊎ (m ≡ n)
below_or_at m n less = by_test (nat_eq m n) refl
  where
    by_test : (c : Bool) → nat_eq m n ≡ c → (m < n) ⊎ (m ≡ n)
    by_test true e = inr (grind (arith, nat_tests))
    by_test false e = inl (let other : m ≡ n → ⊥ = grind (arith, nat_tests) in omega (arith, less, other))

level_down : (ed : Edition) → (n : ℕ) (h : Bool) (e : Expression) (us ws : List Lexeme) → IsExpr ed (suc n) h e us ws →
    (c : Expression) × (vs : List Lexeme) × IsExpr ed n h c us vs × Joined ed n h c e vs ws
level_down ed n h (binary p op a b) us ws d = elim (below_or_at (tighter op) n d.3) [
  | inl less ↦ (binary p op a b, ws, (d.0, d.1, d.2, less, d.4, d.5, d.6, d.7, d.8), inl (refl, refl))
  | inr at ↦ (let r = level_down ed n h a us d.1 (subst (λ m. IsExpr ed (suc m) h a us d.1) at d.5) in
      (r.0, r.1, r.2, inr (d.0, d.1, d.2, at, d.4, r.3, d.6, d.7, subst (λ m. IsExpr ed m h b d.2 ws) at d.8)))
]
level_down ed n h e us ws d = (e, ws, d, (refl, refl))

level_up : (ed : Edition) → (n : ℕ) (h : Bool) (c e : Expression) (us vs ws : List Lexeme) → IsExpr ed n h c us vs → Joined ed n h c e vs ws → IsExpr ed (suc n) h e us ws
level_up ed n h c (binary p op a b) us vs ws d j = elim j [
  | inl i ↦ raised ed n h (binary p op a b) us ws (moved (λ x xs. IsExpr ed n h x us xs) c (binary p op a b) vs ws i d)
  | inr s ↦ (let first : IsExpr ed (suc n) h a us s.1 = level_up ed n h c a us vs s.1 d s.5 in (
    s.0,
    s.1,
    s.2,
    omega (arith, s.3),
    s.4,
    subst (λ m. IsExpr ed (suc m) h a us s.1) (sym s.3) first,
    s.6,
    s.7,
    subst (λ m. IsExpr ed m h b s.2 ws) (sym s.3) s.8,
  ))
]
level_up ed n h c e us vs ws d j = raised ed n h e us ws (moved (λ x xs. IsExpr ed n h x us xs) c e vs ws j d)

pub chain_down : (ed : Edition) → (n : ℕ) (h : Bool) (e : Expression) (us ws : List Lexeme) → IsExpr ed n h e us ws →
    (b : Expression) × (vs : List Lexeme) × IsExpr ed 0 h b us vs × Chain ed n h b e vs ws
chain_down ed zero h e us ws d = (e, ws, d, (refl, refl))
chain_down ed (suc n) h e us ws d =
    let r = level_down ed n h e us ws d in
    let s = chain_down ed n h r.0 us r.1 r.2 in
    (s.0, s.1, s.2, (r.0, r.1, s.3, r.3))

pub chain_up : (ed : Edition) → (n : ℕ) (h : Bool) (b e : Expression) (us vs ws : List Lexeme) → IsExpr ed 0 h b us vs → Chain ed n h b e vs ws → IsExpr ed n h e us ws
chain_up ed zero h b e us vs ws d c = moved (λ x xs. IsExpr ed 0 h x us xs) b e vs ws c d
chain_up ed (suc n) h b e us vs ws d c = level_up ed n h c.0 e us c.1 ws (chain_up ed n h b c.0 us vs c.1 d c.2) c.3

-- the type of a literal, when an expression may be its name
pub no_type : (A : Type 0) (a x : Expression) (b : TypeExpr) → x ≡ a → literal_type a ≡ None → literal_type x ≡ Some b → A
no_type A a x b e n s = let never : None ≡ Some b = sym n ∙ sym (ap literal_type e) ∙ s in absurd (cc (never))

-- an operand that is the name of a type, or becomes one by a selected name
type_name_up : (ed : Edition) → (a x : Expression) (b : TypeExpr) (us vs ws : List Lexeme) → IsOperand ed a us vs → IsTypeName a x vs ws → literal_type x ≡ Some b →
    IsType ed b us ws
type_name_up ed (name p text) x b us vs ws d n e = elim n [
  | inl i ↦ (let type : named p (record { text = text; place = p }) ≡ b = let all : Some (named p (record { text = text; place = p })) ≡ Some b = sym
      (ap literal_type i.0) ∙ e in cc (all) in
      subst (λ c. IsType ed c us ws) type (
        d.0,
        subst (λ xs. Token kinds.Name d.0 us xs) i.1 d.1,
        d.2,
        ap (λ q. record { text = text; place = q }) d.2
            ∙ ap (λ q. record { text = q; place = d.0.place }) d.3,
      ))
  | inr s ↦ (let type : qualified p (record { text = text; place = p }) (name_of s.1) ≡ b =
      let all : Some (qualified p (record { text = text; place = p }) (name_of s.1)) ≡ Some b = sym (ap literal_type s.5) ∙ e in cc (all) in
      subst (λ c. IsType ed c us ws) type (
        d.0,
        s.0,
        s.1,
        vs,
        s.2,
        d.1,
        s.3,
        s.4,
        d.2,
        ap (λ q. record { text = text; place = q }) d.2 ∙ ap (λ q. record { text = q; place = d.0.place }) d.3,
        refl,
      ))
]
type_name_up ed (selector p f g) x b us vs ws d n e = absurd d
type_name_up ed a x b us vs ws d n e = elim n [
  | inl i ↦ no_type (IsType ed b us ws) a x b i.0 refl e
  | inr s ↦ no_type (IsType ed b us ws) (selector (place_of a) a (name_of s.1)) x b s.5 refl e
]

-- an operand is an expression with no operator outside
operand_is : (ed : Edition) → (h : Bool) (a : Expression) (us ws : List Lexeme) → IsOperand ed a us ws → IsExpr ed 0 h a us ws × IsPrimary a
operand_is ed h (composite_lit p a q es) us ws d = ((d.0, d.1, d.2, d.3, d.4, λ _. d.5, d.6, d.7, d.8, d.9, d.10, d.11), tt)
operand_is ed h (selector p e f) us ws d = absurd d
operand_is ed h (index p e i) us ws d = absurd d
operand_is ed h (cut p e i j) us ws d = absurd d
operand_is ed h (call p e es) us ws d = absurd d
operand_is ed h (type_operand p a) us ws d = absurd d
operand_is ed h (unary p op e) us ws d = absurd d
operand_is ed h (binary p op a b) us ws d = absurd d
operand_is ed h a us ws d = (d, tt)

abbrev IsPrimaryExpr : (ed : Edition) → Bool → Expression → List Lexeme → List Lexeme → Type 0
IsPrimaryExpr ed h e us ws = IsExpr ed 0 h e us ws × IsPrimary e

operand_itself : (ed : Edition) → (h : Bool) (a e : Expression) (us vs ws : List Lexeme) → IsOperand ed a us vs → Itself a e vs ws → IsPrimaryExpr ed h e us ws
operand_itself ed h a e us vs ws d i = moved (λ x xs. IsPrimaryExpr ed h x us xs) a e vs ws i (operand_is ed h a us vs d)

pub suffixes_up : (ed : Edition) → (h : Bool) (a e : Expression) (us vs ws : List Lexeme) → IsOperand ed a us vs → Suffixed ed h a e vs ws → IsExpr ed 0 h e us ws × IsPrimary e
suffixes_up ed h a (selector p e f) us vs ws d s = elim s [
  | inl i ↦ operand_itself ed h a (selector p e f) us vs ws d i
  | inr r ↦ (let b = suffixes_up ed h a e us vs r.2 d r.5 in ((r.0, r.1, r.2, r.3, r.4, b.1, b.0, r.6, r.7, r.8), tt))
]
suffixes_up ed h a (index p e i) us vs ws d s = elim s [
  | inl i' ↦ operand_itself ed h a (index p e i) us vs ws d i'
  | inr r ↦ (let b = suffixes_up ed h a e us vs r.2 d r.6 in ((r.0, r.1, r.2, r.3, r.4, r.5, b.1, b.0, r.7, r.8, r.9), tt))
]
suffixes_up ed h a (cut p e i j) us vs ws d s = elim s [
  | inl i' ↦ operand_itself ed h a (cut p e i j) us vs ws d i'
  | inr r ↦ (let b = suffixes_up ed h a e us vs r.3 d r.10 in
      ((r.0, r.1, r.2, r.3, r.4, r.5, r.6, r.7, r.8, r.9, b.1, b.0, r.11, r.12, r.13, r.14, r.15), tt))
]
suffixes_up ed h a (call p e es) us vs ws d s = elim s [
  | inl i ↦ operand_itself ed h a (call p e es) us vs ws d i
  | inr r ↦ (let b = suffixes_up ed h a e us vs r.2 d r.6 in ((r.0, r.1, r.2, r.3, r.4, r.5, b.1, b.0, r.7, r.8, r.9), tt))
]
suffixes_up ed h a (composite_lit p b q es) us vs ws d s = elim s [
  | inl i ↦ operand_itself ed h a (composite_lit p b q es) us vs ws d i
  | inr r ↦ (
    (
      r.0,
      r.1,
      r.2,
      r.3,
      r.4,
      λ header. (let never : false ≡ true = sym r.6 ∙ header in absurd (cc (never))),
      type_name_up ed a r.5 b us vs r.2 d r.7 r.8,
      r.9,
      r.10,
      r.11,
      r.12,
      r.13,
    ),
    tt,
  )
]
suffixes_up ed h a e us vs ws d s = operand_itself ed h a e us vs ws d s

no_header : (h : Bool) (a : TypeExpr) → is_named a ≡ true → (h ≡ true → is_named a ≡ false) → h ≡ false
no_header false a e f = refl
no_header true a e f = let never : true ≡ false = sym e ∙ f refl in absurd (cc (never))

suffixes_down : (ed : Edition) → (h : Bool) (e : Expression) (us ws : List Lexeme) → IsExpr ed 0 h e us ws → IsPrimary e →
    (a : Expression) × (vs : List Lexeme) × IsOperand ed a us vs × Suffixed ed h a e vs ws
suffixes_down ed h (composite_lit p (named q n) o es) us ws d prim =
    let t = d.6.0 in
    let type : Some (named t.place (name_of t)) ≡ Some (named q n) = ap (λ x. Some (named x (name_of t))) (sym d.6.2)
    ∙ ap (λ x. Some (named q x)) (sym d.6.3) in (
      name t.place t.text,
      d.2,
      (t, d.6.1, refl, refl),
      inr (d.0, d.1, d.2, d.3, d.4, name t.place t.text, no_header h (named q n) refl d.5, inl (refl, refl), type, d.7, d.8, d.9, d.10, d.11),
    )
suffixes_down ed h (composite_lit p (qualified q m n) o es) us ws d prim =
    let t = d.6.0 in
    let s = d.6.2 in
    let type : Some (qualified t.place (name_of t) (name_of s)) ≡ Some (qualified q m n) =
    ap (λ x. Some (qualified x (name_of t) (name_of s))) (sym d.6.8) ∙ ap (λ x. Some (qualified q x (name_of s))) (sym d.6.9)
    ∙ ap (λ x. Some (qualified q m x)) (sym d.6.10) in (
      name t.place t.text,
      d.6.3,
      (t, d.6.5, refl, refl),
      inr (
        d.0,
        d.1,
        d.2,
        d.3,
        d.4,
        selector t.place (name t.place t.text) (name_of s),
        no_header h (qualified q m n) refl d.5,
        inr (d.6.1, s, d.6.4, d.6.6, d.6.7, refl),
        type,
        d.7,
        d.8,
        d.9,
        d.10,
        d.11,
      ),
    )
suffixes_down ed h (composite_lit p (array q e a) o es) us ws d prim =
    (composite_lit p (array q e a) o es, ws, (d.0, d.1, d.2, d.3, d.4, refl, d.6, d.7, d.8, d.9, d.10, d.11), inl (refl, refl))
suffixes_down ed h (composite_lit p (slice q a) o es) us ws d prim =
    (composite_lit p (slice q a) o es, ws, (d.0, d.1, d.2, d.3, d.4, refl, d.6, d.7, d.8, d.9, d.10, d.11), inl (refl, refl))
suffixes_down ed h (composite_lit p (struct q fs) o es) us ws d prim =
    (composite_lit p (struct q fs) o es, ws, (d.0, d.1, d.2, d.3, d.4, refl, d.6, d.7, d.8, d.9, d.10, d.11), inl (refl, refl))
suffixes_down ed h (selector p e f) us ws d prim =
    let r = suffixes_down ed h e us d.2 d.6 d.5 in
    (r.0, r.1, r.2, inr (d.0, d.1, d.2, d.3, d.4, r.3, d.7, d.8, d.9))
suffixes_down ed h (index p e i) us ws d prim =
    let r = suffixes_down ed h e us d.2 d.7 d.6 in
    (r.0, r.1, r.2, inr (d.0, d.1, d.2, d.3, d.4, d.5, r.3, d.8, d.9, d.10))
suffixes_down ed h (cut p e i j) us ws d prim =
    let r = suffixes_down ed h e us d.3 d.11 d.10 in
    (r.0, r.1, r.2, inr (d.0, d.1, d.2, d.3, d.4, d.5, d.6, d.7, d.8, d.9, r.3, d.12, d.13, d.14, d.15, d.16))
suffixes_down ed h (type_operand p a) us ws d prim = absurd d
suffixes_down ed h (call p e es) us ws d prim =
    let r = suffixes_down ed h e us d.2 d.7 d.6 in
    (r.0, r.1, r.2, inr (d.0, d.1, d.2, d.3, d.4, d.5, r.3, d.8, d.9, d.10))
suffixes_down ed h (unary p op e) us ws d prim = absurd prim
suffixes_down ed h (binary p op a b) us ws d prim = absurd prim
suffixes_down ed h e us ws d prim = (e, ws, d, (refl, refl))

-- the parts of an expression
abbrev pub Parts : (ed : Edition) → ℕ → Bool → Expression → List Lexeme → List Lexeme → Type 0
Parts ed n h e us ws =
    ((a : Expression) × (vs : List Lexeme) × IsOperand ed a us vs × Grown ed n h a e vs ws) ⊎ ((a : Expression) × (vs : List Lexeme) × IsUnary ed h a us vs × Chain ed n h a e vs ws)

first_parts : (ed : Edition) → (n : ℕ) (h : Bool) (b e : Expression) (us vs ws : List Lexeme) → IsExpr ed 0 h b us vs → Chain ed n h b e vs ws → Parts ed n h e us ws
first_parts ed n h (unary p op b) e us vs ws d c = inr (unary p op b, vs, d, c)
first_parts ed n h (binary p op a b) e us vs ws d c = absurd (omega (arith, d.3))
first_parts ed n h b e us vs ws d c = let r = suffixes_down ed h b us vs d tt in inl (r.0, r.1, r.2, (b, vs, r.3, c))

pub parts : (ed : Edition) → (n : ℕ) (h : Bool) (e : Expression) (us ws : List Lexeme) → IsExpr ed n h e us ws → Parts ed n h e us ws
parts ed n h e us ws d = let r = chain_down ed n h e us ws d in first_parts ed n h r.0 e us r.1 ws r.2 r.3

pub from_operand : (ed : Edition) → (n : ℕ) (h : Bool) (a e : Expression) (us vs ws : List Lexeme) → IsOperand ed a us vs → Grown ed n h a e vs ws → IsExpr ed n h e us ws
from_operand ed n h a e us vs ws d g = chain_up ed n h g.0 e us g.1 ws (suffixes_up ed h a g.0 us vs g.1 d g.2).0 g.3

pub from_unary : (ed : Edition) → (n : ℕ) (h : Bool) (a e : Expression) (us vs ws : List Lexeme) → IsUnary ed h a us vs → Chain ed n h a e vs ws → IsExpr ed n h e us ws
from_unary ed n h (unary p op a) e us vs ws d c = chain_up ed n h (unary p op a) e us vs ws d c
from_unary ed n h _ e us vs ws d c = absurd d

-- what grows is no higher than what it grows to
itself_height : (a e : Expression) (us ws : List Lexeme) → Itself a e us ws → height a ≤ height e
itself_height a e us ws i = subst (λ x. height a ≤ height x) (sym i.0) (omega arith)

-- the name of a literal's type has two levels at most
pub type_name_height : (a x : Expression) (b : TypeExpr) (us ws : List Lexeme) → IsTypeName a x us ws → literal_type x ≡ Some b → height a ≤ 2
type_name_height (name p text) x b us ws n e = omega arith
type_name_height (selector p (name q text) g) x b us ws n e = omega arith
type_name_height a x b us ws n e = elim n [
  | inl i ↦ no_type (height a ≤ 2) a x b i.0 refl e
  | inr s ↦ no_type (height a ≤ 2) (selector (place_of a) a (name_of s.1)) x b s.5 refl e
]

pub suffixed_height : (ed : Edition) → (h : Bool) (a e : Expression) (us ws : List Lexeme) → Suffixed ed h a e us ws → height a ≤ height e
suffixed_height ed h a (selector p e f) us ws s = elim s [
  | inl i ↦ itself_height a (selector p e f) us ws i
  | inr r ↦ (let less = suffixed_height ed h a e us r.2 r.5 in omega (arith, less))
]
suffixed_height ed h a (index p e i) us ws s = elim s [
  | inl j ↦ itself_height a (index p e i) us ws j
  | inr r ↦ (let less = suffixed_height ed h a e us r.2 r.6 in omega (arith, less))
]
suffixed_height ed h a (cut p e i j) us ws s = elim s [
  | inl k ↦ itself_height a (cut p e i j) us ws k
  | inr r ↦ (let less = suffixed_height ed h a e us r.3 r.10 in omega (arith, less))
]
suffixed_height ed h a (call p e es) us ws s = elim s [
  | inl i ↦ itself_height a (call p e es) us ws i
  | inr r ↦ (let less = suffixed_height ed h a e us r.2 r.6 in omega (arith, less))
]
suffixed_height ed h a (composite_lit p b q es) us ws s = elim s [
  | inl i ↦ itself_height a (composite_lit p b q es) us ws i
  | inr r ↦ (let less = type_name_height a r.5 b us r.2 r.7 r.8 in omega (arith, less))
]
suffixed_height ed h a e us ws s = itself_height a e us ws s

pub joined_height : (ed : Edition) → (n : ℕ) (h : Bool) (a e : Expression) (us ws : List Lexeme) → Joined ed n h a e us ws → height a ≤ height e
joined_height ed n h a (binary p op e b) us ws s = elim s [
  | inl i ↦ itself_height a (binary p op e b) us ws i
  | inr r ↦ (let less = joined_height ed n h a e us r.1 r.5 in omega (arith, less))
]
joined_height ed n h a e us ws s = itself_height a e us ws s

pub chain_height : (ed : Edition) → (n : ℕ) (h : Bool) (b e : Expression) (us ws : List Lexeme) → Chain ed n h b e us ws → height b ≤ height e
chain_height ed zero h b e us ws c = itself_height b e us ws c
chain_height ed (suc n) h b e us ws c =
    let one = chain_height ed n h b c.0 us c.1 c.2 in
    let two = joined_height ed n h c.0 e c.1 ws c.3 in
    omega (arith, one, two)

pub grown_height : (ed : Edition) → (n : ℕ) (h : Bool) (a e : Expression) (us ws : List Lexeme) → Grown ed n h a e us ws → height a ≤ height e
grown_height ed n h a e us ws g =
    let one = suffixed_height ed h a g.0 us g.1 g.2 in
    let two = chain_height ed n h g.0 e g.1 ws g.3 in
    omega (arith, one, two)
