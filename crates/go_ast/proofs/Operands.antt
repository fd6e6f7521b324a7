-- Expressions: what a token that begins one leads to, both ways, and the state that is due an expression.
use Rattle.std.proofs.Common.{◌≡◌, ℕ, suc, ◌+◌, ◌≤◌, inl, inr, Bool, true, false, ◌||◌, List, [], ◌∷◌, Option, Some, None, refl, sym, ap, ◌∙◌, subst, arith}
use Rattle.go_text.specs.declared.edition.Edition.{Edition}
use Rattle.go_scan.specs.declared.token.TokenKind.{TokenKind}
use Rattle.go_scan.specs.declared.token.TokenKind.TheVariants as kinds
use Rattle.go_scan.specs.declared.keyword.Keyword.TheVariants as keywords
use Rattle.go_scan.specs.declared.punctuation.Punctuation.TheVariants as marks
use Rattle.go_ast.specs.Kinds.{same}
use Rattle.go_ast.specs.Literals.{string_value, rune_value}
use Rattle.go_ast.specs.Operators.{unary_of, binary_of}
use Rattle.go_ast.specs.Expected.{Expected, another}
use Rattle.go_ast.specs.Trees.{UnaryOperator, TypeExpr, named, qualified, array, slice, struct, Expression, name, integer, rune, string, parenthesized, composite_lit, conversion, selector, index, cut, call, type_operand, unary, binary, File}
use Rattle.go_ast.specs.Heights.{height, type_height}
use Rattle.go_ast.specs.Grammar.{Lexeme, opening, closing, opening_bracket, IsType, IsExpr, is_named}
use Rattle.go_ast.specs.Operators.{tighter}
use Rattle.go_ast.specs.Machine.{Reader, expr, type, Move, Take, Fail, cond, keyword, begins_type, begins_expr, behind_bracket, behind_struct, tails, behind_operand, behind_opening, behind_literal_type, on_unary, on_expr, parser_step}
use Rattle.go_ast.proofs.Valued.{rune_means, rune_computed, string_means, string_computed}
use Rattle.go_ast.proofs.Same.{are_same}
use Rattle.go_ast.proofs.Means.{is_tail, begins, Means, Okay, Good, After, Kept, Comes}
use Rattle.go_ast.proofs.Base.{false_true, either_true, after_cond, kept_cond, token_here, first_is}
use Rattle.go_ast.proofs.Tokens.{a_token, no_token, none_left}
use Rattle.go_ast.proofs.Values.{ends_if}
use Rattle.go_ast.proofs.Chains.{IsOperand, IsUnary, parts, from_operand, from_unary, grown_height, chain_height}
use Rattle.go_ast.proofs.Operators.{tails_back, tails_forth, tails_good, tails_ends}
use Rattle.go_ast.proofs.Suffixes.{behind_operand_back, behind_operand_forth, behind_operand_good}
use Rattle.go_ast.proofs.Types.{token_first, type_first, type_never, led, behind_bracket_back, behind_struct_back, array_forth, slice_forth, struct_forth, behind_bracket_good, behind_struct_good}
use Rattle.go_ast.proofs.LiteralTypes.{converts_unnamed, no_period, behind_literal_type_back, literal_forth, conversion_forth, behind_literal_type_good}
use Rattle.go_ast.proofs.Levels.{height_positive, type_height_positive}

-- an expression begins with one of these
pub type_begins_expr : (k : TokenKind) → begins_type k ≡ true → begins_expr k ≡ true
type_begins_expr k b = elim (either_true (same kinds.Name k || same opening_bracket k) (same (keyword keywords.Struct) k) b) [
  | inl c ↦ elim (either_true (same kinds.Name k) (same opening_bracket k) c) [
    | inl e ↦ ap begins_expr (are_same kinds.Name k e)
    | inr e ↦ ap begins_expr (are_same opening_bracket k e)
  ]
  | inr e ↦ ap begins_expr (are_same (keyword keywords.Struct) k e)
]

no_operator : (A : Type 0) (op : UnaryOperator) → None ≡ Some op → A
no_operator A op e = absurd (cc (e))

pub unary_begins : (k : TokenKind) (op : UnaryOperator) → unary_of k ≡ Some op → begins_expr k ≡ true
unary_begins (kinds.Punctuation marks.Plus) op e = refl
unary_begins (kinds.Punctuation marks.Minus) op e = refl
unary_begins (kinds.Punctuation marks.Not) op e = refl
unary_begins (kinds.Punctuation marks.Caret) op e = refl
unary_begins _ op e = no_operator _ op e

first_kind : (t u : Lexeme) (us vs : List Lexeme) → t ∷ us ≡ u ∷ vs → t.kind ≡ u.kind
first_kind t u us vs e = let same_token : t ≡ u = cc (e) in ap (λ (x : Lexeme). x.kind) same_token

pub expr_first : (ed : Edition) → (n : ℕ) (h : Bool) (e : Expression) (t : Lexeme) (us ws : List Lexeme) → IsExpr ed n h e (t ∷ us) ws → begins_expr t.kind ≡ true
expr_first ed n h (name p text) t us ws d = ap begins_expr (first_is kinds.Name t d.0 us ws d.1).2
expr_first ed n h (integer p text) t us ws d = ap begins_expr (first_is kinds.Integer t d.0 us ws d.1).2
expr_first ed n h (rune p value) t us ws d = ap begins_expr (first_is kinds.Rune t d.0 us ws d.1).2
expr_first ed n h (string p value) t us ws d = ap begins_expr (first_is kinds.String t d.0 us ws d.1).2
expr_first ed n h (parenthesized p e) t us ws d = ap begins_expr (first_is opening t d.0 us d.2 d.4).2
expr_first ed n h (composite_lit p a q es) t us ws d = type_begins_expr t.kind (type_first ed a t us d.2 d.6)
expr_first ed n h (conversion p a e) t us ws d = type_begins_expr t.kind (type_first ed a t us d.2 d.7)
expr_first ed n h (selector p e f) t us ws d = expr_first ed 0 h e t us d.2 d.6
expr_first ed n h (index p e i) t us ws d = expr_first ed 0 h e t us d.2 d.7
expr_first ed n h (cut p e i j) t us ws d = expr_first ed 0 h e t us d.3 d.11
expr_first ed n h (type_operand p a) t us ws d = absurd d
expr_first ed n h (call p e es) t us ws d = expr_first ed 0 h e t us d.2 d.7
expr_first ed n h (unary p op e) t us ws d = ap begins_expr (first_kind t d.0 us d.1 d.2) ∙ unary_begins d.0.kind op d.3
expr_first ed n h (binary p op a b) t us ws d = expr_first ed (suc (tighter op)) h a t us d.1 d.5

pub expr_never : (ed : Edition) → (n : ℕ) (h : Bool) (e : Expression) (ws : List Lexeme) → IsExpr ed n h e [] ws → ⊥
expr_never ed n h (name p text) ws d = no_token kinds.Name d.0 ws d.1
expr_never ed n h (integer p text) ws d = no_token kinds.Integer d.0 ws d.1
expr_never ed n h (rune p value) ws d = no_token kinds.Rune d.0 ws d.1
expr_never ed n h (string p value) ws d = no_token kinds.String d.0 ws d.1
expr_never ed n h (parenthesized p e) ws d = no_token opening d.0 d.2 d.4
expr_never ed n h (composite_lit p a q es) ws d = type_never ed a d.2 d.6
expr_never ed n h (conversion p a e) ws d = type_never ed a d.2 d.7
expr_never ed n h (selector p e f) ws d = expr_never ed 0 h e d.2 d.6
expr_never ed n h (index p e i) ws d = expr_never ed 0 h e d.2 d.7
expr_never ed n h (cut p e i j) ws d = expr_never ed 0 h e d.3 d.11
expr_never ed n h (type_operand p a) ws d = absurd d
expr_never ed n h (call p e es) ws d = expr_never ed 0 h e d.2 d.7
expr_never ed n h (unary p op e) ws d = none_left d.0 d.1 (sym d.2)
expr_never ed n h (binary p op a b) ws d = expr_never ed (suc (tighter op)) h a d.1 d.5

module _ (ed : Edition) (B : ℕ) where
  -- an expression's tokens, that it fits, and what is behind it
  abbrev pub Expressed : ℕ → Bool → ℕ → (Expression → Reader) → List Lexeme → File → Type 0
  Expressed n h l next us f = (e : Expression) × (ws : List Lexeme) × IsExpr ed n h e us ws × (l + height e ≤ B + 1) × Means ed B (next e) ws f

  -- from an operand on
  pub operand_back : (n : ℕ) (h : Bool) (l : ℕ) (next : Expression → Reader) (a : Expression) (us vs : List Lexeme) (f : File) → IsOperand ed a us vs → l + height a ≤ B + 1 →
      Means ed B (behind_operand n h l next a) vs f → Expressed n h l next us f
  operand_back n h l next a us vs f d le m =
      let g = behind_operand_back ed B n h l next a vs f m in
      (g.0, g.1, from_operand ed n h a g.0 us vs g.1 d g.2, g.3, g.4)

  type_operand_back : (n : ℕ) (h : Bool) (l : ℕ) (next : Expression → Reader) (a : TypeExpr) (us vs : List Lexeme) (f : File) → is_named a ≡ false → IsType ed a us vs →
      l + 1 + type_height a ≤ B + 1 → Means ed B (behind_literal_type l (behind_operand n h l next) a) vs f → Expressed n h l next us f
  type_operand_back n h l next a us vs f unnamed d le m =
      let o = behind_literal_type_back ed B l (behind_operand n h l next) a us vs f unnamed d le m in
      operand_back n h l next o.0 us o.1 f o.2 o.3 o.4

  pub behind_opening_back : (n : ℕ) (h : Bool) (l : ℕ) (next : Expression → Reader) (t : Lexeme) (us : List Lexeme) (f : File) → t.kind ≡ opening →
      Means ed B (behind_opening n h l next t) us f → Expressed n h l next (t ∷ us) f
  behind_opening_back n h l next t us f e m =
      let c = m.4 in
      operand_back n h l next (parenthesized t.place m.0) (t ∷ us) c.1 f (t, c.0, us, m.1, token_here opening t us e, refl, m.2, c.2) (omega (arith, m.3)) c.4

  on_unary_back : (n : ℕ) (h : Bool) (l : ℕ) (x : Expected) (next : Expression → Reader) (t : Lexeme) (us : List Lexeme) (f : File) (o : Option UnaryOperator) →
      unary_of t.kind ≡ o →
      After ed B (on_unary n h l next t (Fail x) o) us f → Expressed n h l next (t ∷ us) f
  on_unary_back n h l x next t us f None e a = absurd a
  on_unary_back n h l x next t us f (Some op) e a =
      let m = a.1 in
      let u = unary t.place op m.0 in
      let g = tails_back ed B n h l next u m.1 f (omega (arith, m.3)) m.4 in
      (g.0, g.1, from_unary ed n h u g.0 (t ∷ us) m.1 g.1 (t, us, refl, e, refl, m.2) g.2, g.3, g.4)

  pub on_expr_back : (n : ℕ) (h : Bool) (l : ℕ) (x : Expected) (next : Expression → Reader) (t : Lexeme) (us : List Lexeme) (f : File) →
      After ed B (on_expr n h l x next t) us f → Expressed n h l next (t ∷ us) f
  on_expr_back n h l x next t us f a = elim (after_cond ed B (same kinds.Name t.kind) _ _ us f a) [
    | inl y ↦ operand_back n h l next (name t.place t.text) (t ∷ us) us f (t, token_here kinds.Name t us (are_same kinds.Name t.kind y.0), refl, refl)
        (omega (arith, y.1.0)) y.1.1
    | inr a1 ↦ elim (after_cond ed B (same kinds.Integer t.kind) _ _ us f a1.1) [
      | inl y ↦ operand_back n h l next (integer t.place t.text) (t ∷ us) us f (
        t,
        token_here kinds.Integer t us (are_same kinds.Integer t.kind y.0),
        refl,
        refl,
      ) (omega (arith, y.1.0)) y.1.1
      | inr a2 ↦ elim (after_cond ed B (same kinds.Rune t.kind) _ _ us f a2.1) [
        | inl y ↦ operand_back n h l next (rune t.place (rune_value t.text)) (t ∷ us) us f (
          t,
          token_here kinds.Rune t us (are_same kinds.Rune t.kind y.0),
          refl,
          rune_means t.text,
        ) (omega (arith, y.1.0)) y.1.1
        | inr a3 ↦ elim (after_cond ed B (same kinds.String t.kind) _ _ us f a3.1) [
          | inl y ↦ operand_back n h l next (string t.place (string_value t.text)) (t ∷ us) us f
              (t, token_here kinds.String t us (are_same kinds.String t.kind y.0), refl, string_means t.text) (omega (arith, y.1.0)) y.1.1
          | inr a4 ↦ elim (after_cond ed B (same opening t.kind) _ _ us f a4.1) [
            | inl y ↦ behind_opening_back n h l next t us f (are_same opening t.kind y.0) y.1.1
            | inr a5 ↦ elim (after_cond ed B (same opening_bracket t.kind) _ _ us f a5.1) [
              | inl y ↦ (let r = behind_bracket_back ed B (l + 1) (behind_literal_type l (behind_operand n h l next)) t us f
                  (are_same opening_bracket t.kind y.0) y.1.1 in
                  type_operand_back n h l next r.0 (t ∷ us) r.1 f r.5 r.2 r.3 r.4)
              | inr a6 ↦ elim (after_cond ed B (same (keyword keywords.Struct) t.kind) _ _ us f a6.1) [
                | inl y ↦ (let r = behind_struct_back ed B (l + 1) (behind_literal_type l (behind_operand n h l next)) t us f
                    (are_same (keyword keywords.Struct) t.kind y.0) y.1.0 y.1.1 in
                    type_operand_back n h l next r.0 (t ∷ us) r.1 f r.5 r.2 r.3 r.4)
                | inr y ↦ on_unary_back n h l x next t us f (unary_of t.kind) refl y.1
              ]
            ]
          ]
        ]
      ]
    ]
  ]

  -- a move by the kind of the first token
  abbrev expr_at : ℕ → Bool → ℕ → Expected → (Expression → Reader) → Lexeme → TokenKind → Move
  expr_at n h l x next t k =
      cond (same kinds.Name k) (Take l (behind_operand n h l next (name t.place t.text)))
      (cond (same kinds.Integer k) (Take l (behind_operand n h l next (integer t.place t.text)))
      (cond (same kinds.Rune k) (Take l (behind_operand n h l next (rune t.place (rune_value t.text))))
      (cond (same kinds.String k) (Take l (behind_operand n h l next (string t.place (string_value t.text))))
      (cond (same opening k) (Take (l + 1) (behind_opening n h l next t))
      (cond (same opening_bracket k) (Take (l + 2) (behind_bracket (l + 1) (behind_literal_type l (behind_operand n h l next)) t))
      (cond (same (keyword keywords.Struct) k) (Take (l + 1) (behind_struct (l + 1) (behind_literal_type l (behind_operand n h l next)) t))
      (on_unary n h l next t (Fail x) (unary_of k))))))))

  expr_by : (n : ℕ) (h : Bool) (l : ℕ) (x : Expected) (next : Expression → Reader) (t : Lexeme) (us : List Lexeme) (f : File) (k : TokenKind) → t.kind ≡ k →
      After ed B (expr_at n h l x next t k) us f → After ed B (on_expr n h l x next t) us f
  expr_by n h l x next t us f k e a = subst (λ y. After ed B (expr_at n h l x next t y) us f) (sym e) a

  unary_at : (n : ℕ) (h : Bool) (l : ℕ) (x : Expected) (next : Expression → Reader) (t : Lexeme) (us : List Lexeme) (f : File) (k : TokenKind) (op : UnaryOperator) →
      unary_of k ≡ Some op →
      After ed B (on_unary n h l next t (Fail x) (unary_of k)) us f → After ed B (expr_at n h l x next t k) us f
  unary_at n h l x next t us f (kinds.Punctuation marks.Plus) op e a = a
  unary_at n h l x next t us f (kinds.Punctuation marks.Minus) op e a = a
  unary_at n h l x next t us f (kinds.Punctuation marks.Not) op e a = a
  unary_at n h l x next t us f (kinds.Punctuation marks.Caret) op e a = a
  unary_at n h l x next t us f _ op e a = absurd a

  -- the type of an operand
  type_operand_forth : (n : ℕ) (h : Bool) (l : ℕ) (x : Expected) (next : Expression → Reader) (t : Lexeme) (us vs : List Lexeme) (f : File) (a : TypeExpr) →
      is_named a ≡ false → IsType ed a (t ∷ us) vs →
      l + 1 + type_height a ≤ B + 1 → Means ed B (behind_literal_type l (behind_operand n h l next) a) vs f → After ed B (on_expr n h l x next t) us f
  type_operand_forth n h l x next t us vs f (named p m) unnamed d le r = absurd (false_true (sym unnamed))
  type_operand_forth n h l x next t us vs f (qualified p m o) unnamed d le r = absurd (false_true (sym unnamed))
  type_operand_forth n h l x next t us vs f (array p e a) unnamed d le r =
      expr_by n h l x next t us f opening_bracket (first_is opening_bracket t d.0 us d.2 d.5).2
      (omega (arith, height_positive e), array_forth ed B (l + 1) (behind_literal_type l (behind_operand n h l next)) t us vs f p e a d le r)
  type_operand_forth n h l x next t us vs f (slice p a) unnamed d le r =
      expr_by n h l x next t us f opening_bracket (first_is opening_bracket t d.0 us d.2 d.5).2
      (omega (arith, type_height_positive a), slice_forth ed B (l + 1) (behind_literal_type l (behind_operand n h l next)) t us vs f p a d le r)
  type_operand_forth n h l x next t us vs f (struct p fs) unnamed d le r =
      expr_by n h l x next t us f (keyword keywords.Struct) (first_is (keyword keywords.Struct) t d.0 us d.3 d.6).2
      (omega arith, struct_forth ed B (l + 1) (behind_literal_type l (behind_operand n h l next)) t us vs f p fs d le r)

  operand_forth : (n : ℕ) (h : Bool) (l : ℕ) (x : Expected) (next : Expression → Reader) (t : Lexeme) (us vs : List Lexeme) (f : File) (a : Expression) →
      IsOperand ed a (t ∷ us) vs →
      l + height a ≤ B + 1 → Means ed B (behind_operand n h l next a) vs f → After ed B (on_expr n h l x next t) us f
  operand_forth n h l x next t us vs f (name p text) d le m =
      let e = first_is kinds.Name t d.0 us vs d.1 in
      let place : p ≡ t.place = d.2 ∙ ap (λ (y : Lexeme). y.place) (sym e.0) in
      let here : text ≡ t.text = d.3 ∙ ap (λ (y : Lexeme). y.text) (sym e.0) in
      expr_by n h l x next t us f kinds.Name e.2 (
        omega arith,
        led ed B (behind_operand n h l next) (name t.place t.text) (name p text) us vs f
            (cc (place, here)) e.1 m,
      )
  operand_forth n h l x next t us vs f (integer p text) d le m =
      let e = first_is kinds.Integer t d.0 us vs d.1 in
      let place : p ≡ t.place = d.2 ∙ ap (λ (y : Lexeme). y.place) (sym e.0) in
      let here : text ≡ t.text = d.3 ∙ ap (λ (y : Lexeme). y.text) (sym e.0) in
      expr_by n h l x next t us f kinds.Integer e.2 (
        omega arith,
        led ed B (behind_operand n h l next) (integer t.place t.text) (integer p text) us vs f
            (cc (place, here)) e.1 m,
      )
  operand_forth n h l x next t us vs f (rune p value) d le m =
      let e = first_is kinds.Rune t d.0 us vs d.1 in
      let place : p ≡ t.place = d.2 ∙ ap (λ (y : Lexeme). y.place) (sym e.0) in
      let here : value ≡ rune_value t.text = rune_computed d.0.text value d.3 ∙ ap (λ (y : Lexeme). rune_value y.text) (sym e.0) in
      expr_by n h l x next t us f kinds.Rune e.2 (
        omega arith,
        led ed B (behind_operand n h l next) (rune t.place (rune_value t.text)) (rune p value) us vs f
            (cc (place, here)) e.1 m,
      )
  operand_forth n h l x next t us vs f (string p value) d le m =
      let e = first_is kinds.String t d.0 us vs d.1 in
      let place : p ≡ t.place = d.2 ∙ ap (λ (y : Lexeme). y.place) (sym e.0) in
      let here : value ≡ string_value t.text = string_computed d.0.text value d.3 ∙ ap (λ (y : Lexeme). string_value y.text) (sym e.0) in
      expr_by n h l x next t us f kinds.String e.2 (
        omega arith,
        led ed B (behind_operand n h l next) (string t.place (string_value t.text))
            (string p value) us vs f (cc (place, here)) e.1 m,
      )
  operand_forth n h l x next t us vs f (parenthesized p a) d le m =
      let e = first_is opening t d.0 us d.2 d.4 in
      let place : p ≡ t.place = d.5 ∙ ap (λ (y : Lexeme). y.place) (sym e.0) in
      expr_by n h l x next t us f opening e.2 (
        omega (arith, height_positive a),
        (
          a,
          d.3,
          subst (λ y. IsExpr ed 5 false a y d.3) (sym e.1) d.6,
          omega arith,
          (d.1, vs, d.7, omega arith, led ed B (behind_operand n h l next) (parenthesized t.place a) (parenthesized p a) vs vs f (cc (place)) refl m),
        ),
      )
  operand_forth n h l x next t us vs f (composite_lit p a q es) d le m =
      type_operand_forth n h l x next t us d.2 f a d.5 d.6 (omega arith) (literal_forth ed B l (behind_operand n h l next) (t ∷ us) vs f p a q es d le m)
  operand_forth n h l x next t us vs f (conversion p a e) d le m =
      type_operand_forth n h l x next t us d.2 f a (converts_unnamed a d.6) d.7 (omega arith) (conversion_forth ed B l (behind_operand n h l next) (t ∷ us) vs f p a e d le m)
  operand_forth n h l x next t us vs f (selector p e g) d le m = absurd d
  operand_forth n h l x next t us vs f (index p e i) d le m = absurd d
  operand_forth n h l x next t us vs f (cut p e i j) d le m = absurd d
  operand_forth n h l x next t us vs f (call p e es) d le m = absurd d
  operand_forth n h l x next t us vs f (type_operand p a) d le m = absurd d
  operand_forth n h l x next t us vs f (unary p op e) d le m = absurd d
  operand_forth n h l x next t us vs f (binary p op e g) d le m = absurd d

  unary_forth : (n : ℕ) (h : Bool) (l : ℕ) (x : Expected) (next : Expression → Reader) (t : Lexeme) (us vs : List Lexeme) (f : File) (a : Expression) →
      IsUnary ed h a (t ∷ us) vs →
      l + height a ≤ B + 1 → Means ed B (tails n h l next a) vs f → After ed B (on_expr n h l x next t) us f
  unary_forth n h l x next t us vs f (unary p op a) d le m =
      let whole : t ∷ us ≡ d.0 ∷ d.1 = d.2 in
      let first : t ≡ d.0 = cc (whole) in
      let rest : us ≡ d.1 = cc (whole) in
      let place : p ≡ t.place = d.4 ∙ ap (λ (y : Lexeme). y.place) (sym first) in
      let is : unary_of t.kind ≡ Some op = ap (λ (y : Lexeme). unary_of y.kind) first ∙ d.3 in
      let after : After ed B (on_unary n h l next t (Fail x) (Some op)) us f = (
        omega (arith, height_positive a),
        (
          a,
          vs,
          subst (λ y. IsExpr ed 0 h a y vs) (sym rest) d.5,
          omega arith,
          led ed B (tails n h l next) (unary t.place op a) (unary p op a) vs vs f (cc (place)) refl m,
        ),
      ) in
      unary_at n h l x next t us f t.kind op is (subst (λ o. After ed B (on_unary n h l next t (Fail x) o) us f) (sym is) after)
  unary_forth n h l x next t us vs f _ d le m = absurd d

  pub on_expr_forth : (n : ℕ) (h : Bool) (l : ℕ) (x : Expected) (next : Expression → Reader) (t : Lexeme) (us : List Lexeme) (f : File) →
      Expressed n h l next (t ∷ us) f → After ed B (on_expr n h l x next t) us f
  on_expr_forth n h l x next t us f m = elim (parts ed n h m.0 (t ∷ us) m.1 m.2) [
    | inl p ↦ operand_forth n h l x next t us p.1 f p.0 p.2 (omega (arith, m.3, grown_height ed n h p.0 m.0 p.1 m.1 p.3))
        (behind_operand_forth ed B n h l next p.0 m.0 p.1 m.1 f p.3 m.3 m.4)
    | inr p ↦ unary_forth n h l x next t us p.1 f p.0 p.2 (omega (arith, m.3, chain_height ed n h p.0 m.0 p.1 m.1 p.3))
        (tails_forth ed B n h l next p.0 m.0 p.1 m.1 f p.3 m.3 m.4)
  ]

  -- what is due behind the first token is good
  pub behind_opening_good : (n : ℕ) (h : Bool) (l : ℕ) (x : Expected) (next : Expression → Reader) (t : Lexeme) → l + 1 ≤ B → Okay ed B (expr n h l x next) →
      Good ed B (behind_opening n h l next t)
  behind_opening_good n h l x next t le ok = (
    le,
    (
      (λ e fits. (omega arith, λ c k z. behind_operand_good ed B n h l next ok.0 ok.1 (parenthesized t.place e) (omega arith))),
      ends_if ed B 5 false _ (λ e k b. let same_kind : k ≡ closing = are_same closing k b in (ap (is_tail false) same_kind, ap binary_of same_kind)),
    ),
  )

  type_operand_okay : (n : ℕ) (h : Bool) (l : ℕ) (x y : Expected) (next : Expression → Reader) → Okay ed B (expr n h l x next) →
      Okay ed B (type (l + 1) y (behind_literal_type l (behind_operand n h l next)))
  type_operand_okay n h l x y next ok =
      ((λ a fits. behind_literal_type_good ed B l (behind_operand n h l next) a fits (behind_operand_good ed B n h l next ok.0 ok.1)), λ a. no_period l (behind_operand n h l next) a)

  on_unary_kept : (n : ℕ) (h : Bool) (l : ℕ) (x : Expected) (next : Expression → Reader) (t : Lexeme) (o : Option UnaryOperator) →
      Okay ed B (expr n h l x next) → Kept ed B (on_unary n h l next t (Fail x) o)
  on_unary_kept n h l x next t None ok = tt
  on_unary_kept n h l x next t (Some op) ok = λ le. (
    le,
    (
      (λ e fits. tails_good ed B n h l next ok.0 ok.1 (unary t.place op e) (omega arith)),
      record {
        no_suffix = λ e k s. (tails_ends ed B n h l next ok.1).no_suffix (unary t.place op e) k s;
        no_operator = λ e k o b lt. absurd (omega (arith, lt));
      },
    ),
  )

  pub on_expr_kept : (n : ℕ) (h : Bool) (l : ℕ) (x : Expected) (next : Expression → Reader) (t : Lexeme) → Okay ed B (expr n h l x next) →
      Kept ed B (on_expr n h l x next t)
  on_expr_kept n h l x next t ok =
      kept_cond ed B (same kinds.Name t.kind) _ _ (λ e le. behind_operand_good ed B n h l next ok.0 ok.1 (name t.place t.text) (omega arith)) (λ e.
      kept_cond ed B (same kinds.Integer t.kind) _ _ (λ e le. behind_operand_good ed B n h l next ok.0 ok.1 (integer t.place t.text) (omega arith)) (λ e.
      kept_cond ed B (same kinds.Rune t.kind) _ _ (λ e le. behind_operand_good ed B n h l next ok.0 ok.1 (rune t.place (rune_value t.text)) (omega arith)) (λ e.
      kept_cond ed B (same kinds.String t.kind) _ _ (λ e le. behind_operand_good ed B n h l next ok.0 ok.1 (string t.place (string_value t.text)) (omega arith)) (λ e.
      kept_cond ed B (same opening t.kind) _ _ (λ e le. behind_opening_good n h l x next t le ok) (λ e.
      kept_cond ed B (same opening_bracket t.kind) _ _ (λ e le. behind_bracket_good ed B (l + 1) another (behind_literal_type l (behind_operand n h l next)) t
      (omega arith) (type_operand_okay n h l x another next ok)) (λ e.
      kept_cond ed B (same (keyword keywords.Struct) t.kind) _ _
      (λ e le. behind_struct_good ed B (l + 1) another (behind_literal_type l (behind_operand n h l next)) t le (type_operand_okay n h l x another next ok)) (λ e.
      on_unary_kept n h l x next t (unary_of t.kind) ok)))))))

  -- the state
  pub expr_back : (n : ℕ) (h : Bool) (l : ℕ) (x : Expected) (next : Expression → Reader) (t : Lexeme) (us : List Lexeme) (f : File) →
      After ed B (parser_step ed (expr n h l x next) t) us f → Means ed B (expr n h l x next) (t ∷ us) f
  expr_back = on_expr_back

  pub expr_forth : (n : ℕ) (h : Bool) (l : ℕ) (x : Expected) (next : Expression → Reader) (t : Lexeme) (us : List Lexeme) (f : File) →
      Means ed B (expr n h l x next) (t ∷ us) f → After ed B (parser_step ed (expr n h l x next) t) us f
  expr_forth = on_expr_forth

  pub expr_kept : (n : ℕ) (h : Bool) (l : ℕ) (x : Expected) (next : Expression → Reader) (t : Lexeme) → Okay ed B (expr n h l x next) →
      Kept ed B (parser_step ed (expr n h l x next) t)
  expr_kept = on_expr_kept

  pub expr_begins : (n : ℕ) (h : Bool) (l : ℕ) (x : Expected) (next : Expression → Reader) (t : Lexeme) (us : List Lexeme) (f : File) →
      Means ed B (expr n h l x next) (t ∷ us) f → begins (expr n h l x next) t.kind ≡ true
  expr_begins n h l x next t us f m = expr_first ed n h m.0 t us m.1 m.2

  pub expr_comes : (n : ℕ) (h : Bool) (l : ℕ) (x : Expected) (next : Expression → Reader) → l ≤ B → ((e : Expression) → l + height e ≤ B + 1 → Comes ed B (next e)) →
      Comes ed B (expr n h l x next)
  expr_comes n h l x next le on =
      let t = a_token kinds.Name in
      let e = name t.place t.text in
      let c = on e (omega arith) in
      (t ∷ c.0, c.1, (e, c.0, (t, token_first kinds.Name c.0, refl, refl), omega arith, c.2))

  pub expr_over : (n : ℕ) (h : Bool) (l : ℕ) (x : Expected) (next : Expression → Reader) (f : File) → Means ed B (expr n h l x next) [] f → ⊥
  expr_over n h l x next f m = expr_never ed n h m.0 m.1 m.2
