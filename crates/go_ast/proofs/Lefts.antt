-- What is behind left sides: what is taken is what the grammar says, both ways.
use Rattle.std.proofs.Common.{◌≡◌, ◌≢◌, ℕ, ◌+◌, ◌≤◌, ◌⊎◌, Bool, true, false, ◌&&◌, ◌||◌, List, [], ◌∷◌, ◌++◌, Option, Some, None, inl, inr, refl, sym, ap, ◌∙◌, subst, arith, append-nil}
use Rattle.go_text.specs.declared.edition.Edition.{Edition}
use Rattle.go_scan.specs.declared.token.TokenKind.{TokenKind}
use Rattle.go_scan.specs.declared.token.TokenKind.TheVariants as kinds
use Rattle.go_scan.specs.declared.keyword.Keyword.TheVariants as keywords
use Rattle.go_scan.specs.declared.punctuation.Punctuation.TheVariants as marks
use Rattle.go_ast.specs.Kinds.{same}
use Rattle.go_ast.specs.Operators.{assignment_of}
use Rattle.go_ast.specs.Expected.{an_operand, a_value, another}
use Rattle.go_ast.specs.Trees.{Name, BinaryOperator, Expression, ExpressionList, Simple, call_statement, increment, decrement, assignment, operator_assignment, short_var_decl, File, pack}
use Rattle.go_ast.specs.Heights.{height, exprs_height, simple_height}
use Rattle.go_ast.specs.Grammar.{Lexeme, Token, assign, comma, define, opening_brace, IsExpr, AreMoreExprs, AreExprs, is_call, is_short_var_decl}
use Rattle.go_ast.specs.Machine.{Position, in_list, in_header, in_for, behind_turns, Reader, lefts, Move, Take, Fail, cond, keyword, is_some, name_if, names_if, may_define, is_header, short_var_decl_values, behind_define, on_define, on_assignment, on_lefts, on_left, behind_left, parser_step}
use Rattle.go_ast.proofs.Positions.{is_for}
use Rattle.go_ast.proofs.Same.{are_same, is_same, not_same}
use Rattle.go_ast.proofs.Means.{begins, continues, Continues, AllFit, Means, Okay, After}
use Rattle.go_ast.proofs.Base.{false_true, both_true, after_cond, after_same, after_other, token_here, first_is, both_are, either_false}
use Rattle.go_ast.proofs.Values.{values_back, values_forth, exprs_fit}
use Rattle.go_ast.proofs.Simple.{push_assoc, push_split, is_name}

-- several aren't one
pub not_one : (front : List Expression) (e a : Expression) → front ≢ [] → front ++ e ∷ [] ≡ a ∷ [] → ⊥
not_one [] e a some q = some refl
not_one (x ∷ []) e a some q = let c : x ∷ e ∷ [] ≡ a ∷ [] = q in cc (c)
not_one (x ∷ y ∷ front) e a some q = let c : x ∷ y ∷ (front ++ e ∷ []) ≡ a ∷ [] = q in cc (c)

some_names : (front : List Expression) (e : Expression) → names_if (front ++ e ∷ []) ≡ Some [] → ⊥
some_names [] e q = let s = push_split (name_if e) (Some []) [] q in let c : [] ≡ s.0 ∷ s.1 = s.4 in cc (c)
some_names (x ∷ front) e q = let s = push_split (name_if x) (names_if (front ++ e ∷ [])) [] q in let c : [] ≡ s.0 ∷ s.1 = s.4 in cc (c)

pub not_one_name : (front : List Expression) (e : Expression) (n : Name) → front ≢ [] → names_if (front ++ e ∷ []) ≡ Some (n ∷ []) → ⊥
not_one_name [] e n some q = some refl
not_one_name (x ∷ front) e n some q =
    let s = push_split (name_if x) (names_if (front ++ e ∷ [])) (n ∷ []) q in
    let c : n ∷ [] ≡ s.0 ∷ s.1 = s.4 in
    let none : s.1 ≡ [] = cc (c) in
    some_names front e (s.3 ∙ ap Some none)

-- a name has one level
name_height : (e : Expression) (n : Name) → name_if e ≡ Some n → height e ≡ 1
name_height e n q = ap height (is_name e n q)

pub named_height : (front : List Expression) (e : Expression) (es : List Expression) (ns : List Name) → names_if (front ++ e ∷ es) ≡ Some ns → height e ≡ 1
named_height [] e es ns q = let s = push_split (name_if e) (names_if es) ns q in name_height e s.0 s.2
named_height (x ∷ front) e es ns q = let s = push_split (name_if x) (names_if (front ++ e ∷ es)) ns q in named_height front e es s.1 s.3

pub height_in : (front : List Expression) (e : Expression) (es : List Expression) → height e ≤ exprs_height (pack (front ++ e ∷ es))
height_in [] e es = omega arith
height_in (x ∷ front) e es = omega (arith, height_in front e es)

-- behind a comma and one more
after_comma : (ed : Edition) → (h : Bool) (front : List Expression) (e : Expression) (s : Simple) (t : Lexeme) (us vs ws : List Lexeme) → front ≢ [] → t.kind ≡ comma → IsExpr ed 5 h e us vs →
    Continues ed h (front ++ e ∷ []) s vs ws → Continues ed h front s (t ∷ us) ws
after_comma ed h front e (call_statement a) t us vs ws some k d c = absurd (not_one front e a some c.0)
after_comma ed h front e (increment a) t us vs ws some k d c = absurd (not_one front e a some c.1)
after_comma ed h front e (decrement a) t us vs ws some k d c = absurd (not_one front e a some c.1)
after_comma ed h front e (assignment ls rs) t us vs ws some k d c =
    (e ∷ c.0, c.1, c.2, c.3, (t, us, vs, token_here comma t us k, d, c.4), c.5 ∙ ap pack (push_assoc front e c.0), c.6, c.7)
after_comma ed h front e (operator_assignment op l r) t us vs ws some k d c = absurd (not_one front e l some c.2)
after_comma ed h front e (short_var_decl ns rs) t us vs ws some k d c =
    (e ∷ c.0, c.1, c.2, c.3, (t, us, vs, token_here comma t us k, d, c.4), sym (ap names_if (push_assoc front e c.0)) ∙ c.5, c.6, c.7)

-- kinds that are none of these
pub not_operator : (j : TokenKind) (t : Lexeme) (op : BinaryOperator) → assignment_of j ≡ None → assignment_of t.kind ≡ Some op → same j t.kind ≡ false
not_operator j t op n q = not_same j t.kind (λ k. let c : None ≡ Some op = sym n ∙ sym (ap assignment_of k) ∙ q in cc (c))

and_false : (a b : Bool) → (a ≡ true → b ≡ false) → (a && b) ≡ false
and_false true b f = f refl
and_false false b f = refl

pub none_of : {A : Type 0} (o : Option A) → is_some o ≡ false → o ≡ None
none_of None e = refl
none_of (Some a) e = absurd (false_true (sym e))

abbrev pub increments : TokenKind
increments = kinds.Punctuation marks.Increment

abbrev pub decrements : TokenKind
decrements = kinds.Punctuation marks.Decrement

not_continued : (k : TokenKind) → continues k ≡ false →
    (same comma k ≡ false) × (same assign k ≡ false) × (same define k ≡ false) × (same increments k ≡ false) × (same decrements k ≡ false)
    × (assignment_of k ≡ None)
not_continued k e =
    let a = either_false (same comma k || same assign k || same define k || same increments k || same decrements k) (is_some (assignment_of k)) e in
    let b = either_false (same comma k || same assign k || same define k || same increments k) (same decrements k) a.0 in
    let c = either_false (same comma k || same assign k || same define k) (same increments k) b.0 in
    let d = either_false (same comma k || same assign k) (same define k) c.0 in
    let f = either_false (same comma k) (same assign k) d.0 in
    (f.0, f.1, d.1, c.1, b.1, none_of (assignment_of k) a.1)

for_defines : (m : Position) → is_for m ≡ true → may_define m ≡ true
for_defines in_for e = refl
for_defines in_list e = absurd (false_true e)
for_defines in_header e = absurd (false_true e)
for_defines behind_turns e = absurd (false_true e)

pub defines : (m : Position) → (may_define m ≡ false → true ≡ false) → may_define m ≡ true
defines behind_turns f = absurd (false_true (sym (f refl)))
defines in_list f = refl
defines in_header f = refl
defines in_for f = refl

module _ (ed : Edition) (B : ℕ) where
  -- behind `:=`
  abbrev Ranges : Position → Bool → ℕ → List Name → (Name → Expression → Reader) → List Lexeme → File → Type 0
  Ranges m h l ns range us f =
      (n : Name) × (e : Expression) × (r : Lexeme) × (xs ws : List Lexeme) × (is_for m ≡ true) × (ns ≡ n ∷ []) × Token (keyword keywords.Range) r us xs
      × IsExpr ed 5 h e xs ws × (l + height e ≤ B + 1) × Means ed B (range n e) ws f

  abbrev Defines : Bool → ℕ → List Name → (Simple → Reader) → List Lexeme → File → Type 0
  Defines h l ns next us f = (rs : ExpressionList) × (ws : List Lexeme) × AreExprs ed h rs us ws × (l + exprs_height rs ≤ B + 1) × Means ed B (next (short_var_decl ns rs)) ws f

  define_back : (m : Position) (h : Bool) (l : ℕ) (ns : List Name) (next : Simple → Reader) (range : Name → Expression → Reader) (us : List Lexeme) (f : File) →
      Means ed B (behind_define m h l ns next range) us f → Defines h l ns next us f ⊎ Ranges m h l ns range us f
  define_back in_for h l (n ∷ []) next range us f g = elim g [
    | inl a ↦ inr (n, a.4.0, a.0, a.1, a.4.1, refl, refl, a.2, a.4.2, a.4.3, a.4.4)
    | inr a ↦ inl (values_back ed B h l an_operand (λ rs. next (short_var_decl (n ∷ []) rs)) us f a)
  ]
  define_back m h l ns next range us f g = inl (values_back ed B h l an_operand (λ rs. next (short_var_decl ns rs)) us f g)

  values_behind : (m : Position) (h : Bool) (l : ℕ) (ns : List Name) (next : Simple → Reader) (range : Name → Expression → Reader) (us : List Lexeme) (f : File) →
      Means ed B (short_var_decl_values h l ns next) us f → Means ed B (behind_define m h l ns next range) us f
  values_behind in_for h l (n ∷ []) next range us f g = inr g
  values_behind m h l ns next range us f g = g

  range_behind : (m : Position) (h : Bool) (l : ℕ) (n : Name) (next : Simple → Reader) (range : Name → Expression → Reader) (e : Expression) (r : Lexeme)
      (us xs ws : List Lexeme) (f : File) →
      is_for m ≡ true → Token (keyword keywords.Range) r us xs → IsExpr ed 5 h e xs ws → l + height e ≤ B + 1 → Means ed B (range n e) ws f →
      Means ed B (behind_define m h l (n ∷ []) next range) us f
  range_behind in_for h l n next range e r us xs ws f i k d le g = inl (r, xs, k, omega arith, (e, ws, d, le, g))
  range_behind in_list h l n next range e r us xs ws f i k d le g = absurd (false_true i)
  range_behind in_header h l n next range e r us xs ws f i k d le g = absurd (false_true i)
  range_behind behind_turns h l n next range e r us xs ws f i k d le g = absurd (false_true i)

  module _ (m : Position) (h : Bool) (l : ℕ) (next : Simple → Reader) (alone : Expression → Reader) (range : Name → Expression → Reader) (t : Lexeme) (us : List Lexeme)
      (f : File) where
    abbrev Behind : List Expression → Type 0
    Behind front = Means ed B (lefts m h l front next alone range) (t ∷ us) f

    -- what is taken is so
    comma_back : (front : List Expression) → front ≢ [] → t.kind ≡ comma → (e : Expression) (vs : List Lexeme) → IsExpr ed 5 h e us vs →
        Means ed B (lefts m h l (front ++ e ∷ []) next alone range) vs f → Behind front
    comma_back front some k e vs d g = elim g [
      | inl s ↦ inl (s.0, s.1, after_comma ed h front e s.0 t us vs s.1 some k d s.2, s.3, s.4, s.5)
      | inr r ↦ elim r [
        | inl a ↦ absurd (not_one front e a.0 some a.1)
        | inr a ↦ absurd (not_one_name front e a.0 some a.8)
      ]
    ]

    on_define_back : (front : List Expression) (other : Move) (o : Option (List Name)) → names_if front ≡ o → (After ed B other us f → Behind front) →
        After ed B (on_define m h l next range t other o) us f → Behind front
    on_define_back front other None q rest a = rest a
    on_define_back front other (Some ns) q rest a =
        elim (after_cond ed B (same define t.kind && may_define m) (Take 0 (behind_define m h l ns next range)) other us f a) [
          | inl c ↦ (let k = both_true (same define t.kind) (may_define m) c.0 in
              let kind = are_same define t.kind k.0 in
              elim (define_back m h l ns next range us f c.1.1) [
                | inl d ↦ inl (
                  short_var_decl ns d.0,
                  d.1,
                  ([], t, t ∷ us, us, refl, ap names_if (append-nil front) ∙ q, token_here define t us kind, d.2),
                  d.3,
                  (λ no. absurd (false_true (sym no ∙ k.1))),
                  d.4,
                )
                | inr d ↦ inr (inr (d.0, d.1, t, d.2, us, d.3, d.4, d.5, q ∙ ap Some d.6, token_here define t us kind, d.7, d.8, d.9, d.10))
              ])
          | inr c ↦ rest c.1
        ]

    on_lefts_back : (front : List Expression) (other : Move) → l ≤ B → AllFit ed B height l front → front ≢ [] → (After ed B other us f → Behind front) →
        After ed B (on_lefts m h l front next alone range t other) us f → Behind front
    on_lefts_back front other le fits some rest a = elim (after_cond ed B (same comma t.kind) _ _ us f a) [
      | inl c ↦ (let g = c.1.1 in comma_back front some (are_same comma t.kind c.0) g.0 g.1 g.2 g.4)
      | inr c ↦ elim (after_cond ed B (same assign t.kind) _ _ us f c.1) [
        | inl d ↦ (let g = values_back ed B h l a_value (λ rs. next (assignment (pack front) rs)) us f d.1.1 in
            inl (
              assignment (pack front) g.0,
              g.1,
              ([], t, t ∷ us, us, refl, ap pack (sym (append-nil front)), token_here assign t us (are_same assign t.kind d.0), g.2),
              omega (arith, g.3, exprs_fit ed B l front (omega (arith, le)) fits),
              (λ _. refl),
              g.4,
            ))
        | inr d ↦ on_define_back front other (names_if front) refl rest d.1
      ]
    ]

    -- behind one
    on_assignment_back : (e : Expression) (other : Move) (o : Option BinaryOperator) → assignment_of t.kind ≡ o → l + height e ≤ B + 1 →
        (After ed B other us f → Behind (e ∷ [])) → After ed B (on_assignment h l e next other o) us f → Behind (e ∷ [])
    on_assignment_back e other None q le rest a = rest a
    on_assignment_back e other (Some op) q le rest a =
        let g = a.1 in inl (operator_assignment op e g.0, g.1, (t, us, refl, refl, q, g.2), omega (arith, le, g.3), (λ _. refl), g.4)

    abbrev Last : Expression → Move
    Last e = cond (is_header m && same opening_brace t.kind) (parser_step ed (alone e) t) (cond (is_call e) (parser_step ed (next (call_statement e)) t) (Fail (behind_left m e)))

    on_left_back : (e : Expression) → l + height e ≤ B + 1 → (After ed B (Last e) us f → Behind (e ∷ [])) →
        After ed B (on_left h l e next t (Last e)) us f → Behind (e ∷ [])
    on_left_back e le rest a = elim (after_cond ed B (same increments t.kind) _ _ us f a) [
      | inl c ↦ inl (increment e, us, (t, refl, token_here increments t us (are_same _ t.kind c.0)), le, (λ _. refl), c.1.1)
      | inr c ↦ elim (after_cond ed B (same decrements t.kind) _ _ us f c.1) [
        | inl d ↦ inl (decrement e, us, (t, refl, token_here decrements t us (are_same _ t.kind d.0)), le, (λ _. refl), d.1.1)
        | inr d ↦ on_assignment_back e (Last e) (assignment_of t.kind) refl le rest d.1
      ]
    ]

    last_back : (e : Expression) → l + height e ≤ B + 1 → (is_header m ≡ true → After ed B (parser_step ed (alone e) t) us f → Means ed B (alone e) (t ∷ us) f) →
        (After ed B (parser_step ed (next (call_statement e)) t) us f → Means ed B (next (call_statement e)) (t ∷ us) f) → After ed B (Last e) us f → Behind (e ∷ [])
    last_back e le by_alone by_next a = elim (after_cond ed B (is_header m && same opening_brace t.kind) _ _ us f a) [
      | inl c ↦ (let k = both_true (is_header m) (same opening_brace t.kind) c.0 in
          inr (inl (e, refl, k.0, are_same opening_brace t.kind k.1, by_alone k.0 c.1)))
      | inr c ↦ elim (after_cond ed B (is_call e) _ _ us f c.1) [
        | inl d ↦ inl (call_statement e, t ∷ us, (refl, d.0, refl), le, (λ _. refl), by_next d.1)
        | inr d ↦ absurd d.1
      ]
    ]

    pub lefts_back : (front : List Expression) → Okay ed B (lefts m h l front next alone range) →
        ((e : Expression) → Okay ed B (alone e) → After ed B (parser_step ed (alone e) t) us f → Means ed B (alone e) (t ∷ us) f) →
        ((s : Simple) → Okay ed B (next s) → After ed B (parser_step ed (next s) t) us f → Means ed B (next s) (t ∷ us) f) →
        After ed B (parser_step ed (lefts m h l front next alone range) t) us f → Behind front
    lefts_back [] ok by_alone by_next a = absurd (ok.2 refl)
    lefts_back (e ∷ []) ok by_alone by_next a =
        on_lefts_back (e ∷ []) (on_left h l e next t (Last e)) ok.0 ok.1 ok.2
        (on_left_back e ok.1.0 (last_back e ok.1.0 (λ i. by_alone e (ok.5 i e ok.1.0).1) (by_next (call_statement e) (ok.3 (call_statement e) ok.1.0).1))) a
    lefts_back (e ∷ x ∷ front) ok by_alone by_next a = on_lefts_back (e ∷ x ∷ front) (Fail another) ok.0 ok.1 ok.2 (λ b. absurd b) a

    -- what is so is taken
    on_define_forth : (other : Move) (o : Option (List Name)) (ns : List Name) → o ≡ Some ns → t.kind ≡ define → may_define m ≡ true →
        Means ed B (behind_define m h l ns next range) us f → After ed B (on_define m h l next range t other o) us f
    on_define_forth other o ns q k may g =
        subst (λ x. After ed B (on_define m h l next range t other x) us f) (sym q)
        (subst (λ b. After ed B (cond b (Take 0 (behind_define m h l ns next range)) other) us f)
        (sym (both_are (same define t.kind) (may_define m) (is_same define t.kind k) may)) (omega arith, g))

    defined : (front : List Expression) (other : Move) (ns : List Name) → names_if front ≡ Some ns → t.kind ≡ define → may_define m ≡ true →
        Means ed B (behind_define m h l ns next range) us f → After ed B (on_lefts m h l front next alone range t other) us f
    defined front other ns q k may g =
        after_other ed B comma t _ _ us f (ap (same comma) k)
        (after_other ed B assign t _ _ us f (ap (same assign) k) (on_define_forth other (names_if front) ns q k may g))

    continued : (front : List Expression) (other : Move) (e : Expression) (vs : List Lexeme) → t.kind ≡ comma → IsExpr ed 5 h e us vs → l + height e ≤ B + 1 →
        Means ed B (lefts m h l (front ++ e ∷ []) next alone range) vs f → After ed B (on_lefts m h l front next alone range t other) us f
    continued front other e vs k d le g = after_same ed B comma t _ _ us f k (omega arith, (e, vs, d, le, g))

    assign_forth : (front : List Expression) (other : Move) (es : List Expression) (ls rs : ExpressionList) (c : Lexeme) (vs xs ws : List Lexeme) →
        AreMoreExprs ed h (pack es) (t ∷ us) vs → ls ≡ pack (front ++ es) → Token assign c vs xs → AreExprs ed h rs xs ws →
        l + simple_height (assignment ls rs) ≤ B + 1 → Means ed B (next (assignment ls rs)) ws f → After ed B (on_lefts m h l front next alone range t other) us f
    assign_forth front other [] ls rs c vs xs ws more q k d le g =
        let i = first_is assign t c us xs (record { whole = more ∙ k.whole; is = k.is }) in
        after_other ed B comma t _ _ us f (ap (same comma) i.2) (after_same ed B assign t _ _ us f i.2 (
          omega arith,
          values_forth ed B h l a_value (λ r. next (assignment (pack front) r)) rs us ws f (subst (λ x. AreExprs ed h rs x ws) (sym i.1) d) (omega (arith, le))
              (subst (λ x. Means ed B (next (assignment x rs)) ws f) (q ∙ ap pack (append-nil front)) g),
        ))
    assign_forth front other (e ∷ es) ls rs c vs xs ws more q k d le g =
        let i = first_is comma t more.0 us more.1 more.3 in
        let same_height : exprs_height ls ≡ exprs_height (pack (front ++ e ∷ es)) = ap exprs_height q in
        continued front other e more.2 i.2 (subst (λ x. IsExpr ed 5 h e x more.2) (sym i.1) more.4) (omega (arith, le, same_height, height_in front e es))
        (inl (assignment ls rs, ws, (es, c, vs, xs, more.5, q ∙ ap pack (sym (push_assoc front e es)), k, d), le, (λ _. refl), g))

    short_var_decl_forth : (front : List Expression) (other : Move) (es : List Expression) (ns : List Name) (rs : ExpressionList) (c : Lexeme) (vs xs ws : List Lexeme) → l ≤ B →
        AreMoreExprs ed h (pack es) (t ∷ us) vs → names_if (front ++ es) ≡ Some ns → Token define c vs xs → AreExprs ed h rs xs ws →
        l + exprs_height rs ≤ B + 1 → may_define m ≡ true → Means ed B (next (short_var_decl ns rs)) ws f →
        After ed B (on_lefts m h l front next alone range t other) us f
    short_var_decl_forth front other [] ns rs c vs xs ws room more q k d le may g =
        let i = first_is define t c us xs (record { whole = more ∙ k.whole; is = k.is }) in
        defined front other ns (sym (ap names_if (append-nil front)) ∙ q) i.2 may
        (values_behind m h l ns next range us f (values_forth ed B h l an_operand (λ r. next (short_var_decl ns r)) rs us ws f
        (subst (λ x. AreExprs ed h rs x ws) (sym i.1) d) le g))
    short_var_decl_forth front other (e ∷ es) ns rs c vs xs ws room more q k d le may g =
        let i = first_is comma t more.0 us more.1 more.3 in
        continued front other e more.2 i.2 (subst (λ x. IsExpr ed 5 h e x more.2) (sym i.1) more.4) (omega (arith, room, named_height front e es ns q))
        (inl (short_var_decl ns rs, ws, (es, c, vs, xs, more.5, ap names_if (push_assoc front e es) ∙ q, k, d), le, (λ n. absurd (false_true (sym n ∙ may))), g))

    -- others pass those tests
    on_define_passes : (other : Move) (o : Option (List Name)) → same define t.kind ≡ false → After ed B other us f →
        After ed B (on_define m h l next range t other o) us f
    on_define_passes other None q a = a
    on_define_passes other (Some ns) q a = subst (λ b. After ed B (cond (b && may_define m) (Take 0 (behind_define m h l ns next range)) other) us f) (sym q) a

    passes : (front : List Expression) (other : Move) → same comma t.kind ≡ false → same assign t.kind ≡ false → same define t.kind ≡ false →
        After ed B other us f → After ed B (on_lefts m h l front next alone range t other) us f
    passes front other c s d a = after_other ed B comma t _ _ us f c (after_other ed B assign t _ _ us f s (on_define_passes other (names_if front) d a))

    passes_left : (e : Expression) → same increments t.kind ≡ false → same decrements t.kind ≡ false →
        assignment_of t.kind ≡ None → After ed B (Last e) us f → After ed B (on_left h l e next t (Last e)) us f
    passes_left e i d n a =
        after_other ed B increments t _ _ us f i (after_other ed B decrements t _ _ us f d
        (subst (λ o. After ed B (on_assignment h l e next (Last e) o) us f) (sym n) a))

    abbrev One : Expression → Type 0
    One e = After ed B (on_lefts m h l (e ∷ []) next alone range t (on_left h l e next t (Last e))) us f

    increment_forth : (e : Expression) (c : Lexeme) (ws : List Lexeme) → Token increments c (t ∷ us) ws → Means ed B (next (increment e)) ws f → One e
    increment_forth e c ws k g =
        let i = first_is increments t c us ws k in
        passes (e ∷ []) (on_left h l e next t (Last e)) (ap (same comma) i.2) (ap (same assign) i.2) (ap (same define) i.2)
        (after_same ed B increments t _ _ us f i.2 (omega arith, subst (λ x. Means ed B (next (increment e)) x f) (sym i.1) g))

    decrement_forth : (e : Expression) (c : Lexeme) (ws : List Lexeme) → Token decrements c (t ∷ us) ws → Means ed B (next (decrement e)) ws f → One e
    decrement_forth e c ws k g =
        let i = first_is decrements t c us ws k in
        passes (e ∷ []) (on_left h l e next t (Last e)) (ap (same comma) i.2) (ap (same assign) i.2) (ap (same define) i.2)
        (after_other ed B increments t _ _ us f (ap (same increments) i.2)
        (after_same ed B decrements t _ _ us f i.2 (omega arith, subst (λ x. Means ed B (next (decrement e)) x f) (sym i.1) g)))

    operator_forth : (op : BinaryOperator) (e r : Expression) (ws : List Lexeme) → assignment_of t.kind ≡ Some op → IsExpr ed 5 h r us ws → l + height r ≤ B + 1 →
        Means ed B (next (operator_assignment op e r)) ws f → One e
    operator_forth op e r ws q d le g =
        passes (e ∷ []) (on_left h l e next t (Last e)) (not_operator comma t op refl q) (not_operator assign t op refl q) (not_operator define t op refl q)
        (after_other ed B increments t _ _ us f (not_operator increments t op refl q)
        (after_other ed B decrements t _ _ us f (not_operator decrements t op refl q)
        (subst (λ o. After ed B (on_assignment h l e next (Last e) o) us f) (sym q) (omega arith, (r, ws, d, le, g)))))

    alone_forth : (e : Expression) → t.kind ≡ opening_brace → is_header m ≡ true → After ed B (parser_step ed (alone e) t) us f → One e
    alone_forth e k i a =
        passes (e ∷ []) (on_left h l e next t (Last e)) (ap (same comma) k) (ap (same assign) k) (ap (same define) k)
        (passes_left e (ap (same increments) k) (ap (same decrements) k) (ap assignment_of k)
        (subst (λ b. After ed B (cond b (parser_step ed (alone e) t) (cond (is_call e) (parser_step ed (next (call_statement e)) t) (Fail (behind_left m e)))) us f)
        (sym (both_are (is_header m) (same opening_brace t.kind) i (is_same opening_brace t.kind k))) a))

    call_forth : (e : Expression) → continues t.kind ≡ false → (is_header m ≡ true → same opening_brace t.kind ≡ false) → is_call e ≡ true →
        After ed B (parser_step ed (next (call_statement e)) t) us f → One e
    call_forth e k n i a =
        let c = not_continued t.kind k in
        passes (e ∷ []) (on_left h l e next t (Last e)) c.0 c.1 c.2
        (passes_left e c.3 c.4 c.5
        (subst (λ b. After ed B (cond b (parser_step ed (alone e) t) (cond (is_call e) (parser_step ed (next (call_statement e)) t) (Fail (behind_left m e)))) us f)
        (sym (and_false (is_header m) (same opening_brace t.kind) n))
        (subst (λ b. After ed B (cond b (parser_step ed (next (call_statement e)) t) (Fail (behind_left m e))) us f) (sym i) a)))

    tested : (front : List Expression) → front ≢ [] → ((other : Move) → After ed B (on_lefts m h l front next alone range t other) us f) →
        After ed B (parser_step ed (lefts m h l front next alone range) t) us f
    tested [] some a = absurd (some refl)
    tested (e ∷ []) some a = a (on_left h l e next t (Last e))
    tested (e ∷ x ∷ front) some a = a (Fail another)

    one : (front : List Expression) (e : Expression) → front ≡ e ∷ [] → One e → After ed B (parser_step ed (lefts m h l front next alone range) t) us f
    one front e q a = subst (λ x. After ed B (parser_step ed (lefts m h l x next alone range) t) us f) (sym q) a

    statement_forth : (front : List Expression) → Okay ed B (lefts m h l front next alone range) →
        ((s : Simple) → Okay ed B (next s) → Means ed B (next s) (t ∷ us) f → After ed B (parser_step ed (next s) t) us f) →
        ((s : Simple) → Means ed B (next s) (t ∷ us) f → begins (next s) t.kind ≡ true) →
        (s : Simple) (ws : List Lexeme) → Continues ed h front s (t ∷ us) ws → l + simple_height s ≤ B + 1 → (may_define m ≡ false → is_short_var_decl s ≡ false) →
        Means ed B (next s) ws f → After ed B (parser_step ed (lefts m h l front next alone range) t) us f
    statement_forth front ok by_next first (call_statement e) ws c le may g =
        let there : Means ed B (next (call_statement e)) (t ∷ us) f = subst (λ x. Means ed B (next (call_statement e)) x f) (sym c.2) g in
        let ends = ok.4 (call_statement e) t.kind (first (call_statement e) there) in
        one front e c.0 (call_forth e ends.0 ends.1 c.1 (by_next (call_statement e) (ok.3 (call_statement e) le).1 there))
    statement_forth front ok by_next first (increment e) ws c le may g = one front e c.1 (increment_forth e c.0 ws c.2 g)
    statement_forth front ok by_next first (decrement e) ws c le may g = one front e c.1 (decrement_forth e c.0 ws c.2 g)
    statement_forth front ok by_next first (assignment ls rs) ws c le may g =
        tested front ok.2 (λ other. assign_forth front other c.0 ls rs c.1 c.2 c.3 ws c.4 c.5 c.6 c.7 le g)
    statement_forth front ok by_next first (operator_assignment op e r) ws c le may g =
        let w : t ∷ us ≡ c.0 ∷ c.1 = c.3 in
        let first_same : t ≡ c.0 = cc (w) in
        let rest_same : us ≡ c.1 = cc (w) in
        one front e c.2 (operator_forth op e r ws (ap (λ (x : Lexeme). assignment_of x.kind) first_same ∙ c.4)
        (subst (λ x. IsExpr ed 5 h r x ws) (sym rest_same) c.5) (omega (arith, le)) g)
    statement_forth front ok by_next first (short_var_decl ns rs) ws c le may g =
        tested front ok.2 (λ other. short_var_decl_forth front other c.0 ns rs c.1 c.2 c.3 ws ok.0 c.4 c.5 c.6 c.7 le (defines m may) g)

    pub lefts_forth : (front : List Expression) → Okay ed B (lefts m h l front next alone range) →
        ((e : Expression) → Okay ed B (alone e) → Means ed B (alone e) (t ∷ us) f → After ed B (parser_step ed (alone e) t) us f) →
        ((s : Simple) → Okay ed B (next s) → Means ed B (next s) (t ∷ us) f → After ed B (parser_step ed (next s) t) us f) →
        ((s : Simple) → Means ed B (next s) (t ∷ us) f → begins (next s) t.kind ≡ true) →
        Behind front → After ed B (parser_step ed (lefts m h l front next alone range) t) us f
    lefts_forth front ok by_alone by_next first g = elim g [
      | inl s ↦ statement_forth front ok by_next first s.0 s.1 s.2 s.3 s.4 s.5
      | inr r ↦ elim r [
        | inl a ↦ one front a.0 a.1 (alone_forth a.0 a.3 a.2 (by_alone a.0 (ok.5 a.2 a.0 (subst (λ x. AllFit ed B height l x) a.1 ok.1).0).1 a.4))
        | inr a ↦ (let i = first_is define t a.2 us a.4 a.9 in
            tested front ok.2 (λ other. defined front other (a.0 ∷ []) a.8 i.2 (for_defines m a.7)
            (range_behind m h l a.0 next range a.1 a.3 us a.5 a.6 f a.7 (subst (λ x. Token (keyword keywords.Range) a.3 x a.5) (sym i.1) a.10) a.11 a.12 a.13)))
      ]
    ]
