-- What is behind left sides: it stays good, begins as is said, and can be gone on with.
use Rattle.std.proofs.Common.{◌≡◌, ◌≢◌, ℕ, ◌+◌, ◌≤◌, ◌⊎◌, Bool, true, false, ◌&&◌, ◌||◌, List, [], ◌∷◌, ◌++◌, Option, Some, None, inl, inr, refl, sym, ap, ◌∙◌, subst, arith, append-nil}
use Rattle.go_text.specs.declared.edition.Edition.{Edition}
use Rattle.go_scan.specs.declared.token.TokenKind.{TokenKind}
use Rattle.go_scan.specs.declared.token.TokenKind.TheVariants as kinds
use Rattle.go_scan.specs.declared.punctuation.Punctuation.TheVariants as marks
use Rattle.go_ast.specs.Kinds.{same}
use Rattle.go_ast.specs.Operators.{binary_of, assignment_of}
use Rattle.go_ast.specs.Expected.{Expected, an_operand, a_value, another}
use Rattle.go_ast.specs.Trees.{Name, BinaryOperator, Expression, name, no_exprs, some_exprs, Simple, call_statement, increment, decrement, assignment, operator_assignment, short_var_decl, File, pack}
use Rattle.go_ast.specs.Heights.{height, simple_height}
use Rattle.go_ast.specs.Grammar.{Lexeme, Token, assign, comma, define, period, opening, opening_bracket, opening_brace, AreMoreExprs, is_call}
use Rattle.go_ast.specs.Machine.{Position, in_for, Reader, expr, lefts, Move, Fail, cond, is_some, names_if, may_define, is_header, short_var_decl_values, behind_define, on_define, on_assignment, on_lefts, on_left, behind_left, parser_step}
use Rattle.go_ast.proofs.Positions.{is_for}
use Rattle.go_ast.proofs.Same.{are_same, is_same}
use Rattle.go_ast.proofs.Means.{begins, continues, is_tail, Closes, Continues, Means, Okay, Good, Ends, EndsSimple, Kept}
use Rattle.go_ast.proofs.Base.{false_true, either_true, left_true, right_true, both_true, kept_cond, token_here, first_is, both_are}
use Rattle.go_ast.proofs.Values.{values_good, ends_if, exprs_fit, all_fit_append, closes_as, by_closing}
use Rattle.go_ast.proofs.Lefts.{increments, decrements}
use Rattle.go_ast.proofs.Levels.{height_positive}
use Rattle.go_ast.proofs.Tokens.{a_token}

-- the first token behind left sides
operator_continues : (k : TokenKind) (op : BinaryOperator) → assignment_of k ≡ Some op → continues k ≡ true
operator_continues k op q =
    right_true (same comma k || same assign k || same define k || same increments k || same decrements k) (is_some (assignment_of k)) (ap is_some q)

more_first : (ed : Edition) → (h : Bool) (es : List Expression) (k : TokenKind) (t c : Lexeme) (us vs xs : List Lexeme) → continues k ≡ true → AreMoreExprs ed h (pack es) (t ∷ us) vs →
    Token k c vs xs → continues t.kind ≡ true
more_first ed h [] k t c us vs xs q more d = let i = first_is k t c us xs (record { whole = more ∙ d.whole; is = d.is }) in ap continues i.2 ∙ q
more_first ed h (e ∷ es) k t c us vs xs q more d = let i = first_is comma t more.0 us more.1 more.3 in ap continues i.2

abbrev Ending : List Expression → Simple → List Lexeme → List Lexeme → Type 0
Ending front s us ws = (e : Expression) × (front ≡ e ∷ []) × (s ≡ call_statement e) × (is_call e ≡ true) × (us ≡ ws)

simple_first : (ed : Edition) → (h : Bool) (front : List Expression) (s : Simple) (t : Lexeme) (us ws : List Lexeme) → Continues ed h front s (t ∷ us) ws →
    (continues t.kind ≡ true) ⊎ Ending front s (t ∷ us) ws
simple_first ed h front (call_statement e) t us ws c = inr (e, c.0, refl, c.1, c.2)
simple_first ed h front (increment e) t us ws c = inl (ap continues (first_is increments t c.0 us ws c.2).2)
simple_first ed h front (decrement e) t us ws c = inl (ap continues (first_is decrements t c.0 us ws c.2).2)
simple_first ed h front (assignment ls rs) t us ws c = inl (more_first ed h c.0 assign t c.1 us c.2 c.3 refl c.4 c.6)
simple_first ed h front (operator_assignment op l r) t us ws c =
    let w : t ∷ us ≡ c.0 ∷ c.1 = c.3 in
    let first_same : t ≡ c.0 = cc (w) in
    inl (operator_continues t.kind op (ap (λ (x : Lexeme). assignment_of x.kind) first_same ∙ c.4))
simple_first ed h front (short_var_decl ns rs) t us ws c = inl (more_first ed h c.0 define t c.1 us c.2 c.3 refl c.4 c.6)

-- what continues a simple statement is no part of an expression
assigns_close : (h : Bool) (k : TokenKind) (op : BinaryOperator) → assignment_of k ≡ Some op → Closes h k
assigns_close h k op q = (by_tail (is_tail h k) refl, by_kind k op q)
  where
    never : {P : Type 0} → assignment_of k ≡ None → P
    never n = absurd (let c : None ≡ Some op = sym n ∙ q in cc (c))

    by_tail : (c : Bool) → is_tail h k ≡ c → is_tail h k ≡ false
    by_tail false e = e
    by_tail true e = elim (either_true (same period k || same opening_bracket k || same opening k) _ e) [
      | inl a ↦ elim (either_true (same period k || same opening_bracket k) (same opening k) a) [
        | inl b ↦ elim (either_true (same period k) (same opening_bracket k) b) [
          | inl c ↦ never (ap assignment_of (are_same period k c))
          | inr c ↦ never (ap assignment_of (are_same opening_bracket k c))
        ]
        | inr b ↦ never (ap assignment_of (are_same opening k b))
      ]
      | inr a ↦ never (ap assignment_of (are_same opening_brace k (both_true _ (same opening_brace k) a).1))
    ]

    by_kind : (j : TokenKind) (o : BinaryOperator) → assignment_of j ≡ Some o → binary_of j ≡ None
    by_kind (kinds.Punctuation marks.StarAssign) o r = refl
    by_kind (kinds.Punctuation marks.SlashAssign) o r = refl
    by_kind (kinds.Punctuation marks.PercentAssign) o r = refl
    by_kind (kinds.Punctuation marks.ShiftLeftAssign) o r = refl
    by_kind (kinds.Punctuation marks.ShiftRightAssign) o r = refl
    by_kind (kinds.Punctuation marks.AmpersandAssign) o r = refl
    by_kind (kinds.Punctuation marks.AndNotAssign) o r = refl
    by_kind (kinds.Punctuation marks.PlusAssign) o r = refl
    by_kind (kinds.Punctuation marks.MinusAssign) o r = refl
    by_kind (kinds.Punctuation marks.PipeAssign) o r = refl
    by_kind (kinds.Punctuation marks.CaretAssign) o r = refl
    by_kind _ o r = absurd (let c : None ≡ Some o = r in cc (c))

some_of : {A : Type 0} (o : Option A) → is_some o ≡ true → (a : A) × (o ≡ Some a)
some_of None e = absurd (false_true e)
some_of (Some a) e = (a, refl)

pub continues_closes : (h : Bool) (k : TokenKind) → continues k ≡ true → Closes h k
continues_closes h k e =
    elim (either_true (same comma k || same assign k || same define k || same increments k || same decrements k) (is_some (assignment_of k)) e) [
      | inl a ↦ elim (either_true (same comma k || same assign k || same define k || same increments k) (same decrements k) a) [
        | inl b ↦ elim (either_true (same comma k || same assign k || same define k) (same increments k) b) [
          | inl c ↦ elim (either_true (same comma k || same assign k) (same define k) c) [
            | inl d ↦ elim (either_true (same comma k) (same assign k) d) [
              | inl x ↦ closes_as h comma k x (refl, refl) (refl, refl)
              | inr x ↦ closes_as h assign k x (refl, refl) (refl, refl)
            ]
            | inr d ↦ closes_as h define k d (refl, refl) (refl, refl)
          ]
          | inr c ↦ closes_as h increments k c (refl, refl) (refl, refl)
        ]
        | inr b ↦ closes_as h decrements k b (refl, refl) (refl, refl)
      ]
      | inr a ↦ (let s = some_of (assignment_of k) a in assigns_close h k s.0 s.1)
    ]

pub push_some : {A : Type 0} (front : List A) (e : A) → front ++ e ∷ [] ≢ []
push_some [] e = λ q. let c : e ∷ [] ≡ [] = q in cc (c)
push_some (x ∷ front) e = λ q. let c : x ∷ (front ++ e ∷ []) ≡ [] = q in cc (c)

module _ (ed : Edition) (B : ℕ) where
  module _ (m : Position) (h : Bool) (l : ℕ) (next : Simple → Reader) (alone : Expression → Reader) (range : Name → Expression → Reader) where
    abbrev Left : List Expression → Reader
    Left front = lefts m h l front next alone range

    -- what may be behind the first, and behind others
    many_begin : (front : List Expression) (e : Expression) (k : TokenKind) → front ≢ [] → begins (Left (front ++ e ∷ [])) k ≡ continues k
    many_begin [] e k some = absurd (some refl)
    many_begin (x ∷ []) e k some = refl
    many_begin (x ∷ y ∷ front) e k some = refl

    pub lefts_end : EndsSimple ed B m h next → (is_header m ≡ true → h ≡ true) → Ends ed B 5 h (λ e. Left (e ∷ []))
    lefts_end ends header = ends_if ed B 5 h (λ e. Left (e ∷ [])) behind
      where
        behind : (e : Expression) (k : TokenKind) → begins (Left (e ∷ [])) k ≡ true → Closes h k
        behind e k b = elim (either_true (continues k) _ b) [
          | inl c ↦ continues_closes h k c
          | inr c ↦ elim (either_true (is_call e && begins (next (call_statement e)) k) _ c) [
            | inl d ↦ (ends (call_statement e) k (both_true (is_call e) _ d).1).2
            | inr d ↦ (let x = both_true (is_header m) (same opening_brace k) (both_true (is_header m && same opening_brace k) _ d).0 in
                subst (λ y. Closes y k) (sym (header x.0)) (subst (λ y. Closes true y) (sym (are_same opening_brace k x.1)) (refl, refl)))
          ]
        ]

    -- an expression, and what is behind it
    pub left_okay : (x : Expected) → ((s : Simple) → l + simple_height s ≤ B + 1 → Good ed B (next s)) → EndsSimple ed B m h next → (is_header m ≡ true → h ≡ true) →
        (is_header m ≡ true → (e : Expression) → l + height e ≤ B + 1 → Good ed B (alone e)) →
        (is_for m ≡ true → (n : Name) → ((e : Expression) → l + height e ≤ B + 1 → Good ed B (range n e)) × Ends ed B 5 h (range n)) →
        Okay ed B (expr 5 h l x (λ e. Left (e ∷ [])))
    left_okay x good ends header by_alone by_range =
        ((λ e fits. (tt, (omega (arith, fits, height_positive e), (fits, tt), push_some [] e, good, ends, by_alone, by_range))), lefts_end ends header)

    pub left_good : (x : Expected) → l ≤ B → ((s : Simple) → l + simple_height s ≤ B + 1 → Good ed B (next s)) → EndsSimple ed B m h next →
        (is_header m ≡ true → h ≡ true) →
        (is_header m ≡ true → (e : Expression) → l + height e ≤ B + 1 → Good ed B (alone e)) →
        (is_for m ≡ true → (n : Name) → ((e : Expression) → l + height e ≤ B + 1 → Good ed B (range n e)) × Ends ed B 5 h (range n)) →
        Good ed B (expr 5 h l x (λ e. Left (e ∷ [])))
    left_good x le good ends header by_alone by_range = (le, left_okay x good ends header by_alone by_range)

    no_comma : EndsSimple ed B m h next → (s : Simple) → begins (next s) comma ≡ false
    no_comma ends s = by_closing (begins (next s) comma) (continues comma) (λ b. (ends s comma b).0) refl

    short_var_decl_good : (ns : List Name) → l ≤ B → ((s : Simple) → l + simple_height s ≤ B + 1 → Good ed B (next s)) → EndsSimple ed B m h next →
        Good ed B (short_var_decl_values h l ns next)
    short_var_decl_good ns le good ends =
        values_good ed B h l an_operand (λ rs. next (short_var_decl ns rs)) le (λ rs fits. good (short_var_decl ns rs) fits) (λ rs. no_comma ends (short_var_decl ns rs))
        (λ rs k b. (ends (short_var_decl ns rs) k b).2)

    define_good : (q : Position) (ns : List Name) →
        l ≤ B → (is_for q ≡ true → (n : Name) → ((e : Expression) → l + height e ≤ B + 1 → Good ed B (range n e)) × Ends ed B 5 h (range n)) →
        Good ed B (short_var_decl_values h l ns next) → Good ed B (behind_define q h l ns next range)
    define_good in_for (n ∷ []) le by_range g = (inl (omega arith), ((λ t k need. (le, by_range refl n)), g.1, refl))
    define_good q ns le by_range g = g

    -- it stays good
    module _ (t : Lexeme) where
      on_define_kept : (front : List Expression) (other : Move) (o : Option (List Name)) → Okay ed B (Left front) → Kept ed B other →
          Kept ed B (on_define m h l next range t other o)
      on_define_kept front other None ok rest = rest
      on_define_kept front other (Some ns) ok rest =
          kept_cond ed B (same define t.kind && may_define m) _ other (λ _ need. define_good m ns ok.0 ok.6 (short_var_decl_good ns ok.0 ok.3 ok.4)) (λ _. rest)

      on_lefts_kept : (front : List Expression) (other : Move) → Okay ed B (Left front) → Kept ed B other → Kept ed B (on_lefts m h l front next alone range t other)
      on_lefts_kept front other ok rest =
          kept_cond ed B (same comma t.kind) _ _ (λ _ need. (
            ok.0,
            (
              (λ e fits. (tt, (ok.0, all_fit_append ed B height l front (e ∷ []) ok.1 (fits, tt), push_some front e, ok.3, ok.4, ok.5, ok.6))),
              ends_if ed B 5 h (λ e. Left (front ++ e ∷ [])) (λ e k b. continues_closes h k (sym (many_begin front e k ok.2) ∙ b)),
            ),
          ))
          (λ _. kept_cond ed B (same assign t.kind) _ _
          (λ _ need. values_good ed B h l a_value (λ rs. next (assignment (pack front) rs)) ok.0
          (λ rs fits. ok.3 (assignment (pack front) rs) (let le = exprs_fit ed B l front (omega (arith, ok.0)) ok.1 in omega (arith, fits, le)))
          (λ rs. no_comma ok.4 (assignment (pack front) rs)) (λ rs k b. (ok.4 (assignment (pack front) rs) k b).2))
          (λ _. on_define_kept front other (names_if front) ok rest))

      on_assignment_kept : (e : Expression) (other : Move) (o : Option BinaryOperator) → Okay ed B (Left (e ∷ [])) → Kept ed B other →
          Kept ed B (on_assignment h l e next other o)
      on_assignment_kept e other None ok rest = rest
      on_assignment_kept e other (Some op) ok rest =
          λ need. (
            ok.0,
            (
              (λ r fits. ok.3 (operator_assignment op e r) (let le = ok.1.0 in omega (arith, le, fits))),
              ends_if ed B 5 h (λ r. next (operator_assignment op e r)) (λ r k b. (ok.4 (operator_assignment op e r) k b).2),
            ),
          )

      abbrev Last : Expression → Move
      Last e = cond (is_header m && same opening_brace t.kind) (parser_step ed (alone e) t) (cond (is_call e) (parser_step ed (next (call_statement e)) t) (Fail (behind_left m e)))

      pub lefts_kept : (front : List Expression) → Okay ed B (Left front) → ((e : Expression) → Okay ed B (alone e) → Kept ed B (parser_step ed (alone e) t)) →
          ((s : Simple) → Okay ed B (next s) → Kept ed B (parser_step ed (next s) t)) → Kept ed B (parser_step ed (Left front) t)
      lefts_kept [] ok by_alone by_next = tt
      lefts_kept (e ∷ []) ok by_alone by_next =
          on_lefts_kept (e ∷ []) (on_left h l e next t (Last e)) ok
          (kept_cond ed B (same increments t.kind) _ _ (λ _ need. ok.3 (increment e) ok.1.0)
          (λ _. kept_cond ed B (same decrements t.kind) _ _ (λ _ need. ok.3 (decrement e) ok.1.0)
          (λ _. on_assignment_kept e (Last e) (assignment_of t.kind) ok
          (kept_cond ed B (is_header m && same opening_brace t.kind) _ _
          (λ c. by_alone e (ok.5 (both_true (is_header m) _ c).0 e ok.1.0).1)
          (λ _. kept_cond ed B (is_call e) _ _ (λ _. by_next (call_statement e) (ok.3 (call_statement e) ok.1.0).1) (λ _. tt))))))
      lefts_kept (e ∷ x ∷ front) ok by_alone by_next = on_lefts_kept (e ∷ x ∷ front) (Fail another) ok tt

    -- it begins as is said
    module _ (t : Lexeme) (us : List Lexeme) (f : File) where
      call_begins : (e : Expression) → is_call e ≡ true → begins (next (call_statement e)) t.kind ≡ true → begins (Left (e ∷ [])) t.kind ≡ true
      call_begins e c b = right_true (continues t.kind) _ (left_true (is_call e && begins (next (call_statement e)) t.kind) _ (both_are (is_call e) _ c b))

      alone_begins : (e : Expression) → is_header m ≡ true → t.kind ≡ opening_brace → begins (alone e) t.kind ≡ true → begins (Left (e ∷ [])) t.kind ≡ true
      alone_begins e i k b =
          right_true (continues t.kind) _ (right_true (is_call e && begins (next (call_statement e)) t.kind) _
          (both_are (is_header m && same opening_brace t.kind) _ (both_are (is_header m) _ i (is_same opening_brace t.kind k)) b))

      continues_begins : (front : List Expression) → continues t.kind ≡ true → begins (Left front) t.kind ≡ true
      continues_begins [] c = c
      continues_begins (e ∷ []) c = left_true (continues t.kind) _ c
      continues_begins (e ∷ x ∷ front) c = c

      at_one : (front : List Expression) (e : Expression) → front ≡ e ∷ [] → begins (Left (e ∷ [])) t.kind ≡ true → begins (Left front) t.kind ≡ true
      at_one front e q b = subst (λ x. begins (Left x) t.kind ≡ true) (sym q) b

      pub lefts_first : (front : List Expression) → ((e : Expression) → Means ed B (alone e) (t ∷ us) f → begins (alone e) t.kind ≡ true) →
          ((s : Simple) → Means ed B (next s) (t ∷ us) f → begins (next s) t.kind ≡ true) → Means ed B (Left front) (t ∷ us) f → begins (Left front) t.kind ≡ true
      lefts_first front by_alone by_next g = elim g [
        | inl s ↦ elim (simple_first ed h front s.0 t us s.1 s.2) [
          | inl c ↦ continues_begins front c
          | inr c ↦ at_one front c.0 c.1 (call_begins c.0 c.3 (by_next (call_statement c.0)
              (subst (λ x. Means ed B (next (call_statement c.0)) x f) (sym c.4) (subst (λ x. Means ed B (next x) s.1 f) c.2 s.5))))
        ]
        | inr r ↦ elim r [
          | inl a ↦ at_one front a.0 a.1 (alone_begins a.0 a.2 a.3 (by_alone a.0 a.4))
          | inr a ↦ continues_begins front (ap continues (first_is define t a.2 us a.4 a.9).2)
        ]
      ]

    -- it can be gone on with: by `=` and a name
    pub lefts_comes : (front : List Expression) → Okay ed B (Left front) →
        ((s : Simple) → l + simple_height s ≤ B + 1 → (us : List Lexeme) × (f : File) × Means ed B (next s) us f) → (us : List Lexeme) × (f : File)
        × Means ed B (Left front) us f
    lefts_comes front ok by_next =
        let a = a_token assign in
        let n = a_token kinds.Name in
        let s = assignment (pack front) (some_exprs (name n.place n.text) no_exprs) in
        let le = exprs_fit ed B l front (omega (arith, ok.0)) ok.1 in
        let room = ok.0 in
        let fits : l + simple_height s ≤ B + 1 = omega (arith, le, room) in
        let g = by_next s fits in (
          a ∷ n ∷ g.0,
          g.1,
          inl (
            s,
            g.0,
            (
              [],
              a,
              a ∷ n ∷ g.0,
              n ∷ g.0,
              refl,
              ap pack (sym (append-nil front)),
              token_here assign a (n ∷ g.0) refl,
              (g.0, (n, token_here kinds.Name n g.0 refl, refl, refl), refl),
            ),
            fits,
            (λ _. refl),
            g.2,
          ),
        )
