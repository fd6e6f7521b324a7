-- Specs of constants, variables, types and imports, and parameters: what is taken for them is what the grammar says, both
-- ways.
use Rattle.std.proofs.Common.{◌≡◌, ◌≢◌, ℕ, ◌+◌, ◌≤◌, max, ◌⊎◌, inl, inr, Bool, true, false, ◌||◌, List, [], ◌∷◌, Option, Some, None, refl, sym, ap, ◌∙◌, subst, arith}
use Rattle.std.specs.Prelude.{codes}
use Rattle.go_text.specs.declared.edition.Edition.{Edition}
use Rattle.go_text.specs.declared.place.Place.{Place}
use Rattle.go_scan.specs.declared.token.TokenKind.{TokenKind}
use Rattle.go_scan.specs.declared.token.TokenKind.TheVariants as kinds
use Rattle.go_ast.specs.Kinds.{same}
use Rattle.go_ast.specs.Literals.{string_value}
use Rattle.go_ast.specs.Expected.{a_type, a_value, a_parameter_type, another, is_left_out_at}
use Rattle.go_ast.specs.Trees.{Name, TypeExpr, ExpressionList, no_exprs, some_exprs, ConstSpec, VarSpec, TypeSpec, Parameter, ImportSpec, File}
use Rattle.go_ast.specs.Heights.{type_height, exprs_height, lifted, const_height, var_height, type_spec_height, parameter_height}
use Rattle.go_ast.specs.Grammar.{Lexeme, Token, name_of, assign, closing, closing_brace, comma, period, semicolon, AreNames, IsType, IsType?, AreExprs, AreValues, IsConstSpec, IsVarSpec, IsTypeSpec, IsParameter, IsImportSpec}
use Rattle.go_ast.specs.Machine.{Reader, token, type, names, begins_type, value_list, const_rest, var_rest, type_rest, import_spec_of, import_spec}
use Rattle.go_ast.proofs.Valued.{string_means, string_computed}
use Rattle.go_ast.proofs.Same.{are_same}
use Rattle.go_ast.proofs.Means.{begins, Closes, NoComma, Means, Okay, Good}
use Rattle.go_ast.proofs.Base.{false_true, either_true, apart}
use Rattle.go_ast.proofs.Tokens.{same_here, no_token}
use Rattle.go_ast.proofs.Values.{values_back, values_forth, values_good, by_closing}
use Rattle.go_ast.proofs.Levels.{height_positive, type_height_positive}

-- what may be behind a spec
abbrev pub ends_line : TokenKind → Bool
ends_line k = same semicolon k || same closing k || same closing_brace k

pub line_as : (k : TokenKind) → ends_line k ≡ true → (P : TokenKind → Type 0) → P semicolon → P closing → P closing_brace → P k
line_as k e P p q r = elim (either_true (same semicolon k || same closing k) (same closing_brace k) e) [
  | inl b ↦ elim (either_true (same semicolon k) (same closing k) b) [
    | inl a ↦ subst P (sym (are_same semicolon k a)) p
    | inr a ↦ subst P (sym (are_same closing k a)) q
  ]
  | inr a ↦ subst P (sym (are_same closing_brace k a)) r
]

pub never_true : (b : Bool) → (b ≡ true → false ≡ true) → b ≡ false
never_true false f = refl
never_true true f = absurd (false_true (f refl))

abbrev pub EndsLine : {A : Type 0} → (A → Reader) → Type 0
EndsLine {A} next = (a : A) (k : TokenKind) → begins (next a) k ≡ true → ends_line k ≡ true

pub line_closes : (k : TokenKind) → ends_line k ≡ true → Closes false k
line_closes k e = line_as k e (λ j. Closes false j) (refl, refl) (refl, refl) (refl, refl)

-- no type is there, nor what is left out in place of one
no_type : (k : TokenKind) → ends_line k ≡ true → (begins_type k || is_left_out_at a_type k) ≡ false
no_type k e = line_as k e (λ j. (begins_type j || is_left_out_at a_type j) ≡ false) refl refl refl

assign_no_type : (k : TokenKind) → same assign k ≡ true → (begins_type k || is_left_out_at a_type k) ≡ false
assign_no_type k e = subst (λ j. (begins_type j || is_left_out_at a_type j) ≡ false) (sym (are_same assign k e)) refl

-- names come first
pub names_first : (ns : List Name) (t : Lexeme) (us ws : List Lexeme) → AreNames ns (t ∷ us) ws → same kinds.Name t.kind ≡ true
names_first [] t us ws d = absurd d
names_first (n ∷ ns) t us ws d = same_here kinds.Name t d.0 us d.1 d.2

pub names_never : (ns : List Name) (ws : List Lexeme) → AreNames ns [] ws → ⊥
names_never [] ws d = absurd d
names_never (n ∷ ns) ws d = no_token kinds.Name d.0 d.1 d.2

module _ (ed : Edition) (B : ℕ) where
  no_comma : {A : Type 0} (next : A → Reader) → EndsLine next → (a : A) → begins (next a) comma ≡ false
  no_comma next ends a = never_true (begins (next a) comma) (λ e. ends a comma e)

  no_assign : {A : Type 0} (next : A → Reader) → EndsLine next → (a : A) → begins (next a) assign ≡ false
  no_assign next ends a = never_true (begins (next a) assign) (λ e. ends a assign e)

  no_period : {A : Type 0} (next : A → Reader) → EndsLine next → (a : A) → begins (next a) period ≡ false
  no_period next ends a = never_true (begins (next a) period) (λ e. ends a period e)

  -- names
  pub names_back : (need : ℕ) (next : List Name → Reader) (us : List Lexeme) (f : File) → Means ed B (names need next) us f →
      (ns : List Name) × (ws : List Lexeme) × AreNames ns us ws × (need ≤ B) × Means ed B (next ns) ws f
  names_back need next us f m = (name_of m.0 ∷ m.4.0, m.4.1, (m.0, m.1, m.2, refl, m.4.2), m.3, m.4.3)

  pub names_forth : (need : ℕ) (next : List Name → Reader) (ns : List Name) (us ws : List Lexeme) (f : File) → AreNames ns us ws → need ≤ B →
      Means ed B (next ns) ws f →
      Means ed B (names need next) us f
  names_forth need next [] us ws f d le m = absurd d
  names_forth need next (n ∷ ns) us ws f d le m = (d.0, d.1, d.2, le, (ns, ws, d.4, subst (λ x. Means ed B (next (x ∷ ns)) ws f) d.3 m))

  names_good : (need : ℕ) (next : List Name → Reader) → (need ≤ B → (ns : List Name) → Good ed B (next ns)) → NoComma ed B next → Okay ed B (names need next)
  names_good need next good apart = λ t e le. (tt, (good le, apart))

  -- values
  values_low : (l : ℕ) (es : ExpressionList) (us ws : List Lexeme) → AreExprs ed false es us ws → l + exprs_height es ≤ B + 1 → l ≤ B
  values_low l no_exprs us ws d le = absurd d
  values_low l (some_exprs e es) us ws d le = omega (arith, le, height_positive e)

  value_list_good : {A : Type 0} (l : ℕ) (next : A → Reader) (made : ExpressionList → A) → l ≤ B →
      ((es : ExpressionList) → l + exprs_height es ≤ B + 1 → Good ed B (next (made es))) → EndsLine next →
      Good ed B (value_list l (λ es. next (made es)))
  value_list_good l next made le good ends =
      values_good ed B false l a_value (λ es. next (made es)) le good (λ es. no_comma next ends (made es)) (λ es k b. line_closes k (ends (made es) k b))

  -- constants
  const_rest_back : (l : ℕ) (next : ConstSpec → Reader) (ns : List Name) (us vs : List Lexeme) (f : File) → l ≤ B + 1 → AreNames ns us vs →
      Means ed B (const_rest l next ns) vs f →
      (s : ConstSpec) × (ws : List Lexeme) × IsConstSpec ed s us ws × (l + const_height s ≤ B + 1) × Means ed B (next s) ws f
  const_rest_back l next ns us vs f low d (inl m) =
      let v = values_back ed B false l a_value (λ es. next (record { names = ns; type = Some m.0; values = es })) m.4.1 f m.4.4 in
      (record { names = ns; type = Some m.0; values = v.0 }, v.1, (vs, d, inr (m.1, m.2, (m.4.0, m.4.1, m.4.2, v.2))), omega (arith, m.3, v.3), v.4)
  const_rest_back l next ns us vs f low d (inr (inl m)) =
      let v = values_back ed B false l a_value (λ es. next (record { names = ns; type = None; values = es })) m.1 f m.4 in
      (record { names = ns; type = None; values = v.0 }, v.1, (vs, d, inr (vs, refl, (m.0, m.1, m.2, v.2))), omega (arith, v.3), v.4)
  const_rest_back l next ns us vs f low d (inr (inr m)) =
      (record { names = ns; type = None; values = no_exprs }, vs, (vs, d, inl (refl, refl, refl)), omega (arith, low), m)

  pub const_spec_back : (l : ℕ) (next : ConstSpec → Reader) (us : List Lexeme) (f : File) → l ≤ B + 1 → Means ed B (names 0 (const_rest l next)) us f →
      (s : ConstSpec) × (ws : List Lexeme) × IsConstSpec ed s us ws × (l + const_height s ≤ B + 1) × Means ed B (next s) ws f
  const_spec_back l next us f low m = let n = names_back 0 (const_rest l next) us f m in const_rest_back l next n.0 us n.1 f low n.2 n.4

  const_rest_forth : (l : ℕ) (next : ConstSpec → Reader) (ns : List Name) (a? : Option TypeExpr) (es : ExpressionList) (vs ws : List Lexeme) (f : File) →
      ((a? ≡ None) × (es ≡ no_exprs) × (vs ≡ ws)) ⊎ ((xs : List Lexeme) × IsType? ed a? vs xs × AreValues ed es xs ws) →
      l + max (lifted type_height a?) (exprs_height es) ≤ B + 1 → Means ed B (next (record { names = ns; type = a?; values = es })) ws f →
      Means ed B (const_rest l next ns) vs f
  const_rest_forth l next ns a? es vs ws f (inl d) le m =
      let n : Means ed B (next (record { names = ns; type = None; values = no_exprs })) ws f =
      subst (λ x. Means ed B (next (record { names = ns; type = None; values = x })) ws f) d.1
      (subst (λ x. Means ed B (next (record { names = ns; type = x; values = es })) ws f) d.0 m) in
      inr (inr (subst (λ x. Means ed B (next (record { names = ns; type = None; values = no_exprs })) x f) (sym d.2) n))
  const_rest_forth l next ns None es vs ws f (inr d) le m =
      let v = d.2 in
      let high : l + exprs_height es ≤ B + 1 = omega (arith, le) in
      inr (inl (
        v.0,
        v.1,
        subst (λ x. Token assign v.0 x v.1) (sym d.1) v.2,
        values_low l es v.1 ws v.3 high,
        values_forth ed B false l a_value (λ x. next (record { names = ns; type = None; values = x })) es v.1 ws f v.3 high m,
      ))
  const_rest_forth l next ns (Some a) es vs ws f (inr d) le m =
      let v = d.2 in
      let high : l + exprs_height es ≤ B + 1 = omega (arith, le) in
      let low : l + type_height a ≤ B + 1 = omega (arith, le) in
      inl (
        a,
        d.0,
        d.1,
        low,
        (
          v.0,
          v.1,
          v.2,
          omega arith,
          values_forth ed B false l a_value (λ x. next (record { names = ns; type = Some a; values = x })) es v.1 ws f v.3 high m,
        ),
      )

  pub const_spec_forth : (l : ℕ) (next : ConstSpec → Reader) (s : ConstSpec) (us ws : List Lexeme) (f : File) → IsConstSpec ed s us ws →
      l + const_height s ≤ B + 1 →
      Means ed B (next s) ws f → Means ed B (names 0 (const_rest l next)) us f
  const_spec_forth l next s us ws f d le m =
      names_forth 0 (const_rest l next) s.names us d.0 f d.1 (omega arith) (const_rest_forth l next s.names s.type s.values d.0 ws f d.2 le m)

  const_rest_good : (l : ℕ) (next : ConstSpec → Reader) (ns : List Name) → l ≤ B + 1 → ((s : ConstSpec) → l + const_height s ≤ B + 1 → Good ed B (next s)) →
      EndsLine next →
      Good ed B (const_rest l next ns)
  const_rest_good l next ns low good ends =
      let none : ConstSpec = record { names = ns; type = None; values = no_exprs } in
      let last = good none (omega (arith, low)) in (
        inr (inr last.0),
        (
          (λ a fits. (
            omega arith,
            λ t e le. value_list_good l next (λ es. record { names = ns; type = Some a; values = es }) (omega (arith, fits, type_height_positive a))
                (λ es high. good (record { names = ns; type = Some a; values = es }) (omega (arith, fits, high))) ends,
          )),
          (λ a. refl),
          (
            (λ t e le. value_list_good l next (λ es. record { names = ns; type = None; values = es }) le
                (λ es high. good (record { names = ns; type = None; values = es }) (omega (arith, high))) ends),
            last.1,
            no_assign next ends none,
          ),
          (λ k e. by_closing (same assign k || begins (next none) k) (begins_type k || is_left_out_at a_type k) (behind none k) e),
        ),
      )
    where
      behind : (s : ConstSpec) (k : TokenKind) → (same assign k || begins (next s) k) ≡ true → (begins_type k || is_left_out_at a_type k) ≡ false
      behind s k e = elim (either_true (same assign k) (begins (next s) k) e) [
        | inl a ↦ assign_no_type k a
        | inr b ↦ no_type k (ends s k b)
      ]

  -- what may be behind names isn't one more
  const_rest_apart : (l : ℕ) (next : ConstSpec → Reader) → EndsLine next → NoComma ed B (const_rest l next)
  const_rest_apart l next ends ns = no_comma next ends (record { names = ns; type = None; values = no_exprs })

  pub const_spec_good : (l : ℕ) (next : ConstSpec → Reader) → l ≤ B + 1 → ((s : ConstSpec) → l + const_height s ≤ B + 1 → Good ed B (next s)) → EndsLine next →
      Okay ed B (names 0 (const_rest l next))
  const_spec_good l next low good ends = names_good 0 (const_rest l next) (λ le ns. const_rest_good l next ns low good ends) (const_rest_apart l next ends)

  -- variables
  var_rest_back : (l : ℕ) (next : VarSpec → Reader) (ns : List Name) (us vs : List Lexeme) (f : File) → AreNames ns us vs → Means ed B (var_rest l next ns) vs f →
      (s : VarSpec) × (ws : List Lexeme) × IsVarSpec ed s us ws × (l + var_height s ≤ B + 1) × Means ed B (next s) ws f
  var_rest_back l next ns us vs f d (inl (a, xs, is, fits, inl m)) =
      let v = values_back ed B false l a_value (λ es. next (record { names = ns; type = Some a; values = es })) m.1 f m.4 in
      (record { names = ns; type = Some a; values = v.0 }, v.1, (vs, d, inr (xs, is, (m.0, m.1, m.2, v.2))), omega (arith, fits, v.3), v.4)
  var_rest_back l next ns us vs f d (inl (a, xs, is, fits, inr m)) =
      (record { names = ns; type = Some a; values = no_exprs }, xs, (vs, d, inl (a, refl, refl, is)), omega (arith, fits), m)
  var_rest_back l next ns us vs f d (inr m) =
      let v = values_back ed B false l a_value (λ es. next (record { names = ns; type = None; values = es })) m.1 f m.4 in
      (record { names = ns; type = None; values = v.0 }, v.1, (vs, d, inr (vs, refl, (m.0, m.1, m.2, v.2))), omega (arith, v.3), v.4)

  pub var_spec_back : (l : ℕ) (next : VarSpec → Reader) (us : List Lexeme) (f : File) → Means ed B (names l (var_rest l next)) us f →
      (s : VarSpec) × (ws : List Lexeme) × IsVarSpec ed s us ws × (l + var_height s ≤ B + 1) × Means ed B (next s) ws f
  var_spec_back l next us f m = let n = names_back l (var_rest l next) us f m in var_rest_back l next n.0 us n.1 f n.2 n.4

  -- what is behind the names, and that there is a node
  var_rest_forth : (l : ℕ) (next : VarSpec → Reader) (ns : List Name) (a? : Option TypeExpr) (es : ExpressionList) (vs ws : List Lexeme) (f : File) →
      ((a : TypeExpr) × (a? ≡ Some a) × (es ≡ no_exprs) × IsType ed a vs ws) ⊎ ((xs : List Lexeme) × IsType? ed a? vs xs × AreValues ed es xs ws) →
      l + max (lifted type_height a?) (exprs_height es) ≤ B + 1 → Means ed B (next (record { names = ns; type = a?; values = es })) ws f →
      (l ≤ B) × Means ed B (var_rest l next ns) vs f
  var_rest_forth l next ns a? es vs ws f (inl d) le m =
      let n : Means ed B (next (record { names = ns; type = Some d.0; values = no_exprs })) ws f =
      subst (λ x. Means ed B (next (record { names = ns; type = Some d.0; values = x })) ws f) d.2
      (subst (λ x. Means ed B (next (record { names = ns; type = x; values = es })) ws f) d.1 m) in
      let tall : lifted type_height a? ≡ type_height d.0 = ap (lifted type_height) d.1 in
      let low : l + type_height d.0 ≤ B + 1 = omega (arith, le, tall) in
      (omega (arith, low, type_height_positive d.0), inl (d.0, ws, d.3, low, inr n))
  var_rest_forth l next ns None es vs ws f (inr d) le m =
      let v = d.2 in
      let high : l + exprs_height es ≤ B + 1 = omega (arith, le) in (
        values_low l es v.1 ws v.3 high,
        inr (
          v.0,
          v.1,
          subst (λ x. Token assign v.0 x v.1) (sym d.1) v.2,
          omega arith,
          values_forth ed B false l a_value (λ x. next (record { names = ns; type = None; values = x })) es v.1 ws f v.3 high m,
        ),
      )
  var_rest_forth l next ns (Some a) es vs ws f (inr d) le m =
      let v = d.2 in
      let high : l + exprs_height es ≤ B + 1 = omega (arith, le) in
      let low : l + type_height a ≤ B + 1 = omega (arith, le) in (
        values_low l es v.1 ws v.3 high,
        inl (
          a,
          d.0,
          d.1,
          low,
          inl (
            v.0,
            v.1,
            v.2,
            omega arith,
            values_forth ed B false l a_value
                (λ x. next (record { names = ns; type = Some a; values = x })) es v.1 ws f v.3 high m,
          ),
        ),
      )

  pub var_spec_forth : (l : ℕ) (next : VarSpec → Reader) (s : VarSpec) (us ws : List Lexeme) (f : File) → IsVarSpec ed s us ws → l + var_height s ≤ B + 1 →
      Means ed B (next s) ws f → Means ed B (names l (var_rest l next)) us f
  var_spec_forth l next s us ws f d le m =
      let r = var_rest_forth l next s.names s.type s.values d.0 ws f d.2 le m in
      names_forth l (var_rest l next) s.names us d.0 f d.1 r.0 r.1

  var_rest_good : (l : ℕ) (next : VarSpec → Reader) (ns : List Name) → l ≤ B → ((s : VarSpec) → l + var_height s ≤ B + 1 → Good ed B (next s)) → EndsLine next →
      Good ed B (var_rest l next ns)
  var_rest_good l next ns low good ends = (
    inl low,
    (
      (λ a fits. (
        inl (omega arith),
        (
          (λ t e le. value_list_good l next (λ es. record { names = ns; type = Some a; values = es }) low
              (λ es high. good (record { names = ns; type = Some a; values = es }) (omega (arith, fits, high))) ends),
          (good (record { names = ns; type = Some a; values = no_exprs }) (omega (arith, fits))).1,
          no_assign next ends (record { names = ns; type = Some a; values = no_exprs }),
        ),
      )),
      (λ a. no_period next ends (record { names = ns; type = Some a; values = no_exprs })),
      (λ t e le. value_list_good l next (λ es. record { names = ns; type = None; values = es }) low
          (λ es high. good (record { names = ns; type = None; values = es }) (omega (arith, high))) ends),
      (λ k e. by_closing (same assign k) (begins_type k || is_left_out_at a_type k) (assign_no_type k) e),
    ),
  )

  pub var_spec_good : (l : ℕ) (next : VarSpec → Reader) → ((s : VarSpec) → l + var_height s ≤ B + 1 → Good ed B (next s)) → EndsLine next →
      Okay ed B (names l (var_rest l next))
  var_spec_good l next good ends = names_good l (var_rest l next) (λ le ns. var_rest_good l next ns le good ends) (λ ns. refl)

  -- types
  pub type_spec_back : (l : ℕ) (next : TypeSpec → Reader) (us : List Lexeme) (f : File) → Means ed B (token kinds.Name l another (type_rest l next)) us f →
      (s : TypeSpec) × (ws : List Lexeme) × IsTypeSpec ed s us ws × (l + type_spec_height s ≤ B + 1) × Means ed B (next s) ws f
  type_spec_back l next us f m = (record { name = name_of m.0; type = m.4.0 }, m.4.1, (m.0, m.1, m.2, refl, m.4.2), m.4.3, m.4.4)

  pub type_spec_forth : (l : ℕ) (next : TypeSpec → Reader) (s : TypeSpec) (us ws : List Lexeme) (f : File) → IsTypeSpec ed s us ws →
      l + type_spec_height s ≤ B + 1 →
      Means ed B (next s) ws f → Means ed B (token kinds.Name l another (type_rest l next)) us f
  type_spec_forth l next s us ws f d le m = (
    d.0,
    d.1,
    d.2,
    omega (arith, le, type_height_positive s.type),
    (s.type, ws, d.4, le, subst (λ x. Means ed B (next (record { name = x; type = s.type })) ws f) d.3 m),
  )

  pub type_spec_good : (l : ℕ) (next : TypeSpec → Reader) → ((s : TypeSpec) → l + type_spec_height s ≤ B + 1 → Good ed B (next s)) → EndsLine next →
      Okay ed B (token kinds.Name l another (type_rest l next))
  type_spec_good l next good ends =
      λ t e le. (le, (λ a fits. good (record { name = name_of t; type = a }) fits, λ a. no_period next ends (record { name = name_of t; type = a })))

  -- parameters
  abbrev pub parameter : (Parameter → Reader) → Reader
  parameter next = names 1 (λ ns. type 1 a_parameter_type (λ a. next (record { names = ns; type = a })))

  pub parameter_back : (next : Parameter → Reader) (us : List Lexeme) (f : File) → Means ed B (parameter next) us f →
      (p : Parameter) × (ws : List Lexeme) × IsParameter ed p us ws × (1 + parameter_height p ≤ B + 1) × Means ed B (next p) ws f
  parameter_back next us f m =
      let n = names_back 1 (λ ns. type 1 a_parameter_type (λ a. next (record { names = ns; type = a }))) us f m in
      (record { names = n.0; type = n.4.0 }, n.4.1, (n.1, n.2, n.4.2), n.4.3, n.4.4)

  pub parameter_forth : (next : Parameter → Reader) (p : Parameter) (us ws : List Lexeme) (f : File) → IsParameter ed p us ws → 1 + parameter_height p ≤ B + 1 →
      Means ed B (next p) ws f → Means ed B (parameter next) us f
  parameter_forth next p us ws f d le m =
      names_forth 1 (λ ns. type 1 a_parameter_type (λ a. next (record { names = ns; type = a }))) p.names us d.0 f d.1
      (omega (arith, le, type_height_positive p.type))
      (p.type, ws, d.2, le, m)

  pub parameter_good : (next : Parameter → Reader) → ((p : Parameter) → 1 + parameter_height p ≤ B + 1 → Good ed B (next p)) →
      ((p : Parameter) → begins (next p) period ≡ false) →
      Okay ed B (parameter next)
  parameter_good next good apart =
      names_good 1 (λ ns. type 1 a_parameter_type (λ a. next (record { names = ns; type = a })))
      (λ le ns. (le, (λ a fits. good (record { names = ns; type = a }) fits, λ a. apart (record { names = ns; type = a })))) (λ ns. refl)

  -- imports
  pub import_spec_back : (next : ImportSpec → Reader) (us : List Lexeme) (f : File) → Means ed B (import_spec next) us f →
      (i : ImportSpec) × (ws : List Lexeme) × IsImportSpec i us ws × (0 + 0 ≤ B + 1) × Means ed B (next i) ws f
  import_spec_back next us f (inl m) =
      let p = m.4 in
      (import_spec_of (Some (name_of m.0)) m.0.place p.0, p.1, (m.0, p.0, m.1, inr (refl, m.2, refl), p.2, string_means p.0.text, p.3, refl), omega arith, p.4)
  import_spec_back next us f (inr p) =
      (import_spec_of None p.0.place p.0, p.1, (p.0, p.0, us, inl (refl, refl, refl), p.2, string_means p.0.text, p.3, refl), omega arith, p.4)

  spec_same : (i : ImportSpec) (p : Place) (n : Option Name) (path : List ℕ) (q : Place) → i.place ≡ p → i.name ≡ n → i.path ≡ path → i.path_place ≡ q →
      i ≡ record { place = p; name = n; path = path; path_place = q }
  spec_same i p n path q a b c d =
      ap (λ x. record { place = x; name = i.name; path = i.path; path_place = i.path_place }) a
      ∙ ap (λ x. record { place = p; name = x; path = i.path; path_place = i.path_place }) b
      ∙ ap (λ x. record { place = p; name = n; path = x; path_place = i.path_place }) c
      ∙ ap (λ x. record { place = p; name = n; path = path; path_place = x }) d

  import_cases : (next : ImportSpec → Reader) (i : ImportSpec) (n t : Lexeme) (us vs ws : List Lexeme) (f : File) →
      ((i.name ≡ None) × (us ≡ vs) × (i.place ≡ t.place)) ⊎ ((i.name ≡ Some (name_of n)) × Token kinds.Name n us vs × (i.place ≡ n.place)) →
      Token kinds.String t vs ws → i.path ≡ string_value t.text → i.path ≢ codes "C" → i.path_place ≡ t.place → Means ed B (next i) ws f →
      Means ed B (import_spec next) us f
  import_cases next i n t us vs ws f (inl d) s path ne q m =
      let all : i ≡ import_spec_of None t.place t = spec_same i t.place None (string_value t.text) t.place d.2 d.0 path q in
      inr (t, ws, subst (λ x. Token kinds.String t x ws) (sym d.1) s, (λ e. ne (path ∙ e)), subst (λ x. Means ed B (next x) ws f) all m)
  import_cases next i n t us vs ws f (inr d) s path ne q m =
      let all : i ≡ import_spec_of (Some (name_of n)) n.place t = spec_same i n.place (Some (name_of n)) (string_value t.text) t.place d.2 d.0 path q in
      inl (n, vs, d.1, omega arith, (t, ws, s, (λ e. ne (path ∙ e)), subst (λ x. Means ed B (next x) ws f) all m))

  pub import_spec_forth : (next : ImportSpec → Reader) (i : ImportSpec) (us ws : List Lexeme) (f : File) → IsImportSpec i us ws → Means ed B (next i) ws f →
      Means ed B (import_spec next) us f
  import_spec_forth next i us ws f d m = import_cases next i d.0 d.1 us d.2 ws f d.3 d.4 (string_computed d.1.text i.path d.5) d.6 d.7 m

  pub import_spec_good : (next : ImportSpec → Reader) → ((i : ImportSpec) → Good ed B (next i)) → Okay ed B (import_spec next)
  import_spec_good next good = (
    (λ n e le. (tt, λ t. good (import_spec_of (Some (name_of n)) n.place t))),
    (λ t. good (import_spec_of None t.place t)),
    refl,
  )
