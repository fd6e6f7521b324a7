-- Files: what is taken for them is what the grammar says, both ways.
use Rattle.std.proofs.Common.{◌≡◌, ℕ, ◌+◌, ◌≤◌, inl, inr, true, ◌||◌, List, [], ◌∷◌, ◌++◌, refl, sym, ap, ◌∙◌, subst, arith, append_assoc, append-nil}
use Rattle.go_text.specs.declared.edition.Edition.{Edition}
use Rattle.go_scan.specs.declared.token.TokenKind.{TokenKind}
use Rattle.go_scan.specs.declared.keyword.Keyword.TheVariants as keywords
use Rattle.go_ast.specs.Kinds.{same}
use Rattle.go_ast.specs.Expected.{another}
use Rattle.go_ast.specs.Trees.{Name, Decl, constants, variables, types, FunctionDecl, TopLevel, declared, function, ImportSpec, File}
use Rattle.go_ast.specs.Heights.{top_height}
use Rattle.go_ast.specs.Grammar.{Lexeme, Token, name_of, semicolon, closing, closing_brace, IsTopLevel, AreImports, AreTopLevels, concat, Derives}
use Rattle.go_ast.specs.Machine.{Reader, keyword, import_specs, import_end, decl_end, import_spec, to_file, decls_at, read_imports, start, parser_step}
use Rattle.go_ast.proofs.Means.{begins, AllFit, Means, Okay, Good, After, Kept}
use Rattle.go_ast.proofs.Base.{left_true, token_here}
use Rattle.go_ast.proofs.Tokens.{a_token, same_here, no_token, token_back, token_forth, token_kept}
use Rattle.go_ast.proofs.Specs.{ends_line, import_spec_back, import_spec_forth, import_spec_good}
use Rattle.go_ast.proofs.Declarations.{greatest_fits, fits_greatest, group_back, group_forth, group_good, behind_const_back, behind_const_forth, behind_const_good, behind_var_back, behind_var_forth, behind_var_good, behind_type_back, behind_type_forth, behind_type_good}
use Rattle.go_ast.proofs.Functions.{behind_func_back, behind_func_forth, behind_func_good}

semicolon_line : (k : TokenKind) → same semicolon k ≡ true → ends_line k ≡ true
semicolon_line k e = left_true (same semicolon k || same closing k) (same closing_brace k) (left_true (same semicolon k) (same closing k) e)

module _ (ed : Edition) (B : ℕ) where
  -- declarations behind these, up to the end
  abbrev Decls : Name → List ImportSpec → List TopLevel → List Lexeme → File → Type 0
  Decls p is ds us f = (more : List TopLevel) × AreTopLevels ed more us [] × AllFit ed B top_height 1 more × (f ≡ to_file p is (ds ++ more))

  abbrev behind_decl : Name → List ImportSpec → List TopLevel → Decl → Reader
  behind_decl p is ds d = decl_end p is (ds ++ declared d ∷ [])

  abbrev behind_function : Name → List ImportSpec → List TopLevel → FunctionDecl → Reader
  behind_function p is ds g = decl_end p is (ds ++ function g ∷ [])

  decl_more : (p : Name) (is : List ImportSpec) (ds : List TopLevel) (d : TopLevel) (us ws : List Lexeme) (f : File) → IsTopLevel ed d us ws →
      1 + top_height d ≤ B + 1 →
      Means ed B (decl_end p is (ds ++ d ∷ [])) ws f → Decls p is ds us f
  decl_more p is ds d us ws f top fit m =
      (d ∷ m.2, (m.0, ws, m.1, top, m.3, m.4), (fit, m.5), m.6 ∙ ap (λ x. to_file p is x) (append_assoc ds (d ∷ []) m.2))

  at_token : (k : TokenKind) (t : Lexeme) (us vs : List Lexeme) (P : List Lexeme → Type 0) → Token k t us vs → P (t ∷ vs) → P us
  at_token k t us vs P h x = subst P (sym h.whole) x

  decls_back : (p : Name) (is : List ImportSpec) (ds : List TopLevel) (us : List Lexeme) (f : File) → Means ed B (decls_at p is ds) us f → Decls p is ds us f
  decls_back p is ds us f (inl (t, vs, k, low, m)) =
      let r = behind_const_back ed B 1 (behind_decl p is ds) t vs f (omega arith) k.is m in
      at_token (keyword keywords.Const) t us vs (λ x. Decls p is ds x f) k (decl_more p is ds (declared (constants t.place r.0)) (t ∷ vs) r.1 f r.2 r.3 r.4)
  decls_back p is ds us f (inr (inl (t, vs, k, low, m))) =
      let r = behind_var_back ed B 1 (behind_decl p is ds) t vs f (omega arith) k.is m in
      at_token (keyword keywords.Var) t us vs (λ x. Decls p is ds x f) k (decl_more p is ds (declared (variables t.place r.0)) (t ∷ vs) r.1 f r.2 r.3 r.4)
  decls_back p is ds us f (inr (inr (inl (t, vs, k, low, m)))) =
      let r = behind_type_back ed B 1 (behind_decl p is ds) t vs f (omega arith) k.is m in
      at_token (keyword keywords.Type) t us vs (λ x. Decls p is ds x f) k (decl_more p is ds (declared (types t.place r.0)) (t ∷ vs) r.1 f r.2 r.3 r.4)
  decls_back p is ds us f (inr (inr (inr (inl (t, vs, k, low, m))))) =
      let r = behind_func_back ed B (behind_function p is ds) t vs f k.is m in
      at_token (keyword keywords.Func) t us vs (λ x. Decls p is ds x f) k (decl_more p is ds (function r.0) (t ∷ vs) r.1 f r.2 r.3 r.4)
  decls_back p is ds us f (inr (inr (inr (inr (none, e))))) = ([], none, tt, e ∙ ap (λ x. to_file p is x) (sym (append-nil ds)))

  -- behind a declaration
  decl_end_made : (p : Name) (is : List ImportSpec) (ds : List TopLevel) (d : TopLevel) (more : List TopLevel) (s : Lexeme) (vs ws : List Lexeme) (f : File) →
      Token semicolon s vs ws → AreTopLevels ed more ws [] → AllFit ed B top_height 1 more → f ≡ to_file p is (ds ++ d ∷ more) →
      Means ed B (decl_end p is (ds ++ d ∷ [])) vs f
  decl_end_made p is ds d more s vs ws f semi are fit e = (s, ws, more, semi, are, fit, e ∙ ap (λ x. to_file p is x) (sym (append_assoc ds (d ∷ []) more)))

  top_forth : (p : Name) (is : List ImportSpec) (ds : List TopLevel) (d : TopLevel) (us vs : List Lexeme) (f : File) → IsTopLevel ed d us vs →
      1 + top_height d ≤ B + 1 →
      Means ed B (decl_end p is (ds ++ d ∷ [])) vs f → Means ed B (decls_at p is ds) us f
  top_forth p is ds (declared (constants q ss)) us vs f (k, xs, key, place, g) fit m =
      let r = behind_const_forth ed B 1 (behind_decl p is ds) q ss k xs vs f (k, xs, token_here (keyword keywords.Const) k xs key.is, place, g) fit m in
      inl (k, xs, key, omega arith, r.1)
  top_forth p is ds (declared (variables q ss)) us vs f (k, xs, key, place, g) fit m =
      let r = behind_var_forth ed B 1 (behind_decl p is ds) q ss k xs vs f (k, xs, token_here (keyword keywords.Var) k xs key.is, place, g) fit m in
      inr (inl (k, xs, key, omega arith, r.1))
  top_forth p is ds (declared (types q ss)) us vs f (k, xs, key, place, g) fit m =
      let r = behind_type_forth ed B 1 (behind_decl p is ds) q ss k xs vs f (k, xs, token_here (keyword keywords.Type) k xs key.is, place, g) fit m in
      inr (inr (inl (k, xs, key, omega arith, r.1)))
  top_forth p is ds (function g) us vs f d fit m =
      let is_here = subst (λ x. IsTopLevel ed (function g) x vs) d.10.whole d in
      let r = behind_func_forth ed B (behind_function p is ds) g d.0 d.4 vs f is_here fit m in
      inr (inr (inr (inl (d.0, d.4, d.10, omega (arith, fit), r.1))))

  decls_forth : (p : Name) (is : List ImportSpec) (ds more : List TopLevel) (us : List Lexeme) (f : File) → AreTopLevels ed more us [] →
      AllFit ed B top_height 1 more →
      f ≡ to_file p is (ds ++ more) → Means ed B (decls_at p is ds) us f
  decls_forth p is ds [] us f are fit e = inr (inr (inr (inr (are, e ∙ ap (λ x. to_file p is x) (append-nil ds)))))
  decls_forth p is ds (d ∷ more) us f (s, vs, ws, top, semi, are) fit e =
      top_forth p is ds d us vs f top fit.0 (decl_end_made p is ds d more s vs ws f semi are fit.1 e)

  decls_good : (p : Name) (is : List ImportSpec) (ds : List TopLevel) → 1 ≤ B → Good ed B (decls_at p is ds)
  decls_good p is ds one = (
    inl (omega arith),
    (
      (λ t e le. behind_const_good ed B 1 (behind_decl p is ds) t (omega arith) (λ d fit. (tt, one)) (λ d k b. semicolon_line k b)),
      (
        (λ t e le. behind_var_good ed B 1 (behind_decl p is ds) t (omega arith) (λ d fit. (tt, one)) (λ d k b. semicolon_line k b)),
        (
          (λ t e le. behind_type_good ed B 1 (behind_decl p is ds) t (omega arith) (λ d fit. (tt, one)) (λ d k b. semicolon_line k b)),
          ((λ t e le. behind_func_good ed B (behind_function p is ds) t one (λ d fit. (tt, one))), tt, refl),
          refl,
        ),
        refl,
      ),
      refl,
    ),
  )

  pub decl_end_back : (p : Name) (is : List ImportSpec) (ds : List TopLevel) (t : Lexeme) (us : List Lexeme) (f : File) →
      After ed B (parser_step ed (decl_end p is ds) t) us f → Means ed B (decl_end p is ds) (t ∷ us) f
  decl_end_back p is ds t us f a =
      let m = token_back ed B semicolon 0 another (λ _. decls_at p is ds) t us f a in
      let r = decls_back p is ds m.1 f m.4 in
      (m.0, m.1, r.0, m.2, r.1, r.2, r.3)

  pub decl_end_forth : (p : Name) (is : List ImportSpec) (ds : List TopLevel) (t : Lexeme) (us : List Lexeme) (f : File) →
      Means ed B (decl_end p is ds) (t ∷ us) f → After ed B (parser_step ed (decl_end p is ds) t) us f
  decl_end_forth p is ds t us f m =
      token_forth ed B semicolon 0 another (λ _. decls_at p is ds) t us f (m.0, m.1, m.3, omega arith, decls_forth p is ds m.2 m.1 f m.4 m.5 m.6)

  pub decl_end_kept : (p : Name) (is : List ImportSpec) (ds : List TopLevel) (t : Lexeme) → Okay ed B (decl_end p is ds) → Kept ed B (parser_step ed (decl_end p is ds) t)
  decl_end_kept p is ds t one = token_kept ed B semicolon 0 another (λ _. decls_at p is ds) t (λ s e le. decls_good p is ds one)

  pub decl_end_first : (p : Name) (is : List ImportSpec) (ds : List TopLevel) (t : Lexeme) (us : List Lexeme) (f : File) →
      Means ed B (decl_end p is ds) (t ∷ us) f → begins (decl_end p is ds) t.kind ≡ true
  decl_end_first p is ds t us f m = same_here semicolon t m.0 us m.1 m.3

  pub decl_end_comes : (p : Name) (is : List ImportSpec) (ds : List TopLevel) → (us : List Lexeme) × (f : File) × Means ed B (decl_end p is ds) us f
  decl_end_comes p is ds = let s = a_token semicolon in (s ∷ [], to_file p is (ds ++ []), (s, [], [], token_here semicolon s [] refl, refl, tt, refl))

  pub decl_end_never : (p : Name) (is : List ImportSpec) (ds : List TopLevel) (f : File) → Means ed B (decl_end p is ds) [] f → ⊥
  decl_end_never p is ds f m = no_token semicolon m.0 m.1 m.3

  -- imports behind these, and then declarations
  abbrev Imports : Name → List (List ImportSpec) → List Lexeme → File → Type 0
  Imports p iss us f =
      (more : List (List ImportSpec)) × (ds : List TopLevel) × (xs : List Lexeme) × AreImports more us xs × AreTopLevels ed ds xs [] × AllFit ed B top_height 1 ds
      × (f ≡ to_file p (concat (iss ++ more)) ds)

  abbrev behind_import : Name → List (List ImportSpec) → List ImportSpec → Reader
  behind_import p iss is = import_end p (iss ++ is ∷ [])

  imports_back : (p : Name) (iss : List (List ImportSpec)) (us : List Lexeme) (f : File) → Means ed B (read_imports p iss) us f → Imports p iss us f
  imports_back p iss us f (inl (t, vs, k, low, m)) =
      let g = group_back ed B import_specs (behind_import p iss) import_spec vs f (import_spec_back ed B (λ i. behind_import p iss (i ∷ [])) vs f) m in
      let r = g.4 in
      (g.0 ∷ r.3, r.4, r.2, (t, r.0, vs, g.1, r.1, k, g.2, r.5, r.6), r.7, r.8, r.9 ∙ ap (λ x. to_file p (concat x) r.4) (append_assoc iss (g.0 ∷ []) r.3))
  imports_back p iss us f (inr m) =
      let r = decls_back p (concat iss) [] us f m in
      ([], r.0, us, refl, r.1, r.2, r.3 ∙ ap (λ x. to_file p (concat x) r.0) (sym (append-nil iss)))

  imports_forth : (p : Name) (iss more : List (List ImportSpec)) (ds : List TopLevel) (us xs : List Lexeme) (f : File) → AreImports more us xs →
      AreTopLevels ed ds xs [] →
      AllFit ed B top_height 1 ds → f ≡ to_file p (concat (iss ++ more)) ds → Means ed B (read_imports p iss) us f
  imports_forth p iss [] ds us xs f are top fit e =
      inr (decls_forth p (concat iss) [] ds us f (subst (λ x. AreTopLevels ed ds x []) (sym are) top) fit (e ∙ ap (λ x. to_file p (concat x) ds) (append-nil iss)))
  imports_forth p iss (is ∷ more) ds us xs f (k, s, vs, ws, ys, key, g, semi, are) top fit e =
      let rest : Means ed B (behind_import p iss is) ws f =
      (s, ys, xs, more, ds, semi, are, top, fit, e ∙ ap (λ x. to_file p (concat x) ds) (sym (append_assoc iss (is ∷ []) more))) in
      inl (
        k,
        vs,
        key,
        omega arith,
        group_forth ed B import_specs (behind_import p iss) import_spec is vs ws f
            (λ i d le m. import_spec_forth ed B (λ i. behind_import p iss (i ∷ [])) i vs ws f d m) g (all_low is) rest,
      )
    where
      all_low : (is : List ImportSpec) → AllFit ed B (λ i. 0) 0 is
      all_low [] = tt
      all_low (i ∷ is) = (omega arith, all_low is)

  imports_good : (p : Name) (iss : List (List ImportSpec)) → 1 ≤ B → Good ed B (read_imports p iss)
  imports_good p iss one = (
    inl (omega arith),
    (
      (λ t e le. group_good ed B import_specs (behind_import p iss) import_spec (omega arith) (λ is fit. (tt, one))
          (import_spec_good ed B (λ i. behind_import p iss (i ∷ [])) (λ i. (tt, one))) refl),
      (decls_good p (concat iss) [] one).1,
      refl,
    ),
  )

  pub import_end_back : (p : Name) (iss : List (List ImportSpec)) (t : Lexeme) (us : List Lexeme) (f : File) →
      After ed B (parser_step ed (import_end p iss) t) us f → Means ed B (import_end p iss) (t ∷ us) f
  import_end_back p iss t us f a =
      let m = token_back ed B semicolon 0 another (λ _. read_imports p iss) t us f a in
      let r = imports_back p iss m.1 f m.4 in
      (m.0, m.1, r.2, r.0, r.1, m.2, r.3, r.4, r.5, r.6)

  pub import_end_forth : (p : Name) (iss : List (List ImportSpec)) (t : Lexeme) (us : List Lexeme) (f : File) →
      Means ed B (import_end p iss) (t ∷ us) f → After ed B (parser_step ed (import_end p iss) t) us f
  import_end_forth p iss t us f m =
      token_forth ed B semicolon 0 another (λ _. read_imports p iss) t us f (m.0, m.1, m.5, omega arith, imports_forth p iss m.3 m.4 m.1 m.2 f m.6 m.7 m.8 m.9)

  pub import_end_kept : (p : Name) (iss : List (List ImportSpec)) (t : Lexeme) → Okay ed B (import_end p iss) → Kept ed B (parser_step ed (import_end p iss) t)
  import_end_kept p iss t one = token_kept ed B semicolon 0 another (λ _. read_imports p iss) t (λ s e le. imports_good p iss one)

  pub import_end_first : (p : Name) (iss : List (List ImportSpec)) (t : Lexeme) (us : List Lexeme) (f : File) →
      Means ed B (import_end p iss) (t ∷ us) f → begins (import_end p iss) t.kind ≡ true
  import_end_first p iss t us f m = same_here semicolon t m.0 us m.1 m.5

  pub import_end_comes : (p : Name) (iss : List (List ImportSpec)) → (us : List Lexeme) × (f : File) × Means ed B (import_end p iss) us f
  import_end_comes p iss =
      let s = a_token semicolon in (s ∷ [], to_file p (concat (iss ++ [])) [], (s, [], [], [], [], token_here semicolon s [] refl, refl, refl, tt, refl))

  pub import_end_never : (p : Name) (iss : List (List ImportSpec)) (f : File) → Means ed B (import_end p iss) [] f → ⊥
  import_end_never p iss f m = no_token semicolon m.0 m.1 m.5

  -- the start: what leads from it is derived, and the other way round
  pub start_back : (ts : List Lexeme) (f : File) → Means ed B start ts f → Derives ed B ts f
  start_back ts f (k, vs, key, low, (t, xs, named, ne, (s, ys, semi, low', m))) =
      let r = imports_back (name_of t) [] ys f m in
      let made : File = to_file (name_of t) (concat r.0) r.1 in
      let d : Derives ed B ts made =
      record {
        derived = (k, t, s, vs, xs, ys, r.2, r.0, key, named, ne, refl, semi, r.3, refl, r.4);
        fits = omega (arith, greatest_fits ed B top_height 1 r.1 (omega arith) r.5);
      } in
      subst (Derives ed B ts) (sym r.6) d

  pub start_forth : (ts : List Lexeme) (f : File) → Derives ed B ts f → Means ed B start ts f
  start_forth ts f d =
      let g = d.derived in
      let all : f ≡ to_file (name_of g.1) (concat g.7) f.declarations =
      ap (λ x. to_file x f.imports f.declarations) g.11 ∙ ap (λ x. to_file (name_of g.1) x f.declarations) g.14 in
      let fit : AllFit ed B top_height 1 f.declarations = fits_greatest ed B top_height 1 f.declarations (omega (arith, d.fits)) in (
        g.0,
        g.3,
        g.8,
        omega arith,
        (g.1, g.4, g.9, g.10, (g.2, g.5, g.12, omega arith, imports_forth (name_of g.1) [] g.7 f.declarations g.5 g.6 f g.13 g.15 fit all)),
      )

  pub start_good : 1 ≤ B → Good ed B start
  start_good one = (omega arith, λ k e le. (tt, λ t. (omega arith, λ s e' le'. imports_good (name_of t) [] one)))
