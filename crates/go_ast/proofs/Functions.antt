-- Functions: what is taken for them is what the grammar says, both ways.
use Rattle.std.proofs.Common.{◌≡◌, ℕ, ◌+◌, ◌≤◌, inl, inr, true, false, ◌||◌, List, [], ◌∷◌, refl, sym, ap, ◌∙◌, subst, arith}
use Rattle.go_text.specs.declared.edition.Edition.{Edition}
use Rattle.go_text.specs.declared.place.Place.{Place}
use Rattle.go_scan.specs.declared.token.TokenKind.{TokenKind}
use Rattle.go_scan.specs.declared.token.TokenKind.TheVariants as kinds
use Rattle.go_scan.specs.declared.keyword.Keyword.TheVariants as keywords
use Rattle.go_ast.specs.Kinds.{same}
use Rattle.go_ast.specs.Expected.{a_type, is_left_out_at}
use Rattle.go_ast.specs.Trees.{TypeExpr, Parameter, FunctionDecl, Block, File}
use Rattle.go_ast.specs.Heights.{type_height, parameter_height, block_height, function_height}
use Rattle.go_ast.specs.Grammar.{Lexeme, name_of, opening, opening_brace, period, AreResults, IsFunction}
use Rattle.go_ast.specs.Machine.{Reader, begins_type, read_block, read_results, behind_func}
use Rattle.go_ast.proofs.Same.{are_same}
use Rattle.go_ast.proofs.Means.{begins, AllFit, Means, Good}
use Rattle.go_ast.proofs.Base.{first_is}
use Rattle.go_ast.proofs.Values.{by_closing}
use Rattle.go_ast.proofs.Specs.{never_true}
use Rattle.go_ast.proofs.Declarations.{greatest_fits, fits_greatest}
use Rattle.go_ast.proofs.Blocks.{block_back, block_forth, block_good}

-- a block is no type, nor what is left out in place of one
brace_no_type : (k : TokenKind) → same opening_brace k ≡ true → (begins_type k || is_left_out_at a_type k) ≡ false
brace_no_type k e = subst (λ j. (begins_type j || is_left_out_at a_type j) ≡ false) (sym (are_same opening_brace k e)) refl

module _ (ed : Edition) (B : ℕ) where
  -- results
  pub results_back : (next : List TypeExpr → Reader) (us : List Lexeme) (f : File) → Means ed B (read_results next) us f →
      (rs : List TypeExpr) × (ws : List Lexeme) × AreResults ed rs us ws × AllFit ed B type_height 1 rs × Means ed B (next rs) ws f
  results_back next us f (inl (o, vs, opens, le, (rs, c, xs, ws, are, fit, close, m))) = (rs, ws, inr (inr (o, c, vs, xs, opens, are, close)), fit, m)
  results_back next us f (inr (inl (a, ws, is, fit, m))) = (a ∷ [], ws, inr (inl (a, refl, is)), (fit, tt), m)
  results_back next us f (inr (inr m)) = ([], us, inl (refl, refl), tt, m)

  pub results_forth : (next : List TypeExpr → Reader) (rs : List TypeExpr) (us ws : List Lexeme) (f : File) → AreResults ed rs us ws → AllFit ed B type_height 1 rs →
      Means ed B (next rs) ws f →
      Means ed B (read_results next) us f
  results_forth next rs us ws f (inl (e, q)) fit m = inr (inr (subst (λ x. Means ed B (next []) x f) (sym q) (subst (λ x. Means ed B (next x) ws f) e m)))
  results_forth next rs us ws f (inr (inl (a, e, is))) fit m =
      let one : AllFit ed B type_height 1 (a ∷ []) = subst (AllFit ed B type_height 1) e fit in
      inr (inl (a, ws, is, one.0, subst (λ x. Means ed B (next x) ws f) e m))
  results_forth next rs us ws f (inr (inr (o, c, vs, xs, opens, are, close))) fit m = inl (o, vs, opens, omega arith, (rs, c, xs, ws, are, fit, close, m))

  pub results_good : (next : List TypeExpr → Reader) → ((rs : List TypeExpr) → AllFit ed B type_height 1 rs → Good ed B (next rs)) →
      ((rs : List TypeExpr) (k : TokenKind) → begins (next rs) k ≡ true → same opening_brace k ≡ true) → Good ed B (read_results next)
  results_good next good brace = (
    inl (omega arith),
    (
      (λ t e le. (tt, (omega arith, tt, λ rs c fit. good rs fit))),
      (
        (λ a fit. good (a ∷ []) (fit, tt)),
        (λ a. never_true (begins (next (a ∷ [])) period) (λ e. brace (a ∷ []) period e)),
        (good [] tt).1,
        (λ k e. by_closing (begins (next []) k) (begins_type k || is_left_out_at a_type k) (λ b. brace_no_type k (brace [] k b)) e),
      ),
      never_true (begins (next []) opening) (λ e. brace [] opening e),
    ),
  )

  -- functions
  abbrev function_made : Place → Lexeme → List Parameter → List TypeExpr → Block → FunctionDecl
  function_made p n ps rs b = record { place = p; name = name_of n; parameters = ps; results = rs; body = b }

  function_fits : (f : FunctionDecl) → AllFit ed B parameter_height 1 f.parameters → AllFit ed B type_height 1 f.results → 1 + block_height f.body ≤ B + 1 →
      1 + function_height f ≤ B + 1
  function_fits f ps rs b =
      omega (arith, greatest_fits ed B parameter_height 1 f.parameters (omega arith) ps, greatest_fits ed B type_height 1 f.results (omega arith) rs, b)

  pub behind_func_back : (next : FunctionDecl → Reader) (t : Lexeme) (us : List Lexeme) (f : File) → t.kind ≡ kinds.Keyword keywords.Func →
      Means ed B (behind_func next t) us f →
      (g : FunctionDecl) × (ws : List Lexeme) × IsFunction ed g (t ∷ us) ws × (1 + function_height g ≤ B + 1) × Means ed B (next g) ws f
  behind_func_back next t us f e (n, xs, named, low, (o, ys, opens, low', (ps, c, zs, zs', are, fit, close, m))) =
      let r = results_back (λ rs. read_block 1 (λ b. next (function_made t.place n ps rs b))) zs' f m in
      let b = block_back ed B 1 (λ b. next (function_made t.place n ps r.0 b)) r.1 f r.4 in (
        function_made t.place n ps r.0 b.0,
        b.1,
        (t, n, o, c, us, xs, ys, zs, zs', r.1, record { whole = refl; is = e }, refl, named, refl, opens, are, close, r.2, b.2),
        function_fits (function_made t.place n ps r.0 b.0) fit r.3 b.3,
        b.4,
      )

  function_same : (g : FunctionDecl) (p : Place) (n : Lexeme) → g.place ≡ p → g.name ≡ name_of n → g ≡ function_made p n g.parameters g.results g.body
  function_same g p n a b =
      ap (λ x. record { place = x; name = g.name; parameters = g.parameters; results = g.results; body = g.body }) a
      ∙ ap (λ x. record { place = p; name = x; parameters = g.parameters; results = g.results; body = g.body }) b

  pub behind_func_forth : (next : FunctionDecl → Reader) (g : FunctionDecl) (t : Lexeme) (us ws : List Lexeme) (f : File) → IsFunction ed g (t ∷ us) ws →
      1 + function_height g ≤ B + 1 →
      Means ed B (next g) ws f → (t.kind ≡ kinds.Keyword keywords.Func) × Means ed B (behind_func next t) us f
  behind_func_forth next g t us ws f d fit m =
      let h = first_is (kinds.Keyword keywords.Func) t d.0 us d.4 d.10 in
      let all : g ≡ function_made t.place d.1 g.parameters g.results g.body =
      function_same g t.place d.1 (d.11 ∙ ap (λ (x : Lexeme). x.place) (sym h.0)) d.13 in
      let ps : AllFit ed B parameter_height 1 g.parameters = fits_greatest ed B parameter_height 1 g.parameters (omega (arith, fit)) in
      let rs : AllFit ed B type_height 1 g.results = fits_greatest ed B type_height 1 g.results (omega (arith, fit)) in
      let b : Means ed B (read_block 1 (λ b. next (function_made t.place d.1 g.parameters g.results b))) d.9 f =
      block_forth ed B 1 (λ b. next (function_made t.place d.1 g.parameters g.results b)) g.body d.9 ws f d.18 (omega (arith, fit))
      (subst (λ x. Means ed B (next x) ws f) all m) in
      let r = results_forth (λ rs. read_block 1 (λ b. next (function_made t.place d.1 g.parameters rs b))) g.results d.8 d.9 f d.17 rs b in (
        h.2,
        subst (λ x. Means ed B (behind_func next t) x f) (sym h.1)
            (d.1, d.5, d.12, omega arith, (d.2, d.6, d.14, omega arith, (g.parameters, d.3, d.7, d.8, d.15, ps, d.16, r))),
      )

  pub behind_func_good : (next : FunctionDecl → Reader) (t : Lexeme) → 1 ≤ B → ((g : FunctionDecl) → 1 + function_height g ≤ B + 1 → Good ed B (next g)) →
      Good ed B (behind_func next t)
  behind_func_good next t one good = (
    omega arith,
    λ n e le. (
      omega arith,
      λ o e' le'. (
        tt,
        (
          omega arith,
          tt,
          λ ps c fit.
              results_good (λ rs. read_block 1 (λ b. next (function_made t.place n ps rs b)))
              (λ rs fits. block_good ed B 1 (λ b. next (function_made t.place n ps rs b)) one
              (λ b low. good (function_made t.place n ps rs b) (function_fits (function_made t.place n ps rs b) fit fits low)))
              (λ rs k b. b),
        ),
      ),
    ),
  )
