-- A statement that isn't empty: what is taken is what the grammar says, both ways.
use Rattle.std.proofs.Common.{◌≡◌, ℕ, ◌+◌, ◌≤◌, ◌⊎◌, inl, inr, true, false, ◌||◌, List, ◌∷◌, refl, sym, ap, ◌∙◌, subst, arith}
use Rattle.go_text.specs.declared.edition.Edition.{Edition}
use Rattle.go_text.specs.declared.place.Place.{Place}
use Rattle.go_scan.specs.declared.token.TokenKind.{TokenKind}
use Rattle.go_scan.specs.declared.keyword.Keyword.TheVariants as keywords
use Rattle.go_ast.specs.Kinds.{same}
use Rattle.go_ast.specs.Expected.{Expected, an_operand, a_statement, behind_a_jump, another, is_left_out_at}
use Rattle.go_ast.specs.Trees.{Expression, ExpressionList, no_exprs, Simple, call_statement, Decl, constants, variables, types, Statement, empty, declaration, simple, return, break, continue, fallthrough, block_statement, if_statement, for_statement, range_statement, switch_statement, File}
use Rattle.go_ast.specs.Heights.{exprs_height, simple_height, decl_height, stmt_height}
use Rattle.go_ast.specs.Grammar.{Lexeme, Token, closing_brace, opening_brace, semicolon, comma, AreExprs, IsSimple, IsDecl, IsStmt, decl_place, declares_types, simple_place}
use Rattle.go_ast.specs.Machine.{in_list, Reader, expr, Move, Take, cond, keyword, begins_expr, list_lefts, open_block, behind_const, behind_var, behind_if, behind_for, behind_switch, behind_return, on_expr}
use Rattle.go_ast.proofs.Same.{are_same}
use Rattle.go_ast.proofs.Means.{begins, begins_stmt, continues, Closes, Means, Okay, Good, After, Kept}
use Rattle.go_ast.proofs.Base.{false_true, after_cond, after_same, after_other, kept_cond, token_here, first_is, either_false}
use Rattle.go_ast.proofs.Tokens.{at_first, kind_here}
use Rattle.go_ast.proofs.Values.{values, values_back, values_forth, values_okay, by_closing}
use Rattle.go_ast.proofs.Simple.{simple_back, simple_forth}
use Rattle.go_ast.proofs.LeftsKept.{left_okay}
use Rattle.go_ast.proofs.Specs.{ends_line}
use Rattle.go_ast.proofs.Declarations.{behind_const_back, behind_const_forth, behind_const_good, behind_var_back, behind_var_forth, behind_var_good}
use Rattle.go_ast.proofs.Operands.{on_expr_back, on_expr_forth, on_expr_kept}
use Rattle.go_ast.proofs.Blocks.{open_block_back, open_block_forth, open_block_good}
use Rattle.go_ast.proofs.Ifs.{if_height_positive, if_back, if_forth, if_good}
use Rattle.go_ast.proofs.Fors.{for_back, for_forth, for_range_forth, for_good}
use Rattle.go_ast.proofs.Switches.{switch_back, switch_forth, switch_good}
use Rattle.go_ast.proofs.Starts.{simple_first}
use Rattle.go_ast.proofs.StatementTests.{end_as, before_var, before_return, before_break, before_continue, before_fallthrough, before_block, before_if, before_for, before_switch, before_expr, expr_before}
use Rattle.go_ast.proofs.Statements.{OnStmt}

abbrev EndsStmt : (Expected → Statement → Reader) → Type 0
EndsStmt next = (x : Expected) (s : Statement) (k : TokenKind) → begins (next x s) k ≡ true → (same semicolon k || same closing_brace k) ≡ true

module _ (ed : Edition) (B : ℕ) where
  module _ (l : ℕ) (next : Expected → Statement → Reader) (t : Lexeme) where
    -- the tests, from the last
    abbrev Lefts : Expression → Reader
    Lefts = list_lefts in_list false (l + 1) (λ s. next another (simple (simple_place s) s))

    abbrev At_expr : Move
    At_expr = on_expr 5 false (l + 1) a_statement Lefts t

    abbrev At_switch : Move
    At_switch = cond (same (keyword keywords.Switch) t.kind) (Take l (behind_switch l (next another) t)) At_expr

    abbrev At_for : Move
    At_for = cond (same (keyword keywords.For) t.kind) (Take (l + 1) (behind_for l (next another) t)) At_switch

    abbrev At_if : Move
    At_if = cond (same (keyword keywords.If) t.kind) (Take (l + 1) (behind_if l (λ i. next another (if_statement i)) t)) At_for

    abbrev At_block : Move
    At_block = cond (same opening_brace t.kind) (Take (l + 1) (open_block (l + 1) (λ b. next another (block_statement b)) t)) At_if

    abbrev At_fallthrough : Move
    At_fallthrough = cond (same (keyword keywords.Fallthrough) t.kind) (Take l (next another (fallthrough t.place))) At_block

    abbrev At_continue : Move
    At_continue = cond (same (keyword keywords.Continue) t.kind) (Take l (next behind_a_jump (continue t.place))) At_fallthrough

    abbrev At_break : Move
    At_break = cond (same (keyword keywords.Break) t.kind) (Take l (next behind_a_jump (break t.place))) At_continue

    abbrev At_return : Move
    At_return = cond (same (keyword keywords.Return) t.kind) (Take l (behind_return l (next another) t)) At_break

    abbrev At_var : Move
    At_var = cond (same (keyword keywords.Var) t.kind) (Take l (behind_var (l + 1) (λ d. next another (declaration t.place d)) t)) At_return

    abbrev At_const : Move
    At_const = cond (same (keyword keywords.Const) t.kind) (Take l (behind_const (l + 1) (λ d. next another (declaration t.place d)) t)) At_var

    module _ (us : List Lexeme) (f : File) where
      abbrev Read : Type 0
      Read = (x : Expected) × (s : Statement) × (ws : List Lexeme) × IsStmt ed s (t ∷ us) ws × (l + stmt_height s ≤ B + 1) × Means ed B (next x s) ws f

      return_back : t.kind ≡ keyword keywords.Return → l ≤ B → Means ed B (behind_return l (next another) t) us f → Read
      return_back k low m = elim m [
        | inl a ↦ (let g = values_back ed B false (l + 1) an_operand (λ es. next another (return t.place es)) us f a in
            (another, return t.place g.0, g.1, (t, us, token_here (keyword keywords.Return) t us k, refl, inr g.2), (let fit = g.3 in omega (arith, fit)), g.4))
        | inr a ↦ (another, return t.place no_exprs, us, (t, us, token_here (keyword keywords.Return) t us k, refl, inl (refl, refl)), omega (arith, low), a)
      ]

      expr_back : After ed B At_expr us f → Read
      expr_back a =
          let g = on_expr_back ed B 5 false (l + 1) a_statement Lefts t us f a in
          elim g.4 [
            | inl s ↦ (
              another,
              simple (simple_place s.0) s.0,
              s.1,
              (simple_back ed false g.0 s.0 (t ∷ us) g.1 s.1 g.2 s.2, refl),
              (let fit = s.3 in omega (arith, fit)),
              s.5,
            )
            | inr r ↦ elim r [
              | inl x ↦ absurd (false_true x.2)
              | inr x ↦ absurd (false_true x.7)
            ]
          ]

      switch_back_on : After ed B At_switch us f → Read
      switch_back_on a = elim (after_cond ed B (same (keyword keywords.Switch) t.kind) (Take l (behind_switch l (next another) t)) At_expr us f a) [
        | inl c ↦ (let g = switch_back ed B l (next another) t us f c.1.0 (are_same (keyword keywords.Switch) t.kind c.0) c.1.1 in
            (another, g.0, g.1, g.2, g.3, g.4))
        | inr c ↦ expr_back c.1
      ]

      for_back_on : After ed B At_for us f → Read
      for_back_on a = elim (after_cond ed B (same (keyword keywords.For) t.kind) (Take (l + 1) (behind_for l (next another) t)) At_switch us f a) [
        | inl c ↦ (let g = for_back ed B l (next another) t us f (are_same (keyword keywords.For) t.kind c.0) c.1.1 (let low = c.1.0 in omega (arith, low)) in
            (another, g.0, g.1, g.2, g.3, g.4))
        | inr c ↦ switch_back_on c.1
      ]

      if_back_on : After ed B At_if us f → Read
      if_back_on a = elim (after_cond ed B (same (keyword keywords.If) t.kind) (Take (l + 1) (behind_if l (λ i. next another (if_statement i)) t)) At_for us f a) [
        | inl c ↦ (let g = if_back ed B l (λ i. next another (if_statement i)) t us f (are_same (keyword keywords.If) t.kind c.0) c.1.1 in
            (another, if_statement g.0, g.1, g.2, g.3, g.4))
        | inr c ↦ for_back_on c.1
      ]

      block_back_on : After ed B At_block us f → Read
      block_back_on a =
          elim (after_cond ed B (same opening_brace t.kind) (Take (l + 1) (open_block (l + 1) (λ b. next another (block_statement b)) t)) At_if us f a) [
            | inl c ↦ (let g = open_block_back ed B (l + 1) (λ b. next another (block_statement b)) t (t ∷ us) us f
                (token_here opening_brace t us (are_same opening_brace t.kind c.0)) c.1.0 c.1.1 in
                (another, block_statement g.0, g.1, g.2, (let fit = g.3 in omega (arith, fit)), g.4))
            | inr c ↦ if_back_on c.1
          ]

      fallthrough_back_on : After ed B At_fallthrough us f → Read
      fallthrough_back_on a = elim (after_cond ed B (same (keyword keywords.Fallthrough) t.kind) (Take l (next another (fallthrough t.place))) At_block us f a) [
        | inl c ↦ ((
          another,
          fallthrough t.place,
          us,
          (
            t,
            token_here (keyword keywords.Fallthrough) t us (are_same (keyword keywords.Fallthrough) t.kind c.0),
            refl,
          ),
          (let low = c.1.0 in omega (arith, low)),
          c.1.1,
        ))
        | inr c ↦ block_back_on c.1
      ]

      continue_back_on : After ed B At_continue us f → Read
      continue_back_on a =
          elim (after_cond ed B (same (keyword keywords.Continue) t.kind) (Take l (next behind_a_jump (continue t.place))) At_fallthrough us f a) [
            | inl c ↦ ((
              behind_a_jump,
              continue t.place,
              us,
              (
                t,
                token_here (keyword keywords.Continue) t us (are_same (keyword keywords.Continue) t.kind c.0),
                refl,
              ),
              (let low = c.1.0 in omega (arith, low)),
              c.1.1,
            ))
            | inr c ↦ fallthrough_back_on c.1
          ]

      break_back_on : After ed B At_break us f → Read
      break_back_on a = elim (after_cond ed B (same (keyword keywords.Break) t.kind) (Take l (next behind_a_jump (break t.place))) At_continue us f a) [
        | inl c ↦ ((
          behind_a_jump,
          break t.place,
          us,
          (t, token_here (keyword keywords.Break) t us (are_same (keyword keywords.Break) t.kind c.0), refl),
          (let low = c.1.0 in omega (arith, low)),
          c.1.1,
        ))
        | inr c ↦ continue_back_on c.1
      ]

      return_back_on : After ed B At_return us f → Read
      return_back_on a = elim (after_cond ed B (same (keyword keywords.Return) t.kind) (Take l (behind_return l (next another) t)) At_break us f a) [
        | inl c ↦ (return_back (are_same (keyword keywords.Return) t.kind c.0) c.1.0 c.1.1)
        | inr c ↦ break_back_on c.1
      ]

      var_back_on : After ed B At_var us f → Read
      var_back_on a =
          elim (after_cond ed B (same (keyword keywords.Var) t.kind)
          (Take l (behind_var (l + 1) (λ d. next another (declaration t.place d)) t)) At_return us f a) [
            | inl c ↦ (let g = behind_var_back ed B (l + 1) (λ d. next another (declaration t.place d)) t us f (let low = c.1.0 in omega (arith, low))
                (are_same (keyword keywords.Var) t.kind c.0) c.1.1 in
                (another, declaration t.place (variables t.place g.0), g.1, (g.2, refl, refl), (let fit = g.3 in omega (arith, fit)), g.4))
            | inr c ↦ return_back_on c.1
          ]

      const_back_on : After ed B At_const us f → Read
      const_back_on a =
          elim (after_cond ed B (same (keyword keywords.Const) t.kind)
          (Take l (behind_const (l + 1) (λ d. next another (declaration t.place d)) t)) At_var us f a) [
            | inl c ↦ (let g = behind_const_back ed B (l + 1) (λ d. next another (declaration t.place d)) t us f (let low = c.1.0 in omega (arith, low))
                (are_same (keyword keywords.Const) t.kind c.0) c.1.1 in
                (another, declaration t.place (constants t.place g.0), g.1, (g.2, refl, refl), (let fit = g.3 in omega (arith, fit)), g.4))
            | inr c ↦ var_back_on c.1
          ]

      -- past the tests that fail
      to_var : before_var t.kind ≡ false → After ed B At_var us f → After ed B At_const us f
      to_var p a = after_other ed B (keyword keywords.Const) t (Take l (behind_const (l + 1) (λ d. next another (declaration t.place d)) t)) At_var us f p a

      to_return : before_return t.kind ≡ false → After ed B At_return us f → After ed B At_const us f
      to_return p a =
          let e = either_false (before_var t.kind) (same (keyword keywords.Var) t.kind) p in
          to_var e.0 (after_other ed B (keyword keywords.Var) t (Take l (behind_var (l + 1) (λ d. next another (declaration t.place d)) t)) At_return us f e.1 a)

      to_break : before_break t.kind ≡ false → After ed B At_break us f → After ed B At_const us f
      to_break p a =
          let e = either_false (before_return t.kind) (same (keyword keywords.Return) t.kind) p in
          to_return e.0 (after_other ed B (keyword keywords.Return) t (Take l (behind_return l (next another) t)) At_break us f e.1 a)

      to_continue : before_continue t.kind ≡ false → After ed B At_continue us f → After ed B At_const us f
      to_continue p a =
          let e = either_false (before_break t.kind) (same (keyword keywords.Break) t.kind) p in
          to_break e.0 (after_other ed B (keyword keywords.Break) t (Take l (next behind_a_jump (break t.place))) At_continue us f e.1 a)

      to_fallthrough : before_fallthrough t.kind ≡ false → After ed B At_fallthrough us f → After ed B At_const us f
      to_fallthrough p a =
          let e = either_false (before_continue t.kind) (same (keyword keywords.Continue) t.kind) p in
          to_continue e.0 (after_other ed B (keyword keywords.Continue) t (Take l (next behind_a_jump (continue t.place))) At_fallthrough us f e.1 a)

      to_block : before_block t.kind ≡ false → After ed B At_block us f → After ed B At_const us f
      to_block p a =
          let e = either_false (before_fallthrough t.kind) (same (keyword keywords.Fallthrough) t.kind) p in
          to_fallthrough e.0 (after_other ed B (keyword keywords.Fallthrough) t (Take l (next another (fallthrough t.place))) At_block us f e.1 a)

      to_if : before_if t.kind ≡ false → After ed B At_if us f → After ed B At_const us f
      to_if p a =
          let e = either_false (before_block t.kind) (same opening_brace t.kind) p in
          to_block e.0 (after_other ed B opening_brace t (Take (l + 1) (open_block (l + 1) (λ b. next another (block_statement b)) t)) At_if us f e.1 a)

      to_for : before_for t.kind ≡ false → After ed B At_for us f → After ed B At_const us f
      to_for p a =
          let e = either_false (before_if t.kind) (same (keyword keywords.If) t.kind) p in
          to_if e.0 (after_other ed B (keyword keywords.If) t (Take (l + 1) (behind_if l (λ i. next another (if_statement i)) t)) At_for us f e.1 a)

      to_switch : before_switch t.kind ≡ false → After ed B At_switch us f → After ed B At_const us f
      to_switch p a =
          let e = either_false (before_for t.kind) (same (keyword keywords.For) t.kind) p in
          to_for e.0 (after_other ed B (keyword keywords.For) t (Take (l + 1) (behind_for l (next another) t)) At_switch us f e.1 a)

      to_expr : before_expr t.kind ≡ false → After ed B At_expr us f → After ed B At_const us f
      to_expr p a =
          let e = either_false (before_switch t.kind) (same (keyword keywords.Switch) t.kind) p in
          to_switch e.0 (after_other ed B (keyword keywords.Switch) t (Take l (behind_switch l (next another) t)) At_expr us f e.1 a)

      -- what is so is taken
      decl_forth : (p : Place) (d : Decl) (ws : List Lexeme) → IsDecl ed d (t ∷ us) ws → p ≡ decl_place d → declares_types d ≡ false →
          l + (decl_height d + 1) ≤ B + 1 →
          Means ed B (next another (declaration p d)) ws f → After ed B At_const us f
      decl_forth p (constants q ss) ws d at no_types le m =
          let k = first_is (keyword keywords.Const) t d.0 us d.1 d.2 in
          let here : p ≡ t.place = at ∙ d.3 ∙ ap (λ (x : Lexeme). x.place) (sym k.0) in
          let g = behind_const_forth ed B (l + 1) (λ x. next another (declaration t.place x)) q ss t us ws f d (omega (arith, le))
          (subst (λ x. Means ed B (next another (declaration x (constants q ss))) ws f) here m) in
          after_same ed B (keyword keywords.Const) t (Take l (behind_const (l + 1) (λ d. next another (declaration t.place d)) t)) At_var us f g.0
          (omega (arith, le), g.1)
      decl_forth p (variables q ss) ws d at no_types le m =
          let k = first_is (keyword keywords.Var) t d.0 us d.1 d.2 in
          let here : p ≡ t.place = at ∙ d.3 ∙ ap (λ (x : Lexeme). x.place) (sym k.0) in
          let g = behind_var_forth ed B (l + 1) (λ x. next another (declaration t.place x)) q ss t us ws f d (omega (arith, le))
          (subst (λ x. Means ed B (next another (declaration x (variables q ss))) ws f) here m) in
          to_var (ap before_var g.0) (after_same ed B (keyword keywords.Var) t
          (Take l (behind_var (l + 1) (λ d. next another (declaration t.place d)) t)) At_return us f g.0 (omega (arith, le), g.1))
      decl_forth p (types q ss) ws d at no_types le m = absurd (false_true (sym no_types))

      return_forth : (p : Place) (es : ExpressionList) (k : Lexeme) (vs ws : List Lexeme) → Token (keyword keywords.Return) k (t ∷ us) vs → p ≡ k.place →
          ((es ≡ no_exprs) × (vs ≡ ws)) ⊎ AreExprs ed false es vs ws → l + (exprs_height es + 1) ≤ B + 1 → Means ed B (next another (return p es)) ws f →
          Means ed B (behind_return l (next another) k) vs f
      return_forth p es k vs ws d at (inl n) le m =
          inr (subst (λ x. Means ed B (next another (return x no_exprs)) vs f) at
          (subst (λ x. Means ed B (next another (return p x)) vs f) n.0 (subst (λ x. Means ed B (next another (return p es)) x f) (sym n.1) m)))
      return_forth p es k vs ws d at (inr n) le m =
          inl (values_forth ed B false (l + 1) an_operand (λ x. next another (return k.place x)) es vs ws f n (omega (arith, le))
          (subst (λ x. Means ed B (next another (return x es)) ws f) at m))

      simple_taken : (p : Place) (s : Simple) (ws : List Lexeme) → IsSimple ed false s (t ∷ us) ws → p ≡ simple_place s → l + (simple_height s + 1) ≤ B + 1 →
          Means ed B (next another (simple p s)) ws f → After ed B At_const us f
      simple_taken p s ws d at le m =
          let g = simple_forth ed false s (t ∷ us) ws d in
          to_expr (expr_before t.kind (simple_first ed false s t us ws d))
          (on_expr_forth ed B 5 false (l + 1) a_statement Lefts t us f (
            g.0,
            g.1,
            g.2,
            omega (arith, le, g.4),
            inl (
              s,
              ws,
              g.3,
              omega (arith, le),
              (λ never. absurd (false_true (sym never))),
              subst (λ x. Means ed B (next another (simple x s)) ws f) at m,
            ),
          ))

      stmt_forth : (s : Statement) (ws : List Lexeme) → begins_stmt t.kind ≡ true → IsStmt ed s (t ∷ us) ws → l + stmt_height s ≤ B + 1 →
          ((x : Expected) → Means ed B (next x s) ws f) → After ed B At_const us f
      stmt_forth (empty p) ws b d le m = absurd (false_true (sym (ap begins_stmt (first_is semicolon t d.0 us d.1 d.2).2) ∙ b))
      stmt_forth (declaration p x) ws b d le m = decl_forth p x ws d.0 d.1 d.2 le (m another)
      stmt_forth (simple p s) ws b d le m = simple_taken p s ws d.0 d.1 le (m another)
      stmt_forth (return p es) ws b d le m =
          let k = kind_here (keyword keywords.Return) t d.0 us d.1 d.2 in
          let g = at_first (keyword keywords.Return) t d.0 us d.1 (λ u xs. Means ed B (behind_return l (next another) u) xs f) d.2
          (return_forth p es d.0 d.1 ws d.2 d.3 d.4 le (m another)) in
          to_return (ap before_return k) (after_same ed B (keyword keywords.Return) t (Take l (behind_return l (next another) t)) At_break us f k
          (omega (arith, le), g))
      stmt_forth (break p) ws b d le m =
          let k = kind_here (keyword keywords.Break) t d.0 us ws d.1 in
          let g = at_first (keyword keywords.Break) t d.0 us ws (λ u xs. Means ed B (next behind_a_jump (break u.place)) xs f) d.1
          (subst (λ y. Means ed B (next behind_a_jump (break y)) ws f) d.2 (m behind_a_jump)) in
          to_break (ap before_break k) (after_same ed B (keyword keywords.Break) t (Take l (next behind_a_jump (break t.place))) At_continue us f k
          (omega (arith, le), g))
      stmt_forth (continue p) ws b d le m =
          let k = kind_here (keyword keywords.Continue) t d.0 us ws d.1 in
          let g = at_first (keyword keywords.Continue) t d.0 us ws (λ u xs. Means ed B (next behind_a_jump (continue u.place)) xs f) d.1
          (subst (λ y. Means ed B (next behind_a_jump (continue y)) ws f) d.2 (m behind_a_jump)) in
          to_continue (ap before_continue k) (after_same ed B (keyword keywords.Continue) t
          (Take l (next behind_a_jump (continue t.place))) At_fallthrough us f k (omega (arith, le), g))
      stmt_forth (fallthrough p) ws b d le m =
          let k = kind_here (keyword keywords.Fallthrough) t d.0 us ws d.1 in
          let g = at_first (keyword keywords.Fallthrough) t d.0 us ws (λ u xs. Means ed B (next another (fallthrough u.place)) xs f) d.1
          (subst (λ y. Means ed B (next another (fallthrough y)) ws f) d.2 (m another)) in
          to_fallthrough (ap before_fallthrough k) (after_same ed B (keyword keywords.Fallthrough) t
          (Take l (next another (fallthrough t.place))) At_block us f k (omega (arith, le), g))
      stmt_forth (block_statement x) ws b d le m =
          let g = open_block_forth ed B (l + 1) (λ y. next another (block_statement y)) x t us ws f d (omega (arith, le)) (m another) in
          to_block (ap before_block g.0) (after_same ed B opening_brace t
          (Take (l + 1) (open_block (l + 1) (λ b. next another (block_statement b)) t)) At_if us f g.0 (g.1, g.2))
      stmt_forth (if_statement x) ws b d le m =
          let g = if_forth ed B l (λ y. next another (if_statement y)) x (t ∷ us) ws f d le (m another) in
          let k = kind_here (keyword keywords.If) t g.0 us g.1 g.2 in
          let n = at_first (keyword keywords.If) t g.0 us g.1 (λ u xs. Means ed B (behind_if l (λ y. next another (if_statement y)) u) xs f) g.2 g.3 in
          to_if (ap before_if k) (after_same ed B (keyword keywords.If) t (Take (l + 1) (behind_if l (λ i. next another (if_statement i)) t)) At_for us f k
          (omega (arith, le, if_height_positive x), n))
      stmt_forth (for_statement p i c n x) ws b d le m =
          let g = for_forth ed B l (next another) p i c n x (t ∷ us) ws f d le (m another) in
          let k = kind_here (keyword keywords.For) t g.0 us g.1 g.2 in
          let y = at_first (keyword keywords.For) t g.0 us g.1 (λ u xs. Means ed B (behind_for l (next another) u) xs f) g.2 g.4 in
          to_for (ap before_for k) (after_same ed B (keyword keywords.For) t (Take (l + 1) (behind_for l (next another) t)) At_switch us f k (g.3, y))
      stmt_forth (range_statement p n e x) ws b d le m =
          let g = for_range_forth ed B l (next another) p n e x (t ∷ us) ws f d le (m another) in
          let k = kind_here (keyword keywords.For) t g.0 us g.1 g.2 in
          let y = at_first (keyword keywords.For) t g.0 us g.1 (λ u xs. Means ed B (behind_for l (next another) u) xs f) g.2 g.4 in
          to_for (ap before_for k) (after_same ed B (keyword keywords.For) t (Take (l + 1) (behind_for l (next another) t)) At_switch us f k (g.3, y))
      stmt_forth (switch_statement p i x cs) ws b d le m =
          let g = switch_forth ed B l (next another) p i x cs (t ∷ us) ws f d le (m another) in
          let k = kind_here (keyword keywords.Switch) t g.0 us g.1 g.2 in
          let y = at_first (keyword keywords.Switch) t g.0 us g.1 (λ u xs. Means ed B (behind_switch l (next another) u) xs f) g.2 g.3 in
          to_switch (ap before_switch k) (after_same ed B (keyword keywords.Switch) t (Take l (behind_switch l (next another) t)) At_expr us f k
          (omega (arith, le), y))

    -- it stays good
    line : EndsStmt next → (x : Expected) (s : Statement) (k : TokenKind) → begins (next x s) k ≡ true → ends_line k ≡ true
    line ends x s k b = end_as k (ends x s k b) (λ j. ends_line j ≡ true) refl refl

    return_good : l ≤ B → ((x : Expected) (s : Statement) → l + stmt_height s ≤ B + 1 → Good ed B (next x s)) → EndsStmt next →
        Good ed B (behind_return l (next another) t)
    return_good low good ends =
        let none = good another (return t.place no_exprs) (omega (arith, low)) in
        let some : Okay ed B (values ed B false (l + 1) an_operand (λ es. next another (return t.place es))) =
        values_okay ed B false (l + 1) an_operand (λ es. next another (return t.place es)) (λ es fit. good another (return t.place es) (omega (arith, fit)))
        (λ es. by_closing (begins (next another (return t.place es)) comma) (same comma comma)
        (λ b. end_as comma (ends another (return t.place es) comma b) (λ j. same comma j ≡ false) refl refl) refl)
        (λ es k b. end_as k (ends another (return t.place es) k b) (Closes false) (refl, refl) (refl, refl)) in (
          inr none.0,
          (
            some.0,
            some.1,
            none.1,
            (λ k e. by_closing (begins (next another (return t.place no_exprs)) k) (begins_expr k || is_left_out_at an_operand k)
                (λ b. end_as k (ends another (return t.place no_exprs) k b) (λ j. (begins_expr j || is_left_out_at an_operand j) ≡ false) refl refl) e),
          ),
        )

    lefts_okay : ((x : Expected) (s : Statement) → l + stmt_height s ≤ B + 1 → Good ed B (next x s)) → EndsStmt next → Okay ed B (expr 5 false (l + 1) a_statement Lefts)
    lefts_okay good ends =
        left_okay ed B in_list false (l + 1) (λ s. next another (simple (simple_place s) s))
        (λ a. next another (simple (simple_place (call_statement a)) (call_statement a)))
        (λ n a. next another (simple (simple_place (call_statement a)) (call_statement a))) a_statement
        (λ s fit. good another (simple (simple_place s) s) (omega (arith, fit)))
        (λ s k b. end_as k (ends another (simple (simple_place s) s) k b) (λ j. (continues j ≡ false) × (false ≡ true → same opening_brace j ≡ false)
        × Closes false j)
        (refl, (λ _. refl), (refl, refl)) (refl, (λ _. refl), (refl, refl)))
        (λ never. absurd (false_true never)) (λ never. absurd (false_true never)) (λ never. absurd (false_true never))

    stmt_kept : ((x : Expected) (s : Statement) → l + stmt_height s ≤ B + 1 → Good ed B (next x s)) → EndsStmt next → Kept ed B At_const
    stmt_kept good ends =
        kept_cond ed B (same (keyword keywords.Const) t.kind) (Take l (behind_const (l + 1) (λ d. next another (declaration t.place d)) t)) At_var
        (λ _ need. behind_const_good ed B (l + 1) (λ d. next another (declaration t.place d)) t (omega (arith, need))
        (λ d fit. good another (declaration t.place d) (omega (arith, fit))) (λ d k b. line ends another (declaration t.place d) k b))
        (λ _.
        kept_cond ed B (same (keyword keywords.Var) t.kind) (Take l (behind_var (l + 1) (λ d. next another (declaration t.place d)) t)) At_return
        (λ _ need. behind_var_good ed B (l + 1) (λ d. next another (declaration t.place d)) t (omega (arith, need))
        (λ d fit. good another (declaration t.place d) (omega (arith, fit))) (λ d k b. line ends another (declaration t.place d) k b))
        (λ _.
        kept_cond ed B (same (keyword keywords.Return) t.kind) (Take l (behind_return l (next another) t)) At_break
        (λ _ need. return_good need good ends)
        (λ _.
        kept_cond ed B (same (keyword keywords.Break) t.kind) (Take l (next behind_a_jump (break t.place))) At_continue
        (λ _ need. good behind_a_jump (break t.place) (omega (arith, need)))
        (λ _.
        kept_cond ed B (same (keyword keywords.Continue) t.kind) (Take l (next behind_a_jump (continue t.place))) At_fallthrough
        (λ _ need. good behind_a_jump (continue t.place) (omega (arith, need)))
        (λ _.
        kept_cond ed B (same (keyword keywords.Fallthrough) t.kind) (Take l (next another (fallthrough t.place))) At_block
        (λ _ need. good another (fallthrough t.place) (omega (arith, need)))
        (λ _.
        kept_cond ed B (same opening_brace t.kind) (Take (l + 1) (open_block (l + 1) (λ b. next another (block_statement b)) t)) At_if
        (λ _ need. open_block_good ed B (l + 1) (λ b. next another (block_statement b)) t need (λ b fit. good another (block_statement b) (omega (arith, fit))))
        (λ _.
        kept_cond ed B (same (keyword keywords.If) t.kind) (Take (l + 1) (behind_if l (λ i. next another (if_statement i)) t)) At_for
        (λ _ need. if_good ed B l (λ i. next another (if_statement i)) t need (λ i fit. good another (if_statement i) fit)
        (λ i. by_closing (begins (next another (if_statement i)) (keyword keywords.Else)) true
        (λ b. absurd (false_true (ends another (if_statement i) (keyword keywords.Else) b))) refl))
        (λ _.
        kept_cond ed B (same (keyword keywords.For) t.kind) (Take (l + 1) (behind_for l (next another) t)) At_switch
        (λ _ need. for_good ed B l (next another) t need (good another))
        (λ _.
        kept_cond ed B (same (keyword keywords.Switch) t.kind) (Take l (behind_switch l (next another) t)) At_expr
        (λ _ need. switch_good ed B l (next another) t need (good another))
        (λ _.
        on_expr_kept ed B 5 false (l + 1) a_statement Lefts t (lefts_okay good ends)))))))))))

  pub statement_known : OnStmt ed B
  statement_known =
      record {
        back = λ l next t us f low a. const_back_on l next t us f a;
        forth = λ l next s t us ws f b d le m. stmt_forth l next t us f s ws b d le m;
        kept = λ l next t low good ends. stmt_kept l next t good ends;
      }
