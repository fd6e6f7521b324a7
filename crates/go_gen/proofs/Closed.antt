-- Loops and cases, put before a code piece by piece.
use Rattle.std.proofs.Common.{◌≡◌, ℕ, ◌+◌, ◌-◌, ◌<◌, List, ◌∷◌, ◌++◌, length, drop, get_or, sym, ap, ◌∙◌, append_assoc, length-append, arith}
use Rattle.std.proofs.lemmas.List.{drop_more}
use Rattle.std.proofs.lemmas.List.Sums.{sum_by-cons}
use Rattle.std.specs.Prelude.{sum}
use Rattle.go_types.specs.Types.{Type'}
use Rattle.go_types.specs.Relations.{underlying}
use Rattle.go_types.specs.Sizes.{cells}
use Rattle.go_const.specs.declared.operator.ComparisonOperator.TheVariants.{Equal}
use Rattle.go_code.specs.declared.instr.Instr.{Instr}
use Rattle.go_code.specs.declared.instr.Instr.TheVariants.{Jump as Go_to}
use Rattle.go_code.specs.declared.instr.JumpInstr.TheVariants.{Jump, JumpIf, LoopIf}
use Rattle.go_symbol.specs.Symbols as symbols
use Rattle.go_meaning.specs.Choices.{binary_operators}
use Rattle.go_typed.specs.declared.expression.Operator.TheVariants.{Comparison as comparison}
use Rattle.go_typed.specs.declared.expression.TypedExpr.{TypedExpr}
use Rattle.go_typed.specs.declared.statement.TypedClause.{TypedClause}
use Rattle.go_typed.specs.Views.{as_expr, as_exprs, cases_of, clauses_in}
use Rattle.go_gen.specs.Translation.{Places, expr_temps, case_temps, cases_temps, operators_code, load, expr_code, cases_code, case_code, tests_code}

abbrev Code : Type 0
Code = List (Instr symbols.Symbol)

pub closed : (inner tc rest old c1 new : Code) (x : Instr symbols.Symbol) (begin end test : ℕ) → old ≡ inner ++ (tc ++ x ∷ rest) → length rest ≡ end → length tc + 1 + end ≡ test → begin ≡ length old → ((front back : Code) (x : Instr symbols.Symbol) → old ≡ front ++ x ∷ back → length back ≡ end → c1 ≡ front ++ Go_to (LoopIf (begin - end)) ∷ back) → new ≡ Go_to (Jump (begin - test)) ∷ c1 → new ≡ Go_to (Jump (length inner)) ∷ (inner ++ (tc ++ Go_to (LoopIf (length inner + length tc + 1)) ∷ rest))
closed inner tc rest old c1 new x begin end test is l1 l2 l3 swap h =
    let long : length old ≡ length inner + (length tc + (1 + length rest)) = omega (arith, ap length is, length-append inner (tc ++ x ∷ rest), length-append tc (x ∷ rest)) in
    let k1 : begin - end ≡ length inner + length tc + 1 = omega (arith, long, l1, l3) in
    let k2 : begin - test ≡ length inner = omega (arith, long, l1, l2, l3) in
    let g : c1 ≡ (inner ++ tc) ++ Go_to (LoopIf (begin - end)) ∷ rest = swap (inner ++ tc) rest x (is ∙ sym (append_assoc inner tc (x ∷ rest))) l1 in
    h ∙ ap (λ n. Go_to (Jump n) ∷ c1) k2
    ∙ ap (λ l. Go_to (Jump (length inner)) ∷ l) (g ∙ ap (λ n. (inner ++ tc) ++ Go_to (LoopIf n) ∷ rest) k1 ∙ append_assoc inner tc (Go_to (LoopIf (length inner + length tc + 1)) ∷ rest))

pub cases_step : (p : Places symbols.Symbol) (at : ℕ) (t : Type') (far : ℕ) (es : List TypedExpr) (i : ℕ) (x : TypedExpr) (b0 b1 n end d passed count : ℕ) (j : Instr symbols.Symbol) (old c0 c1 c2 c3 c4 : Code) → drop (i - 1) es ≡ x ∷ drop i es → n ≡ expr_temps (as_expr x) → b1 + n ≡ b0 → c0 ≡ cases_code p at t b0 (as_exprs (drop i es)) far ++ old → end ≡ length old → d + end ≡ length c0 → passed ≡ d + far → c1 ≡ Go_to (JumpIf passed) ∷ c0 → c2 ≡ operators_code (binary_operators (underlying t) (comparison Equal)) ++ c1 → c3 ≡ expr_code p b1 (as_expr x) ++ c2 → count ≡ cells t → j ≡ load at count → c4 ≡ j ∷ c3 → c4 ≡ cases_code p at t b1 (as_exprs (drop (i - 1) es)) far ++ old
cases_step p at t far es i x b0 b1 n end d passed count j old c0 c1 c2 c3 c4 is tm s m0 l1 l2 f m1 m2 m3 ct jl m4 =
    let b : b0 ≡ b1 + expr_temps (as_expr x) = sym s ∙ ap (λ y. b1 + y) tm in
    let rest : Code = cases_code p at t (b1 + expr_temps (as_expr x)) (as_exprs (drop i es)) far in
    let first : Code = expr_code p b1 (as_expr x) in
    let ops : Code = operators_code (binary_operators (underlying t) (comparison Equal)) in
    let g0 : c0 ≡ rest ++ old = m0 ∙ ap (λ y. cases_code p at t y (as_exprs (drop i es)) far ++ old) b in
    let size : passed ≡ length rest + far = omega (arith, f, l1, l2, ap length g0, length-append rest old) in
    let shape : load at (cells t) ∷ (first ++ (ops ++ (Go_to (JumpIf (length rest + far)) ∷ (rest ++ old)))) ≡ cases_code p at t b1 (as_exprs (x ∷ drop i es)) far ++ old = simp append_assoc in
    m4 ∙ ap (λ y. y ∷ c3) (jl ∙ ap (load at) ct)
    ∙ ap (λ l. load at (cells t) ∷ l) (m3 ∙ ap (λ l. first ++ l) (m2 ∙ ap (λ l. ops ++ l) (m1 ∙ ap (λ y. Go_to (JumpIf y) ∷ c0) size ∙ ap (λ l. Go_to (JumpIf (length rest + far)) ∷ l) g0)))
    ∙ shape ∙ ap (λ l. cases_code p at t b1 (as_exprs l) far ++ old) (sym is)

pub tests_step : (p : Places symbols.Symbol) (at : ℕ) (t : Type') (cs : List TypedClause) (sizes : List ℕ) (i : ℕ) (x : TypedClause) (size b0 b1 n before before1 end d d1 far : ℕ) (old c0 c1 : Code) → drop (i - 1) cs ≡ x ∷ drop i cs → drop (i - 1) sizes ≡ size ∷ drop i sizes → n ≡ case_temps (cases_of x.cases) → b1 + n ≡ b0 → before1 + size ≡ before → c0 ≡ tests_code p at t b0 (clauses_in (drop i cs)) (drop i sizes) before ++ old → end ≡ length old → d + end ≡ length c0 → d1 ≡ d + 1 → far ≡ d1 + before1 → c1 ≡ case_code p at t b1 (cases_of x.cases) far ++ c0 → c1 ≡ tests_code p at t b1 (clauses_in (drop (i - 1) cs)) (drop (i - 1) sizes) before1 ++ old
tests_step p at t cs sizes i x size b0 b1 n before before1 end d d1 far old c0 c1 is js tm s q m0 l1 l2 l3 l4 m1 =
    let b : b0 ≡ b1 + case_temps (cases_of x.cases) = sym s ∙ ap (λ y. b1 + y) tm in
    let rest : Code = tests_code p at t (b1 + case_temps (cases_of x.cases)) (clauses_in (drop i cs)) (drop i sizes) (before1 + size) in
    let g0 : c0 ≡ rest ++ old =
    m0 ∙ ap (λ y. tests_code p at t y (clauses_in (drop i cs)) (drop i sizes) before ++ old) b
    ∙ ap (λ y. tests_code p at t (b1 + case_temps (cases_of x.cases)) (clauses_in (drop i cs)) (drop i sizes) y ++ old) (sym q) in
    let f : far ≡ length rest + 1 + before1 = omega (arith, l1, l2, l3, l4, ap length g0, length-append rest old) in
    m1 ∙ ap (λ y. case_code p at t b1 (cases_of x.cases) y ++ c0) f ∙ ap (λ l. case_code p at t b1 (cases_of x.cases) (length rest + 1 + before1) ++ l) g0
    ∙ sym (append_assoc (case_code p at t b1 (cases_of x.cases) (length rest + 1 + before1)) rest old)
    ∙ ap (λ l. tests_code p at t b1 (clauses_in l) (size ∷ drop i sizes) before1 ++ old) (sym is)
    ∙ ap (λ l. tests_code p at t b1 (clauses_in (drop (i - 1) cs)) l before1 ++ old) (sym js)

-- the numbers from the one before on
pub row_value : (xs : List ℕ) (i : ℕ) → i - 1 < length xs → 0 < i → drop (i - 1) xs ≡ get_or xs (i - 1) 0 ∷ drop i xs
row_value xs i lt some =
    let e : i - 1 + 1 ≡ i = omega arith in
    drop_more xs (i - 1) 0 lt ∙ ap (λ n. get_or xs (i - 1) 0 ∷ drop n xs) e

pub tests_left : (cs : List TypedClause) (i : ℕ) (x : TypedClause) (b0 b1 n total : ℕ) → drop (i - 1) cs ≡ x ∷ drop i cs → n ≡ case_temps (cases_of x.cases) → b1 + n ≡ b0 → b0 + cases_temps (clauses_in (drop i cs)) ≡ total → b1 + cases_temps (clauses_in (drop (i - 1) cs)) ≡ total
tests_left cs i x b0 b1 n total is t s h =
    let more : cases_temps (clauses_in (drop (i - 1) cs)) ≡ case_temps (cases_of x.cases) + cases_temps (clauses_in (drop i cs)) = ap (λ l. cases_temps (clauses_in l)) is in
    omega (arith, more, t, s, h)

pub before_left : (sizes : List ℕ) (i size before before1 total : ℕ) → drop (i - 1) sizes ≡ size ∷ drop i sizes → before1 + size ≡ before → before + sum (drop i sizes) ≡ total → before1 + sum (drop (i - 1) sizes) ≡ total
before_left sizes i size before before1 total is s h =
    let more : sum (drop (i - 1) sizes) ≡ size + sum (drop i sizes) = ap sum is ∙ sum_by-cons (λ n. n) size (drop i sizes) in
    omega (arith, more, s, h)
