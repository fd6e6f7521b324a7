-- Left sides of assignments.
use Rattle.std.proofs.Common.{◌≡◌, true, false, is_some, inl, inr, refl, ◌∙◌}
use Rattle.std.proofs.lemmas.Bool.{cases_Bool}
use Rattle.go_types.specs.Types.{Type'}
use Rattle.go_typed.specs.Trees.{Expr, constant, local, global, field, index, length, capacity, cut, make, append, unary, binary, both, either, conversion, literal, call, expr_type, Steps, here, to_field, to_element}
use Rattle.go_ast.specs.Trees as trees
use Rattle.go_expr.specs.Rules.{slice_element}
use Rattle.go_stmt.specs.Rules.{is_array, left_to, is_left}
use Rattle.go_stmt.specs.Scopes.{StatementEnv, Context}
use Rattle.go_stmt.specs.Statements.{blank_left, left_at, lefts_at}

-- whether an expression is one doesn't depend on the steps behind it
pub same_left : (e : Expr) (ss tts : Steps) → is_some (left_to ss e) ≡ is_some (left_to tts e)
same_left (constant t c) ss tts = refl
same_left (local t n) ss tts = refl
same_left (global t s) ss tts = refl
same_left (field t e n) ss tts = same_left e (to_field n ss) (to_field n tts)
same_left (index t e i) ss tts = elim (cases_Bool (is_array (expr_type e))) [
  | inl array ↦ rw array (same_left e (to_element i ss) (to_element i tts))
  | inr other ↦ rw other (elim (cases_Bool (is_some (slice_element (expr_type e)))) [ inl slice ↦ rw slice refl | inr none ↦ rw none refl ])
]
same_left (length t e) ss tts = refl
same_left (capacity t e) ss tts = refl
same_left (cut t e low high) ss tts = refl
same_left (make t n o) ss tts = refl
same_left (append t o es) ss tts = refl
same_left (unary t op e) ss tts = refl
same_left (binary t op a b) ss tts = refl
same_left (both t a b) ss tts = refl
same_left (either t a b) ss tts = refl
same_left (conversion t e) ss tts = refl
same_left (literal t parts) ss tts = refl
same_left (call t s es) ss tts = refl

pub element_left : (t : Type') (e i : Expr) → is_array (expr_type e) ≡ true → is_left (index t e i) ≡ is_left e
element_left t e i array = rw array (same_left e (to_element i here) here)

pub slice_left : (t : Type') (e i : Expr) → is_array (expr_type e) ≡ false → is_left (index t e i) ≡ is_some (slice_element (expr_type e))
slice_left t e i other = rw other (elim (cases_Bool (is_some (slice_element (expr_type e)))) [ inl slice ↦ rw slice refl | inr none ↦ rw none refl ])

-- left sides declare nothing
left_kept : (c : Context) (e : trees.Expression) (env : StatementEnv) → (left_at c e env).after ≡ env
left_kept c e env = elim (cases_Bool (blank_left e)) [ inl blank ↦ rw blank refl | inr other ↦ rw other refl ]

pub lefts_kept : (c : Context) (es : trees.ExpressionList) (env : StatementEnv) → (lefts_at c es env).after ≡ env
lefts_kept c trees.no_exprs env = refl
lefts_kept c (trees.some_exprs e es) env = lefts_kept c es (left_at c e env).after ∙ left_kept c e env
