-- What stands in the brackets behind an operand.
use Rattle.std.specs.Prelude.{ℕ, max}
use Rattle.go_ast.specs.Trees.{Expression, index, cut, place_of}
use Rattle.go_ast.specs.Views.{expr_of, bound_of}
use Rattle.go_pexpr.specs.declared.brackets.Inside.{Inside}
use Rattle.go_pexpr.specs.declared.brackets.Inside.TheVariants.{At, Part}

-- what it makes of the operand
abbrev pub inside_of : Expression → Inside → Expression
inside_of e (At i) = index (place_of e) e (expr_of i.expr)
inside_of e (Part a b) = cut (place_of e) e (bound_of a.bound) (bound_of b.bound)

-- how many levels it has
abbrev pub inside_tall : Inside → ℕ
inside_tall (At i) = i.height
inside_tall (Part a b) = max a.height b.height
