-- What the functions did that read trees, whatever is due behind them.
use Rattle.std.specs.Prelude.{ℕ, Bool, List, [], ◌∷◌, Result, Option, map}
use Rattle.std.specs.Global.{Vec}
use Rattle.go_text.specs.declared.place.Place.{Place}
use Rattle.go_scan.specs.declared.token.TokenKind.{TokenKind}
use Rattle.go_ast.specs.Expected.{Expected, a_type, another}
use Rattle.go_ast.specs.Grammar.{Lexeme, closing, opening_brace}
use Rattle.go_ast.specs.Machine.{Reader, arguments, elements, expr, list_end, list_start, names, operands, suffixes, token, type}
use Rattle.go_ast.specs.Trees as trees
use Rattle.go_ast.specs.Views.{element_of, expr_of, type_of, value_of}
use Rattle.go_ast.specs.declared.name.Name.{Name}
use Rattle.go_pexpr.specs.declared.build.Arguments.{Arguments}
use Rattle.go_pexpr.specs.declared.build.Elements.{Elements}
use Rattle.go_pexpr.specs.declared.build.Tall.{Tall}
use Rattle.go_pexpr.specs.declared.build.TallElement.{TallElement}
use Rattle.go_pexpr.specs.declared.build.TallType.{TallType}
use Rattle.go_pexpr.specs.declared.parser.Parser.{Parser}
use Rattle.go_pexpr.specs.declared.parser.Refusal.{Refusal}
use Rattle.go_pexpr.specs.Reads.{IsNext, Reads}
use Rattle.go_pexpr.specs.Turns.{behind_last, element_at}

-- an expression
abbrev pub ReadsExpr : ((trees.Expression → Reader) → Reader) → Parser → Result Tall Refusal → Parser → Type 0
ReadsExpr due old result new = (next : trees.Expression → Reader) → Reads (due next) (λ e. next (expr_of e.expr)) old result new

-- expressions
abbrev pub ReadsExprs : ((List trees.Expression → Reader) → Reader) → Parser → Result Arguments Refusal → Parser → Type 0
ReadsExprs due old result new = (next : List trees.Expression → Reader) → Reads (due next) (λ es. next (map expr_of es.items.items)) old result new

-- a type
abbrev pub ReadsType : ((trees.TypeExpr → Reader) → Reader) → Parser → Result TallType Refusal → Parser → Type 0
ReadsType due old result new = (next : trees.TypeExpr → Reader) → Reads (due next) (λ a. next (type_of a.type_expr)) old result new

-- an expression, and the place of a mark in front of it
abbrev pub ReadsPlaced : ((Place → trees.Expression → Reader) → Reader) → Parser → Result (Place × Tall) Refusal → Parser → Type 0
ReadsPlaced due old result new = (next : Place → trees.Expression → Reader) → Reads (due next) (λ r. next r.0 (expr_of r.1.expr)) old result new

-- an expression behind the next token, whatever kind of that is due
abbrev pub ReadsBehindNext : ℕ → ((trees.Expression → Reader) → Reader) → Parser → Result Tall Refusal → Parser → Type 0
ReadsBehindNext need due old result new =
    (k : TokenKind) (x : Expected) (next : trees.Expression → Reader) → IsNext k old → Reads (token k need x (λ _. due next)) (λ e. next (expr_of e.expr)) old result new

-- an operand, in front of its suffixes
abbrev pub ReadsOperand : ℕ → Expected → Parser → Result Tall Refusal → Parser → Type 0
ReadsOperand level x old result new =
    (h : Bool) (next : trees.Expression → Reader) → Reads (expr 0 h level x next) (λ e. suffixes h level (expr_of e.expr) next) old result new

-- the first operand of a call that has some
abbrev pub ReadsFirst : ℕ → Parser → Result Tall Refusal → Parser → Type 0
ReadsFirst level old result new =
    (next : List trees.Expression → Lexeme → Reader) → (IsNext closing old → ⊥)
    → Reads (operands level next) (λ e. list_end (arguments level) another (expr_of e.expr ∷ []) next) old result new

-- names and their type
abbrev pub ReadsField : ℕ → Parser → Result (Vec Name × TallType) Refusal → Parser → Type 0
ReadsField level old result new =
    (next : List trees.Name → trees.TypeExpr → Reader) → Reads (names level (λ ns. type level a_type (next ns))) (λ f. next f.0.items (type_of f.1.type_expr)) old result new

-- an element behind others
abbrev pub ReadsElement : ℕ → Parser → Result TallElement Refusal → Parser → Type 0
ReadsElement level old result new =
    (front : List (Option trees.Name × trees.Element)) (next : List (Option trees.Name × trees.Element) → Lexeme → Reader)
    → Reads (element_at level front next) (λ e. behind_last level front next e.element.key (value_of e.element.value)) old result new

-- elements in braces, and the place of the first brace
abbrev pub ReadsBraced : ℕ → ℕ → Parser → Result (Place × Elements) Refusal → Parser → Type 0
ReadsBraced need level old result new =
    (next : Place → List (Option trees.Name × trees.Element) → Reader)
    → Reads (token opening_brace need another (λ t. list_start (elements level) [] (λ es _. next t.place es))) (λ r. next r.0 (map element_of r.1.items.items)) old result new
