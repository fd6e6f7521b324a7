-- Typed trees as values: what a checked package holds, with names resolved, constants folded and types written out. They have no
-- places and no parentheses: a checked package has no faults to report.
use Rattle.std.specs.Prelude.{ℕ, Bool, List, [], ◌∷◌, Option}
use Rattle.go_text.specs.declared.edition.Edition.{Edition}
use Rattle.go_text.specs.declared.place.Place.{Place}
use Rattle.go_const.specs.declared.constant.Const.{Const}
use Rattle.go_const.specs.declared.operator.UnaryOperator.{UnaryOperator}
use Rattle.go_types.specs.Types.{Type'}
pub use Rattle.go_typed.specs.declared.expression.Operator.{Operator}
pub use Rattle.go_symbol.specs.Symbols.{Symbol}
pub use Rattle.go_typed.specs.declared.expression.Operator.TheVariants.{Arithmetic as arithmetic, Shift as shift, Comparison as comparison}

mutual
  -- an expression, with its type first
  pub data Expr : Type 0 where
    constant : Type' → Const → Expr
    -- a local variable by its number, which counts through the function from the parameters on; a package's variable
    local : Type' → ℕ → Expr
    global : Type' → Symbol → Expr
    -- the field of that number; an element of an array or a slice, or a byte of a string; the length of a slice or a string
    field : Type' → Expr → ℕ → Expr
    index : Type' → Expr → Expr → Expr
    length : Type' → Expr → Expr
    -- the capacity of a slice; a part of a slice or a string, from one bound to another or to the length
    capacity : Type' → Expr → Expr
    cut : Type' → Expr → Expr → Perhaps → Expr
    -- a slice that is made with a length, and a capacity or as much; a slice with elements appended, which in a literal stand alone
    make : Type' → Expr → Perhaps → Expr
    append : Type' → Perhaps → Exprs → Expr
    unary : Type' → UnaryOperator → Expr → Expr
    binary : Type' → Operator → Expr → Expr → Expr
    both : Type' → Expr → Expr → Expr
    either : Type' → Expr → Expr → Expr
    conversion : Type' → Expr → Expr
    -- an array or a struct: some of its parts, the others are zero
    literal : Type' → Parts → Expr
    -- a call that has one result
    call : Type' → Symbol → Exprs → Expr

  pub data Exprs : Type 0 where
    no_exprs : Exprs
    some_exprs : Expr → Exprs → Exprs

  -- an operand that may be left out
  pub data Perhaps : Type 0 where
    absent : Perhaps
    present : Expr → Perhaps

  -- parts of a literal by their numbers
  pub data Parts : Type 0 where
    no_parts : Parts
    part : ℕ → Expr → Parts → Parts

-- the way from a variable, or from the elements of a slice, to the part of it that is assigned, outermost first
pub data Steps : Type 0 where
  here : Steps
  to_field : ℕ → Steps → Steps
  to_element : Expr → Steps → Steps

-- a left side: the blank one, or a part of a local or of a package's variable, whose type stands first
pub data Left : Type 0 where
  blank : Left
  of_local : Type' → ℕ → Steps → Left
  of_global : Type' → Symbol → Steps → Left
  -- a part of a slice that is a value, whose type stands first
  of_slice : Type' → Expr → Steps → Left

-- values that are due: each by an expression, or all by one call, whose results have these types; or the zero values of these types
pub data ValueSource : Type 0 where
  each : Exprs → ValueSource
  results : List Type' → Symbol → Exprs → ValueSource
  zeros : List Type' → ValueSource

mutual
  pub data Stmt : Type 0 where
    -- local variables get values, a blank one has no number; without any it is a declaration of constants
    define : List (Option ℕ) → ValueSource → Stmt
    assign : List Left → ValueSource → Stmt
    -- an operator and an assignment to a left side, whose part has that type
    update : Type' → Left → Operator → Expr → Stmt
    -- a call whose results, of these types, are dropped
    run : List Type' → Symbol → Exprs → Stmt
    print : Exprs → Stmt
    panic : Expr → Stmt
    if_statement : Expr → Stmts → Stmts → Stmt
    -- the condition, if there is one, what is done behind each turn, and the body
    for_statement : Option Expr → Stmts → Stmts → Stmt
    -- the variable that counts, if there is one, the type of the range, the range and the body
    range_statement : Option ℕ → Type' → Expr → Stmts → Stmt
    switch_statement : Expr → Clauses → Stmt
    block : Stmts → Stmt
    break : Stmt
    continue : Stmt
    return : ValueSource → Stmt

  pub data Stmts : Type 0 where
    no_stmts : Stmts
    some_stmts : Stmt → Stmts → Stmts

  -- a clause: its cases, or none for the default, its statements, and whether it falls through
  pub data Clauses : Type 0 where
    no_clauses : Clauses
    clause : Option Exprs → Stmts → Bool → Clauses → Clauses

-- a function: its parameters are its first local variables, `locals` has the types of the others
pub record Function : Type 0 where
  pub name : List ℕ
  pub parameters : List Type'
  pub results : List Type'
  pub locals : List Type'
  pub body : Stmts

-- A package's variable: its name, its type, and the file and the place that it is declared at.
pub record Variable : Type 0 where
  pub name : List ℕ
  pub of : Type'
  pub file : List ℕ
  pub place : Place

-- Variables of a package that get values together, a blank one has no name; the file that they stand in and the place of the first; and the
-- package's variables and functions that stand in the values.
pub record Initialization : Type 0 where
  pub variables : List (Option (List ℕ))
  pub file : List ℕ
  pub place : Place
  pub source : ValueSource
  pub references : List (List ℕ)

-- A package: its path, its name, the edition of its files, and what it declares, in declaration order. Each function stands under `uses` too, with
-- the package's variables and functions that stand in its text.
pub record Package : Type 0 where
  pub path : List ℕ
  pub name : List ℕ
  pub edition : Edition
  pub constants : List (List ℕ × (Type' × Const))
  pub types : List (List ℕ × Type')
  pub variables : List Variable
  pub initializations : List Initialization
  pub uses : List (List ℕ × List (List ℕ))
  pub functions : List Function

-- the type of an expression
abbrev pub expr_type : Expr → Type'
expr_type (constant t c) = t
expr_type (local t n) = t
expr_type (global t s) = t
expr_type (field t e n) = t
expr_type (index t e i) = t
expr_type (length t e) = t
expr_type (capacity t e) = t
expr_type (cut t e low high) = t
expr_type (make t n c) = t
expr_type (append t e es) = t
expr_type (unary t op e) = t
expr_type (binary t op a b) = t
expr_type (both t a b) = t
expr_type (either t a b) = t
expr_type (conversion t e) = t
expr_type (literal t parts) = t
expr_type (call t s es) = t

-- lists as trees of their own
abbrev pub pack_exprs : List Expr → Exprs
pack_exprs [] = no_exprs
pack_exprs (e ∷ es) = some_exprs e (pack_exprs es)

abbrev pub pack_parts : List (ℕ × Expr) → Parts
pack_parts [] = no_parts
pack_parts (p ∷ ps) = part p.0 p.1 (pack_parts ps)

abbrev pub pack_stmts : List Stmt → Stmts
pack_stmts [] = no_stmts
pack_stmts (s ∷ ss) = some_stmts s (pack_stmts ss)

abbrev pub pack_clauses : List (Option Exprs × (Stmts × Bool)) → Clauses
pack_clauses [] = no_clauses
pack_clauses (c ∷ cs) = clause c.0 (c.1).0 (c.1).1 (pack_clauses cs)
