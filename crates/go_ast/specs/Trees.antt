-- Syntax trees as values: what they hold, and not where it lies in memory. The place of a node is that of its first
-- token.
use Rattle.std.specs.Prelude.{ℕ, List, [], ◌∷◌, Option}
use Rattle.go_text.specs.declared.place.Place.{Place}
pub use Rattle.go_ast.specs.declared.expression.UnaryOperator.{UnaryOperator}
pub use Rattle.go_ast.specs.declared.expression.UnaryOperator.TheVariants.{Positive as positive, Negative as negative, Negation as negation, Complement as complement}
pub use Rattle.go_ast.specs.declared.expression.BinaryOperator.{BinaryOperator}
pub use Rattle.go_ast.specs.declared.expression.BinaryOperator.TheVariants.{Multiply as multiply, Divide as divide, Remainder as remainder, ShiftLeft as shift_left, ShiftRight as shift_right, BitAnd as bit_and, AndNot as and_not, Add as add, Subtract as subtract, BitOr as bit_or, BitXor as bit_xor, Equal as equal, NotEqual as not_equal, Less as less, LessOrEqual as less_or_equal, Greater as greater, GreaterOrEqual as greater_or_equal, LogicalAnd as logical_and, LogicalOr as logical_or}

-- a name, where it is written
pub record Name : Type 0 where
  pub text : List ℕ
  pub place : Place

mutual
  pub data TypeExpr : Type 0 where
    -- a name, and a name of a package's
    named : Place → Name → TypeExpr
    qualified : Place → Name → Name → TypeExpr
    array : Place → Expression → TypeExpr → TypeExpr
    slice : Place → TypeExpr → TypeExpr
    struct : Place → FieldDecls → TypeExpr

  -- names of one type, and others behind them
  pub data FieldDecls : Type 0 where
    no_fields : FieldDecls
    field : List Name → TypeExpr → FieldDecls → FieldDecls

  pub data Expression : Type 0 where
    -- a name and an integer literal have their text, a rune and a string literal what they mean
    name : Place → List ℕ → Expression
    integer : Place → List ℕ → Expression
    rune : Place → ℕ → Expression
    string : Place → List ℕ → Expression
    parenthesized : Place → Expression → Expression
    -- an array or a struct of a type: the type, the place of the opening brace, and the elements
    composite_lit : Place → TypeExpr → Place → Elements → Expression
    conversion : Place → TypeExpr → Expression → Expression
    selector : Place → Expression → Name → Expression
    index : Place → Expression → Expression → Expression
    -- a part of an operand, between two bounds
    cut : Place → Expression → Bound → Bound → Expression
    call : Place → Expression → ExpressionList → Expression
    -- a type as a call's first operand
    type_operand : Place → TypeExpr → Expression
    unary : Place → UnaryOperator → Expression → Expression
    binary : Place → BinaryOperator → Expression → Expression → Expression

  pub data Bound : Type 0 where
    no_bound : Bound
    bound : Expression → Bound

  pub data ExpressionList : Type 0 where
    no_exprs : ExpressionList
    some_exprs : Expression → ExpressionList → ExpressionList

  -- elements of a literal, each with a key or none
  pub data Elements : Type 0 where
    no_elements : Elements
    element : Option Name → Element → Elements → Elements

  -- an expression, or the elements of a literal that leaves out its type
  pub data Element : Type 0 where
    expression_element : Expression → Element
    value_element : Place → Elements → Element

-- Exprs "=" Exprs and the like; `call_statement` is a call that stands as a statement
pub data Simple : Type 0 where
  call_statement : Expression → Simple
  increment : Expression → Simple
  decrement : Expression → Simple
  assignment : ExpressionList → ExpressionList → Simple
  operator_assignment : BinaryOperator → Expression → Expression → Simple
  short_var_decl : List Name → ExpressionList → Simple

pub record ConstSpec : Type 0 where
  pub names : List Name
  pub type : Option TypeExpr
  pub values : ExpressionList

pub record VarSpec : Type 0 where
  pub names : List Name
  pub type : Option TypeExpr
  pub values : ExpressionList

pub record TypeSpec : Type 0 where
  pub name : Name
  pub type : TypeExpr

-- constants, variables and types, each alone or as a group
pub data Decl : Type 0 where
  constants : Place → List ConstSpec → Decl
  variables : Place → List VarSpec → Decl
  types : Place → List TypeSpec → Decl

mutual
  pub data Statement : Type 0 where
    empty : Place → Statement
    declaration : Place → Decl → Statement
    simple : Place → Simple → Statement
    return : Place → ExpressionList → Statement
    break : Place → Statement
    continue : Place → Statement
    fallthrough : Place → Statement
    block_statement : Block → Statement
    if_statement : If → Statement
    -- a statement before, a condition and a statement behind each turn, where there are such
    for_statement : Place → Option Simple → Option Expression → Option Simple → Block → Statement
    range_statement : Place → Option Name → Expression → Block → Statement
    switch_statement : Place → Option Simple → Option Expression → Cases → Statement

  -- the places of both braces, and the statements between them
  pub data Block : Type 0 where
    block : Place → StatementList → Place → Block

  pub data If : Type 0 where
    conditional : Place → Option Simple → Expression → Block → Else → If

  pub data Else : Type 0 where
    no_else : Else
    else_block : Block → Else
    else_if : If → Else

  pub data StatementList : Type 0 where
    no_stmts : StatementList
    some_stmts : Statement → StatementList → StatementList

  -- a case's values, or none for the default, and its statements
  pub data Cases : Type 0 where
    no_clauses : Cases
    clause : Place → Option ExpressionList → StatementList → Cases → Cases

pub record Parameter : Type 0 where
  pub names : List Name
  pub type : TypeExpr

pub record FunctionDecl : Type 0 where
  pub place : Place
  pub name : Name
  pub parameters : List Parameter
  pub results : List TypeExpr
  pub body : Block

-- what a file declares
pub data TopLevel : Type 0 where
  declared : Decl → TopLevel
  function : FunctionDecl → TopLevel

-- an import: the place of its first token, the name that it gives, the path, and the place of the path's literal
pub record ImportSpec : Type 0 where
  pub place : Place
  pub name : Option Name
  pub path : List ℕ
  pub path_place : Place

-- a source file: the name in its package clause, and what it imports and declares, in order
pub record File : Type 0 where
  pub «package» : Name
  pub imports : List ImportSpec
  pub declarations : List TopLevel

-- the place of an expression's first token
abbrev pub place_of : Expression → Place
place_of (name p text) = p
place_of (integer p text) = p
place_of (rune p value) = p
place_of (string p value) = p
place_of (parenthesized p e) = p
place_of (composite_lit p type q es) = p
place_of (conversion p type e) = p
place_of (selector p e n) = p
place_of (index p e i) = p
place_of (cut p e a b) = p
place_of (call p f es) = p
place_of (type_operand p t) = p
place_of (unary p op e) = p
place_of (binary p op a b) = p

-- the place of some expressions' first token, and the place of their own where there are none
abbrev pub first_place : Place → ExpressionList → Place
first_place p no_exprs = p
first_place p (some_exprs e es) = place_of e

-- lists as trees of their own
abbrev pub pack : List Expression → ExpressionList
pack [] = no_exprs
pack (e ∷ es) = some_exprs e (pack es)

abbrev pub pack_elements : List (Option Name × Element) → Elements
pack_elements [] = no_elements
pack_elements (e ∷ es) = element e.0 e.1 (pack_elements es)

abbrev pub pack_fields : List (List Name × TypeExpr) → FieldDecls
pack_fields [] = no_fields
pack_fields (f ∷ fs) = field f.0 f.1 (pack_fields fs)

abbrev pub pack_statements : List Statement → StatementList
pack_statements [] = no_stmts
pack_statements (s ∷ ss) = some_stmts s (pack_statements ss)
