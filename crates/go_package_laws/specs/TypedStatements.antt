-- How a statement's typed tree follows its form: no statement is left out, and none is added.
use Rattle.std.specs.Prelude.{◌≡◌, ℕ, suc, ◌&&◌, not, List, [], ◌∷◌, ◌++◌, length, map, Option, None, Some, is_some}
use Rattle.std.specs.List.{AllZip}
use Rattle.go_ast.specs.Trees.{ExpressionList, no_exprs, some_exprs, Simple, call_statement, increment, decrement, assignment, operator_assignment, short_var_decl, VarSpec, Decl, constants, variables, types, Statement, empty, declaration, simple, return, break, continue, fallthrough, block_statement, if_statement, for_statement, range_statement, switch_statement, Block, block, If, conditional, Else, no_else, else_block, else_if, StatementList, no_stmts, some_stmts, Cases, no_clauses, clause}
use Rattle.go_typed.specs.Trees as typed
use Rattle.go_typed.specs.Trees.{pack_stmts}
use Rattle.go_stmt.specs.Statements.{leads_on, has_no_clauses}

abbrev pub expression_count : ExpressionList → ℕ
expression_count no_exprs = 0
expression_count (some_exprs e es) = suc (expression_count es)

abbrev pub typed_count : typed.Exprs → ℕ
typed_count typed.no_exprs = 0
typed_count (typed.some_exprs e es) = suc (typed_count es)

-- a value for each expression, or all results of the one that is a call; without expressions zero values
abbrev pub AreTypedValues : ExpressionList → typed.ValueSource → Type 0
AreTypedValues es (typed.each xs) = typed_count xs ≡ expression_count es
AreTypedValues es (typed.results ts f xs) = expression_count es ≡ 1
AreTypedValues es (typed.zeros ts) = expression_count es ≡ 0

-- a call, of whatever function
abbrev pub IsTypedCall : typed.Stmt → Type 0
IsTypedCall t = elim t [ typed.run ts f es ↦ Unit {0} | typed.print es ↦ Unit {0} | typed.panic e ↦ Unit {0} | _ ↦ ⊥ ]

abbrev pub IsTypedUpdate : typed.Stmt → Type 0
IsTypedUpdate t = elim t [ typed.update of left op e ↦ Unit {0} | _ ↦ ⊥ ]

-- so many variables get these values
abbrev pub IsTypedDefinition : ℕ → ExpressionList → typed.Stmt → Type 0
IsTypedDefinition n es t = (numbers : List (Option ℕ)) × (source : typed.ValueSource) × (t ≡ typed.define numbers source) × (length numbers ≡ n) × AreTypedValues es source

abbrev pub IsTypedSimple : Simple → typed.Stmt → Type 0
IsTypedSimple (call_statement e) t = IsTypedCall t
IsTypedSimple (increment e) t = IsTypedUpdate t
IsTypedSimple (decrement e) t = IsTypedUpdate t
IsTypedSimple (operator_assignment op l r) t = IsTypedUpdate t
IsTypedSimple (assignment ls rs) t =
    (lefts : List typed.Left) × (source : typed.ValueSource) × (t ≡ typed.assign lefts source) × (length lefts ≡ expression_count ls) × AreTypedValues rs source
IsTypedSimple (short_var_decl ns es) t = IsTypedDefinition (length ns) es t

-- one that may be missing
abbrev pub IsTypedOptional : Option Simple → List typed.Stmt → Type 0
IsTypedOptional None ts = ts ≡ []
IsTypedOptional (Some s) ts = (t : typed.Stmt) × (ts ≡ t ∷ []) × IsTypedSimple s t

-- a definition for each specification; constants are folded where they stand
abbrev pub IsTypedDeclaration : Decl → List typed.Stmt → Type 0
IsTypedDeclaration (constants p ss) ts = ts ≡ map (λ s. typed.define [] (typed.each typed.no_exprs)) ss
IsTypedDeclaration (variables p ss) ts = AllZip (λ (s : VarSpec) t. IsTypedDefinition (length s.names) s.values t) ss ts
IsTypedDeclaration (types p ss) ts = ⊥

-- the values of a case, and a default without any
abbrev pub AreTypedCases : Option ExpressionList → Option typed.Exprs → Type 0
AreTypedCases None cases = cases ≡ None
AreTypedCases (Some es) cases = (xs : typed.Exprs) × (cases ≡ Some xs) × (typed_count xs ≡ expression_count es)

abbrev mutual
  pub IsTyped : Statement → List typed.Stmt → Type 0
  IsTyped (empty p) ts = ts ≡ []
  IsTyped (declaration p d) ts = (inner : List typed.Stmt) × (ts ≡ typed.block (pack_stmts inner) ∷ []) × IsTypedDeclaration d inner
  IsTyped (simple p s) ts = (t : typed.Stmt) × (ts ≡ t ∷ []) × IsTypedSimple s t
  IsTyped (return p es) ts = (source : typed.ValueSource) × (ts ≡ typed.return source ∷ []) × AreTypedValues es source
  IsTyped (break p) ts = ts ≡ typed.break ∷ []
  IsTyped (continue p) ts = ts ≡ typed.continue ∷ []
  -- its clause says that it falls through
  IsTyped (fallthrough p) ts = ts ≡ []
  IsTyped (block_statement b) ts = (inner : List typed.Stmt) × (ts ≡ typed.block (pack_stmts inner) ∷ []) × IsTypedBlock b inner
  IsTyped (if_statement i) ts = IsTypedIf i ts
  IsTyped (for_statement p before e post b) ts =
      (front behind body : List typed.Stmt) × (condition : Option typed.Expr)
      × (ts ≡ front ++ typed.for_statement condition (pack_stmts behind) (pack_stmts body) ∷ [])
      × IsTypedOptional before front × (is_some condition ≡ is_some e) × IsTypedOptional post behind × IsTypedBlock b body
  IsTyped (range_statement p n e b) ts =
      (body : List typed.Stmt) × (number : Option ℕ) × (operand : typed.Expr)
      × (ts ≡ typed.range_statement number (typed.expr_type operand) operand (pack_stmts body) ∷ []) × IsTypedBlock b body
  IsTyped (switch_statement p before tag cs) ts =
      (front : List typed.Stmt) × (value : typed.Expr) × (clauses : typed.Clauses)
      × (ts ≡ front ++ typed.switch_statement value clauses ∷ []) × IsTypedOptional before front × AreTypedClauses cs clauses

  pub IsTypedBlock : Block → List typed.Stmt → Type 0
  IsTypedBlock (block p ss q) ts = FollowStatements ss ts

  pub IsTypedIf : If → List typed.Stmt → Type 0
  IsTypedIf (conditional p before e b other) ts =
      (front body rest : List typed.Stmt) × (condition : typed.Expr)
      × (ts ≡ front ++ typed.if_statement condition (pack_stmts body) (pack_stmts rest) ∷ [])
      × IsTypedOptional before front × IsTypedBlock b body × IsTypedElse other rest

  pub IsTypedElse : Else → List typed.Stmt → Type 0
  IsTypedElse no_else ts = ts ≡ []
  IsTypedElse (else_block b) ts = IsTypedBlock b ts
  IsTypedElse (else_if i) ts = IsTypedIf i ts

  -- one statement after another
  pub FollowStatements : StatementList → List typed.Stmt → Type 0
  FollowStatements no_stmts ts = ts ≡ []
  FollowStatements (some_stmts s ss) ts = (first rest : List typed.Stmt) × (ts ≡ first ++ rest) × IsTyped s first × FollowStatements ss rest

  pub AreTypedClauses : Cases → typed.Clauses → Type 0
  AreTypedClauses no_clauses cs = cs ≡ typed.no_clauses
  AreTypedClauses (clause p es ss rest) cs =
      (cases : Option typed.Exprs) × (body : List typed.Stmt) × (others : typed.Clauses)
      × (cs ≡ typed.clause cases (pack_stmts body) (leads_on ss && not (has_no_clauses rest)) others)
      × AreTypedCases es cases × FollowStatements ss body × AreTypedClauses rest others

-- the statements of a function's body
abbrev pub IsTypedBody : Block → typed.Stmts → Type 0
IsTypedBody b ss = (body : List typed.Stmt) × (ss ≡ pack_stmts body) × IsTypedBlock b body
