-- Source trees of statements whose string literals are texts, and where nothing is declared behind a turn of a loop, as the grammar has it.
use Rattle.std.specs.Prelude.{List, [], ◌∷◌, Option, Some, None}
use Rattle.go_ast.specs.Trees.{TypeExpr, Expression, ExpressionList, Simple, call_statement, increment, decrement, assignment, operator_assignment, short_var_decl, ConstSpec, VarSpec, Decl, constants, variables, types, Statement, declaration, simple, return, block_statement, if_statement, for_statement, range_statement, switch_statement, Block, block, If, conditional, Else, no_else, else_block, else_if, StatementList, no_stmts, some_stmts, Cases, no_clauses, clause, Parameter, FunctionDecl}
use Rattle.go_package_laws.proofs.Texts.{HasTexts, HaveTexts, TypeHasTexts}

abbrev pub MayHaveTexts : Option Expression → Type 0
MayHaveTexts None = Unit {0}
MayHaveTexts (Some e) = HasTexts e

abbrev pub CasesHaveTexts : Option ExpressionList → Type 0
CasesHaveTexts None = Unit {0}
CasesHaveTexts (Some es) = HaveTexts es

abbrev pub WrittenHasTexts : Option TypeExpr → Type 0
WrittenHasTexts None = Unit {0}
WrittenHasTexts (Some t) = TypeHasTexts t

abbrev pub SimpleHasTexts : Simple → Type 0
SimpleHasTexts (call_statement e) = HasTexts e
SimpleHasTexts (increment e) = HasTexts e
SimpleHasTexts (decrement e) = HasTexts e
SimpleHasTexts (assignment ls rs) = HaveTexts ls × HaveTexts rs
SimpleHasTexts (operator_assignment op l r) = HasTexts l × HasTexts r
SimpleHasTexts (short_var_decl ns es) = HaveTexts es

abbrev pub FirstHasTexts : Option Simple → Type 0
FirstHasTexts None = Unit {0}
FirstHasTexts (Some s) = SimpleHasTexts s

-- https://go.dev/ref/spec#For_clause: the post statement may not declare variables
abbrev pub IsPost : Option Simple → Type 0
IsPost (Some (short_var_decl ns es)) = ⊥
IsPost o = FirstHasTexts o

abbrev pub ConstantsHaveTexts : List ConstSpec → Type 0
ConstantsHaveTexts [] = Unit {0}
ConstantsHaveTexts (s ∷ ss) = WrittenHasTexts s.type × HaveTexts s.values × ConstantsHaveTexts ss

abbrev pub VariablesHaveTexts : List VarSpec → Type 0
VariablesHaveTexts [] = Unit {0}
VariablesHaveTexts (s ∷ ss) = WrittenHasTexts s.type × HaveTexts s.values × VariablesHaveTexts ss

abbrev pub DeclHasTexts : Decl → Type 0
DeclHasTexts (constants p ss) = ConstantsHaveTexts ss
DeclHasTexts (variables p ss) = VariablesHaveTexts ss
DeclHasTexts (types p ss) = Unit {0}

abbrev mutual
  pub StmtsHaveTexts : StatementList → Type 0
  StmtsHaveTexts no_stmts = Unit {0}
  StmtsHaveTexts (some_stmts s ss) = StmtHasTexts s × StmtsHaveTexts ss

  pub StmtHasTexts : Statement → Type 0
  StmtHasTexts (declaration p d) = DeclHasTexts d
  StmtHasTexts (simple p s) = SimpleHasTexts s
  StmtHasTexts (return p es) = HaveTexts es
  StmtHasTexts (block_statement b) = BlockHasTexts b
  StmtHasTexts (if_statement i) = IfHasTexts i
  StmtHasTexts (for_statement p before e post b) = FirstHasTexts before × MayHaveTexts e × IsPost post × BlockHasTexts b
  StmtHasTexts (range_statement p o e b) = HasTexts e × BlockHasTexts b
  StmtHasTexts (switch_statement p before tag cs) = FirstHasTexts before × MayHaveTexts tag × ClausesHaveTexts cs
  StmtHasTexts s = Unit {0}

  pub BlockHasTexts : Block → Type 0
  BlockHasTexts (block p ss q) = StmtsHaveTexts ss

  pub IfHasTexts : If → Type 0
  IfHasTexts (conditional p before e b other) = FirstHasTexts before × HasTexts e × BlockHasTexts b × ElseHasTexts other

  pub ElseHasTexts : Else → Type 0
  ElseHasTexts no_else = Unit {0}
  ElseHasTexts (else_block b) = BlockHasTexts b
  ElseHasTexts (else_if i) = IfHasTexts i

  pub ClausesHaveTexts : Cases → Type 0
  ClausesHaveTexts no_clauses = Unit {0}
  ClausesHaveTexts (clause p es ss rest) = CasesHaveTexts es × StmtsHaveTexts ss × ClausesHaveTexts rest

abbrev pub ParametersHaveTexts : List Parameter → Type 0
ParametersHaveTexts [] = Unit {0}
ParametersHaveTexts (p ∷ ps) = TypeHasTexts p.type × ParametersHaveTexts ps

abbrev pub ResultsHaveTexts : List TypeExpr → Type 0
ResultsHaveTexts [] = Unit {0}
ResultsHaveTexts (t ∷ ts) = TypeHasTexts t × ResultsHaveTexts ts

abbrev pub FunctionHasTexts : FunctionDecl → Type 0
FunctionHasTexts f = ParametersHaveTexts f.parameters × ResultsHaveTexts f.results × BlockHasTexts f.body
