-- Types are not declared in functions: the grammar has no such statement.
use Rattle.std.specs.Prelude.{◌≡◌, false}
use Rattle.go_ast.specs.Grammar.{declares_types}
use Rattle.go_ast.specs.Trees.{Statement, declaration, block_statement, if_statement, for_statement, range_statement, switch_statement, Block, block, If, conditional, Else, no_else, else_block, else_if, StatementList, no_stmts, some_stmts, Cases, no_clauses, clause}

abbrev mutual
  pub AreLocal : StatementList → Type 0
  AreLocal no_stmts = Unit {0}
  AreLocal (some_stmts s ss) = IsLocalIn s × AreLocal ss

  pub IsLocalIn : Statement → Type 0
  IsLocalIn (declaration p d) = declares_types d ≡ false
  IsLocalIn (block_statement b) = IsLocalBlock b
  IsLocalIn (if_statement i) = IsLocalIf i
  IsLocalIn (for_statement p before e post b) = IsLocalBlock b
  IsLocalIn (range_statement p o e b) = IsLocalBlock b
  IsLocalIn (switch_statement p before tag cs) = AreLocalClauses cs
  IsLocalIn s = Unit {0}

  pub IsLocalBlock : Block → Type 0
  IsLocalBlock (block p ss q) = AreLocal ss

  pub IsLocalIf : If → Type 0
  IsLocalIf (conditional p before e b other) = IsLocalBlock b × IsLocalElse other

  pub IsLocalElse : Else → Type 0
  IsLocalElse no_else = Unit {0}
  IsLocalElse (else_block b) = IsLocalBlock b
  IsLocalElse (else_if i) = IsLocalIf i

  pub AreLocalClauses : Cases → Type 0
  AreLocalClauses no_clauses = Unit {0}
  AreLocalClauses (clause p es ss rest) = AreLocal ss × AreLocalClauses rest
