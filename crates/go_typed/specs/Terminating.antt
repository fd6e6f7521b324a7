-- Which statements are terminating: https://go.dev/ref/spec#Terminating_statements
use Rattle.std.specs.Prelude.{Bool, true, false, ◌&&◌, ◌||◌, not, is_some, Some, None}
use Rattle.go_typed.specs.Trees.{Stmt, panic, if_statement, for_statement, switch_statement, block, break, return, Stmts, no_stmts, some_stmts, Clauses, no_clauses, clause}

-- a break in it leaves the statement that it stands in
abbrev mutual
  pub breaks : Stmt → Bool
  breaks (if_statement e a b) = breaks_any a || breaks_any b
  breaks (block ss) = breaks_any ss
  breaks break = true
  breaks s = false

  pub breaks_any : Stmts → Bool
  breaks_any no_stmts = false
  breaks_any (some_stmts s ss) = breaks s || breaks_any ss

abbrev pub breaks_clause : Clauses → Bool
breaks_clause no_clauses = false
breaks_clause (clause cases ss falls rest) = breaks_any ss || breaks_clause rest

abbrev pub has_default : Clauses → Bool
has_default no_clauses = false
has_default (clause None ss falls rest) = true
has_default (clause (Some es) ss falls rest) = has_default rest

-- no statement behind it is done, nor is one behind a list whose last one is such
abbrev mutual
  pub terminates : Stmt → Bool
  terminates (return source) = true
  terminates (panic e) = true
  terminates (block ss) = list_terminates ss
  terminates (if_statement e a b) = list_terminates a && list_terminates b
  terminates (for_statement e post ss) = not (is_some e) && not (breaks_any ss)
  terminates (switch_statement e cs) = (has_default cs && not (breaks_clause cs)) && clauses_terminate cs
  terminates s = false

  pub list_terminates : Stmts → Bool
  list_terminates no_stmts = false
  list_terminates (some_stmts s no_stmts) = terminates s
  list_terminates (some_stmts s (some_stmts t ss)) = list_terminates (some_stmts t ss)

  pub clauses_terminate : Clauses → Bool
  clauses_terminate no_clauses = true
  clauses_terminate (clause cases ss falls rest) = (falls || list_terminates ss) && clauses_terminate rest
