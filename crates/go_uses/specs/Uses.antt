-- Which names forms use that nothing in them declares, and which names a file refers to: those of them before a dot.
-- https://go.dev/ref/spec#Declarations_and_scope
use Rattle.std.specs.Prelude.{ℕ, Bool, false, ◌&&◌, not, bytes_eq, List, [], ◌∷◌, ◌++◌, map, Option, Some, None, option_to_list}
use Rattle.std.specs.List.{filter, flat_map, list_any}
use Rattle.go_ast.specs.Trees.{Name, Simple, call_statement, increment, decrement, assignment, operator_assignment, short_var_decl, ConstSpec, VarSpec, TypeSpec, Decl, constants, variables, types, Statement, declaration, simple, return, block_statement, if_statement, for_statement, range_statement, switch_statement, Block, block, If, conditional, Else, no_else, else_block, else_if, StatementList, no_stmts, some_stmts, Cases, no_clauses, clause, Parameter, FunctionDecl, TopLevel, declared, function, File}
use Rattle.go_scope.specs.Names.{Used, in_type, in_expr, in_exprs}

abbrev pub texts : List Name → List (List ℕ)
texts ns = map (λ (n : Name). n.text) ns

-- names outside of declarations that hide some
abbrev pub outside : List (List ℕ) → List Used → List Used
outside xs us = filter (λ (u : Used). not (list_any (bytes_eq u.0) xs)) us

abbrev pub if_any : {A : Type 0} → (A → List Used) → Option A → List Used
if_any uses o = elim o [ None ↦ [] | Some x ↦ uses x ]

-- ---- declarations

abbrev pub in_const : ConstSpec → List Used
in_const s = if_any in_type s.type ++ in_exprs s.values

abbrev pub in_var : VarSpec → List Used
in_var s = if_any in_type s.type ++ in_exprs s.values

-- in a function a name holds from the end of its specification on
abbrev pub in_consts : List ConstSpec → List Used
in_consts [] = []
in_consts (s ∷ ss) = in_const s ++ outside (texts s.names) (in_consts ss)

abbrev pub in_vars : List VarSpec → List Used
in_vars [] = []
in_vars (s ∷ ss) = in_var s ++ outside (texts s.names) (in_vars ss)

-- types aren't declared in functions
abbrev pub in_decl : Decl → List Used
in_decl (constants p ss) = in_consts ss
in_decl (variables p ss) = in_vars ss
in_decl (types p ss) = []

abbrev pub decl_names : Decl → List (List ℕ)
decl_names (constants p ss) = flat_map (λ (s : ConstSpec). texts s.names) ss
decl_names (variables p ss) = flat_map (λ (s : VarSpec). texts s.names) ss
decl_names (types p ss) = []

-- ---- statements

abbrev pub in_simple : Simple → List Used
in_simple (call_statement e) = in_expr false e
in_simple (increment e) = in_expr false e
in_simple (decrement e) = in_expr false e
in_simple (assignment ls rs) = in_exprs ls ++ in_exprs rs
in_simple (operator_assignment op l r) = in_expr false l ++ in_expr false r
in_simple (short_var_decl ns es) = in_exprs es

abbrev pub simple_names : Simple → List (List ℕ)
simple_names s = elim s [ short_var_decl ns es ↦ texts ns | _ ↦ [] ]

abbrev pub optional_names : Option Simple → List (List ℕ)
optional_names s = elim s [ None ↦ [] | Some s ↦ simple_names s ]

abbrev pub stmt_names : Statement → List (List ℕ)
stmt_names s = elim s [ declaration p d ↦ decl_names d | simple p s ↦ simple_names s | _ ↦ [] ]

abbrev mutual
  pub in_stmt : Statement → List Used
  in_stmt (declaration p d) = in_decl d
  in_stmt (simple p s) = in_simple s
  in_stmt (return p es) = in_exprs es
  in_stmt (block_statement b) = uses_in_block b
  in_stmt (if_statement i) = in_if i
  in_stmt (for_statement p before e post b) =
      if_any in_simple before ++ outside (optional_names before) (if_any (in_expr false) e ++ (if_any in_simple post ++ uses_in_block b))
  in_stmt (range_statement p o e b) = in_expr false e ++ outside (texts (option_to_list o)) (uses_in_block b)
  in_stmt (switch_statement p before tag cs) =
      if_any in_simple before ++ outside (optional_names before) (if_any (in_expr false) tag ++ in_clauses cs)
  in_stmt s = []

  pub uses_in_block : Block → List Used
  uses_in_block (block p ss q) = in_list ss

  pub in_if : If → List Used
  in_if (conditional p before e b other) =
      if_any in_simple before ++ outside (optional_names before) (in_expr false e ++ (uses_in_block b ++ in_else other))

  pub in_else : Else → List Used
  in_else no_else = []
  in_else (else_block b) = uses_in_block b
  in_else (else_if i) = in_if i

  pub in_list : StatementList → List Used
  in_list no_stmts = []
  in_list (some_stmts s ss) = in_stmt s ++ outside (stmt_names s) (in_list ss)

  pub in_clauses : Cases → List Used
  in_clauses no_clauses = []
  in_clauses (clause p es ss rest) = if_any in_exprs es ++ (in_list ss ++ in_clauses rest)

-- ---- files

-- parameters and results are looked up outside of the function
abbrev pub in_function : FunctionDecl → List Used
in_function f =
    flat_map (λ (p : Parameter). in_type p.type) f.parameters
    ++ (flat_map in_type f.results ++ outside (flat_map (λ (p : Parameter). texts p.names) f.parameters) (uses_in_block f.body))

-- names of the package hide no name of its files
abbrev pub in_top : TopLevel → List Used
in_top (declared (constants p ss)) = flat_map in_const ss
in_top (declared (variables p ss)) = flat_map in_var ss
in_top (declared (types p ss)) = flat_map (λ (s : TypeSpec). in_type s.type) ss
in_top (function f) = in_function f

abbrev pub is_dotted : List ℕ → List Used → Bool
is_dotted x us = list_any (λ u. u.1 && bytes_eq x u.0) us

abbrev pub file_refers : List ℕ → File → Bool
file_refers x f = is_dotted x (flat_map in_top f.declarations)
