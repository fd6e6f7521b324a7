-- The statements of a function: the faults in each, in the order of the text, a node behind its parts; its typed tree; and what is in scope behind it.
use Rattle.std.specs.Prelude.{ℕ, suc, Bool, true, false, ◌&&◌, ◌||◌, not, bytes_eq, if◌then◌else◌, List, [], ◌∷◌, ◌++◌, map, Option, Some, None, option_map, option_and_then, option_to_list, is_some}
use Rattle.std.specs.List.{flat_map, list_any}
use Rattle.go_text.specs.declared.place.Place.{Place}
use Rattle.go_text.specs.declared.fault.FaultKind.TheVariants.{Redeclared}
use Rattle.go_ast.specs.Trees.{Name, TypeExpr, Expression, name, parenthesized, ExpressionList, no_exprs, some_exprs, place_of, first_place, Simple, call_statement, increment, decrement, assignment, operator_assignment, short_var_decl, ConstSpec, VarSpec, Decl, constants, variables, types, Statement, empty, declaration, simple, return, break, continue, fallthrough, block_statement, if_statement, for_statement, range_statement, switch_statement, Block, block, If, conditional as conditional_if, Else, no_else, else_block, else_if, StatementList, no_stmts, some_stmts, Cases, no_clauses, clause}
use Rattle.go_const.specs.declared.constant.Const.TheVariants.{Bool as Truth}
use Rattle.go_const.specs.declared.operator.ArithmeticOperator.TheVariants.{Add, Subtract}
use Rattle.go_types.specs.declared.types.Basic.TheVariants as basics
use Rattle.go_types.specs.Types.{Type', basic}
use Rattle.go_typed.specs.Trees as typed
use Rattle.go_typed.specs.Trees.{expr_type, pack_stmts}
use Rattle.go_expr.specs.Known.{Declared, value, Fine, Passed, Scope, look_up_known}
use Rattle.go_expr.specs.Rules.{fine, checked, least, is_integer, default_type, settled_type, assigned}
use Rattle.go_expr.specs.Verdicts as verdicts
pub use Rattle.go_expr.specs.Verdicts.{operands_faults}
use Rattle.go_expr.specs.Verdicts.{asked, both, operand, operand_list, verdict, type_verdict, operand_broken, part_broken, faults, type_faults}
use Rattle.go_scope.specs.Names.{Used}
use Rattle.go_uses.specs.Uses as uses
use Rattle.go_uses.specs.Uses.{texts, outside}
use Rattle.go_scope.specs.Scopes.{is_blank}
use Rattle.go_scope.specs.Specifications.{meant, is_repeated}
use Rattle.go_stmt.specs.Scopes.{StatementEnv, Context, scope_in, declare_name, paired_names, declare_new, own, variable_number, StatementFaults, Checked, still, pure_checked, follow, map_checked, single, concat_checked, node, in_new_block, declaring, perhaps}
use Rattle.go_stmt.specs.Rules.{all_some, AssignedValues, separate, together, no_values, values_of, constants_verdict, variables_source, redefined, stated, performed, assigned_to, update_verdict, inc_dec_verdict, conditional, looped, ranged, SwitchClause, clause_verdict, switched, branch, return_verdict}

-- ---- expressions in statements

abbrev pub value_at : Context → Expression → StatementEnv → Checked typed.Expr
value_at c e env = (let v = verdict (scope_in c None env) e in still (faults (scope_in c None env) e ++ operand_broken e v) (operand v) env)

abbrev pub each_of : {A : Type 0} → (Expression → A) → ExpressionList → List A
each_of f no_exprs = []
each_of f (some_exprs e es) = f e ∷ each_of f es

-- where one call stands alone it may have several results
abbrev pub values_known : Scope → ExpressionList → Option AssignedValues
values_known s (some_exprs e no_exprs) = fine (asked values_of (fine (verdict s e)))
values_known s es = option_map separate (all_some (each_of (λ e. operand (verdict s e)) es))

abbrev pub values_faults : Scope → ExpressionList → StatementFaults
values_faults s (some_exprs e no_exprs) = faults s e ++ part_broken e (asked values_of (fine (verdict s e)))
values_faults s es = operands_faults s es

abbrev pub values_at : Context → ExpressionList → StatementEnv → Checked AssignedValues
values_at c es env = (let s = scope_in c None env in still (values_faults s es) (values_known s es) env)

-- the types of variables that get values, each by what is known of its own value
abbrev pub alone_types : Option AssignedValues → List (Option Type')
alone_types None = None ∷ []
alone_types (Some (separate es)) = map settled_type es
alone_types (Some (together ts f es)) = map Some ts
alone_types (Some no_values) = []

abbrev pub value_types : Scope → ExpressionList → List (Option Type')
value_types s (some_exprs e no_exprs) = alone_types (values_known s (some_exprs e no_exprs))
value_types s es = each_of (λ e. option_and_then settled_type (operand (verdict s e))) es

-- a name that is used stands for a declaration of which nothing is known
abbrev pub is_unknown : Scope → Used → Bool
is_unknown s u = elim (look_up_known u.0 s.names) [ Passed ↦ true | _ ↦ false ]

-- ---- declarations

-- a name that the block has already, or that stands twice
abbrev pub names_faults : StatementEnv → List Name → List Name → StatementFaults
names_faults env before [] = []
names_faults env before (n ∷ ns) =
    (if is_some (own env n) || not (is_blank n.text) && list_any (λ m. bytes_eq n.text m.text) before then (n.place, Redeclared) ∷ [] else [])
    ++ names_faults env (before ++ n ∷ []) ns

abbrev pub names_at : List Name → StatementEnv → Checked (List Name)
names_at ns env = still (names_faults env [] ns) (Some ns) env

-- the type that is written, if one is
abbrev pub written_at : Scope → Option TypeExpr → StatementEnv → Checked (Option Type')
written_at s None env = pure_checked None env
written_at s (Some t) env = still (type_faults s t) (option_map Some (fine (type_verdict s t))) env

-- the place of a declaration is that of its first name
abbrev pub place_of_first : Place → List Name → Place
place_of_first p [] = p
place_of_first p (n ∷ ns) = n.place

-- https://go.dev/ref/spec#Variable_declarations
abbrev pub variable_types : Scope → VarSpec → List (Option Type')
variable_types s spec = elim spec.type [ None ↦ value_types s spec.values | Some t ↦ map (λ n. fine (type_verdict s t)) spec.names ]

abbrev pub variables_at : Context → Place → VarSpec → StatementEnv → Checked (List typed.Stmt)
variables_at c p spec env =
    let s = scope_in c None env in
    let change = declare_new (paired_names spec.names (variable_types s spec)) in
    let numbers = map (variable_number (change env)) spec.names in
    declaring change (node (place_of_first p spec.names) (λ k. checked (λ source. Fine (typed.define numbers source ∷ [])) (variables_source spec.names (k.1).0 (k.1).1))
    (follow (names_at spec.names) (follow (written_at s spec.type) (values_at c spec.values)))) env

-- what a constant's name declares, by its own value
abbrev pub declared_as : Option typed.Expr → Option Declared
declared_as o = elim o [ Some (typed.constant t c) ↦ Some (value (typed.constant t c)) | _ ↦ None ]

abbrev pub declared_constant : Scope → Option TypeExpr → Expression → Option Declared
declared_constant s None e = declared_as (operand (verdict s e))
declared_constant s (Some t) e = declared_as (fine (asked (λ k. assigned k.0 k.1) (both (fine (type_verdict s t)) (operand (verdict s e)))))

abbrev pub declare_constants : List (Name × Option Declared) → StatementEnv → StatementEnv
declare_constants [] env = env
declare_constants ((n, d) ∷ ns) env = declare_constants ns (declare_name n.text d env)

-- the first of some faults, and of the first faults of values and of a type that is written, if one is, that of the least number, at a place
abbrev pub first_fault : StatementFaults → StatementFaults
first_fault fs = elim fs [ [] ↦ [] | f ∷ fs ↦ f ∷ [] ]

abbrev pub first_faults : Scope → ExpressionList → StatementFaults
first_faults s no_exprs = []
first_faults s (some_exprs e es) = first_fault (faults s e ++ operand_broken e (verdict s e)) ++ first_faults s es

abbrev pub least_at : Place → StatementFaults → StatementFaults
least_at p fs = elim (least (map (λ f. f.1) fs)) [ None ↦ [] | Some kind ↦ (p, kind) ∷ [] ]

abbrev pub written_faults : Scope → Option TypeExpr → StatementFaults
written_faults s t = elim t [ None ↦ [] | Some t ↦ type_faults s t ]

-- What is written for a specification before, and repeated, is one node at the first name of the one that repeats it: of the faults of its type and of its
-- values it has the least, and none where a name in them hides it.
abbrev pub repeated_faults : Bool → Place → Scope → Option TypeExpr → ExpressionList → StatementFaults
repeated_faults hidden p s t es = if hidden then [] else least_at p (first_fault (written_faults s t) ++ first_faults s es)

-- the type and the values of constants
abbrev pub spec_at : Scope → Place → Bool → ConstSpec → StatementEnv → Checked (Option Type' × List typed.Expr)
spec_at s p repeated spec env =
    let x = follow (written_at s spec.type) (still (operands_faults s spec.values) (all_some (each_of (λ e. operand (verdict s e)) spec.values))) env in
    let hidden = list_any (is_unknown s) (uses.in_const spec) in
    still (if repeated then repeated_faults hidden p s spec.type spec.values else x.faults) x.known x.after

abbrev pub constants_at : Context → Place → ℕ → Bool → ConstSpec → StatementEnv → Checked (List typed.Stmt)
constants_at c p iota repeated spec env =
    let s = scope_in c (Some iota) env in
    let first = place_of_first p spec.names in
    declaring (declare_constants (paired_names spec.names (each_of (declared_constant s spec.type) spec.values)))
    (node first (λ k. checked (λ s. Fine (s ∷ [])) (constants_verdict spec.names (k.1).0 (k.1).1))
    (follow (names_at spec.names) (spec_at s first repeated spec))) env

abbrev pub group_at : Context → Place → ℕ → ConstSpec → List ConstSpec → StatementEnv → Checked (List typed.Stmt)
group_at c p iota before [] env = pure_checked [] env
group_at c p iota before (s ∷ ss) env = concat_checked (constants_at c p iota (is_repeated s) (meant before s)) (group_at c p (suc iota) (meant before s) ss) env

abbrev pub specs_at : Context → Place → List VarSpec → StatementEnv → Checked (List typed.Stmt)
specs_at c p [] env = pure_checked [] env
specs_at c p (s ∷ ss) env = concat_checked (variables_at c p s) (specs_at c p ss) env

-- types are not declared in functions
abbrev pub declaration_at : Context → Decl → StatementEnv → Checked (List typed.Stmt)
declaration_at c (constants p ss) env = group_at c p 0 (record { names = []; type = None; values = no_exprs }) ss env
declaration_at c (variables p ss) env = specs_at c p ss env
declaration_at c (types p ss) env = still [] None env

abbrev pub one_block : List typed.Stmt → List typed.Stmt
one_block ss = typed.block (pack_stmts ss) ∷ []

-- ---- simple statements

abbrev pub blank_left : Expression → Bool
blank_left (name p x) = is_blank x
blank_left (parenthesized p e) = blank_left e
blank_left e = false

-- the blank name, or an operand
abbrev pub left_at : Context → Expression → StatementEnv → Checked (List (Option typed.Expr))
left_at c e env = if blank_left e then pure_checked (None ∷ []) env else map_checked (λ e. Some e ∷ []) (value_at c e) env

abbrev pub lefts_at : Context → ExpressionList → StatementEnv → Checked (List (Option typed.Expr))
lefts_at c no_exprs env = pure_checked [] env
lefts_at c (some_exprs e es) env = concat_checked (left_at c e) (lefts_at c es) env

-- https://go.dev/ref/spec#Short_variable_declarations
abbrev pub short_at : Context → Place → List Name → ExpressionList → StatementEnv → Checked typed.Stmt
short_at c p ns es env =
    let change = declare_new (paired_names ns (value_types (scope_in c None env) es)) in
    declaring change (node p (λ k. checked (λ source. Fine (typed.define (map (variable_number (change env)) ns) source)) (redefined c.constants (own env) ns k))
    (values_at c es)) env

-- where it begins
abbrev pub begins_at : Place → Simple → Place
begins_at p (call_statement e) = place_of e
begins_at p (increment e) = place_of e
begins_at p (decrement e) = place_of e
begins_at p (assignment ls rs) = first_place p ls
begins_at p (operator_assignment op l r) = place_of l
begins_at p (short_var_decl ns es) = place_of_first p ns

abbrev pub simple_at : Context → Place → Simple → StatementEnv → Checked typed.Stmt
simple_at c p (call_statement e) env =
    (let s = scope_in c None env in node p performed (node (verdicts.bare_place e) stated (still (faults s e) (fine (verdict s e)))) env)
simple_at c p (increment e) env = node p (inc_dec_verdict Add) (value_at c e) env
simple_at c p (decrement e) env = node p (inc_dec_verdict Subtract) (value_at c e) env
simple_at c p (assignment ls rs) env = node p (λ k. assigned_to k.0 k.1) (follow (lefts_at c ls) (values_at c rs)) env
simple_at c p (operator_assignment op l r) env = node p (λ k. update_verdict op k.0 k.1) (follow (value_at c l) (value_at c r)) env
simple_at c p (short_var_decl ns es) env = short_at c p ns es env

-- one in front of a condition, or behind each turn, if there is one
abbrev pub optional_at : Context → Place → Option Simple → StatementEnv → Checked (List typed.Stmt)
optional_at c p None env = pure_checked [] env
optional_at c p (Some s) env = single (simple_at c (begins_at p s) s) env

-- ---- statements

abbrev pub condition_at : Context → Option Expression → StatementEnv → Checked (Option typed.Expr)
condition_at c None env = pure_checked None env
condition_at c (Some e) env = map_checked Some (value_at c e) env

-- a block has no constants at first
abbrev pub block_context : Context → Context
block_context c = record c { constants = [] }

abbrev pub in_block : Context → Context
in_block c = record (block_context c) { falls = false }

abbrev pub in_loop : Context → Context
in_loop c = record c { breaks = true; continues = true }

abbrev pub in_clause : Context → Bool → Context
in_clause c falls = record (block_context c) { breaks = true; falls = falls }

abbrev pub all_empty : StatementList → Bool
all_empty no_stmts = true
all_empty (some_stmts (empty p) ss) = all_empty ss
all_empty (some_stmts s ss) = false

-- a fallthrough may stand before nothing but empty statements
abbrev pub before_others : Context → StatementList → Context
before_others c ss = record c { falls = c.falls && all_empty ss }

-- the names of the constants that a statement declares, which the block has behind it
abbrev pub constant_names : Statement → List (List ℕ)
constant_names s = elim s [ declaration p (constants q specs) ↦ flat_map (λ (s : ConstSpec). texts s.names) specs | _ ↦ [] ]

abbrev pub context_behind : Context → Statement → Context
context_behind c s = record c { constants = c.constants ++ constant_names s }

-- the last statement that isn't empty is a fallthrough
abbrev pub leads_on : StatementList → Bool
leads_on no_stmts = false
leads_on (some_stmts (fallthrough p) ss) = all_empty ss || leads_on ss
leads_on (some_stmts s ss) = leads_on ss

abbrev pub has_no_clauses : Cases → Bool
has_no_clauses cs = elim cs [ no_clauses ↦ true | clause p es ss rest ↦ false ]

-- https://go.dev/ref/spec#Expression_switches
-- the value that cases are compared with; without one it is true
abbrev pub tag_at : Context → Option Expression → StatementEnv → Checked typed.Expr
tag_at c None env = pure_checked (typed.constant (basic basics.Bool) (Truth true)) env
tag_at c (Some e) env = value_at c e env

-- the values of a case; a default has none
abbrev pub cases_at : Context → Option ExpressionList → StatementEnv → Checked (Option (List typed.Expr))
cases_at c None env = pure_checked None env
cases_at c (Some es) env = (let s = scope_in c None env in still (verdicts.operands_faults s es) (option_map Some (operand_list s es)) env)

-- a clause with some statements, by the tag's type, behind a default or not
abbrev pub clause_at : Context → Option Type' → Bool → Bool → Place → Option ExpressionList → (StatementEnv → Checked (List typed.Stmt)) → StatementEnv → Checked SwitchClause
clause_at c tag again falls p values body env = in_new_block (node p (λ k. clause_verdict tag again falls k.0 k.1) (follow (cases_at c values) body)) env

-- https://go.dev/ref/spec#For_range
-- the type of the variable that counts, where the range breaks no rule
abbrev pub range_type : Option typed.Expr → Option Type'
range_type o = elim o [ None ↦ None | Some e ↦ if is_integer (expr_type e) then settled_type e else None ]

abbrev pub range_names : Option Name → Option Type' → List (Name × Option Type')
range_names o t = elim o [ None ↦ [] | Some n ↦ (n, t) ∷ [] ]

abbrev pub range_number : Option Name → StatementEnv → Option ℕ
range_number o env = elim o [ None ↦ None | Some n ↦ variable_number env n ]

-- what a range breaks isn't told where such a name, but its own variable, stands in its body
abbrev pub is_unsure : Scope → Option Name → Option Type' → Block → Bool
is_unsure s o t b = not (is_some t) && list_any (is_unknown s) (outside (texts (option_to_list o)) (uses.uses_in_block b))

abbrev mutual
  pub statement_at : Context → Statement → StatementEnv → Checked (List typed.Stmt)
  statement_at c (empty p) env = pure_checked [] env
  statement_at c (declaration p d) env = map_checked one_block (declaration_at c d) env
  statement_at c (simple p s) env = single (simple_at c p s) env
  statement_at c (return p es) env = node p (return_verdict c.results) (values_at c es) env
  statement_at c (break p) env = node p (branch c.breaks) (pure_checked (typed.break ∷ [])) env
  statement_at c (continue p) env = node p (branch c.continues) (pure_checked (typed.continue ∷ [])) env
  statement_at c (fallthrough p) env = node p (branch c.falls) (pure_checked []) env
  statement_at c (block_statement b) env = map_checked one_block (block_at c b) env
  statement_at c (if_statement i) env = if_at c i env
  statement_at c (for_statement p before e post b) env =
      in_new_block (node p (λ k. looped k.0 (k.1).0 ((k.1).1).0 ((k.1).1).1)
      (follow (optional_at c p before) (follow (condition_at c e) (follow (optional_at c p post) (block_at (in_loop c) b))))) env
  statement_at c (range_statement p o e b) env =
      in_new_block (λ env. (let s = scope_in c None env in
      let t = range_type (operand (verdict s e)) in
      let change = declare_new (range_names o t) in
      node p (λ k. ranged (range_number o (change env)) k.0 k.1)
      (follow (value_at c e) (perhaps (is_unsure s o t b) (λ env. block_at (in_loop c) b (change env)))) env)) env
  statement_at c (switch_statement p before tag cs) env =
      in_new_block (λ env. (let compared = option_map (λ e. default_type (expr_type e)) (tag_at c tag (optional_at c p before env).after).known in
      node p (λ k. switched k.0 (k.1).0 (k.1).1)
      (follow (optional_at c p before) (follow (tag_at c tag) (clauses_at c compared false cs))) env)) env

  pub if_at : Context → If → StatementEnv → Checked (List typed.Stmt)
  if_at c (conditional_if p before e b other) env =
      in_new_block (node p (λ k. conditional k.0 (k.1).0 ((k.1).1).0 ((k.1).1).1)
      (follow (optional_at c p before) (follow (value_at c e) (follow (block_at c b) (else_at c other))))) env

  pub else_at : Context → Else → StatementEnv → Checked (List typed.Stmt)
  else_at c no_else env = pure_checked [] env
  else_at c (else_block b) env = block_at c b env
  else_at c (else_if i) env = if_at c i env

  pub block_at : Context → Block → StatementEnv → Checked (List typed.Stmt)
  block_at c (block p ss q) env = in_new_block (list_at (in_block c) ss) env

  pub list_at : Context → StatementList → StatementEnv → Checked (List typed.Stmt)
  list_at c no_stmts env = pure_checked [] env
  list_at c (some_stmts s ss) env = concat_checked (statement_at (before_others c ss) s) (list_at (context_behind c s) ss) env

  -- behind a default or not
  pub clauses_at : Context → Option Type' → Bool → Cases → StatementEnv → Checked (List SwitchClause)
  clauses_at c tag again no_clauses env = pure_checked [] env
  clauses_at c tag again (clause p values ss rest) env =
      concat_checked
      (single (clause_at c tag again (leads_on ss && not (has_no_clauses rest)) p values (list_at (in_clause c (not (has_no_clauses rest))) ss)))
      (clauses_at c tag (again || not (is_some values)) rest) env
