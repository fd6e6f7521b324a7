-- A statement without fault is known, where all names outside of the function are.
use Rattle.std.proofs.Common.{Bool, false, not, ◌&&◌, ◌||◌, Option, Some, None, List, [], ◌∷◌, ◌++◌}
use Rattle.std.specs.Prelude.{is_some, option_map}
use Rattle.go_text.specs.declared.place.Place.{Place}
use Rattle.go_ast.specs.Trees.{Expression, ExpressionList, Simple, call_statement, increment, decrement, assignment, operator_assignment, short_var_decl, Statement, empty, declaration, simple, return, break, continue, fallthrough, block_statement, if_statement, for_statement, range_statement, switch_statement, Block, block, If, conditional as conditional_if, Else, no_else, else_block, else_if, StatementList, no_stmts, some_stmts, Cases, no_clauses, clause}
use Rattle.go_const.specs.declared.operator.ArithmeticOperator.TheVariants.{Add, Subtract}
use Rattle.go_typed.specs.Trees as typed
use Rattle.go_typed.specs.Trees.{expr_type}
use Rattle.go_types.specs.Types.{Type'}
use Rattle.go_expr.specs.Rules.{default_type}
use Rattle.go_expr.specs.Verdicts.{asked, broken}
use Rattle.go_stmt.specs.Scopes.{StatementEnv, Context, Checked, pure_checked, follow, single, node}
use Rattle.go_stmt.specs.Rules.{update_verdict, inc_dec_verdict, conditional, looped, SwitchClause, clause_verdict, switched, branch, return_verdict}
use Rattle.go_stmt.specs.Statements.{value_at, values_at, declaration_at, one_block, begins_at, simple_at, optional_at, condition_at, in_block, in_loop, in_clause, before_others, context_behind, leads_on, has_no_clauses, tag_at, cases_at, clause_at, statement_at, if_at, else_at, block_at, list_at, clauses_at}
use Rattle.go_package_laws.specs.Finds.{IsKnown}
use Rattle.go_package_laws.specs.Locals.{AreLocal, IsLocalIn, IsLocalBlock, IsLocalIf, IsLocalElse, AreLocalClauses}
use Rattle.go_package_laws.proofs.Completeness.Rules.{IsAsked}
use Rattle.go_package_laws.proofs.Completeness.Steps.{updates, steps, conditionals, loops, clauses, branches, returns, switches}
use Rattle.go_package_laws.proofs.Completeness.Faultless.{two_none, mapped}
use Rattle.go_package_laws.proofs.Completeness.Forms.{Outside, Any, Sure, sure_given, both_sure, sure_seen, sure_single, sure_appended, sure_node, sure_inside}
use Rattle.go_package_laws.proofs.Completeness.Leaves.{value_sure, values_sure, performed_sure, assigned_sure, condition_sure, tag_sure, cases_sure}
use Rattle.go_package_laws.proofs.Completeness.Declares.{short_sure}
use Rattle.go_package_laws.proofs.Completeness.Groups.{declaration_sure}
use Rattle.go_package_laws.proofs.Completeness.Turns.{range_sure}

simple_sure : (c : Context) → Outside c → (p : Place) (s : Simple) → Sure Any (simple_at c p s)
simple_sure c out p (call_statement e) = performed_sure c out p e
simple_sure c out p (increment e) = sure_node Any p (inc_dec_verdict Add) (value_at c e) (λ x q. steps Add x) (value_sure c out e)
simple_sure c out p (decrement e) = sure_node Any p (inc_dec_verdict Subtract) (value_at c e) (λ x q. steps Subtract x) (value_sure c out e)
simple_sure c out p (assignment ls rs) = assigned_sure c out p ls rs
simple_sure c out p (operator_assignment op l r) =
    sure_node Any p (λ k. update_verdict op k.0 k.1) (follow (value_at c l) (value_at c r)) (λ x q. updates op x.0 x.1) (both_sure (value_at c l) (value_at c r) (value_sure c out l) (value_sure c out r))
simple_sure c out p (short_var_decl ns es) = short_sure c out p ns es

optional_sure : (c : Context) → Outside c → (p : Place) (o : Option Simple) → Sure Any (optional_at c p o)
optional_sure c out p None = sure_given []
optional_sure c out p (Some s) = sure_single Any (simple_at c (begins_at p s) s) (simple_sure c out (begins_at p s) s)

branch_sure : (p : Place) (may_stand : Bool) (ss : List typed.Stmt) → Sure Any (node p (branch may_stand) (pure_checked ss))
branch_sure p may_stand ss = sure_node Any p (branch may_stand) (pure_checked ss) (λ x q. branches may_stand x) (sure_given ss)

ruled_by : (o : Option Type') → IsKnown o → (again falls : Bool) (k : Option (List typed.Expr) × List typed.Stmt) → IsAsked (clause_verdict o again falls k.0 k.1)
ruled_by None h again falls k = absurd cc
ruled_by (Some tag) h again falls k = clauses tag again falls k.0 k.1

clause_sure : (c : Context) → Outside c → (tag : Option Type') → IsKnown tag → (again falls : Bool) (p : Place) (values : Option ExpressionList) (body : StatementEnv → Checked (List typed.Stmt)) → Sure Any body → Sure Any (clause_at c tag again falls p values body)
clause_sure c out tag known again falls p values body h =
    sure_inside Any (node p (λ k. clause_verdict tag again falls k.0 k.1) (follow (cases_at c values) body))
    (sure_node Any p (λ k. clause_verdict tag again falls k.0 k.1) (follow (cases_at c values) body) (λ x q. ruled_by tag known again falls x) (both_sure (cases_at c values) body (cases_sure c out values) h))

-- what a switch is inside of its block
abbrev inner_switch : Context → Place → Option Simple → Option Expression → Cases → StatementEnv → Checked (List typed.Stmt)
inner_switch c p before tag cs env =
    let compared = option_map (λ e. default_type (expr_type e)) (tag_at c tag (optional_at c p before env).after).known in
    node p (λ k. switched k.0 (k.1).0 (k.1).1) (follow (optional_at c p before) (follow (tag_at c tag) (clauses_at c compared false cs))) env

switch_sure : (c : Context) → Outside c → (p : Place) (before : Option Simple) (tag : Option Expression) (cs : Cases)
    → ((compared : Option Type') → IsKnown compared → Sure Any (clauses_at c compared false cs)) → Sure Any (statement_at c (switch_statement p before tag cs))
switch_sure c out p before tag cs h =
    sure_inside Any (inner_switch c p before tag cs) (λ env whole none.
    let o = optional_at c p before env in
    let t = tag_at c tag o.after in
    let compared = option_map (λ e. default_type (expr_type e)) t.known in
    let clauses = clauses_at c compared false cs in
    let parts = follow (optional_at c p before) (follow (tag_at c tag) clauses) in
    let rule = λ (k : List typed.Stmt × (typed.Expr × List SwitchClause)). switched k.0 (k.1).0 (k.1).1 in
    let ns = two_none (parts env).faults (broken p (asked rule (parts env).known)) none in
    let front = two_none o.faults (t.faults ++ (clauses t.after).faults) ns.0 in
    let one = optional_sure c out p before env whole front.0 in
    let two = tag_sure c out tag o.after one.1 (two_none t.faults (clauses t.after).faults front.1).0 in
    let compares : IsKnown compared = mapped (λ e. default_type (expr_type e)) t.known ((two.0).0, (two.0).1) in
    let later = both_sure (tag_at c tag) clauses (tag_sure c out tag) (h compared compares) in
    let all = both_sure (optional_at c p before) (follow (tag_at c tag) clauses) (optional_sure c out p before) later in
    sure_node Any p rule parts (λ k q. switches k.0 (k.1).0 (k.1).1) all env whole none)

mutual
  statement_sure : (c : Context) → Outside c → (s : Statement) → IsLocalIn s → Sure Any (statement_at c s)
  statement_sure c g (empty p) l = sure_given []
  statement_sure c g (declaration p d) l = sure_seen Any Any one_block (declaration_at c d) (λ x q. tt) (declaration_sure c g d l)
  statement_sure c g (simple p s) l = sure_single Any (simple_at c p s) (simple_sure c g p s)
  statement_sure c g (return p es) l =
      sure_node Any p (return_verdict c.results) (values_at c es) (λ x q. returns c.results x) (values_sure c g es)
  statement_sure c g (break p) l = branch_sure p c.breaks (typed.break ∷ [])
  statement_sure c g (continue p) l = branch_sure p c.continues (typed.continue ∷ [])
  statement_sure c g (fallthrough p) l = branch_sure p c.falls []
  statement_sure c g (block_statement b) l = sure_seen Any Any one_block (block_at c b) (λ x q. tt) (block_sure c g b l)
  statement_sure c g (if_statement i) l = if_sure c g i l
  statement_sure c g (for_statement p before e post b) l =
      let body = both_sure (optional_at c p post) (block_at (in_loop c) b) (optional_sure c g p post) (block_sure (in_loop c) g b l) in
      let middle = both_sure (condition_at c e) (follow (optional_at c p post) (block_at (in_loop c) b)) (condition_sure c g e) body in
      let parts = follow (optional_at c p before) (follow (condition_at c e) (follow (optional_at c p post) (block_at (in_loop c) b))) in
      sure_inside Any (node p (λ k. looped k.0 (k.1).0 ((k.1).1).0 ((k.1).1).1) parts)
      (sure_node Any p (λ k. looped k.0 (k.1).0 ((k.1).1).0 ((k.1).1).1) parts (λ k q. loops k.0 (k.1).0 ((k.1).1).0 ((k.1).1).1)
      (both_sure (optional_at c p before) (follow (condition_at c e) (follow (optional_at c p post) (block_at (in_loop c) b))) (optional_sure c g p before) middle))
  statement_sure c g (range_statement p o e b) l = range_sure c g p o e b (block_sure (in_loop c) g b l)
  statement_sure c g (switch_statement p before tag cs) l = switch_sure c g p before tag cs (λ compared k. clauses_sure c g compared k false cs l)

  if_sure : (c : Context) → Outside c → (i : If) → IsLocalIf i → Sure Any (if_at c i)
  if_sure c g (conditional_if p before e b other) l =
      let arms = both_sure (block_at c b) (else_at c other) (block_sure c g b l.0) (else_sure c g other l.1) in
      let middle = both_sure (value_at c e) (follow (block_at c b) (else_at c other)) (value_sure c g e) arms in
      let parts = follow (optional_at c p before) (follow (value_at c e) (follow (block_at c b) (else_at c other))) in
      sure_inside Any (node p (λ k. conditional k.0 (k.1).0 ((k.1).1).0 ((k.1).1).1) parts)
      (sure_node Any p (λ k. conditional k.0 (k.1).0 ((k.1).1).0 ((k.1).1).1) parts (λ k q. conditionals k.0 (k.1).0 ((k.1).1).0 ((k.1).1).1)
      (both_sure (optional_at c p before) (follow (value_at c e) (follow (block_at c b) (else_at c other))) (optional_sure c g p before) middle))

  else_sure : (c : Context) → Outside c → (e : Else) → IsLocalElse e → Sure Any (else_at c e)
  else_sure c g no_else l = sure_given []
  else_sure c g (else_block b) l = block_sure c g b l
  else_sure c g (else_if i) l = if_sure c g i l

  block_sure : (c : Context) → Outside c → (b : Block) → IsLocalBlock b → Sure Any (block_at c b)
  block_sure c g (block p ss q) l = sure_inside Any (list_at (in_block c) ss) (list_sure (in_block c) g ss l)

  list_sure : (c : Context) → Outside c → (ss : StatementList) → AreLocal ss → Sure Any (list_at c ss)
  list_sure c g no_stmts l = sure_given []
  list_sure c g (some_stmts s ss) l =
      sure_appended (statement_at (before_others c ss) s) (list_at (context_behind c s) ss) (statement_sure (before_others c ss) g s l.0) (list_sure (context_behind c s) g ss l.1)

  clauses_sure : (c : Context) → Outside c → (tag : Option Type') → IsKnown tag → (again : Bool) (cs : Cases) → AreLocalClauses cs → Sure Any (clauses_at c tag again cs)
  clauses_sure c g tag known again no_clauses l = sure_given []
  clauses_sure c g tag known again (clause p values ss rest) l =
      let body = list_at (in_clause c (not (has_no_clauses rest))) ss in
      let one = clause_at c tag again (leads_on ss && not (has_no_clauses rest)) p values body in
      sure_appended (single one) (clauses_at c tag (again || not (is_some values)) rest)
      (sure_single Any one (clause_sure c g tag known again (leads_on ss && not (has_no_clauses rest)) p values body (list_sure (in_clause c (not (has_no_clauses rest))) g ss l.0)))
      (clauses_sure c g tag known (again || not (is_some values)) rest l.1)

pub statements_sure : (c : Context) → Outside c → (ss : StatementList) → AreLocal ss → Sure Any (list_at c ss)
statements_sure c g ss l = list_sure c g ss l
