use Rattle.std.proofs.Common.{◌≡◌, ◌+◌, ◌++◌, ◌<◌, ◌&&◌, Bool, false, not, Option, [], ◌∷◌, List, length, drop, arith, ap, sym, ◌∙◌, subst}
use Rattle.std.specs.Option.{option_map}
use Rattle.std.proofs.lemmas.List.{take_rest}
use Rattle.std.proofs.lemmas.Result.{err_from_is_err_and}
use Rattle.go_ast.specs.declared.statement.Clause.{Clause}
use Rattle.go_ast.specs.declared.statement.Stmt.{Stmt}
use Rattle.go_ast.specs.Views.{expr_of, stmt_of, else_of, simple_of, block_of, if_boxed}
use Rattle.go_ast.proofs.StatementRows.{if_seen, for_seen, range_seen, switch_seen, block_seen, else_block_seen, else_if_seen}
use Rattle.go_types.specs.Types.{Type'}
use Rattle.go_types.specs.Views.{go_type}
use Rattle.go_expr.specs.Rules.{default_type}
use Rattle.go_expr.specs.Verdicts.{asked, both}
use Rattle.go_expr.specs.Views.{Fails, all_of, AnswersAt}
use Rattle.go_typed.specs.Trees as typed
use Rattle.go_typed.specs.Trees.{expr_type}
use Rattle.go_typed.specs.Views.{as_expr as typed_expr, as_clause as typed_clause}
use Rattle.go_stmt.specs.Scopes.{Context, Checked, leave, follow, single}
use Rattle.go_stmt.specs.Rules.{SwitchClause as ClauseValue, clause_verdict, looped, switched}
use Rattle.go_stmt.specs.Views.{context_of, env_of, typed_in, trees_in, switch_of, cases_tree, clauses_trees, clauses_of, clause_in}
use Rattle.go_stmt.specs.Statements.{statement_at, else_at, optional_at, condition_at, block_at, block_context, before_others, in_loop, in_clause, leads_on, has_no_clauses, tag_at, cases_at, list_at, clauses_at}
use Rattle.go_stmt.proofs.Blocks.{turn, list_left}
use Rattle.go_stmt.proofs.Clauses.{clauses_left, cases_after}
use Rattle.go_stmt.proofs.Defining.{answers_err}
use Rattle.go_stmt.proofs.Leading.{goes_on, fails}
use Rattle.go_stmt.proofs.Sequences.{left, later_faults, later_after, appended_known}
use Rattle.go_stmt.proofs.Failing.{fails_front, fails_next, fails_inside, fails_upon, condition_after, tag_after}
use Rattle.go_stmt.proofs.Shown.{answer_as, after_as, answered_inside, answered_upon, after_upon, on_ok}
use Rattle.go_stmt.proofs.statement.+check.Goals as goal

pub check_else-returns-in-Block-clause-answer : goal.check_else-returns-in-Block-clause-answer
check_else-returns-in-Block-clause-answer t c =
    answer_as typed_in _ (λ s. else_at (context_of c.args.context) s (env_of c.args.env.now)) _ _ (ap else_of c.in-Block.is ∙ else_block_seen _) c.check_block.ensures.answer

pub check_else-returns-in-Block-clause-after : goal.check_else-returns-in-Block-clause-after
check_else-returns-in-Block-clause-after t c =
    after_as _ (λ s. else_at (context_of c.args.context) s (env_of c.args.env.now)) _ _ _ (ap else_of c.in-Block.is ∙ else_block_seen _) c.check_block.ensures.after

pub check_else-returns-in-If-clause-answer : goal.check_else-returns-in-If-clause-answer
check_else-returns-in-If-clause-answer t c =
    answer_as typed_in _ (λ s. else_at (context_of c.args.context) s (env_of c.args.env.now)) _ _ (ap else_of c.in-If.is ∙ else_if_seen _ _ (sym c.deref.ensures)) c.check_if.ensures.answer

pub check_else-returns-in-If-clause-after : goal.check_else-returns-in-If-clause-after
check_else-returns-in-If-clause-after t c =
    after_as _ (λ s. else_at (context_of c.args.context) s (env_of c.args.env.now)) _ _ _ (ap else_of c.in-If.is ∙ else_if_seen _ _ (sym c.deref.ensures)) c.check_if.ensures.after

pub check_statement-returns-in-If-clause-answer : goal.check_statement-returns-in-If-clause-answer
check_statement-returns-in-If-clause-answer t c =
    answer_as typed_in _ (λ s. statement_at (context_of c.args.context) s (env_of c.args.env.now)) _ _ (ap stmt_of c.in-If.is ∙ if_seen _) c.check_if.ensures.answer

pub check_statement-returns-in-If-clause-after : goal.check_statement-returns-in-If-clause-after
check_statement-returns-in-If-clause-after t c =
    after_as _ (λ s. statement_at (context_of c.args.context) s (env_of c.args.env.now)) _ _ _ (ap stmt_of c.in-If.is ∙ if_seen _) c.check_if.ensures.after

pub check_statement-returns-in-For-clause-answer : goal.check_statement-returns-in-For-clause-answer
check_statement-returns-in-For-clause-answer t c =
    answer_as typed_in _ (λ s. statement_at (context_of c.args.context) s (env_of c.args.env.now)) _ _ (ap stmt_of c.in-For.is ∙ for_seen _) c.check_for.ensures.answer

pub check_statement-returns-in-For-clause-after : goal.check_statement-returns-in-For-clause-after
check_statement-returns-in-For-clause-after t c =
    after_as _ (λ s. statement_at (context_of c.args.context) s (env_of c.args.env.now)) _ _ _ (ap stmt_of c.in-For.is ∙ for_seen _) c.check_for.ensures.after

pub check_statement-returns-in-Range-clause-answer : goal.check_statement-returns-in-Range-clause-answer
check_statement-returns-in-Range-clause-answer t c =
    answer_as typed_in _ (λ s. statement_at (context_of c.args.context) s (env_of c.args.env.now)) _ _ (ap stmt_of c.in-Range.is ∙ range_seen _) c.check_range.ensures.answer

pub check_statement-returns-in-Range-clause-after : goal.check_statement-returns-in-Range-clause-after
check_statement-returns-in-Range-clause-after t c =
    after_as _ (λ s. statement_at (context_of c.args.context) s (env_of c.args.env.now)) _ _ _ (ap stmt_of c.in-Range.is ∙ range_seen _) c.check_range.ensures.after

pub check_statement-returns-in-Switch-clause-answer : goal.check_statement-returns-in-Switch-clause-answer
check_statement-returns-in-Switch-clause-answer t c =
    answer_as typed_in _ (λ s. statement_at (context_of c.args.context) s (env_of c.args.env.now)) _ _ (ap stmt_of c.in-Switch.is ∙ switch_seen _ _ _ _ ∙ ap (λ l. switch_of c.in-Switch.place c.in-Switch.before c.in-Switch.tag l) (sym c.deref-in-Switch.ensures.value)) c.check_switch.ensures.answer

pub check_statement-returns-in-Switch-clause-after : goal.check_statement-returns-in-Switch-clause-after
check_statement-returns-in-Switch-clause-after t c =
    after_as _ (λ s. statement_at (context_of c.args.context) s (env_of c.args.env.now)) _ _ _ (ap stmt_of c.in-Switch.is ∙ switch_seen _ _ _ _ ∙ ap (λ l. switch_of c.in-Switch.place c.in-Switch.before c.in-Switch.tag l) (sym c.deref-in-Switch.ensures.value)) c.check_switch.ensures.after

pub check_statement-returns-in-Block-clause-answer : goal.check_statement-returns-in-Block-clause-answer
check_statement-returns-in-Block-clause-answer t c =
    answer_as typed_in _ (λ s. statement_at (context_of c.args.context) s (env_of c.args.env.now)) _ _ (ap stmt_of c.in-Block.is ∙ block_seen _) c.check_inner.ensures.answer

pub check_statement-returns-in-Block-clause-after : goal.check_statement-returns-in-Block-clause-after
check_statement-returns-in-Block-clause-after t c =
    after_as _ (λ s. statement_at (context_of c.args.context) s (env_of c.args.env.now)) _ _ _ (ap stmt_of c.in-Block.is ∙ block_seen _) c.check_inner.ensures.after

-- faults of parts of loops and switches

pub check_for-returns-in_err-post-clause-answer : goal.check_for-returns-in_err-post-clause-answer
check_for-returns-in_err-post-clause-answer t c =
    let k = context_of c.args.context in
    let s = c.args.s.now in
    let before = optional_at k s.place (if_boxed simple_of s.init) in
    let condition = condition_at k (if_boxed expr_of s.condition) in
    let post = optional_at k s.place (if_boxed simple_of s.post) in
    let body = block_at (in_loop k) (block_of s.body) in
    let there = env_of c.check_optional.new.env in
    let e = c.in_err-post.field-0.0 in
    let p = err_from_is_err_and c.from_residual-in_err-post.result c.from_residual-in_err-post.ensures.1 in
    rw (p.1, p.2)
    (fails_inside e s.place (λ x. looped x.0 (x.1).0 ((x.1).1).0 ((x.1).1).1) (follow before (follow condition (follow post body))) (env_of c.args.env.now) (env_of c.enter.new.self) c.in_ok-enter.ensures
    (fails_next e before (follow condition (follow post body)) (env_of c.enter.new.self) there c.in_ok-before.ensures.answer.0 c.in_ok-before.ensures.after
    (fails_next e condition (follow post body) there there c.in_ok-condition.ensures.0 (condition_after k (if_boxed expr_of s.condition) there)
    (fails_front e (post there).faults (body (post there).after).faults c.in_err-post.ensures.answer))))

pub check_for-returns-in_err-body-clause-answer : goal.check_for-returns-in_err-body-clause-answer
check_for-returns-in_err-body-clause-answer t c =
    let k = context_of c.args.context in
    let s = c.args.s.now in
    let before = optional_at k s.place (if_boxed simple_of s.init) in
    let condition = condition_at k (if_boxed expr_of s.condition) in
    let post = optional_at k s.place (if_boxed simple_of s.post) in
    let body = block_at (in_loop k) (block_of s.body) in
    let there = env_of c.check_optional.new.env in
    let behind = env_of c.check_optional-2.new.env in
    let e = c.in_err-body.field-0.0 in
    let told = subst (λ (x : Context). Fails e (block_at x (block_of s.body) behind).faults) c.in_loop.ensures c.in_err-body.ensures.answer in
    let p = err_from_is_err_and c.from_residual-in_err-body.result c.from_residual-in_err-body.ensures.1 in
    rw (p.1, p.2)
    (fails_inside e s.place (λ x. looped x.0 (x.1).0 ((x.1).1).0 ((x.1).1).1) (follow before (follow condition (follow post body))) (env_of c.args.env.now) (env_of c.enter.new.self) c.in_ok-enter.ensures
    (fails_next e before (follow condition (follow post body)) (env_of c.enter.new.self) there c.in_ok-before.ensures.answer.0 c.in_ok-before.ensures.after
    (fails_next e condition (follow post body) there there c.in_ok-condition.ensures.0 (condition_after k (if_boxed expr_of s.condition) there)
    (fails_next e post body there behind c.in_ok-post.ensures.answer.0 c.in_ok-post.ensures.after told))))

pub check_switch-returns-in_err-clauses-clause-answer : goal.check_switch-returns-in_err-clauses-clause-answer
check_switch-returns-in_err-clauses-clause-answer t c =
    let k = context_of c.args.context in
    let place = c.args.place in
    let o = if_boxed expr_of c.args.tag.now in
    let before = optional_at k place (if_boxed simple_of c.args.before.now) in
    let tag = tag_at k o in
    let of = option_map (λ x. default_type (expr_type x)) in
    let clauses = λ (v : Option typed.Expr). clauses_at k (of v) false (clauses_trees c.args.clauses.now) in
    let there = env_of c.check_optional.new.env in
    let e = c.in_err-clauses.field-0.0 in
    let p = err_from_is_err_and c.from_residual-in_err-clauses.result c.from_residual-in_err-clauses.ensures.1 in
    let told = subst (λ (v : Option Type'). Fails e (clauses_at k v false (clauses_trees c.args.clauses.now) there).faults) c.in_ok-of.ensures c.in_err-clauses.ensures.answer in
    rw (p.1, p.2)
    (fails_upon e place (λ x. switched x.0 (x.1).0 (x.1).1) before tag clauses (env_of c.args.env.now) (env_of c.enter.new.self) there (option_map typed_expr c.in_ok-tag.tag) c.in_ok-enter.ensures
    c.in_ok-before.ensures.answer.0 c.in_ok-before.ensures.after c.in_ok-tag.ensures.0 c.in_ok-tag.ensures.1 (tag_after k o there) told)

pub check_switch-returns-clause-answer : goal.check_switch-returns-clause-answer
check_switch-returns-clause-answer t c =
    let k = context_of c.args.context in
    let place = c.args.place in
    let o = if_boxed expr_of c.args.tag.now in
    let before = optional_at k place (if_boxed simple_of c.args.before.now) in
    let of = option_map (λ x. default_type (expr_type x)) in
    let cs = clauses_trees c.args.clauses.now in
    let clauses = λ (v : Option typed.Expr). clauses_at k (of v) false cs in
    let there = env_of c.check_optional.new.env in
    let type : of (option_map typed_expr c.in_ok-tag.tag) ≡ option_map go_type c.in_ok-of.of = sym c.in_ok-of.ensures in
    answered_upon place (λ x. switched x.0 (x.1).0 (x.1).1) before (tag_at k o) clauses typed_in c.switched.result (env_of c.args.env.now) (env_of c.enter.new.self) there
    (option_map typed_in c.in_ok-before.before) (option_map typed_expr c.in_ok-tag.tag) (option_map clauses_of c.in_ok-clauses.clauses) c.in_ok-enter.ensures
    c.in_ok-before.ensures.answer.0 c.in_ok-before.ensures.answer.1 c.in_ok-before.ensures.after c.in_ok-tag.ensures.0 c.in_ok-tag.ensures.1 (tag_after k o there)
    (ap (λ v. (clauses_at k v false cs there).faults) type ∙ c.in_ok-clauses.ensures.answer.0) (ap (λ v. (clauses_at k v false cs there).known) type ∙ c.in_ok-clauses.ensures.answer.1) c.switched.ensures

pub check_switch-returns-clause-after : goal.check_switch-returns-clause-after
check_switch-returns-clause-after t c =
    let k = context_of c.args.context in
    let place = c.args.place in
    let o = if_boxed expr_of c.args.tag.now in
    let before = optional_at k place (if_boxed simple_of c.args.before.now) in
    let of = option_map (λ x. default_type (expr_type x)) in
    let cs = clauses_trees c.args.clauses.now in
    let clauses = λ (v : Option typed.Expr). clauses_at k (of v) false cs in
    let there = env_of c.check_optional.new.env in
    let type : of (option_map typed_expr c.in_ok-tag.tag) ≡ option_map go_type c.in_ok-of.of = sym c.in_ok-of.ensures in
    on_ok c.switched.result _
    (after_upon place (λ x. switched x.0 (x.1).0 (x.1).1) before (tag_at k o) clauses (env_of c.args.env.now) (env_of c.enter.new.self) there _ (option_map typed_expr c.in_ok-tag.tag) c.in_ok-enter.ensures
    c.in_ok-before.ensures.after c.in_ok-tag.ensures.1 (tag_after k o there)
    (c.leave.ensures ∙ ap leave (c.in_ok-clauses.ensures.after ∙ ap (λ v. (clauses_at k v false cs there).after) (sym type))))

-- statements of a block

pub check_list-loop-i-preserved : goal.check_list-loop-i-preserved
check_list-loop-i-preserved t c =
    let k = context_of c.args.context in
    let ss = c.args.statements.now in
    let i = c.loop-i.i in
    let s = c.index-statements-i.result in
    let env = env_of c.loop-i.env in
    let rest = drop (i + 1) ss in
    let here : context_of c.before_others-here.result ≡ before_others (turn k ss i) (trees_in rest) =
    c.before_others-here.ensures ∙ ap (λ (l : List Stmt). before_others (context_of c.behind.result) (trees_in l)) (take_rest ss (i + 1))
    ∙ ap (λ (x : Context). before_others x (trees_in rest)) c.behind.ensures in
    goes_on (statement_at (context_of c.before_others-here.result) (stmt_of s)) (list_at (turn k ss (i + 1)) (trees_in rest)) env (env_of c.check_statement.new.env)
    (list_at (block_context k) (trees_in ss) (env_of c.args.env.now)) (list_at (turn k ss i) (trees_in (drop i ss)) env)
    (option_map typed_in c.loop-i.known) (option_map typed_in c.in_ok-known.known) (option_map typed_in c.in_ok-more.more)
    (list_left k (context_of c.before_others-here.result) ss i s env (omega arith) c.index-statements-i.is here)
    c.loop-i.invariant c.in_ok-more.ensures.answer.0 c.in_ok-more.ensures.answer.1 c.in_ok-more.ensures.after c.in_ok-known.ensures

pub check_list-returns-in_err-more-clause-answer : goal.check_list-returns-in_err-more-clause-answer
check_list-returns-in_err-more-clause-answer t c =
    let k = context_of c.args.context in
    let ss = c.args.statements.now in
    let i = c.loop-i.i in
    let s = c.index-statements-i.result in
    let env = env_of c.loop-i.env in
    let rest = drop (i + 1) ss in
    let e = c.in_err-more.field-0.0 in
    let all = list_at (block_context k) (trees_in ss) (env_of c.args.env.now) in
    let here : context_of c.before_others-here.result ≡ before_others (turn k ss i) (trees_in rest) =
    c.before_others-here.ensures ∙ ap (λ (l : List Stmt). before_others (context_of c.behind.result) (trees_in l)) (take_rest ss (i + 1))
    ∙ ap (λ (x : Context). before_others x (trees_in rest)) c.behind.ensures in
    answers_err typed_in c.from_residual.result e all c.from_residual.ensures.1
    (fails e (statement_at (context_of c.before_others-here.result) (stmt_of s)) (list_at (turn k ss (i + 1)) (trees_in rest)) env all (list_at (turn k ss i) (trees_in (drop i ss)) env)
    (option_map typed_in c.loop-i.known) (list_left k (context_of c.before_others-here.result) ss i s env (omega arith) c.index-statements-i.is here)
    c.loop-i.invariant c.in_err-more.ensures.answer)

-- clauses

pub check_clause-returns-clause-answer : goal.check_clause-returns-clause-answer
check_clause-returns-clause-answer t c =
    let k = context_of c.args.context in
    let s = c.args.s.now in
    let ss = trees_in s.statements.items in
    let last = c.args.last in
    let v = option_map go_type c.args.tag.now in
    let there = env_of c.enter.new.self in
    let values = cases_at k (cases_tree s.values) in
    let body = list_at (in_clause k (not last)) ss in
    let a = option_map (option_map (all_of typed_expr)) c.in_ok-values.values in
    let b = option_map typed_in c.in_ok-body.body in
    let same : list_at (block_context (context_of c.in_clause.result)) (trees_in c.deref.result.now) there ≡ body there =
    ap (λ (x : Context). list_at (block_context x) (trees_in c.deref.result.now) there) c.in_clause.ensures ∙ ap (λ (l : List Stmt). list_at (in_clause k (not last)) (trees_in l) there) c.deref.ensures.value in
    let falls : c.falls_through-falls.result ≡ (leads_on ss && not last) =
    c.falls_through-falls.ensures ∙ ap (λ (l : List Stmt). leads_on (trees_in l) && not last) c.deref-2.ensures.value in
    let rule = λ (f : Bool) (x : Option (List typed.Expr) × List typed.Stmt). clause_verdict v c.args.again f x.0 x.1 in
    let told = subst (λ (f : Bool). AnswersAt typed_clause c.clause.result s.place (asked (rule f) (both a b))) falls c.clause.ensures in
    answered_inside typed_clause c.clause.result s.place (rule (leads_on ss && not last)) values body (env_of c.args.env.now) there there a b c.in_ok-enter.ensures
    c.in_ok-values.ensures.0 c.in_ok-values.ensures.1 (cases_after k (cases_tree s.values) there)
    (sym (ap (λ (x : Checked (List typed.Stmt)). x.faults) same) ∙ c.in_ok-body.ensures.answer.0) (sym (ap (λ (x : Checked (List typed.Stmt)). x.known) same) ∙ c.in_ok-body.ensures.answer.1) told

pub check_clauses-loop-i-preserved : goal.check_clauses-loop-i-preserved
check_clauses-loop-i-preserved t c =
    let k = context_of c.args.context in
    let v = option_map go_type c.args.tag.now in
    let cs = c.args.clauses.now in
    let i = c.loop-i.i in
    let s = c.index-clauses-i.result in
    let again = c.loop-i.again in
    let more = c.has_default-again.result in
    let env = env_of c.loop-i.env in
    let there = env_of c.check_clause.new.env in
    let first = single (clause_in k v again c.is_last-last.result s) in
    let second = clauses_at k v more (clauses_trees (drop (i + 1) cs)) in
    let within : i < length cs = omega arith in
    let end : c.is_last-last.result ≡ has_no_clauses (clauses_trees (drop (i + 1) cs)) = c.is_last-last.ensures ∙ ap (λ (l : List Clause). has_no_clauses (clauses_trees l)) (take_rest cs (i + 1)) in
    let same = clauses_left k v again c.is_last-last.result more cs i s env (left cs i s within c.index-clauses-i.is) end c.has_default-again.ensures in
    let none = c.in_ok-more.ensures.answer.0 in
    let after = c.in_ok-more.ensures.after in
    let done = option_map clauses_of c.loop-i.known in
    let next = option_map (λ (x : ClauseValue). x ∷ []) (option_map typed_clause c.in_ok-more.more) in
    record {
      faults = sym (later_faults first second env there none after) ∙ sym (ap (λ (x : Checked (List ClauseValue)). x.faults) same) ∙ c.loop-i.invariant.faults;
      known = appended_known first second env there _ done (option_map clauses_of c.in_ok-known.known) next
          (c.loop-i.invariant.known ∙ ap (λ (x : Checked (List ClauseValue)). option_map (λ k. k.0 ++ k.1) (both done x.known)) same)
          (ap (option_map (λ (x : ClauseValue). x ∷ [])) c.in_ok-more.ensures.answer.1) after c.in_ok-known.ensures;
      after = sym (later_after first second env there after) ∙ sym (ap (λ (x : Checked (List ClauseValue)). x.after) same) ∙ c.loop-i.invariant.after;
    }
