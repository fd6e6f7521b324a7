use Rattle.std.proofs.Common.{[], None, ◌+◌, map, drop, ap}
use Rattle.std.specs.Option.{option_map}
use Rattle.go_ast.specs.Trees as trees
use Rattle.go_ast.specs.Trees.{no_exprs}
use Rattle.go_ast.specs.Views.{const_of}
use Rattle.go_stmt.specs.Views.{context_of, env_of, constant_spec, typed_in}
use Rattle.go_stmt.specs.Statements.{constants_at, group_at}
use Rattle.go_stmt.proofs.Defining.{answers_err}
use Rattle.go_stmt.proofs.Leading.{goes_on, fails}
use Rattle.go_stmt.proofs.Locals.{group_begins}
use Rattle.go_stmt.proofs.Sequences.{left}
use Rattle.go_stmt.proofs.constants.check_group.Goals as goal

pub returns-in_err-more-clause-answer : goal.returns-in_err-more-clause-answer
returns-in_err-more-clause-answer c =
    let context = context_of c.args.context in
    let specs = c.args.specs.now in
    let i = c.loop-iota.iota in
    let env = env_of c.loop-iota.env in
    let s = c.index-specs-iota.result in
    let e = c.in_err-more.field-0.0 in
    let before = constant_spec c.loop-iota.before in
    let now = constant_spec c.meant-before.result in
    let repeated = c.is_repeated-repeated.result in
    let rest = map const_of (drop (i + 1) specs) in
    let none : trees.ConstSpec = record { names = []; type = None; values = no_exprs } in
    let all = group_at context c.args.place 0 none (map const_of specs) (env_of c.args.env.now) in
    answers_err typed_in c.from_residual.result e all c.from_residual.ensures.1
    (fails e (constants_at context c.args.place i repeated now) (group_at context c.args.place (i + 1) now rest) env all (group_at context c.args.place i before (map const_of (drop i specs)) env)
    (option_map typed_in c.loop-iota.known)
    (group_begins context c.args.place i before now (const_of s) repeated (map const_of (drop i specs)) rest env (ap (map const_of) (left specs i s c.loop-iota-test.true c.index-specs-iota.is))
    c.is_repeated-repeated.ensures c.meant-before.ensures)
    c.loop-iota.invariant c.in_err-more.ensures.answer)

pub loop-iota-preserved : goal.loop-iota-preserved
loop-iota-preserved c =
    let context = context_of c.args.context in
    let specs = c.args.specs.now in
    let i = c.loop-iota.iota in
    let env = env_of c.loop-iota.env in
    let s = c.index-specs-iota.result in
    let before = constant_spec c.loop-iota.before in
    let now = constant_spec c.meant-before.result in
    let repeated = c.is_repeated-repeated.result in
    let rest = map const_of (drop (i + 1) specs) in
    let none : trees.ConstSpec = record { names = []; type = None; values = no_exprs } in
    let all = group_at context c.args.place 0 none (map const_of specs) (env_of c.args.env.now) in
    goes_on (constants_at context c.args.place i repeated now) (group_at context c.args.place (i + 1) now rest) env (env_of c.check_constants.new.env) all
    (group_at context c.args.place i before (map const_of (drop i specs)) env)
    (option_map typed_in c.loop-iota.known) (option_map typed_in c.in_ok-known.known) (option_map typed_in c.in_ok-more.more)
    (group_begins context c.args.place i before now (const_of s) repeated (map const_of (drop i specs)) rest env (ap (map const_of) (left specs i s c.loop-iota-test.true c.index-specs-iota.is))
    c.is_repeated-repeated.ensures c.meant-before.ensures)
    c.loop-iota.invariant c.in_ok-more.ensures.answer.0 c.in_ok-more.ensures.answer.1 c.in_ok-more.ensures.after c.in_ok-known.ensures
