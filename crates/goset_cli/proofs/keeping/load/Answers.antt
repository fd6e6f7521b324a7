use Rattle.std.proofs.Common.{◌∙◌, ap, subst, Err, List, ℕ, option_map}
use Rattle.std.proofs.lemmas.Result.{err_from_is_err_and}
use Rattle.goset_cli.specs.KeptRuns.{IsExpected}
use Rattle.goset_cli.proofs.keeping.load.Goals as goal

pub returns-in_err-kept-clause-refused : goal.returns-in_err-kept-clause-refused
returns-in_err-kept-clause-refused g c =
    let p = err_from_is_err_and c.from_residual.result c.from_residual.ensures.1 in
    let e = p.1 ∙ ap Err p.2 in
    rw e tt

pub returns-in_err-same-clause-refused : goal.returns-in_err-same-clause-refused
returns-in_err-same-clause-refused g c =
    let p = err_from_is_err_and c.from_residual-in_err-same.result c.from_residual-in_err-same.ensures.1 in
    let e = p.1 ∙ ap Err p.2 in
    rw e tt

pub returns-then-same-clause-expected : goal.returns-then-same-clause-expected
returns-then-same-clause-expected g c =
    subst (λ (k : List ℕ). IsExpected (option_map (λ digest. digest.now) c.args.options.now.expected) k) c.deref.ensures.value (c.in_ok-same.ensures.is c.if-same.true)

pub returns-clause-refused : goal.returns-clause-refused
returns-clause-refused g c =
    let another = subst (λ (k : List ℕ). IsExpected (option_map (λ digest. digest.now) c.args.options.now.expected) k → ⊥) c.deref.ensures.value (c.in_ok-same.ensures.another c.if-same.false) in
    (c.in_ok-kept.kept.items, c.in_ok-kept.ensures.holds, another)
