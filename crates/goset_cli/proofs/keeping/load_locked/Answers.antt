use Rattle.std.proofs.Common.{◌∙◌, ap, subst, Err, List, ℕ, Option, option_map}
use Rattle.std.specs.Prelude.{IfErr, IfOk}
use Rattle.std.proofs.lemmas.Result.{err_from_is_err_and}
use Rattle.ws_keep.specs.Stored.{StoreHolds}
use Rattle.goset_cli.specs.KeptRuns.{NotLoaded}
use Rattle.goset_cli.proofs.keeping.load_locked.Goals as goal

pub returns-in_err-lock-clause-refused : goal.returns-in_err-lock-clause-refused
returns-in_err-lock-clause-refused g c =
    let p = err_from_is_err_and c.from_residual.result c.from_residual.ensures.1 in
    let e = p.1 ∙ ap Err p.2 in
    rw e tt

pub returns-clause-loaded : goal.returns-clause-loaded
returns-clause-loaded g c =
    subst (λ (s : List ℕ → Option (List ℕ)). IfOk c.load.result (λ kept. StoreHolds (s c.args.options.now.name.now) kept.items)) c.lock.ensures.still c.load.ensures.loaded

pub returns-clause-still : goal.returns-clause-still
returns-clause-still g c = c.load.ensures.still ∙ c.lock.ensures.still

pub returns-clause-refused : goal.returns-clause-refused
returns-clause-refused g c =
    subst (λ (s : List ℕ → Option (List ℕ)). IfErr c.load.result (λ e. NotLoaded (option_map (λ digest. digest.now) c.args.options.now.expected) e (s c.args.options.now.name.now)))
    c.lock.ensures.still c.load.ensures.refused
