use Rattle.std.proofs.Common.{◌∙◌, ap, Err, Option, List, ℕ, arith, option_map}
use Rattle.std.proofs.lemmas.Result.{err_from_is_err_and}
use Rattle.goset_cli.proofs.Keeps.{kept_all, kept_becomes, kept_unanswered, kept_unbegun, kept_unreplaced, unanswered_reads, unanswered_writes, unreplaced_counts}
use Rattle.goset_cli.proofs.keeping.run_kept.Goals as goal

-- what a store holds under a name
abbrev At : List ℕ → (List ℕ → Option (List ℕ)) → Option (List ℕ)
At name store = store name

pub returns-in_err-script-clause-run : goal.returns-in_err-script-clause-run
returns-in_err-script-clause-run g c =
    let p = err_from_is_err_and c.from_residual.result c.from_residual.ensures.1 in
    kept_unbegun _ _ _ _ _ _ _ _ _ _ (p.1 ∙ ap Err p.2) (ap (At c.args.options.now.name.now) c.begin.ensures.still) (c.in_err-script.ensures.refused (g.O.ScriptOut.written c.args.writer.now))

pub returns-in_err-script-clause-others : goal.returns-in_err-script-clause-others
returns-in_err-script-clause-others g c = λ other different. ap (At other) c.begin.ensures.still

pub returns-in_err-script-clause-reads : goal.returns-in_err-script-clause-reads
returns-in_err-script-clause-reads g c =
    let p = err_from_is_err_and c.from_residual.result c.from_residual.ensures.1 in
    let e = p.1 ∙ ap Err p.2 in
    rw e c.in_err-script.ensures.reads

pub returns-in_err-script-clause-writes : goal.returns-in_err-script-clause-writes
returns-in_err-script-clause-writes g c =
    let p = err_from_is_err_and c.from_residual.result c.from_residual.ensures.1 in
    let e = p.1 ∙ ap Err p.2 in
    rw e (omega (arith, c.in_err-script.ensures.writes))

pub returns-in_err-new-clause-run : goal.returns-in_err-new-clause-run
returns-in_err-new-clause-run g c =
    let p = err_from_is_err_and c.from_residual-in_err-new.result c.from_residual-in_err-new.ensures.1 in
    let begun = c.in_ok-script.ensures.begins in
    kept_unanswered _ _ _ _ _ _ _ _ _ _ _ begun.0 _ _ begun.2 begun.1 c.deref.ensures.value c.deref-2.ensures.value _ (p.1 ∙ ap Err p.2) (ap (At c.args.options.now.name.now) c.begin.ensures.still)
    c.in_err-new.ensures.err

pub returns-in_err-new-clause-others : goal.returns-in_err-new-clause-others
returns-in_err-new-clause-others g c = λ other different. ap (At other) c.begin.ensures.still

pub returns-in_err-new-clause-reads : goal.returns-in_err-new-clause-reads
returns-in_err-new-clause-reads g c =
    let p = err_from_is_err_and c.from_residual-in_err-new.result c.from_residual-in_err-new.ensures.1 in
    let none = unanswered_reads c.from_residual-in_err-new.result _ (p.1 ∙ ap Err p.2) in
    omega (arith, none, c.in_ok-script.ensures.reads)

pub returns-in_err-new-clause-writes : goal.returns-in_err-new-clause-writes
returns-in_err-new-clause-writes g c =
    let p = err_from_is_err_and c.from_residual-in_err-new.result c.from_residual-in_err-new.ensures.1 in
    unanswered_writes c.from_residual-in_err-new.result _ _ _ (p.1 ∙ ap Err p.2) c.in_err-new.ensures.failed

pub returns-in_err-keep-clause-run : goal.returns-in_err-keep-clause-run
returns-in_err-keep-clause-run g c =
    let p = err_from_is_err_and c.from_residual-in_err-keep.result c.from_residual-in_err-keep.ensures.1 in
    let begun = c.in_ok-script.ensures.begins in
    kept_unreplaced _ _ _ _ _ _ _ _ _ _ _ begun.0 _ _ begun.2 begun.1 c.deref.ensures.value c.deref-2.ensures.value _ _ (p.1 ∙ ap Err p.2)
    (ap (At c.args.options.now.name.now) (c.in_err-keep.ensures.err ∙ c.begin.ensures.still)) c.in_ok-new.ensures.ok

pub returns-in_err-keep-clause-others : goal.returns-in_err-keep-clause-others
returns-in_err-keep-clause-others g c = λ other different. c.keep.ensures.others other different ∙ ap (At other) c.begin.ensures.still

pub returns-in_err-keep-clause-reads : goal.returns-in_err-keep-clause-reads
returns-in_err-keep-clause-reads g c =
    let p = err_from_is_err_and c.from_residual-in_err-keep.result c.from_residual-in_err-keep.ensures.1 in
    let counts = unreplaced_counts c.from_residual-in_err-keep.result _ (p.1 ∙ ap Err p.2) in
    omega (arith, counts.0, c.in_ok-script.ensures.reads)

pub returns-in_err-keep-clause-writes : goal.returns-in_err-keep-clause-writes
returns-in_err-keep-clause-writes g c =
    let p = err_from_is_err_and c.from_residual-in_err-keep.result c.from_residual-in_err-keep.ensures.1 in
    let counts = unreplaced_counts c.from_residual-in_err-keep.result _ (p.1 ∙ ap Err p.2) in
    omega (arith, counts.1, c.in_ok-new.ensures.failed)

pub returns-clause-run : goal.returns-clause-run
returns-clause-run g c =
    let name = c.args.options.now.name.now in
    let begun = c.in_ok-script.ensures.begins in
    let still = ap (At name) c.begin.ensures.still in
    let store = g.S.Store.kept c.args.store.now name in
    let store' = g.S.Store.kept c.keep.new.store name in
    kept_all c.args.options.now.edition (option_map (λ digest. digest.now) c.args.options.now.expected) store store' (g.I.ScriptIn.told c.args.reader.now) (g.I.ScriptIn.told c.begin.new.reader)
    (g.O.ScriptOut.written c.args.writer.now) (g.O.ScriptOut.written c.resume.new.writer) _ _ begun.0 _ _ _ begun.2 begun.1 c.deref.ensures.value c.deref-2.ensures.value
    c.in_ok-new.ensures.ok c.in_ok-new.ensures.fits c.in_ok-script.ensures.fits
    (kept_becomes store _ store' _ _ _ _ still c.deref-3.ensures.value c.deref-4.ensures.value begun.2.0 c.in_ok-keep.ensures.ok)

pub returns-clause-others : goal.returns-clause-others
returns-clause-others g c = λ other different. c.keep.ensures.others other different ∙ ap (At other) c.begin.ensures.still

pub returns-clause-reads : goal.returns-clause-reads
returns-clause-reads g c = omega (arith, c.in_ok-script.ensures.reads)

pub returns-clause-writes : goal.returns-clause-writes
returns-clause-writes g c = omega (arith, c.in_ok-new.ensures.failed)
