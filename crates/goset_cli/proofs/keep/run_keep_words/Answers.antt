use Rattle.std.proofs.Common.{◌∙◌, ap, arith, map, subst, sym, Err, List, ℕ}
use Rattle.std.specs.Prelude.{◌≢◌}
use Rattle.std.proofs.lemmas.Result.{err_from_is_err_and}
use Rattle.clap.specs.Values.{kind_of}
use Rattle.goset_cli.specs.CommandLine.{keep_faults}
use Rattle.goset_cli.specs.declared.keeping.KeepError.TheVariants.{Session}
use Rattle.goset_cli.proofs.KeptOutcomes.{kept_by, memory_kept, same_writes}
use Rattle.goset_cli.proofs.Outcomes.{always, error_asked, error_unasked, error_wrong, fails_unasked, memory_unasked, never_misused, no_read, not_ended, only_memory}
use Rattle.goset_cli.proofs.keep.run_keep_words.Goals as goal

-- ---- words that ask for a session

pub returns-in-Ok-clause-kept : goal.returns-in-Ok-clause-kept
returns-in-Ok-clause-kept g c =
    kept_by (map g.S.AsStr.text c.args.words.now) _ _ _ c.run.result (g.K.Store.kept c.args.store.now) (g.K.Store.kept c.run.new.store) _ _ _ _
    c.in-Ok.ensures.edition c.in-Ok.ensures.expected c.in-Ok.ensures.name c.run.ensures.kept

pub returns-in-Ok-clause-others : goal.returns-in-Ok-clause-others
returns-in-Ok-clause-others g c = λ other apart. c.run.ensures.others other (subst (λ (n : List ℕ). other ≢ n) (sym c.in-Ok.ensures.name) apart)

pub returns-in-Ok-clause-asked : goal.returns-in-Ok-clause-asked
returns-in-Ok-clause-asked g c = λ some. absurd (some c.in-Ok.ensures.refusals)

pub returns-in-Ok-clause-shown : goal.returns-in-Ok-clause-shown
returns-in-Ok-clause-shown g c = λ some. absurd (some c.in-Ok.ensures.refusals)

pub returns-in-Ok-clause-silent : goal.returns-in-Ok-clause-silent
returns-in-Ok-clause-silent g c = always _ c.run.result c.run.ensures.silent

pub returns-in-Ok-clause-misused : goal.returns-in-Ok-clause-misused
returns-in-Ok-clause-misused g c = never_misused _ c.run.result c.run.ensures.done

pub returns-in-Ok-clause-explained : goal.returns-in-Ok-clause-explained
returns-in-Ok-clause-explained g c = never_misused _ c.run.result c.run.ensures.done

pub returns-in-Ok-clause-fails : goal.returns-in-Ok-clause-fails
returns-in-Ok-clause-fails g c = λ some. absurd (some c.in-Ok.ensures.refusals)

pub returns-in-Ok-clause-unwritten : goal.returns-in-Ok-clause-unwritten
returns-in-Ok-clause-unwritten g c = λ some none. absurd (some c.in-Ok.ensures.refusals)

-- ---- words that ask for none, where the text about them isn't written

pub returns-in_err-explain-in-Err-clause-kept : goal.returns-in_err-explain-in-Err-clause-kept
returns-in_err-explain-in-Err-clause-kept g c = λ none.
    let found = keep_faults (map g.S.AsStr.text c.args.words.now) in
    let p = err_from_is_err_and c.from_residual.result c.from_residual.ensures.1 in
    let unasked = memory_unasked found c.in-Err.error c.in-Err.ensures.refusals none in
    let memory = only_memory (kind_of c.in-Err.error) _ c.in_err-explain-in-Err.ensures.fails unasked in
    rw (c.in_err-explain-in-Err.ensures.unwritten unasked)
    (memory_kept (map g.S.AsStr.text c.args.words.now) c.from_residual.result (g.K.Store.kept c.args.store.now) (g.I.ScriptIn.told c.args.reader.now) (g.O.ScriptOut.written c.args.writer.now) (p.1 ∙ ap Err (p.2 ∙ ap Session memory)) none)

pub returns-in_err-explain-in-Err-clause-fails : goal.returns-in_err-explain-in-Err-clause-fails
returns-in_err-explain-in-Err-clause-fails g c = λ some.
    let p = err_from_is_err_and c.from_residual.result c.from_residual.ensures.1 in
    let e = p.1 ∙ ap Err p.2 in
    rw e (fails_unasked (keep_faults (map g.S.AsStr.text c.args.words.now)) c.in-Err.error _ c.in-Err.ensures.refusals c.in_err-explain-in-Err.ensures.fails)

pub returns-in_err-explain-in-Err-clause-tells : goal.returns-in_err-explain-in-Err-clause-tells
returns-in_err-explain-in-Err-clause-tells g c =
    let p = err_from_is_err_and c.from_residual.result c.from_residual.ensures.1 in
    let e = p.1 ∙ ap Err p.2 in
    rw e c.in_err-explain-in-Err.ensures.tells

pub returns-in_err-explain-in-Err-clause-reads : goal.returns-in_err-explain-in-Err-clause-reads
returns-in_err-explain-in-Err-clause-reads g c =
    let p = err_from_is_err_and c.from_residual.result c.from_residual.ensures.1 in
    let e = p.1 ∙ ap Err p.2 in
    let none = no_read (kind_of c.in-Err.error) _ c.in_err-explain-in-Err.ensures.fails in
    rw e (omega (arith, none))

pub returns-in_err-explain-in-Err-clause-writes : goal.returns-in_err-explain-in-Err-clause-writes
returns-in_err-explain-in-Err-clause-writes g c =
    let p = err_from_is_err_and c.from_residual.result c.from_residual.ensures.1 in
    let e = p.1 ∙ ap Err p.2 in
    let same = same_writes (kind_of c.in-Err.error) _ c.in_err-explain-in-Err.ensures.fails in
    rw e (omega (arith, same, c.in_err-explain-in-Err.ensures.writes))

pub returns-in_err-explain-in-Err-clause-unwritten : goal.returns-in_err-explain-in-Err-clause-unwritten
returns-in_err-explain-in-Err-clause-unwritten g c = λ some none.
    c.in_err-explain-in-Err.ensures.unwritten (error_unasked (keep_faults (map g.S.AsStr.text c.args.words.now)) c.in-Err.error c.in-Err.ensures.refusals none)

-- ---- and where it is

pub returns-in_ok-explain-in-Err-clause-kept : goal.returns-in_ok-explain-in-Err-clause-kept
returns-in_ok-explain-in-Err-clause-kept g c = λ none. absurd (not_ended (keep_faults (map g.S.AsStr.text c.args.words.now)) c.in-Err.error _
    c.in-Err.ensures.refusals none c.in_ok-explain-in-Err.ensures.asked c.in_ok-explain-in-Err.ensures.misused)

pub returns-in_ok-explain-in-Err-clause-asked : goal.returns-in_ok-explain-in-Err-clause-asked
returns-in_ok-explain-in-Err-clause-asked g c = λ some done.
    error_asked (keep_faults (map g.S.AsStr.text c.args.words.now)) c.in-Err.error c.in-Err.ensures.refusals (c.in_ok-explain-in-Err.ensures.asked done)

pub returns-in_ok-explain-in-Err-clause-misused : goal.returns-in_ok-explain-in-Err-clause-misused
returns-in_ok-explain-in-Err-clause-misused g c = λ is.
    let found = c.in_ok-explain-in-Err.ensures.misused is in
    error_wrong (keep_faults (map g.S.AsStr.text c.args.words.now)) c.in-Err.error c.in-Err.ensures.refusals found.0 found.1

pub returns-in_ok-explain-in-Err-clause-unwritten : goal.returns-in_ok-explain-in-Err-clause-unwritten
returns-in_ok-explain-in-Err-clause-unwritten g c = λ some none.
    c.in_ok-explain-in-Err.ensures.unwritten (error_unasked (keep_faults (map g.S.AsStr.text c.args.words.now)) c.in-Err.error c.in-Err.ensures.refusals none)
