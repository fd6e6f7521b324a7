use Rattle.std.proofs.Common.{arith, map}
use Rattle.clap.specs.Values.{kind_of}
use Rattle.goset_cli.specs.CommandLine.{option_faults}
use Rattle.goset_cli.proofs.Outcomes.{always, asks_of, error_unasked, fails_of, memory_ended, memory_session, memory_unasked, never_misused, no_reads, session_in, wrong_of}
use Rattle.goset_cli.proofs.program.run_words.Goals as goal

-- ---- words that ask for a session

pub returns-in-Ok-clause-session : goal.returns-in-Ok-clause-session
returns-in-Ok-clause-session g c = λ none. session_in _ _ _ _ _ _ _ c.in-Ok.ensures.edition c.run.ensures.session

pub returns-in-Ok-clause-asked : goal.returns-in-Ok-clause-asked
returns-in-Ok-clause-asked g c = λ some. absurd (some c.in-Ok.ensures.refusals)

pub returns-in-Ok-clause-shown : goal.returns-in-Ok-clause-shown
returns-in-Ok-clause-shown g c = λ some. absurd (some c.in-Ok.ensures.refusals)

pub returns-in-Ok-clause-silent : goal.returns-in-Ok-clause-silent
returns-in-Ok-clause-silent g c = always _ c.run.result c.run.ensures.silent

pub returns-in-Ok-clause-misused : goal.returns-in-Ok-clause-misused
returns-in-Ok-clause-misused g c = never_misused _ c.run.result c.run.ensures.done

pub returns-in-Ok-clause-explained : goal.returns-in-Ok-clause-explained
returns-in-Ok-clause-explained g c = never_misused _ c.run.result c.run.ensures.done

pub returns-in-Ok-clause-fails : goal.returns-in-Ok-clause-fails
returns-in-Ok-clause-fails g c = λ some. absurd (some c.in-Ok.ensures.refusals)

pub returns-in-Ok-clause-unwritten : goal.returns-in-Ok-clause-unwritten
returns-in-Ok-clause-unwritten g c = λ some none. absurd (some c.in-Ok.ensures.refusals)

-- ---- words that ask for none

pub returns-in-Err-clause-session : goal.returns-in-Err-clause-session
returns-in-Err-clause-session g c = λ none.
    let found = option_faults (map g.S.AsStr.text c.args.words.now) in
    let memory = memory_ended found c.in-Err.error c.explain.result c.in-Err.ensures.refusals none c.explain.ensures.asked c.explain.ensures.misused c.explain.ensures.fails in
    rw (c.explain.ensures.unwritten (memory_unasked found c.in-Err.error c.in-Err.ensures.refusals none)) (memory_session _ c.explain.result _ _ memory)

pub returns-in-Err-clause-asked : goal.returns-in-Err-clause-asked
returns-in-Err-clause-asked g c = λ some.
    asks_of (option_faults (map g.S.AsStr.text c.args.words.now)) c.in-Err.error c.explain.result c.in-Err.ensures.refusals c.explain.ensures.asked

pub returns-in-Err-clause-shown : goal.returns-in-Err-clause-shown
returns-in-Err-clause-shown g c = λ some. c.explain.ensures.shown

pub returns-in-Err-clause-misused : goal.returns-in-Err-clause-misused
returns-in-Err-clause-misused g c =
    wrong_of (option_faults (map g.S.AsStr.text c.args.words.now)) c.in-Err.error c.explain.result c.in-Err.ensures.refusals c.explain.ensures.misused

pub returns-in-Err-clause-fails : goal.returns-in-Err-clause-fails
returns-in-Err-clause-fails g c = λ some.
    fails_of (option_faults (map g.S.AsStr.text c.args.words.now)) c.in-Err.error c.explain.result c.in-Err.ensures.refusals c.explain.ensures.fails

pub returns-in-Err-clause-reads : goal.returns-in-Err-clause-reads
returns-in-Err-clause-reads g c = let none = no_reads (kind_of c.in-Err.error) c.explain.result c.explain.ensures.fails in omega (arith, none)

pub returns-in-Err-clause-unwritten : goal.returns-in-Err-clause-unwritten
returns-in-Err-clause-unwritten g c = λ some none.
    c.explain.ensures.unwritten (error_unasked (option_faults (map g.S.AsStr.text c.args.words.now)) c.in-Err.error c.in-Err.ensures.refusals none)
