use Rattle.std.proofs.Common.{ap, ◌∙◌, sym, map, inl, inr, Result}
use Rattle.clap.specs.Values.{kind_of}
use Rattle.goset_cli.specs.CommandLine.{run_faults}
use Rattle.goset_cli.specs.Runs.{run_code_of}
use Rattle.goset_cli.specs.Statuses.{FailsByKind, WritesOut, error_line}
use Rattle.goset_cli.specs.declared.running.SessionError.{SessionError}
use Rattle.goset_cli.specs.declared.status.Status.{Status}
use Rattle.goset_cli.proofs.Outcomes.{error_asked, error_wrong, memory_ended, on_done, on_failed, on_misused}
use Rattle.goset_cli.proofs.Runs.{code_known, is_failed, is_misused, is_shown, not_misused, ran_by, told_failure}
use Rattle.goset_cli.proofs.run.run_program.Goals as goal

pub returns-in-Ok-clause-known : goal.returns-in-Ok-clause-known
returns-in-Ok-clause-known g c = elim c.run_with.ensures.known [
  | inl small ↦ inl small
  | inr is ↦ inr (inr is)
]

pub returns-in-Ok-clause-ran : goal.returns-in-Ok-clause-ran
returns-in-Ok-clause-ran g c = λ none not_70.
    ran_by (map g.S.AsStr.text c.args.words.now) _ _ _ _ _ _ c.in-Ok.ensures.edition c.in-Ok.ensures.ticks c.in-Ok.ensures.plain (c.run_with.ensures.ran not_70)

pub returns-in-Ok-clause-asked : goal.returns-in-Ok-clause-asked
returns-in-Ok-clause-asked g c = λ some not_70 not_64. absurd (some c.in-Ok.ensures.refusals)

pub returns-in-Ok-clause-shown : goal.returns-in-Ok-clause-shown
returns-in-Ok-clause-shown g c = λ some not_70 not_64. absurd (some c.in-Ok.ensures.refusals)

pub returns-in-Ok-clause-misused : goal.returns-in-Ok-clause-misused
returns-in-Ok-clause-misused g c = λ is. absurd (not_misused _ c.run_with.ensures.known is)

pub returns-in-Ok-clause-explained : goal.returns-in-Ok-clause-explained
returns-in-Ok-clause-explained g c = λ is. absurd (not_misused _ c.run_with.ensures.known is)

pub returns-in-Ok-clause-unwritten : goal.returns-in-Ok-clause-unwritten
returns-in-Ok-clause-unwritten g c = λ is. absurd (not_misused _ c.run_with.ensures.known is)

pub returns-in-Err-clause-known : goal.returns-in-Err-clause-known
returns-in-Err-clause-known g c = rw c.run_code_of.ensures (code_known c.explain.result)

pub returns-in-Err-clause-ran : goal.returns-in-Err-clause-ran
returns-in-Err-clause-ran g c = λ none not_70.
    let memory = memory_ended (run_faults (map g.S.AsStr.text c.args.words.now)) c.in-Err.error c.explain.result c.in-Err.ensures.refusals none
    c.explain.ensures.asked c.explain.ensures.misused c.explain.ensures.fails in
    absurd (not_70 (c.run_code_of.ensures ∙ ap (λ (ended : Result Status SessionError). run_code_of ended) memory))

pub returns-in-Err-clause-asked : goal.returns-in-Err-clause-asked
returns-in-Err-clause-asked g c = λ some not_70 not_64.
    let done = is_shown c.explain.result (λ is. not_70 (c.run_code_of.ensures ∙ is)) (λ is. not_64 (c.run_code_of.ensures ∙ is)) in
    error_asked (run_faults (map g.S.AsStr.text c.args.words.now)) c.in-Err.error c.in-Err.ensures.refusals (on_done c.explain.result done c.explain.ensures.asked)

pub returns-in-Err-clause-shown : goal.returns-in-Err-clause-shown
returns-in-Err-clause-shown g c = λ some not_70 not_64.
    let done = is_shown c.explain.result (λ is. not_70 (c.run_code_of.ensures ∙ is)) (λ is. not_64 (c.run_code_of.ensures ∙ is)) in
    (c.run_code_of.ensures ∙ ap (λ (ended : Result Status SessionError). run_code_of ended) done, on_done c.explain.result done c.explain.ensures.shown)

pub returns-in-Err-clause-misused : goal.returns-in-Err-clause-misused
returns-in-Err-clause-misused g c = λ is.
    let misused = on_misused c.explain.result (is_misused c.explain.result (sym c.run_code_of.ensures ∙ is)) c.explain.ensures.misused in
    error_wrong (run_faults (map g.S.AsStr.text c.args.words.now)) c.in-Err.error c.in-Err.ensures.refusals misused.0 misused.1

pub returns-in-Err-clause-explained : goal.returns-in-Err-clause-explained
returns-in-Err-clause-explained g c = λ is.
    on_misused c.explain.result (is_misused c.explain.result (sym c.run_code_of.ensures ∙ is)) c.explain.ensures.explained

pub returns-in-Err-clause-unwritten : goal.returns-in-Err-clause-unwritten
returns-in-Err-clause-unwritten g c = λ is.
    let misused = on_misused c.explain.result (is_misused c.explain.result (sym c.run_code_of.ensures ∙ is)) c.explain.ensures.misused in
    c.explain.ensures.unwritten misused.0

pub returns-in-Err-clause-failed : goal.returns-in-Err-clause-failed
returns-in-Err-clause-failed g c = λ is.
    let f = is_failed c.explain.result (sym c.run_code_of.ensures ∙ is) in
    let failures = g.E.ScriptOut.failed in
    let written = g.E.ScriptOut.written in
    told_failure (failures c.args.errors.now) (failures c.explain.new.errors) (written c.args.errors.now) (written c.explain.new.errors) f.0
    (on_failed (FailsByKind (kind_of c.in-Err.error)) c.explain.result f.0 f.1 c.explain.ensures.fails)
    (on_failed (λ failure. WritesOut (error_line failure) (failures c.args.errors.now) (failures c.explain.new.errors) (written c.args.errors.now) (written c.explain.new.errors))
    c.explain.result f.0 f.1 c.explain.ensures.tells)
