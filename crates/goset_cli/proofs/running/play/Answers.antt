use Rattle.std.proofs.Common.{◌∙◌, ap, subst, Err, List, [], ℕ}
use Rattle.std.proofs.lemmas.Result.{err_from_is_err_and}
use Rattle.ws_session.specs.World.{empty_world}
use Rattle.goset_cli.specs.Ends.{Wrote, WroteSome}
use Rattle.goset_cli.proofs.Journals.{nothing_left, some_from_opening, wrote_from_opening}
use Rattle.goset_cli.proofs.Refused.{session_unanswered}
use Rattle.goset_cli.proofs.running.play.Goals as goal

pub returns-in_err-answer-clause-session : goal.returns-in_err-answer-clause-session
returns-in_err-answer-clause-session g c = λ edition h.
    let written = g.O.ScriptOut.written in
    let p = err_from_is_err_and c.from_residual-in_err-answer.result c.from_residual-in_err-answer.ensures.1 in
    let some = some_from_opening edition _ _ _ (c.in_err-answer.ensures.err edition [] (empty_world edition) (nothing_left edition) h) in
    let wrote = subst (λ (s : List ℕ). WroteSome edition s (written c.args.writer.now) (written c.answer.new.writer)) c.as_slice-script.ensures.value some in
    session_unanswered edition c.in_err-answer.field-0.0 _ _ _ _ _ c.in_ok-bytes.bytes.items (p.1 ∙ ap Err p.2) c.in_ok-bytes.ensures.was_read wrote

pub returns-clause-session : goal.returns-clause-session
returns-clause-session g c = λ edition h.
    let written = g.O.ScriptOut.written in
    let all = wrote_from_opening edition _ _ _ _ _ _ (c.in_ok-answer.ensures.ok edition [] (empty_world edition) (nothing_left edition) h) in
    let wrote = subst (λ (s : List ℕ). Wrote edition s (written c.args.writer.now) (written c.answer.new.writer)) c.as_slice-script.ensures.value all in
    (c.in_ok-bytes.bytes.items, c.in_ok-bytes.ensures.was_read, c.in_ok-bytes.ensures.fits, wrote)
