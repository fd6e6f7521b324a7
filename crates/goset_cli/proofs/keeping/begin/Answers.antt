use Rattle.std.proofs.Common.{◌∙◌, ◌<◌, ◌+◌, ap, subst, length, Err, List, ℕ, arith}
use Rattle.std.proofs.lemmas.Result.{err_from_is_err_and}
use Rattle.goset_cli.specs.Reading.{limit}
use Rattle.goset_cli.proofs.Outcomes.{stays}
use Rattle.goset_cli.proofs.Keeps.{begun_no_memory, begun_unloaded, begun_unread, memory_counted, memory_unwrote, unloaded_counted, unloaded_unwrote, unread_counted, unread_unwrote}
use Rattle.goset_cli.proofs.keeping.begin.Goals as goal

pub returns-in_err-bytes-clause-refused : goal.returns-in_err-bytes-clause-refused
returns-in_err-bytes-clause-refused g c = λ written.
    let p = err_from_is_err_and c.from_residual.result c.from_residual.ensures.1 in
    begun_unread _ _ _ _ _ _ written _ (p.1 ∙ ap Err p.2) c.in_err-bytes.ensures.was_read

pub returns-in_err-bytes-clause-reads : goal.returns-in_err-bytes-clause-reads
returns-in_err-bytes-clause-reads g c =
    let p = err_from_is_err_and c.from_residual.result c.from_residual.ensures.1 in
    unread_counted _ _ _ _ (p.1 ∙ ap Err p.2) c.in_err-bytes.ensures.failed

pub returns-in_err-bytes-clause-writes : goal.returns-in_err-bytes-clause-writes
returns-in_err-bytes-clause-writes g c =
    let p = err_from_is_err_and c.from_residual.result c.from_residual.ensures.1 in
    unread_unwrote _ _ (p.1 ∙ ap Err p.2)

pub returns-in_err-script-clause-refused : goal.returns-in_err-script-clause-refused
returns-in_err-script-clause-refused g c = λ written.
    let p = err_from_is_err_and c.from_residual-in_err-script.result c.from_residual-in_err-script.ensures.1 in
    begun_no_memory _ _ _ _ _ _ written (p.1 ∙ ap Err p.2)

pub returns-in_err-script-clause-reads : goal.returns-in_err-script-clause-reads
returns-in_err-script-clause-reads g c =
    let p = err_from_is_err_and c.from_residual-in_err-script.result c.from_residual-in_err-script.ensures.1 in
    memory_counted _ _ _ (p.1 ∙ ap Err p.2) (omega (arith, c.in_ok-bytes.ensures.failed))

pub returns-in_err-script-clause-writes : goal.returns-in_err-script-clause-writes
returns-in_err-script-clause-writes g c =
    let p = err_from_is_err_and c.from_residual-in_err-script.result c.from_residual-in_err-script.ensures.1 in
    memory_unwrote _ (p.1 ∙ ap Err p.2)

pub returns-in_err-kept-clause-refused : goal.returns-in_err-kept-clause-refused
returns-in_err-kept-clause-refused g c = λ written.
    let p = err_from_is_err_and c.from_residual-in_err-kept.result c.from_residual-in_err-kept.ensures.1 in
    begun_unloaded _ _ _ _ _ _ written _ _ (p.1 ∙ ap Err p.2) c.in_err-kept.ensures.refused c.in_ok-bytes.ensures.was_read

pub returns-in_err-kept-clause-reads : goal.returns-in_err-kept-clause-reads
returns-in_err-kept-clause-reads g c =
    let p = err_from_is_err_and c.from_residual-in_err-kept.result c.from_residual-in_err-kept.ensures.1 in
    unloaded_counted _ _ _ _ _ _ (p.1 ∙ ap Err p.2) c.in_err-kept.ensures.refused (omega (arith, c.in_ok-bytes.ensures.failed))

pub returns-in_err-kept-clause-writes : goal.returns-in_err-kept-clause-writes
returns-in_err-kept-clause-writes g c =
    let p = err_from_is_err_and c.from_residual-in_err-kept.result c.from_residual-in_err-kept.ensures.1 in
    unloaded_unwrote _ _ _ _ (p.1 ∙ ap Err p.2) c.in_err-kept.ensures.refused

pub returns-then-is_full-clause-refused : goal.returns-then-is_full-clause-refused
returns-then-is_full-clause-refused g c = λ written.
    let long : limit < length c.in_ok-kept.kept.items + length c.in_ok-script.script.items + 2 =
    omega (arith, c.len.ensures, c.len-2.ensures, c.in_ok-kept.kept.ok.0, c.in_ok-script.script.ok.0, c.if-is_full.true) in (
      c.in_ok-kept.kept.items,
      c.in_ok-bytes.bytes.items,
      (c.in_ok-kept.ensures.loaded, c.in_ok-kept.ensures.expected, c.in_ok-bytes.ensures.was_read),
      subst (λ (s : List ℕ). limit < length c.in_ok-kept.kept.items + length s + 2) c.in_ok-script.ensures long,
      stays written,
    )

pub returns-then-is_full-clause-reads : goal.returns-then-is_full-clause-reads
returns-then-is_full-clause-reads g c = omega (arith, c.in_ok-bytes.ensures.failed)

pub returns-clause-begins : goal.returns-clause-begins
returns-clause-begins g c =
    (c.in_ok-bytes.bytes.items, c.in_ok-script.ensures, (c.in_ok-kept.ensures.loaded, c.in_ok-kept.ensures.expected, c.in_ok-bytes.ensures.was_read))

pub returns-clause-reads : goal.returns-clause-reads
returns-clause-reads g c = omega (arith, c.in_ok-bytes.ensures.failed)
