use Rattle.std.proofs.Common.{◌≤◌, ◌<◌, length, sym, subst, arith}
use Rattle.std.specs.Prelude.{◌^◌}
use Rattle.std.specs.List.{sum_by}
use Rattle.std.proofs.lemmas.List.{take_all}
use Rattle.ws_board.specs.Rows.{AreFirstRows, AreImporters, AreKnownBy, import_count}
use Rattle.ws_board.proofs.Importing.{first_known}
use Rattle.ws_board.proofs.rows.Rows.new.Goals as goal

pub returns-clause-first : goal.returns-clause-first
returns-clause-first c =
    let J = c.args.jobs.items in
    let I = c.in_ok-importers.importers.items in
    let R = c.in_ok-rows.rows.items in
    subst (AreFirstRows J I (length J)) (sym c.new.ensures) (subst (λ i. AreFirstRows J i (length J) R) c.deref-4.ensures.value (subst (λ j. AreFirstRows j c.deref-4.result.now (length j) R) c.deref-3.ensures.value c.in_ok-rows.ensures))

pub returns-clause-known : goal.returns-clause-known
returns-clause-known c =
    let J = c.args.jobs.items in
    let I = c.in_ok-importers.importers.items in
    let R = c.in_ok-rows.rows.items in
    let first : AreFirstRows J I (length J) R = subst (λ i. AreFirstRows J i (length J) R) c.deref-4.ensures.value (subst (λ j. AreFirstRows j c.deref-4.result.now (length j) R) c.deref-3.ensures.value c.in_ok-rows.ensures) in
    let are : AreImporters J (length J) I = subst (λ j. AreImporters j (length j) I) c.deref-2.ensures.value c.in_ok-importers.ensures in
    let fits : import_count J < 2 ^ 64 = subst (λ j. import_count j < 2 ^ 64) c.deref.ensures.value c.in_ok-count_imports.ensures.fits in
    subst (AreKnownBy J I) (sym c.new.ensures) (first_known J I R first are fits)

pub returns-clause-count : goal.returns-clause-count
returns-clause-count c =
    let J = c.args.jobs.items in
    let I = c.in_ok-importers.importers.items in
    let are : AreImporters J (length J) I = subst (λ j. AreImporters j (length j) I) c.deref-2.ensures.value c.in_ok-importers.ensures in
    subst (λ l. sum_by (λ list. length list) I ≤ import_count l) (take_all (length J) J (omega arith)) are.count
