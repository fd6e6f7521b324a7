use Rattle.std.proofs.Common.{◌≡◌, sym, ap, ◌∙◌, subst, map}
use Rattle.std.proofs.lemmas.Str.{is_utf8-from_IsUtf8}
use Rattle.std.specs.Prelude.{Err}
use Rattle.ws_report.specs.Reports.{id_row}
use Rattle.ws_command.specs.IdsPrinting.{ids_text}
use Rattle.ws_session.specs.Representation.{replica_index, HasNoFilesAt, AreIdsAt}
use Rattle.ws_session.proofs.Utf8.{not_utf8}
use Rattle.ws_session.proofs.Standings.{if_ok_map}
use Rattle.ws_session.proofs.IdsTelling.{ids_unknown, ids_word, ids_none, ids_told}
use Rattle.ws_session.proofs.replicas.ids_target.Goals as goal

pub returns-in_default : goal.returns-in_default
returns-in_default g c = if_ok_map c.refused.result (λ told t text world same h.
    ids_unknown c.args.name.now c.args.word.now text world c.args.named.now.items h told.items (ap (replica_index c.args.name.now) (sym c.as_slice.ensures.value) ∙ sym c.in_default.ensures.value) t) c.refused.ensures

pub returns-in_default-from_utf8 : goal.returns-in_default-from_utf8
returns-in_default-from_utf8 g c =
    let e = ap (replica_index c.args.name.now) (sym c.as_slice.ensures.value) ∙ sym c.in-Some.ensures.value in
    if_ok_map c.refused-in_default-from_utf8.result (λ told t text world same h.
    ids_word c.args.name.now c.args.word.now text world c.args.named.now.items h c.in-Some.index e told.items (not_utf8 c.args.word.now c.in_default-from_utf8.ensures.cases.0) t) c.refused-in_default-from_utf8.ensures

pub returns-in-Ok-ids_at : goal.returns-in-Ok-ids_at
returns-in-Ok-ids_at g c =
    let e = ap (replica_index c.args.name.now) (sym c.as_slice.ensures.value) ∙ sym c.in-Some.ensures.value in
    let word : c.in-Ok.directory.now ≡ c.args.word.now = c.in-Ok.ensures.cases.0 in
    let rows = map id_row c.in-Ok-ids_at.lines.items in
    if_ok_map c.ids_lines.result (λ told t text world same h.
    ids_told c.args.name.now c.args.word.now text world c.args.named.now.items h c.in-Some.index e c.args.edition rows told.items same
    (is_utf8-from_IsUtf8 c.args.word.now c.in-Ok.ensures.cases.1)
    (t ∙ ap (λ d. ids_text c.args.name.now d (map id_row c.deref.result.now)) word ∙ ap (λ ls. ids_text c.args.name.now c.args.word.now (map id_row ls)) c.deref.ensures.value)
    (subst (λ d. AreIdsAt c.args.edition d c.args.named.now.items c.in-Some.index rows) word c.in-Ok-ids_at.ensures.ok)) c.ids_lines.ensures

pub returns-in-Err-NoPackage : goal.returns-in-Err-NoPackage
returns-in-Err-NoPackage g c =
    let e = ap (replica_index c.args.name.now) (sym c.as_slice.ensures.value) ∙ sym c.in-Some.ensures.value in
    let word : c.in-Ok.directory.now ≡ c.args.word.now = c.in-Ok.ensures.cases.0 in
    let none = c.ids_at.ensures.none (c.in-Err-NoPackage.is ∙ ap (λ x. Err x) c.in-Err-NoPackage.field-0-is) in
    if_ok_map c.refused-in-Err-NoPackage.result (λ told t text world same h.
    ids_none c.args.name.now c.args.word.now text world c.args.named.now.items h c.in-Some.index e told.items (is_utf8-from_IsUtf8 c.args.word.now c.in-Ok.ensures.cases.1) t
    (subst (λ d. HasNoFilesAt world.edition d c.args.named.now.items c.in-Some.index) word
    (subst (λ n. HasNoFilesAt n c.in-Ok.directory.now c.args.named.now.items c.in-Some.index) same none))) c.refused-in-Err-NoPackage.ensures
