use Rattle.std.proofs.Common.{◌≡◌, sym, ap, ◌∙◌, subst, None, Some, Option}
use Rattle.std.proofs.lemmas.Str.{is_utf8-from_IsUtf8}
use Rattle.std.specs.Prelude.{Err}
use Rattle.go_vm.specs.Outcomes.{ProgramOutcome}
use Rattle.ws_command.specs.RunPrinting.{run_text}
use Rattle.ws_session.specs.Representation.{replica_index, HasNoFilesAt, RanAt}
use Rattle.ws_session.proofs.Utf8.{not_utf8}
use Rattle.ws_session.proofs.Standings.{if_ok_map}
use Rattle.ws_session.proofs.RunTelling.{run_unknown, run_word, run_none, run_told}
use Rattle.ws_session.proofs.replicas.run_target.Goals as goal

pub returns-in_default : goal.returns-in_default
returns-in_default g c = if_ok_map c.refused.result (λ told t text world same h.
    run_unknown c.args.name.now c.args.word.now c.args.ticks text world c.args.named.now.items h told.items (ap (replica_index c.args.name.now) (sym c.as_slice.ensures.value) ∙ sym c.in_default.ensures.value) t) c.refused.ensures

pub returns-in_default-from_utf8 : goal.returns-in_default-from_utf8
returns-in_default-from_utf8 g c =
    let e = ap (replica_index c.args.name.now) (sym c.as_slice.ensures.value) ∙ sym c.in-Some.ensures.value in
    if_ok_map c.refused-in_default-from_utf8.result (λ told t text world same h.
    run_word c.args.name.now c.args.word.now c.args.ticks text world c.args.named.now.items h c.in-Some.index e told.items (not_utf8 c.args.word.now c.in_default-from_utf8.ensures.cases.0) t) c.refused-in_default-from_utf8.ensures

pub returns-in-Ok-Some : goal.returns-in-Ok-Some
returns-in-Ok-Some g c =
    let e = ap (replica_index c.args.name.now) (sym c.as_slice.ensures.value) ∙ sym c.in-Some.ensures.value in
    let word : c.in-Ok.directory.now ≡ c.args.word.now = c.in-Ok.ensures.cases.0 in
    let outcome : ProgramOutcome = c.in-Ok-Some.outcome in
    if_ok_map c.run_lines.result (λ told t text world same h.
    run_told c.args.name.now c.args.word.now c.args.ticks text world c.args.named.now.items h c.in-Some.index e c.args.edition (Some outcome) told.items same
    (is_utf8-from_IsUtf8 c.args.word.now c.in-Ok.ensures.cases.1)
    (t ∙ ap (λ d. run_text c.args.name.now d c.ending.result.now c.output.result.now) word ∙ ap (λ x. run_text c.args.name.now c.args.word.now x c.output.result.now) c.ending.ensures ∙ ap (run_text c.args.name.now c.args.word.now outcome.ending) c.output.ensures)
    (subst (λ d. RanAt c.args.edition d c.args.ticks c.args.named.now.items c.in-Some.index (Some outcome)) word
    (subst (λ (o : Option ProgramOutcome). RanAt c.args.edition c.in-Ok.directory.now c.args.ticks c.args.named.now.items c.in-Some.index o) c.in-Ok-Some.field-0-is c.in-Ok-Some.ensures.ok))) c.run_lines.ensures

pub returns-in-Ok-None : goal.returns-in-Ok-None
returns-in-Ok-None g c =
    let e = ap (replica_index c.args.name.now) (sym c.as_slice.ensures.value) ∙ sym c.in-Some.ensures.value in
    let word : c.in-Ok.directory.now ≡ c.args.word.now = c.in-Ok.ensures.cases.0 in
    if_ok_map c.refused-in-Ok-None.result (λ told t text world same h.
    run_told c.args.name.now c.args.word.now c.args.ticks text world c.args.named.now.items h c.in-Some.index e c.args.edition None told.items same
    (is_utf8-from_IsUtf8 c.args.word.now c.in-Ok.ensures.cases.1) t
    (subst (λ d. RanAt c.args.edition d c.args.ticks c.args.named.now.items c.in-Some.index None) word
    (subst (λ (o : Option ProgramOutcome). RanAt c.args.edition c.in-Ok.directory.now c.args.ticks c.args.named.now.items c.in-Some.index o) c.in-Ok-None.field-0-is c.in-Ok-None.ensures.ok))) c.refused-in-Ok-None.ensures

pub returns-in-Err-NoPackage : goal.returns-in-Err-NoPackage
returns-in-Err-NoPackage g c =
    let e = ap (replica_index c.args.name.now) (sym c.as_slice.ensures.value) ∙ sym c.in-Some.ensures.value in
    let word : c.in-Ok.directory.now ≡ c.args.word.now = c.in-Ok.ensures.cases.0 in
    let none = c.run_at.ensures.none (c.in-Err-NoPackage.is ∙ ap (λ x. Err x) c.in-Err-NoPackage.field-0-is) in
    if_ok_map c.refused-in-Err-NoPackage.result (λ told t text world same h.
    run_none c.args.name.now c.args.word.now c.args.ticks text world c.args.named.now.items h c.in-Some.index e told.items (is_utf8-from_IsUtf8 c.args.word.now c.in-Ok.ensures.cases.1) t
    (subst (λ d. HasNoFilesAt world.edition d c.args.named.now.items c.in-Some.index) word
    (subst (λ n. HasNoFilesAt n c.in-Ok.directory.now c.args.named.now.items c.in-Some.index) same none))) c.refused-in-Err-NoPackage.ensures
