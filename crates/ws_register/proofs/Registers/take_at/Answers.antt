use Rattle.std.specs.Prelude.{Result, Ok, Err, OnOk}
use Rattle.std.proofs.Common.{◌≡◌, Some, ap, ◌∙◌}
use Rattle.std.specs.FinMap.{get}
use Rattle.ws_version.specs.Writes.{Held}
use Rattle.ws_register.proofs.TakenAt.{taken_none, taken_one}
use Rattle.ws_register.proofs.Registers.take_at.Goals as goal

on_ok : {A E P Q : Type 0} (r : Result A E) → (P → Q) → OnOk r P → OnOk r Q
on_ok (Ok a) f h = f h
on_ok (Err e) f h = tt

pub returns-in_default : goal.returns-in_default
returns-in_default c =
    taken_none c.args.other.now c.args.path.now c.args.self.now (c.in_default.ensures.value ∙ ap (get c.args.other.now) c.as_str.ensures.value)

pub returns : goal.returns
returns c =
    let held : Held = c.in_ok-held.held in
    let at : Some held ≡ get c.args.other.now c.args.path.now = ap Some c.in_ok-held.ensures ∙ c.in-Some.ensures.value ∙ ap (get c.args.other.now) c.as_str.ensures.value in
    let write : c.new.result ≡ (c.args.path.now, held) = c.new.ensures ∙ ap (λ path. (path, held)) c.in_ok-path.ensures in
    on_ok c.apply.result (taken_one c.args.other.now c.args.path.now held c.new.result c.args.self.now c.apply.new.self at write) c.apply.ensures.stands
