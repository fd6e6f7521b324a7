use Rattle.std.proofs.Common.{ap, sym, ◌∙◌, subst, List, ℕ, Option, Some, Ok, Err, Vec, Global}
use Rattle.std.specs.Option.{option_map}
use Rattle.ws_version.specs.Writes.{Held}
use Rattle.ws_command.specs.declared.refusal.Refusal.{Refusal}
use Rattle.ws_command.specs.Commands.{Apply}
use Rattle.ws_session.specs.Representation.{replica_index, ChangedAt, Applied, Settles, IsContent}
use Rattle.ws_session.proofs.Writing.{apply_unknown, apply_path, apply_content, applied}
use Rattle.ws_session.proofs.replicas.apply.Goals as goal

abbrev given : Option (Vec ℕ Global) → Option (List ℕ)
given text = option_map (λ v. v.items) text

pub returns-in_default : goal.returns-in_default
returns-in_default c = λ world same h.
    apply_unknown c.args.name.now c.args.word.now c.args.version.counter c.args.version.number c.args.lines _ world c.args.named.now.items h (ap (replica_index c.args.name.now) (sym c.as_slice.ensures.value) ∙ sym c.in_default.ensures.value)

pub returns-in_default-2 : goal.returns-in_default-2
returns-in_default-2 c = λ world same h.
    apply_path c.args.name.now c.args.word.now c.args.version.counter c.args.version.number c.args.lines _ world c.args.named.now.items h c.in-Some.index (ap (replica_index c.args.name.now) (sym c.as_slice.ensures.value) ∙ sym c.in-Some.ensures.value) (rw c.in_default-2.is at c.in_ok-path.ensures)

pub returns-in-Err : goal.returns-in-Err
returns-in-Err c = λ world same h.
    let e = ap (replica_index c.args.name.now) (sym c.as_slice.ensures.value) ∙ sym c.in-Some.ensures.value in
    let text = given c.args.text in
    let made = rw c.in-Some-2.is at c.in_ok-path.ensures in
    let content = subst (λ ed. IsContent ed c.args.lines text (Err c.in-Err.refusal)) same (subst (IsContent c.args.edition c.args.lines text) c.in-Err.is c.in_ok-refusal.ensures) in
    subst (λ (r : Refusal). Settles (Apply c.args.name.now c.args.word.now c.args.version.counter c.args.version.number c.args.lines) text world (Some r) c.args.named.now.items) (sym content.1)
    (apply_content c.args.name.now c.args.word.now c.args.version.counter c.args.version.number c.args.lines text world c.args.named.now.items h c.in-Some.index e made.0 content.0)

pub returns-in_ok-apply_at-in-Ok : goal.returns-in_ok-apply_at-in-Ok
returns-in_ok-apply_at-in-Ok c = λ world same h.
    let e = ap (replica_index c.args.name.now) (sym c.as_slice.ensures.value) ∙ sym c.in-Some.ensures.value in
    let text = given c.args.text in
    let made = rw c.in-Some-2.is at c.in_ok-path.ensures in
    let content = subst (λ ed. IsContent ed c.args.lines text (Ok c.in-Ok.content)) same (subst (IsContent c.args.edition c.args.lines text) c.in-Ok.is c.in_ok-refusal.ensures) in
    applied c.args.name.now c.args.word.now c.args.version.counter c.args.version.number c.args.lines text world c.args.named.now.items h c.in-Some.index e c.in-Ok.content c.apply_at.new.named.items
    made.0 content.0 content.1
    (subst (λ (p : List ℕ). ChangedAt (Applied (p, record { counter = c.args.version.counter; number = c.args.version.number; text = c.in-Ok.content })) c.args.named.now.items c.in-Some.index c.apply_at.new.named.items) made.1
    (subst (λ (held : Held). ChangedAt (Applied (c.in-Some-2.path, held)) c.args.named.now.items c.in-Some.index c.apply_at.new.named.items) c.new.ensures c.in_ok-apply_at-in-Ok.ensures))
