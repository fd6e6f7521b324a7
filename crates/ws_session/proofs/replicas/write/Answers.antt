use Rattle.std.proofs.Common.{◌≡◌, true, false, List, ℕ, sym, ap, ◌∙◌, subst, Vec, Global}
use Rattle.std.specs.Option.{option_map}
use Rattle.ws_session.specs.Representation.{replica_index, ChangedAt, Edited}
use Rattle.ws_session.specs.World.{is_whole_text}
use Rattle.ws_session.proofs.Settling.{write_unknown, write_path, write_full, write_text, written, top_is}
use Rattle.ws_session.proofs.replicas.write.Goals as goal

pub returns-in_default : goal.returns-in_default
returns-in_default c = λ lines world same h.
    write_unknown c.args.name.now c.args.word.now lines _ world c.args.named.now.items h (ap (replica_index c.args.name.now) (sym c.as_slice.ensures.value) ∙ sym c.in_default.ensures.value)

pub returns-in_default-path_of : goal.returns-in_default-path_of
returns-in_default-path_of c = λ lines world same h.
    write_path c.args.name.now c.args.word.now lines _ world c.args.named.now.items h c.in-Some.index (ap (replica_index c.args.name.now) (sym c.as_slice.ensures.value) ∙ sym c.in-Some.ensures.value) c.in_default-path_of.ensures

pub returns-then-greatest_at : goal.returns-then-greatest_at
returns-then-greatest_at c = λ lines world same h.
    let e = ap (replica_index c.args.name.now) (sym c.as_slice.ensures.value) ∙ sym c.in-Some.ensures.value in
    write_full c.args.name.now c.args.word.now lines _ world c.args.named.now.items h c.in-Some.index e c.in-Some-path_of.ensures.0
    (sym (top_is c.args.name.now c.args.word.now lines (option_map (λ (v : Vec ℕ Global). v.items) c.args.text) world c.args.named.now.items h c.in-Some.index e c.greatest_at.result c.greatest_at.ensures) ∙ c.if-greatest_at.true)

pub returns-in_default-2 : goal.returns-in_default-2
returns-in_default-2 c = λ lines world same h.
    let e = ap (replica_index c.args.name.now) (sym c.as_slice.ensures.value) ∙ sym c.in-Some.ensures.value in
    let top = top_is c.args.name.now c.args.word.now lines (option_map (λ (v : Vec ℕ Global). v.items) c.args.text) world c.args.named.now.items h c.in-Some.index e c.greatest_at.result c.greatest_at.ensures in
    write_text c.args.name.now c.args.word.now lines _ world c.args.named.now.items h c.in-Some.index e c.in-Some-path_of.ensures.0
    (λ q. c.if-greatest_at.false (top ∙ q)) (subst (λ ed. is_whole_text ed (option_map (λ (v : Vec ℕ Global). v.items) c.args.text) ≡ false) same (rw c.in_default-2.is at c.in_ok-source.ensures))

pub returns : goal.returns
returns c = λ lines world same h.
    let e = ap (replica_index c.args.name.now) (sym c.as_slice.ensures.value) ∙ sym c.in-Some.ensures.value in
    let top = top_is c.args.name.now c.args.word.now lines (option_map (λ (v : Vec ℕ Global). v.items) c.args.text) world c.args.named.now.items h c.in-Some.index e c.greatest_at.result c.greatest_at.ensures in
    let made = rw c.in-Some-2.is at c.in_ok-source.ensures in
    written c.args.name.now c.args.word.now lines _ world c.args.named.now.items h c.in-Some.index e c.in-Some-2.source.text c.edit_at.new.named.items c.in-Some-path_of.ensures.0
    (λ q. c.if-greatest_at.false (top ∙ q)) (subst (λ ed. is_whole_text ed (option_map (λ (v : Vec ℕ Global). v.items) c.args.text) ≡ true) same made.0) made.2 (subst (λ (p : List ℕ). ChangedAt (Edited p c.in-Some-2.source.text) c.args.named.now.items c.in-Some.index c.edit_at.new.named.items) c.in-Some-path_of.ensures.1 c.in_ok-edit_at.ensures)
