use Rattle.std.proofs.Common.{ap, sym, ◌∙◌, subst}
use Rattle.std.proofs.lemmas.Bool.{and_parts}
use Rattle.ws_path.specs.Paths.{is_path}
use Rattle.ws_session.specs.Representation.{replica_index, Removal}
use Rattle.ws_session.proofs.Standings.{if_ok_map}
use Rattle.ws_session.proofs.Writing.{remove_unknown, remove_path, removal}
use Rattle.ws_session.proofs.replicas.remove.Goals as goal

pub returns-in_default : goal.returns-in_default
returns-in_default c = λ text world h.
    remove_unknown c.args.name.now c.args.word.now text world c.args.named.now.items h (ap (replica_index c.args.name.now) (sym c.as_slice.ensures.value) ∙ sym c.in_default.ensures.value)

pub returns-in_default-path_of : goal.returns-in_default-path_of
returns-in_default-path_of c = λ text world h.
    remove_path c.args.name.now c.args.word.now text world c.args.named.now.items h c.in-Some.index (ap (replica_index c.args.name.now) (sym c.as_slice.ensures.value) ∙ sym c.in-Some.ensures.value) c.in_default-path_of.ensures

pub returns : goal.returns
returns c = if_ok_map c.remove_at.result (λ refusal of text world h.
    removal c.args.name.now c.args.word.now text world c.args.named.now.items h c.in-Some.index (ap (replica_index c.args.name.now) (sym c.as_slice.ensures.value) ∙ sym c.in-Some.ensures.value) refusal c.remove_at.new.named.items c.in-Some-path_of.ensures.0
    (subst (λ p. Removal p c.args.named.now.items c.in-Some.index refusal c.remove_at.new.named.items) c.in-Some-path_of.ensures.1 of)) c.remove_at.ensures

pub remove_at-requires-clause-path : goal.remove_at-requires-clause-path
remove_at-requires-clause-path c = ap is_path c.in-Some-path_of.ensures.1 ∙ (and_parts _ _ c.in-Some-path_of.ensures.0).1
