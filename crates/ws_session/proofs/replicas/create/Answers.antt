use Rattle.std.proofs.Common.{◌≡◌, ◌+◌, List, [], arith, sym, ap, ◌∙◌, subst, None, rules, ◌++◌, ◌∷◌}
use Rattle.ws_session.specs.declared.replicas.SessionReplica.{SessionReplica}
use Rattle.ws_command.specs.Commands.{Create}
use Rattle.ws_session.specs.Representation.{replica_index, Settles}
use Rattle.ws_session.proofs.Settling.{create_full, create_exists, created}
use Rattle.ws_session.proofs.Tested.{is_none_then, is_some_then, none_sized}
use Rattle.ws_session.proofs.replicas.create.Goals as goal

pub returns-then-len-ge-MOST_REPLICAS : goal.returns-then-len-ge-MOST_REPLICAS
returns-then-len-ge-MOST_REPLICAS c = λ text world h. create_full c.args.name.now text world c.args.named.now.items (omega (arith, c.len.ensures, c.args.named.now.ok.0, c.if-len-ge-MOST_REPLICAS.true)) h

pub returns-then-is_some : goal.returns-then-is_some
returns-then-is_some c = λ text world h.
    let found = is_some_then c.index_of.result c.is_some.result c.is_some.ensures c.if-is_some.true in
    create_exists c.args.name.now found.0 text world c.args.named.now.items (omega (arith, c.len.ensures, c.args.named.now.ok.0, c.if-len-ge-MOST_REPLICAS.false))
    (ap (replica_index c.args.name.now) (sym c.as_slice.ensures.value) ∙ sym c.index_of.ensures.value ∙ found.1) h

pub returns : goal.returns
returns c = λ text world h.
    let ns : List SessionReplica = c.args.named.now.items in
    let new : SessionReplica = record { name = c.in_ok-name.name; number = c.len-2.result + 1; replica = c.new-replica.result } in
    let pushed : c.push.new.self.items ≡ ns ++ new ∷ [] = search rules in
    let none = is_none_then c.index_of.result c.is_some.result c.is_some.ensures c.if-is_some.false in
    subst (λ ms. Settles (Create c.args.name.now) text world None ms) (sym pushed)
    (created c.args.name.now text world ns new (omega (arith, c.len.ensures, c.args.named.now.ok.0, c.if-len-ge-MOST_REPLICAS.false))
    (ap (replica_index c.args.name.now) (sym c.as_slice.ensures.value) ∙ sym c.index_of.ensures.value ∙ none) h
    c.in_ok-name.ensures.items (omega (arith, c.len-2.ensures, c.args.named.now.ok.0)) c.new-replica.ensures.stands none_sized)
