use Rattle.std.proofs.Common.{◌≡◌, ◌<◌, ◌≤◌, ◌+◌, length, refl, sym, ap, ◌∙◌, take, drop, set, arith}
use Rattle.std.specs.Arc.{arc_value}
use Rattle.ws_register.specs.Listed.{all_with}
use Rattle.ws_register.specs.Nodes.{writes_below, all_nodes}
use Rattle.ws_register.proofs.Edited.{part_there, part_replaced, put-on_part, put-behind_parts, middle-ascends}
use Rattle.ws_register.proofs.Shared.{err_then}
use Rattle.ws_register.proofs.Walks.{ok_then}
use Rattle.ws_register.proofs.grow.put_at.Goals as goal

pub returns-then-len-at-clause-ok : goal.returns-then-len-at-clause-ok
returns-then-len-at-clause-ok c =
    let past : length c.args.nodes.now.items ≤ c.args.at = omega arith in
    ap all_nodes c.in_ok-push.ensures.items
    ∙ put-behind_parts writes_below c.args.nodes.now.items c.args.at c.in_ok-of_write.field-0 c.args.write.0 c.args.write.1 past c.requires.below c.in_ok-of_write.ensures

pub put_in-requires : goal.put_in-requires
put_in-requires c =
    let nodes = c.args.nodes.now.items in
    let old = writes_below (arc_value c.index_mut.result.now) in
    let within : c.args.at < length nodes = omega arith in
    let cut : all_nodes nodes ≡ all_with writes_below nodes c.args.at old =
    part_there writes_below nodes c.args.at c.index_mut.result.now old within c.index_mut.ensures.value refl in
    middle-ascends (all_nodes nodes) (all_nodes (take c.args.at nodes)) old (all_nodes (drop (c.args.at + 1) nodes)) cut c.requires.ascends

pub returns-clause-ok : goal.returns-clause-ok
returns-clause-ok c =
    let nodes = c.args.nodes.now.items in
    let at = c.args.at in
    let old = writes_below (arc_value c.index_mut.result.now) in
    let new = writes_below (arc_value c.put_in.new.node) in
    let within : at < length nodes = omega arith in
    ok_then c.put_in.result (λ is.
    put-on_part writes_below nodes at old new (all_nodes (set nodes at c.put_in.new.node)) c.args.write.0 c.args.write.1
    (part_there writes_below nodes at c.index_mut.result.now old within c.index_mut.ensures.value refl)
    c.requires.below c.requires.above is (part_replaced writes_below nodes at c.put_in.new.node new within refl)) c.put_in.ensures.ok

pub returns-clause-err : goal.returns-clause-err
returns-clause-err c =
    let nodes = c.args.nodes.now.items in
    let at = c.args.at in
    let old = writes_below (arc_value c.index_mut.result.now) in
    let within : at < length nodes = omega arith in
    err_then c.put_in.result (λ same.
    part_replaced writes_below nodes at c.put_in.new.node old within same
    ∙ sym (part_there writes_below nodes at c.index_mut.result.now old within c.index_mut.ensures.value refl)) c.put_in.ensures.err
