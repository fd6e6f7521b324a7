use Rattle.std.proofs.Common.{◌≡◌, ap, sym, subst, ◌∙◌, Result, Ok, Err, OnOk, OnErr}
use Rattle.std.specs.Arc.{arc_value}
use Rattle.std.specs.Result.{is_ok}
use Rattle.ws_map.specs.Greater.{greater}
use Rattle.ws_map.specs.Kept.{joined}
use Rattle.ws_map.specs.Keyed.{by_key}
use Rattle.ws_map.proofs.Greater.{greater-semilattice}
use Rattle.ws_map.proofs.Kept.{joined-commutative}
use Rattle.ws_map.proofs.Keyed.{bytes_cmp_total, bytes_cmp-IsAntisymmetric, same_contents}
use Rattle.ws_map.proofs.merge_shared.Goals as goal

when_err : {A E P : Type 0} (r : Result A E) (e : E) → r ≡ Err e → OnErr r P → P
when_err (Ok a) e is p = cc
when_err (Err x) e is p = p

on_err : {A E P : Type 0} (r : Result A E) → P → OnErr r P
on_err (Ok a) p = tt
on_err (Err x) p = p

ok_then : {A E P Q : Type 0} (r : Result A E) → (P → Q) → OnOk r P → OnOk r Q
ok_then (Ok a) f p = f p
ok_then (Err x) f p = tt

err_then : {A E P Q : Type 0} (r : Result A E) → (P → Q) → OnErr r P → OnErr r Q
err_then (Ok a) f p = tt
err_then (Err x) f p = f p

pub returns-then-are_known-2-clause-ok : goal.returns-then-are_known-2-clause-ok
returns-then-are_known-2-clause-ok g c =
    let bytes = g.K.Key.bytes in
    let f = greater g.V.Ranked.rank in
    let mine = by_key bytes (arc_value c.args.shared.now).entries in
    let others = by_key bytes (arc_value c.args.others.now).entries in
    let known : joined f others mine ≡ others =
    subst (λ m. joined f (by_key bytes m.entries) mine ≡ by_key bytes m.entries) c.deref-3.ensures
    (subst (λ m. joined f (by_key bytes c.deref-3.result.now.entries) (by_key bytes m.entries) ≡ by_key bytes c.deref-3.result.now.entries) c.deref-4.ensures
    (c.are_known-2.ensures c.if-are_known-2.true)) in
    ap (λ m. by_key bytes m.entries) c.in_ok-shared.ensures ∙ sym known
    ∙ joined-commutative bytes_cmp_total bytes_cmp-IsAntisymmetric (greater-semilattice g.met.V.Ranked.total g.met.V.Ranked.one) others mine

pub returns-in_err-make_mut-clause-err : goal.returns-in_err-make_mut-clause-err
returns-in_err-make_mut-clause-err g c =
    on_err c.from_residual-in_err-make_mut.result
    (same_contents g.K.Key.bytes g.K.Clone.is_clone g.V.Clone.is_clone g.met.K.Key.cloned g.met.V.Ranked.cloned
    (arc_value c.args.shared.now) (arc_value c.make_mut.follows.lender-at-none) (when_err c.make_mut.result _ c.in_err-make_mut.was c.make_mut.follows.holds-at-none))

pub returns-clause-ok : goal.returns-clause-ok
returns-clause-ok g c =
    let bytes = g.K.Key.bytes in
    let f = greater g.V.Ranked.rank in
    let mine = arc_value c.args.shared.now in
    let own = c.in_ok-make_mut.field-0.now in
    let others = c.deref-5.result.now in
    ok_then c.merge_entries.result (λ merged.
    ap (λ m. by_key bytes m.entries) (c.make_mut.follows.holds c.merge_entries.new.mine (ap is_ok c.in_ok-make_mut.was))
    ∙ merged
    ∙ ap (λ m. joined f m (by_key bytes others.entries))
    (same_contents bytes g.K.Clone.is_clone g.V.Clone.is_clone g.met.K.Key.cloned g.met.V.Ranked.cloned mine own c.in_ok-make_mut.ensures.value)
    ∙ ap (λ m. joined f (by_key bytes mine.entries) (by_key bytes m.entries)) c.deref-5.ensures)
    c.merge_entries.ensures.ok

pub returns-clause-err : goal.returns-clause-err
returns-clause-err g c =
    let bytes = g.K.Key.bytes in
    let mine = arc_value c.args.shared.now in
    let own = c.in_ok-make_mut.field-0.now in
    err_then c.merge_entries.result (λ same.
    ap (λ m. by_key bytes m.entries) (c.make_mut.follows.holds c.merge_entries.new.mine (ap is_ok c.in_ok-make_mut.was))
    ∙ ap (by_key bytes) same
    ∙ same_contents bytes g.K.Clone.is_clone g.V.Clone.is_clone g.met.K.Key.cloned g.met.V.Ranked.cloned mine own c.in_ok-make_mut.ensures.value)
    c.merge_entries.ensures.err
