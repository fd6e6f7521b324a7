use Rattle.std.proofs.Common.{◌≡◌, ap, ◌∙◌, Result, Ok, Err, OnErr}
use Rattle.std.specs.Arc.{arc_value}
use Rattle.std.specs.Result.{is_ok}
use Rattle.std.specs.FinMap as map
use Rattle.ws_map.specs.Keyed.{by_key}
use Rattle.ws_map.proofs.Keyed.{insert-by_key, same_contents}
use Rattle.ws_map.proofs.insert_shared.Goals as goal

when_err : {A E P : Type 0} (r : Result A E) (e : E) → r ≡ Err e → OnErr r P → P
when_err (Ok a) e is p = cc
when_err (Err x) e is p = p

pub returns-in_default-clause-err : goal.returns-in_default-clause-err
returns-in_default-clause-err g c =
    same_contents g.K.Key.bytes g.K.Clone.is_clone g.V.Clone.is_clone g.met.K.Key.cloned g.met.V.Ranked.cloned
    (arc_value c.args.shared.now) (arc_value c.make_mut.follows.lender-at-none) (when_err c.make_mut.result _ c.in_default.is c.make_mut.follows.holds-at-none)

pub returns-clause-err : goal.returns-clause-err
returns-clause-err g c =
    ap (λ m. by_key g.K.Key.bytes m.entries) (c.make_mut.follows.holds c.insert.new.self (ap is_ok c.in-Ok.is))
    ∙ ap (by_key g.K.Key.bytes) c.in-Err.ensures.err
    ∙ same_contents g.K.Key.bytes g.K.Clone.is_clone g.V.Clone.is_clone g.met.K.Key.cloned g.met.V.Ranked.cloned (arc_value c.args.shared.now) c.in-Ok.entries.now c.in-Ok.ensures.value

pub returns-in-Ok-insert-clause-ok : goal.returns-in-Ok-insert-clause-ok
returns-in-Ok-insert-clause-ok g c =
    let bytes = g.K.Key.bytes in
    ap (λ m. by_key bytes m.entries) (c.make_mut.follows.holds c.insert.new.self (ap is_ok c.in-Ok.is))
    ∙ insert-by_key g.K.Ord.cmp bytes g.met.K.Key.ordered c.in-Ok.entries.now.entries c.insert.new.self.entries c.args.key c.args.value c.in-Ok-insert.ensures.entries
    ∙ ap (λ m. map.insert m (bytes c.args.key) c.args.value)
    (same_contents bytes g.K.Clone.is_clone g.V.Clone.is_clone g.met.K.Key.cloned g.met.V.Ranked.cloned (arc_value c.args.shared.now) c.in-Ok.entries.now c.in-Ok.ensures.value)
