use Rattle.std.proofs.Common.{rules, ◌≡◌, ◌∙◌, sym, ap, subst, map, List, ℕ}
use Rattle.std.specs.FinMap.{FinMap}
use Rattle.ws_action.specs.Actions.{Action}
use Rattle.ws_cache.specs.Held.{id_cmp, CacheStandsFor}
use Rattle.ws_report.specs.Reports.{id_row}
use Rattle.ws_replica.specs.Holdings.{Replica}
use Rattle.ws_replica.specs.Jobs.{reached_of}
use Rattle.ws_replica.specs.Stopped.{rows_from}
use Rattle.ws_replica.proofs.OpenedTargets.{are_ids}
use Rattle.ws_replica.proofs.Plans.{one_plan, lacks_plan}
use Rattle.ws_replica.proofs.id_lines.ids.Goals as goal

pub returns-clause-ok : goal.returns-clause-ok
returns-clause-ok g c W E h sized =
    let target : List ℕ = c.args.directory.now in
    let old : Replica = c.args.replica.now in
    let cache : c.in_ok-cache.cache ≡ old.cache = c.in_ok-cache.ensures ∙ ap (λ (r : Replica). r.cache) c.replica.view_is in
    let by = c.in_ok-reached.ensures.ok in
    let planned = one_plan c.args.edition old.registers target by.directories by.planned W h.registers in
    are_ids c.args.edition W E target by.directories planned (by.files W h.registers) sized c.in_ok-cache.cache (subst (λ (m : FinMap id_cmp Action). CacheStandsFor m E) (sym cache) h.cache)
    (map reached_of c.in_ok-reached.reached.items) by.same c.in_ok-places.board c.in_ok-places.ensures.board (map id_row c.in_ok-lines.lines.items)
    (c.in_ok-lines.ensures ∙ ap (rows_from c.in_ok-places.board.state 0) c.in_ok-places.ensures.places)

pub returns-in_err-reached-clause-none : goal.returns-in_err-reached-clause-none
returns-in_err-reached-clause-none g c is W E h = lacks_plan c.args.edition c.args.replica.now.registers c.args.directory.now (c.in_err-reached.ensures.none (search rules)) W h.registers
