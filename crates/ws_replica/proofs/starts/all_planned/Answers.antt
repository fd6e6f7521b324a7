use Rattle.std.specs.Prelude.{Vec}
use Rattle.std.specs.Global.{Global}
use Rattle.std.proofs.Common.{◌≡◌, ◌++◌, ◌∷◌, [], ◌∙◌, List, length, map, ap, sym, subst, rules, arith, length-append}
use Rattle.std.proofs.lemmas.List.{map-append}
use Rattle.ws_graph.specs.Discovery.{string_texts}
use Rattle.ws_replica.specs.Builds.{target_of}
use Rattle.ws_replica.specs.Holdings.{Replica}
use Rattle.ws_replica.specs.Jobs.{reached_of, all_reached_of}
use Rattle.ws_replica.specs.Targets.{IsReachedAt, IsReached, LacksFilesAt, directories_at}
use Rattle.ws_replica.specs.declared.reached.Reached.{Reached as RustReached}
use Rattle.ws_replica.proofs.PlannedTargets.{planned_next, lacks_at, in_order}
use Rattle.ws_replica.proofs.starts.all_planned.Goals as goal

pub returns-in_err-reached-clause-none : goal.returns-in_err-reached-clause-none
returns-in_err-reached-clause-none g c is took stand =
    let ds = string_texts c.in_ok-directories.directories.items in
    let lacks : LacksFilesAt c.args.edition c.args.replicas.now c.loop-number.number ds =
    subst (λ (rs : List Replica). LacksFilesAt c.args.edition rs c.loop-number.number ds) c.loop-number.invariant.same (c.in_err-reached.ensures.none (search rules)) in
    lacks_at c.args.edition c.args.replicas.now (map target_of c.args.targets.now) c.loop-number.number lacks.replica ds lacks.at c.in_ok-directories.ensures lacks.lacks took stand

pub loop-number-preserved : goal.loop-number-preserved
loop-number-preserved g c =
    let edition = c.args.edition in
    let targets = map target_of c.args.targets.now in
    let old = all_reached_of c.loop-number.all.items in
    let x = map reached_of c.in_ok-reached.reached.items in
    let inv = c.loop-number.invariant in
    let more : all_reached_of c.push.new.self.items ≡ old ++ x ∷ [] =
    ap all_reached_of c.in_default.ensures.items ∙ map-append (λ (v : Vec RustReached Global). map reached_of v.items) c.loop-number.all.items (c.in_ok-reached.reached ∷ []) in
    let here : IsReached edition c.args.replicas.now targets c.loop-number.number x =
    subst (λ ds. IsReachedAt edition c.args.replicas.now c.loop-number.number ds x) c.in_ok-directories.ensures
    (subst (λ (rs : List Replica). IsReachedAt edition rs c.loop-number.number (string_texts c.in_ok-directories.directories.items) x) inv.same c.in_ok-reached.ensures.ok) in
    let long = ap length more ∙ length-append old (x ∷ []) in
    record {
      same = c.in_ok-reached.ensures.same ∙ inv.same;
      size = omega (arith, long, inv.size);
      are = planned_next edition c.args.replicas.now targets old (all_reached_of c.push.new.self.items) x more
          (subst (λ k. IsReached edition c.args.replicas.now targets k x) (sym inv.size) here) inv.are;
    }

pub returns-clause-ok : goal.returns-clause-ok
returns-clause-ok g c = record {
  size = omega (arith, c.loop-number.invariant.size, c.loop-number.auto.number-end, c.loop-number-test.false);
  are = c.loop-number.invariant.are;
}

pub returns-clause-order : goal.returns-clause-order
returns-clause-order g c = λ k reached at. let it = c.loop-number.invariant.are k reached at in in_order c.args.edition it.replica.registers (directories_at (map target_of c.args.targets.now) k) reached it.by
