use Rattle.std.proofs.Common.{◌≡◌, ◌∙◌, sym, ap, subst, map, length, rules, List, ℕ}
use Rattle.std.specs.Arc.{arc_value}
use Rattle.std.specs.FinMap.{FinMap}
use Rattle.std.proofs.lemmas.List.{length-map}
use Rattle.std.specs.Global.{Global}
use Rattle.std.specs.Prelude.{Vec}
use Rattle.go_init.specs.Packages.{package_order}
use Rattle.ws_reach.specs.Reach.{rows_of}
use Rattle.ws_register.specs.Sources.{HasFiles}
use Rattle.ws_action.specs.Actions.{Action}
use Rattle.ws_cache.specs.Held.{id_cmp, CacheStandsFor}
use Rattle.ws_graph.specs.BuildPlan.{IsBuildPlanOf}
use Rattle.ws_replica.specs.Holdings.{Replica}
use Rattle.ws_replica.specs.Jobs.{ReachedDirectory, reached_of}
use Rattle.ws_replica.specs.Stopped.{AreObjects, SomeLacks, IsLinkedTo}
use Rattle.ws_replica.proofs.OpenedTargets.{linked_image, no_image}
use Rattle.ws_replica.proofs.Plans.{one_plan, lacks_plan}
use Rattle.ws_replica.proofs.Steps.{if_none, if_some}
use Rattle.ws_replica.proofs.linking.image.Goals as goal

pub returns-in_default-clause-ok : goal.returns-in_default-clause-ok
returns-in_default-clause-ok g c W E h sized =
    let old : Replica = c.args.replica.now in
    let cache : c.in_ok-cache.cache ≡ old.cache = c.in_ok-cache.ensures ∙ ap (λ (r : Replica). r.cache) c.replica.view_is in
    let by = c.in_ok-reached.ensures.ok in
    let ds = by.directories in
    let of : IsBuildPlanOf c.args.edition W c.args.directory.now ds = one_plan c.args.edition old.registers c.args.directory.now ds by.planned W h.registers in
    let files : HasFiles W = by.files W h.registers in
    let reached : List ReachedDirectory = map reached_of c.in_ok-reached.reached.items in
    let size : length c.in_ok-rows.rows.items ≡ length reached =
    sym (length-map c.in_ok-rows.rows.items (λ (v : Vec ℕ Global). v.items)) ∙ ap length (c.in_ok-rows.ensures ∙ ap (λ zs. map (λ (r : ReachedDirectory). r.imports) (map reached_of zs)) c.deref.ensures.value) ∙ length-map reached (λ (r : ReachedDirectory). r.imports) in
    no_image c.args.edition W E c.args.directory.now ds of files sized c.in_ok-cache.cache (subst (λ (m : FinMap id_cmp Action). CacheStandsFor m E) (sym cache) h.cache)
    reached by.same c.in_ok-board.board c.in_ok-board.ensures.board c.len.result (search rules)
    (if_none c.in_ok-objects.field-0 (SomeLacks c.in_ok-board.board c.len.result) c.in_default.not-Some c.in_ok-objects.ensures.none)

pub returns-clause-ok : goal.returns-clause-ok
returns-clause-ok g c W E h sized =
    let old : Replica = c.args.replica.now in
    let cache : c.in_ok-cache.cache ≡ old.cache = c.in_ok-cache.ensures ∙ ap (λ (r : Replica). r.cache) c.replica.view_is in
    let by = c.in_ok-reached.ensures.ok in
    let ds = by.directories in
    let of : IsBuildPlanOf c.args.edition W c.args.directory.now ds = one_plan c.args.edition old.registers c.args.directory.now ds by.planned W h.registers in
    let files : HasFiles W = by.files W h.registers in
    let reached : List ReachedDirectory = map reached_of c.in_ok-reached.reached.items in
    let rows : rows_of c.deref-3.result.now ≡ map (λ (r : ReachedDirectory). r.imports) reached =
    ap rows_of c.deref-3.ensures.value ∙ c.in_ok-rows.ensures ∙ ap (λ zs. map (λ (r : ReachedDirectory). r.imports) (map reached_of zs)) c.deref.ensures.value in
    let size : length c.in_ok-rows.rows.items ≡ length reached =
    sym (length-map c.in_ok-rows.rows.items (λ (v : Vec ℕ Global). v.items)) ∙ ap length (c.in_ok-rows.ensures ∙ ap (λ zs. map (λ (r : ReachedDirectory). r.imports) (map reached_of zs)) c.deref.ensures.value) ∙ length-map reached (λ (r : ReachedDirectory). r.imports) in
    let have : AreObjects c.in_ok-board.board c.len.result (map arc_value c.in-Some.objects.items) =
    if_some c.in_ok-objects.field-0 (λ os. AreObjects c.in_ok-board.board c.len.result (map arc_value os.items)) c.in-Some.objects c.in-Some.is c.in_ok-objects.ensures.some in
    let linked : IsLinkedTo (map arc_value c.in-Some.objects.items) (package_order (map (λ (r : ReachedDirectory). r.imports) reached)) c.in_ok-image.image =
    subst (λ os. IsLinkedTo (map arc_value os) (package_order (map (λ (r : ReachedDirectory). r.imports) reached)) c.in_ok-image.image) c.deref-2.ensures.value
    (subst (λ zs. IsLinkedTo (map arc_value c.deref-2.result.now) (package_order zs) c.in_ok-image.image) rows c.in_ok-image.ensures) in
    linked_image c.args.edition W E c.args.directory.now ds of files sized c.in_ok-cache.cache (subst (λ (m : FinMap id_cmp Action). CacheStandsFor m E) (sym cache) h.cache)
    reached by.same c.in_ok-board.board c.in_ok-board.ensures.board (map arc_value c.in-Some.objects.items) c.len.result (search rules) have c.in_ok-image.image linked

pub returns-in_err-reached-clause-none : goal.returns-in_err-reached-clause-none
returns-in_err-reached-clause-none g c is W E h = lacks_plan c.args.edition c.args.replica.now.registers c.args.directory.now (c.in_err-reached.ensures.none (search rules)) W h.registers
