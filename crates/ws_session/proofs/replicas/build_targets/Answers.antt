use Rattle.std.proofs.Common.{◌≡◌, ◌<◌, List, ℕ, length, map, zip, None, Ok, Err, sym, ap, subst, ◌∙◌, arith}
use Rattle.std.specs.Prelude.{vec_len}
use Rattle.std.specs.List.{All, Contains, flat_map}
use Rattle.std.proofs.lemmas.List.Elements.{All-weaker}
use Rattle.ws_replica.specs.Builds.{target_of}
use Rattle.ws_replica.specs.declared.building.Target.{Target}
use Rattle.ws_report.specs.declared.Report.{Report}
use Rattle.ws_command.specs.Commands.{Build}
use Rattle.ws_session.specs.declared.replicas.SessionReplica.{SessionReplica}
use Rattle.ws_session.specs.Representation.{asked_of, AreTargets, AreBuiltBy, Built, target_words, report_line, CountedResult}
use Rattle.ws_session.proofs.Building.{targets_within, words_are}
use Rattle.ws_session.proofs.BuildTelling.{build_refused, build_lacks, build_told}
use Rattle.ws_session.proofs.CountedBuild.{build_counted, numbers_of, numbers_within, hold_all}
use Rattle.ws_session.proofs.Joining.{within_all}
use Rattle.ws_session.proofs.Settled.{labels_length}
use Rattle.ws_version_vector.specs.Counts.{AreBelow, AreRaisedAndShared}
use Rattle.ws_session.proofs.Standings.{if_ok_map}
use Rattle.ws_session.proofs.replicas.build_targets.Goals as goal

pub returns-in-Err : goal.returns-in-Err
returns-in-Err g c = if_ok_map c.refused.result (λ told t text world same h apart kept.
    let row = subst (λ (ns : List SessionReplica). AreTargets ns (map asked_of c.args.asked.now) (Err c.in-Err.refusal)) c.as_slice.ensures.value
    (subst (AreTargets c.as_slice.result.now (map asked_of c.args.asked.now)) c.in-Err.is c.in_ok-targets.ensures) in
    build_refused (map asked_of c.args.asked.now) text world c.args.named.now.items h c.in-Err.refusal told.items c.args.compiled.now row t kept) c.refused.ensures

pub build_all-requires-clause-within : goal.build_all-requires-clause-within
build_all-requires-clause-within g c κs within =
    let ns : List SessionReplica = c.args.named.now.items in
    let are = subst (λ (ms : List SessionReplica). AreTargets ms (map asked_of c.args.asked.now) (Ok c.in-Ok.targets)) c.as_slice.ensures.value
    (subst (AreTargets c.as_slice.result.now (map asked_of c.args.asked.now)) c.in-Ok.is c.in_ok-targets.ensures) in
    subst (λ (ts : List Target). All (λ t. t.replica < vec_len c.args.named.now) ts) (sym c.as_slice-3.ensures.value)
    (All-weaker (λ (t : Target). t.replica < length ns) (λ t. t.replica < vec_len c.args.named.now) (λ t lt. omega (arith, lt, c.args.named.now.ok.0)) c.in-Ok.targets.items
    (targets_within ns (map asked_of c.args.asked.now) c.in-Ok.targets.items are.1))

pub build_all-requires-clause-holding : goal.build_all-requires-clause-holding
build_all-requires-clause-holding g c κs within =
    let ns : List SessionReplica = c.args.named.now.items in
    let are = subst (λ (ms : List SessionReplica). AreTargets ms (map asked_of c.args.asked.now) (Ok c.in-Ok.targets)) c.as_slice.ensures.value
    (subst (AreTargets c.as_slice.result.now (map asked_of c.args.asked.now)) c.in-Ok.is c.in_ok-targets.ensures) in
    let inside = targets_within ns (map asked_of c.args.asked.now) c.in-Ok.targets.items are.1 in
    within_all (length ns) (vec_len c.args.named.now) c.as_slice-4.result.now (omega (arith, c.args.named.now.ok.0))
    (λ k among. numbers_within (length ns) c.in-Ok.targets.items inside k
    (subst (λ (ts : List Target). Contains (numbers_of ts) k) c.as_slice-2.ensures.value (c.in_ok-holders.ensures.within k (subst (λ (ks : List ℕ). Contains ks k) c.as_slice-4.ensures.value among))))

pub returns-in-None : goal.returns-in-None
returns-in-None g c = if_ok_map c.refused-in-None.result (λ told t text world same h apart kept.
    let asked : List (List ℕ × List ℕ) = map asked_of c.args.asked.now in
    let ns : List SessionReplica = c.args.named.now.items in
    let are = subst (λ (ms : List SessionReplica). AreTargets ms asked (Ok c.in-Ok.targets)) c.as_slice.ensures.value (subst (AreTargets c.as_slice.result.now asked) c.in-Ok.is c.in_ok-targets.ensures) in
    let built = subst (λ (ts : List Target). AreBuiltBy c.args.edition c.as_slice-4.result.now (map target_of ts) ns None c.build_all.new.named.items) c.as_slice-3.ensures.value
    (subst (λ r. AreBuiltBy c.args.edition c.as_slice-4.result.now (map target_of c.as_slice-3.result.now) ns r c.build_all.new.named.items) c.in-None.is c.in_ok-reports.ensures) in
    subst (λ ms. CountedResult (Build asked) text world told.items ms c.args.compiled.now) (sym built.0)
    (build_lacks asked text world ns h (map target_of c.in-Ok.targets.items) are.0 are.1 c.args.edition told.items c.args.compiled.now same t built.1 kept)) c.refused-in-None.ensures

pub all_lines-requires : goal.all_lines-requires
all_lines-requires g c =
    let ns : List SessionReplica = c.args.named.now.items in
    let asked : List (List ℕ × List ℕ) = map asked_of c.args.asked.now in
    let are = subst (λ (ms : List SessionReplica). AreTargets ms asked (Ok c.in-Ok.targets)) c.as_slice.ensures.value (subst (AreTargets c.as_slice.result.now asked) c.in-Ok.is c.in_ok-targets.ensures) in
    let built = subst (λ r. AreBuiltBy c.args.edition c.as_slice-4.result.now (map target_of c.as_slice-3.result.now) ns r c.build_all.new.named.items) c.in-Some.is c.in_ok-reports.ensures in
    let kept : length c.as_slice-in-Some-2.result.now ≡ length ns = ap (λ (ms : List SessionReplica). length ms) c.as_slice-in-Some-2.ensures.value ∙ labels_length ns c.build_all.new.named.items built.labels in
    subst (λ (ts : List Target). All (λ t. t.replica < length c.as_slice-in-Some-2.result.now) ts) (sym c.as_slice-in-Some-3.ensures.value)
    (All-weaker (λ (t : Target). t.replica < length ns) (λ t. t.replica < length c.as_slice-in-Some-2.result.now) (λ t lt. omega (arith, lt, kept)) c.in-Ok.targets.items
    (targets_within ns asked c.in-Ok.targets.items are.1))

pub returns : goal.returns
returns g c = if_ok_map c.all_lines.result (λ told t text world same h apart kept.
    let asked : List (List ℕ × List ℕ) = map asked_of c.args.asked.now in
    let ns : List SessionReplica = c.args.named.now.items in
    let ms : List SessionReplica = c.build_all.new.named.items in
    let targets : List (ℕ × List ℕ) = map target_of c.in-Ok.targets.items in
    let reports : List Report = c.in-Some.reports.items in
    let are = subst (λ (ms : List SessionReplica). AreTargets ms asked (Ok c.in-Ok.targets)) c.as_slice.ensures.value (subst (AreTargets c.as_slice.result.now asked) c.in-Ok.is c.in_ok-targets.ensures) in
    let built = subst (λ (ts : List Target). Built c.args.edition c.as_slice-4.result.now (map target_of ts) reports ns ms) c.as_slice-3.ensures.value
    (subst (λ r. AreBuiltBy c.args.edition c.as_slice-4.result.now (map target_of c.as_slice-3.result.now) ns r ms) c.in-Some.is c.in_ok-reports.ensures) in
    let counts = subst (λ (ts : List Target). AreRaisedAndShared (numbers_of ts) c.args.compiled.now c.count_build.new.compiled) c.as_slice-in-Some.ensures.value c.in_ok-count_build-in-Some.ensures in
    let printed : told.items ≡ flat_map report_line (zip asked reports) =
    t ∙ ap (λ zs. flat_map report_line (zip (map (target_words zs) (map target_of c.as_slice-in-Some-3.result.now)) c.as_slice-in-Some-4.result.now)) c.as_slice-in-Some-2.ensures.value
    ∙ ap (λ (ts : List Target). flat_map report_line (zip (map (target_words ms) (map target_of ts)) c.as_slice-in-Some-4.result.now)) c.as_slice-in-Some-3.ensures.value
    ∙ ap (λ rs. flat_map report_line (zip (map (target_words ms) targets) rs)) c.as_slice-in-Some-4.ensures.value
    ∙ ap (λ zs. flat_map report_line (zip zs reports)) (words_are ns ms built.labels asked targets are.1) in
    let hold = hold_all c.args.compiled.now world c.in-Ok.targets.items c.as_slice-4.result.now kept
    (subst (λ (ks : List ℕ). AreBelow c.args.compiled.now (numbers_of c.in-Ok.targets.items) ks) (sym c.as_slice-4.ensures.value) (subst (λ (ts : List Target). AreBelow c.args.compiled.now (numbers_of ts) c.in_ok-holders.holders.items) c.as_slice-2.ensures.value c.in_ok-holders.ensures.below))
    (λ k among. subst (λ (ts : List Target). Contains (numbers_of ts) k) c.as_slice-2.ensures.value (c.in_ok-holders.ensures.within k (subst (λ (ks : List ℕ). Contains ks k) c.as_slice-4.ensures.value among))) in
    build_told asked text world ns h targets are.0 are.1 apart c.as_slice-4.result.now hold c.args.edition reports told.items ms c.count_build.new.compiled same printed built
    (λ all. build_counted asked c.in-Ok.targets.items world ns h apart are.1 all c.args.compiled.now c.count_build.new.compiled counts kept)) c.all_lines.ensures
