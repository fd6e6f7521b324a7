use Rattle.std.proofs.Common.{◌≡◌, true, List, Option, Some, length, get_or, drop, sym, ap, subst, ◌∙◌}
use Rattle.std.proofs.lemmas.List.{take_at}
use Rattle.std.specs.Prelude.{Vec, IfNone}
use Rattle.std.specs.Global.{Global}
use Rattle.std.specs.List.{slice_get}
use Rattle.go_vm.specs.Outcomes.{ProgramOutcome}
use Rattle.ws_report.specs.declared.Report.{Report}
use Rattle.ws_replica.specs.Holdings.{Replica, AllStandFor}
use Rattle.ws_run.specs.Files.{Files}
use Rattle.ws_run.specs.Steps.{all_good, IsLast, took_of, IsBuilt, HoldsProgram, ImageEndsAs}
use Rattle.ws_run.proofs.Building.{no_files, sole_replica, has_faults, holds_program}
use Rattle.ws_run.proofs.run.answer_of.Goals as goal

pub returns-in_default : goal.returns-in_default
returns-in_default g c =
    let files : Files = c.args.files.items in
    let stand : AllStandFor c.as_mut_slice.result.now (took_of files) = subst (λ (rs : List Replica). AllStandFor rs (took_of files)) (sym (c.as_mut_slice.ensures.value ∙ c.in_ok-replicas.ensures.items)) (c.in_ok-replica.ensures, tt) in
    no_files c.args.edition files c.args.directory.now
    (subst (λ (o : Option (Vec Report Global)). IsBuilt c.args.edition files c.args.directory.now o c.built.new.replicas) c.in_default.is (c.in_ok-reports.ensures.built files stand))

pub returns-in-Some-faulty : goal.returns-in-Some-faulty
returns-in-Some-faulty g c clear =
    let files : Files = c.args.files.items in
    let stand : AllStandFor c.as_mut_slice.result.now (took_of files) = subst (λ (rs : List Replica). AllStandFor rs (took_of files)) (sym (c.as_mut_slice.ensures.value ∙ c.in_ok-replicas.ensures.items)) (c.in_ok-replica.ensures, tt) in
    let built = subst (λ (o : Option (Vec Report Global)). IsBuilt c.args.edition files c.args.directory.now o c.built.new.replicas) c.in-Some.is (c.in_ok-reports.ensures.built files stand) in
    has_faults c.args.edition files c.args.directory.now c.in-Some.reports.items c.built.new.replicas built clear c.in-Some-faulty.report c.in-Some-faulty.ensures.some.0 c.in-Some-faulty.ensures.some.1

pub returns-in-Some-2 : goal.returns-in-Some-2
returns-in-Some-2 g c clear =
    let files : Files = c.args.files.items in
    let old : List Replica = c.in_ok-replicas.replicas.items in
    let new : List Replica = c.built.new.replicas in
    let replica : Replica = c.index.result.now in
    let value = c.as_mut_slice.ensures.value ∙ c.in_ok-replicas.ensures.items in
    let stand : AllStandFor c.as_mut_slice.result.now (took_of files) = subst (λ (rs : List Replica). AllStandFor rs (took_of files)) (sym value) (c.in_ok-replica.ensures, tt) in
    let built = subst (λ (o : Option (Vec Report Global)). IsBuilt c.args.edition files c.args.directory.now o new) c.in-Some.is (c.in_ok-reports.ensures.built files stand) in
    let good = subst (λ (o : Option Report). IfNone o ((report : Report) → IsLast c.in-Some.reports.items report → all_good report ≡ true)) c.in_default-faulty.is c.faulty.ensures.none in
    let sized : length new ≡ c.in_ok-replicas.replicas.len = c.in_ok-reports.ensures.stay ∙ c.as_mut_slice.ensures.len in
    let one : length new ≡ 1 = c.in_ok-reports.ensures.stay ∙ ap (λ (rs : List Replica). length rs) value in
    let at : slice_get new 0 ≡ Some replica = sole_replica new replica one (c.index.ensures ∙ ap (λ (rs : List Replica). get_or rs 0 replica) (take_at new (drop (length new) old) c.in_ok-replicas.replicas.len sized)) in
    let holds : HoldsProgram c.args.edition files c.args.directory.now replica = holds_program c.args.edition files c.args.directory.now c.in-Some.reports.items new built clear good replica at in
    subst (λ (o : Option ProgramOutcome). ImageEndsAs c.args.edition files c.args.directory.now c.args.ticks o) c.in-Some-2.is (c.in_ok-outcome.ensures files holds)

pub returns : goal.returns
returns g c clear =
    let files : Files = c.args.files.items in
    let old : List Replica = c.in_ok-replicas.replicas.items in
    let new : List Replica = c.built.new.replicas in
    let replica : Replica = c.index.result.now in
    let value = c.as_mut_slice.ensures.value ∙ c.in_ok-replicas.ensures.items in
    let stand : AllStandFor c.as_mut_slice.result.now (took_of files) = subst (λ (rs : List Replica). AllStandFor rs (took_of files)) (sym value) (c.in_ok-replica.ensures, tt) in
    let built = subst (λ (o : Option (Vec Report Global)). IsBuilt c.args.edition files c.args.directory.now o new) c.in-Some.is (c.in_ok-reports.ensures.built files stand) in
    let good = subst (λ (o : Option Report). IfNone o ((report : Report) → IsLast c.in-Some.reports.items report → all_good report ≡ true)) c.in_default-faulty.is c.faulty.ensures.none in
    let sized : length new ≡ c.in_ok-replicas.replicas.len = c.in_ok-reports.ensures.stay ∙ c.as_mut_slice.ensures.len in
    let one : length new ≡ 1 = c.in_ok-reports.ensures.stay ∙ ap (λ (rs : List Replica). length rs) value in
    let at : slice_get new 0 ≡ Some replica = sole_replica new replica one (c.index.ensures ∙ ap (λ (rs : List Replica). get_or rs 0 replica) (take_at new (drop (length new) old) c.in_ok-replicas.replicas.len sized)) in
    let holds : HoldsProgram c.args.edition files c.args.directory.now replica = holds_program c.args.edition files c.args.directory.now c.in-Some.reports.items new built clear good replica at in
    subst (λ (o : Option ProgramOutcome). ImageEndsAs c.args.edition files c.args.directory.now c.args.ticks o) c.in-None.is (c.in_ok-outcome.ensures files holds)
