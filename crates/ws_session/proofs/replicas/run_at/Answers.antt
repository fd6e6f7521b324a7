use Rattle.std.proofs.Common.{◌≡◌, ◌<◌, length, arith, subst, Option}
use Rattle.std.specs.Prelude.{Err}
use Rattle.go_code.specs.Images.{Image}
use Rattle.go_vm.specs.Answers.{ImageAnswers}
use Rattle.ws_replica.specs.Holdings.{ReplicaStandsFor}
use Rattle.ws_replica.specs.Programs.{IsImage}
use Rattle.ws_session.specs.declared.replicas.SessionReplica.{SessionReplica}
use Rattle.ws_session.proofs.Standings.{one_element}
use Rattle.ws_session.proofs.Runs.{no_run, image_runs, nonsense_runs}
use Rattle.ws_session.proofs.replicas.run_at.Goals as goal

pub returns-in_default-clause-ok : goal.returns-in_default-clause-ok
returns-in_default-clause-ok g c n W E e h sized =
    let inside : c.args.index < length c.args.named.now.items = omega (arith, c.requires, c.args.named.now.ok.0) in
    let same : n ≡ c.index.result.now = one_element c.args.named.now.items c.args.index n c.index.result.now inside e c.index.ensures in
    let holds = subst (λ (m : SessionReplica). ReplicaStandsFor m.replica W E) same h in
    let is : IsImage c.args.edition W E c.args.directory.now c.in_ok-image.field-0 = c.in_ok-image.ensures.ok W E holds sized in
    no_run c.args.edition c.args.directory.now c.args.ticks W E (subst (λ (o : Option Image). IsImage c.args.edition W E c.args.directory.now o) c.in_default.is is)

pub returns-in-Ok-clause-ok : goal.returns-in-Ok-clause-ok
returns-in-Ok-clause-ok g c n W E e h sized =
    let inside : c.args.index < length c.args.named.now.items = omega (arith, c.requires, c.args.named.now.ok.0) in
    let same : n ≡ c.index.result.now = one_element c.args.named.now.items c.args.index n c.index.result.now inside e c.index.ensures in
    let holds = subst (λ (m : SessionReplica). ReplicaStandsFor m.replica W E) same h in
    let is : IsImage c.args.edition W E c.args.directory.now c.in_ok-image.field-0 = c.in_ok-image.ensures.ok W E holds sized in
    image_runs c.args.edition c.args.directory.now c.args.ticks W (c.see_files.ensures W E holds) E c.in-Some.image
    (subst (λ (o : Option Image). IsImage c.args.edition W E c.args.directory.now o) c.in-Some.is is)
    c.law_held_program_means_its_sources.ensures.means c.in-Ok.outcome c.in-Ok.ensures

pub returns-clause-ok : goal.returns-clause-ok
returns-clause-ok g c n W E e h sized =
    let inside : c.args.index < length c.args.named.now.items = omega (arith, c.requires, c.args.named.now.ok.0) in
    let same : n ≡ c.index.result.now = one_element c.args.named.now.items c.args.index n c.index.result.now inside e c.index.ensures in
    let holds = subst (λ (m : SessionReplica). ReplicaStandsFor m.replica W E) same h in
    let is : IsImage c.args.edition W E c.args.directory.now c.in_ok-image.field-0 = c.in_ok-image.ensures.ok W E holds sized in
    nonsense_runs c.args.edition c.args.directory.now c.args.ticks W (c.see_files.ensures W E holds) E c.in-Some.image
    (subst (λ (o : Option Image). IsImage c.args.edition W E c.args.directory.now o) c.in-Some.is is)
    c.law_held_program_means_its_sources.ensures.sense
    (subst (λ error. ImageAnswers c.in-Some.image c.args.ticks (Err error)) c.in-Err-BadCode.field-0-is c.in-Err-BadCode.ensures)
