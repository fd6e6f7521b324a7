use Rattle.std.proofs.Common.{◌≡◌, ◌+◌, ◌*◌, ◌<◌, ◌≤◌, true, false, length, Option, Some, None, IfSome, IfNone, refl, sym, ap, ◌∙◌, subst, arith, rules}
use Rattle.std.specs.Prelude.{option_copied}
use Rattle.std.specs.List.{slice_get}
use Rattle.ws_action.specs.Actions.{Action, action_id}
use Rattle.ws_board.specs.declared.work.JobStatus.{JobStatus}
use Rattle.ws_board.specs.declared.work.JobStatus.TheVariants.{Waiting, Blocked}
use Rattle.ws_board.specs.declared.table.Row.{Row}
use Rattle.ws_board.specs.Machine.{is_waiting, MayForm, IsFormed, IsPlaced}
use Rattle.ws_board.specs.Propagation.{held_by}
use Rattle.ws_board.specs.Ends.{job_imports_at, work_at}
use Rattle.ws_board.specs.Rows.{IsOpenPast, due, due_of, importer_reads, charged_for}
use Rattle.ws_board.specs.Table.{row_at, job_states_of}
use Rattle.ws_board.proofs.Carry.{waiting_is}
use Rattle.ws_board.proofs.Standby.{becomes_of, stands_waits, stands_stopped, stands_acts, all_past, placed_cases, placed_costs}
use Rattle.ws_board.proofs.propagation.stands.Goals as goal

pub returns-then-left-gt0-clause-becomes : goal.returns-then-left-gt0-clause-becomes
returns-then-left-gt0-clause-becomes c =
    let h = held_by c.args.holds in
    let J = c.args.rows.now.jobs.items in
    let R = c.args.rows.now.rows in
    let job = c.args.job in
    let was : Row = c.in-Some.found.row.now in
    let left = c.left_of-left.result in
    let same : was ≡ row_at R job = c.in-Some.ensures.row.0 in
    let waits : is_waiting was.status ≡ true = search rules in
    let waited : is_waiting (row_at R job).status ≡ true = ap (λ (r : Row). is_waiting r.status) (sym same) ∙ waits in
    let work : work_at J job ≡ Some c.in-Some-work.work.now = sym c.in-Some.ensures.work ∙ ap option_copied c.in-Some-work.is in
    let before : IsOpenPast J R job was.left = subst (λ (r : Row). IsOpenPast J R job r.left) (sym same) (c.requires.past job waited) in
    let within : was.left ≤ length (job_imports_at J job) = subst (λ (r : Row). r.left ≤ length (job_imports_at J job)) (sym same) (c.requires.within job waited) in
    let some : 0 < left = c.if-left-gt0.true in
    let on = c.left_of-left.ensures.on some in
    becomes_of h J R job was c.row_of-then-left-gt0.result same waits c.in-Some.ensures.row.1 Waiting None left c.row_of-then-left-gt0.ensures
    (stands_waits h J R job left c.in-Some-work.work.now work some (omega (arith, within, c.left_of-left.ensures.fewer)) on)
    c.left_of-left.ensures.fewer (c.left_of-left.ensures.past before) (λ w. (some, on))

pub returns-in-Some-2-clause-becomes : goal.returns-in-Some-2-clause-becomes
returns-in-Some-2-clause-becomes c =
    let h = held_by c.args.holds in
    let J = c.args.rows.now.jobs.items in
    let R = c.args.rows.now.rows in
    let job = c.args.job in
    let was : Row = c.in-Some.found.row.now in
    let same : was ≡ row_at R job = c.in-Some.ensures.row.0 in
    let waits : is_waiting was.status ≡ true = search rules in
    let waited : is_waiting (row_at R job).status ≡ true = ap (λ (r : Row). is_waiting r.status) (sym same) ∙ waits in
    let work : work_at J job ≡ Some c.in-Some-work.work.now = sym c.in-Some.ensures.work ∙ ap option_copied c.in-Some-work.is in
    let before : IsOpenPast J R job was.left = subst (λ (r : Row). IsOpenPast J R job r.left) (sym same) (c.requires.past job waited) in
    let none : c.left_of-left.result ≡ 0 = omega (arith, c.if-left-gt0.false) in
    let past : IsOpenPast J R job 0 = subst (IsOpenPast J R job) none (c.left_of-left.ensures.past before) in
    let a : Action = c.in-Some-2.action in
    let status : JobStatus = c.placed-status.result in
    let formed : IsFormed h (job_states_of R) c.in-Some-work.work.now (job_imports_at J job) a = subst (λ (o : Option Action). IfSome o (λ x. IsFormed h (job_states_of R) c.in-Some-work.work.now (job_imports_at J job) x)) c.in-Some-2.is c.in_ok-action.ensures.some in
    let placed : IsPlaced (h (action_id a)) status = subst (λ i. IsPlaced (h i) status) c.id.ensures c.placed-status.ensures in
    becomes_of h J R job was c.row_of-in-Some-2.result same waits c.in-Some.ensures.row.1 status (Some a) 0 c.row_of-in-Some-2.ensures
    (stands_acts h (job_states_of R) (slice_get J job) c.in-Some-work.work.now a status work formed placed)
    (omega arith) past (λ w. absurd (placed_cases (h (action_id a)) status placed w))

pub returns-in-None-clause-becomes : goal.returns-in-None-clause-becomes
returns-in-None-clause-becomes c =
    let h = held_by c.args.holds in
    let J = c.args.rows.now.jobs.items in
    let R = c.args.rows.now.rows in
    let job = c.args.job in
    let was : Row = c.in-Some.found.row.now in
    let same : was ≡ row_at R job = c.in-Some.ensures.row.0 in
    let waits : is_waiting was.status ≡ true = search rules in
    let waited : is_waiting (row_at R job).status ≡ true = ap (λ (r : Row). is_waiting r.status) (sym same) ∙ waits in
    let work : work_at J job ≡ Some c.in-Some-work.work.now = sym c.in-Some.ensures.work ∙ ap option_copied c.in-Some-work.is in
    let before : IsOpenPast J R job was.left = subst (λ (r : Row). IsOpenPast J R job r.left) (sym same) (c.requires.past job waited) in
    let none : c.left_of-left.result ≡ 0 = omega (arith, c.if-left-gt0.false) in
    let past : IsOpenPast J R job 0 = subst (IsOpenPast J R job) none (c.left_of-left.ensures.past before) in
    let unformed = subst (λ (o : Option Action). IfNone o ((a : Action) → ¬ (MayForm h (job_states_of R) c.in-Some-work.work.now (job_imports_at J job) a))) c.in-None.is c.in_ok-action.ensures.none in
    becomes_of h J R job was c.row_of-in-None.result same waits c.in-Some.ensures.row.1 Blocked None 0 c.row_of-in-None.ensures
    (stands_stopped h (job_states_of R) (slice_get J job) c.in-Some-work.work.now work (all_past J R job 0 refl past) unformed)
    (omega arith) past (λ w. (let x : false ≡ true = w in absurd (cc)))

pub returns-in-Some-2-clause-paid : goal.returns-in-Some-2-clause-paid
returns-in-Some-2-clause-paid c =
    let h = held_by c.args.holds in
    let R = c.args.rows.now.rows in
    let job = c.args.job in
    let was : Row = c.in-Some.found.row.now in
    let status : JobStatus = c.placed-status.result in
    let waits : is_waiting was.status ≡ true = search rules in
    let is : due (row_at R job) ≡ 2 + 2 * was.left + 2 * was.imports + importer_reads was.importers =
    ap due (sym c.in-Some.ensures.row.0) ∙ ap (λ (s : JobStatus). due_of s was.left was.imports was.importers) (waiting_is was.status waits) in
    let none : c.left_of-left.result ≡ 0 = omega (arith, c.if-left-gt0.false) in
    let placed : IsPlaced (h (action_id c.in-Some-2.action)) status = subst (λ i. IsPlaced (h i) status) c.id.ensures c.placed-status.ensures in
    let costs = placed_costs (h (action_id c.in-Some-2.action)) status 0 was.imports was.importers placed in
    subst (λ (r : Row). charged_for c.formed.new.looks r ≤ c.args.looks.now + due (row_at R job) + 3) (sym c.row_of-in-Some-2.ensures)
    (omega (arith, costs, is, c.left_of-left.ensures.all none, c.in_ok-action.ensures.paid, c.in-Some.ensures.one))
