use Rattle.std.proofs.Common.{◌≡◌, ◌∙◌, ◌*◌, ◌<◌, ◌≤◌, ◌++◌, List, None, true, false, length, replicate, count_by, sym, ap, subst, refl, arith}
use Rattle.std.specs.Prelude.{if◌then◌else◌}
use Rattle.std.specs.List.{All, sum_by}
use Rattle.std.proofs.lemmas.List.{length-replicate}
use Rattle.ws_board.specs.declared.work.Event.{Event}
use Rattle.ws_board.specs.declared.index.Ready.{Ready as AReady}
use Rattle.ws_board.specs.Work.{Job, Opening, BoardState, Seen}
use Rattle.ws_board.specs.Machine.{IsFirst, IsHistory}
use Rattle.ws_board.specs.Calls.{IsFresh}
use Rattle.ws_board.specs.Propagation.{held_with}
use Rattle.ws_board.specs.Rows.{those_of, import_count, is_back, ArePropagated, IsPaid}
use Rattle.ws_board.specs.Table.{job_states_of}
use Rattle.ws_board.specs.Indexes.{jobs_in, is_free_in, is_released, Agrees}
use Rattle.ws_board.proofs.Histories.{opened_first, opened_history}
use Rattle.ws_board.proofs.Shown.{shows}
use Rattle.ws_board.proofs.Runs.{opening_rests}
use Rattle.ws_board.proofs.Importing.{first_good}
use Rattle.ws_board.proofs.Boarding.{moved, within}
use Rattle.ws_board.proofs.Concluding.{open_carried, open_index, open_parts, open_backs, open_paid, open_room, opened_listed, ready_inside}
use Rattle.ws_board.proofs.Board.open.Goals as goal

pub carry_all-requires-clause-good : goal.carry_all-requires-clause-good
carry_all-requires-clause-good c =
    let r = c.in_ok-rows.rows in
    first_good r.jobs.items r.importers.items r.rows c.in_ok-rows.ensures.first c.in_ok-rows.ensures.known

pub carry_all-requires-clause-room : goal.carry_all-requires-clause-room
carry_all-requires-clause-room c =
    let r = c.in_ok-rows.rows in
    let few = subst (λ l. sum_by (λ list. length list) r.importers.items ≤ import_count l) (sym c.in_ok-rows.ensures.jobs) c.in_ok-rows.ensures.count in
    open_room r.jobs.items r.importers.items r.rows c.new-moves.result.settled.items 0 c.in_ok-rows.ensures.first c.in_ok-rows.ensures.known.lists few (omega (arith, c.in_ok-rows.ensures.first.count, r.jobs.ok.0, r.jobs.ok.1, r.jobs.small)) c.in_ok-rows.ensures.known.fits
    c.new-moves.ensures.1 refl

pub release-requires : goal.release-requires
release-requires c =
    let r = c.in_ok-rows.rows in
    let N = c.carry_all.new.rows.rows in
    let ready = c.carry_all.new.moves.ready.items in
    let from : ArePropagated r = first_good r.jobs.items r.importers.items r.rows c.in_ok-rows.ensures.first c.in_ok-rows.ensures.known in
    let h = held_with c.args.cache c.new-added.result None in
    let listed = opened_listed h (3 * length r.rows) r c.carry_all.new.rows c.new-moves.result c.carry_all.new.moves 0 c.carry_all.new.looks c.new-moves.ensures.2 c.in_ok-rows.ensures.first from c.in_ok-carry_all.ensures.on c.in_ok-carry_all.ensures.waits in
    let inside : All (λ (one : AReady). one.job < length N) ready = ready_inside r.rows N ready listed in
    let count : length c.admit.new.self.free ≡ length N =
    ap length (c.admit.ensures.same.free ∙ c.in_ok-index.ensures.free) ∙ length-replicate c.len.result false ∙ c.len.ensures ∙ c.args.jobs.ok.0 ∙ ap length (sym (c.in_ok-carry_all.ensures.on.jobs ∙ c.in_ok-rows.ensures.jobs)) ∙ sym c.in_ok-carry_all.ensures.on.good.known.jobs in
    subst (λ l. All (λ (one : AReady). one.job < length c.admit.new.self.free) l) (sym c.ready-2.ensures) (subst (λ n. All (λ (one : AReady). one.job < n) ready) (sym count) inside)

pub invariant_of-result : goal.invariant_of-result
invariant_of-result c =
    let r = c.in_ok-rows.rows in
    let new = c.carry_all.new.rows in
    let J = r.jobs.items in
    let N = new.rows in
    let added = c.new-added.result in
    let first = c.in_ok-rows.ensures.first in
    let on = c.in_ok-carry_all.ensures.on in
    let waits = c.in_ok-carry_all.ensures.waits in
    let none = c.new-moves.ensures.2 in
    let from : ArePropagated r = first_good J r.importers.items r.rows first c.in_ok-rows.ensures.known in
    let h = held_with c.args.cache added None in
    let spare = 3 * length r.rows in
    let opening : Opening = record { jobs = J; cache = c.args.cache } in
    let now : BoardState = record { standings = job_states_of N; added = added } in
    let carried = open_carried h spare r new c.new-moves.result c.carry_all.new.moves 0 c.carry_all.new.looks none first from on waits in
    let legal : IsHistory opening c.new-3.result.items now = subst (λ (l : List Event). IsHistory opening l now) (sym c.new-3.ensures.items) (opened_history opening now (opened_first J c.args.cache added now.standings c.new-added.ensures.empty carried)) in
    let few = subst (λ l. sum_by (λ list. length list) r.importers.items ≤ import_count l) (sym c.in_ok-rows.ensures.jobs) c.in_ok-rows.ensures.count in
    let paid = open_paid h spare r new c.new-moves.result c.carry_all.new.moves 0 c.carry_all.new.looks none first from on waits refl refl c.new-moves.ensures.1 few c.in_ok-carry_all.ensures.read in
    let backs : count_by is_back c.new-3.result.items ≡ 0 = ap (count_by is_back) c.new-3.ensures.items in
    let kept = open_parts h spare r new c.new-moves.result c.carry_all.new.moves 0 c.carry_all.new.looks none first from on waits in
    let parts =
    moved J new.jobs.items r.importers.items new.importers.items N c.args.cache added c.new-3.result.items now.standings c.carry_all.new.looks (count_by is_back c.new-3.result.items) on.jobs on.importers refl legal kept.0 kept.1
    (subst (λ n. IsPaid c.carry_all.new.looks N (import_count J) n) (sym backs) paid) in
    let count : c.len.result ≡ length J = c.len.ensures ∙ c.args.jobs.ok.0 ∙ ap length (sym c.in_ok-rows.ensures.jobs) in
    let agrees : Agrees N c.release.new.self =
    open_index h spare r new c.new-moves.result c.carry_all.new.moves 0 c.carry_all.new.looks none first from on waits c.in_ok-index.index c.admit.new.self c.release.new.self
    c.in_ok-index.ensures.ids (c.in_ok-index.ensures.free ∙ ap (λ n. replicate n false) count) c.in_ok-index.ensures.running
    (λ i. c.in_ok-admit.ensures.ok i ∙ ap (λ l. jobs_in c.in_ok-index.index i ++ those_of i l) c.ready.ensures) c.admit.ensures.same c.release.ensures.ids
    (λ j. c.release.ensures.free j ∙ ap (λ l. if is_released c.admit.new.self l j then true else is_free_in c.admit.new.self j) c.ready-2.ensures)
    c.release.ensures.len c.release.ensures.running in (
      parts.0,
      parts.1,
      parts.2,
      agrees,
      open_backs h spare r new c.new-moves.result c.carry_all.new.moves 0 c.carry_all.new.looks none first from on waits c.new-3.result.items c.new-3.ensures.items,
      parts.3,
      omega (arith, agrees.running, c.release.ensures.running, c.admit.ensures.same.running, c.in_ok-index.ensures.running, c.new-3.ensures.len),
    )

pub returns-clause-opening : goal.returns-clause-opening
returns-clause-opening c = ap (λ (jobs : List Job). let opening : Opening = record { jobs = jobs; cache = c.args.cache } in opening) (c.in_ok-carry_all.ensures.on.jobs ∙ c.in_ok-rows.ensures.jobs)

pub returns-clause-fresh : goal.returns-clause-fresh
returns-clause-fresh c =
    let r = c.in_ok-rows.rows in
    let new = c.carry_all.new.rows in
    let J = r.jobs.items in
    let added = c.new-added.result in
    let first = c.in_ok-rows.ensures.first in
    let on = c.in_ok-carry_all.ensures.on in
    let from : ArePropagated r = first_good J r.importers.items r.rows first c.in_ok-rows.ensures.known in
    let h = held_with c.args.cache added None in
    let now : BoardState = record { standings = job_states_of new.rows; added = added } in
    let carried = open_carried h (3 * length r.rows) r new c.new-moves.result c.carry_all.new.moves 0 c.carry_all.new.looks c.new-moves.ensures.2 first from on c.in_ok-carry_all.ensures.waits in
    let begins : IsFirst (record { jobs = new.jobs.items; cache = c.args.cache }) now = subst (λ (l : List Job). IsFirst (record { jobs = l; cache = c.args.cache }) now) (sym on.jobs) (opened_first J c.args.cache added now.standings c.new-added.ensures.empty carried) in
    record { first = begins; nothing_runs = opening_rests J h now.standings carried; nothing_happened = c.new-3.ensures.items }

pub returns-clause-shows : goal.returns-clause-shows
returns-clause-shows c =
    let r = c.in_ok-rows.rows in
    let new = c.carry_all.new.rows in
    let J = r.jobs.items in
    let added = c.new-added.result in
    let first = c.in_ok-rows.ensures.first in
    let on = c.in_ok-carry_all.ensures.on in
    let from : ArePropagated r = first_good J r.importers.items r.rows first c.in_ok-rows.ensures.known in
    let h = held_with c.args.cache added None in
    let now : BoardState = record { standings = job_states_of new.rows; added = added } in
    let carried = open_carried h (3 * length r.rows) r new c.new-moves.result c.carry_all.new.moves 0 c.carry_all.new.looks c.new-moves.ensures.2 first from on c.in_ok-carry_all.ensures.waits in
    let begins : IsFirst (record { jobs = new.jobs.items; cache = c.args.cache }) now = subst (λ (l : List Job). IsFirst (record { jobs = l; cache = c.args.cache }) now) (sym on.jobs) (opened_first J c.args.cache added now.standings c.new-added.ensures.empty carried) in
    let seen : Seen = record { opening = record { jobs = new.jobs.items; cache = c.args.cache }; state = now; history = c.new-3.result.items; looks = c.carry_all.new.looks } in
    let fresh : IsFresh seen = record { first = begins; nothing_runs = opening_rests J h now.standings carried; nothing_happened = c.new-3.ensures.items } in
    shows seen fresh

pub returns-clause-looks : goal.returns-clause-looks
returns-clause-looks c =
    let r = c.in_ok-rows.rows in
    let new = c.carry_all.new.rows in
    let first = c.in_ok-rows.ensures.first in
    let on = c.in_ok-carry_all.ensures.on in
    let waits = c.in_ok-carry_all.ensures.waits in
    let none = c.new-moves.ensures.2 in
    let from : ArePropagated r = first_good r.jobs.items r.importers.items r.rows first c.in_ok-rows.ensures.known in
    let h = held_with c.args.cache c.new-added.result None in
    let spare = 3 * length r.rows in
    let few = subst (λ l. sum_by (λ list. length list) r.importers.items ≤ import_count l) (sym c.in_ok-rows.ensures.jobs) c.in_ok-rows.ensures.count in
    let paid = open_paid h spare r new c.new-moves.result c.carry_all.new.moves 0 c.carry_all.new.looks none first from on waits refl refl c.new-moves.ensures.1 few c.in_ok-carry_all.ensures.read in
    let backs : count_by is_back c.new-3.result.items ≡ 0 = ap (count_by is_back) c.new-3.ensures.items in
    let kept = open_parts h spare r new c.new-moves.result c.carry_all.new.moves 0 c.carry_all.new.looks none first from on waits in
    within r.jobs.items new.jobs.items r.importers.items new.rows c.carry_all.new.looks (count_by is_back c.new-3.result.items) on.jobs kept.0 (subst (λ n. IsPaid c.carry_all.new.looks new.rows (import_count r.jobs.items) n) (sym backs) paid)
