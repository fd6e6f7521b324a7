-- Carrying on, one step after another.
use Rattle.std.proofs.Common.{◌≡◌, ℕ, zero, suc, ◌+◌, ◌-◌, ◌*◌, ◌<◌, ◌≤◌, Bool, true, false, ◌&&◌, ◌||◌, eqb, List, [], ◌∷◌, ◌++◌, length, drop, get_or, count_by, Option, Some, None, refl, sym, ap, ◌∙◌, subst, arith, inl, inr, ◌⊎◌}
use Rattle.std.specs.Prelude.{if◌then◌else◌, nat_le}
use Rattle.std.specs.List.{list_any, slice_index_or, slice_get, Contains}
use Rattle.std.proofs.lemmas.Bool.{cases_eq}
use Rattle.std.proofs.lemmas.Bool.Decides.{nat_tests}
use Rattle.std.proofs.lemmas.List.{length_push, drop_more}
use Rattle.std.proofs.lemmas.List.Sums.{sum_by_push}
use Rattle.std.proofs.lemmas.List.Elements.{Contains-get_or}
use Rattle.ws_action.specs.Actions.{Action}
use Rattle.ws_board.specs.declared.work.JobStatus.TheVariants.{Waiting}
use Rattle.ws_board.specs.declared.table.Row.{Row}
use Rattle.ws_board.specs.declared.rows.Rows.{Rows}
use Rattle.ws_board.specs.declared.rows.moves.Moves.{Moves}
use Rattle.ws_board.specs.Work.{Work, Job, JobStates}
use Rattle.ws_board.specs.Machine.{Holdings, Propagated, is_open, is_waiting, is_ready, is_running, status_at, action_at, has_action_id, any_open, HasStatus, Wait, IsReadiness}
use Rattle.ws_board.specs.Propagation.{IsUnder}
use Rattle.ws_board.specs.Ends.{job_imports_at, job_imports, work_in}
use Rattle.ws_board.specs.Rows.{times, those_of, is_newly_ready, owed, untold, importer_reads, watched, ArePropagated, ArePropagatedBy, IsHeldUp, Waits, Propagates, IsUndone, undone, AreWritten}
use Rattle.ws_board.specs.Table.{row_at, job_states_of}
use Rattle.ws_board.proofs.Carry.{start_under, waiting_or, waiting_is, end_carried}
use Rattle.ws_board.proofs.Standing.{status_row, action_row, open_inside, waiting_open}
use Rattle.ws_board.proofs.Advancing.{not_new}
use Rattle.ws_board.proofs.Listing.{any_push, contains_any, eqb_not}

bare_of : (J : List Job) (I : List (List ℕ)) (R : List Row) → ArePropagatedBy J I R → (k : ℕ) → status_at (job_states_of R).statuses k ≡ Waiting → action_at (job_states_of R).actions k ≡ None
bare_of J I R good k w = action_row R k ∙ good.bare k (sym (status_row R k) ∙ w)

-- who doesn't wait stays
pub under_others : (J : List Job) (h : Holdings) (I : List (List ℕ)) (O N : List Row) → ArePropagatedBy J I O → ((first : JobStates) → IsUnder J h first (job_states_of O) → IsUnder J h first (job_states_of N))
    → (k : ℕ) → is_waiting (row_at O k).status ≡ false → ((row_at N k).status ≡ (row_at O k).status) × ((row_at N k).action ≡ (row_at O k).action)
under_others J h I O N good under k w =
    let u = under (job_states_of O) (start_under J h (job_states_of O) (bare_of J I O good)) in
    let same = u.others k (ap is_waiting (status_row O k) ∙ w) in
    (sym (status_row N k) ∙ same.0 ∙ status_row O k, sym (action_row N k) ∙ same.1 ∙ action_row O k)

-- what is new after two steps
new_then : (O M N : List Row) (id : List ℕ) (k : ℕ) → (is_waiting (row_at O k).status ≡ false → (row_at M k).status ≡ (row_at O k).status)
    → (is_waiting (row_at M k).status ≡ false → ((row_at N k).status ≡ (row_at M k).status) × ((row_at N k).action ≡ (row_at M k).action))
    → (if is_newly_ready O M id k then 1 else 0) + (if is_newly_ready M N id k then 1 else 0) ≡ (if is_newly_ready O N id k then 1 else 0)
new_then O M N id k first second = by_old (waiting_or (row_at O k).status) (waiting_or (row_at M k).status)
  where
    has : Row → Bool
    has r = is_ready r.status && has_action_id id r.action

    add_none : (n : ℕ) → 0 + n ≡ n
    add_none n = omega arith

    none_add : (n : ℕ) → n + 0 ≡ n
    none_add n = omega arith

    by_old : (is_waiting (row_at O k).status ≡ true) ⊎ (is_waiting (row_at O k).status ≡ false) → (is_waiting (row_at M k).status ≡ true) ⊎ (is_waiting (row_at M k).status ≡ false)
        → (if is_newly_ready O M id k then 1 else 0) + (if is_newly_ready M N id k then 1 else 0) ≡ (if is_newly_ready O N id k then 1 else 0)
    by_old (inr o) m =
        let w : is_waiting (row_at M k).status ≡ false = ap is_waiting (first o) ∙ o in
        let a : is_newly_ready O M id k ≡ false = ap (λ b. b && (is_ready (row_at M k).status && has_action_id id (row_at M k).action)) o in
        let b : is_newly_ready M N id k ≡ false = ap (λ b. b && (is_ready (row_at N k).status && has_action_id id (row_at N k).action)) w in
        let c : is_newly_ready O N id k ≡ false = ap (λ b. b && (is_ready (row_at N k).status && has_action_id id (row_at N k).action)) o in
        ap (λ x. (if x then 1 else 0) + (if is_newly_ready M N id k then 1 else 0)) a ∙ ap (λ x. 0 + (if x then 1 else 0)) b ∙ ap (λ x. if x then 1 else 0) (sym c)
    by_old (inl o) (inl m) =
        let r : is_ready (row_at M k).status ≡ false = ap is_ready (waiting_is (row_at M k).status m) in
        let a : is_newly_ready O M id k ≡ false = ap (λ b. b && (is_ready (row_at M k).status && has_action_id id (row_at M k).action)) o ∙ ap (λ b. b && has_action_id id (row_at M k).action) r in
        let b : is_newly_ready M N id k ≡ is_newly_ready O N id k = ap (λ b. b && (is_ready (row_at N k).status && has_action_id id (row_at N k).action)) (m ∙ sym o) in
        ap (λ x. (if x then 1 else 0) + (if is_newly_ready M N id k then 1 else 0)) a ∙ add_none (if is_newly_ready M N id k then 1 else 0) ∙ ap (λ x. if x then 1 else 0) b
    by_old (inl o) (inr m) =
        let same = second m in
        let b : is_newly_ready M N id k ≡ false = ap (λ b. b && (is_ready (row_at N k).status && has_action_id id (row_at N k).action)) m in
        let c : is_newly_ready O M id k ≡ is_newly_ready O N id k = ap (λ s. is_waiting (row_at O k).status && (is_ready s && has_action_id id (row_at M k).action)) (sym same.0)
        ∙ ap (λ (a : Option Action). is_waiting (row_at O k).status && (is_ready (row_at N k).status && has_action_id id a)) (sym same.1) in
        ap (λ x. (if is_newly_ready O M id k then 1 else 0) + (if x then 1 else 0)) b ∙ none_add (if is_newly_ready O M id k then 1 else 0) ∙ ap (λ x. if x then 1 else 0) c

-- nothing changed but reads
pub carries_none : (h : Holdings) (spare : ℕ) (old new : Rows) (before after : Moves) (looks next : ℕ) → ArePropagated old → new.jobs.items ≡ old.jobs.items → new.importers.items ≡ old.importers.items → new.rows ≡ old.rows
    → after.settled.items ≡ before.settled.items → after.ready.items ≡ before.ready.items → looks ≤ next → next ≤ looks + spare → Propagates h spare old new before after looks next
carries_none h spare old new before after looks next good jobs importers rows settled ready more paid = record {
  jobs = jobs;
  importers = importers;
  good = subst (λ J. ArePropagatedBy J new.importers.items new.rows) (sym jobs) (subst (λ I. ArePropagatedBy old.jobs.items I new.rows) (sym importers) (subst (ArePropagatedBy old.jobs.items old.importers.items) (sym rows) good));
  under = λ first u. subst (λ R. IsUnder old.jobs.items h first (job_states_of R)) (sym rows) u;
  backs = λ k. ap (λ R. (row_at R k).was_back) rows;
  runs = ap (λ R. count_by is_running (job_states_of R).statuses) rows;
  listed = λ k id. ap (λ l. times k (those_of id l)) ready ∙ add_none (times k (those_of id before.ready.items)) (if is_newly_ready old.rows new.rows id k then 1 else 0)
      (ap (λ R. if is_newly_ready old.rows R id k then 1 else 0) rows ∙ ap (λ b. if b then 1 else 0) (not_new old.rows id k));
  fewer = (
      let a : length after.settled.items ≡ length before.settled.items = ap length settled in
      let b : count_by is_open (job_states_of new.rows).statuses ≡ count_by is_open (job_states_of old.rows).statuses = ap (λ R. count_by is_open (job_states_of R).statuses) rows in
      omega (arith, a, b)
      );
  paid = (
      let a : owed new.rows ≡ owed old.rows = ap owed rows in
      let b : untold new.importers.items after.settled.items ≡ untold old.importers.items before.settled.items = ap (λ I. untold I after.settled.items) importers ∙ ap (untold old.importers.items) settled in
      omega (arith, a, b, paid)
      );
  more = more;
}
  where
    add_none : (n m : ℕ) → m ≡ 0 → n ≡ n + m
    add_none n m e = omega (arith, e)

pub carries_then : (h : Holdings) (s t : ℕ) (a b c : Rows) (ma mb mc : Moves) (la lb lc : ℕ) → ArePropagated a → Propagates h s a b ma mb la lb → Propagates h t b c mb mc lb lc → Propagates h (s + t) a c ma mc la lc
carries_then h s t a b c ma mb mc la lb lc good p q = record {
  jobs = q.jobs ∙ p.jobs;
  importers = q.importers ∙ p.importers;
  good = q.good;
  under = under;
  backs = λ k. q.backs k ∙ p.backs k;
  runs = q.runs ∙ p.runs;
  listed = λ k id. listed k id;
  fewer = omega (arith, p.fewer, q.fewer);
  paid = omega (arith, p.paid, q.paid);
  more = omega (arith, p.more, q.more);
}
  where
    onward : (first : JobStates) → IsUnder a.jobs.items h first (job_states_of b.rows) → IsUnder a.jobs.items h first (job_states_of c.rows)
    onward first u = subst (λ J. IsUnder J h first (job_states_of c.rows)) p.jobs (q.under first (subst (λ J. IsUnder J h first (job_states_of b.rows)) (sym p.jobs) u))

    under : (first : JobStates) → IsUnder a.jobs.items h first (job_states_of a.rows) → IsUnder a.jobs.items h first (job_states_of c.rows)
    under first u = onward first (p.under first u)

    mid : ArePropagatedBy a.jobs.items b.importers.items b.rows
    mid = subst (λ J. ArePropagatedBy J b.importers.items b.rows) p.jobs p.good

    add_assoc : (x y z n m : ℕ) → n ≡ m + y → m ≡ x + z → n ≡ x + (z + y)
    add_assoc x y z n m e f = omega (arith, e, f)

    listed : (k : ℕ) (id : List ℕ) → times k (those_of id mc.ready.items) ≡ times k (those_of id ma.ready.items) + (if is_newly_ready a.rows c.rows id k then 1 else 0)
    listed k id =
        add_assoc (times k (those_of id ma.ready.items)) (if is_newly_ready b.rows c.rows id k then 1 else 0) (if is_newly_ready a.rows b.rows id k then 1 else 0)
        (times k (those_of id mc.ready.items)) (times k (those_of id mb.ready.items)) (q.listed k id) (p.listed k id)
        ∙ ap (λ n. times k (those_of id ma.ready.items) + n) (new_then a.rows b.rows c.rows id k
        (λ w. (under_others a.jobs.items h a.importers.items a.rows b.rows good p.under k w).0)
        (under_others a.jobs.items h b.importers.items b.rows c.rows mid onward k))

-- a job that was settled is told
pub carries_popped : (h : Holdings) (s : ℕ) (a b : Rows) (m popped after : Moves) (job looks next : ℕ) → s ≡ importer_reads (length (slice_index_or a.importers.items job [])) → m.settled.items ≡ popped.settled.items ++ job ∷ [] → popped.ready.items ≡ m.ready.items
    → Propagates h s a b popped after looks next → Propagates h 0 a b m after looks next
carries_popped h s a b m popped after job looks next is settled ready on = record {
  jobs = on.jobs;
  importers = on.importers;
  good = on.good;
  under = on.under;
  backs = on.backs;
  runs = on.runs;
  listed = λ k id. on.listed k id ∙ ap (λ l. times k (those_of id l) + (if is_newly_ready a.rows b.rows id k then 1 else 0)) ready;
  fewer = (
      let e : length m.settled.items ≡ length popped.settled.items + 1 = ap length settled ∙ length_push popped.settled.items job in
      omega (arith, e, on.fewer)
      );
  paid = (
      let e : untold a.importers.items m.settled.items ≡ untold a.importers.items popped.settled.items + importer_reads (length (slice_index_or a.importers.items job [])) = ap (untold a.importers.items) settled ∙ sum_by_push (λ k. importer_reads (length (slice_index_or a.importers.items k []))) popped.settled.items job in
      omega (arith, e, on.paid, is)
      );
  more = on.more;
}

pub popped_untold : (I : List (List ℕ)) (ys xs : List ℕ) (job : ℕ) → ys ≡ xs ++ job ∷ [] → untold I ys ≡ untold I xs + importer_reads (length (slice_index_or I job []))
popped_untold I ys xs job is = ap (untold I) is ∙ sum_by_push (λ k. importer_reads (length (slice_index_or I k []))) xs job

pub popped_undone : (a b : Rows) (m popped after : Moves) → popped.log.items ≡ m.log.items → IsUndone a b popped after → IsUndone a b m after
popped_undone a b m popped after log u = record {
  rows = u.rows ∙ ap (λ l. undone l a.rows) log;
  count = u.count;
  jobs = u.jobs;
  importers = u.importers;
  written = λ w. u.written (subst (AreWritten (length a.rows)) (sym log) w);
}

-- ---- who waits, where a job is told

or_cases : (a b : Bool) → (a || b) ≡ true → (a ≡ true) ⊎ (b ≡ true)
or_cases true b h = inl refl
or_cases false b h = inr h

pub popped_waits : (J : List Job) (I : List (List ℕ)) (R : List Row) (xs ys : List ℕ) (job : ℕ) → ArePropagatedBy J I R → ys ≡ xs ++ job ∷ [] → Waits J R ys (λ j. false) → Waits J R xs (λ j. list_any (λ k. eqb k j) (slice_index_or I job []))
popped_waits J I R xs ys job good is waits j waiting not = by_on (or_cases (is_open (row_at R v).status) (list_any (λ k. eqb k v) ys) held.on)
  where
    held : IsHeldUp J R ys j
    held = waits j waiting refl

    v : ℕ
    v = watched J R j

    lt : (row_at R j).left - 1 < length (job_imports_at J j)
    lt = omega (arith, held.some, held.within)

    imported : Contains (job_imports_at J j) v
    imported = Contains-get_or (job_imports_at J j) ((row_at R j).left - 1) 0 lt

    apart : v ≡ job → ⊥
    apart e =
        let inside : v < length J = omega (arith, held.inside, good.known.jobs) in
        let c : false ≡ true = sym not ∙ ap (λ i. list_any (λ k. eqb k j) (slice_index_or I i [])) (sym e) ∙ contains_any (slice_index_or I v []) j (good.known.named j v imported inside) in cc

    still : (b c : Bool) → (b || c) ≡ true → c ≡ false → b ≡ true
    still true c h e = refl
    still false c h e = let x : true ≡ false = sym h ∙ e in absurd (cc)

    or_first : (b c : Bool) → b ≡ true → (b || c) ≡ true
    or_first true c e = refl
    or_first false c e = absurd (cc)

    or_second : (b c : Bool) → c ≡ true → (b || c) ≡ true
    or_second true c e = refl
    or_second false c e = e

    make : (is_open (row_at R v).status || list_any (λ k. eqb k v) xs) ≡ true → IsHeldUp J R xs j
    make on = record { some = held.some; within = held.within; inside = held.inside; work = held.work; on = on }

    by_on : (is_open (row_at R v).status ≡ true) ⊎ (list_any (λ k. eqb k v) ys ≡ true) → IsHeldUp J R xs j
    by_on (inl o) = make (or_first (is_open (row_at R v).status) (list_any (λ k. eqb k v) xs) o)
    by_on (inr t) =
        let both : (list_any (λ k. eqb k v) xs || eqb job v) ≡ true = sym (ap (list_any (λ k. eqb k v)) is ∙ any_push (λ k. eqb k v) xs job) ∙ t in
        make (or_second (is_open (row_at R v).status) (list_any (λ k. eqb k v) xs) (still (list_any (λ k. eqb k v) xs) (eqb job v) both (eqb_not job v (λ e. apart (sym e)))))

-- one importer more was carried on
pub next_told : (ks : List ℕ) (n k j : ℕ) → n < length ks → k ≡ get_or ks n 0 → list_any (λ i. eqb i j) (drop n ks) ≡ ((eqb k j) || list_any (λ i. eqb i j) (drop (n + 1) ks))
next_told ks n k j lt is = ap (list_any (λ i. eqb i j)) (drop_more ks n 0 lt) ∙ ap (λ x. (eqb x j) || list_any (λ i. eqb i j) (drop (n + 1) ks)) (sym is)

pub eqb_swap : (a b : ℕ) → eqb a b ≡ eqb b a
eqb_swap a b = elim (cases_eq a b) [
  | inl e ↦ ap (λ x. eqb x b) e ∙ ap (eqb b) (sym e)
  | inr ne ↦ eqb_not a b ne ∙ sym (eqb_not b a (λ e. ne (sym e)))
]

pub waits_same : (J : List Job) (R : List Row) (xs : List ℕ) (p q : ℕ → Bool) → ((j : ℕ) → q j ≡ p j) → Waits J R xs p → Waits J R xs q
waits_same J R xs p q same w j waiting not = w j waiting (sym (same j) ∙ not)

pub waits_parts : (J K : List Job) (R S : List Row) (xs ys : List ℕ) (p : ℕ → Bool) → K ≡ J → S ≡ R → ys ≡ xs → Waits J R xs p → Waits K S ys p
waits_parts J K R S xs ys p jobs rows settled w =
    subst (λ l. Waits l S ys p) (sym jobs) (subst (λ r. Waits J r ys p) (sym rows) (subst (λ l. Waits J R l p) (sym settled) w))

-- ---- undone

pub undone_none : (old new : Rows) (before after : Moves) → new.rows ≡ old.rows → new.jobs.items ≡ old.jobs.items → new.importers.items ≡ old.importers.items → after.log.items ≡ before.log.items → IsUndone old new before after
undone_none old new before after rows jobs importers log = record {
  rows = ap (λ l. undone l new.rows) log ∙ ap (undone before.log.items) rows;
  count = ap length rows;
  jobs = jobs;
  importers = importers;
  written = λ w. subst (AreWritten (length old.rows)) (sym log) w;
}

pub undone_then : (a b c : Rows) (ma mb mc : Moves) → IsUndone a b ma mb → IsUndone b c mb mc → IsUndone a c ma mc
undone_then a b c ma mb mc p q = record {
  rows = q.rows ∙ p.rows;
  count = q.count ∙ p.count;
  jobs = q.jobs ∙ p.jobs;
  importers = q.importers ∙ p.importers;
  written = λ w. subst (λ n. AreWritten n mc.log.items) p.count (q.written (subst (λ n. AreWritten n mb.log.items) (sym p.count) (p.written w)));
}

-- ---- where all are held up, nothing changes any more

pub import_open : (ks : List ℕ) (R : List Row) (i : ℕ) → i < length ks → is_open (row_at R (get_or ks i 0)).status ≡ true → any_open (job_states_of R) ks ≡ true
import_open [] R i lt o = absurd (omega (arith, lt))
import_open (k ∷ ks) R zero lt o = ap (λ b. b || any_open (job_states_of R) ks) (ap is_open (status_row R k) ∙ o)
import_open (k ∷ ks) R (suc i) lt o = or_second (is_open (status_at (job_states_of R).statuses k)) (any_open (job_states_of R) ks) (import_open ks R i (omega (arith, lt)) o)
  where
    or_second : (b c : Bool) → c ≡ true → (b || c) ≡ true
    or_second true c e = refl
    or_second false c e = e

pub waits_stands : (h : Holdings) (now : JobStates) (o : Option Job) (work : Work) → work_in o ≡ Some work → any_open now (job_imports o) ≡ true → HasStatus h now o Waiting None
waits_stands h now None work is open_now = absurd (cc)
waits_stands h now (Some job) work is open_now = (Wait, subst (λ o. IsReadiness h now o job.imports Wait) (sym is) open_now, (refl, refl))

pub ends_carried : (J : List Job) (h : Holdings) (I : List (List ℕ)) (first : JobStates) (N : List Row) → ArePropagatedBy J I N → IsUnder J h first (job_states_of N) → Waits J N [] (λ j. false) → Propagated J h first (job_states_of N)
ends_carried J h I first N good under waits = end_carried J h first (job_states_of N) under rests
  where
    or_none : (b : Bool) → (b || false) ≡ true → b ≡ true
    or_none true e = refl
    or_none false e = e

    rests : (j : ℕ) → status_at (job_states_of N).statuses j ≡ Waiting → HasStatus h (job_states_of N) (slice_get J j) Waiting None
    rests j w =
        let held : IsHeldUp J N [] j = waits j (ap is_waiting (sym (status_row N j) ∙ w)) refl in
        let lt : (row_at N j).left - 1 < length (job_imports_at J j) = omega (arith, held.some, held.within) in
        waits_stands h (job_states_of N) (slice_get J j) held.work.0 held.work.1 (import_open (job_imports_at J j) N ((row_at N j).left - 1) lt (or_none (is_open (row_at N (watched J N j)).status) held.on))

-- ---- one importer after another

pub spare_is : (h : Holdings) (s t : ℕ) (a b : Rows) (ma mb : Moves) (la lb : ℕ) → s ≡ t → Propagates h s a b ma mb la lb → Propagates h t a b ma mb la lb
spare_is h s t a b ma mb la lb e on = subst (λ n. Propagates h n a b ma mb la lb) e on

-- what was read before costs as well
pub read_before : (h : Holdings) (s t : ℕ) (a b : Rows) (ma mb : Moves) (la lr lb : ℕ) → lr ≡ la + t → Propagates h s a b ma mb lr lb → Propagates h (s + t) a b ma mb la lb
read_before h s t a b ma mb la lr lb one on = record {
  jobs = on.jobs;
  importers = on.importers;
  good = on.good;
  under = on.under;
  backs = on.backs;
  runs = on.runs;
  listed = on.listed;
  fewer = on.fewer;
  paid = omega (arith, on.paid, one);
  more = omega (arith, on.more, one);
}

pub read_after : (h : Holdings) (s t : ℕ) (a b : Rows) (ma mb : Moves) (la lb lr : ℕ) → lr ≡ lb + t → Propagates h s a b ma mb la lb → Propagates h (s + t) a b ma mb la lr
read_after h s t a b ma mb la lb lr one on = record {
  jobs = on.jobs;
  importers = on.importers;
  good = on.good;
  under = on.under;
  backs = on.backs;
  runs = on.runs;
  listed = on.listed;
  fewer = on.fewer;
  paid = omega (arith, on.paid, one);
  more = omega (arith, on.more, one);
}

pub told_one : (h : Holdings) (n : ℕ) (a l b : Rows) (ma ml mb : Moves) (la ll lr lb : ℕ) → ArePropagated a → Propagates h (4 * n) a l ma ml la ll → lr ≡ ll + 1 → Propagates h 3 l b ml mb lr lb → Propagates h (4 * (n + 1)) a b ma mb la lb
told_one h n a l b ma ml mb la ll lr lb good p one q =
    spare_is h (4 * n + (3 + 1)) (4 * (n + 1)) a b ma mb la lb (omega arith) (carries_then h (4 * n) (3 + 1) a l b ma ml mb la ll lb good p (read_before h 3 1 l b ml mb ll lr lb one q))

pub told_end : (h : Holdings) (n s : ℕ) (a l : Rows) (ma ml : Moves) (la ll lr : ℕ) → Propagates h (4 * n) a l ma ml la ll → lr ≡ ll + 1 → s ≡ 4 * n + 1 → Propagates h s a l ma ml la lr
told_end h n s a l ma ml la ll lr p one is = spare_is h (4 * n + 1) s a l ma ml la lr (sym is) (read_after h (4 * n) 1 a l ma ml la ll lr one p)

pub told_waits : (J : List Job) (R : List Row) (xs ks : List ℕ) (n k : ℕ) → n < length ks → k ≡ get_or ks n 0 → Waits J R xs (λ j. list_any (λ i. eqb i j) (drop n ks)) → Waits J R xs (λ j. (eqb j k) || list_any (λ i. eqb i j) (drop (n + 1) ks))
told_waits J R xs ks n k lt is w =
    waits_same J R xs (λ j. list_any (λ i. eqb i j) (drop n ks)) (λ j. (eqb j k) || list_any (λ i. eqb i j) (drop (n + 1) ks))
    (λ j. sym (next_told ks n k j lt is ∙ ap (λ b. b || list_any (λ i. eqb i j) (drop (n + 1) ks)) (eqb_swap k j))) w

pub drop_past : (l : List ℕ) (m : ℕ) → length l ≤ m → drop m l ≡ []
drop_past [] zero le = refl
drop_past [] (suc m) le = refl
drop_past (x ∷ l) zero le = absurd (omega arith)
drop_past (x ∷ l) (suc m) le = drop_past l m (omega (arith, le))

pub told_none : (J : List Job) (R : List Row) (xs ks : List ℕ) (n : ℕ) → length ks ≤ n → Waits J R xs (λ j. list_any (λ i. eqb i j) (drop n ks)) → Waits J R xs (λ j. false)
told_none J R xs ks n le w = waits_same J R xs (λ j. list_any (λ i. eqb i j) (drop n ks)) (λ j. false) (λ j. sym (ap (list_any (λ i. eqb i j)) (drop_past ks n le))) w

-- ---- all jobs, one after another

pub le_step : (n j : ℕ) → nat_le n j ≡ ((eqb j n) || nat_le (n + 1) j)
le_step n j = grind (arith, nat_tests)

pub advanced_waits : (J : List Job) (R : List Row) (xs : List ℕ) (n : ℕ) → Waits J R xs (λ j. nat_le n j) → Waits J R xs (λ j. (eqb j n) || nat_le (n + 1) j)
advanced_waits J R xs n w = waits_same J R xs (λ j. nat_le n j) (λ j. (eqb j n) || nat_le (n + 1) j) (λ j. sym (le_step n j)) w

pub none_advanced : (J : List Job) (R : List Row) (xs : List ℕ) → Waits J R xs (λ j. nat_le 0 j)
none_advanced J R xs j w not = absurd (false_le j not)
  where
    false_le : (j : ℕ) → nat_le 0 j ≡ false → ⊥
    false_le j e = grind (arith, nat_tests)

pub all_advanced : (J : List Job) (R : List Row) (xs : List ℕ) (n : ℕ) → length R ≤ n → Waits J R xs (λ j. nat_le n j) → Waits J R xs (λ j. false)
all_advanced J R xs n le w j waiting not = w j waiting (past j (open_inside R j (waiting_open (row_at R j).status waiting)))
  where
    past : (j : ℕ) → j < length R → nat_le n j ≡ false
    past j lt = le_false n j (omega (arith, le, lt))
      where
        le_false : (a b : ℕ) → b < a → nat_le a b ≡ false
        le_false a b lt = grind (arith, nat_tests)

pub get_past : (xs : List ℕ) (n : ℕ) → slice_get xs n ≡ None → length xs ≤ n
get_past [] n e = omega arith
get_past (x ∷ xs) zero e = absurd (cc)
get_past (x ∷ xs) (suc n) e = omega (arith, get_past xs n e)
