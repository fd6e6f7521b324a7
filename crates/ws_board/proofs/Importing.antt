-- The lists of those that import a job, and the rows at first.
use Rattle.std.proofs.Common.{◌≡◌, ℕ, zero, suc, ◌+◌, ◌*◌, ◌<◌, ◌≤◌, true, false, List, [], ◌∷◌, ◌++◌, length, get_or, replicate, None, refl, sym, ap, ◌∙◌, subst, arith, inl, inr, ◌⊎◌, get_or-set_other, get_or-set_same}
use Rattle.std.specs.Prelude.{◌^◌}
use Rattle.std.specs.List.{sum_by, slice_index_or, Contains}
use Rattle.std.proofs.Math.ListN.{set, length-set}
use Rattle.std.proofs.lemmas.Bool.{cases_eq, cases_lt}
use Rattle.std.proofs.lemmas.List.{get_or_at, get_or_append_left, length_push, length-replicate}
use Rattle.std.proofs.lemmas.List.Elements.{Contains-append_left, Contains-push, Contains-push_cases}
use Rattle.std.proofs.lemmas.List.Sums.{sum_by-set, sum_by-cons, sum_by_more}
use Rattle.std.proofs.lemmas.Option.{slice_get_past, slice_get-get_or}
use Rattle.ws_board.specs.declared.work.JobStatus.TheVariants.{Waiting}
use Rattle.ws_board.specs.declared.table.Row.{Row}
use Rattle.ws_board.specs.Work.{Job}
use Rattle.ws_board.specs.Machine.{is_waiting}
use Rattle.ws_board.specs.Ends.{job_imports, job_imports_at}
use Rattle.ws_board.specs.Rows.{due, owed, import_count, first_row, AreFirstRows, Adds, AreImporters, AreKnownBy, ArePropagatedBy}
use Rattle.ws_board.specs.Table.{blank, row_at}
use Rattle.ws_board.proofs.Standing.{row_past, open_inside, waiting_open}

set_past : {X : Type 0} (xs : List X) (k : ℕ) (x : X) → length xs ≤ k → set xs k x ≡ xs
set_past [] k x le = refl
set_past (y ∷ ys) zero x le = absurd (omega arith)
set_past (y ∷ ys) (suc k) x le = ap (λ l. y ∷ l) (set_past ys k x (omega (arith, le)))

pub adds_none : (xs : List (List ℕ)) (job : ℕ) → Adds xs xs [] job
adds_none xs job = record {
  lists = refl;
  keeps = λ k j c. c;
  named = λ k c lt. absurd (omega (arith, c.1));
  only = λ k j c. inl c;
  count = omega arith;
}

module _ (mid new : List (List ℕ)) (k job : ℕ) (is : new ≡ set mid k (get_or mid k [] ++ job ∷ [])) where
  added_here : k < length mid → get_or new k [] ≡ get_or mid k [] ++ job ∷ []
  added_here lt = ap (λ xs. get_or xs k []) is ∙ get_or-set_same mid k (get_or mid k [] ++ job ∷ []) [] lt

  added_other : (a : ℕ) → (a ≡ k → ⊥) → get_or new a [] ≡ get_or mid a []
  added_other a ne = ap (λ xs. get_or xs a []) is ∙ get_or-set_other mid k a (get_or mid k [] ++ job ∷ []) [] ne

  added_past : length mid ≤ k → new ≡ mid
  added_past le = is ∙ set_past mid k (get_or mid k [] ++ job ∷ []) le

  added_keeps : (a j : ℕ) → Contains (get_or mid a []) j → Contains (get_or new a []) j
  added_keeps a j c = elim (cases_eq a k) [
    | inl e ↦ elim (cases_lt k (length mid)) [
      | inl lt ↦ subst (λ l. Contains l j) (sym (ap (λ i. get_or new i []) e ∙ added_here lt)) (Contains-append_left (get_or mid k []) (job ∷ []) j (subst (λ i. Contains (get_or mid i []) j) e c))
      | inr le ↦ subst (λ l. Contains (get_or l a []) j) (sym (added_past le)) c
    ]
    | inr ne ↦ subst (λ l. Contains l j) (sym (added_other a ne)) c
  ]

  added_only : (a j : ℕ) → Contains (get_or new a []) j → Contains (get_or mid a []) j ⊎ (j ≡ job)
  added_only a j c = elim (cases_eq a k) [
    | inl e ↦ elim (cases_lt k (length mid)) [
      | inl lt ↦ by_push e (Contains-push_cases (get_or mid k []) job j (subst (λ l. Contains l j) (ap (λ i. get_or new i []) e ∙ added_here lt) c))
      | inr le ↦ inl (subst (λ l. Contains (get_or l a []) j) (added_past le) c)
    ]
    | inr ne ↦ inl (subst (λ l. Contains l j) (added_other a ne) c)
  ]
    where
      by_push : a ≡ k → Contains (get_or mid k []) j ⊎ (job ≡ j) → Contains (get_or mid a []) j ⊎ (j ≡ job)
      by_push e (inl there) = inl (subst (λ i. Contains (get_or mid i []) j) (sym e) there)
      by_push e (inr same) = inr (sym same)

  added_count : sum_by (λ list. length list) new ≤ sum_by (λ list. length list) mid + 1
  added_count = elim (cases_lt k (length mid)) [
    | inl lt ↦ (
        let s = sum_by-set (λ (l : List ℕ). length l) mid k (get_or mid k [] ++ job ∷ []) [] lt in
        let p = length_push (get_or mid k []) job in
        let e : sum_by (λ (l : List ℕ). length l) new ≡ sum_by (λ (l : List ℕ). length l) (set mid k (get_or mid k [] ++ job ∷ [])) = ap (sum_by (λ (l : List ℕ). length l)) is in
        omega (arith, s, p, e))
    | inr le ↦ (let e : sum_by (λ (l : List ℕ). length l) new ≡ sum_by (λ (l : List ℕ). length l) mid = ap (sum_by (λ (l : List ℕ). length l)) (added_past le) in omega (arith, e))
  ]

  pub adds_more : (old : List (List ℕ)) (ks : List ℕ) → Adds old mid ks job → Adds old new (ks ++ k ∷ []) job
  adds_more old ks a = record {
    lists = ap length is ∙ length-set mid k (get_or mid k [] ++ job ∷ []) ∙ a.lists;
    keeps = λ i j c. added_keeps i j (a.keeps i j c);
    named = λ i c lt. by_push i lt (Contains-push_cases ks k i c);
    only = λ i j c. by_only i j (added_only i j c);
    count = omega (arith, added_count, a.count, length_push ks k);
  }
    where
      by_push : (i : ℕ) → i < length old → Contains ks i ⊎ (k ≡ i) → Contains (get_or new i []) job
      by_push i lt (inl c) = added_keeps i job (a.named i c lt)
      by_push i lt (inr e) =
          let inside : k < length mid = omega (arith, lt, e, a.lists) in
          subst (λ n. Contains (get_or new n []) job) e (subst (λ l. Contains l job) (sym (added_here inside)) (Contains-push (get_or mid k []) job))

      by_only : (i j : ℕ) → Contains (get_or mid i []) j ⊎ (j ≡ job) → Contains (get_or old i []) j ⊎ (j ≡ job)
      by_only i j (inl c) = a.only i j c
      by_only i j (inr e) = inr e

no_job : Job
no_job = record { work = None; imports = [] }

imports_within : (jobs : List Job) (k : ℕ) → k < length jobs → job_imports_at jobs k ≡ (get_or jobs k no_job).imports
imports_within jobs k lt = ap job_imports (slice_get-get_or jobs k no_job lt)

pub importers_none : (jobs : List Job) (lists : List (List ℕ)) → lists ≡ replicate (length jobs) [] → AreImporters jobs 0 lists
importers_none jobs lists is = record {
  same_length = ap length is ∙ length-replicate (length jobs) [];
  named = λ j k lt c inside. absurd (omega (arith, lt));
  inside = λ j k c. absurd (none k j (subst (λ l. Contains (get_or l k []) j) is c));
  count = (let e : sum_by (λ (l : List ℕ). length l) lists ≡ 0 = ap (sum_by (λ (l : List ℕ). length l)) is ∙ none_count (length jobs) in omega (arith, e));
}
  where
    empty : (n k : ℕ) → ◌≡◌ {A = List ℕ} (get_or (replicate n []) k []) []
    empty zero k = refl
    empty (suc n) zero = refl
    empty (suc n) (suc k) = empty n k

    none : (k j : ℕ) → Contains (get_or (replicate (length jobs) []) k []) j → ⊥
    none k j c = let x : Contains [] j = subst (λ l. Contains l j) (empty (length jobs) k) c in omega (arith, x.1)

    none_count : (n : ℕ) → sum_by (λ (l : List ℕ). length l) (replicate n []) ≡ 0
    none_count zero = refl
    none_count (suc n) = omega (arith, sum_by-cons (λ (l : List ℕ). length l) [] (replicate n []), none_count n)

pub importers_more : (jobs : List Job) (n : ℕ) (mid new : List (List ℕ)) → n < length jobs → AreImporters jobs n mid → Adds mid new (job_imports_at jobs n) n → AreImporters jobs (n + 1) new
importers_more jobs n mid new lt are adds = record {
  same_length = adds.lists ∙ are.same_length;
  named = λ j k below c inside. elim (cases_eq j n) [
    | inl e ↦ subst (Contains (get_or new k [])) (sym e) (adds.named k (subst (λ i. Contains (job_imports_at jobs i) k) e c) (omega (arith, inside, are.same_length)))
    | inr ne ↦ adds.keeps k j (are.named j k (omega (arith, below, ne)) c inside)
  ];
  inside = λ j k c. by_only j k (adds.only k j c);
  count = (
      let s = sum_by_more (λ (job : Job). length job.imports) jobs n no_job lt in
      let e : length (job_imports_at jobs n) ≡ length (get_or jobs n no_job).imports = ap length (imports_within jobs n lt) in
      omega (arith, are.count, adds.count, s, e)
      );
}
  where
    by_only : (j k : ℕ) → Contains (get_or mid k []) j ⊎ (j ≡ n) → j < n + 1
    by_only j k (inl c) = omega (arith, are.inside j k c)
    by_only j k (inr e) = omega (arith, e)

pub first_none : (jobs : List Job) (lists : List (List ℕ)) (rows : List Row) → rows ≡ [] → AreFirstRows jobs lists 0 rows
first_none jobs lists rows is = record { count = ap length is; each = λ k lt. absurd (omega (arith, lt)) }

abbrev waiting_with : ℕ → ℕ → Row
waiting_with imports importers = record { status = Waiting; action = None; left = imports; was_back = false; imports = imports; importers = importers }

-- the row is that of a job of whose imports nothing is known
pub first_is : (jobs : List Job) (lists : List (List ℕ)) (k : ℕ) (row : Row) (imports importers : ℕ) → row ≡ waiting_with imports importers → imports ≡ length (job_imports_at jobs k) → importers ≡ length (slice_index_or lists k []) → row ≡ first_row jobs lists k
first_is jobs lists k row imports importers is own told = is ∙ ap (λ n. waiting_with n importers) own ∙ ap (waiting_with (length (job_imports_at jobs k))) told

pub first_more : (jobs : List Job) (lists : List (List ℕ)) (n : ℕ) (old new : List Row) (row : Row) → new ≡ old ++ row ∷ [] → row ≡ first_row jobs lists n → AreFirstRows jobs lists n old → AreFirstRows jobs lists (n + 1) new
first_more jobs lists n old new row is same first = record {
  count = ap length is ∙ length_push old row ∙ ap (λ m. m + 1) first.count;
  each = λ k lt. elim (cases_eq k n) [
    | inl e ↦ ap (λ l. row_at l k) is ∙ get_or_at old row [] blank k (first.count ∙ sym e) ∙ same ∙ ap (first_row jobs lists) (sym e)
    | inr ne ↦ ap (λ l. row_at l k) is ∙ get_or_append_left old (row ∷ []) blank k (omega (arith, lt, ne, first.count)) ∙ first.each k (omega (arith, lt, ne))
  ];
}

module _ (J : List Job) (I : List (List ℕ)) (R : List Row) (first : AreFirstRows J I (length J) R) where
  none_past : (k : ℕ) → length J ≤ k → job_imports_at J k ≡ []
  none_past k le = ap job_imports (slice_get_past J k le)

  list_past : (lists : List (List ℕ)) (k : ℕ) → length lists ≤ k → get_or lists k [] ≡ []
  list_past [] k le = refl
  list_past (l ∷ ls) zero le = absurd (omega arith)
  list_past (l ∷ ls) (suc k) le = list_past ls k (omega (arith, le))

  pub first_known : AreImporters J (length J) I → import_count J < 2 ^ 64 → AreKnownBy J I R
  first_known are fits = record {
    jobs = first.count;
    lists = are.same_length;
    fits = fits;
    imports = λ k. elim (cases_lt k (length J)) [
      | inl lt ↦ ap (λ (r : Row). r.imports) (first.each k lt)
      | inr le ↦ ap (λ (r : Row). r.imports) (row_past R k (omega (arith, le, first.count))) ∙ sym (ap length (none_past k le))
    ];
    importers = λ k. elim (cases_lt k (length J)) [
      | inl lt ↦ ap (λ (r : Row). r.importers) (first.each k lt)
      | inr le ↦ ap (λ (r : Row). r.importers) (row_past R k (omega (arith, le, first.count))) ∙ sym (ap length (list_past I k (omega (arith, le, are.same_length))))
    ];
    named = λ j k c lt. elim (cases_lt j (length J)) [
      | inl inside ↦ are.named j k inside c lt
      | inr past ↦ (let x : Contains [] k = subst (λ l. Contains l k) (none_past j past) c in absurd (omega (arith, x.1)))
    ];
    inside = λ j k c. are.inside j k c;
  }

  waits_inside : (k : ℕ) → is_waiting (row_at R k).status ≡ true → k < length J
  waits_inside k w = omega (arith, open_inside R k (waiting_open (row_at R k).status w), first.count)

  pub first_good : AreKnownBy J I R → ArePropagatedBy J I R
  first_good known = record {
    known = known;
    past = λ k w i le lt. (let e : (row_at R k).left ≡ length (job_imports_at J k) = ap (λ (r : Row). r.left) (first.each k (waits_inside k w)) in absurd (omega (arith, e, le, lt)));
    within = λ k w. (let e : (row_at R k).left ≡ length (job_imports_at J k) = ap (λ (r : Row). r.left) (first.each k (waits_inside k w)) in omega (arith, e));
    bare = λ k w. ap (λ (r : Row). r.action) (first.each k (waits_inside k (ap is_waiting w)));
  }

-- what the first rows owe
owes : (J : List Job) (I : List (List ℕ)) (R : List Row) → length R ≡ length J → length I ≡ length J → ((k : ℕ) → k < length J → due (row_at R k) ≡ 3 + 4 * length (job_imports_at J k) + 4 * length (slice_index_or I k []))
    → owed R ≡ 3 * length J + 4 * import_count J + 4 * sum_by (λ list. length list) I
owes [] [] [] r i each = refl
owes [] [] (x ∷ xs) r i each = absurd (omega (arith, r))
owes [] (l ∷ ls) R r i each = absurd (omega (arith, i))
owes (j ∷ js) [] R r i each = absurd (omega (arith, i))
owes (j ∷ js) (l ∷ ls) [] r i each = absurd (omega (arith, r))
owes (j ∷ js) (l ∷ ls) (x ∷ xs) r i each =
    let here : due x ≡ 3 + 4 * length j.imports + 4 * length l = each 0 (omega arith) in
    let rest = owes js ls xs (omega (arith, r)) (omega (arith, i)) (λ k lt. each (suc k) (omega (arith, lt))) in
    omega (arith, here, rest, sum_by-cons due x xs, sum_by-cons (λ (job : Job). length job.imports) j js, sum_by-cons (λ (list : List ℕ). length list) l ls)

pub first_owes : (J : List Job) (I : List (List ℕ)) (R : List Row) → AreFirstRows J I (length J) R → length I ≡ length J → owed R ≡ 3 * length J + 4 * import_count J + 4 * sum_by (λ list. length list) I
first_owes J I R first lists = owes J I R first.count lists (λ k lt. (let e : due (row_at R k) ≡ due (first_row J I k) = ap due (first.each k lt) in omega (arith, e)))
