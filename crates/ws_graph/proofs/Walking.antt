-- Steps of a walk over directories.
use Rattle.std.proofs.Common.{◌≡◌, ◌⊎◌, ◌≤◌, ◌==◌, ℕ, suc, Bool, false, List, [], ◌∷◌, length, IfOk, Result, Ok, refl, sym, ap, ◌∙◌, subst, inl, inr, arith}
use Rattle.std.specs.Prelude.{String, string_bytes, string_cmp}
use Rattle.std.specs.Global.{Global}
use Rattle.std.specs.declared.alloc.AllocError.{AllocError}
use Rattle.std.specs.List.{AllZip, Contains}
use Rattle.std.specs.List.Sorted.{IsStrictlySortedBy}
use Rattle.std.specs.BTreeMap.{insert_entry}
use Rattle.std.specs.Map.{keys_of, values_of}
use Rattle.std.proofs.lemmas.List.Elements.{Contains-append_left, Contains-append_right, Contains-append_cases}
use Rattle.ws_reach.specs.Reach.{Walks}
use Rattle.ws_reach.proofs.Reached.{reaches_itself, reaches_more}
use Rattle.ws_reach.proofs.Closure.{IsOneOf}
use Rattle.go_text.specs.declared.edition.Edition.{Edition}
use Rattle.ws_graph.specs.BuildPlan.{Sources, HasNoFiles, Imports, IsReachedFromTargets}
use Rattle.ws_graph.specs.Node.{planned_of}
use Rattle.ws_graph.specs.Discovery.{Met, met_paths, waiting_paths, AreWaiting, IsReadAs, AreRead, IsFound, Walking, TakesWave, AddsImported, IsNextWave, AreAll}
use Rattle.ws_graph.specs.declared.wave.Found.{Found}
use Rattle.ws_graph.specs.declared.waiting.Waiting.{Waiting}
use Rattle.ws_graph.proofs.Bounded.{one_more, few_directories, reached_files}
use Rattle.ws_graph.proofs.Filed.{built_directories}
use Rattle.ws_graph.proofs.Inserted.{to_path, from_path, to_entry}
use Rattle.ws_graph.proofs.Named.{texts_sorted}
use Rattle.ws_graph.proofs.Sorted.{one_of, contained}

abbrev Path : Type 0
Path = List ℕ

abbrev Text : Type 0
Text = String Global

-- the first that waits is read
pub taken : (ed : Edition) (sources : Sources) (targets : List Path) (old new : Met) (path : Text) (found : Found) (waiting imported more : List Path) → Walking ed sources targets old (string_bytes path ∷ waiting) imported → IsFound ed sources (string_bytes path) found
    → new ≡ insert_entry string_cmp old path found → AddsImported sources (planned_of found.node) imported more → Walking ed sources targets new waiting more
taken ed sources targets old new path found waiting imported more w is put adds = record {
  first = λ target among. elim (w.first target among) [
    | inl m ↦ inl (stays target m)
    | inr c ↦ from_waiting target c
  ];
  reached = λ q h. elim h [
    | inl m ↦ elim (to q m) [
      | inl same ↦ subst (IsReachedFromTargets ed sources targets) (sym same) here
      | inr o ↦ w.reached q (inl o)
    ]
    | inr c ↦ w.reached q (inr (contained (string_bytes path ∷ waiting) q (inr (one_of waiting q c))))
  ];
  from = λ q c. elim (Contains-append_cases imported adds.more q (subst (λ (l : List Path). Contains l q) adds.is c)) [
    | inl o ↦ w.from q o
    | inr n ↦ (string_bytes path, here, adds.from ed (string_bytes path) q is.plan n)
  ];
  closed = λ p q c i. elim (to p c) [
    | inl same ↦ inr (inr (subst (λ (l : List Path). Contains l q) (sym adds.is) (Contains-append_right imported adds.more q (adds.all ed (string_bytes path) q is.plan (subst (λ x. Imports ed sources x q) same i)))))
    | inr o ↦ elim (w.closed p q o i) [
      | inl m ↦ inl (stays q m)
      | inr (inl c) ↦ elim (from_waiting q c) [
        | inl m ↦ inl m
        | inr later ↦ inr (inl later)
      ]
      | inr (inr n) ↦ inr (inr (subst (λ (l : List Path). Contains l q) (sym adds.is) (Contains-append_left imported adds.more q n)))
    ]
  ];
  founds = λ e c. elim (to_entry e path found old (subst (λ (l : Met). IsOneOf e l) put (one_of new e c))) [
    | inl both ↦ subst (λ p. IsFound ed sources p e.1) (sym both.0) (subst (IsFound ed sources (string_bytes path)) (sym both.1) is)
    | inr o ↦ w.founds e (contained old e o)
  ];
}
  where
    here : IsReachedFromTargets ed sources targets (string_bytes path)
    here = w.reached (string_bytes path) (inr (contained (string_bytes path ∷ waiting) (string_bytes path) (inl refl)))

    to : (q : Path) → Contains (met_paths new) q → (q ≡ string_bytes path) ⊎ Contains (met_paths old) q
    to q c = elim (to_path q path found old (subst (λ (l : Met). IsOneOf q (met_paths l)) put (one_of (met_paths new) q c))) [
      | inl same ↦ inl same
      | inr o ↦ inr (contained (met_paths old) q o)
    ]

    from : (q : Path) → (q ≡ string_bytes path) ⊎ IsOneOf q (met_paths old) → Contains (met_paths new) q
    from q h = contained (met_paths new) q (subst (λ (l : Met). IsOneOf q (met_paths l)) (sym put) (from_path q path found old h))

    stays : (q : Path) → Contains (met_paths old) q → Contains (met_paths new) q
    stays q c = from q (inr (one_of (met_paths old) q c))

    from_waiting : (q : Path) → Contains (string_bytes path ∷ waiting) q → Contains (met_paths new) q ⊎ Contains waiting q
    from_waiting q c = elim (one_of (string_bytes path ∷ waiting) q c) [
      | inl same ↦ inl (from q (inl same))
      | inr o ↦ inr (contained waiting q o)
    ]

-- ---- a wave

-- those of a wave that are left to take in, and what holds by then
pub record Taking (ed : Edition) (sources : Sources) (targets : List Path) (wave : List Waiting) (old met : Met) (imported : List Path) (rest : List (Result (Text × Found) AllocError)) : Type 0 where
  pub left : List Waiting
  pub read : AreRead ed sources left rest
  pub walking : Walking ed sources targets met (waiting_paths left) imported
  pub kept : (path : Path) → Contains (met_paths old) path ⊎ Contains (waiting_paths wave) path → Contains (met_paths met) path ⊎ Contains (waiting_paths left) path

pub none_taken : (ed : Edition) (sources : Sources) (targets : List Path) (wave : List Waiting) (old : Met) (imported : List Path) (read : List (Result (Text × Found) AllocError)) → imported ≡ [] → AreRead ed sources wave read → Walking ed sources targets old (waiting_paths wave) [] → Taking ed sources targets wave old old imported read
none_taken ed sources targets wave old imported read none are w = record {
  left = wave;
  read = are;
  walking = subst (Walking ed sources targets old (waiting_paths wave)) (sym none) w;
  kept = λ path h. h;
}

pub one_taken : (ed : Edition) (sources : Sources) (targets : List Path) (wave : List Waiting) (old met new : Met) (imported more : List Path) (results rest : List (Result (Text × Found) AllocError)) (r : Result (Text × Found) AllocError) (path : Text) (found : Found)
    → results ≡ r ∷ rest → r ≡ Ok (path, found) → new ≡ insert_entry string_cmp met path found → AddsImported sources (planned_of found.node) imported more → Taking ed sources targets wave old met imported results → Taking ed sources targets wave old new more rest
one_taken ed sources targets wave old met new imported more results rest r path found taken_from is put adds t = by_left t.left refl
  where
    by_left : (left : List Waiting) → t.left ≡ left → Taking ed sources targets wave old new more rest
    by_left [] e = absurd (subst (AreRead ed sources []) taken_from (subst (λ l. AreRead ed sources l results) e t.read))
    by_left (w ∷ left) e =
        let both = subst (AreRead ed sources (w ∷ left)) taken_from (subst (λ l. AreRead ed sources l results) e t.read) in
        let here : IsReadAs ed sources w (path, found) = subst (λ o. IfOk o (IsReadAs ed sources w)) is both.0 in
        let same : string_bytes path ≡ string_bytes w.path = here.0 in
        let walking : Walking ed sources targets met (string_bytes path ∷ waiting_paths left) imported = subst (λ p. Walking ed sources targets met (p ∷ waiting_paths left) imported) (sym same) (subst (λ l. Walking ed sources targets met (waiting_paths l) imported) e t.walking) in
        let inserted = λ (q : Path) (h : (q ≡ string_bytes path) ⊎ IsOneOf q (met_paths met)). contained (met_paths new) q (subst (λ (l : Met). IsOneOf q (met_paths l)) (sym put) (from_path q path found met h)) in
        record {
          left = left;
          read = both.1;
          walking = taken ed sources targets met new path found (waiting_paths left) imported more walking (subst (λ p. IsFound ed sources p found) (sym same) here.1) put adds;
          kept = λ q h. elim (t.kept q h) [
            | inl m ↦ inl (inserted q (inr (one_of (met_paths met) q m)))
            | inr c ↦ elim (one_of (waiting_paths (w ∷ left)) q (subst (λ l. Contains (waiting_paths l) q) e c)) [
              | inl first ↦ inl (inserted q (inl (first ∙ sym same)))
              | inr o ↦ inr (contained (waiting_paths left) q o)
            ]
          ];
        }

pub all_taken : (ed : Edition) (sources : Sources) (targets : List Path) (wave : List Waiting) (old met : Met) (imported : List Path) (rest : List (Result (Text × Found) AllocError)) → rest ≡ [] → Taking ed sources targets wave old met imported rest → TakesWave ed sources targets wave old met imported
all_taken ed sources targets wave old met imported rest none t = by_left t.left refl
  where
    by_left : (left : List Waiting) → t.left ≡ left → TakesWave ed sources targets wave old met imported
    by_left (w ∷ left) e = absurd (subst (AreRead ed sources (w ∷ left)) none (subst (λ l. AreRead ed sources l rest) e t.read))
    by_left [] e = record {
      walking = subst (λ l. Walking ed sources targets met (waiting_paths l) imported) e t.walking;
      kept = λ q h. elim (t.kept q h) [
        | inl m ↦ m
        | inr c ↦ absurd (one_of [] q (subst (λ l. Contains (waiting_paths l) q) e c))
      ];
    }

-- ---- the whole walk

-- at the head of a wave: those that wait have files, and weren't met
pub record AtWave (ed : Edition) (sources : Sources) (targets : List Path) (met : Met) (wave : List Waiting) : Type 0 where
  pub walking : Walking ed sources targets met (waiting_paths wave) []
  pub waiting : AreWaiting sources wave
  pub fresh : (path : Path) → Contains (waiting_paths wave) path → Contains (met_paths met) path → ⊥
  pub ordered : IsStrictlySortedBy string_cmp (keys_of met)

pub begun : (ed : Edition) (sources : Sources) (first : List Waiting) (met : Met) → met ≡ [] → AreWaiting sources first → AtWave ed sources (waiting_paths first) met first
unfolding IsStrictlySortedBy
begun ed sources first met none are = subst (λ m. AtWave ed sources (waiting_paths first) m first) (sym none) (record {
  walking = record {
    first = λ target among. inr among;
    reached = λ q h. elim h [
      | inl m ↦ absurd (one_of [] q m)
      | inr c ↦ (q, c, reaches_itself (Imports ed sources) q)
    ];
    from = λ q c. absurd (one_of [] q c);
    closed = λ p q c. absurd (one_of [] p c);
    founds = λ e c. absurd (one_of [] e c);
  };
  waiting = are;
  fresh = λ q c m. absurd (one_of [] q m);
  ordered = tt;
})

waits_with_files : (sources : Sources) (wave : List Waiting) (q : Path) → AreWaiting sources wave → IsOneOf q (waiting_paths wave) → HasNoFiles sources q → ⊥
waits_with_files sources [] q are o = absurd o
waits_with_files sources (w ∷ ws) q are (inl same) = λ none. are.0.some (subst (HasNoFiles sources) same none)
waits_with_files sources (w ∷ ws) q are (inr o) = waits_with_files sources ws q are.1 o

-- those that wait have files
pub waiting_files : (sources : Sources) (wave : List Waiting) → AreWaiting sources wave → (q : Path) → Contains (waiting_paths wave) q → HasNoFiles sources q → ⊥
waiting_files sources wave are q c = waits_with_files sources wave q are (one_of (waiting_paths wave) q c)

pub next_head : (ed : Edition) (sources : Sources) (targets : List Path) (wave next : List Waiting) (old met : Met) (imported : List Path) → TakesWave ed sources targets wave old met imported → IsStrictlySortedBy string_cmp (keys_of met) → IsNextWave sources (met_paths met) imported next → AtWave ed sources targets met next
next_head ed sources targets wave next old met imported t ordered n = record {
  walking = record {
    first = λ target among. elim (w.first target among) [
      | inl m ↦ inl m
      | inr c ↦ absurd (one_of [] target c)
    ];
    reached = λ q h. elim h [
      | inl m ↦ w.reached q (inl m)
      | inr c ↦ (
          let i = w.from q (n.from q c).0 in
          let way = i.1 in
          (way.0, way.1, reaches_more (Imports ed sources) way.0 i.0 q way.2 (record { import = i.2; files = waiting_files sources next n.waiting q c })))
    ];
    from = λ q c. absurd (one_of [] q c);
    closed = λ p q c i. elim (w.closed p q c i) [
      | inl m ↦ inl m
      | inr (inl c) ↦ absurd (one_of [] q c)
      | inr (inr c) ↦ elim (n.all q c) [
        | inl none ↦ absurd (i.files none)
        | inr (inl m) ↦ inl m
        | inr (inr later) ↦ inr (inl later)
      ]
    ];
    founds = w.founds;
  };
  waiting = n.waiting;
  fresh = λ q c. (n.from q c).1;
  ordered = ordered;
}
  where
    w : Walking ed sources targets met [] imported
    w = t.walking

pub not_empty : (wave : List Waiting) (b : Bool) (n : ℕ) → n ≡ length wave → b ≡ (n == 0) → b ≡ false → wave ≡ [] → ⊥
not_empty wave b n long is out none =
    let short : n ≡ 0 = long ∙ ap length none in
    let wrong : false ≡ (0 == 0) = subst (λ (n : ℕ). false ≡ (n == 0)) short (sym out ∙ is) in cc (wrong)

length-paths : (met : Met) → length (met_paths met) ≡ length met
length-paths [] = refl
length-paths (e ∷ es) = ap suc (length-paths es)

-- a wave grows what was met, which stays among the directories that there are
pub grows : (ed : Edition) (sources : Sources) (targets : List Path) (wave : List Waiting) (old met : Met) (imported : List Path) → ((target : Path) → Contains targets target → HasNoFiles sources target → ⊥) → AtWave ed sources targets old wave → (wave ≡ [] → ⊥) → IsStrictlySortedBy string_cmp (keys_of met) → TakesWave ed sources targets wave old met imported
    → (suc (length old) ≤ length met) × (length met ≤ length (built_directories sources))
grows ed sources targets [] old met imported files at some ordered t = absurd (some refl)
grows ed sources targets (w ∷ ws) old met imported files at some ordered t = (
  (let more = one_more (string_bytes w.path) (met_paths old) (met_paths met) (texts_sorted (keys_of old) at.ordered) (at.fresh (string_bytes w.path) (contained (waiting_paths (w ∷ ws)) (string_bytes w.path) (inl refl))) (λ z h. one_of (met_paths met) z (t.kept z (elim h [
    | inl same ↦ inr (contained (waiting_paths (w ∷ ws)) z (inl same))
    | inr o ↦ inl (contained (met_paths old) z o)
  ]))) in omega (arith, more, length-paths old, length-paths met)),
  (let few = few_directories sources (met_paths met) (texts_sorted (keys_of met) ordered) (λ p one. let way = t.walking.reached p (inl (contained (met_paths met) p one)) in reached_files ed sources way.0 p (files way.0 way.1) way.2) in omega (arith, few, length-paths met)),
)

-- ---- the end

zip_founds : (ed : Edition) (sources : Sources) (met : Met) → ((e : Text × Found) → IsOneOf e met → IsFound ed sources (string_bytes e.0) e.1) → AllZip (IsFound ed sources) (met_paths met) (values_of met)
zip_founds ed sources [] h = tt
zip_founds ed sources (e ∷ es) h = (h e (inl refl), zip_founds ed sources es (λ x o. h x (inr o)))

pub all_met : (ed : Edition) (sources : Sources) (targets : List Path) (met : Met) (wave : List Waiting) → ((target : Path) → Contains targets target → HasNoFiles sources target → ⊥) → AtWave ed sources targets met wave → wave ≡ [] → AreAll ed sources targets (met_paths met) (values_of met)
all_met ed sources targets met wave files at none = record {
  files = files;
  ascending = texts_sorted (keys_of met) at.ordered;
  reached = λ path. (λ c. at.walking.reached path (inl c), λ (target, among, way). walk way.0 target path (start target among) way.1);
  founds_are = zip_founds ed sources met (λ e o. at.walking.founds e (contained met e o));
}
  where
    nothing : (q : Path) → Contains (waiting_paths wave) q → ⊥
    nothing q c = one_of [] q (subst (λ l. Contains (waiting_paths l) q) none c)

    start : (target : Path) → Contains targets target → Contains (met_paths met) target
    start target among = elim (at.walking.first target among) [
      | inl m ↦ m
      | inr c ↦ absurd (nothing target c)
    ]

    walk : (steps : List Path) (p q : Path) → Contains (met_paths met) p → Walks (Imports ed sources) p steps q → Contains (met_paths met) q
    walk [] p q c w = subst (Contains (met_paths met)) w c
    walk (r ∷ rs) p q c w = walk rs r q (elim (at.walking.closed p r c w.0) [
      | inl m ↦ m
      | inr (inl c) ↦ absurd (nothing r c)
      | inr (inr c) ↦ absurd (one_of [] r c)
    ]) w.1
