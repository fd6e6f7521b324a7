-- The rows of ids of what a target reaches: there is one list of them, and there is one.
use Rattle.std.proofs.Common.{◌≡◌, ◌⊎◌, ℕ, zero, suc, ◌+◌, ◌<◌, ◌≤◌, List, [], ◌∷◌, length, Option, None, Some, refl, sym, ap, subst, ◌∙◌, inl, inr, arith}
use Rattle.std.specs.Prelude.{zip, slice_index_or}
use Rattle.std.specs.List.{All, AllZip, Contains, slice_get}
use Rattle.std.proofs.lemmas.Bool.{cases_lt, cases_eq}
use Rattle.std.proofs.lemmas.Option.{slice_get_within}
use Rattle.std.proofs.lemmas.List.Elements.{All-nil, All-cons, All-head, All-tail}
use Rattle.go_text.specs.declared.edition.Edition.{Edition}
use Rattle.go_ast.specs.Parse.{Parsed}
use Rattle.ws_version.specs.Writes.{Write}
use Rattle.ws_action.specs.Actions.{Action, action_id}
use Rattle.ws_action.proofs.Members.{later, at_head}
use Rattle.ws_graph.specs.Plan.{Planned, NoFiles, Faulty, Sound}
use Rattle.ws_graph.specs.BuildPlan.{Directory, AreRanks}
use Rattle.ws_graph.proofs.RankedPlan.{ranked_build_plan}
use Rattle.ws_report.specs.declared.IdStatus.{IdStatus}
use Rattle.ws_report.specs.declared.IdStatus.TheVariants.{NoId, Absent, Held}
use Rattle.ws_replica.specs.Reports.{DirectoryOutcome, Stopped, Blocked, Wrong, Good, outcome_at, action_by, action_in, TargetBuild, IsTargetBuild}
use Rattle.ws_replica.specs.Ids.{id_status_at, IsHeldGood, IsIdStatus, IsIdRow, AreIdRows}
use Rattle.ws_replica.proofs.Numbered.{same_lists, ranked}
use Rattle.ws_replica.proofs.SomeBuild.{good_or_not, zip_all}
use Rattle.ws_session.proofs.Programs.{each, among}

abbrev Row : Type 0
Row = List ℕ × IdStatus

abbrev blank : Row
blank = ([], NoId)

abbrev row_at : List Row → ℕ → Row
row_at rows k = slice_index_or rows k blank

-- ---- how rows stand

standing_is : (rows : List Row) (k : ℕ) → id_status_at rows k ≡ (row_at rows k).1
standing_is [] k = refl
standing_is (r ∷ rows) zero = refl
standing_is (r ∷ rows) (suc k) = standing_is rows k

same_standing : (r s : List Row) (k : ℕ) → row_at r k ≡ row_at s k → id_status_at r k ≡ id_status_at s k
same_standing r s k e = standing_is r k ∙ ap (λ (x : Row). x.1) e ∙ sym (standing_is s k)

row_is : (rows : List Row) (k : ℕ) (r : Row) → slice_get rows k ≡ Some r → row_at rows k ≡ r
row_is [] k r at = absurd (cc (at))
row_is (x ∷ rows) zero r at = cc (at)
row_is (x ∷ rows) (suc k) r at = row_is rows k r at

row_there : (rows : List Row) (k : ℕ) → k < length rows → slice_get rows k ≡ Some (row_at rows k)
row_there [] k lt = absurd (omega (arith, lt))
row_there (x ∷ rows) zero lt = refl
row_there (x ∷ rows) (suc k) lt = row_there rows k (omega (arith, lt))

row_past : (rows : List Row) (k : ℕ) → length rows ≤ k → row_at rows k ≡ blank
row_past [] k le = refl
row_past (x ∷ rows) zero le = absurd (omega (arith, le))
row_past (x ∷ rows) (suc k) le = row_past rows k (omega (arith, le))

none_past : {X : Type 0} (xs : List X) (k : ℕ) → slice_get xs k ≡ None → length xs ≤ k
none_past [] k e = omega arith
none_past (x ∷ xs) zero e = absurd (cc (e))
none_past (x ∷ xs) (suc k) e = (let le = none_past xs k e in omega (arith, le))

-- ---- lists

-- one of each, and of each more
abbrev Chosen : {X Y : Type 0} → (ℕ → X → Y → Type 0) → List X → List Y → Type 0
Chosen {X} {Y} P xs ys = (k : ℕ) (x : X) → slice_get xs k ≡ Some x → (y : Y) × (slice_get ys k ≡ Some y) × P k x y

one_more : {X Y : Type 0} (P : ℕ → X → Y → Type 0) (x : X) (xs : List X) (y : Y) (ys : List Y) → P 0 x y → Chosen (λ k. P (suc k)) xs ys → Chosen P (x ∷ xs) (y ∷ ys)
one_more P x xs y ys here rest zero z at = (let same : x ≡ z = cc (at) in (y, refl, subst (λ a. P 0 a y) same here))
one_more P x xs y ys here rest (suc k) z at = rest k z at

choice : {X Y : Type 0} (P : ℕ → X → Y → Type 0) (xs : List X) → ((k : ℕ) (x : X) → slice_get xs k ≡ Some x → (y : Y) × P k x y) → (ys : List Y) × (length ys ≡ length xs) × Chosen P xs ys
choice P [] h = ([], refl, λ k x at. absurd (cc (at)))
choice P (x ∷ xs) h =
    let here = h 0 x refl in
    let rest = choice (λ k. P (suc k)) xs (λ k z at. h (suc k) z at) in
    (here.0 ∷ rest.0, ap suc rest.1, one_more P x xs here.0 rest.0 here.1 rest.2)

-- all have ranks below it
highest : (rank : ℕ → ℕ) (l : ℕ) → (n : ℕ) × ((k : ℕ) → k < l → rank k < n)
highest rank zero = (0, λ k lt. absurd (omega (arith, lt)))
highest rank (suc l) =
    let before = highest rank l in
    (suc (before.0 + rank l), λ k lt. elim (cases_eq k l) [ inl e ↦ (let same = ap rank e in omega (arith, same)) | inr ne ↦ (let below = before.1 k (omega (arith, lt, ne)) in omega (arith, below)) ])

-- the pairs of two lists
zip_at : {X Y : Type 0} (xs : List X) (ys : List Y) (k : ℕ) (x : X) (y : Y) → slice_get (zip xs ys) k ≡ Some (x, y) → slice_get xs k ≡ Some x
zip_at [] ys k x y at = absurd (cc (at))
zip_at (a ∷ xs) [] k x y at = absurd (cc (at))
zip_at {X} {Y} (a ∷ xs) (b ∷ ys) zero x y at = (let same : ◌≡◌ {A = X × Y} (a, b) (x, y) = cc (at) in ap (λ p. Some p.0) same)
zip_at (a ∷ xs) (b ∷ ys) (suc k) x y at = zip_at xs ys k x y at

related : {X Y : Type 0} (R : X → Y → Type 0) (xs : List X) (ys : List Y) → AllZip R xs ys → (k : ℕ) (x : X) → slice_get xs k ≡ Some x → (y : Y) × (slice_get ys k ≡ Some y) × R x y
related R [] ys h k x at = absurd (cc (at))
related R (a ∷ xs) [] h k x at = absurd h
related R (a ∷ xs) (b ∷ ys) h zero x at = (let same : a ≡ x = cc (at) in (b, refl, subst (λ z. R z b) same h.0))
related R (a ∷ xs) (b ∷ ys) h (suc k) x at = related R xs ys h.1 k x at

related_past : {X Y : Type 0} (R : X → Y → Type 0) (xs : List X) (ys : List Y) → AllZip R xs ys → (k : ℕ) → slice_get xs k ≡ None → slice_get ys k ≡ None
related_past R [] [] h k e = refl
related_past R [] (b ∷ ys) h k e = absurd h
related_past R (a ∷ xs) [] h k e = absurd h
related_past R (a ∷ xs) (b ∷ ys) h zero e = absurd (cc (e))
related_past R (a ∷ xs) (b ∷ ys) h (suc k) e = related_past R xs ys h.1 k e

-- ---- one standing

module _ (held : List Action) (a : Action) (I J : Type 0) (there : I → J) (back : J → I) where
  one_standing_of : (x y : IdStatus) → IsIdStatus held I (Some a) x → IsIdStatus held J (Some a) y → x ≡ y
  one_standing_of NoId NoId g h = refl
  one_standing_of NoId (Absent i) g h = absurd (g (back h.0))
  one_standing_of NoId (Held i) g h = absurd (g (back h.0))
  one_standing_of (Absent i) NoId g h = absurd (h (there g.0))
  one_standing_of (Absent i) (Absent j) g h = ap Absent (g.2 ∙ sym h.2)
  one_standing_of (Absent i) (Held j) g h = absurd (g.1 h.1)
  one_standing_of (Held i) NoId g h = absurd (h (there g.0))
  one_standing_of (Held i) (Absent j) g h = absurd (h.1 g.1)
  one_standing_of (Held i) (Held j) g h = ap Held (g.2 ∙ sym h.2)

-- of which imports it is asked matters where there is an action
one_standing : (held : List Action) (o : Option Action) (I J : Type 0) → ((a : Action) → o ≡ Some a → (I → J) × (J → I)) → (x y : IdStatus) → IsIdStatus held I o x → IsIdStatus held J o y → x ≡ y
one_standing held None I J both x y g h = g ∙ sym h
one_standing held (Some a) I J both x y g h = one_standing_of held a I J (both a refl).0 (both a refl).1 x y g h

standing_moves : (held : List Action) (o : Option Action) (I J : Type 0) → ((a : Action) → o ≡ Some a → (I → J) × (J → I)) → (x : IdStatus) → IsIdStatus held I o x → IsIdStatus held J o x
standing_moves held None I J both x g = g
standing_moves held (Some a) I J both NoId g = λ j. g ((both a refl).1 j)
standing_moves held (Some a) I J both (Absent i) g = ((both a refl).0 g.0, g.1, g.2)
standing_moves held (Some a) I J both (Held i) g = ((both a refl).0 g.0, g.1, g.2)

some_standing : (held : List Action) (o : Option Action) (I : Type 0) → I ⊎ (I → ⊥) → (x : IdStatus) × IsIdStatus held I o x
some_standing held None I d = (NoId, refl)
some_standing held (Some a) I (inr bad) = (NoId, bad)
some_standing held (Some a) I (inl is) = elim (among held a) [ inl has ↦ (Held (action_id a), (is, has, refl)) | inr lacks ↦ (Absent (action_id a), (is, lacks, refl)) ]

-- where a directory has an action it has files
has_files : (edition : Edition) (fates : List DirectoryOutcome) (d : Directory) (p : Planned) (a : Action) → action_by edition fates d p ≡ Some a → (files : List Parsed) × (p ≡ Sound files)
has_files edition fates d NoFiles a e = absurd (cc (e))
has_files edition fates d (Faulty fault) a e = absurd (cc (e))
has_files edition fates d (Sound files) a e = (files, refl)

sound_of : (edition : Edition) (fates : List DirectoryOutcome) (d : Directory) (fate : DirectoryOutcome) (a : Action) → action_in edition fates d fate ≡ Some a → (files : List Parsed) × (d.planned ≡ Sound files)
sound_of edition fates d (Stopped fault) a e = absurd (cc (e))
sound_of edition fates d Blocked a e = absurd (cc (e))
sound_of edition fates d (Wrong fault) a e = has_files edition fates d d.planned a e
sound_of edition fates d (Good typed) a e = has_files edition fates d d.planned a e

-- ---- rows by ranks

module _ (edition : Edition) (held : List Action) (build : TargetBuild) where
  good_moves : (r s : List Row) (k : ℕ) → id_status_at r k ≡ id_status_at s k → IsHeldGood build r k → IsHeldGood build s k
  good_moves r s k e (typed, id, good, stands) = (typed, id, good, sym e ∙ stands)

  goods_move : (r s : List Row) (ks : List ℕ) → ((k : ℕ) → Contains ks k → id_status_at r k ≡ id_status_at s k) → All (IsHeldGood build r) ks → All (IsHeldGood build s) ks
  goods_move r s [] same h = All-nil (IsHeldGood build s)
  goods_move r s (k ∷ ks) same h =
      All-cons (IsHeldGood build s) k ks (good_moves r s k (same k (at_head ks k k refl)) (All-head (IsHeldGood build r) k ks h))
      (goods_move r s ks (λ j c. same j (later k ks j c)) (All-tail (IsHeldGood build r) k ks h))

  both : (r s : List Row) (d : Directory) (fate : DirectoryOutcome) → ((files : List Parsed) → d.planned ≡ Sound files → (k : ℕ) → Contains d.imports k → id_status_at r k ≡ id_status_at s k) → (a : Action) → action_in edition build.fates d fate ≡ Some a
      → (All (IsHeldGood build r) d.imports → All (IsHeldGood build s) d.imports) × (All (IsHeldGood build s) d.imports → All (IsHeldGood build r) d.imports)
  both r s d fate agree a e =
      let sound = sound_of edition build.fates d fate a e in
      (goods_move r s d.imports (agree sound.0 sound.1), goods_move s r d.imports (λ j c. sym (agree sound.0 sound.1 j c)))

  held_good : (r : List Row) (k : ℕ) → IsHeldGood build r k ⊎ (IsHeldGood build r k → ⊥)
  held_good r k = elim (good_or_not (outcome_at build.fates k)) [
    | inr bad ↦ inr (λ g. bad g.0 g.2)
    | inl (typed, good) ↦ held_row r k typed good (id_status_at r k) refl
  ]
    where
      held_row : (r : List Row) (k : ℕ) (typed : _) → outcome_at build.fates k ≡ Good typed → (s : IdStatus) → id_status_at r k ≡ s → IsHeldGood build r k ⊎ (IsHeldGood build r k → ⊥)
      held_row r k typed good NoId e = inr (λ g. (let wrong : NoId ≡ Held g.1 = sym e ∙ g.3 in absurd (cc (wrong))))
      held_row r k typed good (Absent i) e = inr (λ g. (let wrong : Absent i ≡ Held g.1 = sym e ∙ g.3 in absurd (cc (wrong))))
      held_row r k typed good (Held i) e = inl (typed, i, good, e)

  abbrev pairs : List (Directory × DirectoryOutcome)
  pairs = zip build.directories build.fates

  row_moves : (r s : List Row) (p : Directory × DirectoryOutcome) (row : Row) → ((files : List Parsed) → p.0.planned ≡ Sound files → (k : ℕ) → Contains p.0.imports k → id_status_at r k ≡ id_status_at s k) → IsIdRow edition held build r p row → IsIdRow edition held build s p row
  row_moves r s (d, fate) (path, standing) agree g = (
    g.0,
    standing_moves held (action_in edition build.fates d fate) (All (IsHeldGood build r) d.imports) (All (IsHeldGood build s) d.imports) (both r s d fate agree) standing g.1,
  )

  some_row : (r : List Row) (p : Directory × DirectoryOutcome) → (row : Row) × IsIdRow edition held build r p row
  some_row r (d, fate) =
      let its = some_standing held (action_in edition build.fates d fate) (All (IsHeldGood build r) d.imports) (each (IsHeldGood build r) (held_good r) d.imports) in
      ((d.path, its.0), (refl, its.1))

  one_row : (r s : List Row) (p : Directory × DirectoryOutcome) (x y : Row) → ((files : List Parsed) → p.0.planned ≡ Sound files → (k : ℕ) → Contains p.0.imports k → id_status_at r k ≡ id_status_at s k) → IsIdRow edition held build r p x → IsIdRow edition held build s p y → x ≡ y
  one_row r s (d, fate) (p, x) (q, y) agree g h =
      let same : x ≡ y = one_standing held (action_in edition build.fates d fate) (All (IsHeldGood build r) d.imports) (All (IsHeldGood build s) d.imports) (both r s d fate agree) x y g.1 h.1 in
      ap (λ (z : List ℕ). (z, x)) (g.0 ∙ sym h.0) ∙ ap (λ (z : IdStatus). (q, z)) same

  module _ (rank : ℕ → ℕ) (ranks : AreRanks build.directories rank) where
    -- ---- one list

    module _ (r s : List Row) (g : AreIdRows edition held build r) (h : AreIdRows edition held build s) where
      one_at : (k : ℕ) → ((j : ℕ) → rank j < rank k → slice_get r j ≡ slice_get s j) → slice_get r k ≡ slice_get s k
      one_at k below = elim (slice_get pairs k) as (λ o. slice_get pairs k ≡ o → slice_get r k ≡ slice_get s k) [
        | None ↦ λ past. related_past (IsIdRow edition held build r) pairs r g k past ∙ sym (related_past (IsIdRow edition held build s) pairs s h k past)
        | Some (d, fate) ↦ λ at. (
            let x = related (IsIdRow edition held build r) pairs r g k (d, fate) at in
            let y = related (IsIdRow edition held build s) pairs s h k (d, fate) at in
            let there = zip_at build.directories build.fates k d fate at in
            let agree : (files : List Parsed) → d.planned ≡ Sound files → (j : ℕ) → Contains d.imports j → id_status_at r j ≡ id_status_at s j =
            λ files sound j c. same_standing r s j (same_at j (below j (ranks k j d files there sound c))) in
            x.1 ∙ ap Some (one_row r s (d, fate) x.0 y.0 agree x.2 y.2) ∙ sym y.1)
      ] refl
        where
          same_at : (j : ℕ) → slice_get r j ≡ slice_get s j → row_at r j ≡ row_at s j
          same_at j e = elim (slice_get s j) as (λ o. slice_get s j ≡ o → row_at r j ≡ row_at s j) [
            | None ↦ λ past. row_past r j (none_past r j (e ∙ past)) ∙ sym (row_past s j (none_past s j past))
            | Some x ↦ λ at. row_is r j x (e ∙ at) ∙ sym (row_is s j x at)
          ] refl

      pub one_rows : r ≡ s
      one_rows = same_lists r s (ranked rank (λ k. slice_get r k ≡ slice_get s k) one_at)

    -- ---- some list, of one rank after another

    record Round (n : ℕ) : Type 0 where
      rows : List Row
      size : length rows ≡ length pairs
      are : (k : ℕ) (p : Directory × DirectoryOutcome) → slice_get pairs k ≡ Some p → rank k < n → IsIdRow edition held build rows p (row_at rows k)

    first_round : Round 0
    first_round =
        let all = choice (λ k (p : Directory × DirectoryOutcome) (r : Row). Unit {0}) pairs (λ k p at. (blank, tt)) in
        record { rows = all.0; size = all.1; are = λ k p at lt. absurd (omega (arith, lt)) }

    abbrev Next : (n : ℕ) → List Row → ℕ → Directory × DirectoryOutcome → Row → Type 0
    Next n f k p r = (rank k < n → r ≡ row_at f k) × ((rank k < n → ⊥) → IsIdRow edition held build f p r)

    next_at : (n : ℕ) (f : Round n) (k : ℕ) (p : Directory × DirectoryOutcome) → slice_get pairs k ≡ Some p → (r : Row) × Next n f.rows k p r
    next_at n f k p at = elim (cases_lt (rank k) n) [
      | inl lt ↦ (row_at f.rows k, (λ l. refl, λ never. absurd (never lt)))
      | inr past ↦ (let r = some_row f.rows p in (r.0, (λ lt. absurd (omega (arith, lt, past)), λ never. r.1)))
    ]

    next_round : (n : ℕ) → Round n → Round (suc n)
    next_round n round =
        let f = round.rows in
        let all = choice (Next n f) pairs (next_at n round) in
        let g = all.0 in
        let kept : (j : ℕ) → rank j < n → row_at f j ≡ row_at g j = λ j lt. elim (slice_get pairs j) as (λ o. slice_get pairs j ≡ o → row_at f j ≡ row_at g j) [
          | None ↦ λ none. (let past = none_past pairs j none in row_past f j (omega (arith, past, round.size)) ∙ sym (row_past g j (omega (arith, past, all.1))))
          | Some p ↦ λ at. (let r = all.2 j p at in sym (row_is g j r.0 r.1 ∙ (r.2).0 lt))
        ] refl in
        record {
          rows = g;
          size = all.1;
          are = λ k p at lt.
              let there = zip_at build.directories build.fates k p.0 p.1 at in
              let agree : (files : List Parsed) → p.0.planned ≡ Sound files → (j : ℕ) → Contains p.0.imports j → id_status_at f j ≡ id_status_at g j =
              λ files e j c. same_standing f g j (kept j (let below = ranks k j p.0 files there e c in omega (arith, below, lt))) in
              elim (cases_lt (rank k) n) [
                | inl below ↦ subst (λ r. IsIdRow edition held build g p r) (kept k below) (row_moves f g p (row_at f k) agree (round.are k p at below))
                | inr past ↦ (
                    let r = all.2 k p at in
                    subst (λ x. IsIdRow edition held build g p x) (sym (row_is g k r.0 r.1)) (row_moves f g p r.0 agree ((r.2).1 (λ below. absurd (omega (arith, below, past))))))
              ];
        }

    rounds : (n : ℕ) → Round n
    rounds zero = first_round
    rounds (suc n) = next_round n (rounds n)

    pub some_rows : (rows : List Row) × AreIdRows edition held build rows
    some_rows =
        let top = highest rank (length pairs) in
        let last = rounds top.0 in (
          last.rows,
          zip_all (IsIdRow edition held build last.rows) pairs last.rows last.size (λ k p at.
              let inside = slice_get_within pairs k p at in
              (row_at last.rows k, row_there last.rows k (omega (arith, inside, last.size)), last.are k p at (top.1 k inside))),
        )

pub one_id_rows : (edition : Edition) (W : List Write) (target : List ℕ) (held : List Action) (build : TargetBuild) (r s : List Row) → IsTargetBuild edition W target (Some build) → AreIdRows edition held build r → AreIdRows edition held build s → r ≡ s
one_id_rows edition W target held build r s are g h =
    let ranks = ranked_build_plan edition W target build.directories are.0 in
    one_rows edition held build ranks.0 ranks.1 r s g h

pub some_id_rows : (edition : Edition) (W : List Write) (target : List ℕ) (held : List Action) (build : TargetBuild) → IsTargetBuild edition W target (Some build) → (rows : List Row) × AreIdRows edition held build rows
some_id_rows edition W target held build are =
    let ranks = ranked_build_plan edition W target build.directories are.0 in
    some_rows edition held build ranks.0 ranks.1
