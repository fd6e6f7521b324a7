-- The steps of the loops over targets.
use Rattle.std.proofs.Common.{◌≡◌, ◌≢◌, ℕ, zero, suc, ◌+◌, ◌<◌, Bool, true, false, ◌||◌, ◌==◌, List, [], ◌∷◌, ◌++◌, map, length, take, get_or, Option, Some, None, refl, sym, ap, subst, ◌∙◌, inl, inr, arith, append-nil, append_assoc, length-append}
use Rattle.std.specs.Prelude.{slice_set}
use Rattle.std.specs.List.{All, slice_get, Contains, AllZip, list_all}
use Rattle.std.specs.FinMap.{FinMap, empty}
use Rattle.std.proofs.lemmas.Bool.{eqb-true, eq-eqb, cases_eq}
use Rattle.std.proofs.lemmas.List.{take_more, map-append, length-map}
use Rattle.std.proofs.lemmas.List.Elements.{All-nil, All-cons, All-head, All-tail, Contains-append_left, Contains-append_right, Contains-append_cases}
use Rattle.std.proofs.lemmas.List.Folds.{list_any-append}
use Rattle.std.proofs.lemmas.Grind.{flat_map-append}
use Rattle.ws_map.specs.Kept.{joined}
use Rattle.ws_action.specs.Actions.{Action}
use Rattle.ws_action.proofs.Members.{none_in_empty, head_or_later, at_head, later}
use Rattle.ws_board.specs.Work.{Job}
use Rattle.ws_cache.specs.Held.{id_cmp, CacheStandsFor}
use Rattle.ws_cache.specs.Joined.{lesser}
use Rattle.ws_cache.proofs.Joined.{empty_stands}
use Rattle.ws_report.specs.Reports.{DirectoryVerdict}
use Rattle.ws_replica.specs.Builds.{took_at, held_at, held_by, builds, target_of}
use Rattle.ws_replica.specs.Holdings.{Replica, Took, AllStandFor}
use Rattle.ws_replica.specs.Jobs.{Place, ReachedDirectory, place_seen, job_after, jobs_after, AreVerdicts, AllAreVerdicts}
use Rattle.ws_replica.specs.Targets.{IsOpening, HaveCache, TakesInto, TakeResults}
use Rattle.ws_replica.specs.declared.building.Target.{Target}
use Rattle.ws_replica.specs.declared.reached.Place.{Place as RustPlace}
use Rattle.ws_replica.proofs.BuiltTargets.{same_stands}
use Rattle.ws_replica.proofs.Numbered.{some_same, and_left, and_right}
use Rattle.ws_replica.proofs.TargetPieces.{stands_at}

-- ---- lists

pub zip_push : {A B : Type 0} (R : A → B → Type 0) (xs : List A) (ys : List B) (x : A) (y : B) → AllZip R xs ys → R x y → AllZip R (xs ++ x ∷ []) (ys ++ y ∷ [])
zip_push R [] [] x y h r = (r, tt)
zip_push R [] (b ∷ ys) x y h r = absurd h
zip_push R (a ∷ xs) [] x y h r = absurd h
zip_push R (a ∷ xs) (b ∷ ys) x y h r = (h.0, zip_push R xs ys x y h.1 r)

-- the target of that number, and one for numbers past the end
abbrev pub target_at : List Target → ℕ → Target
target_at targets i = get_or targets i (record { replica = 0; directory = record { ref_ptr = (0, 0); now = [] } })

-- one more target
pub targets_next : (targets : List Target) (i : ℕ) → i < length targets → map target_of (take (i + 1) targets) ≡ map target_of (take i targets) ++ target_of (target_at targets i) ∷ []
targets_next targets i within =
    ap (map target_of) (take_more targets i (record { replica = 0; directory = record { ref_ptr = (0, 0); now = [] } }) within)
    ∙ map-append target_of (take i targets) (target_at targets i ∷ [])

target_member : (targets : List Target) (i : ℕ) → i < length targets → Contains (map target_of targets) (target_of (target_at targets i))
target_member [] i within = absurd (omega arith)
target_member (t ∷ targets) zero within = at_head {A = ℕ × List ℕ} (map target_of targets) (target_of t) (target_of t) refl
target_member (t ∷ targets) (suc i) within = later {A = ℕ × List ℕ} (target_of t) (map target_of targets) (target_of (target_at targets i)) (target_member targets i (omega arith))

pub first_member : (targets : List Target) (t : Target) → Some t ≡ slice_get targets 0 → Contains (map target_of targets) (target_of t)
first_member [] t e = cc
first_member (x ∷ targets) t e = at_head {A = ℕ × List ℕ} (map target_of targets) (target_of x) (target_of t) (ap target_of (some_same x t (sym e)))

pub none_first : (targets : List Target) → None ≡ slice_get targets 0 → map target_of targets ≡ []
none_first [] e = refl
none_first (t ∷ targets) e = cc

-- one more of what a list is made of
pub listed_more : {B C : Type 0} (g : B → C) (done pushed : List C) (x : C) (y : B) (left rest : List B) (whole : List C) → pushed ≡ done ++ x ∷ [] → left ≡ y ∷ rest → x ≡ g y → done ++ map g left ≡ whole → pushed ++ map g rest ≡ whole
listed_more g done pushed x y left rest whole push next same h =
    ap (λ zs. zs ++ map g rest) push ∙ append_assoc done (x ∷ []) (map g rest) ∙ ap (λ z. done ++ (z ∷ map g rest)) same
    ∙ ap (λ zs. done ++ map g zs) (sym next) ∙ h

pub places_push : (places pushed : List RustPlace) (x : RustPlace) → pushed ≡ places ++ x ∷ [] → map place_seen pushed ≡ map place_seen places ++ place_seen x ∷ []
places_push places pushed x push = ap (map place_seen) push ∙ map-append place_seen places (x ∷ [])

-- ---- jobs

pub jobs_next : (jobs more whole : List Job) (rs : List ReachedDirectory) (rest : List (List ReachedDirectory)) → more ≡ jobs ++ map (job_after (length jobs)) rs → jobs ++ jobs_after (length jobs) (rs ∷ rest) ≡ whole → more ++ jobs_after (length more) rest ≡ whole
jobs_next jobs more whole rs rest is h =
    let count : length more ≡ length jobs + length rs = ap length is ∙ length-append jobs (map (job_after (length jobs)) rs) ∙ ap (λ n. length jobs + n) (length-map rs (job_after (length jobs))) in
    ap (λ zs. zs ++ jobs_after (length more) rest) is
    ∙ ap (λ n. (jobs ++ map (job_after (length jobs)) rs) ++ jobs_after n rest) count
    ∙ append_assoc jobs (map (job_after (length jobs)) rs) (jobs_after (length jobs + length rs) rest) ∙ h

-- ---- what is told

pub all_told_more : (result : ℕ → Option Action) (n m : ℕ) (places : List Place) (rest all : List (List Place)) (row : List (List ℕ × DirectoryVerdict)) (rows more : List (List (List ℕ × DirectoryVerdict))) → m ≡ n + length places → AreVerdicts result n places row → more ≡ rows ++ row ∷ []
    → ((tail : List (List (List ℕ × DirectoryVerdict))) → AllAreVerdicts result n (places ∷ rest) tail → AllAreVerdicts result 0 all (rows ++ tail)) → (tail : List (List (List ℕ × DirectoryVerdict))) → AllAreVerdicts result m rest tail → AllAreVerdicts result 0 all (more ++ tail)
all_told_more result n m places rest all row rows more next told pushed h tail are =
    subst (λ zs. AllAreVerdicts result 0 all zs) (sym (ap (λ zs. zs ++ tail) pushed ∙ append_assoc rows (row ∷ []) tail))
    (h (row ∷ tail) (told, subst (λ k. AllAreVerdicts result k rest tail) next are))

pub all_told_whole : (result : ℕ → Option Action) (n : ℕ) (rest all : List (List Place)) (rows : List (List (List ℕ × DirectoryVerdict))) → rest ≡ [] → ((tail : List (List (List ℕ × DirectoryVerdict))) → AllAreVerdicts result n rest tail → AllAreVerdicts result 0 all (rows ++ tail)) → AllAreVerdicts result 0 all rows
all_told_whole result n rest all rows e h = subst (λ zs. AllAreVerdicts result 0 all zs) (append-nil rows) (h [] (subst (λ zs. AllAreVerdicts result n zs []) (sym e) tt))

-- ---- the opening

-- the numbers of replicas that are named
pub numbers_next : (targets : List Target) (i : ℕ) → i < length targets → map (λ t. t.replica) (take (i + 1) targets) ≡ map (λ t. t.replica) (take i targets) ++ (target_at targets i).replica ∷ []
numbers_next targets i within =
    ap (map (λ (t : Target). t.replica)) (take_more targets i (record { replica = 0; directory = record { ref_ptr = (0, 0); now = [] } }) within)
    ∙ map-append (λ (t : Target). t.replica) (take i targets) (target_at targets i ∷ [])

pub held_numbers : (took : List Took) (targets : List Target) → held_at took (map (λ t. t.replica) targets) ≡ held_by took (map target_of targets)
held_numbers took [] = refl
held_numbers took (t ∷ targets) = ap (λ zs. (took_at took t.replica).actions ++ zs) (held_numbers took targets)

pub numbers_within : (targets : List Target) (numbers : List ℕ) (n : ℕ) → numbers ≡ map (λ t. t.replica) targets → All (λ t. t.replica < n) targets → All (λ k. k < n) numbers
numbers_within targets numbers n is h = subst (All (λ k. k < n)) (sym is) (All-map targets h)
  where
    All-map : (ts : List Target) → All (λ t. t.replica < n) ts → All (λ k. k < n) (map (λ t. t.replica) ts)
    All-map [] g = All-nil (λ k. k < n)
    All-map (t ∷ ts) g = All-cons (λ k. k < n) t.replica (map (λ (u : Target). u.replica) ts) (All-head (λ (u : Target). u.replica < n) t ts g) (All-map ts (All-tail (λ (u : Target). u.replica < n) t ts g))

pub first_number : (numbers : List ℕ) (k : ℕ) → Some k ≡ slice_get numbers 0 → Contains numbers k
first_number [] k e = cc
first_number (x ∷ numbers) k e = at_head {A = ℕ} numbers x k (some_same x k (sym e))

pub no_first : (numbers : List ℕ) → None ≡ slice_get numbers 0 → numbers ≡ []
no_first [] e = refl
no_first (x ∷ numbers) e = cc

held_push : (took : List Took) (numbers : List ℕ) (k : ℕ) → held_at took (numbers ++ k ∷ []) ≡ held_at took numbers ++ (took_at took k).actions
held_push took numbers k =
    flat_map-append (λ j. (took_at took j).actions) numbers (k ∷ []) ∙ ap (λ zs. held_at took numbers ++ zs) (append-nil (took_at took k).actions)

-- what the first replica holds, and what those of these numbers do
abbrev pub IsOpenedBy : List Replica → ℕ → List ℕ → FinMap id_cmp Action → Type 0
IsOpenedBy replicas first numbers cache = (took : List Took) → AllStandFor replicas took → CacheStandsFor cache ((took_at took first).actions ++ held_at took numbers)

pub opened_first : (replicas : List Replica) (first : ℕ) (r : Replica) (cache : FinMap id_cmp Action) → slice_get replicas first ≡ Some r → cache ≡ r.cache → IsOpenedBy replicas first [] cache
opened_first replicas first r cache at is took stand =
    subst (CacheStandsFor cache) (sym (append-nil (took_at took first).actions))
    (subst (λ (m : FinMap id_cmp Action). CacheStandsFor m (took_at took first).actions) (sym is) (stands_at replicas took stand first r at).cache)

-- another replica
pub opened_more : (replicas : List Replica) (first : ℕ) (numbers more : List ℕ) (k : ℕ) (r : Replica) (old new : FinMap id_cmp Action) → more ≡ numbers ++ k ∷ [] → slice_get replicas k ≡ Some r
    → ((E F : List Action) → CacheStandsFor old E → CacheStandsFor r.cache F → CacheStandsFor new (E ++ F)) → IsOpenedBy replicas first numbers old → IsOpenedBy replicas first more new
opened_more replicas first numbers more k r old new is at merged h took stand =
    let A : List Action = (took_at took first).actions in
    let T : List Action = (took_at took k).actions in
    subst (λ ks. CacheStandsFor new (A ++ held_at took ks)) (sym is)
    (subst (λ H. CacheStandsFor new (A ++ H)) (sym (held_push took numbers k))
    (subst (CacheStandsFor new) (append_assoc A (held_at took numbers) T)
    (merged (A ++ held_at took numbers) T (h took stand) (stands_at replicas took stand k r at).cache)))

-- the first replica again
pub opened_same : (replicas : List Replica) (first : ℕ) (numbers more : List ℕ) (k : ℕ) (cache : FinMap id_cmp Action) → more ≡ numbers ++ k ∷ [] → k ≡ first → IsOpenedBy replicas first numbers cache → IsOpenedBy replicas first more cache
opened_same replicas first numbers more k cache is same h took stand =
    let A : List Action = (took_at took first).actions in
    let H : List Action = held_at took numbers in
    subst (λ ks. CacheStandsFor cache (A ++ held_at took ks)) (sym is)
    (subst (λ Z. CacheStandsFor cache (A ++ Z)) (sym (held_push took numbers k ∙ ap (λ j. H ++ (took_at took j).actions) same))
    (same_stands cache (A ++ H) (A ++ (H ++ A)) (λ a. (
      λ c. elim (Contains-append_cases A H a c) [ inl l ↦ Contains-append_left A (H ++ A) a l | inr r ↦ Contains-append_right A (H ++ A) a (Contains-append_left H A a r) ],
      λ c. elim (Contains-append_cases A (H ++ A) a c) [
        | inl l ↦ Contains-append_left A H a l
        | inr r ↦ elim (Contains-append_cases H A a r) [ inl l ↦ Contains-append_right A H a l | inr l ↦ Contains-append_left A H a l ]
      ],
    )) (h took stand)))

number_member : (took : List Took) (numbers : List ℕ) (k : ℕ) → Contains numbers k → (a : Action) → Contains (took_at took k).actions a → Contains (held_at took numbers) a
number_member took [] k among a c = absurd (none_in_empty {A = ℕ} k among)
number_member took (x ∷ numbers) k among a c = elim (head_or_later {A = ℕ} x numbers k among) [
  | inl e ↦ Contains-append_left (took_at took x).actions (held_at took numbers) a (subst (λ j. Contains (took_at took j).actions a) (sym e) c)
  | inr l ↦ Contains-append_right (took_at took x).actions (held_at took numbers) a (number_member took numbers k l a c)
]

held_member : (took : List Took) (targets : List (ℕ × List ℕ)) (t : ℕ × List ℕ) → Contains targets t → (a : Action) → Contains (took_at took t.0).actions a → Contains (held_by took targets) a
held_member took [] t among a c = absurd (none_in_empty {A = ℕ × List ℕ} t among)
held_member took (x ∷ targets) t among a c = elim (head_or_later {A = ℕ × List ℕ} x targets t among) [
  | inl e ↦ Contains-append_left (took_at took x.0).actions (held_by took targets) a (subst (λ (z : ℕ × List ℕ). Contains (took_at took z.0).actions a) (sym e) c)
  | inr l ↦ Contains-append_right (took_at took x.0).actions (held_by took targets) a (held_member took targets t l a c)
]

-- the first replica is one of them
pub opened_whole : (replicas : List Replica) (numbers : List ℕ) (first : ℕ) (cache : FinMap id_cmp Action) → Contains numbers first → IsOpenedBy replicas first numbers cache → IsOpening replicas numbers cache
opened_whole replicas numbers first cache among h took stand =
    let A : List Action = (took_at took first).actions in
    same_stands cache (A ++ held_at took numbers) (held_at took numbers) (λ a. (
      λ c. elim (Contains-append_cases A (held_at took numbers) a c) [ inl l ↦ number_member took numbers first among a l | inr r ↦ r ],
      λ c. Contains-append_right A (held_at took numbers) a c,
    )) (h took stand)

pub opened_none : (replicas : List Replica) (numbers : List ℕ) (cache : FinMap id_cmp Action) → numbers ≡ [] → cache ≡ empty → IsOpening replicas numbers cache
opened_none replicas numbers cache none is took stand = subst (λ ks. CacheStandsFor cache (held_at took ks)) (sym none) (empty_stands cache is)

pub held_none : (took : List Took) (targets : List (ℕ × List ℕ)) (cache : FinMap id_cmp Action) → targets ≡ [] → cache ≡ empty → CacheStandsFor cache (held_by took targets)
held_none took targets cache none is = subst (λ ts. CacheStandsFor cache (held_by took ts)) (sym none) (empty_stands cache is)

-- all targets are of one replica
abbrev pub AllName : ℕ → List (ℕ × List ℕ) → Type 0
AllName k targets = (t : ℕ × List ℕ) → Contains targets t → t.0 ≡ k

all_name_held : (took : List Took) (targets : List (ℕ × List ℕ)) (k : ℕ) → AllName k targets → (a : Action) → Contains (held_by took targets) a → Contains (took_at took k).actions a
all_name_held took [] k all a c = absurd (none_in_empty a c)
all_name_held took (t ∷ targets) k all a c = elim (Contains-append_cases (took_at took t.0).actions (held_by took targets) a c) [
  | inl l ↦ subst (λ j. Contains (took_at took j).actions a) (all t (at_head {A = ℕ × List ℕ} targets t t refl)) l
  | inr r ↦ all_name_held took targets k (λ x d. all x (later {A = ℕ × List ℕ} t targets x d)) a r
]

opened_one : (replicas : List Replica) (targets : List (ℕ × List ℕ)) (first : ℕ × List ℕ) (r : Replica) → Contains targets first → AllName first.0 targets → slice_get replicas first.0 ≡ Some r → (took : List Took) → AllStandFor replicas took → CacheStandsFor r.cache (held_by took targets)
opened_one replicas targets first r among all at took stand =
    same_stands r.cache (took_at took first.0).actions (held_by took targets)
    (λ a. (held_member took targets first among a, all_name_held took targets first.0 all a))
    (stands_at replicas took stand first.0 r at).cache

pub all_name_by : (targets : List Target) (k : ℕ) → list_all (λ (t : Target). t.replica == k) targets ≡ true → AllName k (map target_of targets)
all_name_by [] k h t c = absurd (none_in_empty {A = ℕ × List ℕ} t c)
all_name_by (x ∷ targets) k h t c = elim (head_or_later {A = ℕ × List ℕ} (target_of x) (map target_of targets) t c) [
  | inl e ↦ sym (ap (λ (z : ℕ × List ℕ). z.0) e) ∙ eqb-true x.replica k (and_left (x.replica == k) (list_all (λ (t : Target). t.replica == k) targets) h)
  | inr l ↦ all_name_by targets k (and_right (x.replica == k) (list_all (λ (t : Target). t.replica == k) targets) h) t l
]

-- ---- who takes the results

names_one : (targets : List (ℕ × List ℕ)) (k j : ℕ) → AllName k targets → builds targets j ≡ true → j ≡ k
names_one [] k j all named = cc
names_one (t ∷ targets) k j all named = by_test (t.0 == j) refl named (names_one targets k j (λ x d. all x (later {A = ℕ × List ℕ} t targets x d)))
  where
    by_test : (b : Bool) → (t.0 == j) ≡ b → (b || builds targets j) ≡ true → (builds targets j ≡ true → j ≡ k) → j ≡ k
    by_test true e h rest = sym (eqb-true t.0 j e) ∙ all t (at_head {A = ℕ × List ℕ} targets t t refl)
    by_test false e h rest = rest h

or_true : (b : Bool) → (b || true) ≡ true
or_true true = refl
or_true false = refl

member_builds : (targets : List (ℕ × List ℕ)) (t : ℕ × List ℕ) → Contains targets t → builds targets t.0 ≡ true
member_builds [] t among = absurd (none_in_empty {A = ℕ × List ℕ} t among)
member_builds (x ∷ targets) t among = elim (head_or_later {A = ℕ × List ℕ} x targets t among) [
  | inl e ↦ ap (λ b. b || builds targets t.0) (eq-eqb x.0 t.0 (ap (λ (z : ℕ × List ℕ). z.0) e))
  | inr l ↦ ap (λ b. (x.0 == t.0) || b) (member_builds targets t l) ∙ or_true (x.0 == t.0)
]

set_same : {X : Type 0} (xs : List X) (k : ℕ) (x y : X) → slice_get xs k ≡ Some x → slice_get (slice_set xs k y) k ≡ Some y
set_same [] k x y at = cc
set_same (z ∷ xs) zero x y at = refl
set_same (z ∷ xs) (suc k) x y at = set_same xs k x y at

set_other : {X : Type 0} (xs : List X) (k j : ℕ) (y : X) → j ≢ k → slice_get (slice_set xs k y) j ≡ slice_get xs j
set_other [] k j y apart = refl
set_other (z ∷ xs) zero zero y apart = absurd (apart refl)
set_other (z ∷ xs) zero (suc j) y apart = refl
set_other (z ∷ xs) (suc k) zero y apart = refl
set_other (z ∷ xs) (suc k) (suc j) y apart = set_other xs k j y (λ e. apart (ap suc e))

map_set : {X Y : Type 0} (f : X → Y) (xs : List X) (k : ℕ) (x y : X) → slice_get xs k ≡ Some x → f y ≡ f x → map f (slice_set xs k y) ≡ map f xs
map_set f [] k x y at same = refl
map_set f (z ∷ xs) zero x y at same = ap (λ v. v ∷ map f xs) (same ∙ ap f (sym (some_same z x at)))
map_set f (z ∷ xs) (suc k) x y at same = ap (λ vs. f z ∷ vs) (map_set f xs k x y at same)

pub have_none : (targets : List (ℕ × List ℕ)) (cache : FinMap id_cmp Action) (replicas : List Replica) → targets ≡ [] → HaveCache targets cache replicas replicas
have_none targets cache replicas none = record {
  registers = refl;
  named = λ k r b at. (let e : false ≡ true = sym (ap (λ ts. builds ts k) none) ∙ b in cc);
  others = λ k b. refl;
}

module _ (targets : List (ℕ × List ℕ)) (t : ℕ × List ℕ) (cache : FinMap id_cmp Action) (old mid : List Replica) (r : Replica) (at : slice_get mid t.0 ≡ Some r) (have : HaveCache targets cache old mid) where
  abbrev put : List Replica
  put = slice_set mid t.0 (record r { cache = cache })

  abbrev one_more : List (ℕ × List ℕ)
  one_more = targets ++ t ∷ []

  builds_push : (k : ℕ) → builds one_more k ≡ (builds targets k || (t.0 == k))
  builds_push k = list_any-append (λ (t : ℕ × List ℕ). t.0 == k) targets (t ∷ []) ∙ ap (λ b. builds targets k || b) (or_false (t.0 == k))
    where
      or_false : (b : Bool) → (b || false) ≡ b
      or_false true = refl
      or_false false = refl

  or_first : (a b : Bool) → (a || b) ≡ true → b ≡ false → a ≡ true
  or_first true b h e = refl
  or_first false b h e = let c : false ≡ true = sym e ∙ h in cc

  or_none : (a b : Bool) → (a || b) ≡ false → a ≡ false
  or_none true b h = h
  or_none false b h = refl

  or_none_second : (a b : Bool) → (a || b) ≡ false → b ≡ false
  or_none_second true b h = let c : true ≡ false = h in cc
  or_none_second false b h = h

  not_eqb : (a b : ℕ) → a ≢ b → (v : Bool) → (a == b) ≡ v → v ≡ false
  not_eqb a b apart true e = absurd (apart (eqb-true a b e))
  not_eqb a b apart false e = refl

  named_put : (k : ℕ) (x : Replica) → builds one_more k ≡ true → slice_get put k ≡ Some x → x.cache ≡ cache
  named_put k x b here = elim (cases_eq k t.0) [
    | inl e ↦ (
        let its : slice_get put k ≡ Some (record r { cache = cache }) = subst (λ j. slice_get put j ≡ Some (record r { cache = cache })) (sym e) (set_same mid t.0 r (record r { cache = cache }) at) in
        sym (ap (λ (z : Replica). z.cache) (some_same (record r { cache = cache }) x (sym its ∙ here))))
    | inr apart ↦ (
        let test : (t.0 == k) ≡ false = not_eqb t.0 k (λ e. apart (sym e)) (t.0 == k) refl in
        have.named k x (or_first (builds targets k) (t.0 == k) (sym (builds_push k) ∙ b) test) (sym (set_other mid t.0 k (record r { cache = cache }) apart) ∙ here))
  ]

  apart_of : (k : ℕ) → (t.0 == k) ≡ false → k ≢ t.0
  apart_of k e same = let c : true ≡ false = sym (eq-eqb t.0 k (sym same)) ∙ e in cc

  others_put : (k : ℕ) → builds one_more k ≡ false → slice_get put k ≡ slice_get old k
  others_put k b =
      let neither : (builds targets k || (t.0 == k)) ≡ false = sym (builds_push k) ∙ b in
      set_other mid t.0 k (record r { cache = cache }) (apart_of k (or_none_second (builds targets k) (t.0 == k) neither)) ∙ have.others k (or_none (builds targets k) (t.0 == k) neither)

  pub have_next : HaveCache one_more cache old put
  have_next = record {
    registers = map_set (λ (z : Replica). z.registers) mid t.0 r (record r { cache = cache }) at refl ∙ have.registers;
    named = named_put;
    others = others_put;
  }

-- ---- results of the only replica

pub takes_one : (holders : List ℕ) (targets : List (ℕ × List ℕ)) (first : ℕ × List ℕ) (added : FinMap id_cmp Action) (old new : List Replica) → Contains targets first → AllName first.0 targets → TakesInto first.0 added old new → TakeResults holders targets added old new
takes_one holders targets first added old new among all h =
    let whole : FinMap id_cmp Action = joined lesser h.replica.cache added in
    let start : HaveCache [] whole old old = have_none [] whole old refl in
    let one = have_next [] first whole old old h.replica h.at start in
    record {
      opening = h.replica.cache;
      opens = λ took stand hold. opened_one old targets first h.replica among all h.at took stand;
      have = record {
        registers = ap (map (λ (z : Replica). z.registers)) h.new_is ∙ one.registers;
        named = λ k r b at. one.named k r (ap (λ b. b || false) (eq-eqb first.0 k (sym (names_one targets first.0 k all b)))) (ap (λ zs. slice_get zs k) (sym h.new_is) ∙ at);
        others = λ k b.
            ap (λ zs. slice_get zs k) h.new_is
            ∙ set_other old first.0 k (record h.replica { cache = whole }) (λ e. (let c : true ≡ false = sym (subst (λ j. builds targets j ≡ true) (sym e) (member_builds targets first among)) ∙ b in cc));
      };
    }
