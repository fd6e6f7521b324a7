-- The steps of the loops over a plan's directories.
use Rattle.std.proofs.Common.{◌≡◌, ℕ, zero, suc, ◌+◌, ◌<◌, ◌≤◌, List, [], ◌∷◌, ◌++◌, length, map, take, get_or, Option, Some, None, refl, sym, ap, subst, ◌∙◌, arith, length-append, append-nil, append_assoc}
use Rattle.std.specs.List.{slice_get}
use Rattle.std.specs.Prelude.{Vec, IfNone, IfSome, string_bytes}
use Rattle.std.specs.Global.{Global}
use Rattle.go_text.specs.declared.edition.Edition.{Edition}
use Rattle.ws_reach.specs.Reach.{rows_of}
use Rattle.std.proofs.lemmas.List.{map-append, take_more}
use Rattle.go_code.specs.Packages.{Object}
use Rattle.ws_action.specs.Actions.{Action}
use Rattle.ws_board.specs.Work.{Seen, BoardState}
use Rattle.ws_graph.specs.declared.planning.Directory.{Directory as RustDirectory}
use Rattle.ws_graph.specs.Node.{directory_of}
use Rattle.ws_graph.specs.BuildPlan.{Directory}
use Rattle.ws_report.specs.declared.IdLine.{IdLine}
use Rattle.ws_report.specs.declared.IdStatus.{IdStatus}
use Rattle.ws_report.specs.Reports.{DirectoryVerdict, id_row}
use Rattle.ws_replica.specs.declared.reached.Place.{Place as RustPlace}
use Rattle.ws_replica.specs.declared.reached.Reached.{Reached as RustReached}
use Rattle.ws_replica.specs.declared.reached.Shared.{Shared}
use Rattle.ws_replica.specs.Jobs.{Place, ReachedDirectory, place_seen, shared_of, reached_of, reached_by, IsVerdictOfJob, AreVerdicts}
use Rattle.ws_replica.specs.Stopped.{id_status_in, rows_from, IsObjectAt, AreObjects}
use Rattle.ws_replica.proofs.Numbered.{some_same}

-- ---- what is told

pub told_more : (result : ℕ → Option Action) (from k n : ℕ) (place : Place) (rest all : List Place) (row : List ℕ × DirectoryVerdict) (rows more : List (List ℕ × DirectoryVerdict)) → n ≡ suc k → row.0 ≡ place.path → IsVerdictOfJob place.fault (result k) row.1 → more ≡ rows ++ row ∷ [] → ((tail : List (List ℕ × DirectoryVerdict)) → AreVerdicts result k (place ∷ rest) tail → AreVerdicts result from all (rows ++ tail)) → (tail : List (List ℕ × DirectoryVerdict)) → AreVerdicts result n rest tail → AreVerdicts result from all (more ++ tail)
told_more result from k n place rest all row rows more next path told pushed h tail are =
    subst (λ zs. AreVerdicts result from all zs) (sym (ap (λ zs. zs ++ tail) pushed ∙ append_assoc rows (row ∷ []) tail))
    (h (row ∷ tail) (path, told, subst (λ m. AreVerdicts result m rest tail) next are))

-- where nothing is left, all is told
pub told_whole : (result : ℕ → Option Action) (from k : ℕ) (rest all : List Place) (rows : List (List ℕ × DirectoryVerdict)) → rest ≡ [] → ((tail : List (List ℕ × DirectoryVerdict)) → AreVerdicts result k rest tail → AreVerdicts result from all (rows ++ tail)) → AreVerdicts result from all rows
told_whole result from k rest all rows e h = subst (λ zs. AreVerdicts result from all zs) (append-nil rows) (h [] (subst (λ zs. AreVerdicts result k zs []) (sym e) tt))

-- ---- what was reached

pub shared_next : (done pushed : List Shared) (x : Shared) (d : RustDirectory) (left rest : List RustDirectory) (total : List Directory) → pushed ≡ done ++ x ∷ [] → left ≡ d ∷ rest → shared_of x ≡ directory_of d → map shared_of done ++ map directory_of left ≡ total → map shared_of pushed ++ map directory_of rest ≡ total
shared_next done pushed x d left rest total p l one h =
    let others : List Directory = map directory_of rest in
    ap (λ zs. map shared_of zs ++ others) p
    ∙ ap (λ zs. zs ++ others) (map-append shared_of done (x ∷ []))
    ∙ append_assoc (map shared_of done) (shared_of x ∷ []) others
    ∙ ap (λ z. map shared_of done ++ (z ∷ others)) one
    ∙ ap (λ zs. map shared_of done ++ map directory_of zs) (sym l) ∙ h

pub reached_next : (edition : Edition) (directories : List Shared) (i : ℕ) (d : Shared) (done pushed : List RustReached) (x : RustReached) → i < length directories → d ≡ get_or directories i d → pushed ≡ done ++ x ∷ [] → reached_of x ≡ reached_by edition (shared_of d)
    → map reached_of done ≡ map (reached_by edition) (map shared_of (take i directories)) → map reached_of pushed ≡ map (reached_by edition) (map shared_of (take (i + 1) directories))
reached_next edition directories i d done pushed x within at push one h =
    let done_by : List Shared → List ReachedDirectory = λ ds. map (reached_by edition) (map shared_of ds) in
    let more : take (i + 1) directories ≡ take i directories ++ d ∷ [] = take_more directories i d within ∙ ap (λ z. take i directories ++ z ∷ []) (sym at) in
    ap (map reached_of) push ∙ map-append reached_of done (x ∷ []) ∙ ap (λ zs. zs ++ reached_of x ∷ []) h ∙ ap (λ z. done_by (take i directories) ++ z ∷ []) one
    ∙ sym (ap done_by more ∙ ap (map (reached_by edition)) (map-append shared_of (take i directories) (d ∷ [])) ∙ map-append (reached_by edition) (map shared_of (take i directories)) (shared_of d ∷ []))

-- ---- ids

pub rows_next : (state : BoardState) (lines pushed : List IdLine) (x : IdLine) (p : RustPlace) (left rest : List RustPlace) (total : List (List ℕ × IdStatus)) → pushed ≡ lines ++ x ∷ [] → left ≡ p ∷ rest → id_row x ≡ (string_bytes p.path, id_status_in state (length lines))
    → map id_row lines ++ rows_from state (length lines) (map place_seen left) ≡ total → map id_row pushed ++ rows_from state (length pushed) (map place_seen rest) ≡ total
rows_next state lines pushed x p left rest total push next one h =
    let size : length pushed ≡ suc (length lines) = ap length push ∙ length-append lines (x ∷ []) ∙ (let z : length lines + 1 ≡ suc (length lines) = omega arith in z) in
    ap (λ zs. map id_row zs ++ rows_from state (length pushed) (map place_seen rest)) push
    ∙ ap (λ n. map id_row (lines ++ x ∷ []) ++ rows_from state n (map place_seen rest)) size
    ∙ ap (λ zs. zs ++ rows_from state (suc (length lines)) (map place_seen rest)) (map-append id_row lines (x ∷ []))
    ∙ append_assoc (map id_row lines) (id_row x ∷ []) (rows_from state (suc (length lines)) (map place_seen rest))
    ∙ ap (λ z. map id_row lines ++ (z ∷ rows_from state (suc (length lines)) (map place_seen rest))) one
    ∙ ap (λ zs. map id_row lines ++ rows_from state (length lines) (map place_seen zs)) (sym next) ∙ h

pub rows_whole : (state : BoardState) (lines : List IdLine) (rest : List RustPlace) (total : List (List ℕ × IdStatus)) → rest ≡ [] → map id_row lines ++ rows_from state (length lines) (map place_seen rest) ≡ total → map id_row lines ≡ total
rows_whole state lines rest total none h = sym (append-nil (map id_row lines)) ∙ ap (λ zs. map id_row lines ++ rows_from state (length lines) (map place_seen zs)) (sym none) ∙ h

-- ---- objects

last_object : (objects : List Object) (o : Object) (k : ℕ) (x : Object) → slice_get (objects ++ o ∷ []) k ≡ Some x → (P : ℕ → Object → Type 0) → ((j : ℕ) (y : Object) → slice_get objects j ≡ Some y → P j y) → P (length objects) o → P k x
last_object [] o zero x at P each here = subst (P 0) (some_same o x at) here
last_object [] o (suc k) x at P each here = cc (at)
last_object (y ∷ objects) o zero x at P each here = each 0 x at
last_object (y ∷ objects) o (suc k) x at P each here = last_object objects o k x at (λ j z. P (suc j) z) (λ j z e. each (suc j) z e) here

pub objects_next : {A : Type 0} (v : A → Object) (seen : Seen) (n : ℕ) (objects more : List A) (x : A) → more ≡ objects ++ x ∷ [] → IsObjectAt seen n (v x) → AreObjects seen n (map v objects) → AreObjects seen (n + 1) (map v more)
objects_next v seen n objects more x push here h =
    let is : map v more ≡ map v objects ++ v x ∷ [] = ap (map v) push ∙ map-append v objects (x ∷ []) in
    let size = h.size in
    record {
      size = ap length is ∙ length-append (map v objects) (v x ∷ []) ∙ ap (λ m. m + 1) size;
      each = λ k o at. last_object (map v objects) (v x) k o (ap (λ zs. slice_get zs k) (sym is) ∙ at) (λ j y. IsObjectAt seen j y) h.each (subst (λ m. IsObjectAt seen m (v x)) (sym size) here);
    }

-- ---- lists

pub taken_all : {A : Type 0} (xs : List A) (i : ℕ) → length xs ≤ i → take i xs ≡ xs
taken_all [] zero le = refl
taken_all [] (suc i) le = refl
taken_all (x ∷ xs) zero le = absurd (omega arith)
taken_all (x ∷ xs) (suc i) le = ap (λ z. x ∷ z) (taken_all xs i (omega arith))

-- one more of a list, mapped
pub mapped_next : {A B : Type 0} (f : A → B) (xs : List A) (i : ℕ) (d : A) → i < length xs → d ≡ get_or xs i d → map f (take (i + 1) xs) ≡ map f (take i xs) ++ f d ∷ []
mapped_next f xs i d within e =
    ap (map f) (take_more xs i d within ∙ ap (λ y. take i xs ++ y ∷ []) (sym e)) ∙ map-append f (take i xs) (d ∷ [])

pub imports_next : (reached : List RustReached) (i : ℕ) (d : RustReached) (rows pushed : List (Vec ℕ Global)) (row : Vec ℕ Global) → i < length reached → d ≡ get_or reached i d → pushed ≡ rows ++ row ∷ [] → row.items ≡ d.imports.items
    → rows_of rows ≡ map (λ (r : ReachedDirectory). r.imports) (map reached_of (take i reached)) → rows_of pushed ≡ map (λ (r : ReachedDirectory). r.imports) (map reached_of (take (i + 1) reached))
imports_next reached i d rows pushed row within e push same h =
    ap rows_of push ∙ map-append (λ (v : Vec ℕ Global). v.items) rows (row ∷ []) ∙ ap (λ zs. zs ++ row.items ∷ []) h ∙ ap (λ z. map (λ (r : ReachedDirectory). r.imports) (map reached_of (take i reached)) ++ z ∷ []) same
    ∙ sym (ap (map (λ (r : ReachedDirectory). r.imports)) (mapped_next reached_of reached i d within e) ∙ map-append (λ (r : ReachedDirectory). r.imports) (map reached_of (take i reached)) (reached_of d ∷ []))

pub if_none : {A : Type 0} (o : Option A) (P : Type 0) → ((x : A) → o ≡ Some x → ⊥) → IfNone o P → P
if_none None P n h = h
if_none (Some x) P n h = absurd (n x refl)

pub if_some : {A : Type 0} (o : Option A) (P : A → Type 0) (x : A) → o ≡ Some x → IfSome o P → P x
if_some o P x e h = subst (λ z. IfSome z P) e h
