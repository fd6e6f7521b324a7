-- The steps of the loops over parts.
use Rattle.std.proofs.Common.{◌≡◌, ◌+◌, ◌<◌, ◌≤◌, ℕ, zero, suc, List, [], ◌∷◌, ◌++◌, map, length, take, get_or, Option, Some, None, refl, sym, ap, subst, ◌∙◌, append-nil, arith}
use Rattle.std.specs.Prelude.{Vec, String}
use Rattle.std.specs.List.{All, AllZip, cons_option, filter_map, slice_get}
use Rattle.std.specs.Global.{Global}
use Rattle.std.proofs.lemmas.List.{take_more, map-append, length-map}
use Rattle.std.proofs.lemmas.List.Elements.{filter_map-append}
use Rattle.ws_report.specs.declared.Report.{Report}
use Rattle.ws_reach.specs.Reach.{rows_of}
use Rattle.ws_action.specs.Actions.{Action}
use Rattle.ws_report.specs.Reports.{DirectoryVerdict, row, verdict_rows}
use Rattle.ws_report.specs.declared.Verdict.{Verdict as RustVerdict}
use Rattle.ws_replica.specs.Jobs.{Place, ReachedDirectory, reached_of, all_reached_of, AllAreVerdicts}
use Rattle.ws_replica.specs.Jobs.{report_rows as report_rows}
use Rattle.ws_replica.specs.declared.building.Target.{Target}
use Rattle.ws_replica.specs.Parts.{target_part, reached_rows, all_rows_of, IsReportPart}
use Rattle.ws_replica.specs.declared.parts.Part.{Part as RustPart}
use Rattle.ws_replica.specs.declared.reached.Reached.{Reached as RustReached}
use Rattle.ws_replica.proofs.Steps.{mapped_next}
use Rattle.ws_replica.proofs.TargetSteps.{zip_push}

-- one more of what numbers pick
pub picked_next : {A : Type 0} (pick : ℕ → Option A) (numbers : List ℕ) (i : ℕ) (old new : List A) → i < length numbers → new ≡ old ++ filter_map pick (get_or numbers i 0 ∷ []) → old ≡ filter_map pick (take i numbers) → new ≡ filter_map pick (take (i + 1) numbers)
picked_next pick numbers i old new within more h =
    more ∙ ap (λ zs. zs ++ filter_map pick (get_or numbers i 0 ∷ [])) h
    ∙ sym (ap (filter_map pick) (take_more numbers i 0 within) ∙ filter_map-append pick (take i numbers) (get_or numbers i 0 ∷ []))

-- a number without a row
pub row_none : {A : Type 0} (pick : ℕ → Option A) (n : ℕ) (old : List A) → pick n ≡ None → old ≡ old ++ filter_map pick (n ∷ [])
row_none pick n old none = sym (append-nil old) ∙ ap (λ o. old ++ cons_option o []) (sym none)

pub row_some : {A : Type 0} (pick : ℕ → Option A) (n : ℕ) (x : A) (old new : List A) → pick n ≡ Some x → new ≡ old ++ x ∷ [] → new ≡ old ++ filter_map pick (n ∷ [])
row_some pick n x old new some more = more ∙ ap (λ o. old ++ cons_option o []) (sym some)

-- past the last row there is none
past_all : {A : Type 0} (xs : List A) (k : ℕ) → length xs ≤ k → slice_get xs k ≡ None
past_all [] k le = refl
past_all (x ∷ xs) zero le = absurd (omega (arith, le))
past_all (x ∷ xs) (suc k) le = past_all xs k (omega (arith, le))

pub rows_past : (told : List (String Global × RustVerdict)) (k : ℕ) → length told ≤ k → slice_get (verdict_rows told) k ≡ None
rows_past told k le = past_all (verdict_rows told) k (omega (arith, le, length-map told row))

-- one more report
pub reports_next : (told : List Report) (parts : List RustPart) (i : ℕ) (d : RustPart) (done new : List Report) (x : Report) → i < length parts → d ≡ get_or parts i d → new ≡ done ++ x ∷ [] → IsReportPart told (target_part d) x
    → AllZip (IsReportPart told) (map target_part (take i parts)) done → AllZip (IsReportPart told) (map target_part (take (i + 1) parts)) new
reports_next told parts i d done new x within e push is h =
    subst (λ ps. AllZip (IsReportPart told) ps new) (sym (mapped_next target_part parts i d within e))
    (subst (AllZip (IsReportPart told) (map target_part (take i parts) ++ target_part d ∷ [])) (sym push) (zip_push (IsReportPart told) (map target_part (take i parts)) done (target_part d) x h is))

-- one more replica's rows
pub rows_next : (all : List (Vec RustReached Global)) (i : ℕ) (d : Vec RustReached Global) (done new : List (Vec (Vec ℕ Global) Global)) (x : Vec (Vec ℕ Global) Global) → i < length all → d ≡ get_or all i d → new ≡ done ++ x ∷ [] → rows_of x.items ≡ reached_rows (map reached_of d.items)
    → all_rows_of done ≡ map reached_rows (all_reached_of (take i all)) → all_rows_of new ≡ map reached_rows (all_reached_of (take (i + 1) all))
rows_next all i d done new x within e push is h =
    ap all_rows_of push ∙ map-append (λ (rows : Vec (Vec ℕ Global) Global). rows_of rows.items) done (x ∷ []) ∙ ap (λ zs. zs ++ rows_of x.items ∷ []) h ∙ ap (λ z. map reached_rows (all_reached_of (take i all)) ++ z ∷ []) is
    ∙ sym (ap (map reached_rows) (mapped_next (λ (v : Vec RustReached Global). map reached_of v.items) all i d within e) ∙ map-append reached_rows (all_reached_of (take i all)) (map reached_of d.items ∷ []))

-- ---- reports

told_length : (result : ℕ → Option Action) (n : ℕ) (ps : List (List Place)) (rows : List (List (List ℕ × DirectoryVerdict))) → AllAreVerdicts result n ps rows → length rows ≡ length ps
told_length result n [] [] h = refl
told_length result n [] (r ∷ rows) h = absurd h
told_length result n (p ∷ ps) [] h = absurd h
told_length result n (p ∷ ps) (r ∷ rows) h = ap suc (told_length result (n + length p) ps rows h.1)

-- there are as many reports as replicas
pub run_length : (result : ℕ → Option Action) (all : List (Vec RustReached Global)) (told : List Report) → AllAreVerdicts result 0 (map (λ reached. map (λ (r : ReachedDirectory). r.place) reached) (all_reached_of all)) (map report_rows told) → length all ≡ length told
run_length result all told h =
    sym (length-map all (λ (v : Vec RustReached Global). map reached_of v.items)) ∙ sym (length-map (all_reached_of all) (λ (reached : List ReachedDirectory). map (λ (r : ReachedDirectory). r.place) reached))
    ∙ sym (told_length result 0 (map (λ reached. map (λ (r : ReachedDirectory). r.place) reached) (all_reached_of all)) (map report_rows told) h) ∙ length-map told report_rows

pub named_within : (targets : List Target) (m n : ℕ) → m ≡ n → All (λ t. t.replica < m) targets → All (λ t. t.replica < n) targets
named_within targets m n e h = subst (λ k. All (λ t. t.replica < k) targets) e h
