-- Rows of numbers stay among the directories.
use Rattle.std.proofs.Common.{◌≡◌, ◌<◌, ℕ, List, [], ◌∷◌, length, subst, arith}
use Rattle.std.specs.Prelude.{String}
use Rattle.std.specs.Global.{Global, Vec}
use Rattle.std.specs.List.{AllZip, Contains}
use Rattle.std.proofs.lemmas.Option.{slice_get_within}
use Rattle.ws_reach.specs.Reach.{EdgesStayWithin, rows_of}
use Rattle.ws_reach.proofs.Rows.{length-rows}
use Rattle.ws_graph.specs.Plan.{Planned, NoFiles, Faulty, Sound}
use Rattle.ws_graph.specs.Node.{planned_of}
use Rattle.ws_graph.specs.Discovery.{AreTargetsOf, AreNumbersOf, IsTarget, HasNumber, string_texts}
use Rattle.ws_graph.specs.declared.target.Target.{Target}
use Rattle.ws_graph.specs.declared.wave.Found.{Found}
use Rattle.ws_graph.proofs.Leading.{zip_from, number_at, no_number}
use Rattle.ws_graph.proofs.Linked.{zip_right, zip_length, map_left}
use Rattle.ws_graph.proofs.Sorted.{one_of}

pub length-texts : (all : List (String Global)) → length (string_texts all) ≡ length all
length-texts [] = omega arith
length-texts (x ∷ xs) = omega (arith, length-texts xs)

pub number_within : (all : List (List ℕ)) (planned : Planned) (targets : List Target) (k : ℕ) → AreTargetsOf all planned targets → HasNumber targets k → k < length all
number_within all NoFiles targets k are h = absurd (no_number targets k are h)
number_within all (Faulty f) targets k are h = absurd (no_number targets k are h)
number_within all (Sound parsed) targets k are (t, c, n) =
    let i = zip_from (IsTarget all) are.imports targets are.targets_are t (one_of targets t c) in
    slice_get_within all k i.0.spec.path (number_at all i.0.spec.path t.number k i.2.number n)

pub rows_within : (paths : List (String Global)) (founds : List Found) (targets : List (Vec Target)) (rows : List (Vec ℕ)) → length paths ≡ length founds → AllZip (λ found ts. AreTargetsOf (string_texts paths) (planned_of found.node) ts.items) founds targets → AllZip AreNumbersOf targets rows → EdgesStayWithin (rows_of rows)
rows_within paths founds targets rows same are numbers p q (row, at, c) =
    let v = map_left (λ (x : Vec ℕ). x.items) rows p row at in
    let ts = zip_right AreNumbersOf targets rows numbers p v.0 v.1 in
    let f = zip_right (λ (found : Found) (ts : Vec Target). AreTargetsOf (string_texts paths) (planned_of found.node) ts.items) founds targets are p ts.0 ts.1 in
    let lt = number_within (string_texts paths) (planned_of f.0.node) ts.0.items q f.2 ((ts.2.are q).0 (subst (λ (l : List ℕ). Contains l q) v.2 c)) in
    omega (arith, lt, length-texts paths, same, zip_length (λ (found : Found) (ts : Vec Target). AreTargetsOf (string_texts paths) (planned_of found.node) ts.items) founds targets are, zip_length AreNumbersOf targets rows numbers, length-rows rows)
