-- A report of good directories alone is one of good fates alone.
use Rattle.std.proofs.Common.{◌≡◌, ℕ, Bool, true, false, List, [], ◌∷◌, map, zip, refl, ap}
use Rattle.std.specs.Prelude.{◌&&◌, String}
use Rattle.std.specs.Global.{Global}
use Rattle.std.specs.List.{All, AllZip, list_all}
use Rattle.std.proofs.lemmas.List.Elements.{All-nil, All-cons, All-head, All-tail}
use Rattle.std.proofs.lemmas.Bool.{and_from}
use Rattle.ws_graph.specs.BuildPlan.{Directory}
use Rattle.ws_report.specs.Reports.{DirectoryVerdict, verdict_model, is_good, row, verdict_rows}
use Rattle.ws_report.specs.declared.Verdict.{Verdict as RustVerdict}
use Rattle.ws_report.specs.declared.Verdict.TheVariants as rust
use Rattle.ws_replica.specs.Programs.{IsGood}
use Rattle.ws_replica.specs.Reports.{DirectoryOutcome, Stopped, Blocked, Wrong, Good, IsDirectoryOutcome, verdict_of_outcome}

first_of_both : (a b : Bool) → (a && b) ≡ true → a ≡ true
first_of_both true b e = refl
first_of_both false b e = cc (e)

second_of_both : (a b : Bool) → (a && b) ≡ true → b ≡ true
second_of_both true b e = e
second_of_both false b e = cc (e)

abbrev pub Row : Type 0
Row = String Global × RustVerdict

abbrev pub good_row : Row → Bool
good_row d = is_good d.1

abbrev pub told_row : Directory × DirectoryOutcome → List ℕ × DirectoryVerdict
told_row x = (x.0.path, verdict_of_outcome x.1)

good_fate : (v : RustVerdict) (fate : DirectoryOutcome) → verdict_model v ≡ verdict_of_outcome fate → is_good v ≡ true → IsGood fate
good_fate rust.Good (Stopped fault) e g = absurd (cc (e))
good_fate rust.Good Blocked e g = absurd (cc (e))
good_fate rust.Good (Wrong fault) e g = absurd (cc (e))
good_fate rust.Good (Good typed) e g = (typed, refl)
good_fate rust.Blocked fate e g = absurd (cc (g))
good_fate (rust.Faulty fault) fate e g = absurd (cc (g))

good_verdict : (v : RustVerdict) (fate : DirectoryOutcome) → verdict_model v ≡ verdict_of_outcome fate → IsGood fate → is_good v ≡ true
good_verdict rust.Good fate e g = refl
good_verdict rust.Blocked fate e (typed, same) = absurd (cc (e, same))
good_verdict (rust.Faulty fault) fate e (typed, same) = absurd (cc (e, same))

abbrev Told : Type 0
Told = List ℕ × DirectoryVerdict

head_is : (x y : Told) (xs ys : List Told) → x ∷ xs ≡ y ∷ ys → x ≡ y
head_is x y xs ys e = cc (e)

tail_is : (x y : Told) (xs ys : List Told) → x ∷ xs ≡ y ∷ ys → xs ≡ ys
tail_is x y xs ys e = cc (e)

verdict_is : (r : Row) (d : Directory) (f : DirectoryOutcome) (xs ys : List Told) → row r ∷ xs ≡ told_row (d, f) ∷ ys → verdict_model r.1 ≡ verdict_of_outcome f
verdict_is r d f xs ys e = ap (λ (x : Told). x.1) (head_is (row r) (told_row (d, f)) xs ys e)

module _ (fs : List DirectoryOutcome) where
  pub good_fates : (ds : List Directory) (fates : List DirectoryOutcome) (rs : List Row) → AllZip (IsDirectoryOutcome fs) ds fates → verdict_rows rs ≡ map told_row (zip ds fates) → list_all good_row rs ≡ true → All IsGood fates
  good_fates [] [] rs are e g = All-nil IsGood
  good_fates [] (f ∷ fates) rs are e g = absurd are
  good_fates (d ∷ ds) [] rs are e g = absurd are
  good_fates (d ∷ ds) (f ∷ fates) [] are e g = absurd (cc (e))
  good_fates (d ∷ ds) (f ∷ fates) (r ∷ rs) are e g =
      let here : verdict_model r.1 ≡ verdict_of_outcome f = verdict_is r d f (verdict_rows rs) (map told_row (zip ds fates)) e in
      let rest : verdict_rows rs ≡ map told_row (zip ds fates) = tail_is (row r) (told_row (d, f)) (verdict_rows rs) (map told_row (zip ds fates)) e in
      All-cons IsGood f fates (good_fate r.1 f here (first_of_both (good_row r) (list_all good_row rs) g)) (good_fates ds fates rs are.1 rest (second_of_both (good_row r) (list_all good_row rs) g))

  pub good_rows : (ds : List Directory) (fates : List DirectoryOutcome) (rs : List Row) → AllZip (IsDirectoryOutcome fs) ds fates → verdict_rows rs ≡ map told_row (zip ds fates) → All IsGood fates → list_all good_row rs ≡ true
  good_rows ds fates [] are e g = refl
  good_rows [] [] (r ∷ rs) are e g = absurd (cc (e))
  good_rows [] (f ∷ fates) (r ∷ rs) are e g = absurd are
  good_rows (d ∷ ds) [] (r ∷ rs) are e g = absurd are
  good_rows (d ∷ ds) (f ∷ fates) (r ∷ rs) are e g =
      let here : verdict_model r.1 ≡ verdict_of_outcome f = verdict_is r d f (verdict_rows rs) (map told_row (zip ds fates)) e in
      let rest : verdict_rows rs ≡ map told_row (zip ds fates) = tail_is (row r) (told_row (d, f)) (verdict_rows rs) (map told_row (zip ds fates)) e in
      and_from (good_row r) (list_all good_row rs) (good_verdict r.1 f here (All-head IsGood f fates g)) (good_rows ds fates rs are.1 rest (All-tail IsGood f fates g))
