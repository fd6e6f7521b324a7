-- What the reports of targets print, one after another.
use Rattle.std.proofs.Common.{◌≡◌, ℕ, suc, ◌+◌, ◌<◌, List, [], ◌∷◌, ◌++◌, map, zip, length, drop, get_or, min, refl, sym, ap, ◌∙◌, add-one, drop-cons, append_assoc, arith, inl, inr}
use Rattle.std.specs.List.{flat_map}
use Rattle.std.proofs.lemmas.Bool.{cases_lt}
use Rattle.std.proofs.lemmas.List.{drop_all}
use Rattle.ws_replica.specs.Builds.{target_of}
use Rattle.ws_replica.specs.declared.building.Target.{Target}
use Rattle.ws_report.specs.declared.Report.{Report}
use Rattle.ws_session.specs.declared.replicas.SessionReplica.{SessionReplica}
use Rattle.ws_session.specs.Representation.{target_words, report_line}

abbrev pub lines : List SessionReplica → List Target → List Report → List ℕ
lines ns targets reports = flat_map report_line (zip (map (target_words ns) (map target_of targets)) reports)

next_of : {X : Type 0} (xs : List X) (k : ℕ) (x : X) → k < length xs → x ≡ get_or xs k x → drop k xs ≡ x ∷ drop (k + 1) xs
next_of xs k x inside is = rw (add-one, drop-cons xs k x) (ap (λ m. m ∷ drop (suc k) xs) (sym is))

pub lines_next : (ns : List SessionReplica) (targets : List Target) (reports : List Report) (k : ℕ) (t : Target) (r : Report) → k < length targets → k < length reports → t ≡ get_or targets k t → r ≡ get_or reports k r
    → lines ns (drop k targets) (drop k reports) ≡ report_line (target_words ns (target_of t), r) ++ lines ns (drop (k + 1) targets) (drop (k + 1) reports)
lines_next ns targets reports k t r inside within is at =
    ap (λ ts. lines ns ts (drop k reports)) (next_of targets k t inside is) ∙ ap (lines ns (t ∷ drop (k + 1) targets)) (next_of reports k r within at)

no_targets : (ns : List SessionReplica) (targets : List Target) → lines ns targets [] ≡ []
no_targets ns [] = refl
no_targets ns (t ∷ targets) = refl

pub lines_end : (ns : List SessionReplica) (targets : List Target) (reports : List Report) (k : ℕ) → k ≡ min (length targets) (length reports) → lines ns (drop k targets) (drop k reports) ≡ []
lines_end ns targets reports k e = elim (cases_lt (length targets) (length reports)) [
  | inl lt ↦ ap (λ ts. lines ns ts (drop k reports)) (drop_all k targets (omega (arith, e, lt)))
  | inr le ↦ ap (lines ns (drop k targets)) (drop_all k reports (omega (arith, e, le))) ∙ no_targets ns (drop k targets)
]

-- one report more
pub told_more : (old new part left rest all : List ℕ) → new ≡ old ++ part → left ≡ part ++ rest → old ++ left ≡ all → new ++ rest ≡ all
told_more old new part left rest all grown next before = ap (λ l. l ++ rest) grown ∙ append_assoc old part rest ∙ ap (λ l. old ++ l) (sym next) ∙ before
