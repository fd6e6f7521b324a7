-- The summaries of imports, gathered one after another.
use Rattle.std.proofs.Common.{◌≡◌, ℕ, zero, suc, ◌+◌, ◌<◌, ◌≤◌, true, false, List, [], ◌∷◌, ◌++◌, length, take, get_or, map, Some, None, refl, sym, ap, ◌∙◌, subst, arith}
use Rattle.std.specs.Arc.{arc_value}
use Rattle.std.specs.declared.sync.Arc.{Arc}
use Rattle.std.specs.List.{All, AllZip}
use Rattle.std.proofs.lemmas.List.{map-append, take_more, take_all}
use Rattle.std.proofs.lemmas.List.Elements.{All-nil, All-cons, All-append}
use Rattle.go_code.specs.Packages.{Object}
use Rattle.go_export.specs.Summaries.{Summary}
use Rattle.go_export.specs.Writable.{IsWritten}
use Rattle.ws_action.specs.Actions.{Action, action_id, MakeAction, IsSized}
use Rattle.ws_cache.specs.Compiles.{Compiled, Compiles, Good, Faulty}
use Rattle.ws_cache.proofs.Outcomes.{one_outcome}
use Rattle.ws_board.specs.declared.work.JobStatus.{JobStatus}
use Rattle.ws_board.specs.declared.work.JobStatus.TheVariants.{Waiting, Blocked}
use Rattle.ws_board.specs.Work.{Work, Job, JobStates, acted}
use Rattle.ws_board.specs.Machine.{Holdings, action_at, any_open, JobHasSummary, MayForm, IsFormed, IsReadiness, Wait, Stop, Act, IsPlaced, HasStatus}

zip_push : (P : ℕ → Summary → Type 0) (ks : List ℕ) (ss : List Summary) (k : ℕ) (s : Summary) → AllZip P ks ss → P k s → AllZip P (ks ++ k ∷ []) (ss ++ s ∷ [])
zip_push P [] [] k s z p = (p, tt)
zip_push P [] (t ∷ ss) k s z p = absurd z
zip_push P (j ∷ ks) [] k s z p = absurd z
zip_push P (j ∷ ks) (t ∷ ss) k s z p = (z.0, zip_push P ks ss k s z.1 p)

zip_nowhere : (P : ℕ → Summary → Type 0) (ks : List ℕ) (i k : ℕ) → i < length ks → k ≡ get_or ks i 0 → ((s : Summary) → ¬ (P k s)) → (ss : List Summary) → ¬ (AllZip P ks ss)
zip_nowhere P [] i k lt is none ss z = absurd (omega (arith, lt))
zip_nowhere P (j ∷ ks) i k lt is none [] z = z
zip_nowhere P (j ∷ ks) zero k lt is none (t ∷ ss) z = none t (subst (λ (x : ℕ). P x t) (sym is) z.0)
zip_nowhere P (j ∷ ks) (suc i) k lt is none (t ∷ ss) z = zip_nowhere P ks i k (omega (arith, lt)) is none ss z.1

pub written_more : {Z : Type 0} (old new : List (Arc Summary Z)) (s t : Arc Summary Z) → arc_value t ≡ arc_value s → new ≡ old ++ t ∷ [] → All IsWritten (map arc_value old) → IsWritten (arc_value s) → All IsWritten (map arc_value new)
written_more {Z} old new s t same pushed all here =
    let mapped : map arc_value new ≡ map arc_value old ++ arc_value s ∷ [] = ap (λ (l : List (Arc Summary Z)). map arc_value l) pushed ∙ map-append arc_value old (t ∷ []) ∙ ap (λ x. map arc_value old ++ x ∷ []) same in
    subst (All IsWritten) (sym mapped) (All-append IsWritten (map arc_value old) (arc_value s ∷ []) all (All-cons IsWritten (arc_value s) [] here (All-nil IsWritten)))

module _ (h : Holdings) (now : JobStates) where
  abbrev pub Are : List ℕ → List Summary → Type 0
  Are = AllZip (JobHasSummary h now)

  pub gathered_more : {Z : Type 0} (ks : List ℕ) (i k : ℕ) (old new : List (Arc Summary Z)) (s t : Arc Summary Z) → i < length ks → k ≡ get_or ks i 0 → arc_value t ≡ arc_value s → new ≡ old ++ t ∷ []
      → Are (take i ks) (map arc_value old) → JobHasSummary h now k (arc_value s) → Are (take (i + 1) ks) (map arc_value new)
  gathered_more {Z} ks i k old new s t lt is same pushed all here =
      let taken : take (i + 1) ks ≡ take i ks ++ k ∷ [] = take_more ks i 0 lt ∙ ap (λ x. take i ks ++ x ∷ []) (sym is) in
      let mapped : map arc_value new ≡ map arc_value old ++ arc_value s ∷ [] = ap (λ (l : List (Arc Summary Z)). map arc_value l) pushed ∙ map-append arc_value old (t ∷ []) ∙ ap (λ x. map arc_value old ++ x ∷ []) same in
      subst (λ js. Are js (map arc_value new)) (sym taken) (subst (Are (take i ks ++ k ∷ [])) (sym mapped) (zip_push (JobHasSummary h now) (take i ks) (map arc_value old) k (arc_value s) all here))

  pub gathered_all : (ks : List ℕ) (i : ℕ) (ss : List Summary) → length ks ≤ i → Are (take i ks) ss → Are ks ss
  gathered_all ks i ss le all = subst (λ js. Are js ss) (take_all i ks le) all

  pub gathered_none : (ks : List ℕ) (i k : ℕ) → i < length ks → k ≡ get_or ks i 0 → ((s : Summary) → ¬ (JobHasSummary h now k s)) → (ss : List Summary) → ¬ (Are ks ss)
  gathered_none ks i k lt is none ss z = zip_nowhere (JobHasSummary h now) ks i k lt is none ss z

  -- ---- one job has one summary

  good_of : Summary → Compiled → Summary
  good_of other (Good s o) = s
  good_of other (Faulty f) = other

  one_has : (k : ℕ) (s t : Summary) → JobHasSummary h now k s → JobHasSummary h now k t → s ≡ t
  unfolding good_of
  one_has k s t g p =
      let actions : g.action ≡ p.action = (let e : Some g.action ≡ Some p.action = sym g.its ∙ p.its in cc) in
      let entries : g.entry ≡ p.entry = (let e : Some g.entry ≡ Some p.entry = sym g.is_held ∙ ap (λ a. h (action_id a)) actions ∙ p.is_held in cc) in
      let results : Good s g.object ≡ Good t p.object = one_outcome p.entry (Good s g.object) (Good t p.object) (subst (λ e. Compiles e (Good s g.object)) entries g.compiled) p.compiled in
      ap (good_of s) results

  pub one_gathered : (ks : List ℕ) (ss ts : List Summary) → Are ks ss → Are ks ts → ss ≡ ts
  one_gathered [] [] [] g p = refl
  one_gathered [] [] (t ∷ ts) g p = absurd p
  one_gathered [] (s ∷ ss) ts g p = absurd g
  one_gathered (k ∷ ks) [] ts g p = absurd g
  one_gathered (k ∷ ks) (s ∷ ss) [] g p = absurd p
  one_gathered (k ∷ ks) (s ∷ ss) (t ∷ ts) g p = ap (λ (x : Summary). x ∷ ss) (one_has k s t g.0 p.0) ∙ ap (λ (xs : List Summary). t ∷ xs) (one_gathered ks ss ts g.1 p.1)

  -- an entry that isn't good has no summary
  pub faulty_none : (k : ℕ) (a entry : Action) (r : Compiled) → action_at now.actions k ≡ Some a → h (action_id a) ≡ Some entry → Compiles entry r → ((s : Summary) (o : Object) → r ≡ Good s o → ⊥) → (s : Summary) → ¬ (JobHasSummary h now k s)
  faulty_none k a entry r its is compiles not s g =
      let actions : g.action ≡ a = (let e : Some g.action ≡ Some a = sym g.its ∙ its in cc) in
      let entries : g.entry ≡ entry = (let e : Some g.entry ≡ Some entry = sym g.is_held ∙ ap (λ z. h (action_id z)) actions ∙ is in cc) in
      not s g.object (one_outcome entry r (Good s g.object) compiles (subst (λ e. Compiles e (Good s g.object)) entries g.compiled))

  -- ---- what is formed of them

  pub forms : (work : Work) (ks : List ℕ) (ss : List Summary) (a : Action) → Are ks ss → All IsWritten ss → a ≡ acted work ss → MakeAction work.edition work.files ss → IsSized a → IsFormed h now work ks a
  forms work ks ss a are written is make sized = record { may = record { summaries = ss; have = are; make = make; is = is }; written = written; sized = sized }

  pub forms_none : (work : Work) (ks : List ℕ) (ss : List Summary) → Are ks ss → ¬ (MakeAction work.edition work.files ss) → (a : Action) → ¬ (MayForm h now work ks a)
  forms_none work ks ss are not a may = not (subst (MakeAction work.edition work.files) (one_gathered ks may.summaries ss may.have are) may.make)

  pub lacks_none : (work : Work) (ks : List ℕ) → ((ss : List Summary) → ¬ (Are ks ss)) → (a : Action) → ¬ (MayForm h now work ks a)
  lacks_none work ks none a may = none may.summaries may.have

  -- ---- how a job stands by them

  module _ (job : Job) (work : Work) (its : Some work ≡ job.work) where
    pub stands_open : (ks : List ℕ) → ks ≡ job.imports → true ≡ any_open now ks → HasStatus h now (Some job) Waiting None
    stands_open ks is e = (Wait, subst (λ o. IsReadiness h now o job.imports Wait) its (ap (any_open now) (sym is) ∙ sym e), (refl, refl))

    pub stands_stop : (ks ls : List ℕ) → ks ≡ job.imports → false ≡ any_open now ks → ls ≡ job.imports → ((a : Action) → ¬ (MayForm h now work ls a)) → HasStatus h now (Some job) Blocked None
    stands_stop ks ls is e again none =
        let verdict : IsReadiness h now (Some work) job.imports Stop = (ap (any_open now) (sym is) ∙ sym e, subst (λ l. (a : Action) → ¬ (MayForm h now work l a)) again none) in
        (Stop, subst (λ o. IsReadiness h now o job.imports Stop) its verdict, (refl, refl))

    pub stands_act : (ls : List ℕ) (a : Action) (id : List ℕ) (status : JobStatus) → ls ≡ job.imports → IsFormed h now work ls a → id ≡ action_id a → IsPlaced (h id) status → HasStatus h now (Some job) status (Some a)
    stands_act ls a id status is formed same placed =
        (Act a, subst (λ o. IsReadiness h now o job.imports (Act a)) its (subst (λ l. IsFormed h now work l a) is formed), (subst (λ i. IsPlaced (h i) status) same placed, refl))
