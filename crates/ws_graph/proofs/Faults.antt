-- The fault of a directory's imports, by the numbers of what is imported.
use Rattle.std.proofs.Common.{◌≡◌, ℕ, Bool, true, List, [], ◌∷◌, ◌++◌, Option, Some, None, refl, sym, ap, ◌∙◌, subst, inl, inr}
use Rattle.std.specs.Prelude.{string_bytes}
use Rattle.std.specs.List.{AllZip, slice_get}
use Rattle.std.specs.List.Sorted.{IsStrictlySortedBy}
use Rattle.go_text.specs.declared.edition.Edition.{Edition}
use Rattle.go_text.specs.Faults.{Fault}
use Rattle.go_text.specs.declared.fault.FaultKind.{FaultKind}
use Rattle.go_text.specs.declared.fault.FaultKind.TheVariants.{NoImport, Cycle, Program}
use Rattle.ws_version.specs.Writes.{path_cmp}
use Rattle.ws_version.proofs.Writes.{path_cmp_total}
use Rattle.ws_reach.specs.Reach.{Edge, Reaches, Walks}
use Rattle.ws_reach.proofs.Reached.{get_contains}
use Rattle.ws_reach.proofs.Closure.{IsOneOf}
use Rattle.ws_graph.specs.BuildPlan as plan
use Rattle.ws_graph.specs.BuildPlan.{Sources, Import, HasImports, HasImport, HasNone, IsAtFirst, HasNoFiles, LeadsBack, IsMainPackage, IsImportFault, ImportsAreSound}
use Rattle.ws_graph.specs.Discovery.{IsTarget, AreTargets, ImportLeads, HasFault, NoneHas, IsFirst, IsFaultAt, of_missing, of_cycle, of_program, target_fault, TargetFault}
use Rattle.ws_graph.specs.declared.target.Target.{Target}
use Rattle.ws_graph.proofs.Filed.{has_files}
use Rattle.ws_graph.proofs.Leading.{zip_to, lead_paths, lead_numbers, IsClosed, HasImported, number_cases, number_at}
use Rattle.ws_graph.proofs.Sorted.{one_of, contained, one_place}

-- an import and its target: they stand at one place, and P of the path is Q of the number
pub record Agree (P : List ℕ → Type 0) (Q : Option ℕ → Type 0) (i : Import) (t : Target) : Type 0 where
  pub file : string_bytes t.file ≡ i.file
  pub place : t.place ≡ i.spec.place
  pub to : P i.spec.path → Q t.number
  pub back : Q t.number → P i.spec.path

zip_turn : {A B : Type 0} (R S : A → B → Type 0) (xs : List A) (ys : List B) → ((x : A) (y : B) → IsOneOf x xs → IsOneOf y ys → R x y → S x y) → AllZip R xs ys → AllZip S xs ys
zip_turn R S [] [] turn z = tt
zip_turn R S [] (y ∷ ys) turn z = absurd z
zip_turn R S (x ∷ xs) [] turn z = absurd z
zip_turn R S (x ∷ xs) (y ∷ ys) turn z = (turn x y (inl refl) (inl refl) z.0, zip_turn R S xs ys (λ a b c d. turn a b (inr c) (inr d)) z.1)

none_moved : (P : List ℕ → Type 0) (Q : Option ℕ → Type 0) (imports : List Import) (targets : List Target) → AllZip (Agree P Q) imports targets → NoneHas Q targets → HasNone P imports
none_moved P Q imports targets z none i c h =
    let t = zip_to (Agree P Q) imports targets z i (one_of imports i c) in none t.0 (contained targets t.0 t.1) (t.2.to h)

record Split (R : Import → Target → Type 0) (imports : List Import) (front : List Target) (target : Target) : Type 0 where
  before : List Import
  import : Import
  rest : List Import
  whole : imports ≡ before ++ import ∷ rest
  zip : AllZip R before front
  here : R import target

split : (R : Import → Target → Type 0) (imports : List Import) (front : List Target) (target : Target) (rest : List Target) → AllZip R imports (front ++ target ∷ rest) → Split R imports front target
split R [] [] target rest z = absurd z
split R [] (t ∷ front) target rest z = absurd z
split R (i ∷ is) [] target rest z = record { before = []; import = i; rest = is; whole = refl; zip = tt; here = z.0 }
split R (i ∷ is) (t ∷ front) target rest z =
    let h = split R is front target rest z.1 in
    record { before = i ∷ h.before; import = h.import; rest = h.rest; whole = ap (λ (l : List Import). i ∷ l) h.whole; zip = (z.0, h.zip); here = h.here }

first_moved : (P : List ℕ → Type 0) (Q : Option ℕ → Type 0) (imports : List Import) (targets : List Target) (kind : FaultKind) (target : Target) (fault : Fault) → AllZip (Agree P Q) imports targets → IsFirst Q targets target → fault ≡ target_fault target kind → IsAtFirst P imports kind fault
first_moved P Q imports targets kind target fault z first is =
    let s = split (Agree P Q) imports first.front target first.rest (subst (AllZip (Agree P Q) imports) first.whole z) in
    let here = s.here in
    record {
      front = s.before;
      import = s.import;
      rest = s.rest;
      whole = s.whole;
      before = none_moved P Q s.before first.front s.zip first.before;
      holds = here.back first.holds;
      is = is ∙ (λ i. record { file = here.file i; place = here.place i; kind = kind });
    }

-- what the three kinds are, of a directory's imports and their targets
pub record AllAgree (ed : Edition) (sources : Sources) (path : List ℕ) (closing : List (List ℕ)) (programs : List Bool) (here : ℕ) (imports : List Import) (targets : List Target) : Type 0 where
  pub missing : AllZip (Agree (HasNoFiles sources) (HasFault closing programs here NoImport)) imports targets
  pub cycle : NoneHas (HasFault closing programs here NoImport) targets → AllZip (Agree (LeadsBack ed sources path) (HasFault closing programs here Cycle)) imports targets
  pub program : NoneHas (HasFault closing programs here NoImport) targets → AllZip (Agree (IsMainPackage ed sources) (HasFault closing programs here Program)) imports targets

module _ (ed : Edition) (sources : Sources) (path : List ℕ) (closing : List (List ℕ)) (programs : List Bool) (here : ℕ) (imports : List Import) (targets : List Target) (all : AllAgree ed sources path closing programs here imports targets) where
  pub fault_moved : (target : Target) (fault : Fault) → IsFaultAt closing programs here targets target fault → IsImportFault ed sources path imports fault
  fault_moved target fault (of_missing first is) = plan.of_missing (first_moved (HasNoFiles sources) (HasFault closing programs here NoImport) imports targets NoImport target fault all.missing first is)
  fault_moved target fault (of_cycle n first is) = plan.of_cycle
      (none_moved (HasNoFiles sources) (HasFault closing programs here NoImport) imports targets all.missing n)
      (first_moved (LeadsBack ed sources path) (HasFault closing programs here Cycle) imports targets Cycle target fault (all.cycle n) first is)
  fault_moved target fault (of_program n m first is) = plan.of_program
      (none_moved (HasNoFiles sources) (HasFault closing programs here NoImport) imports targets all.missing n)
      (none_moved (LeadsBack ed sources path) (HasFault closing programs here Cycle) imports targets (all.cycle n) m)
      (first_moved (IsMainPackage ed sources) (HasFault closing programs here Program) imports targets Program target fault (all.program n) first is)

  pub sound_moved : HasImports ed sources path imports → TargetFault closing programs here targets None → ImportsAreSound ed sources path
  sound_moved has (n, m, l) = record {
    imports = imports;
    has = has;
    none_missing = none_moved (HasNoFiles sources) (HasFault closing programs here NoImport) imports targets all.missing n;
    none_leads_back = none_moved (LeadsBack ed sources path) (HasFault closing programs here Cycle) imports targets (all.cycle n) m;
    none_program = none_moved (IsMainPackage ed sources) (HasFault closing programs here Program) imports targets (all.program n) l;
  }

-- ---- that they agree

reaches_turn : {A : Type 0} (E F : A → A → Type 0) → ((p q : A) → E p q → F p q) → (steps : List A) (p q : A) → Walks E p steps q → Walks F p steps q
reaches_turn E F turn [] p q w = w
reaches_turn E F turn (r ∷ rs) p q (first, rest) = (turn p r first, reaches_turn E F turn rs r q rest)

same_number : (m n : ℕ) (o : Option ℕ) → o ≡ Some m → o ≡ Some n → m ≡ n
same_number m n o e f = let both : Some m ≡ Some n = sym e ∙ f in cc

-- all that is known of the directories by number
pub record Numbered (ed : Edition) (sources : Sources) (paths : List (List ℕ)) (rows closing : List (List ℕ)) (programs : List Bool) : Type 0 where
  pub sorted : IsStrictlySortedBy path_cmp paths
  pub closed : IsClosed ed sources paths
  pub rows_lead : (p q : ℕ) → Edge rows p q → ImportLeads ed sources paths p q
  pub lead_rows : (p q : ℕ) → ImportLeads ed sources paths p q → Edge rows p q
  pub closing_from : (q p : ℕ) → Edge closing q p → Edge rows p q × Reaches (Edge rows) q p
  pub closing_to : (q p : ℕ) → Edge rows p q → Reaches (Edge rows) q p → Edge closing q p
  pub program_from : (k : ℕ) (q : List ℕ) → slice_get paths k ≡ Some q → slice_get programs k ≡ Some true → IsMainPackage ed sources q
  pub program_to : (k : ℕ) (q : List ℕ) → slice_get paths k ≡ Some q → IsMainPackage ed sources q → slice_get programs k ≡ Some true

module _ (ed : Edition) (sources : Sources) (paths : List (List ℕ)) (rows closing : List (List ℕ)) (programs : List Bool) (known : Numbered ed sources paths rows closing programs) (path : List ℕ) (here : ℕ) (at : slice_get paths here ≡ Some path) (of : HasImported ed sources paths path)
    (imports : List Import) (targets : List Target) (has : HasImports ed sources path imports) (zip : AreTargets paths imports targets) where
  import_of : (i : Import) → IsOneOf i imports → HasImport ed sources path i.spec.path
  import_of i one = record { imports = imports; has = has; import = i; among = contained imports i one; path = refl }

  missing_agrees : (i : Import) (t : Target) → IsOneOf i imports → IsOneOf t targets → IsTarget paths i t → Agree (HasNoFiles sources) (HasFault closing programs here NoImport) i t
  missing_agrees i t in_imports in_targets h = record {
    file = h.file;
    place = h.place;
    to = λ none. elim (number_cases paths i.spec.path t.number h.number) [
      | inl n ↦ n.0
      | inr some ↦ absurd (of.filed i.spec.path (import_of i in_imports) (get_contains paths some.0 i.spec.path some.2) none)
    ];
    back = λ e. elim (has_files sources i.spec.path) [
      | inl none ↦ none
      | inr files ↦ elim (number_cases paths i.spec.path t.number h.number) [
        | inl n ↦ absurd (n.1 (of.listed i.spec.path (import_of i in_imports) files))
        | inr some ↦ absurd (let z : None ≡ Some some.0 = sym e ∙ some.1 in cc (z))
      ]
    ];
  }

  cycle_agrees : NoneHas (HasFault closing programs here NoImport) targets → (i : Import) (t : Target) → IsOneOf i imports → IsOneOf t targets → IsTarget paths i t → Agree (LeadsBack ed sources path) (HasFault closing programs here Cycle) i t
  cycle_agrees none i t in_imports in_targets h = record {
    file = h.file;
    place = h.place;
    to = λ back. elim (number_cases paths i.spec.path t.number h.number) [
      | inl n ↦ absurd (none t (contained targets t in_targets) n.0)
      | inr some ↦ (
          let there = lead_numbers ed sources paths known.closed back.0 some.0 i.spec.path path back.1 some.2 in
          let place = one_place path_cmp path_cmp_total paths known.sorted path there.0 here there.1 at in
          let way : Reaches (ImportLeads ed sources paths) some.0 here = subst (Reaches (ImportLeads ed sources paths) some.0) place there.2 in
          let lead : ImportLeads ed sources paths here some.0 = record { from = path; to = i.spec.path; at_from = at; at_to = some.2; imports = record { import = import_of i in_imports; files = of.filed i.spec.path (import_of i in_imports) (get_contains paths some.0 i.spec.path some.2) } } in
          (some.0, some.1, known.closing_to some.0 here (known.lead_rows here some.0 lead) (way.0, reaches_turn (ImportLeads ed sources paths) (Edge rows) known.lead_rows way.0 some.0 here way.1)))
    ];
    back = λ closes. (
        let way = (known.closing_from closes.0 here closes.2).1 in
        lead_paths ed sources paths way.0 closes.0 here i.spec.path path (reaches_turn (Edge rows) (ImportLeads ed sources paths) known.rows_lead way.0 closes.0 here way.1) (number_at paths i.spec.path t.number closes.0 h.number closes.1) at);
  }

  program_agrees : NoneHas (HasFault closing programs here NoImport) targets → (i : Import) (t : Target) → IsOneOf i imports → IsOneOf t targets → IsTarget paths i t → Agree (IsMainPackage ed sources) (HasFault closing programs here Program) i t
  program_agrees none i t in_imports in_targets h = record {
    file = h.file;
    place = h.place;
    to = λ program. elim (number_cases paths i.spec.path t.number h.number) [
      | inl n ↦ absurd (none t (contained targets t in_targets) n.0)
      | inr some ↦ (some.0, some.1, known.program_to some.0 i.spec.path some.2 program)
    ];
    back = λ is. known.program_from is.0 i.spec.path (number_at paths i.spec.path t.number is.0 h.number is.1) is.2;
  }

  pub all_agree : AllAgree ed sources path closing programs here imports targets
  all_agree = record {
    missing = zip_turn (IsTarget paths) (Agree (HasNoFiles sources) (HasFault closing programs here NoImport)) imports targets missing_agrees zip;
    cycle = λ none. zip_turn (IsTarget paths) (Agree (LeadsBack ed sources path) (HasFault closing programs here Cycle)) imports targets (cycle_agrees none) zip;
    program = λ none. zip_turn (IsTarget paths) (Agree (IsMainPackage ed sources) (HasFault closing programs here Program)) imports targets (program_agrees none) zip;
  }
