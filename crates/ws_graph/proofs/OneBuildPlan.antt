-- A target has one plan, and writes with the same members one.
use Rattle.std.proofs.Common.{◌≡◌, ℕ, List, [], ◌∷◌, ◌++◌, refl, sym, ap, ◌∙◌, subst, inl, inr, arith}
use Rattle.std.specs.List.{Contains}
use Rattle.std.specs.Ordering.{nat_cmp}
use Rattle.std.specs.Cmp.{nat_cmp_total}
use Rattle.std.proofs.lemmas.List.Elements.{Contains-append_right}
use Rattle.std.proofs.lemmas.Map.Keys.{sorted_from_strictly_increasing}
use Rattle.go_text.specs.declared.edition.Edition.{Edition}
use Rattle.go_text.specs.Faults.{Fault}
use Rattle.go_text.specs.declared.fault.FaultKind.{FaultKind}
use Rattle.go_ast.specs.Trees.{File}
use Rattle.go_ast.specs.Parse.{Parsed}
use Rattle.ws_version.specs.Writes.{Write, path_cmp}
use Rattle.ws_version.proofs.Writes.{path_cmp_total}
use Rattle.ws_map.specs.Kept.{SameMembers}
use Rattle.ws_register.proofs.Laws.{same_sources}
use Rattle.ws_graph.specs.Packages.{package_files}
use Rattle.ws_graph.specs.Plan.{Planned, NoFiles, Faulty, Sound, IsPlan}
use Rattle.ws_graph.specs.BuildPlan.{Sources, Import, directory_imports, AreDirectoryImports, HasImports, HasNone, IsAtFirst, HasNoFiles, LeadsBack, IsMainPackage, IsImportFault, of_missing, of_cycle, of_program, ImportFault, ImportsAreSound, IsPlannedAs, Directory, paths_of, AreNumbers, IsBuildPlan, IsBuildPlanOf}
use Rattle.ws_graph.proofs.OnePlan.{one_file, one_plan}
use Rattle.ws_graph.proofs.Sorted.{one_sorted}

-- ---- imports

pub one_imports : (ps : List Parsed) (is js : List Import) → AreDirectoryImports ps is → AreDirectoryImports ps js → is ≡ js
one_imports [] is js g h = g ∙ sym h
one_imports (p ∷ ps) is js g h =
    let files : g.0 ≡ h.0 = one_file p.edition p.text g.0 h.0 g.2 h.2 in
    let rests : g.1 ≡ h.1 = one_imports ps g.1 h.1 g.3 h.3 in
    g.4 ∙ ap (λ (x : File). directory_imports p.name x.imports ++ g.1) files ∙ ap (λ l. directory_imports p.name h.0.imports ++ l) rests ∙ sym h.4

pub same_imports : (ed : Edition) (sources : Sources) (path : List ℕ) (is js : List Import) → HasImports ed sources path is → HasImports ed sources path js → is ≡ js
same_imports ed sources path is js g h =
    let plans : Sound g.parsed ≡ Sound h.parsed = one_plan ed (package_files path sources) (Sound g.parsed) (Sound h.parsed) g.sound h.sound in
    let parsed : g.parsed ≡ h.parsed = cc in
    one_imports h.parsed is js (subst (λ ps. AreDirectoryImports ps is) parsed g.are) h.are

-- ---- faults of imports

import_of_whole : (front : List Import) (import : Import) (rest : List Import) → Contains (front ++ import ∷ rest) import
import_of_whole front import rest = Contains-append_right front (import ∷ rest) import (0, omega arith, refl)

pub among_whole : (P : List ℕ → Type 0) (imports : List Import) (kind : FaultKind) (fault : Fault) → (a : IsAtFirst P imports kind fault) → Contains imports a.import
among_whole P imports kind fault a = subst (λ (l : List Import). Contains l a.import) (sym a.whole) (import_of_whole a.front a.import a.rest)

none_else : (P : List ℕ → Type 0) (imports : List Import) (kind : FaultKind) (fault : Fault) → IsAtFirst P imports kind fault → HasNone P imports → ⊥
none_else P imports kind fault a none = none a.import (among_whole P imports kind fault a) a.holds

none_behind : (P : List ℕ → Type 0) (x : Import) (xs : List Import) → HasNone P (x ∷ xs) → HasNone P xs
none_behind P x xs none i k = none i (Contains-append_right (x ∷ []) xs i k)

none_here : (P : List ℕ → Type 0) (x : Import) (xs : List Import) → HasNone P (x ∷ xs) → P x.spec.path → ⊥
none_here P x xs none h = none x (0, omega arith, refl) h

first_once : (P : List ℕ → Type 0) (front back : List Import) (i j : Import) (rest left : List Import) → front ++ i ∷ rest ≡ back ++ j ∷ left → HasNone P front → HasNone P back → P i.spec.path → P j.spec.path → i ≡ j
first_once P [] [] i j rest left e f b g h = cc
first_once P [] (y ∷ back) i j rest left e f b g h =
    let heads : i ≡ y = cc in absurd (none_here P y back b (subst (λ (z : Import). P z.spec.path) heads g))
first_once P (x ∷ front) [] i j rest left e f b g h =
    let heads : x ≡ j = cc in absurd (none_here P x front f (subst (λ (z : Import). P z.spec.path) (sym heads) h))
first_once P (x ∷ front) (y ∷ back) i j rest left e f b g h =
    let tails : front ++ i ∷ rest ≡ back ++ j ∷ left = cc in
    first_once P front back i j rest left tails (none_behind P x front f) (none_behind P y back b) g h

fault_of : FaultKind → Import → Fault
fault_of kind i = record { file = i.file; place = i.spec.place; kind = kind }

at_first_once : (P : List ℕ → Type 0) (imports : List Import) (kind : FaultKind) (f g : Fault) → IsAtFirst P imports kind f → IsAtFirst P imports kind g → f ≡ g
unfolding fault_of
at_first_once P imports kind f g a b =
    let same : a.import ≡ b.import = first_once P a.front b.front a.import b.import a.rest b.rest (sym a.whole ∙ b.whole) a.before b.before a.holds b.holds in
    a.is ∙ ap (fault_of kind) same ∙ sym b.is

fault_once : (ed : Edition) (sources : Sources) (path : List ℕ) (is : List Import) (f g : Fault) → IsImportFault ed sources path is f → IsImportFault ed sources path is g → f ≡ g
fault_once ed sources path is f g (of_missing a) (of_missing b) = at_first_once (HasNoFiles sources) is _ f g a b
fault_once ed sources path is f g (of_missing a) (of_cycle n b) = absurd (none_else (HasNoFiles sources) is _ f a n)
fault_once ed sources path is f g (of_missing a) (of_program n m b) = absurd (none_else (HasNoFiles sources) is _ f a n)
fault_once ed sources path is f g (of_cycle n a) (of_missing b) = absurd (none_else (HasNoFiles sources) is _ g b n)
fault_once ed sources path is f g (of_cycle n a) (of_cycle m b) = at_first_once (LeadsBack ed sources path) is _ f g a b
fault_once ed sources path is f g (of_cycle n a) (of_program m l b) = absurd (none_else (LeadsBack ed sources path) is _ f a l)
fault_once ed sources path is f g (of_program n m a) (of_missing b) = absurd (none_else (HasNoFiles sources) is _ g b n)
fault_once ed sources path is f g (of_program n m a) (of_cycle l b) = absurd (none_else (LeadsBack ed sources path) is _ g b m)
fault_once ed sources path is f g (of_program n m a) (of_program k l b) = at_first_once (IsMainPackage ed sources) is _ f g a b

fault_or_sound : (ed : Edition) (sources : Sources) (path : List ℕ) (is : List Import) (f : Fault) → IsImportFault ed sources path is f → HasNone (HasNoFiles sources) is → HasNone (LeadsBack ed sources path) is → HasNone (IsMainPackage ed sources) is → ⊥
fault_or_sound ed sources path is f (of_missing a) n m l = none_else (HasNoFiles sources) is _ f a n
fault_or_sound ed sources path is f (of_cycle k a) n m l = none_else (LeadsBack ed sources path) is _ f a m
fault_or_sound ed sources path is f (of_program j k a) n m l = none_else (IsMainPackage ed sources) is _ f a l

-- ---- directories

own_or_imports : (ed : Edition) (sources : Sources) (path : List ℕ) (f : Fault) (is : List Import) → IsPlan ed (package_files path sources) (Faulty f) → HasImports ed sources path is → ⊥
own_or_imports ed sources path f is own has =
    let e = one_plan ed (package_files path sources) (Faulty f) (Sound has.parsed) own has.sound in cc (e)

import_faults : (ed : Edition) (sources : Sources) (path : List ℕ) (f g : Fault) → ImportFault ed sources path f → ImportFault ed sources path g → f ≡ g
import_faults ed sources path f g a b =
    let same : a.imports ≡ b.imports = same_imports ed sources path a.imports b.imports a.has b.has in
    fault_once ed sources path b.imports f g (subst (λ is. IsImportFault ed sources path is f) same a.is) b.is

fault_not_sound : (ed : Edition) (sources : Sources) (path : List ℕ) (f : Fault) → ImportFault ed sources path f → ImportsAreSound ed sources path → ⊥
fault_not_sound ed sources path f a b =
    let same : a.imports ≡ b.imports = same_imports ed sources path a.imports b.imports a.has b.has in
    fault_or_sound ed sources path b.imports f (subst (λ is. IsImportFault ed sources path is f) same a.is) b.none_missing b.none_leads_back b.none_program

pub planned_once : (ed : Edition) (sources : Sources) (path : List ℕ) (p q : Planned) → IsPlannedAs ed sources path p → IsPlannedAs ed sources path q → p ≡ q
planned_once ed sources path NoFiles q g h = absurd g
planned_once ed sources path (Faulty f) NoFiles g h = absurd h
planned_once ed sources path (Sound ps) NoFiles g h = absurd h
planned_once ed sources path (Faulty f) (Faulty e) (inl g) (inl h) = one_plan ed (package_files path sources) (Faulty f) (Faulty e) g h
planned_once ed sources path (Faulty f) (Faulty e) (inl g) (inr h) = absurd (own_or_imports ed sources path f h.imports g h.has)
planned_once ed sources path (Faulty f) (Faulty e) (inr g) (inl h) = absurd (own_or_imports ed sources path e g.imports h g.has)
planned_once ed sources path (Faulty f) (Faulty e) (inr g) (inr h) = ap Faulty (import_faults ed sources path f e g h)
planned_once ed sources path (Faulty f) (Sound ps) (inl g) h = one_plan ed (package_files path sources) (Faulty f) (Sound ps) g h.0
planned_once ed sources path (Faulty f) (Sound ps) (inr g) h = absurd (fault_not_sound ed sources path f g h.1)
planned_once ed sources path (Sound ps) (Faulty f) g (inl h) = one_plan ed (package_files path sources) (Sound ps) (Faulty f) g.0 h
planned_once ed sources path (Sound ps) (Faulty f) g (inr h) = absurd (fault_not_sound ed sources path f h g.1)
planned_once ed sources path (Sound ps) (Sound qs) g h = one_plan ed (package_files path sources) (Sound ps) (Sound qs) g.0 h.0

numbers_once : (ed : Edition) (sources : Sources) (paths : List (List ℕ)) (path : List ℕ) (m n : List ℕ) → AreNumbers ed sources paths path m → AreNumbers ed sources paths path n → m ≡ n
numbers_once ed sources paths path m n g h = one_sorted nat_cmp nat_cmp_total m n (sorted_from_strictly_increasing m g.ascending) (sorted_from_strictly_increasing n h.ascending)
    (λ k c. (h.are k).1 ((g.are k).0 c)) (λ k c. (g.are k).1 ((h.are k).0 c))

same_directories : (ds es : List Directory) → paths_of ds ≡ paths_of es → ((d e : Directory) → Contains ds d → Contains es e → d.path ≡ e.path → d ≡ e) → ds ≡ es
same_directories [] [] p same = refl
same_directories [] (e ∷ es) p same = cc
same_directories (d ∷ ds) [] p same = cc
same_directories (d ∷ ds) (e ∷ es) p same =
    let heads : d.path ≡ e.path = cc in
    let tails : paths_of ds ≡ paths_of es = cc in
    let first : d ≡ e = same d e (0, omega arith, refl) (0, omega arith, refl) heads in
    let others : ds ≡ es = same_directories ds es tails (λ x y a b. same x y (Contains-append_right (d ∷ []) ds x a) (Contains-append_right (e ∷ []) es y b)) in
    ap (λ x. x ∷ ds) first ∙ ap (λ l. e ∷ l) others

pub one_build_plan : (ed : Edition) (sources : Sources) (target : List ℕ) (ds es : List Directory) → IsBuildPlan ed sources target ds → IsBuildPlan ed sources target es → ds ≡ es
one_build_plan ed sources target ds es g h =
    let paths : paths_of ds ≡ paths_of es = one_sorted path_cmp path_cmp_total (paths_of ds) (paths_of es) g.ascending h.ascending
    (λ p c. (h.reached p).1 ((g.reached p).0 c)) (λ p c. (g.reached p).1 ((h.reached p).0 c)) in
    same_directories ds es paths (λ d e in_ds in_es same.
    let planned : d.planned ≡ e.planned = planned_once ed sources e.path d.planned e.planned (subst (λ p. IsPlannedAs ed sources p d.planned) same (g.planned d in_ds)) (h.planned e in_es) in
    let here : AreNumbers ed sources (paths_of es) e.path d.imports = subst (λ ps. AreNumbers ed sources ps e.path d.imports) paths (subst (λ p. AreNumbers ed sources (paths_of ds) p d.imports) same (g.imports d in_ds)) in
    let imports : d.imports ≡ e.imports = numbers_once ed sources (paths_of es) e.path d.imports e.imports here (h.imports e in_es) in
    λ i. record { path = same i; planned = planned i; imports = imports i })

pub one_build_plan_of : (ed : Edition) (V W : List Write) (target : List ℕ) (ds es : List Directory) → SameMembers V W → IsBuildPlanOf ed V target ds → IsBuildPlanOf ed W target es → ds ≡ es
one_build_plan_of ed V W target ds es same g h =
    let sources : g.0 ≡ h.0 = same_sources V W g.0 h.0 same g.1 h.1 in
    one_build_plan ed h.0 target ds es (subst (λ (s : Sources). IsBuildPlan ed s target ds) sources g.2) h.2
