-- Faults of files, one after another.
use Rattle.std.proofs.Common.{◌≡◌, Result, Option, Some, ℕ, suc, ◌+◌, ◌<◌, List, [], ◌∷◌, ◌++◌, Bor, map, length, drop, get_or, sym, ap, ◌∙◌, subst, add-one}
use Rattle.std.specs.List.{cons_option, slice_get, flat_map}
use Rattle.go_text.specs.declared.place.Place.{Place}
use Rattle.go_text.specs.declared.fault.FaultKind.{FaultKind}
use Rattle.go_ast.specs.Trees as trees
use Rattle.go_ast.specs.Views.{file_of, import_of}
use Rattle.go_ast.specs.declared.file.ImportSpec.{ImportSpec}
use Rattle.go_ast.specs.declared.file.File.{File}
use Rattle.go_expr.specs.Known.{Names}
use Rattle.go_expr.specs.declared.error.ExprError.{ExprError}
use Rattle.go_expr.specs.declared.error.ExprError.TheVariants as errors_of
use Rattle.go_expr.specs.Views.{Fails}
use Rattle.go_objects.proofs.Signatures.{next_of}
use Rattle.go_package.specs.declared.error.DeclError.{DeclError}
use Rattle.go_package.specs.declared.error.DeclError.TheVariants as errors
use Rattle.go_package.specs.Faults.{Facts, Faults}
use Rattle.go_package.specs.Views.{FailsIn, FindsIn}
use Rattle.go_package.specs.Imports.{Importable, import_declares, imports_in}
use Rattle.go_package.specs.Packages.{FileFaults, each_file, reserved_names_faults, absent_main_faults, main_faults, import_faults, imports_faults}

pub sooner : (e : ExprError) (fs gs : Faults) → Fails e fs → Fails e (fs ++ gs)
sooner errors_of.Memory fs gs h = tt
sooner (errors_of.Faulty p kind) fs gs h = (h.0 ++ gs, ap (λ l. l ++ gs) h.1)

pub imports_here : (t : Facts) (file : trees.File) (before : List (List ℕ)) (ps : List Importable) (specs : List ImportSpec) (i : ℕ) (d : ImportSpec) (x : Place × (List ℕ × Names)) (e : ExprError) (all : Faults) →
    i < length specs → d ≡ get_or specs i d → import_declares ps (import_of d) ≡ Some x → imports_faults t file before (imports_in ps (map import_of (drop i specs))) ≡ all →
    Fails e (import_faults t file before x.0 (x.1).0) → Fails e all
imports_here t file before ps specs i d x e all lt is found same h =
    let rest = imports_in ps (map import_of (drop (i + 1) specs)) in
    subst (Fails e) (sym (
    ap (λ (l : List ImportSpec). imports_faults t file before (imports_in ps (map import_of l))) (next_of specs i d d lt is)
    ∙ ap (λ (o : Option (Place × (List ℕ × Names))). imports_faults t file before (cons_option o rest)) found)
    ∙ same)
    (sooner e (import_faults t file before x.0 (x.1).0) (imports_faults t file (before ++ (x.1).0 ∷ []) rest) h)

pub imports_later : (t : Facts) (file : trees.File) (before : List (List ℕ)) (ps : List Importable) (specs : List ImportSpec) (i : ℕ) (d : ImportSpec) (x : Place × (List ℕ × Names)) (all : Faults) →
    i < length specs → d ≡ get_or specs i d → import_declares ps (import_of d) ≡ Some x → imports_faults t file before (imports_in ps (map import_of (drop i specs))) ≡ all →
    import_faults t file before x.0 (x.1).0 ≡ [] → imports_faults t file (before ++ (x.1).0 ∷ []) (imports_in ps (map import_of (drop (i + 1) specs))) ≡ all
imports_later t file before ps specs i d x all lt is found same none =
    let rest = imports_in ps (map import_of (drop (i + 1) specs)) in
    sym (
    ap (λ (l : List ImportSpec). imports_faults t file before (imports_in ps (map import_of l))) (next_of specs i d d lt is)
    ∙ ap (λ (o : Option (Place × (List ℕ × Names))). imports_faults t file before (cons_option o rest)) found
    ∙ ap (λ l. l ++ imports_faults t file (before ++ (x.1).0 ∷ []) rest) none)
    ∙ same

pub sooner_in : (e : DeclError) (fs gs : FileFaults) → FailsIn e fs → FailsIn e (fs ++ gs)
sooner_in errors.Memory fs gs h = tt
sooner_in (errors.Faulty file p kind) fs gs h = (h.0 ++ gs, ap (λ l. l ++ gs) h.1)

pub each_here : (faults : ℕ → trees.File → Faults) (e : DeclError) (files : List (Bor File)) (i : ℕ) (d : Bor File) (all : FileFaults) → i < length files → d ≡ get_or files i d →
    each_file faults i (map (λ f. file_of f.now) (drop i files)) ≡ all → FailsIn e (map (λ x. (i, x)) (faults i (file_of d.now))) → FailsIn e all
each_here faults e files i d all lt is same h =
    subst (FailsIn e) (sym (ap (λ (l : List (Bor File)). each_file faults i (map (λ f. file_of f.now) l)) (next_of files i d d lt is)) ∙ same)
    (sooner_in e _ (each_file faults (suc i) (map (λ f. file_of f.now) (drop (i + 1) files))) h)

pub each_later : (faults : ℕ → trees.File → Faults) (files : List (Bor File)) (i : ℕ) (d : Bor File) (all : FileFaults) → i < length files → d ≡ get_or files i d →
    each_file faults i (map (λ f. file_of f.now) (drop i files)) ≡ all → map {B = ℕ × (Place × FaultKind)} (λ x. (i, x)) (faults i (file_of d.now)) ≡ [] → each_file faults (i + 1) (map (λ f. file_of f.now) (drop (i + 1) files)) ≡ all
each_later faults files i d all lt is same none =
    let rest = map (λ (f : Bor File). file_of f.now) (drop (i + 1) files) in
    ap (λ n. each_file faults n rest) (add-one i)
    ∙ sym (ap (λ l. l ++ each_file faults (suc i) rest) none)
    ∙ sym (ap (λ (l : List (Bor File)). each_file faults i (map (λ f. file_of f.now) l)) (next_of files i d d lt is))
    ∙ same

-- ---- names main and init

abbrev reserved : List (Bor File) → Bor File → FileFaults
reserved files f = each_file (λ number file. flat_map (reserved_names_faults (file_of f.now).package.text) file.declarations) 0 (map (λ f. file_of f.now) files)

pub main_here : (t : Facts) (files : List (Bor File)) (d : Bor File) (e : DeclError) → Some d ≡ slice_get files 0 → FailsIn e (reserved files d) → FailsIn e (main_faults t (map (λ f. file_of f.now) files))
main_here t [] d e is h = cc
main_here t (f ∷ fs) d e is h =
    let same : d ≡ f = cc in
    sooner_in e (reserved (f ∷ fs) f) (absent_main_faults t (file_of f.now).package) (subst (λ (g : Bor File). FailsIn e (reserved (f ∷ fs) g)) same h)

pub main_later : {X : Type 0} (t : Facts) (files : List (Bor File)) (d : Bor File) (r : Result X DeclError) → Some d ≡ slice_get files 0 → reserved files d ≡ [] → FindsIn r (absent_main_faults t (file_of d.now).package) →
    FindsIn r (main_faults t (map (λ f. file_of f.now) files))
main_later t [] d r is none h = cc
main_later t (f ∷ fs) d r is none h =
    let same : d ≡ f = cc in
    subst (FindsIn r) (sym (ap (λ (l : FileFaults). l ++ absent_main_faults t (file_of f.now).package) (subst (λ (g : Bor File). reserved (f ∷ fs) g ≡ []) same none)))
    (subst (λ (g : Bor File). FindsIn r (absent_main_faults t (file_of g.now).package)) same h)
