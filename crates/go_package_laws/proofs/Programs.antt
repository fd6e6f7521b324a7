-- Packages without fault that import each other are well typed, and a program by the last of them.
use Rattle.std.proofs.Common.{◌≡◌, ℕ, zero, suc, Bool, true, List, [], ◌∷◌, ◌++◌, Option, Some, None, map, codes, length, get_or, ◌-◌, refl, sym, ap, subst, inl, inr}
use Rattle.std.specs.Prelude.{bytes_eq}
use Rattle.std.specs.Map.{lookup}
use Rattle.std.specs.List.{All, Contains, find, flat_map, slice_get}
use Rattle.std.proofs.lemmas.Bool.{cases_Bool}
use Rattle.std.proofs.lemmas.List.Elements.{All-head, All-tail, All-nil, All-cons, All-append, All-contains}
use Rattle.go_text.specs.declared.edition.Edition.{Edition}
use Rattle.ws_reach.proofs.Reached.{contains_get, get_contains}
use Rattle.go_ast.specs.Trees.{File}
use Rattle.go_typed.specs.Trees as typed
use Rattle.go_symbol.specs.Symbols.{same_symbol}
use Rattle.go_meaning.specs.Meaning.{Stored}
use Rattle.go_meaning.specs.Programs.{StartStep, package_symbol, package_functions, first_variables, package_steps, main_steps, last_package, HasMain, IsProgram}
use Rattle.go_meaning.specs.Programs as meaning
use Rattle.go_expr.specs.Known.{Declared}
use Rattle.go_objects.specs.Table.{PackageTable}
use Rattle.go_package.specs.Faults.{Facts}
use Rattle.go_package.specs.Imports.{Importable, imports_of}
use Rattle.go_package.specs.Packages.{file_faults, each_file, objects_faults, main_faults}
use Rattle.go_package.specs.Typed.{typed_package}
use Rattle.go_export.specs.Exports.{Exports, exports_of}
use Rattle.go_check.specs.Names.{export_declares, names_by, importable_of}
use Rattle.go_package_laws.specs.Finds.{AllImportsAreKnown}
use Rattle.go_package_laws.proofs.Completeness.Apart.{parsed_apart}
use Rattle.go_meaning_laws.specs.WellTyped.{Setting, IsWellTypedFunction, IsWellTypedStart, IsWellTyped}
use Rattle.go_package_laws.proofs.Soundness.{Table, IsSoundType}
use Rattle.go_package_laws.specs.Packages.{AreLibraries, IsChecked, AreCheckedBehind, AreChecked, IsNamedMain}
use Rattle.go_package_laws.proofs.Types.{whole_type}
use Rattle.go_package_laws.proofs.Forms.{mapped_is}
use Rattle.go_package_laws.proofs.Functions.{SoundPackageVariables}
use Rattle.go_package_laws.proofs.Whole.{expected}
use Rattle.go_package_laws.proofs.Faultless.{checked}
use Rattle.go_package_laws.proofs.Grammar.{local_files}
use Rattle.go_package_laws.proofs.Parsed.{files_have, files_named, files_parsed}
use Rattle.go_package_laws.proofs.Libraries.{library_sound, libraries_whole}
use Rattle.go_package_laws.proofs.Links.{Checked}
use Rattle.go_package_laws.proofs.Main.{main}
use Rattle.go_package_laws.proofs.Packages.{AllExport, IsWithin, HasOwn, IsSoundFor, found_of, stored_sound, exports_sound, functions_sound, steps_start, main_start, has_main}
use Rattle.go_package_laws.proofs.Listed.{table_of, differ, has_own}

both_none : {A : Type 0} (xs ys : List A) → xs ++ ys ≡ [] → (xs ≡ []) × (ys ≡ [])
both_none [] ys h = (refl, h)
both_none (x ∷ xs) ys h = absurd cc

-- ---- what is imported is known

abbrev entries : List Importable → List (List ℕ × List (List ℕ × Option Declared))
entries ps = map (λ (p : Importable). (p.path, p.exports)) ps

more_whole : (ps qs : List Importable) → AllImportsAreKnown (entries ps) → AllImportsAreKnown (entries qs) → AllImportsAreKnown (entries (ps ++ qs))
more_whole [] qs h k = k
more_whole (p ∷ ps) qs h k = (h.0, more_whole ps qs h.1 k)

names_whole : (path : List ℕ) (es : Exports) (x : List ℕ) → lookup (bytes_eq x) (names_by path es) ≡ Some None → ⊥
names_whole path [] x h = cc (h)
names_whole path ((y, e) ∷ es) x h = elim (cases_Bool (bytes_eq x y)) [
  | inl is ↦ (
      let one : Some (Some (export_declares path y e)) ≡ Some None = rw is at h in
      let two : Some (export_declares path y e) ≡ None = cc (one) in
      cc (two))
  | inr not_so ↦ names_whole path es x (rw not_so at h)
]

imported_whole : (qs : List typed.Package) → AllImportsAreKnown (entries (map importable_of qs))
imported_whole [] = tt
imported_whole (q ∷ qs) = (names_whole q.path (exports_of q), imported_whole qs)

-- ---- packages

module _ (packages : List typed.Package) (w : Table) where
  -- what is known of a package that was checked
  pub record Good (p : typed.Package) : Type 0 where
    pub edition : Edition
    pub facts : Facts
    pub names : List (List ℕ)
    pub files : List File
    pub given : Checked facts files
    pub is : p ≡ typed_package edition facts names files
    pub own : HasOwn packages w (typed_package edition facts names files)
    pub imports : List Importable
    pub are : facts.package.imports ≡ imports_of imports files
    pub sound : (g : Setting) (d : List ℕ) → IsWithin packages w g → AllExport w g d imports
    pub mains : main_faults facts files ≡ []

  -- ---- imports

  libraries_export : (ps : List Importable) → AreLibraries ps → (g : Setting) (d : List ℕ) → AllExport w g d ps
  libraries_export [] h g d = tt
  libraries_export (i ∷ is) h g d = (library_sound w g d i.exports h.0, libraries_export is h.1 g d)

  imported_export : (before qs : List typed.Package) → ((q : typed.Package) → Contains before q → IsSoundFor packages w q) → All (Contains before) qs → (g : Setting) (d : List ℕ) → IsWithin packages w g → AllExport w g d (map importable_of qs)
  imported_export before [] sound all g d within = tt
  imported_export before (q ∷ qs) sound all g d within =
      (sound q (All-head (Contains before) q qs all) g d within, imported_export before qs sound (All-tail (Contains before) q qs all) g d within)

  more_export : (ps qs : List Importable) (g : Setting) (d : List ℕ) → AllExport w g d ps → AllExport w g d qs → AllExport w g d (ps ++ qs)
  more_export [] qs g d h k = k
  more_export (p ∷ ps) qs g d h k = (h.0, more_export ps qs g d h.1 k)

  -- ---- one behind others

  good_one : (before : List typed.Package) (p : typed.Package) → IsChecked before p → ((q : typed.Package) → Contains before q → IsSoundFor packages w q) → HasOwn packages w p → Good p
  good_one before p it sound own =
      let t = it.typed.facts in
      let ps = it.libraries ++ map importable_of it.imported in
      let whole = more_whole it.libraries (map importable_of it.imported) (libraries_whole it.libraries it.are_libraries) (imported_whole it.imported) in
      let rest = both_none (each_file (file_faults ps t) 0 it.files) (objects_faults t it.files ++ main_faults t it.files) it.typed.none in
      record {
        edition = it.edition;
        facts = t;
        names = it.names;
        files = it.files;
        given = checked it.edition it.path it.files ps t whole it.typed.are it.typed.none (local_files it.edition it.files (files_parsed it.edition it.files it.sources)) (files_have it.edition it.files it.sources) (files_named it.edition it.files it.sources) (parsed_apart it.edition it.files (files_parsed it.edition it.files it.sources));
        is = it.typed.is;
        own = subst (HasOwn packages w) it.typed.is own;
        imports = ps;
        are = ap (λ (q : PackageTable). q.imports) it.typed.are.package_is;
        sound = λ g d within. more_export it.libraries (map importable_of it.imported) g d (libraries_export it.libraries it.are_libraries g d) (imported_export before it.imported sound it.stand_before g d within);
        mains = (both_none (objects_faults t it.files) (main_faults t it.files) rest.1).1;
      }

  good_exports : (p : typed.Package) → Good p → IsSoundFor packages w p
  good_exports p h = subst (IsSoundFor packages w) (sym h.is) (exports_sound packages w h.edition h.facts h.names h.files h.given h.own h.imports h.are h.sound)

  sound_behind : (before : List typed.Package) (p : typed.Package) → ((q : typed.Package) → Contains before q → IsSoundFor packages w q) → IsSoundFor packages w p
      → (k : ℕ) (q : typed.Package) → slice_get (p ∷ before) k ≡ Some q → IsSoundFor packages w q
  sound_behind before p sound one zero q at = (let same : p ≡ q = cc (at) in subst (IsSoundFor packages w) same one)
  sound_behind before p sound one (suc k) q at = sound q (get_contains before k q at)

  good_all : (before ps : List typed.Package) → AreCheckedBehind before ps → ((q : typed.Package) → Contains before q → IsSoundFor packages w q) → ((k : ℕ) (p : typed.Package) → slice_get ps k ≡ Some p → HasOwn packages w p) → All Good ps
  good_all before [] h sound own = All-nil Good
  good_all before (p ∷ ps) h sound own =
      let one = good_one before p h.0 sound (own 0 p refl) in
      All-cons Good p ps one
      (good_all (p ∷ before) ps h.1 (λ q c. sound_behind before p sound (good_exports p one) c.0 q (contains_get (p ∷ before) q c)) (λ k q at. own (suc k) q at))

  -- ---- all of them

  abbrev SoundStored : Stored → Type 0
  SoundStored v = IsSoundType w v.of

  one_stored : (p : typed.Package) → Good p → All SoundStored (first_variables p)
  one_stored p h = subst (λ (q : typed.Package). All SoundStored (first_variables q)) (sym h.is) (stored_sound packages w h.edition h.facts h.names h.files h.given h.own h.imports h.are h.sound)

  all_stored : (ps : List typed.Package) → All Good ps → All SoundStored (flat_map first_variables ps)
  all_stored [] h = All-nil SoundStored
  all_stored (p ∷ ps) h = All-append SoundStored (first_variables p) (flat_map first_variables ps) (one_stored p (All-head Good p ps h)) (all_stored ps (All-tail Good p ps h))

  module _ (good : All Good packages) where
    variables_sound : SoundPackageVariables expected w packages
    variables_sound s u is =
        let test = λ (v : Stored). same_symbol s v.symbol in
        let found = mapped_is (λ (v : Stored). v.of) (find test (flat_map first_variables packages)) u is in
        subst (IsSoundType w) (sym found.2) (found_of SoundStored test (flat_map first_variables packages) found.0 (all_stored packages good) found.1)

    abbrev SoundFunction : meaning.DeclaredFunction → Type 0
    SoundFunction d = IsWellTypedFunction packages d.function

    one_functions : (p : typed.Package) → Good p → All SoundFunction (package_functions p)
    one_functions p h = subst (λ (q : typed.Package). All SoundFunction (package_functions q)) (sym h.is) (functions_sound packages w h.edition h.facts h.names h.files h.given h.own h.imports h.are h.sound variables_sound)

    all_functions : (ps : List typed.Package) → All Good ps → All SoundFunction (flat_map package_functions ps)
    all_functions [] h = All-nil SoundFunction
    all_functions (p ∷ ps) h = All-append SoundFunction (package_functions p) (flat_map package_functions ps) (one_functions p (All-head Good p ps h)) (all_functions ps (All-tail Good p ps h))

    -- what comes before main
    abbrev Starts : StartStep → Type 0
    Starts = IsWellTypedStart packages

    one_steps : (p : typed.Package) → Good p → All Starts (package_steps p)
    one_steps p h =
        subst (λ (q : typed.Package). All Starts (package_steps q)) (sym h.is) (steps_start packages w h.edition h.facts h.names h.files h.given h.own h.imports h.are h.sound h.mains)

    first_steps : (ps : List typed.Package) → All Good ps → All Starts (flat_map package_steps ps)
    first_steps [] h = All-nil Starts
    first_steps (p ∷ ps) h = All-append Starts (package_steps p) (flat_map package_steps ps) (one_steps p (All-head Good p ps h)) (first_steps ps (All-tail Good p ps h))

    module _ (last : typed.Package) (is_last : last_package packages ≡ Some last) (named : last.name ≡ codes "main") where
      last_good : Good last
      last_good = All-contains Good packages last good (get_contains packages (length packages - 1) last is_last)

      named_so : (typed_package last_good.edition last_good.facts last_good.names last_good.files).name ≡ codes "main"
      named_so = subst (λ (q : typed.Package). q.name ≡ codes "main") last_good.is named

      main_called : IsWellTypedStart packages (meaning.calls (package_symbol last main))
      main_called =
          let h = last_good in
          subst (λ (q : typed.Package). IsWellTypedStart packages (meaning.calls (package_symbol q main))) (sym h.is) (main_start packages w h.edition h.facts h.names h.files h.given h.own h.imports h.are h.sound named_so h.mains)

      main_there : HasMain (Some last)
      main_there =
          let h = last_good in
          subst (λ (q : typed.Package). HasMain (Some q)) (sym h.is) (has_main packages w h.edition h.facts h.names h.files h.given h.own h.imports h.are h.sound named_so h.mains)

      all_typed : IsWellTyped packages × IsProgram packages
      all_typed =
          let last_steps = subst (λ (o : Option typed.Package). All Starts (main_steps o)) (sym is_last) (All-cons Starts (meaning.calls (package_symbol last main)) [] main_called (All-nil Starts)) in (
            record {
              functions = all_functions packages good;
              variables = λ k v lt. whole_type w (get_or (flat_map first_variables packages) k v).of (all_stored packages good k v lt);
              start = All-append Starts (flat_map package_steps packages) (main_steps (last_package packages)) (first_steps packages good) last_steps;
            },
            subst HasMain (sym is_last) main_there,
          )

pub all_good : (packages : List typed.Package) (plain : List ℕ → Bool) → AreChecked packages → ((k : ℕ) (p : typed.Package) → slice_get packages k ≡ Some p → plain p.path ≡ true) → All (Good packages (table_of packages plain)) packages
all_good packages plain h are =
    let w = table_of packages plain in
    let apart = differ [] packages h in
    let none : (q : typed.Package) → Contains [] q → IsSoundFor packages w q = λ q c. absurd (let no : None ≡ Some q = contains_get [] q c in cc (no)) in
    good_all packages w [] packages h none (λ k p at. has_own packages plain apart k p at (are k p at))

pub packages_typed : (packages : List typed.Package) → AreChecked packages → IsNamedMain packages → IsWellTyped packages × IsProgram packages
packages_typed packages h last =
    all_typed packages (table_of packages (λ path. true)) (all_good packages (λ path. true) h (λ k p at. refl)) last.0 last.1 last.2
