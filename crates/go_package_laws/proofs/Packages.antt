-- Each package of a program is well typed, and what it exports is sound, where what it imports is.
use Rattle.std.proofs.Common.{◌≡◌, ℕ, zero, suc, true, false, Bool, List, [], ◌∷◌, ◌++◌, Option, Some, None, map, codes, append-nil, refl, sym, ap, ◌∙◌, subst, ◌⊎◌, inl, inr}
use Rattle.std.specs.Prelude.{bytes_eq, nat_eq, option_map, unwrap_or, IsSome, if◌then◌else◌}
use Rattle.std.specs.List.{All, filter, find, slice_get, flat_map, cons_option, starts_with}
use Rattle.std.specs.Map.{lookup}
use Rattle.std.proofs.lemmas.Bool.{cases_Bool}
use Rattle.std.proofs.lemmas.Slice.Eq.{bytes_eq-Decides}
use Rattle.std.proofs.lemmas.List.Elements.{All-head, All-tail, All-nil, All-cons, All-append, All-map}
use Rattle.go_text.specs.declared.edition.Edition.{Edition}
use Rattle.go_text.specs.declared.place.Place.{Place}
use Rattle.go_ast.specs.Trees.{ImportSpec, TopLevel, declared, function, FunctionDecl, File}
use Rattle.go_const.specs.declared.constant.Const.{Const}
use Rattle.go_types.specs.Types.{Type'}
use Rattle.go_types.specs.Names.{is_exported}
use Rattle.go_typed.specs.Trees as typed
use Rattle.go_typed.specs.Trees.{Symbol, global}
use Rattle.go_init.specs.Variables.{variable_order}
use Rattle.go_symbol.specs.Symbols.{same_symbol}
use Rattle.go_meaning.specs.Meaning.{Stored}
use Rattle.go_meaning.specs.Programs.{package_symbol, package_functions, first_variables, package_steps, HasMain}
use Rattle.go_meaning.specs.Programs as meaning
use Rattle.go_expr.specs.Known.{Declared, value, type', function as known_function, println, length', capacity', make', append', panic', Names, declared as known_declared, Fine}
use Rattle.go_export.specs.Exports as exports
use Rattle.go_export.specs.Exports.{Export, Exports, named_constant, exported_type, named_variable, named_function, exports_of, look_up_export as look_up_export}
use Rattle.go_export.proofs.Found.{found}
use Rattle.go_check.specs.Names.{export_declares as exported_as, names_by}
use Rattle.go_stmt.specs.Functions.{function_at}
use Rattle.go_objects.specs.Objects.{Form, DeclaredObject, firsts, objects_from, objects_of}
use Rattle.go_objects.specs.Table.{imports_at, iota_in, scope_at, form_verdict, object_verdict}
use Rattle.go_package.specs.Faults.{Facts, own_faults, context_at, top_faults, files_faults}
use Rattle.go_package.specs.Imports.{Importable, package_at, import_name, named_import, imports_in, imports_of}
use Rattle.go_package.specs.Packages.{main_faults}
use Rattle.go_scope.specs.Scopes.{is_blank}
use Rattle.go_package.specs.Typed.{variable_in, variables_in, constants_in, types_in, declared_at, top_functions, of_files, package_name, typed_package}
use Rattle.go_meaning_laws.specs.WellTyped.{Signature, Setting, IsWellTypedFunction, IsWellTypedStart, signature_at, variable_at, package_setting}
use Rattle.go_package_laws.proofs.Soundness.{Table, IsSoundType, AreSoundTypes, IsSoundDeclared, AreSoundNames}
use Rattle.go_package_laws.proofs.SoundNames.{IsSoundScope}
use Rattle.go_package_laws.proofs.BodyTexts.{FunctionHasTexts}
use Rattle.go_package_laws.proofs.DeclaredTexts.{TopsHaveTexts, FilesHaveTexts}
use Rattle.go_package_laws.proofs.Whole.{expected, function_sound, signature_sound}
use Rattle.go_package_laws.proofs.Functions.{SoundOutside, SoundPackageVariables}
use Rattle.go_package_laws.proofs.Related.{setting_in}
use Rattle.go_package_laws.proofs.Forms.{mapped_is}
use Rattle.go_package_laws.proofs.Entries.{AllImports, TableSound, scope_sound}
use Rattle.go_package_laws.proofs.Tables.{own_sound, table_sound}
use Rattle.go_package_laws.proofs.Once.{itself, stored}
use Rattle.go_package_laws.proofs.Fits.{is_function, all_firsts, all_at}
use Rattle.go_package_laws.proofs.Found.{by_name}
use Rattle.go_package_laws.proofs.Links.{Checked, HasTypes, IsIn, function_here, linked, function_linked, variable_linked}
use Rattle.go_package_laws.proofs.Initial.{initial_start}
use Rattle.go_package_laws.proofs.Main.{main, MainOnly, main_object}
use Rattle.go_package_laws.proofs.Numbers.{numbered_all}
use Rattle.go_package_laws.proofs.Inits.{EmptyInit, inits_empty, filtered, found_some}

-- ---- imports

module _ (w : Table) (g : Setting) (d : List ℕ) where
  abbrev pub AllExport : List Importable → Type 0
  AllExport [] = Unit {0}
  AllExport (i ∷ is) = AreSoundNames w g d i.exports × AllExport is

  export_at : (ps : List Importable) → AllExport ps → (path : List ℕ) (q : Importable) → package_at ps path ≡ Some q → AreSoundNames w g d q.exports
  export_at [] h path q at = absurd cc
  export_at (i ∷ is) h path q at = elim (cases_Bool (bytes_eq path i.path)) [
    | inl t ↦ (
        let first : Some i ≡ Some q = rw t at at in
        let same : i ≡ q = cc (first) in
        subst (λ (r : Importable). AreSoundNames w g d r.exports) same h.0)
    | inr f ↦ export_at is h.1 path q (rw f at at)
  ]

  abbrev Imported : Type 0
  Imported = Place × (List ℕ × Names)

  abbrev import_from : ImportSpec → Option Importable → Option Imported
  import_from spec o = elim o [ None ↦ None | Some p ↦ named_import spec.place (import_name spec.name p.name) p.exports ]

  one_import : (ps : List Importable) → AllExport ps → (spec : ImportSpec) (rest : List Imported) → AllImports w g d (map (λ i. i.1) rest) → (o : Option Importable) → package_at ps spec.path ≡ o
      → AllImports w g d (map (λ i. i.1) (cons_option (import_from spec o) rest))
  one_import ps all spec rest h None at = h
  one_import ps all spec rest h (Some q) at = elim (cases_Bool (bytes_eq (import_name spec.name q.name) (codes "_"))) [
    | inl blank ↦ rw blank h
    | inr named ↦ rw named (export_at ps all spec.path q at, h)
  ]

  all_imports : (ps : List Importable) → AllExport ps → (specs : List ImportSpec) → AllImports w g d (map (λ i. i.1) (imports_in ps specs))
  all_imports ps all [] = tt
  all_imports ps all (spec ∷ specs) = one_import ps all spec (imports_in ps specs) (all_imports ps all specs) (package_at ps spec.path) refl

  pub files_import : (ps : List Importable) → AllExport ps → (files : List File) (file : ℕ) → AllImports w g d (unwrap_or (slice_get (imports_of ps files) file) [])
  files_import ps all [] file = tt
  files_import ps all (f ∷ fs) zero = all_imports ps all f.imports
  files_import ps all (f ∷ fs) (suc file) = files_import ps all fs file

both_none : {A : Type 0} (xs ys : List A) → xs ++ ys ≡ [] → (xs ≡ []) × (ys ≡ [])
both_none [] ys h = (refl, h)
both_none (x ∷ xs) ys h = absurd cc

unmapped : {A B : Type 0} (f : A → B) (xs : List A) → map f xs ≡ [] → xs ≡ []
unmapped f [] h = refl
unmapped f (x ∷ xs) h = absurd cc

pub found_of : {X : Type 0} (P : X → Type 0) (test : X → Bool) (xs : List X) (x : X) → All P xs → find test xs ≡ Some x → P x
found_of P test [] x all at = absurd cc
found_of P test (y ∷ ys) x all at = elim (cases_Bool (test y)) [
  | inl is ↦ (
      let one : Some y ≡ Some x = rw is at at in
      let same : y ≡ x = cc (one) in
      subst P same (All-head P y ys all))
  | inr not_so ↦ found_of P test ys x (All-tail P y ys all) (rw not_so at at)
]

-- what a name finds stands in the table
entry_of : (known : Names) (x : List ℕ) (e : Declared) → declared_at known x ≡ Some e → (k : ℕ) × (y : List ℕ) × (slice_get known k ≡ Some (y, Some e))
entry_of [] x e h = absurd cc
entry_of ((y, v) ∷ known) x e h = elim (cases_Bool (bytes_eq x y)) [
  | inl is ↦ (let has : v ≡ Some e = rw is at h in (0, y, ap (λ (u : Option Declared). Some (y, u)) has))
  | inr not_so ↦ (let rest = entry_of known x e (rw not_so at h) in (suc rest.0, rest.1, rest.2))
]

-- ---- what a package declares

lookup_either : (x : List ℕ) (es fs : Exports) (e : Export) → look_up_export x (es ++ fs) ≡ Some e → (look_up_export x es ≡ Some e) ⊎ (look_up_export x fs ≡ Some e)
lookup_either x [] fs e h = inr h
lookup_either x ((y, f) ∷ es) fs e h = elim (cases_Bool (bytes_eq x y)) [
  | inl is ↦ inl (rw is (rw is at h))
  | inr not_so ↦ elim (lookup_either x es fs e (rw not_so at h)) [ inl first ↦ inl (rw not_so first) | inr second ↦ inr second ]
]

some_same : {A : Type 0} (x y : A) → Some x ≡ Some y → x ≡ y
some_same x y h = cc

names_at : (path : List ℕ) (es : Exports) (x : List ℕ) (k : Declared) → lookup (bytes_eq x) (names_by path es) ≡ Some (Some k) → (e : Export) × (look_up_export x es ≡ Some e) × (k ≡ exported_as path x e)
names_at path [] x k h = absurd cc
names_at path ((y, e) ∷ es) x k h = elim (cases_Bool (bytes_eq x y)) [
  | inl is ↦ (
      let one : Some (Some (exported_as path y e)) ≡ Some (Some k) = rw is at h in
      let two : exported_as path y e ≡ k = some_same (exported_as path y e) k (some_same (Some (exported_as path y e)) (Some k) one) in
      let same : x ≡ y = (bytes_eq-Decides x y).0 is in
      (e, rw is refl, sym two ∙ ap (λ z. exported_as path z e) (sym same)))
  | inr not_so ↦ (let rest = names_at path es x k (rw not_so at h) in (rest.0, rw not_so rest.1, rest.2))
]

exported_there : (b : Bool) (o : Option Export) (e : Export) → (if b then o else None) ≡ Some e → o ≡ Some e
exported_there true o e h = h
exported_there false o e h = absurd cc

-- an entry of the table
abbrev Entry : Names → List ℕ → Declared → Type 0
Entry known x e = (k : ℕ) × (slice_get known k ≡ Some (x, Some e))

behind : (known : Names) (n : List ℕ × Option Declared) (x : List ℕ) (e : Declared) → Entry known x e → Entry (n ∷ known) x e
behind known n x e h = (suc h.0, h.1)

abbrev constants_by : Names → Exports
constants_by known = map named_constant (constants_in known)

abbrev ConstantEntry : Names → List ℕ → Export → Type 0
ConstantEntry known x e = (u : Type') × (c : Const) × (e ≡ exports.constant u c) × Entry known x (value (typed.constant u c))

constant_entry : (known : Names) (x : List ℕ) (e : Export) → look_up_export x (constants_by known) ≡ Some e → ConstantEntry known x e
constant_entry [] x e h = absurd cc
constant_entry ((y, Some (value (typed.constant u c))) ∷ known) x e h = elim (cases_Bool (bytes_eq x y)) [
  | inl is ↦ (
      let one : Some (exports.constant u c) ≡ Some e = rw is at h in
      let same : x ≡ y = (bytes_eq-Decides x y).0 is in
      (u, c, sym (some_same (exports.constant u c) e one), (0, ap (λ z. Some (z, Some (value (typed.constant u c)))) (sym same))))
  | inr not_so ↦ (
      let rest = constant_entry known x e (rw not_so at h) in
      (rest.0, rest.1, rest.2, behind known (y, Some (value (typed.constant u c))) x (value (typed.constant rest.0 rest.1)) rest.3))
]
constant_entry ((y, v) ∷ known) x e h = (let rest = constant_entry known x e h in (rest.0, rest.1, rest.2, behind known (y, v) x (value (typed.constant rest.0 rest.1)) rest.3))

abbrev types_by : Names → Exports
types_by known = map exported_type (types_in known)

abbrev TypeEntry : Names → List ℕ → Export → Type 0
TypeEntry known x e = (u : Type') × (e ≡ exports.type' u) × Entry known x (type' u)

type_entry : (known : Names) (x : List ℕ) (e : Export) → look_up_export x (types_by known) ≡ Some e → TypeEntry known x e
type_entry [] x e h = absurd cc
type_entry ((y, Some (type' u)) ∷ known) x e h = elim (cases_Bool (bytes_eq x y)) [
  | inl is ↦ (
      let one : Some (exports.type' u) ≡ Some e = rw is at h in
      let same : x ≡ y = (bytes_eq-Decides x y).0 is in
      (u, sym (some_same (exports.type' u) e one), (0, ap (λ z. Some (z, Some (type' u))) (sym same))))
  | inr not_so ↦ (let rest = type_entry known x e (rw not_so at h) in (rest.0, rest.1, behind known (y, Some (type' u)) x (type' rest.0) rest.2))
]
type_entry ((y, v) ∷ known) x e h = (let rest = type_entry known x e h in (rest.0, rest.1, behind known (y, v) x (type' rest.0) rest.2))

variable_entry : (p : typed.Package) (vs : List typed.Variable) (x : List ℕ) (e : Export) → look_up_export x (map named_variable vs) ≡ Some e
    → (u : Type') × (e ≡ exports.variable u) × (option_map (λ (v : Stored). v.of) (find (λ (v : Stored). same_symbol (package_symbol p x) v.symbol) (map (stored p) vs)) ≡ Some u)
variable_entry p [] x e h = absurd cc
variable_entry p (v ∷ vs) x e h =
    let own = itself p.path in
    elim (cases_Bool (bytes_eq x v.name)) [
      | inl is ↦ (let one : Some (exports.variable v.of) ≡ Some e = rw is at h in (v.of, sym (some_same (exports.variable v.of) e one), rw (own, is) refl))
      | inr not_so ↦ (let rest = variable_entry p vs x e (rw not_so at h) in (rest.0, rest.1, rw (own, not_so) rest.2))
    ]

function_entry : (fs : List typed.Function) (x : List ℕ) (e : Export) → look_up_export x (map named_function fs) ≡ Some e → (f : typed.Function) × (find (by_name x) fs ≡ Some f) × (e ≡ exports.function f.parameters f.results)
function_entry [] x e h = absurd cc
function_entry (f ∷ fs) x e h = elim (cases_Bool (bytes_eq x f.name)) [
  | inl is ↦ (let one : Some (exports.function f.parameters f.results) ≡ Some e = rw is at h in (f, rw is refl, sym (some_same (exports.function f.parameters f.results) e one)))
  | inr not_so ↦ (let rest = function_entry fs x e (rw not_so at h) in (rest.0, rw not_so rest.1, rest.2))
]

-- ---- functions of files

module _ (t : Facts) (P : typed.Function → Type 0) (one : (file : ℕ) (f : FunctionDecl) → FunctionHasTexts f → (function_at (context_at t file) f).faults ≡ [] → (g : typed.Function) → (function_at (context_at t file) f).known ≡ Some g → P g) where
  listed_are : (file : ℕ) (f : FunctionDecl) → FunctionHasTexts f → (function_at (context_at t file) f).faults ≡ [] → (o : Option typed.Function) → (function_at (context_at t file) f).known ≡ o
      → All P (elim o [ None ↦ [] | Some g ↦ if is_blank f.name.text then [] else g ∷ [] ])
  listed_are file f texts none None is = All-nil P
  listed_are file f texts none (Some g) is = elim (cases_Bool (bytes_eq f.name.text (codes "_"))) [
    | inl blank ↦ rw blank (All-nil P)
    | inr named ↦ rw named (All-cons P g [] (one file f texts none g is) (All-nil P))
  ]

  top_are : (file : ℕ) (top : TopLevel) → TopsHaveTexts (top ∷ []) → top_faults t file top ≡ [] → All P (top_functions t file top)
  top_are file (declared c) texts none = All-nil P
  top_are file (function f) texts none =
      listed_are file f texts.0 (both_none (own_faults t file f.name) (function_at (context_at t file) f).faults none).1 (function_at (context_at t file) f).known refl

  tops_are : (file : ℕ) (tops : List TopLevel) → TopsHaveTexts tops → flat_map (top_faults t file) tops ≡ [] → All P (flat_map (top_functions t file) tops)
  tops_are file [] texts none = All-nil P
  tops_are file (top ∷ tops) texts none =
      let ns = both_none (top_faults t file top) (flat_map (top_faults t file) tops) none in
      All-append P (top_functions t file top) (flat_map (top_functions t file) tops) (top_are file top (texts.0, tt) ns.0) (tops_are file tops texts.1 ns.1)

  files_are : (number : ℕ) (fs : List File) → FilesHaveTexts fs → files_faults t number fs ≡ [] → All P (of_files (top_functions t) number fs)
  files_are number [] texts none = All-nil P
  files_are number (f ∷ fs) texts none =
      let own = flat_map (top_faults t number) f.declarations in
      let ns = both_none (map (λ x. (number, x)) own) (files_faults t (suc number) fs) none in
      All-append P (flat_map (top_functions t number) f.declarations) (of_files (top_functions t) (suc number) fs)
      (tops_are number f.declarations texts.0 (unmapped (λ x. (number, x)) own ns.0)) (files_are (suc number) fs texts.1 ns.1)

-- ---- a package among those of a program

module _ (packages : List typed.Package) (w : Table) where
  -- what is known of the program's functions and variables
  abbrev pub IsWithin : Setting → Type 0
  IsWithin g = (g.functions ≡ signature_at packages) × (g.variables ≡ variable_at packages)

  -- what the program has of a package's names is what the package has
  abbrev pub HasOwn : typed.Package → Type 0
  HasOwn p = ((x : List ℕ) → signature_at packages (package_symbol p x) ≡ signature_at (p ∷ []) (package_symbol p x))
      × ((x : List ℕ) → variable_at packages (package_symbol p x) ≡ variable_at (p ∷ []) (package_symbol p x)) × HasTypes w p × (w.plain p.path ≡ true)

  -- what it exports is sound
  abbrev pub IsSoundFor : typed.Package → Type 0
  IsSoundFor p = (g : Setting) (d : List ℕ) → IsWithin g → AreSoundNames w g d (names_by p.path (exports_of p))

module _ (packages : List typed.Package) (w : Table) (edition : Edition) (t : Facts) (names : List (List ℕ)) (files : List File) (h : Checked t files) where
  abbrev p : typed.Package
  p = typed_package edition t names files

  module _ (own : HasOwn packages w p) (ps : List Importable) (imported : t.package.imports ≡ imports_of ps files) (sound : (g : Setting) (d : List ℕ) → IsWithin packages w g → AllExport w g d ps) where
    inside_it : (g : Setting) → IsWithin packages w g → IsIn p g
    inside_it g within = (
      λ x. ap (λ (v : Symbol → Option Signature). v (package_symbol p x)) within.0 ∙ own.0 x,
      λ x. ap (λ (v : Symbol → Option Type'). v (package_symbol p x)) within.1 ∙ own.1 x,
    )

    import_sound : (g : Setting) (d : List ℕ) → IsWithin packages w g → (file : ℕ) → AllImports w g d (imports_at t.package file)
    import_sound g d within file =
        subst (λ (is : List (List (List ℕ × Names))). AllImports w g d (unwrap_or (slice_get is file) [])) (sym imported) (files_import w g d ps (sound g d within) files file)

    pub entries_sound : (g : Setting) (d : List ℕ) → IsWithin packages w g → TableSound w g d t.known
    entries_sound g d within = table_sound expected w g d t.package t.known h.told own.3 (import_sound g d within) (linked edition t names files h w own.2 own.3 g (inside_it g within))

    -- names outside of functions
    pub outside_sound : (g : Setting) (d : List ℕ) → IsWithin packages w g → (file : ℕ) (iota : Option ℕ) → IsSoundScope w g d (scope_at t.package t.known file iota)
    outside_sound g d within file iota = scope_sound w g d t.package t.known file iota own.3 (import_sound g d within file) (entries_sound g d within)

    context_sound : (file : ℕ) → SoundOutside expected w packages (context_at t file)
    context_sound file locals results b j = (own.3, λ iota d x k at. (outside_sound (setting_in (signature_at packages) (variable_at packages) locals results b j) d (refl, refl) file iota).1 x k at)

    -- ---- variables

    abbrev here : Setting
    here = record { functions = signature_at packages; variables = variable_at packages; locals = []; results = []; breaks = false; continues = false }

    abbrev SoundVariable : typed.Variable → Type 0
    SoundVariable v = IsSoundType w v.of

    global_sound : (x : List ℕ) (u : Type') (s : Symbol) → declared_at t.known x ≡ Some (value (global u s)) → IsSoundType w u
    global_sound x u s is =
        let entry = entry_of t.known x (value (global u s)) is in
        let own_it = own_sound expected w here [] t.package t.known h.told own.3 (import_sound here [] (refl, refl)) (linked edition t names files h w own.2 own.3 here (inside_it here (refl, refl))) entry.0 entry.1 (value (global u s)) entry.2 in
        own_it.1

    one_variable : (o : DeclaredObject) (e : Option Declared) → declared_at t.known o.name.text ≡ e → (vs : List typed.Variable) → All SoundVariable vs → All SoundVariable (cons_option (variable_in names o e) vs)
    one_variable o (Some (value (global u s))) is vs all =
        let v : typed.Variable = record { name = o.name.text; of = u; file = unwrap_or (slice_get names o.file) []; place = o.name.place } in
        All-cons SoundVariable v vs (global_sound o.name.text u s is) all
    one_variable o None is vs all = all
    one_variable o (Some (value e)) is vs all = all
    one_variable o (Some (type' u)) is vs all = all
    one_variable o (Some (known_function s ts rs)) is vs all = all
    one_variable o (Some println) is vs all = all
    one_variable o (Some length') is vs all = all
    one_variable o (Some capacity') is vs all = all
    one_variable o (Some make') is vs all = all
    one_variable o (Some append') is vs all = all
    one_variable o (Some panic') is vs all = all

    all_sound : (os : List DeclaredObject) → All SoundVariable (variables_in names t.known os)
    all_sound [] = All-nil SoundVariable
    all_sound (o ∷ os) = one_variable o (declared_at t.known o.name.text) refl (variables_in names t.known os) (all_sound os)

    pub variables_sound : All SoundVariable p.variables
    variables_sound = all_sound t.package.objects

    abbrev SoundStored : Stored → Type 0
    SoundStored v = IsSoundType w v.of

    pub stored_sound : All SoundStored (first_variables p)
    stored_sound = All-map SoundStored (stored p) p.variables variables_sound

    -- ---- what it exports

    abbrev SoundSigned : typed.Function → Type 0
    SoundSigned g = AreSoundTypes w g.parameters × AreSoundTypes w g.results

    pub signatures_sound : All SoundSigned p.functions
    signatures_sound =
        numbered_all SoundSigned (λ f x sound. sound) 1 (of_files (top_functions t) 0 files)
        (files_are t SoundSigned (λ file f texts none g is. signature_sound w packages (context_at t file) f (context_sound file) texts g is) 0 files h.texts h.none)

    variable_exported : (g : Setting) (d : List ℕ) → IsWithin packages w g → (x : List ℕ) (e : Export) → look_up_export x (map named_variable p.variables) ≡ Some e → IsSoundDeclared w g d (exported_as p.path x e)
    variable_exported g d within x e at =
        let there = variable_entry p p.variables x e at in
        let u = there.0 in
        let test = λ (v : Stored). same_symbol (package_symbol p x) v.symbol in
        let found = mapped_is (λ (v : Stored). v.of) (find test (first_variables p)) u there.2 in
        let type : IsSoundType w u = subst (IsSoundType w) (sym found.2) (found_of SoundStored test (first_variables p) found.0 stored_sound found.1) in
        let alone : variable_at (p ∷ []) (package_symbol p x) ≡ Some u = ap (λ (vs : List Stored). option_map (λ (v : Stored). v.of) (find test vs)) (append-nil (first_variables p)) ∙ there.2 in
        subst (λ (e : Export). IsSoundDeclared w g d (exported_as p.path x e)) (sym there.1) (inr (inl ((inside_it g within).1 x ∙ alone, type, tt)))

    function_exported : (g : Setting) (d : List ℕ) → IsWithin packages w g → (x : List ℕ) (e : Export) → look_up_export x (map named_function p.functions) ≡ Some e → IsSoundDeclared w g d (exported_as p.path x e)
    function_exported g d within x e at =
        let there = function_entry p.functions x e at in
        let f = there.0 in
        let types = found_of SoundSigned (by_name x) p.functions f signatures_sound there.1 in
        let alone : signature_at (p ∷ []) (package_symbol p x) ≡ Some (record { parameters = f.parameters; results = f.results }) =
        ap (λ (r : Option typed.Function). option_map (λ (f : typed.Function). record { parameters = f.parameters; results = f.results }) r) (function_here edition t names files h x ∙ there.1) in
        subst (λ (e : Export). IsSoundDeclared w g d (exported_as p.path x e)) (sym there.2) ((inside_it g within).0 x ∙ alone, types.0, types.1)

    declared_sound : (g : Setting) (d : List ℕ) → IsWithin packages w g → (x : List ℕ) (e : Export) → look_up_export x (exports.declared_by p) ≡ Some e → IsSoundDeclared w g d (exported_as p.path x e)
    declared_sound g d within x e at =
        let table = entries_sound g d within in
        let Q = λ (e : Export). IsSoundDeclared w g d (exported_as p.path x e) in
        let constants = constants_by t.known in
        let types = types_by t.known in
        let variables = map named_variable p.variables in
        elim (lookup_either x (constants ++ types ++ variables) (map named_function p.functions) e at) [
          | inr f ↦ function_exported g d within x e f
          | inl rest ↦ elim (lookup_either x (constants ++ types) variables e rest) [
            | inr v ↦ variable_exported g d within x e v
            | inl others ↦ elim (lookup_either x constants types e others) [
              | inl c ↦ (let there = constant_entry t.known x e c in subst Q (sym there.2) (table there.3.0 x (value (typed.constant there.0 there.1)) there.3.1))
              | inr u ↦ (let there = type_entry t.known x e u in subst Q (sym there.1) (table there.2.0 x (type' there.0) there.2.1))
            ]
          ]
        ]

    pub exports_sound : IsSoundFor packages w p
    exports_sound g d within x k at =
        let there = names_at p.path (exports_of p) x k at in
        let e = there.0 in
        let out : look_up_export x (exports.declared_by p) ≡ Some e = exported_there (is_exported x) (look_up_export x (exports.declared_by p)) e (sym (found p x) ∙ there.1) in
        subst (IsSoundDeclared w g d) (sym there.2) (declared_sound g d within x e out)

    -- ---- functions

    abbrev Sound : typed.Function → Type 0
    Sound g = IsWellTypedFunction packages g

    pub functions_sound : SoundPackageVariables expected w packages → All (λ (d : meaning.DeclaredFunction). IsWellTypedFunction packages d.function) (package_functions p)
    functions_sound variables =
        let P = λ (d : meaning.DeclaredFunction). IsWellTypedFunction packages d.function in
        All-map P (λ (f : typed.Function). record { symbol = package_symbol p f.name; function = f }) p.functions
        (numbered_all Sound (λ f x sound. record { body = sound.body; ended = sound.ended }) 1 (of_files (top_functions t) 0 files)
        (files_are t Sound (λ file f texts none g is. (function_sound w packages (context_at t file) f refl refl (context_sound file) variables texts none g is).0) 0 files h.texts h.none))

    -- ---- what a program starts with

    no_parameters : (s : Symbol) (us rs : List Type') → known_function s [] [] ≡ known_function s us rs → us ≡ []
    no_parameters s us rs e = cc

    no_results : (s : Symbol) (us rs : List Type') → known_function s [] [] ≡ known_function s us rs → rs ≡ []
    no_results s us rs e = cc

    abbrev signed_by : List Type' → List Type' → Signature
    signed_by us rs = record { parameters = us; results = rs }

    unsigned : (r : Option Signature) (us rs : List Type') → r ≡ Some (signed_by us rs) → us ≡ [] → rs ≡ [] → r ≡ Some (signed_by [] [])
    unsigned r us rs is parameters results = is ∙ ap (λ l. Some (signed_by l rs)) parameters ∙ ap (λ l. Some (signed_by [] l)) results

    main_signature : (f : File) (fs : List File) → files ≡ f ∷ fs → bytes_eq f.package.text (codes "main") ≡ true → main_faults t files ≡ [] → IsWellTypedStart (p ∷ []) (meaning.calls (package_symbol p main))
    main_signature f fs are is none =
        let found = main_object t f fs is (subst (λ (l : List File). main_faults t l ≡ []) are none) (subst FilesHaveTexts are h.texts) in
        let k = found.0 in
        let o = found.1 in
        let objects : t.package.objects ≡ objects_of (f ∷ fs) = h.objects ∙ ap objects_of are in
        let at : slice_get (firsts [] (objects_from 0 (f ∷ fs))) k ≡ Some o = ap (λ (os : List DeclaredObject). slice_get os k) (sym objects) ∙ found.2 in
        let name : main ≡ o.name.text = (bytes_eq-Decides main o.name.text).0 found.3 in
        let form = all_at MainOnly (firsts [] (objects_from 0 (f ∷ fs))) k o (all_firsts MainOnly [] (objects_from 0 (f ∷ fs)) found.4) at ((bytes_eq-Decides o.name.text main).1 (sym name)) in
        let s = package_symbol p o.name.text in
        let verdict : object_verdict t.package t.known o ≡ Fine (known_declared (known_function s [] [])) =
        subst (λ (form : Form). form_verdict (scope_at t.package t.known o.file (iota_in form)) s form ≡ Fine (known_declared (known_function s [] []))) (sym form) refl in
        let of = function_linked edition t names files h k o (known_function s [] []) found.2 (ap is_function form) verdict in
        let parameters : of.0 ≡ [] = no_parameters s of.0 of.1 of.2 in
        let results : of.1 ≡ [] = no_results s of.0 of.1 of.2 in
        subst (λ (x : List ℕ). signature_at (p ∷ []) (package_symbol p x) ≡ Some (signed_by [] [])) (sym name) (unsigned (signature_at (p ∷ []) s) of.0 of.1 of.3 parameters results)

    -- functions init
    init_called : main_faults t files ≡ [] → (k : ℕ) (f : typed.Function) → slice_get p.functions k ≡ Some f → meaning.is_init f ≡ true → IsWellTypedStart packages (meaning.calls (package_symbol p f.name))
    init_called none k f at is =
        let here = (bytes_eq-Decides f.name f.name).1 refl in
        let found = found_some (by_name f.name) EmptyInit p.functions (inits_empty t files h.named none) k f at here in
        let g = found.0 in
        let name : f.name ≡ g.name = (bytes_eq-Decides f.name g.name).0 found.3 in
        let empty = found.2 (ap (λ (x : List ℕ). starts_with nat_eq x (codes "init.")) (sym name) ∙ is) in
        own.0 f.name
        ∙ ap (λ (r : Option typed.Function). option_map (λ (f : typed.Function). signed_by f.parameters f.results) r) (function_here edition t names files h f.name ∙ found.1)
        ∙ unsigned (Some (signed_by g.parameters g.results)) g.parameters g.results refl empty.0 empty.1

    pub inits_start : main_faults t files ≡ [] → All (IsWellTypedStart packages) (map (λ (f : typed.Function). meaning.calls (package_symbol p f.name)) (filter meaning.is_init p.functions))
    inits_start none =
        All-map (IsWellTypedStart packages) (λ (f : typed.Function). meaning.calls (package_symbol p f.name)) (filter meaning.is_init p.functions)
        (filtered meaning.is_init (λ (f : typed.Function). IsWellTypedStart packages (meaning.calls (package_symbol p f.name))) p.functions (init_called none))

    -- initial values
    variable_stored : (k : ℕ) (o : DeclaredObject) (u : Type') (s : Symbol) → slice_get t.package.objects k ≡ Some o → slice_get t.known k ≡ Some (o.name.text, Some (value (global u s))) → variable_at packages (package_symbol p o.name.text) ≡ Some u
    variable_stored k o u s there at = own.1 o.name.text ∙ variable_linked edition t names files h k o u s there at

    -- what it starts with
    pub steps_start : main_faults t files ≡ [] → All (IsWellTypedStart packages) (package_steps p)
    steps_start none =
        All-append (IsWellTypedStart packages) (map (meaning.sets p.path) (variable_order p).0) (map (λ (f : typed.Function). meaning.calls (package_symbol p f.name)) (filter meaning.is_init p.functions))
        (initial_start packages w edition t names files h (λ file. outside_sound (package_setting packages) [] (refl, refl) file None) variable_stored) (inits_start none)

    main_alone : (fs : List File) → files ≡ fs → p.name ≡ codes "main" → main_faults t files ≡ [] → IsWellTypedStart (p ∷ []) (meaning.calls (package_symbol p main))
    main_alone [] are named none = absurd (let no : [] ≡ codes "main" = ap package_name (sym are) ∙ named in cc (no))
    main_alone (f ∷ fs) are named none = main_signature f fs are ((bytes_eq-Decides f.package.text (codes "main")).1 (ap package_name (sym are) ∙ named)) none

    pub main_start : p.name ≡ codes "main" → main_faults t files ≡ [] → IsWellTypedStart packages (meaning.calls (package_symbol p main))
    main_start named none = own.0 main ∙ main_alone files refl named none

    some_of : {A B : Type 0} (f : A → B) (o : Option A) (y : B) → option_map f o ≡ Some y → IsSome o
    some_of f None y h = absurd cc
    some_of f (Some x) y h = refl

    -- it has a function main
    pub has_main : p.name ≡ codes "main" → main_faults t files ≡ [] → HasMain (Some p)
    has_main named none =
        let there = some_of _ (meaning.function_by_symbol (p ∷ []) (package_symbol p main)) _ (main_alone files refl named none) in
        (named, subst IsSome (function_here edition t names files h main) there)
