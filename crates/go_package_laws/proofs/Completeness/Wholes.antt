-- The typed tree of a package without fault leaves nothing out.
use Rattle.std.proofs.Common.{◌≡◌, ℕ, suc, List, [], ◌∷◌, ◌++◌, Option, Some, None, map, codes, append_assoc, refl, sym, ap, ◌∙◌, subst, inl, inr}
use Rattle.std.specs.Prelude.{bytes_eq, option_map, if◌then◌else◌}
use Rattle.std.specs.Fmt.{decimal}
use Rattle.std.specs.List.{flat_map}
use Rattle.std.proofs.lemmas.Bool.{cases_Bool}
use Rattle.std.proofs.lemmas.List.{map-append}
use Rattle.go_text.specs.declared.edition.Edition.{Edition}
use Rattle.go_ast.specs.Trees.{constants, variables, types, VarSpec, FunctionDecl, TopLevel, declared, function, File}
use Rattle.go_types.specs.Types.{Type'}
use Rattle.go_typed.specs.Trees as typed
use Rattle.go_stmt.specs.Scopes.{Context, nothing}
use Rattle.go_stmt.specs.Functions.{CheckedParts, whole_at, function_from, function_at}
use Rattle.go_objects.specs.Objects.{objects_of}
use Rattle.go_objects.specs.Table.{PackageTable, own_names, imports_at, scope_at}
use Rattle.go_package.specs.Faults.{Facts, context_at, var_spec_faults, top_faults, files_faults}
use Rattle.go_package.specs.Imports.{Importable}
use Rattle.go_package.specs.Packages.{package_in}
use Rattle.go_scope.specs.Scopes.{is_blank}
use Rattle.go_package.specs.Typed.{spec_initializations, top_initializations, top_uses, top_functions, with_numbers, of_files, IsTypedIn}
use Rattle.go_package.proofs.Whole.{no_faults}
use Rattle.go_package_laws.specs.Finds.{IsKnown, AllImportsAreKnown, AreKnown}
use Rattle.go_package_laws.specs.Whole.{AreParsed, is_constant_form, is_type, is_variable, objects_named, all_declared_by, in_files, function_names, numbered_names as names_with_numbers, valued_names, valued_in, HasAllDeclarations}
use Rattle.go_package_laws.proofs.Completeness.Faultless.{two_none}
use Rattle.go_package_laws.proofs.Completeness.Leaves.{Tells}
use Rattle.go_package_laws.proofs.Completeness.Packages.{outside_told, functions_known}
use Rattle.go_package_laws.proofs.Completeness.Known.{given, objects_known}
use Rattle.go_package_laws.proofs.Completeness.Grammar.{AllLocal, parsed_local}
use Rattle.go_package_laws.proofs.Completeness.Objects.{constants_whole, types_whole, variables_whole}
use Rattle.go_package_laws.proofs.Completeness.Dropped.{nothing_dropped}
use Rattle.go_package_laws.proofs.Completeness.Initialized.{named_in, spec_initialized}

unmapped : {A B : Type 0} (f : A → B) (xs : List A) → map f xs ≡ [] → xs ≡ []
unmapped f [] h = refl
unmapped f (x ∷ xs) h = absurd cc

parts_none : {A : Type 0} (xs ys : List A) → xs ++ ys ≡ [] → (xs ≡ []) × (ys ≡ [])
parts_none [] ys h = (refl, h)
parts_none (x ∷ xs) ys h = absurd cc

two : {A : Type 0} (a b c d : List A) → a ≡ b → c ≡ d → a ++ c ≡ b ++ d
two a b c d e f = ap (λ x. x ++ c) e ∙ ap (λ x. b ++ x) f

-- ---- functions

abbrev names : List typed.Function → List (List ℕ)
names fs = map (λ (f : typed.Function). f.name) fs

named_by : (f : FunctionDecl) (ts : List Type') (o : Option CheckedParts) (g : typed.Function) → option_map (function_from f ts) o ≡ Some g → g.name ≡ f.name.text
named_by f ts None g is = absurd cc
named_by f ts (Some k) g is = (let same : function_from f ts k ≡ g = cc in sym (ap (λ (h : typed.Function). h.name) same))

function_named : (c : Context) (f : FunctionDecl) (g : typed.Function) → (function_at c f).known ≡ Some g → g.name ≡ f.name.text
unfolding function_at
function_named c f g is =
    named_by f (whole_at c f nothing).after.types (whole_at c f nothing).known g is

one_function : (t : Facts) (file : ℕ) (f : FunctionDecl) → IsKnown (function_at (context_at t file) f).known → names (top_functions t file (function f)) ≡ own_names (f.name ∷ [])
one_function t file f k =
    ap (λ (o : Option typed.Function). names (elim o [ None ↦ [] | Some g ↦ if is_blank f.name.text then [] else g ∷ [] ])) k.1
    ∙ elim (cases_Bool (bytes_eq f.name.text (codes "_"))) [
      | inl blank ↦ rw blank refl
      | inr named ↦ rw named (ap (λ x. x ∷ []) (function_named (context_at t file) f k.0 k.1))
    ]

tops_named : (t : Facts) (file : ℕ) → AllImportsAreKnown (imports_at t.package file) → AreKnown t.known → (tops : List TopLevel) → AllLocal tops → flat_map (top_faults t file) tops ≡ []
    → names (flat_map (top_functions t file) tops) ≡ flat_map function_names tops
tops_named t file whole known [] local none = refl
tops_named t file whole known (declared d ∷ tops) local none =
    tops_named t file whole known tops local (two_none (top_faults t file (declared d)) (flat_map (top_faults t file) tops) none).1
tops_named t file whole known (function f ∷ tops) local none =
    let ns = two_none (top_faults t file (function f)) (flat_map (top_faults t file) tops) none in
    map-append (λ (g : typed.Function). g.name) (top_functions t file (function f)) (flat_map (top_functions t file) tops)
    ∙ two (names (top_functions t file (function f))) (own_names (f.name ∷ [])) (names (flat_map (top_functions t file) tops)) (flat_map function_names tops)
    (one_function t file f (functions_known t file f whole known local.0 ns.0)) (tops_named t file whole known tops local.1 ns.1)

functions_named : (edition : Edition) (t : Facts) (number : ℕ) → ((file : ℕ) → AllImportsAreKnown (imports_at t.package file)) → AreKnown t.known → (files : List File) → AreParsed edition files → files_faults t number files ≡ []
    → names (of_files (top_functions t) number files) ≡ in_files function_names files
functions_named edition t number whole known [] are none = refl
functions_named edition t number whole known (f ∷ fs) are none =
    let own = flat_map (top_faults t number) f.declarations in
    let ns = parts_none (map (λ x. (number, x)) own) (files_faults t (suc number) fs) none in
    let here = flat_map (top_functions t number) f.declarations in
    let rest = of_files (top_functions t) (suc number) fs in
    map-append (λ (g : typed.Function). g.name) here rest
    ∙ two (names here) (flat_map function_names f.declarations) (names rest) (in_files function_names fs)
    (tops_named t number (whole number) known f.declarations (parsed_local edition (are.0).0 f (are.0).1) (unmapped (λ x. (number, x)) own ns.0))
    (functions_named edition t (suc number) whole known fs are.1 ns.1)

numbered : (n : ℕ) (fs : List typed.Function) → names (with_numbers n fs) ≡ names_with_numbers n (names fs)
numbered n [] = refl
numbered n (f ∷ fs) = elim (cases_Bool (bytes_eq f.name (codes "init"))) [
  | inl is ↦ rw is (ap (λ l. (codes "init." ++ decimal n) ∷ l) (numbered (suc n) fs))
  | inr not' ↦ rw not' (ap (λ l. f.name ∷ l) (numbered n fs))
]

-- ---- uses

abbrev users : List (List ℕ × List (List ℕ)) → List (List ℕ)
users us = map (λ (u : List ℕ × List (List ℕ)). u.0) us

top_used : (t : Facts) (file : ℕ) (top : TopLevel) → users (top_uses t file top) ≡ function_names top
top_used t file (declared d) = refl
top_used t file (function f) = elim (cases_Bool (bytes_eq f.name.text (codes "_"))) [ inl blank ↦ rw blank refl | inr named ↦ rw named refl ]

tops_used : (t : Facts) (file : ℕ) (tops : List TopLevel) → users (flat_map (top_uses t file) tops) ≡ flat_map function_names tops
tops_used t file [] = refl
tops_used t file (top ∷ tops) =
    map-append (λ (u : List ℕ × List (List ℕ)). u.0) (top_uses t file top) (flat_map (top_uses t file) tops)
    ∙ two (users (top_uses t file top)) (function_names top) (users (flat_map (top_uses t file) tops)) (flat_map function_names tops) (top_used t file top) (tops_used t file tops)

files_used : (t : Facts) (number : ℕ) (files : List File) → users (of_files (top_uses t) number files) ≡ in_files function_names files
files_used t number [] = refl
files_used t number (f ∷ fs) =
    let here = flat_map (top_uses t number) f.declarations in
    let rest = of_files (top_uses t) (suc number) fs in
    map-append (λ (u : List ℕ × List (List ℕ)). u.0) here rest
    ∙ two (users here) (flat_map function_names f.declarations) (users rest) (in_files function_names fs) (tops_used t number f.declarations) (files_used t (suc number) fs)

-- ---- initializations

named_more : (xs ys : List typed.Initialization) → named_in (xs ++ ys) ≡ named_in xs ++ named_in ys
named_more [] ys = refl
named_more (x ∷ xs) ys = ap (λ l. x.variables ++ l) (named_more xs ys) ∙ sym (append_assoc x.variables (named_in xs) (named_in ys))

specs_initialized : (t : Facts) (called : List (List ℕ)) (file : ℕ) → Tells (scope_at t.package t.known file None) → (ss : List VarSpec) → flat_map (var_spec_faults t file) ss ≡ []
    → named_in (flat_map (spec_initializations t called file) ss) ≡ flat_map valued_names ss
specs_initialized t called file tells [] none = refl
specs_initialized t called file tells (s ∷ ss) none =
    let ns = two_none (var_spec_faults t file s) (flat_map (var_spec_faults t file) ss) none in
    named_more (spec_initializations t called file s) (flat_map (spec_initializations t called file) ss)
    ∙ two (named_in (spec_initializations t called file s)) (valued_names s) (named_in (flat_map (spec_initializations t called file) ss)) (flat_map valued_names ss)
    (spec_initialized t called file tells s.names s.type s.values ns.0) (specs_initialized t called file tells ss ns.1)

top_initialized : (t : Facts) (called : List (List ℕ)) (file : ℕ) → Tells (scope_at t.package t.known file None) → (top : TopLevel) → top_faults t file top ≡ [] → named_in (top_initializations t called file top) ≡ valued_in top
top_initialized t called file tells (declared (constants p ss)) none = refl
top_initialized t called file tells (declared (variables p ss)) none = specs_initialized t called file tells ss none
top_initialized t called file tells (declared (types p ss)) none = refl
top_initialized t called file tells (function f) none = refl

tops_initialized : (t : Facts) (called : List (List ℕ)) (file : ℕ) → Tells (scope_at t.package t.known file None) → (tops : List TopLevel) → flat_map (top_faults t file) tops ≡ []
    → named_in (flat_map (top_initializations t called file) tops) ≡ flat_map valued_in tops
tops_initialized t called file tells [] none = refl
tops_initialized t called file tells (top ∷ tops) none =
    let ns = two_none (top_faults t file top) (flat_map (top_faults t file) tops) none in
    named_more (top_initializations t called file top) (flat_map (top_initializations t called file) tops)
    ∙ two (named_in (top_initializations t called file top)) (valued_in top) (named_in (flat_map (top_initializations t called file) tops)) (flat_map valued_in tops)
    (top_initialized t called file tells top ns.0) (tops_initialized t called file tells tops ns.1)

files_initialized : (t : Facts) (called : List (List ℕ)) (number : ℕ) → ((file : ℕ) → Tells (scope_at t.package t.known file None)) → (files : List File) → files_faults t number files ≡ []
    → named_in (of_files (top_initializations t called) number files) ≡ in_files valued_in files
files_initialized t called number tells [] none = refl
files_initialized t called number tells (f ∷ fs) none =
    let own = flat_map (top_faults t number) f.declarations in
    let ns = parts_none (map (λ x. (number, x)) own) (files_faults t (suc number) fs) none in
    let here = flat_map (top_initializations t called number) f.declarations in
    let rest = of_files (top_initializations t called) (suc number) fs in
    named_more here rest
    ∙ two (named_in here) (flat_map valued_in f.declarations) (named_in rest) (in_files valued_in fs)
    (tops_initialized t called number (tells number) f.declarations (unmapped (λ x. (number, x)) own ns.0))
    (files_initialized t called (suc number) tells fs ns.1)

-- ---- packages

pub typed_whole : (path : List ℕ) (files : List File) (ps : List Importable) (edition : Edition) (file_names : List (List ℕ)) (p : typed.Package) → AllImportsAreKnown (map (λ (p : Importable). (p.path, p.exports)) ps) → AreParsed edition files
    → IsTypedIn edition (package_in edition path files ps) files ps file_names p → HasAllDeclarations files p
typed_whole path files ps edition file_names p whole are of =
    let t = of.facts in
    let h = given edition path files ps t whole of.are of.none in
    let known = objects_known edition path files ps t whole of.are of.none in
    let objects : t.package.objects ≡ objects_of files = ap (λ (q : PackageTable). q.objects) of.are.package_is in
    let none = no_faults ps t files of.none in
    let all : t.package.objects ≡ all_declared_by files = objects ∙ nothing_dropped edition path files ps t are of.are of.none in
    subst (HasAllDeclarations files) (sym of.is) (record {
      constants = constants_whole t h ∙ ap (objects_named is_constant_form) all;
      types = types_whole t h ∙ ap (objects_named is_type) all;
      variables = variables_whole t files file_names h objects ∙ ap (objects_named is_variable) all;
      initializations = files_initialized t file_names 0 (λ file. outside_told t file (h.whole file) known None) files none;
      uses = files_used t 0 files;
      functions = numbered 1 (of_files (top_functions t) 0 files) ∙ ap (names_with_numbers 1) (functions_named edition t 0 h.whole known files are none);
    })
