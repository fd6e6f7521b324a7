-- The linker finds all that well typed packages refer to: where they are a program of one edition, they are linked.
use Rattle.std.proofs.Common.{◌≡◌, ℕ, ◌⊎◌, inl, inr, Bool, true, false, not, ◌||◌, List, [], ◌∷◌, ◌++◌, map, Option, Some, None, refl, sym, ap, ◌∙◌, cond}
use Rattle.std.specs.Prelude.{is_some, if◌then◌else◌}
use Rattle.std.specs.List.{All, filter, find, flat_map, list_any}
use Rattle.std.specs.Option.{option_map}
use Rattle.std.proofs.lemmas.List.Elements.{All-nil, All-cons, All-head, All-tail}
use Rattle.go_code.specs.Functions.{Setup}
use Rattle.go_code.specs.Packages.{PackageFunction}
use Rattle.go_symbol.specs.Symbols as symbols
use Rattle.go_link.specs.declared.link.LinkError.{LinkError}
use Rattle.go_link.specs.declared.link.LinkError.TheVariants.{NoMain, NameMissing, EditionsDiffer}
use Rattle.go_symbol.specs.Symbols.{same_symbol}
use Rattle.go_link.specs.Links.{LinkedVariable, function_symbols, variables, code_of, editions_differ, name_missing, has_main, link_refusal}
use Rattle.go_typed.specs.Trees.{Function, Initialization, Package}
use Rattle.go_init.specs.Variables.{variable_order}
use Rattle.go_meaning.specs.Meaning.{Stored}
use Rattle.go_meaning.specs.Programs.{DeclaredFunction, package_symbol, package_functions, first_variables, is_init, last_package, StartStep, sets, calls, package_steps, main_steps, IsProgram}
use Rattle.go_gen.specs.Translation.{symbol_code, translated_function, translated_setup, object_of}
use Rattle.go_meaning_laws.specs.WellTyped.{Setting, setting, package_setting, signature_at, variable_at, IsWellTypedFunction, IsWellTypedStart, IsWellTyped}
use Rattle.go_translation_laws.specs.Programs.{HaveOneEdition}
use Rattle.go_translation_laws.proofs.Editions.{alike, one_edition}
use Rattle.go_translation_laws.proofs.FirstVariables.{placed, variables_linked}
use Rattle.go_translation_laws.proofs.Images.{objects_of, all_functions, declared_in, symbol_in, names_linked}
use Rattle.go_translation_laws.proofs.Named.{Present, Named, Callable, both_named}
use Rattle.go_translation_laws.proofs.NamedBodies.{function_calls_named, setup_named}
use Rattle.go_translation_laws.proofs.Refusals.{has_main_if}

-- ---- what is referred to

-- what the linker knows of packages
abbrev pub present : List Package → Present
present packages = (function_symbols (objects_of packages), variables (objects_of packages))

found_or : {A : Type 0} (b : Bool) (x : A) (o : Option A) → (b || is_some o) ≡ is_some (cond b (Some x) o)
found_or true x o = refl
found_or false x o = refl

-- one of them passes where one is found
any_found : {A B : Type 0} (p : A → Bool) (q : B → Bool) (h : A → B) → ((a : A) → q (h a) ≡ p a) → (xs : List A) → list_any q (map h xs) ≡ is_some (find p xs)
any_found p q h same [] = refl
any_found p q h same (x ∷ xs) =
    ap (λ b. b || list_any q (map h xs)) (same x) ∙ ap (λ b. p x || b) (any_found p q h same xs) ∙ found_or (p x) x (find p xs)

some_if : {A B : Type 0} (h : A → B) (o : Option A) (x : B) → option_map h o ≡ Some x → is_some o ≡ true
some_if h None x e = absurd (cc)
some_if h (Some f) x e = refl

made_if : {A B C : Type 0} (h : A → B) (g : B → C) (o : Option A) (x : C) → option_map g (option_map h o) ≡ Some x → is_some o ≡ true
made_if h g None x e = absurd (cc)
made_if h g (Some a) x e = refl

-- a function that has a signature in the program, and a variable that has a type, is one of the objects'
called : (packages : List Package) (g : Setting) → g.functions ≡ signature_at packages → g.variables ≡ variable_at packages → Callable (present packages) symbol_code symbol_code g
called packages g functions held = (
  (λ s x e.
      let is : DeclaredFunction → Bool = λ d. same_symbol s d.symbol in
      ap (list_any (same_symbol (symbol_code s))) (names_linked packages)
      ∙ any_found is (same_symbol (symbol_code s)) symbol_in (λ d. refl) (all_functions packages)
      ∙ made_if (λ (d : DeclaredFunction). d.function) (λ (f : Function). record { parameters = f.parameters; results = f.results }) (find is (all_functions packages)) x (sym (ap (λ h. h s) functions) ∙ e)),
  (λ s t e.
      let is : Stored → Bool = λ x. same_symbol s x.symbol in
      let of : LinkedVariable → Bool = λ v. same_symbol (symbol_code s) v.0 in
      ap (list_any of) (variables_linked packages)
      ∙ any_found is of placed (λ x. refl) (flat_map first_variables packages)
      ∙ some_if (λ (x : Stored). x.of) (find is (flat_map first_variables packages)) t (sym (ap (λ h. h s) held) ∙ e)),
)

-- ---- the code of objects

all_before : {X : Type 0} (P : X → Type 0) (xs ys : List X) → All P (xs ++ ys) → All P xs
all_before P [] ys h = All-nil P
all_before P (x ∷ xs) ys h = All-cons P x xs (All-head P x (xs ++ ys) h) (all_before P xs ys (All-tail P x (xs ++ ys) h))

all_behind : {X : Type 0} (P : X → Type 0) (xs ys : List X) → All P (xs ++ ys) → All P ys
all_behind P [] ys h = h
all_behind P (x ∷ xs) ys h = all_behind P xs ys (All-tail P x (xs ++ ys) h)

module _ (packages : List Package) where
  abbrev IsSound : DeclaredFunction → Type 0
  IsSound d = IsWellTypedFunction packages d.function

  abbrev IsSet : StartStep → Type 0
  IsSet = IsWellTypedStart packages

  functions_named : (typed : Package) (fs : List Function) → All IsSound (map (declared_in typed) fs) → Named (present packages) (flat_map (λ (f : PackageFunction). f.function.code) (map translated_function fs))
  functions_named typed [] h = refl
  functions_named typed (f ∷ fs) h =
      let rest = map (declared_in typed) fs in
      both_named (present packages) (translated_function f).function.code _
      (function_calls_named (present packages) packages symbol_code symbol_code f (called packages (setting packages f) refl refl) (All-head IsSound (declared_in typed f) rest h))
      (functions_named typed fs (All-tail IsSound (declared_in typed f) rest h))

  setups_named : (path : List ℕ) (is : List Initialization) → All IsSet (map (sets path) is) → Named (present packages) (flat_map (λ (s : Setup symbols.Symbol). s.code) (map (translated_setup symbol_code symbol_code path) is))
  setups_named path [] h = refl
  setups_named path (i ∷ is) h =
      let rest = map (sets path) is in
      both_named (present packages) (translated_setup symbol_code symbol_code path i).code _
      (setup_named (present packages) packages symbol_code symbol_code path i (called packages (package_setting packages) refl refl) (All-head IsSet (sets path i) rest h))
      (setups_named path is (All-tail IsSet (sets path i) rest h))

  codes_named : (ps : List Package) → All IsSound (all_functions ps) → All IsSet (flat_map package_steps ps) → Named (present packages) (flat_map code_of (objects_of ps))
  codes_named [] h k = refl
  codes_named (p ∷ ps) h k =
      let set : List StartStep = map (sets p.path) (variable_order p).0 in
      let inits : List StartStep = map (λ (f : Function). calls (package_symbol p f.name)) (filter is_init p.functions) in
      both_named (present packages) (code_of (object_of p)) (flat_map code_of (objects_of ps))
      (both_named (present packages) (flat_map (λ (f : PackageFunction). f.function.code) (map translated_function p.functions)) _
      (functions_named p p.functions (all_before IsSound (package_functions p) (all_functions ps) h))
      (setups_named p.path (variable_order p).0 (all_before IsSet set inits (all_before IsSet (package_steps p) (flat_map package_steps ps) k))))
      (codes_named ps (all_behind IsSound (package_functions p) (all_functions ps) h) (all_behind IsSet (package_steps p) (flat_map package_steps ps) k))

-- no name is missing
pub names_found : (packages : List Package) → IsWellTyped packages → name_missing (objects_of packages) ≡ false
names_found packages well =
    codes_named packages packages well.functions (all_before (IsWellTypedStart packages) (flat_map package_steps packages) (main_steps (last_package packages)) well.start)

-- ---- the linker's answer

-- a program's answer hangs on the editions alone
by_editions : (packages : List Package) → IsWellTyped packages → IsProgram packages → link_refusal (map object_of packages) ≡ (if editions_differ (objects_of packages) then Some EditionsDiffer else None)
by_editions packages well is =
    ap (λ b. if not b then Some NoMain else (if name_missing (objects_of packages) then Some NameMissing else (if editions_differ (objects_of packages) then Some EditionsDiffer else None))) (has_main_if packages is)
    ∙ ap (λ b. if b then Some NameMissing else (if editions_differ (objects_of packages) then Some EditionsDiffer else None)) (names_found packages well)

pub program_linked : (packages : List Package) → IsWellTyped packages → IsProgram packages → HaveOneEdition packages → link_refusal (map object_of packages) ≡ None
program_linked packages well is one = by_editions packages well is ∙ ap (λ b. if b then Some EditionsDiffer else None) (one_edition packages one)

-- a program of several editions is refused for that
pub program_differs : (packages : List Package) → IsWellTyped packages → IsProgram packages → ¬ (HaveOneEdition packages) → link_refusal (map object_of packages) ≡ Some EditionsDiffer
program_differs packages well is several = by_editions packages well is ∙ by_test (editions_differ (objects_of packages)) refl
  where
    by_test : (b : Bool) → editions_differ (objects_of packages) ≡ b → (if b then Some EditionsDiffer else None) ≡ Some EditionsDiffer
    by_test true e = refl
    by_test false e = absurd (several (alike packages e))

-- no refusal is for a missing name
pub refused_for : (packages : List Package) → IsWellTyped packages → (e : LinkError) → link_refusal (map object_of packages) ≡ Some e → (e ≡ NoMain) ⊎ ((e ≡ EditionsDiffer) × ¬ (HaveOneEdition packages))
refused_for packages well e h =
    by_main (has_main (objects_of packages)) (editions_differ (objects_of packages)) refl
    (ap (λ b. if not (has_main (objects_of packages)) then Some NoMain else (if b then Some NameMissing else (if editions_differ (objects_of packages) then Some EditionsDiffer else None))) (sym (names_found packages well)) ∙ h)
  where
    by_main : (b c : Bool) → editions_differ (objects_of packages) ≡ c → (if not b then Some NoMain else (if c then Some EditionsDiffer else None)) ≡ Some e → (e ≡ NoMain) ⊎ ((e ≡ EditionsDiffer) × ¬ (HaveOneEdition packages))
    by_main true true d k = inr (cc, λ one. (let wrong : true ≡ false = sym d ∙ one_edition packages one in cc (wrong)))
    by_main true false d k = absurd (cc)
    by_main false c d k = inl (cc)
