-- What a package's table has of its names is what the typed package has: its types, its variables and its functions.
use Rattle.std.proofs.Common.{◌≡◌, ℕ, true, List, [], ◌∷◌, Option, Some, None, append-nil, sym, ap, ◌∙◌, subst, refl}
use Rattle.std.specs.Prelude.{bytes_eq, option_map}
use Rattle.std.specs.List.{slice_get, find}
use Rattle.std.specs.Map.{lookup}
use Rattle.go_text.specs.declared.edition.Edition.{Edition}
use Rattle.go_scan.specs.Words.{IsWord}
use Rattle.go_ast.specs.Trees.{TypeExpr, FunctionDecl, File}
use Rattle.go_types.specs.Types.{Type', named}
use Rattle.go_typed.specs.Trees as typed
use Rattle.go_typed.specs.Trees.{Symbol, global}
use Rattle.go_symbol.specs.Symbols.{same_symbol}
use Rattle.go_meaning.specs.Programs.{package_symbol, package_functions}
use Rattle.go_meaning.specs.Programs as meaning
use Rattle.go_expr.specs.Known.{Declared, value, type', function, declared, Fine}
use Rattle.go_stmt.specs.Functions.{function_at}
use Rattle.go_objects.specs.Objects.{Form, constant, type' as type_form, typed_variable, valued_variable, result_variable, function', other, DeclaredObject, firsts, objects_from, objects_of}
use Rattle.go_objects.specs.Table.{iota_in, scope_at, form_verdict, object_verdict}
use Rattle.go_package.specs.Faults.{Facts, context_at, function_faults, files_faults}
use Rattle.go_package.specs.Typed.{top_functions, of_files, typed_package}
use Rattle.go_package_laws.specs.Finds.{IsKnown, AreKnown}
use Rattle.go_package_laws.specs.Locals.{IsLocalBlock}
use Rattle.go_package_laws.proofs.Completeness.Apart.{AreApart}
use Rattle.go_meaning_laws.specs.WellTyped.{Signature, Setting, signature_at, variable_at}
use Rattle.go_package_laws.proofs.Soundness.{Table}
use Rattle.go_package_laws.proofs.DeclaredTexts.{FilesHaveTexts}
use Rattle.go_package_laws.proofs.Forms.{Shape, IsNamedFor, IsWellNamed, IsLinked, function_parts, shaped}
use Rattle.go_package_laws.proofs.Tables.{Told, entry_is, object_of}
use Rattle.go_package_laws.proofs.Once.{Once, texts, firsts_once, keys, declared_here, type_found, variable_found}
use Rattle.go_package_laws.proofs.Fits.{is_function, all_firsts, all_at}
use Rattle.go_package_laws.proofs.Signed.{signed}
use Rattle.go_package_laws.proofs.Parsed.{FilesNamed}
use Rattle.go_package_laws.proofs.Numbers.{NotNumbered, files_not_numbered, found_numbered}
use Rattle.go_package_laws.proofs.Found.{LocalFiles, NotInit, FunctionOf, by_name, files_not_init, first_found, files_found, by_symbol}

-- what is given of a package without fault
pub record Checked (t : Facts) (files : List File) : Type 0 where
  pub told : Told t.package t.known
  pub objects : t.package.objects ≡ objects_of files
  pub all : AreKnown t.known
  pub texts : FilesHaveTexts files
  pub named : FilesNamed files
  pub apart : AreApart [] (objects_from 0 files)
  pub local : LocalFiles files
  pub none : files_faults t 0 files ≡ []
  pub known : (file : ℕ) (f : FunctionDecl) → IsLocalBlock f.body → function_faults t file f ≡ [] → IsKnown (function_at (context_at t file) f).known

-- what some declared type is declared as
abbrev pub declared_as : Option Type' → Option Type'
declared_as (Some (named path name t)) = Some t
declared_as t = None

-- a table has the package's types
abbrev pub HasTypes : Table → typed.Package → Type 0
HasTypes w p = (x : List ℕ) → w.types p.path x ≡ declared_as (lookup (bytes_eq x) p.types)

-- a setting has the package's functions and variables
abbrev pub IsIn : typed.Package → Setting → Type 0
IsIn p g = ((x : List ℕ) → g.functions (package_symbol p x) ≡ signature_at (p ∷ []) (package_symbol p x)) × ((x : List ℕ) → g.variables (package_symbol p x) ≡ variable_at (p ∷ []) (package_symbol p x))

module _ (edition : Edition) (t : Facts) (names : List (List ℕ)) (files : List File) (h : Checked t files) where
  abbrev p : typed.Package
  p = typed_package edition t names files

  pub objects_once : Once (texts t.package.objects)
  objects_once = subst (λ (os : List DeclaredObject). Once (texts os)) (sym h.objects) (firsts_once [] (objects_from 0 files))

  pub known_once : Once (keys t.known)
  known_once = subst Once (sym h.told.table.named) objects_once

  -- ---- variables

  pub variable_linked : (k : ℕ) (o : DeclaredObject) (u : Type') (s : Symbol) → slice_get t.package.objects k ≡ Some o → slice_get t.known k ≡ Some (o.name.text, Some (value (global u s)))
      → variable_at (p ∷ []) (package_symbol p o.name.text) ≡ Some u
  variable_linked k o u s there at =
      variable_found p names t.known t.package.objects [] objects_once k o u s there (declared_here t.known known_once k o.name.text (value (global u s)) at)

  -- ---- functions

  found_function : (k : ℕ) (o : DeclaredObject) → slice_get t.package.objects k ≡ Some o → is_function o.form ≡ true → FunctionOf t h.known o.name.text o p.functions
  found_function k o there is =
      let at : slice_get (firsts [] (objects_from 0 files)) k ≡ Some o = ap (λ (os : List DeclaredObject). slice_get os k) (sym h.objects) ∙ there in
      let first = first_found [] (objects_from 0 files) k o at in
      let not_init = all_at NotInit (firsts [] (objects_from 0 files)) k o (all_firsts NotInit [] (objects_from 0 files) (files_not_init 0 files h.texts)) at is in
      let not_numbered = all_at NotNumbered (firsts [] (objects_from 0 files)) k o (all_firsts NotNumbered [] (objects_from 0 files) (files_not_numbered 0 files h.texts h.named)) at is in
      let found = files_found t h.known o.name.text first.1 not_init 0 files h.texts h.local h.none o is first.2 in
      (found.0, found.1, found.2, found.3, found_numbered o.name.text not_init not_numbered 1 (of_files (top_functions t) 0 files) ∙ found.4)

  pub function_here : (x : List ℕ) → meaning.function_by_symbol (p ∷ []) (package_symbol p x) ≡ find (by_name x) p.functions
  function_here x =
      ap (λ (ds : List meaning.DeclaredFunction). option_map (λ (d : meaning.DeclaredFunction). d.function) (find (λ (d : meaning.DeclaredFunction). same_symbol (package_symbol p x) d.symbol) ds)) (append-nil (package_functions p))
      ∙ by_symbol p x p.functions

  abbrev signature : typed.Function → Signature
  signature f = record { parameters = f.parameters; results = f.results }

  abbrev signed_by : List Type' → List Type' → Signature
  signed_by us rs = record { parameters = us; results = rs }

  same_signature : (f g : List Type') (r q : List Type') → Some f ≡ Some g → Some r ≡ Some q → Some (signed_by f r) ≡ Some (signed_by g q)
  same_signature f g r q a b =
      let one : f ≡ g = cc (a) in
      let two : r ≡ q = cc (b) in
      ap (λ l. Some (signed_by l r)) one ∙ ap (λ l. Some (signed_by g l)) two

  -- a function's declaration is known by its typed tree
  pub function_linked : (k : ℕ) (o : DeclaredObject) (e : Declared) → slice_get t.package.objects k ≡ Some o → is_function o.form ≡ true → object_verdict t.package t.known o ≡ Fine (declared e)
      → (us rs : List Type') × (e ≡ function (package_symbol p o.name.text) us rs) × (signature_at (p ∷ []) (package_symbol p o.name.text) ≡ Some (record { parameters = us; results = rs }))
  function_linked k o e there is verdict =
      let found = found_function k o there is in
      let f = found.0 in
      let g = found.1 in
      let s = scope_at t.package t.known o.file None in
      let here : form_verdict s (package_symbol p o.name.text) (function' f.parameters f.results) ≡ Fine (declared e) =
      subst (λ (form : Form). form_verdict (scope_at t.package t.known o.file (iota_in form)) (package_symbol p o.name.text) form ≡ Fine (declared e)) found.2 verdict in
      let parts = function_parts s (package_symbol p o.name.text) f.parameters f.results e here in
      let of = signed (context_at t o.file) f g found.3 in (
        parts.0,
        parts.1,
        parts.4,
        ap (λ (r : Option typed.Function). option_map signature r) (function_here o.name.text ∙ found.4)
            ∙ same_signature g.parameters parts.0 g.results parts.1 (sym of.1 ∙ parts.2) (sym of.2 ∙ parts.3),
      )

  -- ---- all of them

  module _ (w : Table) (types : HasTypes w p) (plain : w.plain p.path ≡ true) (g : Setting) (inside : IsIn p g) where
    type_linked : (k : ℕ) (x : List ℕ) (u : Type') → slice_get t.known k ≡ Some (x, Some (type' (named t.package.path x u))) → w.types t.package.path x ≡ Some u
    type_linked k x u at = types x ∙ ap declared_as (type_found t.known known_once k x (named t.package.path x u) at)

    variable_here : (k : ℕ) (o : DeclaredObject) (e : Declared) → slice_get t.package.objects k ≡ Some o → slice_get t.known k ≡ Some (o.name.text, Some e) → (u : Type') → e ≡ value (global u (package_symbol p o.name.text))
        → IsLinked w g e
    variable_here k o e there at u is =
        let s = package_symbol p o.name.text in
        let found = variable_linked k o u s there (at ∙ ap (λ (d : Declared). Some (o.name.text, Some d)) is) in
        let linked : IsLinked w g (value (global u s)) = inside.1 o.name.text ∙ found in
        subst (IsLinked w g) (sym is) linked

    well_named : (o : DeclaredObject) (of : TypeExpr) → o.form ≡ type_form of → IsWellNamed o → IsWord o.name.text
    well_named o of is h = subst (IsNamedFor o.name.text) is h

    by_form : (k : ℕ) (o : DeclaredObject) (e : Declared) → slice_get t.package.objects k ≡ Some o → slice_get t.known k ≡ Some (o.name.text, Some e) → object_verdict t.package t.known o ≡ Fine (declared e)
        → (form : Form) → o.form ≡ form → Shape (package_symbol p o.name.text) form e → IsLinked w g e
    by_form k o e there at verdict (constant of v iota) is (u, c, same) = subst (IsLinked w g) (sym same) tt
    by_form k o e there at verdict (type_form of) is (u, same) =
        let linked : IsLinked w g (type' (named t.package.path o.name.text u)) = (
          type_linked k o.name.text u (at ∙ ap (λ (d : Declared). Some (o.name.text, Some d)) same),
          (plain, well_named o of is (h.told.named k o there)),
        ) in
        subst (IsLinked w g) (sym same) linked
    by_form k o e there at verdict (typed_variable of) is (u, same) = variable_here k o e there at u same
    by_form k o e there at verdict (valued_variable v) is (u, same) = variable_here k o e there at u same
    by_form k o e there at verdict (result_variable number count v) is (u, same) = variable_here k o e there at u same
    by_form k o e there at verdict (function' ps ts) is (us, rs, same) =
        let found = function_linked k o e there (ap is_function is) verdict in
        let linked : IsLinked w g (function (package_symbol p o.name.text) found.0 found.1) = inside.0 o.name.text ∙ found.3 in
        subst (IsLinked w g) (sym found.2) linked
    by_form k o e there at verdict (other of es) is shape = absurd shape

    pub linked : (k : ℕ) (x : List ℕ) (e : Declared) → slice_get t.known k ≡ Some (x, Some e) → IsLinked w g e
    linked k x e at =
        let there = object_of t.package t.known h.told k x e at in
        let o = there.0 in
        let is = entry_is t.package t.known h.told k x e at o there.1 in
        let named_at : slice_get t.known k ≡ Some (o.name.text, Some e) = at ∙ ap (λ (y : List ℕ). Some (y, Some e)) is.0 in
        by_form k o e there.1 named_at is.1 o.form refl (shaped (scope_at t.package t.known o.file (iota_in o.form)) (package_symbol p o.name.text) o.form e is.1)
