-- Of what a package without fault declares nothing is dropped but blank names.
use Rattle.std.proofs.Common.{◌≡◌, ℕ, suc, Bool, true, false, not, ◌||◌, List, [], ◌∷◌, ◌++◌, Option, Some, None, map, codes, append_assoc, refl, sym, ap, ◌∙◌, subst, inl, inr}
use Rattle.std.specs.Prelude.{bytes_eq, option_map, if◌then◌else◌}
use Rattle.std.specs.List.{slice_get, list_any, filter}
use Rattle.std.proofs.lemmas.Bool.{cases_Bool}
use Rattle.std.proofs.lemmas.List.{map-append}
use Rattle.ws_reach.specs.Worklist.{is_marked}
use Rattle.go_text.specs.declared.edition.Edition.{Edition}
use Rattle.go_text.specs.declared.fault.FaultKind.TheVariants.{Redeclared, Recursive}
use Rattle.go_ast.specs.Trees.{Name, File}
use Rattle.go_objects.specs.Objects.{DeclaredObject, firsts, objects_from, objects_of}
use Rattle.go_objects.specs.Table.{PackageTable, number_of}
use Rattle.go_package.specs.Faults.{Facts, Faults, is_declared_by, name_faults}
use Rattle.go_package.proofs.Faultless.{AreFine, fine_files}
use Rattle.go_package.specs.Imports.{Importable}
use Rattle.go_package.specs.Packages.{AreFacts, package_faults, package_in}
use Rattle.go_package.proofs.Whole.{no_faults}
use Rattle.go_package_laws.specs.Whole.{AreParsed, is_named, all_declared_by}
use Rattle.go_package_laws.proofs.Completeness.Apart.{AreApart, parsed_apart}

abbrev texts : List DeclaredObject → List (List ℕ)
texts os = map (λ (o : DeclaredObject). o.name.text) os

or_false : (a b : Bool) → (a || b) ≡ false → (a ≡ false) × (b ≡ false)
or_false true b h = absurd cc
or_false false b h = (refl, h)

-- the first object of a name that some objects have
record FirstOf (list rest : List DeclaredObject) (x : List ℕ) (test : DeclaredObject → Bool) : Type 0 where
  number : ℕ
  object : DeclaredObject
  numbered : number_of (list ++ rest) x ≡ Some number
  there : slice_get (list ++ rest) number ≡ Some object
  fails : list_any test list ≡ false → test object ≡ false

first_of : (list rest : List DeclaredObject) (x : List ℕ) (test : DeclaredObject → Bool) → list_any (bytes_eq x) (texts list) ≡ true → FirstOf list rest x test
first_of [] rest x test h = absurd cc
first_of (o ∷ os) rest x test h = elim (cases_Bool (bytes_eq x o.name.text)) [
  | inl t ↦ record {
    number = 0;
    object = o;
    numbered = rw t refl;
    there = refl;
    fails = λ none. elim (cases_Bool (test o)) [ inl is ↦ absurd (let no : true ≡ false = rw is at none in cc (no)) | inr not_so ↦ not_so ];
  }
  | inr f ↦ (
      let r = first_of os rest x test (rw f at h) in
      record {
        number = suc r.number;
        object = r.object;
        numbered = rw f (ap (option_map suc) r.numbered);
        there = r.there;
        fails = λ none. r.fails (or_false (test o) (list_any test os) none).1;
      })
]

-- what is told of a name by what the object of its number is
abbrev by_test : Facts → Name → ℕ → Bool → Faults
by_test t n k b = if not b then (n.place, Redeclared) ∷ [] else (if is_marked t.recursive k then (n.place, Recursive) ∷ [] else [])

abbrev by_number : Facts → ℕ → Name → Option ℕ → Faults
by_number t file n o = elim o [ None ↦ [] | Some k ↦ by_test t n k (is_declared_by file n (slice_get t.package.objects k)) ]

told : (t : Facts) (file : ℕ) (n : Name) (k : ℕ) (a : DeclaredObject) → number_of t.package.objects n.text ≡ Some k → slice_get t.package.objects k ≡ Some a → is_declared_by file n (Some a) ≡ false
    → name_faults t file n ≡ (n.place, Redeclared) ∷ []
told t file n k a number at other =
    ap (by_number t file n) number ∙ ap (λ (o : Option DeclaredObject). by_test t n k (is_declared_by file n o)) at ∙ ap (by_test t n k) other

-- what is taken is among what came before
abbrev Among : List DeclaredObject → List DeclaredObject → Type 0
Among list before = (test : DeclaredObject → Bool) → list_any test before ≡ false → list_any test list ≡ false

any_both : (test : DeclaredObject → Bool) (xs ys : List DeclaredObject) → list_any test (xs ++ ys) ≡ false → (list_any test xs ≡ false) × (list_any test ys ≡ false)
any_both test [] ys h = (refl, h)
any_both test (x ∷ xs) ys h = elim (cases_Bool (test x)) [
  | inl is ↦ absurd (let no : true ≡ false = rw is at h in cc (no))
  | inr not_so ↦ (let r = any_both test xs ys (rw not_so at h) in (rw not_so r.0, r.1))
]

none_both : (test : DeclaredObject → Bool) (xs ys : List DeclaredObject) → list_any test xs ≡ false → list_any test ys ≡ false → list_any test (xs ++ ys) ≡ false
none_both test [] ys h k = k
none_both test (x ∷ xs) ys h k = elim (cases_Bool (test x)) [
  | inl is ↦ absurd (let no : true ≡ false = rw is at h in cc (no))
  | inr not_so ↦ rw not_so (none_both test xs ys (rw not_so at h) k)
]

kept : (t : Facts) (before list os : List DeclaredObject) (ns : List (List ℕ)) → ns ≡ texts list → Among list before → AreApart before os → AreFine t os → list ++ firsts ns os ≡ t.package.objects → firsts ns os ≡ filter is_named os
kept t before list [] ns named among apart fine are = refl
kept t before list (o ∷ os) ns named among apart fine are = elim (cases_Bool (bytes_eq o.name.text (codes "_"))) [
  | inl blank ↦ (
      let out : firsts ns (o ∷ os) ≡ firsts ns os = rw blank refl in
      let rest = kept t (before ++ o ∷ []) list os ns named (λ test none. among test (any_both test before (o ∷ []) none).0) apart.1 fine.1 (ap (λ l. list ++ l) (sym out) ∙ are) in
      out ∙ rest ∙ (let r : filter is_named os ≡ filter is_named (o ∷ os) = rw blank refl in r))
  | inr full ↦ elim (cases_Bool (list_any (bytes_eq o.name.text) ns)) [
    | inl again ↦ absurd (
        let test : DeclaredObject → Bool = λ a. is_declared_by o.file o.name (Some a) in
        let r = first_of list (firsts ns (o ∷ os)) o.name.text test (sym (ap (list_any (bytes_eq o.name.text)) named) ∙ again) in
        let number = subst (λ (l : List DeclaredObject). number_of l o.name.text ≡ Some r.number) are r.numbered in
        let at = subst (λ (l : List DeclaredObject). slice_get l r.number ≡ Some r.object) are r.there in
        let no : [] ≡ (o.name.place, Redeclared) ∷ [] = sym fine.0 ∙ told t o.file o.name r.number r.object number at (r.fails (among test apart.0)) in
        cc (no))
    | inr new ↦ (
        let taken : firsts ns (o ∷ os) ≡ o ∷ firsts (ns ++ o.name.text ∷ []) os = rw (full, new) refl in
        let longer : ns ++ o.name.text ∷ [] ≡ texts (list ++ o ∷ []) = ap (λ l. l ++ o.name.text ∷ []) named ∙ sym (map-append (λ (a : DeclaredObject). a.name.text) list (o ∷ [])) in
        let more : Among (list ++ o ∷ []) (before ++ o ∷ []) = λ test none. (let parts = any_both test before (o ∷ []) none in none_both test list (o ∷ []) (among test parts.0) parts.1) in
        let all = append_assoc list (o ∷ []) (firsts (ns ++ o.name.text ∷ []) os) ∙ ap (λ l. list ++ l) (sym taken) ∙ are in
        let rest = kept t (before ++ o ∷ []) (list ++ o ∷ []) os (ns ++ o.name.text ∷ []) longer more apart.1 fine.1 all in
        taken ∙ ap (λ l. o ∷ l) rest ∙ (let r : o ∷ filter is_named os ≡ filter is_named (o ∷ os) = rw full refl in r))
  ]
]

pub nothing_dropped : (edition : Edition) (path : List ℕ) (files : List File) (ps : List Importable) (t : Facts) → AreParsed edition files → AreFacts (package_in edition path files ps) t → package_faults ps t files ≡ []
    → objects_of files ≡ all_declared_by files
nothing_dropped edition path files ps t parsed are none =
    let objects : objects_of files ≡ t.package.objects = sym (ap (λ (p : PackageTable). p.objects) are.package_is) in
    kept t [] [] (objects_from 0 files) [] refl (λ test h. refl) (parsed_apart edition files parsed) (fine_files t 0 files (no_faults ps t files none)) objects
