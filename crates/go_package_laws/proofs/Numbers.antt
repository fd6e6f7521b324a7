-- Functions init are numbered: what doesn't hang on a function's name stays, and each other name finds what it found.
use Rattle.std.proofs.Common.{◌≡◌, ℕ, suc, true, false, List, [], ◌∷◌, ◌++◌, codes, refl, sym, ap, ◌∙◌, inl, inr}
use Rattle.std.specs.Prelude.{bytes_eq, nat_eq}
use Rattle.std.specs.Fmt.{decimal}
use Rattle.std.specs.List.{All, find, flat_map, starts_with}
use Rattle.std.proofs.lemmas.Bool.{cases_Bool}
use Rattle.std.proofs.lemmas.Slice.Eq.{bytes_eq-Decides}
use Rattle.std.proofs.lemmas.List.Elements.{All-head, All-tail, All-nil, All-cons}
use Rattle.go_ast.specs.Trees.{TopLevel, declared, function, File}
use Rattle.go_typed.specs.Trees.{Function}
use Rattle.go_objects.specs.Objects.{DeclaredObject, objects_in, objects_from}
use Rattle.go_package.specs.Typed.{with_numbers}
use Rattle.go_package_laws.proofs.DeclaredTexts.{TopsHaveTexts, FilesHaveTexts}
use Rattle.go_package_laws.proofs.Dots.{no_dot}
use Rattle.go_package_laws.proofs.Fits.{is_function, AllIn, all_more, Fits, Any, decl_fits_any}
use Rattle.go_package_laws.proofs.Found.{by_name}
use Rattle.go_package_laws.proofs.Parsed.{TopsNamed, FilesNamed}

abbrev init : List ℕ
init = codes "init"

abbrev numbered : List ℕ
numbered = codes "init."

module _ (P : Function → Type 0) (stays : (f : Function) (x : List ℕ) → P f → P (record f { name = x })) where
  pub numbered_all : (n : ℕ) (fs : List Function) → All P fs → All P (with_numbers n fs)
  numbered_all n [] all = All-nil P
  numbered_all n (f ∷ fs) all = elim (cases_Bool (bytes_eq f.name init)) [
    | inl is ↦ rw is (
        All-cons P (record f { name = numbered ++ decimal n }) (with_numbers (suc n) fs) (stays f (numbered ++ decimal n) (All-head P f fs all)) (numbered_all (suc n) fs (All-tail P f fs all)))
    | inr not_so ↦ rw not_so (All-cons P f (with_numbers n fs) (All-head P f fs all) (numbered_all n fs (All-tail P f fs all)))
  ]

pub begins_so : (rest : List ℕ) → starts_with nat_eq (numbered ++ rest) numbered ≡ true
begins_so rest = refl

numbered_apart : (x : List ℕ) (n : ℕ) → starts_with nat_eq x numbered ≡ false → bytes_eq x (numbered ++ decimal n) ≡ false
numbered_apart x n h = elim (cases_Bool (bytes_eq x (numbered ++ decimal n))) [
  | inr not_so ↦ not_so
  | inl is ↦ absurd (
      let same : x ≡ numbered ++ decimal n = (bytes_eq-Decides x (numbered ++ decimal n)).0 is in
      let no : true ≡ false = sym (begins_so (decimal n)) ∙ ap (λ y. starts_with nat_eq y numbered) (sym same) ∙ h in
      cc (no))
]

-- a name that is none of theirs
pub found_numbered : (x : List ℕ) → bytes_eq x init ≡ false → starts_with nat_eq x numbered ≡ false → (n : ℕ) (fs : List Function) → find (by_name x) (with_numbers n fs) ≡ find (by_name x) fs
found_numbered x not_init other n [] = refl
found_numbered x not_init other n (f ∷ fs) = elim (cases_Bool (bytes_eq f.name init)) [
  | inl is ↦ (
      let apart = numbered_apart x n other in
      let name : f.name ≡ init = (bytes_eq-Decides f.name init).0 is in
      let unlike : bytes_eq x f.name ≡ false = ap (bytes_eq x) name ∙ not_init in
      rw (is, apart, unlike) (found_numbered x not_init other (suc n) fs))
  | inr not_so ↦ elim (cases_Bool (bytes_eq x f.name)) [ inl here ↦ rw (not_so, here) refl | inr later ↦ rw (not_so, later) (found_numbered x not_init other n fs) ]
]

-- ---- functions that are declared under a name

abbrev pub NotNumbered : DeclaredObject → Type 0
NotNumbered o = is_function o.form ≡ true → starts_with nat_eq o.name.text numbered ≡ false

plain_not_numbered : (os : List DeclaredObject) → AllIn (Fits Any) os → AllIn NotNumbered os
plain_not_numbered [] h = tt
plain_not_numbered (o ∷ os) h = ((λ is. absurd (let no : true ≡ false = sym is ∙ (h.0).1 in cc (no))), plain_not_numbered os h.1)

tops_not_numbered : (file : ℕ) (tops : List TopLevel) → TopsHaveTexts tops → TopsNamed tops → AllIn NotNumbered (flat_map (objects_in file) tops)
tops_not_numbered file [] h words = tt
tops_not_numbered file (declared c ∷ tops) h words =
    all_more NotNumbered (objects_in file (declared c)) (flat_map (objects_in file) tops) (plain_not_numbered (objects_in file (declared c)) (decl_fits_any file c h.0)) (tops_not_numbered file tops h.1 words)
tops_not_numbered file (function f ∷ tops) h words =
    all_more NotNumbered (objects_in file (function f)) (flat_map (objects_in file) tops) one (tops_not_numbered file tops h.1 words.1)
  where
    one : AllIn NotNumbered (objects_in file (function f))
    one = elim (cases_Bool (bytes_eq f.name.text init)) [ inl is ↦ rw is tt | inr other ↦ rw other ((λ is. no_dot f.name.text words.0), tt) ]

pub files_not_numbered : (number : ℕ) (files : List File) → FilesHaveTexts files → FilesNamed files → AllIn NotNumbered (objects_from number files)
files_not_numbered number [] h words = tt
files_not_numbered number (f ∷ fs) h words =
    all_more NotNumbered (flat_map (objects_in number) f.declarations) (objects_from (suc number) fs) (tops_not_numbered number f.declarations h.0 words.0) (files_not_numbered (suc number) fs h.1 words.1)
