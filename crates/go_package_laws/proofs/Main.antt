-- A package named main without fault has a function main that takes no arguments and gives no results.
use Rattle.std.proofs.Common.{◌≡◌, ℕ, suc, true, false, List, [], ◌∷◌, ◌++◌, Option, Some, None, map, codes, refl, sym, ◌∙◌, inl, inr}
use Rattle.std.specs.Prelude.{bytes_eq, option_map, is_some}
use Rattle.std.specs.List.{slice_get, flat_map}
use Rattle.std.proofs.lemmas.Bool.{cases_Bool}
use Rattle.go_ast.specs.Trees.{Name, TypeExpr, ConstSpec, VarSpec, TypeSpec, Decl, constants, variables, types, TopLevel, declared, function, Parameter, File}
use Rattle.go_objects.specs.Objects.{function', DeclaredObject, objects_in, objects_from}
use Rattle.go_objects.specs.Table.{number_of}
use Rattle.go_package.specs.Faults.{Facts, Faults}
use Rattle.go_package.specs.Packages.{reserved_faults, reserved_names_faults, absent_main_faults, main_faults, each_file}
use Rattle.go_package_laws.proofs.DeclaredTexts.{TopHasTexts, TopsHaveTexts, FilesHaveTexts}
use Rattle.go_package_laws.proofs.Fits.{AllIn, all_more, Fits, AllNames, ConstantNames, VariableNames, TypeNames, DeclNames, decl_fits}

abbrev pub main : List ℕ
main = codes "main"

abbrev NotMain : Name → Type 0
NotMain n = bytes_eq n.text main ≡ false

-- what is named main is a function without parameters and results
abbrev pub MainOnly : DeclaredObject → Type 0
MainOnly o = bytes_eq o.name.text main ≡ true → o.form ≡ function' [] []

both_none : {A : Type 0} (xs ys : List A) → xs ++ ys ≡ [] → (xs ≡ []) × (ys ≡ [])
both_none [] ys h = (refl, h)
both_none (x ∷ xs) ys h = absurd cc

unmapped : {A B : Type 0} (f : A → B) (xs : List A) → map f xs ≡ [] → xs ≡ []
unmapped f [] h = refl
unmapped f (x ∷ xs) h = absurd cc

module _ (clause : List ℕ) (is_main : bytes_eq clause (codes "main") ≡ true) where
  not_main : (n : Name) → reserved_faults clause n ≡ [] → NotMain n
  not_main n none = elim (cases_Bool (bytes_eq n.text main)) [
    | inr not_so ↦ not_so
    | inl is ↦ absurd (
        elim (cases_Bool (bytes_eq n.text (codes "init"))) [
          | inl init ↦ (let no : (n.place, _) ∷ [] ≡ [] = rw init at none in cc (no))
          | inr other ↦ (let no : (n.place, _) ∷ [] ≡ [] = rw (other, is_main, is) at none in cc (no))
        ])
  ]

  names_not_main : (ns : List Name) → flat_map (reserved_faults clause) ns ≡ [] → AllNames NotMain ns
  names_not_main [] none = tt
  names_not_main (n ∷ ns) none = (let both = both_none (reserved_faults clause n) (flat_map (reserved_faults clause) ns) none in (not_main n both.0, names_not_main ns both.1))

  constants_not_main : (ss : List ConstSpec) → flat_map (λ (s : ConstSpec). flat_map (reserved_faults clause) s.names) ss ≡ [] → ConstantNames NotMain ss
  constants_not_main [] none = tt
  constants_not_main (s ∷ ss) none =
      let both = both_none (flat_map (reserved_faults clause) s.names) (flat_map (λ (s : ConstSpec). flat_map (reserved_faults clause) s.names) ss) none in
      (names_not_main s.names both.0, constants_not_main ss both.1)

  variables_not_main : (ss : List VarSpec) → flat_map (λ (s : VarSpec). flat_map (reserved_faults clause) s.names) ss ≡ [] → VariableNames NotMain ss
  variables_not_main [] none = tt
  variables_not_main (s ∷ ss) none =
      let both = both_none (flat_map (reserved_faults clause) s.names) (flat_map (λ (s : VarSpec). flat_map (reserved_faults clause) s.names) ss) none in
      (names_not_main s.names both.0, variables_not_main ss both.1)

  types_not_main : (ss : List TypeSpec) → flat_map (λ (s : TypeSpec). reserved_faults clause s.name) ss ≡ [] → TypeNames NotMain ss
  types_not_main [] none = tt
  types_not_main (s ∷ ss) none =
      let both = both_none (reserved_faults clause s.name) (flat_map (λ (s : TypeSpec). reserved_faults clause s.name) ss) none in
      (not_main s.name both.0, types_not_main ss both.1)

  decl_not_main : (c : Decl) → reserved_names_faults clause (declared c) ≡ [] → DeclNames NotMain c
  decl_not_main (constants p ss) none = constants_not_main ss none
  decl_not_main (variables p ss) none = variables_not_main ss none
  decl_not_main (types p ss) none = types_not_main ss none

  plain : (os : List DeclaredObject) → AllIn (Fits NotMain) os → AllIn MainOnly os
  plain [] h = tt
  plain (o ∷ os) h = ((λ is. absurd (let no : true ≡ false = sym is ∙ (h.0).2 in cc (no))), plain os h.1)

  abbrev due : Name → List Parameter → List TypeExpr → Faults
  due n ps ts = elim ps [ [] ↦ elim ts [ [] ↦ [] | t ∷ ts ↦ reserved_faults clause n ] | p ∷ ps ↦ reserved_faults clause n ]

  no_signature : (n : Name) (ps : List Parameter) (ts : List TypeExpr) → bytes_eq n.text main ≡ true → due n ps ts ≡ [] → function' ps ts ≡ function' [] []
  no_signature n [] [] is none = refl
  no_signature n [] (t ∷ ts) is none = absurd (let no : true ≡ false = sym is ∙ not_main n none in cc (no))
  no_signature n (p ∷ ps) ts is none = absurd (let no : true ≡ false = sym is ∙ not_main n none in cc (no))

  top_main : (file : ℕ) (top : TopLevel) → TopHasTexts top → reserved_names_faults clause top ≡ [] → AllIn MainOnly (objects_in file top)
  top_main file (declared c) texts none = plain (objects_in file (declared c)) (decl_fits NotMain file c (decl_not_main c none) texts)
  top_main file (function f) texts none = elim (cases_Bool (bytes_eq f.name.text (codes "init"))) [
    | inl init ↦ rw init tt
    | inr other ↦ rw other ((λ is. no_signature f.name f.parameters f.results is none), tt)
  ]

  tops_main : (file : ℕ) (tops : List TopLevel) → TopsHaveTexts tops → flat_map (reserved_names_faults clause) tops ≡ [] → AllIn MainOnly (flat_map (objects_in file) tops)
  tops_main file [] texts none = tt
  tops_main file (top ∷ tops) texts none =
      let both = both_none (reserved_names_faults clause top) (flat_map (reserved_names_faults clause) tops) none in
      all_more MainOnly (objects_in file top) (flat_map (objects_in file) tops) (top_main file top texts.0 both.0) (tops_main file tops texts.1 both.1)

  pub files_main : (number : ℕ) (files : List File) → FilesHaveTexts files → each_file (λ number file. flat_map (reserved_names_faults clause) file.declarations) number files ≡ [] → AllIn MainOnly (objects_from number files)
  files_main number [] texts none = tt
  files_main number (f ∷ fs) texts none =
      let own = flat_map (reserved_names_faults clause) f.declarations in
      let both = both_none (map (λ x. (number, x)) own) (each_file (λ number file. flat_map (reserved_names_faults clause) file.declarations) (suc number) fs) none in
      all_more MainOnly (flat_map (objects_in number) f.declarations) (objects_from (suc number) fs) (tops_main number f.declarations texts.0 (unmapped (λ x. (number, x)) own both.0)) (files_main (suc number) fs texts.1 both.1)

-- ---- there is one

numbered : (os : List DeclaredObject) (x : List ℕ) → is_some (number_of os x) ≡ true → (k : ℕ) × (o : DeclaredObject) × (slice_get os k ≡ Some o) × (bytes_eq x o.name.text ≡ true)
numbered [] x h = absurd cc
numbered (o ∷ os) x h = elim (cases_Bool (bytes_eq x o.name.text)) [
  | inl is ↦ (0, o, refl, is)
  | inr not_so ↦ (
      let later : is_some (option_map suc (number_of os x)) ≡ true = rw not_so at h in
      let rest = numbered os x (known_behind (number_of os x) later) in
      (suc rest.0, rest.1, rest.2, rest.3))
]
  where
    known_behind : (o : Option ℕ) → is_some (option_map suc o) ≡ true → is_some o ≡ true
    known_behind None h = h
    known_behind (Some n) h = refl

present : (t : Facts) (clause : Name) → bytes_eq clause.text (codes "main") ≡ true → absent_main_faults t clause ≡ [] → is_some (number_of t.package.objects (codes "main")) ≡ true
present t clause is none = elim (cases_Bool (is_some (number_of t.package.objects (codes "main")))) [
  | inl there ↦ there
  | inr absent ↦ absurd (let no : (0, _) ∷ [] ≡ [] = rw (is, absent) at none in cc (no))
]

-- the object of that name
pub main_object : (t : Facts) (f : File) (fs : List File) → bytes_eq f.package.text (codes "main") ≡ true → main_faults t (f ∷ fs) ≡ [] → FilesHaveTexts (f ∷ fs)
    → (k : ℕ) × (o : DeclaredObject) × (slice_get t.package.objects k ≡ Some o) × (bytes_eq main o.name.text ≡ true) × AllIn MainOnly (objects_from 0 (f ∷ fs))
main_object t f fs is none texts =
    let both = both_none (each_file (λ number file. flat_map (reserved_names_faults f.package.text) file.declarations) 0 (f ∷ fs)) (absent_main_faults t f.package) none in
    let there = numbered t.package.objects main (present t f.package is both.1) in
    (there.0, there.1, there.2, there.3, files_main f.package.text is 0 (f ∷ fs) texts both.0)
