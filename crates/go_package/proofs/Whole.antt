-- Where a package has no fault, neither have its declarations.
use Rattle.std.proofs.Common.{◌≡◌, ℕ, suc, List, [], ◌∷◌, ◌++◌, map, refl, ap, ◌∙◌}
use Rattle.std.specs.List.{flat_map}
use Rattle.go_ast.specs.Trees.{File}
use Rattle.go_package.specs.Faults.{Facts, Faults, top_faults, files_faults}
use Rattle.go_package.specs.Imports.{Importable, imports_in}
use Rattle.go_package.specs.Packages.{each_file, imports_faults, file_faults, objects_faults, main_faults, package_faults}

front : {A : Type 0} (xs ys : List A) → xs ++ ys ≡ [] → xs ≡ []
front [] ys h = refl
front (x ∷ xs) ys h = cc

back : {A : Type 0} (xs ys : List A) → xs ++ ys ≡ [] → ys ≡ []
back [] ys h = h
back (x ∷ xs) ys h = cc

unmapped : {A B : Type 0} (f : A → B) (xs : List A) → map f xs ≡ [] → xs ≡ []
unmapped f [] h = refl
unmapped f (x ∷ xs) h = cc

none_declared : (ps : List Importable) (t : Facts) (number : ℕ) (files : List File) → each_file (file_faults ps t) number files ≡ [] → files_faults t number files ≡ []
none_declared ps t number [] h = refl
none_declared ps t number (f ∷ fs) h =
    let here = map (λ x. (number, x)) (file_faults ps t number f) in
    let rest = each_file (file_faults ps t) (suc number) fs in
    let own = imports_faults t f [] (imports_in ps f.imports) in
    let tops = flat_map (top_faults t number) f.declarations in
    let none : tops ≡ [] = back own tops (unmapped (λ x. (number, x)) (own ++ tops) (front here rest h)) in
    ap (λ (l : Faults). map (λ x. (number, x)) l ++ files_faults t (suc number) fs) none ∙ none_declared ps t (suc number) fs (back here rest h)

pub no_faults : (ps : List Importable) (t : Facts) (files : List File) → package_faults ps t files ≡ [] → files_faults t 0 files ≡ []
no_faults ps t files h = none_declared ps t 0 files (front (each_file (file_faults ps t) 0 files) (objects_faults t files ++ main_faults t files) h)
