-- Words of what holds of all files that may be packages.
use Rattle.std.specs.Prelude.{◌≡◌, ℕ, List}
use Rattle.go_text.specs.declared.edition.Edition.{Edition}
use Rattle.go_ast.specs.Trees.{File}
use Rattle.go_package.specs.Imports.{Importable}

-- whatever the path, the files, the packages that they may import, their edition and their names are
abbrev pub OfAllFiles : (List ℕ → List File → List Importable → Edition → List (List ℕ) → Type 0) → Type 0
OfAllFiles Has = (path : List ℕ) (files : List File) (ps : List Importable) (edition : Edition) (names : List (List ℕ)) → Has path files ps edition names

-- one at most is such
abbrev pub AtMostOne : {A : Type 0} → (A → Type 0) → Type 0
AtMostOne {A} Is = (one other : A) → Is one → Is other → one ≡ other

-- one is such
abbrev pub SomeOne : {A : Type 0} → (A → Type 0) → Type 0
SomeOne {A} Is = (a : A) × Is a

-- where one is such, none of the others is
abbrev pub NeverBoth : {A B : Type 0} → (A → Type 0) → (B → Type 0) → Type 0
NeverBoth {A} {B} Is Has = (a : A) (b : B) → Is a → Has b → ⊥
