-- Files are one typed package, or have one fault, and never both.
use Rattle.std.proofs.Common.{◌≡◌, ℕ, List, [], ◌∷◌, map, Option, Some, None, refl, sym, ap, ◌∙◌, subst}
use Rattle.std.specs.List.{slice_get}
use Rattle.go_text.specs.Faults.{Fault}
use Rattle.go_text.specs.declared.edition.Edition.{Edition}
use Rattle.go_text.specs.declared.fault.FaultKind.{FaultKind}
use Rattle.go_text.specs.declared.place.Place.{Place}
use Rattle.go_ast.specs.Trees.{File}
use Rattle.go_ast.specs.Parse.{Parsed, Parse, Derived, Stopped, IsParse}
use Rattle.go_ast.proofs.Once.{one_parse}
use Rattle.go_typed.specs.Trees.{Package}
use Rattle.go_package.specs.Imports.{Importable}
use Rattle.go_package.specs.Packages.{package_in, IsFaultOf}
use Rattle.go_package.specs.Typed.{IsTypedIn}
use Rattle.go_package.proofs.OneFault as fault_once
use Rattle.go_package.proofs.OneTyped as typed_once
use Rattle.go_package.proofs.SomeFacts.{typed_or_faulty}
use Rattle.go_check.specs.Checked.{AreTrees, fmt, AreTyped, HaveFault, package_edition}

-- ---- trees

tree_in : File → Parse → File
tree_in other (Derived tree) = tree
tree_in other (Stopped kind place) = other

one_tree : (edition : Edition) (text : List ℕ) (a b : File) → IsParse edition text (Derived a) → IsParse edition text (Derived b) → a ≡ b
unfolding tree_in
one_tree edition text a b p q = ap (tree_in a) (one_parse edition text (Derived a) (Derived b) p q)

pub one_trees : (files : List Parsed) (a b : List File) → AreTrees files a → AreTrees files b → a ≡ b
one_trees [] [] [] h k = refl
one_trees [] [] (t ∷ b) h k = absurd k
one_trees [] (s ∷ a) b h k = absurd h
one_trees (f ∷ fs) [] b h k = absurd h
one_trees (f ∷ fs) (s ∷ a) [] h k = absurd k
one_trees (f ∷ fs) (s ∷ a) (t ∷ b) h k = ap (λ x. x ∷ a) (one_tree f.edition f.text s t h.0 k.0) ∙ ap (λ xs. t ∷ xs) (one_trees fs a b h.1 k.1)

-- ---- faults

abbrev Numbered : Type 0
Numbered = ℕ × (Place × FaultKind)

abbrev numbered : ℕ → Fault → Numbered
numbered n f = (n, (f.place, f.kind))

told : {A : Type 0} → A → Option A → A
told other (Some x) = x
told other None = other

abbrev fault_by : List ℕ → Place → FaultKind → Fault
fault_by file place kind = record { file = file; place = place; kind = kind }

same_fault : (a b : Fault) → a.file ≡ b.file → a.place ≡ b.place → a.kind ≡ b.kind → a ≡ b
same_fault a b file place kind =
    ap (λ x. fault_by x a.place a.kind) file ∙ ap (λ x. fault_by b.file x a.kind) place ∙ ap (λ x. fault_by b.file b.place x) kind

-- ---- files

module _ (path : List ℕ) (files : List Parsed) (imports : List Importable) where
  abbrev all : List Importable
  all = fmt ∷ imports

  abbrev names : List (List ℕ)
  names = map (λ f. f.name) files

  pub one_typed : (a b : Package) → AreTyped path files imports a → AreTyped path files imports b → a ≡ b
  one_typed a b g h =
      let same = one_trees files h.trees g.trees h.parse g.parse in
      typed_once.one_typed (package_in (package_edition files) path g.trees all) g.trees all (package_edition files) names a b g.is
      (subst (λ trees. IsTypedIn (package_edition files) (package_in (package_edition files) path trees all) trees all names b) same h.is)

  pub not_both : (typed : Package) (fault : Fault) → AreTyped path files imports typed → HaveFault path files imports fault → ⊥
  not_both typed fault h g =
      let same = one_trees files g.trees h.trees g.parse h.parse in
      typed_or_faulty (package_in (package_edition files) path h.trees all) h.trees all (package_edition files) names typed (numbered g.number fault) h.is
      (subst (λ trees. IsFaultOf (package_edition files) path trees all (Some (numbered g.number fault))) same g.is)

  pub one_fault : (a b : Fault) → HaveFault path files imports a → HaveFault path files imports b → a ≡ b
  unfolding told
  one_fault a b g h =
      let same = one_trees files h.trees g.trees h.parse g.parse in
      let other = subst (λ trees. IsFaultOf (package_edition files) path trees all (Some (numbered h.number b))) same h.is in
      let e = fault_once.one_fault (package_in (package_edition files) path g.trees all) g.trees all (Some (numbered g.number a)) (Some (numbered h.number b)) g.is other in
      let parts : numbered g.number a ≡ numbered h.number b = ap (told (numbered g.number a)) e in
      let number : g.number ≡ h.number = ap (λ (x : Numbered). x.0) parts in
      let place : a.place ≡ b.place = ap (λ (x : Numbered). (x.1).0) parts in
      let kind : a.kind ≡ b.kind = ap (λ (x : Numbered). (x.1).1) parts in
      let file : a.file ≡ b.file = ap (told a.file) (sym g.name ∙ ap (slice_get names) number ∙ h.name) in
      same_fault a b file place kind
