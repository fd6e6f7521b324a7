-- What is refused makes no action.
use Rattle.std.proofs.Common.{◌≡◌, ℕ, true, false, List, [], ◌∷◌, sym, ap, ◌∙◌}
use Rattle.std.proofs.lemmas.List.Elements.{All-contains}
use Rattle.go_text.specs.declared.edition.Edition.{Edition}
use Rattle.go_ast.specs.Trees.{Name, File}
use Rattle.go_ast.specs.Parse.{Parse, Derived, Stopped, Parsed, IsPackage, IsNamed}
use Rattle.go_ast.proofs.Once.{one_parse}
use Rattle.go_export.specs.Summaries.{Summary}
use Rattle.ws_action.specs.Actions.{MakeAction, AreRefused, HaveOneName, HaveOtherName}
use Rattle.ws_action.specs.declared.ActionError.{ActionError}
use Rattle.ws_action.specs.declared.ActionError.TheVariants.{NoFile, Unordered, MixedNames, NotImports, OtherEdition}

tree_of : File → Parse → File
tree_of other (Derived file) = file
tree_of other (Stopped kind place) = other

one_package : (e : Edition) (text : List ℕ) (a b : Name) → IsPackage e text a → IsPackage e text b → a ≡ b
unfolding tree_of
one_package e text a b g h =
    let same : g.0 ≡ h.0 = ap (tree_of g.0) (one_parse e text (Derived g.0) (Derived h.0) g.1 h.1) in
    g.2 ∙ ap (λ (f : File). f.package) same ∙ sym h.2

not_mixed : (files : List Parsed) → HaveOtherName files → HaveOneName files → ⊥
not_mixed [] o n = o
not_mixed (first ∷ files) o n =
    let same : o.clause ≡ n.clause = one_package first.edition first.text o.clause n.clause o.package_is n.package_is in
    let named : IsNamed o.other.edition n.clause.text o.other.text = All-contains (λ file. IsNamed file.edition n.clause.text file.text) files o.other n.named o.among in
    let clauses : o.differs.clause ≡ named.clause = one_package o.other.edition o.other.text o.differs.clause named.clause o.differs.package_is named.package_is in
    o.differs.other (ap (λ (c : Name). c.text) clauses ∙ named.same ∙ ap (λ (c : Name). c.text) (sym same))

pub refused_not : (edition : Edition) (files : List Parsed) (summaries : List Summary) (why : ActionError) → AreRefused edition files summaries why → ¬ (MakeAction edition files summaries)
refused_not edition files summaries NoFile r make = make.some r
refused_not edition files summaries Unordered r make = let c : false ≡ true = sym r.1 ∙ make.ordered in cc
refused_not edition files summaries MixedNames r make = not_mixed files r.1 make.named
refused_not edition files summaries NotImports r make = r.2 make.imported
refused_not edition files summaries OtherEdition r make = r.3 make.alike
