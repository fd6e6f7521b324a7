-- Files come to one thing, and so does compiling an action; what is held for an action is what its files come to.
use Rattle.std.proofs.Common.{◌≡◌, ℕ, List, [], ◌∷◌, map, sym, ap, subst, ◌∙◌, inl, inr}
use Rattle.std.specs.List.{All}
use Rattle.go_text.specs.declared.edition.Edition.{Edition}
use Rattle.go_text.specs.Faults.{Fault}
use Rattle.go_text.specs.declared.fault.FaultKind.{FaultKind}
use Rattle.go_text.specs.declared.place.Place.{Place}
use Rattle.go_ast.specs.Parse.{Parsed}
use Rattle.go_typed.specs.Trees.{Initialization, Package}
use Rattle.go_init.specs.Variables.{variable_order}
use Rattle.go_gen.specs.Translation.{object_of}
use Rattle.go_package.specs.Imports.{Importable}
use Rattle.go_check.specs.Names.{importable_by}
use Rattle.go_export.specs.Summaries.{Summary, summary_of}
use Rattle.go_export.specs.Writable.{IsWritten}
use Rattle.go_check.proofs.One as front
use Rattle.ws_action.specs.Actions.{Action, action_of, parsed_of, source_with_name, HaveEdition}
use Rattle.ws_action.proofs.Imports.{same_imports, parsed_again}
use Rattle.ws_cache.specs.Compiles.{AreGood, AreCircular, AreFaulty, Compiled, Good, Faulty, IsResult, Compiles}

abbrev fault_by : List ℕ → Place → FaultKind → Fault
fault_by file place kind = record { file = file; place = place; kind = kind }

same_fault : (a b : Fault) → a.file ≡ b.file → a.place ≡ b.place → a.kind ≡ b.kind → a ≡ b
same_fault a b file place kind =
    ap (λ x. fault_by x a.place a.kind) file ∙ ap (λ x. fault_by b.file x a.kind) place ∙ ap (λ x. fault_by b.file b.place x) kind

first_same : {A : Type 0} (x y : A) (xs ys : List A) → x ∷ xs ≡ y ∷ ys → x ≡ y
first_same x y xs ys e = cc (e)

-- ---- of files

module _ (path : List ℕ) (files : List Parsed) (imports : List Importable) where
  pub one_good : (a b : Package) → AreGood path files imports a → AreGood path files imports b → a ≡ b
  one_good a b g h = front.one_typed path files imports a b g.are h.are

  circular_or_good : (fault : Fault) (typed : Package) → AreCircular path files imports fault → AreGood path files imports typed → ⊥
  circular_or_good fault typed g h =
      let same = front.one_typed path files imports g.typed typed g.are h.are in
      let e : (g.at).0 ∷ (g.at).1 ≡ [] = sym (g.at).2 ∙ ap (λ (p : Package). (variable_order p).1) same ∙ h.ordered in
      absurd (cc (e))

  pub not_both : (fault : Fault) (typed : Package) → AreFaulty path files imports fault → AreGood path files imports typed → ⊥
  not_both fault typed (inl g) h = front.not_both path files imports typed fault h.are g
  not_both fault typed (inr g) h = circular_or_good fault typed g h

  one_circular : (a b : Fault) → AreCircular path files imports a → AreCircular path files imports b → a ≡ b
  one_circular a b g h =
      let same = front.one_typed path files imports g.typed h.typed g.are h.are in
      let one = g.at in
      let two = h.at in
      let first : one.0 ≡ two.0 = first_same one.0 two.0 one.1 two.1 (sym one.2 ∙ ap (λ (p : Package). (variable_order p).1) same ∙ two.2) in
      let file : a.file ≡ b.file = sym one.3 ∙ ap (λ (i : Initialization). i.file) first ∙ two.3 in
      let place : a.place ≡ b.place = sym one.4 ∙ ap (λ (i : Initialization). i.place) first ∙ two.4 in
      same_fault a b file place (g.kind ∙ sym h.kind)

  pub one_faulty : (a b : Fault) → AreFaulty path files imports a → AreFaulty path files imports b → a ≡ b
  one_faulty a b (inl g) (inl h) = front.one_fault path files imports a b g h
  one_faulty a b (inl g) (inr h) = absurd (front.not_both path files imports h.typed a h.are g)
  one_faulty a b (inr g) (inl h) = absurd (front.not_both path files imports g.typed b g.are h)
  one_faulty a b (inr g) (inr h) = one_circular a b g h

  pub one_result : (a b : Compiled) → IsResult path files imports a → IsResult path files imports b → a ≡ b
  one_result (Faulty f) (Faulty g) h k = ap Faulty (one_faulty f g h k)
  one_result (Faulty f) (Good s o) h k = absurd (not_both f k.0 h k.1)
  one_result (Good s o) (Faulty g) h k = absurd (not_both g h.0 k h.1)
  one_result (Good s o) (Good t p) h k =
      let same : h.0 ≡ k.0 = one_good h.0 k.0 h.1 k.1 in
      let summaries : s ≡ t = h.2 ∙ ap summary_of same ∙ sym k.2 in
      let objects : o ≡ p = h.3 ∙ ap object_of same ∙ sym k.3 in
      ap (λ x. Good x o) summaries ∙ ap (λ x. Good t x) objects

-- ---- of actions

moved : (path : List ℕ) (files : List Parsed) (a b : List Summary) (result : Compiled) → a ≡ b → IsResult path files (map importable_by a) result → IsResult path files (map importable_by b) result
moved path files a b result same h = subst (λ (ss : List Summary). IsResult path files (map importable_by ss) result) same h

-- compiling an action gives one thing
pub one_outcome : (action : Action) (a b : Compiled) → Compiles action a → Compiles action b → a ≡ b
one_outcome action a b g h =
    let same = same_imports action.edition h.summaries g.summaries (h.imports).written (g.imports).written (h.imports).alike (g.imports).alike ((h.imports).texts ∙ sym (g.imports).texts) in
    one_result action.path (map (parsed_of action.edition) action.files) (map importable_by g.summaries) a b g.is
    (moved action.path (map (parsed_of action.edition) action.files) h.summaries g.summaries b same h.is)

-- whatever summaries an action was compiled against, it came to what its files come to by these, if it has their texts
pub held_is_result : (edition : Edition) (path : List ℕ) (files : List Parsed) (summaries : List Summary) → HaveEdition edition files summaries → All IsWritten summaries → (a b : Compiled) →
    Compiles (action_of edition path files summaries) a → IsResult path files (map importable_by summaries) b → a ≡ b
held_is_result edition path files summaries have written a b g h =
    let same = same_imports edition g.summaries summaries (g.imports).written written (g.imports).alike have.of_summaries (g.imports).texts in
    let its = moved path (map (parsed_of edition) (map source_with_name files)) g.summaries summaries a same g.is in
    one_result path files (map importable_by summaries) a b (subst (λ (fs : List Parsed). IsResult path fs (map importable_by summaries) a) (parsed_again edition files have.of_files) its) h
