-- Files that parse come to something.
use Rattle.std.proofs.Common.{◌≡◌, ◌⊎◌, ℕ, List, [], ◌∷◌, refl, inl, inr}
use Rattle.go_text.specs.Faults.{Fault}
use Rattle.go_text.specs.declared.fault.FaultKind.TheVariants.{InitCycle}
use Rattle.go_ast.specs.Trees.{File}
use Rattle.go_ast.specs.Parse.{Parsed}
use Rattle.go_typed.specs.Trees.{Initialization, Package}
use Rattle.go_init.specs.Variables.{variable_order}
use Rattle.go_package.specs.Imports.{Importable}
use Rattle.go_check.specs.Checked.{AreTrees, AreTyped}
use Rattle.go_check.proofs.Some.{some_check}
use Rattle.ws_cache.specs.Compiles.{AreGood, AreFaulty}

module _ (path : List ℕ) (files : List Parsed) (imports : List Importable) where
  good_or_circular : (typed : Package) (are : AreTyped path files imports typed) (left : List Initialization) → (variable_order typed).1 ≡ left →
      ((fault : Fault) × AreFaulty path files imports fault) ⊎ ((t : Package) × AreGood path files imports t)
  good_or_circular typed are [] is = inr (typed, record { are = are; ordered = is })
  good_or_circular typed are (i ∷ others) is =
      inl (record { file = i.file; place = i.place; kind = InitCycle }, inr (record { typed = typed; are = are; at = (i, others, is, refl, refl); kind = refl }))

  pub some_result : (trees : List File) → AreTrees files trees → ((fault : Fault) × AreFaulty path files imports fault) ⊎ ((t : Package) × AreGood path files imports t)
  some_result trees parse = elim (some_check path files imports trees parse) [
    | inr (fault, have) ↦ inl (fault, inl have)
    | inl (typed, are) ↦ good_or_circular typed are (variable_order typed).1 refl
  ]
