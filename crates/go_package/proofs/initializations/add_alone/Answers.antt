use Rattle.std.proofs.Common.{◌≡◌, ℕ, Bor, List, [], ◌∷◌, ◌++◌, length, map, drop, arith, refl, sym, ap, ◌∙◌}
use Rattle.std.proofs.lemmas.List.{append-nil}
use Rattle.go_ast.specs.Trees.{Name, ExpressionList, no_exprs, some_exprs}
use Rattle.go_ast.specs.Views.{exprs_in as exprs_trees}
use Rattle.go_typed.specs.Views.{as_exprs, initialization_of}
use Rattle.go_typed.specs.declared.expression.TypedExpr.{TypedExpr}
use Rattle.go_package.specs.Faults.{Facts}
use Rattle.go_package.specs.Views.{facts_of}
use Rattle.go_package.specs.Typed.{each_alone}
use Rattle.go_package.proofs.initializations.add_alone.Goals as goal

none_there : (es : List TypedExpr) → length es ≡ 0 → es ≡ []
none_there [] h = refl
none_there (e ∷ es) h = absurd (let n : ⊥ = omega arith in n)

no_more : (t : Facts) (names : List (List ℕ)) (file : ℕ) (ns : List Name) (vs : ExpressionList) (es : List TypedExpr) → es ≡ [] → each_alone t names file ns vs (as_exprs es) ≡ []
no_more t names file [] vs es h = refl
no_more t names file (n ∷ ns) no_exprs es h = refl
no_more t names file (n ∷ ns) (some_exprs v vs) [] h = refl
no_more t names file (n ∷ ns) (some_exprs v vs) (e ∷ es) h = cc

pub returns : goal.returns
returns c =
    let t = facts_of c.args.facts.now in
    let found = map initialization_of c.loop-e.found.items in
    let ns = drop c.loop-e.number c.as_slice-variables.result.now in
    let vs = exprs_trees (drop c.loop-e.number c.as_slice-values.result.now) in
    let rest = c.loop-e.e-iterator.rest in
    let size : length rest.items ≡ 0 = omega (arith, rest.ok.0, c.in-None.ensures.steps.0) in
    let names = map (λ (n : Bor (List ℕ)). n.now) c.args.names.now in
    let none : each_alone t names c.args.file ns vs (as_exprs rest.items) ≡ [] = no_more t names c.args.file ns vs rest.items (none_there rest.items size) in
    sym (append-nil found) ∙ sym (ap (λ l. found ++ l) none) ∙ c.loop-e.invariant.same
