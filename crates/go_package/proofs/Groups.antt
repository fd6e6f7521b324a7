-- Specifications of a group, one after another.
use Rattle.std.proofs.Common.{◌≡◌, ℕ, suc, Option, ◌+◌, ◌<◌, Bool, nat_eq, List, [], ◌∷◌, ◌++◌, map, length, drop, get_or, refl, sym, ap, ◌∙◌, subst, add-one}
use Rattle.std.proofs.Math.Dec.{eqb-suc-zero}
use Rattle.go_ast.specs.Trees as trees
use Rattle.go_ast.specs.Views.{const_of, exprs_in}
use Rattle.go_ast.specs.declared.declaration.ConstSpec.{ConstSpec}
use Rattle.go_ast.specs.declared.expression.Expr.{Expr}
use Rattle.go_expr.specs.declared.error.ExprError.{ExprError}
use Rattle.go_expr.specs.Views.{Fails}
use Rattle.go_objects.proofs.Signatures.{next_of}
use Rattle.go_scope.specs.Specifications.{meant, is_repeated}
use Rattle.go_package.specs.Faults.{Facts, Faults, constant_spec_faults, group_faults}
use Rattle.go_package.proofs.Parts.{sooner}

pub none_written : (ns : List trees.Name) (of : Option trees.TypeExpr) (es : List Expr) → nat_eq (length es) 0 ≡ is_repeated (record { names = ns; type = of; values = exprs_in es })
none_written ns of [] = refl
none_written ns of (e ∷ es) = eqb-suc-zero (length es)

-- ---- specifications of a group

group_left : (t : Facts) (file : ℕ) (specs : List ConstSpec) (i : ℕ) (d : ConstSpec) (before means : trees.ConstSpec) (repeated : Bool) → i < length specs → d ≡ get_or specs i d → means ≡ meant before (const_of d) → repeated ≡ is_repeated (const_of d) →
    group_faults t file i before (map const_of (drop i specs)) ≡ constant_spec_faults t file i repeated means ++ group_faults t file (suc i) means (map const_of (drop (i + 1) specs))
group_left t file specs i d before means repeated lt is m r =
    ap (λ (l : List ConstSpec). group_faults t file i before (map const_of l)) (next_of specs i d d lt is)
    ∙ ap (λ (x : trees.ConstSpec). constant_spec_faults t file i (is_repeated (const_of d)) x ++ group_faults t file (suc i) x (map const_of (drop (i + 1) specs))) (sym m)
    ∙ ap (λ b. constant_spec_faults t file i b means ++ group_faults t file (suc i) means (map const_of (drop (i + 1) specs))) (sym r)

pub group_here : (e : ExprError) (t : Facts) (file : ℕ) (specs : List ConstSpec) (i : ℕ) (d : ConstSpec) (before means : trees.ConstSpec) (repeated : Bool) (all : Faults) → i < length specs → d ≡ get_or specs i d → means ≡ meant before (const_of d) → repeated ≡ is_repeated (const_of d) →
    group_faults t file i before (map const_of (drop i specs)) ≡ all → Fails e (constant_spec_faults t file i repeated means) → Fails e all
group_here e t file specs i d before means repeated all lt is m r same h =
    subst (Fails e) (sym (group_left t file specs i d before means repeated lt is m r) ∙ same) (sooner e _ (group_faults t file (suc i) means (map const_of (drop (i + 1) specs))) h)

pub group_later : (t : Facts) (file : ℕ) (specs : List ConstSpec) (i : ℕ) (d : ConstSpec) (before means : trees.ConstSpec) (repeated : Bool) (all : Faults) → i < length specs → d ≡ get_or specs i d → means ≡ meant before (const_of d) → repeated ≡ is_repeated (const_of d) →
    group_faults t file i before (map const_of (drop i specs)) ≡ all → constant_spec_faults t file i repeated means ≡ [] → group_faults t file (i + 1) means (map const_of (drop (i + 1) specs)) ≡ all
group_later t file specs i d before means repeated all lt is m r same none =
    let rest = map const_of (drop (i + 1) specs) in
    ap (λ n. group_faults t file n means rest) (add-one i)
    ∙ sym (ap (λ l. l ++ group_faults t file (suc i) means rest) none)
    ∙ sym (group_left t file specs i d before means repeated lt is m r)
    ∙ same
