-- Names with their values, and what is added to what was found.
use Rattle.std.proofs.Common.{◌≡◌, ℕ, suc, false, nat_eq, option_copied, Bor, ◌+◌, ◌<◌, List, [], ◌∷◌, ◌++◌, Option, Some, None, map, length, drop, get_or, refl, sym, ap, ◌∙◌, append_assoc, add-one, drop-cons, arith}
use Rattle.std.specs.Prelude.{option_map, unwrap_or}
use Rattle.std.proofs.lemmas.List.{map-append, drop_all}
use Rattle.go_ast.specs.Trees as trees
use Rattle.go_ast.specs.Trees.{Name}
use Rattle.go_ast.specs.Views.{type_of, expr_of, exprs_in, if_some}
use Rattle.go_ast.specs.declared.expression.Expr.{Expr}
use Rattle.go_ast.specs.declared.expression.TypeExpr.{TypeExpr}
use Rattle.go_scope.specs.Specifications.{meant}
use Rattle.go_objects.specs.Objects as objects
use Rattle.go_objects.specs.Objects.{begin_of, paired, unpaired, constants_of, valued_object, uncounted, result_objects, variables_of}
use Rattle.go_objects.specs.declared.object.Object.{Object}
use Rattle.go_objects.specs.Views.{object_view}

pub pairs : {A : Type 0} → (Name → trees.Expression → A) → List Name → List Expr → List A
pairs f [] es = []
pairs f (n ∷ ns) [] = []
pairs f (n ∷ ns) (e ∷ es) = f n (expr_of e) ∷ pairs f ns es

pub all_paired : {A : Type 0} (f : Name → trees.Expression → A) (ns : List Name) (es : List Expr) → length ns ≡ length es → paired f ns (exprs_in es) ≡ Some (pairs f ns es)
unfolding pairs
all_paired f [] [] l = refl
all_paired f [] (e ∷ es) l = absurd (omega (arith, l))
all_paired f (n ∷ ns) [] l = absurd (omega (arith, l))
all_paired f (n ∷ ns) (e ∷ es) l = ap (option_map (λ xs. f n (expr_of e) ∷ xs)) (all_paired f ns es (omega (arith, l)))

pub none_paired : {A : Type 0} (f : Name → trees.Expression → A) (ns : List Name) (es : List Expr) → (length ns ≡ length es → ⊥) → paired f ns (exprs_in es) ≡ None
none_paired f [] [] l = absurd (l refl)
none_paired f [] (e ∷ es) l = refl
none_paired f (n ∷ ns) [] l = refl
none_paired f (n ∷ ns) (e ∷ es) l = ap (option_map (λ xs. f n (expr_of e) ∷ xs)) (none_paired f ns es (λ m. l (ap suc m)))

pub pairs_next : {A : Type 0} (f : Name → trees.Expression → A) (ns : List Name) (es : List Expr) (k : ℕ) (n : Name) (e : Expr) → k < length ns → k < length es → n ≡ get_or ns k n → e ≡ get_or es k e →
    pairs f (drop k ns) (drop k es) ≡ f n (expr_of e) ∷ pairs f (drop (k + 1) ns) (drop (k + 1) es)
unfolding pairs
pairs_next f ns es k n e inside within is at =
    let left : drop k ns ≡ n ∷ drop (k + 1) ns = rw (add-one, drop-cons ns k n) (ap (λ m. m ∷ drop (suc k) ns) (sym is)) in
    let right : drop k es ≡ e ∷ drop (k + 1) es = rw (add-one, drop-cons es k e) (ap (λ m. m ∷ drop (suc k) es) (sym at)) in
    ap (λ l. pairs f l (drop k es)) left ∙ ap (pairs f (n ∷ drop (k + 1) ns)) right

pub pairs_done : {A : Type 0} (f : Name → trees.Expression → A) (ns : List Name) (es : List Expr) (k : ℕ) → length ns ≡ k → pairs f (drop k ns) (drop k es) ≡ []
unfolding pairs
pairs_done f ns es k l = ap (λ m. pairs f m (drop k es)) (drop_all k ns (omega (arith, l)))

-- one object more
pub pushed : (old new : List Object) (o : Object) (seen : objects.DeclaredObject) (left rest all : List objects.DeclaredObject) → new ≡ old ++ o ∷ [] → object_view o ≡ seen → left ≡ seen ∷ rest → map object_view old ++ left ≡ all → map object_view new ++ rest ≡ all
pushed old new o seen left rest all grown is next before =
    ap (λ l. map object_view l ++ rest) grown ∙ ap (λ l. l ++ rest) (map-append object_view old (o ∷ [])) ∙ append_assoc (map object_view old) (object_view o ∷ []) rest
    ∙ ap (λ s. map object_view old ++ s ∷ rest) is ∙ ap (λ l. map object_view old ++ l) (sym next) ∙ before

-- some objects more
pub added : (old new part left rest all : List objects.DeclaredObject) → new ≡ old ++ part → left ≡ part ++ rest → old ++ left ≡ all → new ++ rest ≡ all
added old new part left rest all grown next before = ap (λ l. l ++ rest) grown ∙ append_assoc old part rest ∙ ap (λ l. old ++ l) (sym next) ∙ before

-- ---- specifications

pub constants_paired : (file iota : ℕ) (ns : List Name) (t : Option trees.TypeExpr) (es : List Expr) → length ns ≡ length es →
    constants_of file iota (record { names = ns; type = t; values = exprs_in es }) ≡ pairs (λ n e. record { file = file; begins = begin_of ns n; name = n; form = objects.constant t e iota }) ns es
constants_paired file iota ns t es l =
    ap (λ (o : Option (List objects.DeclaredObject)). unwrap_or o (unpaired file t (exprs_in es) ns)) (all_paired (λ n e. record { file = file; begins = begin_of ns n; name = n; form = objects.constant t e iota }) ns es l)

pub constants_unpaired : (file iota : ℕ) (ns : List Name) (t : Option trees.TypeExpr) (es : List Expr) → (length ns ≡ length es → ⊥) →
    constants_of file iota (record { names = ns; type = t; values = exprs_in es }) ≡ unpaired file t (exprs_in es) ns
constants_unpaired file iota ns t es l =
    ap (λ (o : Option (List objects.DeclaredObject)). unwrap_or o (unpaired file t (exprs_in es) ns)) (none_paired (λ n e. record { file = file; begins = begin_of ns n; name = n; form = objects.constant t e iota }) ns es l)

pub variables_paired : (file : ℕ) (ns : List Name) (es : List Expr) → length ns ≡ length es → variables_of file (record { names = ns; type = None; values = exprs_in es }) ≡ pairs (valued_object file ns) ns es
variables_paired file ns es l = ap (λ (o : Option (List objects.DeclaredObject)). unwrap_or o (uncounted file ns (exprs_in es))) (all_paired (valued_object file ns) ns es l)

pub variables_unpaired : (file : ℕ) (ns : List Name) (es : List Expr) → (length ns ≡ length es → ⊥) →
    variables_of file (record { names = ns; type = None; values = exprs_in es }) ≡ uncounted file ns (exprs_in es)
variables_unpaired file ns es l = ap (λ (o : Option (List objects.DeclaredObject)). unwrap_or o (uncounted file ns (exprs_in es))) (none_paired (valued_object file ns) ns es l)

pub not_alone : (file : ℕ) (ns : List Name) (es : List Expr) → (length es ≡ 1 → ⊥) → uncounted file ns (exprs_in es) ≡ unpaired file None (exprs_in es) ns
not_alone file ns [] l = refl
not_alone file ns (e ∷ []) l = absurd (l refl)
not_alone file ns (e ∷ f ∷ es) l = refl

pub alone : (file : ℕ) (ns : List Name) (es : List Expr) (e : Expr) → length es ≡ 1 → e ≡ get_or es 0 e → uncounted file ns (exprs_in es) ≡ result_objects file ns 0 (expr_of e) ns
alone file ns [] e l is = absurd (omega (arith, l))
alone file ns (f ∷ []) e l is = ap (λ (x : Expr). result_objects file ns 0 (expr_of x) ns) (sym is)
alone file ns (f ∷ g ∷ es) e l is = absurd (omega (arith, l))

pub meant_own : (before : trees.ConstSpec) (ns : List Name) (t : Option trees.TypeExpr) (es : List Expr) → nat_eq (length es) 0 ≡ false →
    meant before (record { names = ns; type = t; values = exprs_in es }) ≡ record { names = ns; type = t; values = exprs_in es }
meant_own before ns t [] some = cc
meant_own before ns t (e ∷ es) some = refl

pub seen_option : (t : Option (Bor TypeExpr)) → option_map (λ r. type_of r.now) t ≡ if_some type_of (option_copied t)
seen_option None = refl
seen_option (Some t) = refl
