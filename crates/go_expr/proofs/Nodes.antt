-- What is answered of a node, by what is known of its parts.
use Rattle.std.proofs.Common.{◌≡◌, Bool, true, false, Option, Result, Err, List, [], ◌∷◌, ◌++◌, Box, Vec, Global, sym, ap, ◌∙◌, subst, refl}
use Rattle.go_text.specs.declared.place.Place.{Place}
use Rattle.go_text.specs.declared.fault.FaultKind.{FaultKind}
use Rattle.go_ast.specs.Trees.{TypeExpr, Expression, name, selector, ExpressionList, some_exprs, call, composite_lit, Elements}
use Rattle.std.specs.Prelude.{map, option_map, string_bytes, if◌then◌else◌}
use Rattle.go_types.specs.Types as types
use Rattle.go_types.specs.Views.{go_type, fields_in}
use Rattle.go_types.specs.declared.types.Field.{Field}
use Rattle.go_expr.specs.Rules.{fine, valued, type_due, make_verdict, unmade, unprinted, called, pack_field_list, listed}
use Rattle.go_expr.specs.declared.error.ExprError.{ExprError}
use Rattle.go_ast.specs.declared.expression.Expr.{Expr as ExprNode}
use Rattle.go_ast.specs.declared.expression.ExprKind.{ExprKind, CompositeLit}
use Rattle.go_ast.specs.declared.expression.TypeExpr.{TypeExpr as TypeNode}
use Rattle.go_ast.specs.declared.expression.Element.{Element as ElementNode}
use Rattle.go_ast.specs.Views.{expr_of as expr_tree, type_of as type_tree}
use Rattle.go_ast.proofs.Rows.{literal_seen}
use Rattle.go_expr.proofs.Lists.{fails_front}
use Rattle.go_expr.specs.declared.known.Known.{Known as Found}
use Rattle.go_expr.specs.Known.{Known, Verdict, Scope}
use Rattle.go_typed.specs.Trees.{Expr as Typed}
use Rattle.go_expr.specs.Verdicts.{asked, asked_both, broken, callee, is_make, is_name, call_verdict, call_faults, verdict, made_verdict, operand_list, type_verdict, part_broken, package_broken, qualifier_broken, is_plain_name, faults, made_faults, operands_faults, elements_faults, type_faults}
use Rattle.go_expr.specs.Views.{known_of, elements_in, typed_field, literal_verdict, Fails, Answers, AnswersBehindParts}

-- where nothing is found before
pub later : {X Y : Type 0} (view : X → Y) (r : Result (Option X) ExprError) (xs ys : List (Place × FaultKind)) (known : Option Y) → xs ≡ [] → Answers view r ys known → Answers view r (xs ++ ys) known
later view r [] ys known e h = h
later view r (x ∷ xs) ys known e h = cc

-- a node whose part has no fault is asked its rule
pub of_part : {X Y A : Type 0} (view : X → Y) (r : Result (Option X) ExprError) (p q : Place) (rule : A → Verdict Y) (xs : List (Place × FaultKind)) (part o : Option A) → xs ≡ [] → part ≡ o → p ≡ q → Answers view r (broken q (asked rule o)) (fine (asked rule o)) → Answers view r (xs ++ broken p (asked rule part)) (fine (asked rule part))
of_part {X} {Y} {A} view r p q rule xs part o none is same h =
    subst (λ (o : Option A). Answers view r (xs ++ broken p (asked rule o)) (fine (asked rule o))) (sym is)
    (subst (λ (p : Place). Answers view r (xs ++ broken p (asked rule o)) (fine (asked rule o))) (sym same)
    (later view r xs (broken q (asked rule o)) (fine (asked rule o)) none h))

-- a call whose callee has no fault
pub call_asked : {X : Type 0} (view : X → Known) (r : Result (Option X) ExprError) (s : Scope) (p : Place) (f : Expression) (es : ExpressionList) (k : Option Known) → faults s f ++ part_broken f (callee (verdict s f)) ≡ [] → fine (callee (verdict s f)) ≡ k → Answers view r (call_faults s k es ++ broken p (call_verdict s k es)) (fine (call_verdict s k es)) → Answers view r (faults s (call p f es)) (fine (verdict s (call p f es)))
call_asked view r s p f es k none is h =
    subst (λ (o : Option Known). Answers view r (faults s f ++ part_broken f (callee (verdict s f)) ++ call_faults s o es ++ broken p (call_verdict s o es)) (fine (call_verdict s o es))) (sym is)
    (subst (λ (l : List (Place × FaultKind)). Answers view r (l ++ call_faults s k es ++ broken p (call_verdict s k es)) (fine (call_verdict s k es))) (sym none) h)

-- a call of what takes a type in front of its operands, and of what doesn't
abbrev call_by : Bool → Scope → Option Known → ExpressionList → Verdict Known
call_by b s o es = if b then valued (made_verdict s es) else asked_both called o (operand_list s es)

abbrev faults_by : Bool → Scope → ExpressionList → List (Place × FaultKind)
faults_by b s es = if b then made_faults s es else operands_faults s es

pub make_called : {X : Type 0} (view : X → Known) (r : Result (Option X) ExprError) (s : Scope) (p : Place) (o : Option Known) (es : ExpressionList) → is_make o ≡ true →
    AnswersBehindParts view r (made_faults s es) p (valued (made_verdict s es)) → AnswersBehindParts view r (call_faults s o es) p (call_verdict s o es)
make_called view r s p o es make h = subst (λ (b : Bool). AnswersBehindParts view r (faults_by b s es) p (call_by b s o es)) (sym make) h

pub other_called : {X : Type 0} (view : X → Known) (r : Result (Option X) ExprError) (s : Scope) (p : Place) (o : Option Known) (es : ExpressionList) → is_make o ≡ false →
    AnswersBehindParts view r (operands_faults s es) p (asked_both called o (operand_list s es)) → AnswersBehindParts view r (call_faults s o es) p (call_verdict s o es)
other_called view r s p o es other h = subst (λ (b : Bool). AnswersBehindParts view r (faults_by b s es) p (call_by b s o es)) (sym other) h

-- the type that is made, and what else may stand there
abbrev pub due_of_name : Scope → Expression → Verdict types.Type'
due_of_name s e = asked type_due (fine (verdict s e))

abbrev pub other_than_name : Scope → Expression → Verdict Known
other_than_name s e = asked unprinted (fine (verdict s e))

-- what is made, by whether the first operand may be a type
abbrev made_if : Bool → Scope → Expression → ExpressionList → Verdict Typed
made_if b s e es = if b then asked_both make_verdict (fine (due_of_name s e)) (operand_list s es) else asked_both unmade (fine (other_than_name s e)) (operand_list s es)

-- what isn't the name of a type has no package before a dot
no_package : (s : Scope) (e : Expression) → is_plain_name e ≡ false → package_broken s e ≡ []
no_package s (name p x) h = cc
no_package s e h = refl

no_qualifier : (s : Scope) (e : Expression) → is_name e ≡ false → qualifier_broken s e ≡ []
no_qualifier s (selector p e x) h = no_package s e h
no_qualifier s e h = refl

abbrev due_if : Bool → Scope → Expression → List (Place × FaultKind)
due_if b s e = if b then part_broken e (due_of_name s e) else part_broken e (other_than_name s e)

by_name : {X : Type 0} (view : X → Known) (r : Result (Option X) ExprError) (s : Scope) (p : Place) (e : Expression) (es : ExpressionList) → is_name e ≡ true →
    AnswersBehindParts view r (qualifier_broken s e ++ faults s e ++ part_broken e (due_of_name s e) ++ operands_faults s es) p (valued (asked_both make_verdict (fine (due_of_name s e)) (operand_list s es))) →
    AnswersBehindParts view r (made_faults s (some_exprs e es)) p (valued (made_verdict s (some_exprs e es)))
by_name view r s p e es is h =
    subst (λ (b : Bool). AnswersBehindParts view r (qualifier_broken s e ++ faults s e ++ due_if b s e ++ operands_faults s es) p (valued (made_if b s e es))) (sym is) h

by_other : {X : Type 0} (view : X → Known) (r : Result (Option X) ExprError) (s : Scope) (p : Place) (e : Expression) (es : ExpressionList) → is_name e ≡ false →
    AnswersBehindParts view r (faults s e ++ part_broken e (other_than_name s e) ++ operands_faults s es) p (valued (asked_both unmade (fine (other_than_name s e)) (operand_list s es))) →
    AnswersBehindParts view r (made_faults s (some_exprs e es)) p (valued (made_verdict s (some_exprs e es)))
by_other view r s p e es other h =
    subst (λ (l : List (Place × FaultKind)). AnswersBehindParts view r (l ++ faults s e ++ due_if (is_name e) s e ++ operands_faults s es) p (valued (made_if (is_name e) s e es))) (sym (no_qualifier s e other))
    (subst (λ (b : Bool). AnswersBehindParts view r (faults s e ++ due_if b s e ++ operands_faults s es) p (valued (made_if b s e es))) (sym other) h)

-- a name whose type has no fault
pub made_named : {X : Type 0} (view : X → Known) (r : Result (Option X) ExprError) (s : Scope) (p : Place) (e : Expression) (es : ExpressionList) (k : Option types.Type') → is_name e ≡ true → qualifier_broken s e ≡ [] →
    faults s e ++ part_broken e (due_of_name s e) ≡ [] → fine (due_of_name s e) ≡ k → AnswersBehindParts view r (operands_faults s es) p (valued (asked_both make_verdict k (operand_list s es))) →
    AnswersBehindParts view r (made_faults s (some_exprs e es)) p (valued (made_verdict s (some_exprs e es)))
made_named view r s p e es k is before none gives h =
    let own = faults s e ++ part_broken e (due_of_name s e) in
    by_name view r s p e es is
    (subst (λ (l : List (Place × FaultKind)). AnswersBehindParts view r (l ++ faults s e ++ part_broken e (due_of_name s e) ++ operands_faults s es) p (valued (asked_both make_verdict (fine (due_of_name s e)) (operand_list s es)))) (sym before)
    (subst (λ (o : Option types.Type'). AnswersBehindParts view r (own ++ operands_faults s es) p (valued (asked_both make_verdict o (operand_list s es)))) (sym gives)
    (subst (λ (l : List (Place × FaultKind)). AnswersBehindParts view r (l ++ operands_faults s es) p (valued (asked_both make_verdict k (operand_list s es)))) (sym none) h)))

-- no package before its dot
pub qualifier_fails : {X : Type 0} (view : X → Known) (error : ExprError) (s : Scope) (p : Place) (e : Expression) (es : ExpressionList) → is_name e ≡ true → Fails error (qualifier_broken s e) →
    AnswersBehindParts view (Err error) (made_faults s (some_exprs e es)) p (valued (made_verdict s (some_exprs e es)))
qualifier_fails view error s p e es is h =
    let before = qualifier_broken s e in
    let due = part_broken e (due_of_name s e) in
    by_name view (Err error) s p e es is (fails_front error (before ++ faults s e ++ due ++ operands_faults s es) _ (fails_front error (before ++ faults s e ++ due) (operands_faults s es)
    (fails_front error (before ++ faults s e) due (fails_front error before (faults s e) h))))

pub name_fails : {X : Type 0} (view : X → Known) (error : ExprError) (s : Scope) (p : Place) (e : Expression) (es : ExpressionList) → is_name e ≡ true → qualifier_broken s e ≡ [] →
    Fails error (faults s e ++ part_broken e (due_of_name s e)) → AnswersBehindParts view (Err error) (made_faults s (some_exprs e es)) p (valued (made_verdict s (some_exprs e es)))
name_fails view error s p e es is before h =
    let own = faults s e ++ part_broken e (due_of_name s e) in
    by_name view (Err error) s p e es is
    (subst (λ (l : List (Place × FaultKind)). AnswersBehindParts view (Err error) (l ++ faults s e ++ part_broken e (due_of_name s e) ++ operands_faults s es) p (valued (asked_both make_verdict (fine (due_of_name s e)) (operand_list s es)))) (sym before)
    (fails_front error (own ++ operands_faults s es) _ (fails_front error own (operands_faults s es) h)))

-- what can't be a type, without fault
pub made_unnamed : {X : Type 0} (view : X → Known) (r : Result (Option X) ExprError) (s : Scope) (p : Place) (e : Expression) (es : ExpressionList) (k : Option Known) → is_name e ≡ false →
    faults s e ++ part_broken e (other_than_name s e) ≡ [] → fine (other_than_name s e) ≡ k → AnswersBehindParts view r (operands_faults s es) p (valued (asked_both unmade k (operand_list s es))) →
    AnswersBehindParts view r (made_faults s (some_exprs e es)) p (valued (made_verdict s (some_exprs e es)))
made_unnamed view r s p e es k other none gives h =
    by_other view r s p e es other
    (subst (λ (o : Option Known). AnswersBehindParts view r (faults s e ++ part_broken e (other_than_name s e) ++ operands_faults s es) p (valued (asked_both unmade o (operand_list s es)))) (sym gives)
    (subst (λ (l : List (Place × FaultKind)). AnswersBehindParts view r (l ++ operands_faults s es) p (valued (asked_both unmade k (operand_list s es)))) (sym none) h))

pub other_fails : {X : Type 0} (view : X → Known) (error : ExprError) (s : Scope) (p : Place) (e : Expression) (es : ExpressionList) → is_name e ≡ false → Fails error (faults s e ++ part_broken e (other_than_name s e)) →
    AnswersBehindParts view (Err error) (made_faults s (some_exprs e es)) p (valued (made_verdict s (some_exprs e es)))
other_fails view error s p e es other h =
    let own = faults s e ++ part_broken e (other_than_name s e) in
    by_other view (Err error) s p e es other (fails_front error (own ++ operands_faults s es) _ (fails_front error own (operands_faults s es) h))

-- a literal whose type has no fault
pub literal_asked : {X : Type 0} (view : X → Known) (r : Result (Option X) ExprError) (s : Scope) (p q : Place) (t : TypeExpr) (es : Elements) (k : Option types.Type') → type_faults s t ≡ [] → fine (type_verdict s t) ≡ k → Answers view r (elements_faults s k 0 es ++ broken p (literal_verdict s k es)) (fine (literal_verdict s k es)) → Answers view r (faults s (composite_lit p t q es)) (fine (verdict s (composite_lit p t q es)))
literal_asked view r s p q t es k none is h =
    subst (λ (o : Option types.Type'). Answers view r (type_faults s t ++ elements_faults s o 0 es ++ broken p (literal_verdict s o es)) (fine (literal_verdict s o es))) (sym is)
    (subst (λ (l : List (Place × FaultKind)). Answers view r (l ++ elements_faults s k 0 es ++ broken p (literal_verdict s k es)) (fine (literal_verdict s k es))) (sym none) h)

-- fields of the code as a list
pub fields_packed : (fs : List Field) → fields_in fs ≡ pack_field_list (map typed_field fs)
fields_packed [] = refl
fields_packed (f ∷ fs) = ap (types.field (option_map string_bytes f.package) (string_bytes f.name) (go_type f.of)) (fields_packed fs)

pub fields_listed : (fs : List Field) → listed (fields_in fs) ≡ map typed_field fs
fields_listed [] = refl
fields_listed (f ∷ fs) = ap (λ l. typed_field f ∷ l) (fields_listed fs)

-- the same of the code's literals
pub literal_answered : (r : Result (Option Found) ExprError) (s : Scope) (e : ExprNode) (of : Box TypeNode Global) (q : Place) (rows : Vec ElementNode Global) (a : TypeNode) (es : List ElementNode) (k : Option types.Type') →
    e.kind ≡ CompositeLit of q rows → of.value ≡ a → es ≡ rows.items → type_faults s (type_tree a) ≡ [] → fine (type_verdict s (type_tree a)) ≡ k →
    Answers known_of r (elements_faults s k 0 (elements_in es) ++ broken e.place (literal_verdict s k (elements_in es))) (fine (literal_verdict s k (elements_in es))) →
    Answers known_of r (faults s (expr_tree e)) (fine (verdict s (expr_tree e)))
literal_answered r s e of q rows a es k is held same none known h =
    let seen : expr_tree e ≡ composite_lit e.place (type_tree a) q (elements_in es) =
    ap (λ (k : ExprKind). expr_tree (record { place = e.place; kind = k })) is ∙ literal_seen e.place of q rows a held
    ∙ ap (λ (l : List ElementNode). composite_lit e.place (type_tree a) q (elements_in l)) (sym same) in
    subst (λ (x : Expression). Answers known_of r (faults s x) (fine (verdict s x))) (sym seen) (literal_asked known_of r s e.place q (type_tree a) (elements_in es) k none known h)
