-- What is told of a type and of values that are repeated.
use Rattle.std.proofs.Common.{◌≡◌, ◌≢◌, Bool, true, false, Option, Some, None, List, [], ◌∷◌, ◌++◌, map, nat_le, refl, sym, ap, ◌∙◌, subst}
use Rattle.std.proofs.lemmas.List.{map-append}
use Rattle.go_text.specs.declared.place.Place.{Place}
use Rattle.go_text.specs.declared.fault.FaultKind.{FaultKind}
use Rattle.go_text.specs.Faults.{fault_number}
use Rattle.go_ast.specs.Trees.{TypeExpr, ExpressionList, no_exprs, some_exprs}
use Rattle.go_expr.specs.Known.{Scope}
use Rattle.go_expr.specs.Verdicts.{verdict, faults, operand_broken}
use Rattle.go_expr.specs.declared.error.ExprError.{ExprError}
use Rattle.go_expr.specs.declared.error.ExprError.TheVariants.{Faulty}
use Rattle.go_expr.specs.Rules.{least, lesser_fault}
use Rattle.go_expr.specs.Views.{Fails}
use Rattle.go_expr.proofs.Gathering.{least_both}
use Rattle.go_stmt.specs.Scopes.{StatementFaults}
use Rattle.go_stmt.specs.Statements.{first_fault, first_faults, operands_faults, written_faults, least_at, repeated_faults}

-- the kinds of some faults
abbrev pub kinds : StatementFaults → List FaultKind
kinds fs = map (λ f. f.1) fs

pub first_none : (fs : StatementFaults) → fs ≡ [] → None ≡ least (kinds (first_fault fs))
first_none fs none = ap (λ l. least (kinds (first_fault l))) (sym none)

pub first_some : (e : ExprError) (p : Place) (kind : FaultKind) (fs : StatementFaults) → e ≡ Faulty p kind → Fails e fs → Some kind ≡ least (kinds (first_fault fs))
first_some e p kind fs is h = (let told : Fails (Faulty p kind) fs = subst (λ (x : ExprError). Fails x fs) is h in ap (λ l. least (kinds (first_fault l))) (sym told.1))

pub is_faulty : (e : ExprError) (p : Place) (kind : FaultKind) (fs : StatementFaults) → e ≡ Faulty p kind → Fails e fs → fs ≢ []
is_faulty e p kind fs is h none =
    let told : Fails (Faulty p kind) fs = subst (λ (x : ExprError). Fails x fs) is h in
    let no : [] ≡ (p, kind) ∷ told.0 = sym none ∙ told.1 in
    cc (no)

-- that of a type and of values
pub least_of_both : (a b : Option FaultKind) (fs gs : StatementFaults) → a ≡ least (kinds fs) → b ≡ least (kinds gs) → lesser_fault a b ≡ least (kinds (fs ++ gs))
least_of_both a b fs gs at bt =
    ap (λ x. lesser_fault x b) at ∙ ap (lesser_fault (least (kinds fs))) bt ∙ sym (least_both (kinds fs) (kinds gs)) ∙ ap least (sym (map-append (λ f. f.1) fs gs))

-- ---- where nothing is told there is no fault

none_front : (xs ys : StatementFaults) → xs ++ ys ≡ [] → xs ≡ []
none_front [] ys h = refl
none_front (x ∷ xs) ys h = cc

none_back : (xs ys : StatementFaults) → xs ++ ys ≡ [] → ys ≡ []
none_back [] ys h = h
none_back (x ∷ xs) ys h = cc

some_lesser : (k : FaultKind) (o : Option FaultKind) → lesser_fault (Some k) o ≡ None → ⊥
some_lesser k None h = cc
some_lesser k (Some l) h = by (nat_le (fault_number k) (fault_number l)) refl
  where
    by : (b : Bool) → nat_le (fault_number k) (fault_number l) ≡ b → ⊥
    by true at = (let r : lesser_fault (Some k) (Some l) ≡ Some k = rw at refl in let no : Some k ≡ None = sym r ∙ h in cc (no))
    by false at = (let r : lesser_fault (Some k) (Some l) ≡ Some l = rw at refl in let no : Some l ≡ None = sym r ∙ h in cc (no))

pub none_least : (fs : StatementFaults) → least (kinds fs) ≡ None → fs ≡ []
none_least [] h = refl
none_least (f ∷ fs) h = absurd (some_lesser f.1 (least (kinds fs)) h)

abbrev pub told_as : Place → Option FaultKind → StatementFaults
told_as p o = elim o [ None ↦ [] | Some kind ↦ (p, kind) ∷ [] ]

by_least : (p : Place) (o : Option FaultKind) → told_as p o ≡ [] → o ≡ None
by_least p None h = refl
by_least p (Some kind) h = cc

pub none_at : (p : Place) (fs : StatementFaults) → least_at p fs ≡ [] → fs ≡ []
none_at p fs h = none_least fs (by_least p (least (kinds fs)) h)

pub no_first : (fs : StatementFaults) → first_fault fs ≡ [] → fs ≡ []
no_first [] h = refl
no_first (f ∷ fs) h = cc

pub no_firsts : (s : Scope) (es : ExpressionList) → first_faults s es ≡ [] → operands_faults s es ≡ []
no_firsts s no_exprs h = refl
no_firsts s (some_exprs e es) h =
    let own = faults s e ++ operand_broken e (verdict s e) in
    let first = no_first own (none_front (first_fault own) (first_faults s es) h) in
    ap (λ l. l ++ operands_faults s es) first ∙ no_firsts s es (none_back (first_fault own) (first_faults s es) h)

pub firsts_none : (s : Scope) (es : ExpressionList) → operands_faults s es ≡ [] → first_faults s es ≡ []
firsts_none s no_exprs h = refl
firsts_none s (some_exprs e es) h =
    let own = faults s e ++ operand_broken e (verdict s e) in
    ap (λ l. first_fault l ++ first_faults s es) (none_front own (operands_faults s es) h) ∙ firsts_none s es (none_back own (operands_faults s es) h)

-- what isn't hidden and tells nothing has no fault, and what has none tells nothing
pub repeated_none : (p : Place) (s : Scope) (t : Option TypeExpr) (es : ExpressionList) → repeated_faults false p s t es ≡ [] → written_faults s t ++ operands_faults s es ≡ []
repeated_none p s t es h =
    let none = none_at p (first_fault (written_faults s t) ++ first_faults s es) h in
    ap (λ l. l ++ operands_faults s es) (no_first (written_faults s t) (none_front (first_fault (written_faults s t)) (first_faults s es) none))
    ∙ no_firsts s es (none_back (first_fault (written_faults s t)) (first_faults s es) none)

pub none_repeated : (hidden : Bool) (p : Place) (s : Scope) (t : Option TypeExpr) (es : ExpressionList) → written_faults s t ++ operands_faults s es ≡ [] → repeated_faults hidden p s t es ≡ []
none_repeated true p s t es h = refl
none_repeated false p s t es h =
    ap (λ l. least_at p (first_fault l ++ first_faults s es)) (none_front (written_faults s t) (operands_faults s es) h)
    ∙ ap (least_at p) (firsts_none s es (none_back (written_faults s t) (operands_faults s es) h))

-- the least is told
pub told_least : (p : Place) (kind : FaultKind) (fs : StatementFaults) → Some kind ≡ least (kinds fs) → least_at p fs ≡ (p, kind) ∷ []
told_least p kind fs h = ap (told_as p) (sym h)
