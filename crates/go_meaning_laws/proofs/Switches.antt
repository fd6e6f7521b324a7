-- Switches over sound clauses are never stuck.
use Rattle.std.proofs.Common.{◌≡◌, ℕ, zero, suc, ◌+◌, Bool, true, false, not, ◌&&◌, ◌||◌, List, [], ◌∷◌, Option, Some, None, ◌⊎◌, inl, inr, refl, sym, ap, ◌∙◌, subst, arith, if◌then◌else◌}
use Rattle.go_const.specs.declared.operator.ComparisonOperator.TheVariants.{Equal}
use Rattle.go_types.specs.Types.{Type'}
use Rattle.go_types.specs.Relations.{underlying}
use Rattle.go_typed.specs.declared.expression.Operator.TheVariants.{Comparison as comparison}
use Rattle.go_typed.specs.Trees.{Expr, Exprs, no_exprs, some_exprs, Stmts, Clauses, no_clauses, clause, switch_statement, expr_type}
use Rattle.go_typed.specs.Terminating.{terminates, list_terminates, breaks_any, breaks_clause, has_default, clauses_terminate}
use Rattle.go_meaning.specs.Values.{Value}
use Rattle.go_meaning.specs.Choices.{binary_operators, operated}
use Rattle.go_meaning.specs.Meaning.{ProgramState, Gives, Locals, Calls, Flow, Normal, Breaks, Continues, Returns, and_then, or_panic, eval, if_true, if_normal, is_case, chosen, after_switch, exec, exec_all, from_clause}
use Rattle.go_meaning_laws.specs.WellTyped.{Setting, inside_clause, exprs_types, IsExpr, AreWellTypedExprs, AreCases, AreStmts, AreClauses, declared_after_all, is_last_clause}
use Rattle.go_meaning_laws.proofs.Shelf.{Shelf, grows_not}
use Rattle.go_meaning_laws.proofs.Values.{Of, both_true, suits, of_underlying, of_grow}
use Rattle.go_meaning_laws.proofs.Operators.{IsTruth}
use Rattle.go_meaning_laws.proofs.Binary.{equal_is}
use Rattle.go_meaning_laws.proofs.Worlds.{Sound, sound_then, sound_map, sound_changed, Keeps, Valued, fits_grow, Within}
use Rattle.go_meaning_laws.proofs.Exprs.{Answers, decided, expr_evals}
use Rattle.go_meaning_laws.proofs.Targets.{Fitting}
use Rattle.go_meaning_laws.proofs.Flows.{Leaves, before}

-- there is a clause of that number
abbrev pub InRange : Clauses → Option ℕ → Type 0
InRange no_clauses o = ⊥
InRange (clause cases ss falls cs) None = ⊥
InRange (clause cases ss falls cs) (Some zero) = Unit {0}
InRange (clause cases ss falls cs) (Some (suc n)) = InRange cs (Some n)

-- one of some clauses, which are counted from n on, or what was chosen before if there is no default among them
abbrev pub Chosen : Clauses → ℕ → Option ℕ → Option ℕ → Type 0
Chosen cs n other o = ((k : ℕ) × (o ≡ Some (n + k)) × InRange cs (Some k)) ⊎ ((o ≡ other) × (has_default cs ≡ false))

next_number : (n k : ℕ) (o : Option ℕ) → o ≡ Some (n + 1 + k) → o ≡ Some (n + suc k)
next_number n k o e = e ∙ ap Some (let same : n + 1 + k ≡ n + suc k = omega arith in same)

-- behind a default, and behind a case
chosen_default : (ss : Stmts) (falls : Bool) (cs : Clauses) (n : ℕ) (other o : Option ℕ) → Chosen cs (n + 1) (Some n) o → Chosen (clause None ss falls cs) n other o
chosen_default ss falls cs n other o (inl h) = inl (suc h.0, next_number n h.0 o h.1, h.2)
chosen_default ss falls cs n other o (inr h) = inl (0, h.0 ∙ ap Some (let same : n ≡ n + 0 = omega arith in same), tt)

chosen_case : (es : Exprs) (ss : Stmts) (falls : Bool) (cs : Clauses) (n : ℕ) (other o : Option ℕ) → Chosen cs (n + 1) other o → Chosen (clause (Some es) ss falls cs) n other o
chosen_case es ss falls cs n other o (inl h) = inl (suc h.0, next_number n h.0 o h.1, h.2)
chosen_case es ss falls cs n other o (inr h) = inr h

pub never : (b : Bool) → (b ≡ true → ⊥) → b ≡ false
never true h = absurd (h refl)
never false h = refl

-- what a clause is made of
pub clause_parts : (g : Setting) (d : List ℕ) (t : Type') (cases : Option Exprs) (ss : Stmts) (falls : Bool) (cs : Clauses) → AreClauses g d t (clause cases ss falls cs) → AreStmts (inside_clause g) d ss × ((falls && is_last_clause cs) ≡ false) × AreClauses g d t cs
clause_parts g d t None ss falls cs h = h
clause_parts g d t (Some es) ss falls cs h = (h.2, h.3, h.4)

module _ (calls : Calls) (g : Setting) (d : List ℕ) (answers : Answers g.functions g.variables calls) where
  case_is : (t : Type') (tag : Value) (es : Exprs) (ls : Locals) (σ : Shelf) (w : ProgramState) → Of σ t tag → AreWellTypedExprs g d es → AreCases t (exprs_types es) → Fitting g d ls σ w → Sound σ (λ (b : Bool) σ1 w1. Keeps g.variables σ1 w1) (is_case calls t tag es ls w)
  case_is t tag no_exprs ls σ w of h c k = (σ, grows_not σ, k.1)
  case_is t tag (some_exprs e es) ls σ w of h c k =
      sound_then σ (Valued g.variables (expr_type e)) (λ b σ1 w1. Keeps g.variables σ1 w1) (eval calls e ls w)
      (λ v w1. and_then (or_panic (operated (binary_operators (underlying t) (comparison Equal)) (tag ∷ v ∷ [])) w1) (λ b w2. if_true b (Gives true w2) (is_case calls t tag es ls w2)))
      (expr_evals calls g d answers e h.0 ls σ w k.0 k.1)
      (λ v σ1 w1 grown1 l.
      sound_then σ1 (λ b σ2 w2. IsTruth b × Keeps g.variables σ2 w2) (λ b σ2 w2. Keeps g.variables σ2 w2) (or_panic (operated (binary_operators (underlying t) (comparison Equal)) (tag ∷ v ∷ [])) w1)
      (λ b w2. if_true b (Gives true w2) (is_case calls t tag es ls w2))
      (sound_changed g.variables (λ b σ2. IsTruth b) (operated (binary_operators (underlying t) (comparison Equal)) (tag ∷ v ∷ [])) σ1 w1 l.1
      (equal_is σ1 (underlying t) tag v (of_underlying σ1 t tag (of_grow t tag grown1 of)) (of_underlying σ1 t v (suits σ1 (expr_type e) t v c.0 l.0))))
      (λ b σ2 w2 grown2 m. decided σ2 (λ (b : Bool) σ3 w3. Keeps g.variables σ3 w3) b (Gives true w2) (is_case calls t tag es ls w2) m.0 (σ2, grows_not σ2, m.1) (case_is t tag es ls σ2 w2 (of_grow t tag grown2 (of_grow t tag grown1 of)) h.1 c.1 (fits_grow grown2 (fits_grow grown1 k.0), m.1))))

  abbrev Choosing : Clauses → ℕ → Option ℕ → Option ℕ → Shelf → ProgramState → Type 0
  Choosing cs n other o σ w = Chosen cs n other o × Keeps g.variables σ w

  pub chosen_is : (t : Type') (tag : Value) (cs : Clauses) (n : ℕ) (other : Option ℕ) (ls : Locals) (σ : Shelf) (w : ProgramState) → Of σ t tag → AreClauses g d t cs → Fitting g d ls σ w → Sound σ (Choosing cs n other) (chosen calls t tag cs n other ls w)
  chosen_is t tag no_clauses n other ls σ w of h k = (σ, grows_not σ, (inr (refl, refl), k.1))
  chosen_is t tag (clause None ss falls cs) n other ls σ w of h k =
      sound_map σ (Choosing cs (n + 1) (Some n)) (Choosing (clause None ss falls cs) n other) (chosen calls t tag cs (n + 1) (Some n) ls w) (λ o σ1 w1 grown1 l. (chosen_default ss falls cs n other o l.0, l.1))
      (chosen_is t tag cs (n + 1) (Some n) ls σ w of h.2 k)
  chosen_is t tag (clause (Some es) ss falls cs) n other ls σ w of h k =
      sound_then σ (λ (b : Bool) σ1 w1. Keeps g.variables σ1 w1) (Choosing (clause (Some es) ss falls cs) n other) (is_case calls t tag es ls w)
      (λ b w1. if b then Gives (Some n) w1 else chosen calls t tag cs (n + 1) other ls w1) (case_is t tag es ls σ w of h.0 h.1 k)
      (λ b σ1 w1 grown1 l. by_case b σ1 w1 l (chosen_is t tag cs (n + 1) other ls σ1 w1 (of_grow t tag grown1 of) h.4 (fits_grow grown1 k.0, l)))
    where
      by_case : (b : Bool) (σ1 : Shelf) (w1 : ProgramState) → Keeps g.variables σ1 w1 → Sound σ1 (Choosing cs (n + 1) other) (chosen calls t tag cs (n + 1) other ls w1) → Sound σ1 (Choosing (clause (Some es) ss falls cs) n other) (if b then Gives (Some n) w1 else chosen calls t tag cs (n + 1) other ls w1)
      by_case true σ1 w1 good rest = (σ1, grows_not σ1, (inl (0, ap Some (let same : n ≡ n + 0 = omega arith in same), tt), good))
      by_case false σ1 w1 good rest = sound_map σ1 (Choosing cs (n + 1) other) (Choosing (clause (Some es) ss falls cs) n other) (chosen calls t tag cs (n + 1) other ls w1) (λ o σ2 w2 grown2 m. (chosen_case es ss falls cs n other o m.0, m.1)) rest

  -- ---- from a clause on

  abbrev pub ListLeaves : Setting → Stmts → Type 0
  ListLeaves g1 ss = (ls : Locals) (σ : Shelf) (w : ProgramState) → Fitting g1 d ls σ w → Sound σ (Leaves g1 d (declared_after_all d ss) (list_terminates ss) (breaks_any ss)) (exec_all calls ss ls w)

  abbrev pub ClauseLeaves : Clauses → Type 0
  ClauseLeaves cs = (o : Option ℕ) (ends breaks : Bool) → (ends ≡ true → (clauses_terminate cs ≡ true) × InRange cs o) → (breaks_clause cs ≡ true → breaks ≡ true) → (ls : Locals) (σ : Shelf) (w : ProgramState) → Fitting g d ls σ w → Sound σ (Leaves (inside_clause g) d d ends breaks) (from_clause calls cs o ls w)

  pub none_leave : ClauseLeaves no_clauses
  none_leave o ends breaks h b ls σ w k = (σ, grows_not σ, (k, never ends (λ e. (h e).1)))

  more_in : (cs : Clauses) → is_last_clause cs ≡ false → InRange cs (Some zero)
  more_in no_clauses e = cc
  more_in (clause cases ss falls cs) e = tt

  -- where a clause is left for the next one, it falls through to one that there is
  falls_on : (falls ends : Bool) (cs : Clauses) → (ends || falls) ≡ true → ends ≡ false → (falls && is_last_clause cs) ≡ false → InRange cs (if falls then Some zero else None)
  falls_on true ends cs e n last = more_in cs last
  falls_on false true cs e n last = absurd (cc)
  falls_on false false cs e n last = absurd (cc)

  or_swap : (p q : Bool) → (p || q) ≡ true → (q || p) ≡ true
  or_swap true true e = refl
  or_swap true false e = refl
  or_swap false true e = refl
  or_swap false false e = e

  or_left : (p q : Bool) → p ≡ true → (p || q) ≡ true
  or_left true q e = refl
  or_left false q e = cc

  or_right : (p q : Bool) → q ≡ true → (p || q) ≡ true
  or_right true q e = refl
  or_right false q e = e

  pub some_leave : (cases : Option Exprs) (ss : Stmts) (falls : Bool) (cs : Clauses) → Within d (declared_after_all d ss) → ListLeaves (inside_clause g) ss → (falls && is_last_clause cs) ≡ false → ClauseLeaves cs → ClauseLeaves (clause cases ss falls cs)
  some_leave cases ss falls cs grown body last rest None ends breaks h b ls σ w k = (σ, grows_not σ, (k, never ends (λ e. (h e).1)))
  some_leave cases ss falls cs grown body last rest (Some (suc n)) ends breaks h b ls σ w k =
      rest (Some n) ends breaks (λ e. (let r = h e in ((both_true (falls || list_terminates ss) (clauses_terminate cs) r.0).1, r.1))) (λ e. b (or_right (breaks_any ss) (breaks_clause cs) e)) ls σ w k
  some_leave cases ss falls cs grown body last rest (Some zero) ends breaks h b ls σ w k =
      sound_then σ (Leaves (inside_clause g) d (declared_after_all d ss) (list_terminates ss) (breaks_any ss)) (Leaves (inside_clause g) d d ends breaks) (exec_all calls ss ls w) (if_normal (from_clause calls cs (if falls then Some zero else None))) (body ls σ w k) (λ f σ1 w1 grown1. on f σ1 w1)
    where
      on : (f : Flow) (σ1 : Shelf) (w1 : ProgramState) → Leaves (inside_clause g) d (declared_after_all d ss) (list_terminates ss) (breaks_any ss) f σ1 w1 → Sound σ1 (Leaves (inside_clause g) d d ends breaks) (if_normal (from_clause calls cs (if falls then Some zero else None)) f w1)
      on (Normal ls1) σ1 w1 l =
          rest (if falls then Some zero else None) ends breaks
          (λ e.
          let r = both_true (falls || list_terminates ss) (clauses_terminate cs) (h e).0 in
          (r.1, falls_on falls (list_terminates ss) cs (or_swap falls (list_terminates ss) r.0) l.1 last))
          (λ e. b (or_right (breaks_any ss) (breaks_clause cs) e)) ls1 σ1 w1 (before g d (declared_after_all d ss) ls1 σ1 w1 grown l.0)
      on (Breaks ls1) σ1 w1 l = (σ1, grows_not σ1, (l.0, l.1, b (or_left (breaks_any ss) (breaks_clause cs) l.2)))
      on (Continues ls1) σ1 w1 l = (σ1, grows_not σ1, l)
      on (Returns vs) σ1 w1 l = (σ1, grows_not σ1, l)

  -- ---- the whole switch

  not_ended : (p q r : Bool) → q ≡ true → ((p && not q) && r) ≡ false
  not_ended true true r e = refl
  not_ended false true r e = refl
  not_ended p false r e = cc

  abbrev is_ended : Clauses → Bool
  is_ended cs = (has_default cs && not (breaks_clause cs)) && clauses_terminate cs

  ended : (cs : Clauses) (o : Option ℕ) → Chosen cs 0 None o → is_ended cs ≡ true → (clauses_terminate cs ≡ true) × InRange cs o
  ended cs o (inl c) x =
      let same : 0 + c.0 ≡ c.0 = omega arith in
      ((both_true (has_default cs && not (breaks_clause cs)) (clauses_terminate cs) x).1, subst (InRange cs) (sym (c.1 ∙ ap Some same)) c.2)
  ended cs o (inr c) x =
      let some = both_true (has_default cs) (not (breaks_clause cs)) (both_true (has_default cs && not (breaks_clause cs)) (clauses_terminate cs) x).0 in
      let default : has_default cs ≡ true = some.0 in
      absurd (let none = c.1 in cc)

  left : (cs : Clauses) (f : Flow) (σ : Shelf) (w : ProgramState) → Leaves (inside_clause g) d d (is_ended cs) (breaks_clause cs) f σ w → Sound σ (Leaves g d d (is_ended cs) false) (after_switch f w)
  left cs (Normal ls) σ w l = (σ, grows_not σ, l)
  left cs (Breaks ls) σ w l = (σ, grows_not σ, (l.0, not_ended (has_default cs) (breaks_clause cs) (clauses_terminate cs) l.2))
  left cs (Continues ls) σ w l = (σ, grows_not σ, l)
  left cs (Returns vs) σ w l = (σ, grows_not σ, l)

  pub switch_leaves : (e : Expr) (cs : Clauses) → IsExpr g d e → AreClauses g d (expr_type e) cs → ClauseLeaves cs → (ls : Locals) (σ : Shelf) (w : ProgramState) → Fitting g d ls σ w → Sound σ (Leaves g d d (terminates (switch_statement e cs)) false) (exec calls (switch_statement e cs) ls w)
  switch_leaves e cs he hc clauses ls σ w k =
      sound_then σ (Valued g.variables (expr_type e)) (Leaves g d d (is_ended cs) false) (eval calls e ls w)
      (λ tag w1. and_then (chosen calls (expr_type e) tag cs 0 None ls w1) (λ o w2. and_then (from_clause calls cs o ls w2) after_switch))
      (expr_evals calls g d answers e he ls σ w k.0 k.1)
      (λ tag σ1 w1 grown1 l.
      sound_then σ1 (Choosing cs 0 None) (Leaves g d d (is_ended cs) false) (chosen calls (expr_type e) tag cs 0 None ls w1) (λ o w2. and_then (from_clause calls cs o ls w2) after_switch)
      (chosen_is (expr_type e) tag cs 0 None ls σ1 w1 l.0 hc (fits_grow grown1 k.0, l.1))
      (λ o σ2 w2 grown2 m.
      sound_then σ2 (Leaves (inside_clause g) d d (is_ended cs) (breaks_clause cs)) (Leaves g d d (is_ended cs) false) (from_clause calls cs o ls w2) after_switch
      (clauses o (is_ended cs) (breaks_clause cs) (λ x. ended cs o m.0 x) (λ x. x) ls σ2 w2 (fits_grow grown2 (fits_grow grown1 k.0), m.1)) (λ f σ3 w3 grown3. left cs f σ3 w3)))
