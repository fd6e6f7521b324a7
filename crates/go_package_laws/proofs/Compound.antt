-- What the rules make of statements whose parts are well typed.
use Rattle.std.proofs.Common.{◌≡◌, ℕ, Bool, true, false, not, ◌&&◌, Option, Some, None, List, [], ◌∷◌, ◌++◌, map, length, refl, sym, ap, subst, ◌∙◌, true≢false}
use Rattle.std.specs.Prelude.{nat_eq, option_map, unwrap_or, if◌then◌else◌}
use Rattle.std.proofs.lemmas.List.{length-map}
use Rattle.std.specs.List.{zip}
use Rattle.go_text.specs.declared.fault.FaultKind.TheVariants.{Mismatch, Count}
use Rattle.go_types.specs.declared.types.Basic.TheVariants as basics
use Rattle.go_types.specs.declared.types.Untyped.TheVariants as kinds
use Rattle.go_types.specs.Types.{Type', basic, array, slice, struct, named}
use Rattle.go_typed.specs.Trees as typed
use Rattle.go_typed.specs.Trees.{Expr, expr_type, Exprs, Stmt, if_statement, for_statement, switch_statement, range_statement, return, ValueSource, each, pack_exprs, pack_stmts, pack_clauses, Clauses}
use Rattle.go_meaning_laws.specs.WellTyped.{Setting, AllSuit, declared_after, source_types, AreWellTypedExprs, exprs_types, AreCases, IsStmt, AreStmts, AreClauses, IsConditionOrNone, inside_loop, in_post, inside_clause, is_last_clause}
use Rattle.go_expr.specs.Known.{Verdict, Fine, Breaks}
use Rattle.go_expr.specs.Rules as rules
use Rattle.go_expr.specs.Rules.{checked, condition, default_type, defaulted, fine_list}
use Rattle.go_expr.specs.Verdicts.{asked}
use Rattle.go_stmt.specs.Rules.{AssignedValues, separate, together, no_values, suited_one, suited_if, suited_partly, suited, return_verdict, conditional, loop_condition, looped, ranged, SwitchClause, case_value, clause_verdict, switched, branch}
use Rattle.go_package_laws.proofs.Soundness.{Table, IsSoundType, AreSoundTypes, IsSoundValue}
use Rattle.go_package_laws.proofs.Expected.{Expected}
use Rattle.go_package_laws.proofs.Values.{checked_part, own_types, AreDue, SoundDue, AreSoundValues, AllSoundValues, sound_suited}
use Rattle.go_package_laws.proofs.Lists.{behind, AreList, behind_more, more_stmts}
use Rattle.go_package_laws.proofs.Leaves.{SoundCondition}
use Rattle.go_package_laws.proofs.Cases.{sound_cases}

all_due : (w : Table) (ts : List Type') → AreSoundTypes w ts → SoundDue w (map Some ts)
all_due w [] h = tt
all_due w (t ∷ ts) h = (h.0, all_due w ts h.1)

due_suits : (w : Table) (ts vs given : List Type') → AreDue w (map Some ts) vs given → AllSuit given ts
due_suits w [] [] [] h = tt
due_suits w (t ∷ ts) (v ∷ vs) (u ∷ us) h = (h.0, due_suits w ts vs us h.1)
due_suits w [] (v ∷ vs) us h = absurd h
due_suits w [] [] (u ∷ us) h = absurd h
due_suits w (t ∷ ts) [] us h = absurd h
due_suits w (t ∷ ts) (v ∷ vs) [] h = absurd h

-- a range counts through integers
pub counts : (t : Type') → rules.is_integer t ≡ true → rules.is_integer (default_type t) ≡ true
counts (basic basics.Bool) h = h
counts (basic basics.String) h = h
counts (basic (basics.Integer i)) h = h
counts (basic (basics.Untyped kinds.Bool)) h = absurd (true≢false (sym h))
counts (basic (basics.Untyped kinds.Int)) h = refl
counts (basic (basics.Untyped kinds.Rune)) h = refl
counts (basic (basics.Untyped kinds.String)) h = absurd (true≢false (sym h))
counts (array n t) h = h
counts (slice t) h = h
counts (struct fs) h = h
counts (named p x t) h = h

body_part : (o : Option (List Stmt)) (f : List Stmt → List Stmt) (y : List Stmt) → asked (λ ss. Fine (f ss)) o ≡ Fine y → (ss : List Stmt) × (o ≡ Some ss) × (f ss ≡ y)
body_part None f y h = absurd cc
body_part (Some ss) f y h = (ss, refl, cc)

-- where all is known that is due
some_mapped : (ts : List Type') → map (option_map Some) (map Some ts) ≡ map Some (map Some ts)
some_mapped [] = refl
some_mapped (t ∷ ts) = ap (λ l. Some (Some t) ∷ l) (some_mapped ts)

each_known : (due : List (Option Type')) (es : List Expr) → map suited_if (zip (map Some due) es) ≡ map suited_one (zip due es)
each_known [] es = refl
each_known (o ∷ os) [] = refl
each_known (o ∷ os) (e ∷ es) = ap (λ l. suited_one (o, e) ∷ l) (each_known os es)

whole_due : (due : List (Option Type')) → map (λ t. unwrap_or t None) (map Some due) ≡ due
whole_due [] = refl
whole_due (o ∷ os) = ap (λ l. o ∷ l) (whole_due os)

abbrev counted_values : ℕ → List Expr → List (Verdict Expr) → Verdict ValueSource
counted_values n es vs = if nat_eq n (length es) then checked (λ es. Fine (each (pack_exprs es))) (fine_list [] vs) else Breaks Count

partly_whole : (due : List (Option Type')) (values : AssignedValues) → suited_partly (map Some due) values ≡ suited due values
partly_whole due (separate es) =
    ap (λ n. counted_values n es (map suited_if (zip (map Some due) es))) (length-map due Some) ∙ ap (counted_values (length due) es) (each_known due es)
partly_whole due (together ts f es) = ap (λ l. suited l (together ts f es)) (whole_due due)
partly_whole due no_values = refl

module _ (x : Expected) (w : Table) (g : Setting) where
  -- a statement behind some others, which declares nothing
  list_end : (d : List ℕ) (before : List Stmt) (s : Stmt) (y : List Stmt) → AreList w g d before → IsStmt g (behind d before) s → declared_after (behind d before) s ≡ behind d before → before ++ s ∷ [] ≡ y → AreList w g d y × (behind d before ≡ behind d y)
  list_end d before s y h k stays same =
      subst (λ (ss : List Stmt). AreList w g d ss × (behind d before ≡ behind d ss)) same
      (more_stmts g d before (s ∷ []) h (k, tt), sym stays ∙ sym (behind_more d before (s ∷ [])))

  pub sound_return : (d : List ℕ) (ts : List Type') (values : AssignedValues) (y : List Stmt) → ts ≡ g.results → AreSoundTypes w ts → AreSoundValues x w g d values → return_verdict (map Some ts) values ≡ Fine y
      → AreList w g d y × (d ≡ behind d y)
  sound_return d ts values y same sound h is =
      let part = checked_part (λ (source : ValueSource). Fine (return source ∷ [])) (suited_partly (map (option_map Some) (map Some ts)) values) y is in
      let made : suited (map Some ts) values ≡ Fine part.0 = sym (ap (λ due. suited_partly due values) (some_mapped ts) ∙ partly_whole (map Some ts) values) ∙ part.1 in
      let suit = sound_suited x w g d (map Some ts) values part.0 (all_due w ts sound) h made in
      let done : return part.0 ∷ [] ≡ y = (let q : Fine (return part.0 ∷ []) ≡ Fine y = part.2 in cc) in
      let gives : AllSuit (source_types part.0) g.results = subst (AllSuit (source_types part.0)) same (due_suits w ts (own_types values) (source_types part.0) suit.1) in
      list_end d [] (return part.0) y tt (suit.0, gives) refl done

  pub sound_branch : (d : List ℕ) (b : Bool) (ss y : List Stmt) → branch b ss ≡ Fine y → (b ≡ true) × (ss ≡ y)
  sound_branch d true ss y is = (refl, cc)
  sound_branch d false ss y is = absurd cc

  pub sound_if : (d : List ℕ) (before : List Stmt) (e : Expr) (a b y : List Stmt) → AreList w g d before → IsSoundValue w g (behind d before) e → AreList w g (behind d before) a → AreList w g (behind d before) b → conditional before e a b ≡ Fine y
      → AreList w g d y × (behind d before ≡ behind d y)
  sound_if d before e a b y h k m n is =
      let part = checked_part (λ e. Fine (before ++ if_statement e (pack_stmts a) (pack_stmts b) ∷ [])) (condition e) y is in
      list_end d before (if_statement part.0 (pack_stmts a) (pack_stmts b)) y h (x.sound_condition w g (behind d before) e k part.0 part.1, m, n) refl
      (let q : Fine (before ++ if_statement part.0 (pack_stmts a) (pack_stmts b) ∷ []) ≡ Fine y = part.2 in cc)

  loop_sound : (d : List ℕ) (e o : Option Expr) → SoundCondition x w g d e → loop_condition e ≡ Fine o → IsConditionOrNone g d o
  loop_sound d None o h is = (let same : None ≡ o = cc in subst (IsConditionOrNone g d) same tt)
  loop_sound d (Some e) o h is =
      let part = checked_part (λ e. Fine (Some e)) (condition e) o is in
      let same : Some part.0 ≡ o = (let q : Fine (Some part.0) ≡ Fine o = part.2 in cc) in
      subst (IsConditionOrNone g d) same (x.sound_condition w g d e h part.0 part.1)

  pub sound_loop : (d : List ℕ) (before : List Stmt) (e : Option Expr) (post ss y : List Stmt) → AreList w g d before → SoundCondition x w g (behind d before) e → AreStmts (in_post g) (behind d before) (pack_stmts post)
      → AreStmts (inside_loop g) (behind d before) (pack_stmts ss) → looped before e post ss ≡ Fine y → AreList w g d y × (behind d before ≡ behind d y)
  sound_loop d before e post ss y h k m n is =
      let part = checked_part (λ e. Fine (before ++ for_statement e (pack_stmts post) (pack_stmts ss) ∷ [])) (loop_condition e) y is in
      list_end d before (for_statement part.0 (pack_stmts post) (pack_stmts ss)) y h (loop_sound (behind d before) e part.0 k part.1, m, n) refl
      (let q : Fine (before ++ for_statement part.0 (pack_stmts post) (pack_stmts ss) ∷ []) ≡ Fine y = part.2 in cc)

  -- ---- switches

  pub sound_switch : (d : List ℕ) (before : List Stmt) (e : Expr) (cs : List SwitchClause) (y : List Stmt) → AreList w g d before → IsSoundValue w g (behind d before) e
      → ((t : Type') → default_type (expr_type e) ≡ t → IsSoundType w t → AreClauses g (behind d before) t (pack_clauses cs)) → switched before e cs ≡ Fine y → AreList w g d y × (behind d before ≡ behind d y)
  sound_switch d before e cs y h k m is =
      let part = checked_part (λ tag. Fine (before ++ switch_statement tag (pack_clauses cs) ∷ [])) (defaulted e) y is in
      let made = x.sound_defaulted w g (behind d before) e k part.0 part.1 in
      list_end d before (switch_statement part.0 (pack_clauses cs)) y h ((made.0).0, m (expr_type part.0) (sym made.1) (made.0).1) refl
      (let q : Fine (before ++ switch_statement part.0 (pack_clauses cs) ∷ []) ≡ Fine y = part.2 in cc)

  abbrev OfCases : List ℕ → Type' → Option Exprs → Type 0
  OfCases d t None = Unit {0}
  OfCases d t (Some es) = AreWellTypedExprs g d es × AreCases t (exprs_types es)

  abbrev pub SoundClause : Option Type' → Bool → List ℕ → SwitchClause → Type 0
  SoundClause compared falls d k = ((k.1).1 ≡ falls) × AreStmts (inside_clause g) d (k.1).0 × ((t : Type') → compared ≡ Some t → IsSoundType w t → OfCases d t k.0)

  abbrev pub SoundValues : List ℕ → Option (List Expr) → Type 0
  SoundValues d None = Unit {0}
  SoundValues d (Some es) = AllSoundValues x w g d es

  default_clause : (compared : Option Type') (again falls : Bool) (d : List ℕ) (ss : List Stmt) (y : SwitchClause) → AreStmts (inside_clause g) d (pack_stmts ss) → clause_verdict compared again falls None ss ≡ Fine y → SoundClause compared falls d y
  default_clause compared true falls d ss y h is = absurd cc
  default_clause compared false falls d ss y h is = (let same : (None, (pack_stmts ss, falls)) ≡ y = cc in subst (SoundClause compared falls d) same (refl, h, λ t at k. tt))

  pub sound_clause : (compared : Option Type') (again falls : Bool) (d : List ℕ) (o : Option (List Expr)) (ss : List Stmt) (y : SwitchClause) → SoundValues d o → AreStmts (inside_clause g) d (pack_stmts ss) → clause_verdict compared again falls o ss ≡ Fine y
      → SoundClause compared falls d y
  sound_clause compared again falls d None ss y h k is = default_clause compared again falls d ss y k is
  sound_clause compared again falls d (Some es) ss y h k is =
      let rule = λ (t : Type'). fine_list [] (map (case_value t) es) in
      let part = checked_part (λ es. Fine (Some (pack_exprs es), (pack_stmts ss, falls))) (asked rule compared) y is in
      let same : (Some (pack_exprs part.0), (pack_stmts ss, falls)) ≡ y = (let q : Fine (Some (pack_exprs part.0), (pack_stmts ss, falls)) ≡ Fine y = part.2 in cc) in
      subst (SoundClause compared falls d) same (
        refl,
        k,
        λ t at sound. (
            let there : fine_list [] (map (case_value t) es) ≡ Fine part.0 = sym (ap (asked rule) at) ∙ part.1 in
            sound_cases x w g d t es part.0 sound h there
            ),
      )

  falls_off : (leads last : Bool) (cs : Clauses) → (last ≡ false → is_last_clause cs ≡ false) → ((leads && not last) && is_last_clause cs) ≡ false
  falls_off false last cs h = refl
  falls_off true true cs h = refl
  falls_off true false cs h = h refl

  pub front_clause : (d : List ℕ) (t : Type') (k : SwitchClause) (cs : Clauses) (leads last : Bool) → (k.1).1 ≡ (leads && not last) → (last ≡ false → is_last_clause cs ≡ false) → AreStmts (inside_clause g) d (k.1).0
      → ((es : Exprs) → k.0 ≡ Some es → AreWellTypedExprs g d es × AreCases t (exprs_types es)) → AreClauses g d t cs → AreClauses g d t (typed.clause k.0 (k.1).0 (k.1).1 cs)
  front_clause d t (None, (ss, falls)) cs leads last is none h k m = (h, (subst (λ (b : Bool). (b && is_last_clause cs) ≡ false) (sym is) (falls_off leads last cs none)), m)
  front_clause d t (Some es, (ss, falls)) cs leads last is none h k m = (let of = k es refl in (of.0, of.1, h, (subst (λ (b : Bool). (b && is_last_clause cs) ≡ false) (sym is) (falls_off leads last cs none)), m))

  pub of_cases : (d : List ℕ) (t : Type') (o : Option Exprs) (es : Exprs) → OfCases d t o → o ≡ Some es → AreWellTypedExprs g d es × AreCases t (exprs_types es)
  of_cases d t o es h is = subst (OfCases d t) is h

  -- ---- ranges

  pub ranged_parts : (number : Option ℕ) (e : Expr) (body : Option (List Stmt)) (y : List Stmt) (int : Bool) → rules.is_integer (expr_type e) ≡ int → ranged number e body ≡ Fine y
      → (t : Expr) × (ss : List Stmt) × (int ≡ true) × (defaulted e ≡ Fine t) × (body ≡ Some ss) × (range_statement number (expr_type t) t (pack_stmts ss) ∷ [] ≡ y)
  ranged_parts number e body y false is h = absurd (let r : ranged number e body ≡ Breaks Mismatch = rw is refl in cc)
  ranged_parts number e body y true is h =
      let rule = λ (t : Expr). asked (λ ss. Fine (range_statement number (expr_type t) t (pack_stmts ss) ∷ [])) body in
      let r : ranged number e body ≡ checked rule (defaulted e) = rw is refl in
      let part = checked_part rule (defaulted e) y (sym r ∙ h) in
      let made = body_part body (λ ss. range_statement number (expr_type part.0) part.0 (pack_stmts ss) ∷ []) y part.2 in
      (part.0, made.0, refl, part.1, made.1, made.2)
