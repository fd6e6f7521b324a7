-- Short declarations define new variables, and give values to those that the block has.
use Rattle.std.proofs.Common.{◌≡◌, ℕ, Bool, true, false, not, ◌&&◌, ◌||◌, Option, Some, None, List, [], ◌∷◌, map, refl, sym, ap, subst, ◌∙◌, ◌⊎◌, inl, inr}
use Rattle.std.specs.Prelude.{bytes_eq, is_some}
use Rattle.std.specs.List.{list_any, slice_get}
use Rattle.std.specs.Map.{lookup}
use Rattle.std.proofs.lemmas.Bool.{cases_Bool, and_parts}
use Rattle.std.proofs.lemmas.Slice.Eq.{bytes_eq-Decides}
use Rattle.go_text.specs.declared.place.Place.{Place}
use Rattle.go_text.specs.declared.fault.FaultKind.TheVariants.{Redeclared, Mismatch}
use Rattle.go_ast.specs.Trees as source
use Rattle.go_ast.specs.Trees.{Name}
use Rattle.go_types.specs.Types.{Type'}
use Rattle.go_types.specs.Relations.{underlying}
use Rattle.go_typed.specs.Trees.{constant, local, ValueSource, Stmt, define}
use Rattle.go_meaning_laws.specs.WellTyped.{Setting, declared_after, source_types, IsStmt}
use Rattle.go_expr.specs.Known.{Declared, value, Verdict, Fine, Breaks, Passed}
use Rattle.go_expr.specs.Rules.{fine, checked}
use Rattle.go_expr.specs.Verdicts.{asked}
use Rattle.go_scope.specs.Scopes.{is_blank}
use Rattle.go_stmt.specs.Scopes.{StatementEnv, Context, scope_in, own, variable_number, paired_names, declare_new}
use Rattle.go_stmt.specs.Rules.{all_some, AssignedValues, suited, differ, is_new, due_for, dues_for, suited_partly, redefined}
use Rattle.go_stmt.specs.Statements.{values_known, value_types, short_at}
use Rattle.go_package_laws.proofs.Completeness.Counts.{values_fit}
use Rattle.go_package_laws.proofs.Completeness.Declares.{Dues, fit_due}
use Rattle.go_package_laws.proofs.Soundness.{Table, IsSoundType}
use Rattle.go_package_laws.proofs.Texts.{HaveTexts}
use Rattle.go_package_laws.proofs.Expected.{Expected}
use Rattle.go_package_laws.proofs.Related.{SoundLocals, AllSound, IsSoundName, Related, Sure}
use Rattle.go_package_laws.proofs.Values.{checked_part, some_part, own_types, AreDue, SoundDue, sound_values, sound_suited}
use Rattle.go_package_laws.proofs.Numbered.{Outside, scope_sound, own_other, next, FitsName, Ready, new_grows}
use Rattle.go_package_laws.proofs.Leaves.{fine_is}
use Rattle.go_package_laws.proofs.Settled.{settled_new}
use Rattle.go_package_laws.proofs.Declares.{types_settle, defined}

-- ---- names that differ

same_names : (a b : List ℕ) → bytes_eq a b ≡ bytes_eq b a
same_names a b = elim (cases_Bool (bytes_eq a b)) [
  | inl is ↦ (let same : a ≡ b = (bytes_eq-Decides a b).0 is in let back : bytes_eq b a ≡ true = (bytes_eq-Decides b a).1 (sym same) in is ∙ sym back)
  | inr not_so ↦ elim (cases_Bool (bytes_eq b a)) [
    | inl is ↦ (let same : b ≡ a = (bytes_eq-Decides b a).0 is in let back : bytes_eq a b ≡ true = (bytes_eq-Decides a b).1 (sym same) in back ∙ sym is)
    | inr other ↦ not_so ∙ sym other
  ]
]

abbrev AllDiffer : Name → List Name → Type 0
AllDiffer n [] = Unit {0}
AllDiffer n (m ∷ ms) = (bytes_eq m.text n.text ≡ false) × AllDiffer n ms

all_differ : (n : Name) (ms : List Name) → list_any (λ (m : Name). bytes_eq n.text m.text) ms ≡ false → AllDiffer n ms
all_differ n [] h = tt
all_differ n (m ∷ ms) h = elim (cases_Bool (bytes_eq n.text m.text)) [
  | inl is ↦ absurd (let r : list_any (λ (m : Name). bytes_eq n.text m.text) (m ∷ ms) ≡ true = rw is refl in cc)
  | inr not_so ↦ (same_names m.text n.text ∙ not_so, all_differ n ms (let r : list_any (λ (m : Name). bytes_eq n.text m.text) (m ∷ ms) ≡ list_any (λ (m : Name). bytes_eq n.text m.text) ms = rw not_so refl in sym r ∙ h))
]

-- the block has the same under some names
abbrev Same : StatementEnv → StatementEnv → List Name → Type 0
Same first env [] = Unit {0}
Same first env (n ∷ ns) = (own env n ≡ own first n) × Same first env ns

same_all : (env : StatementEnv) (ns : List Name) → Same env env ns
same_all env [] = tt
same_all env (n ∷ ns) = (refl, same_all env ns)

same_other : (first env : StatementEnv) (n : Name) (v : Type') (ns : List Name) → AllDiffer n ns → Same first env ns → Same first (next n (Some v) env) ns
same_other first env n v [] other h = tt
same_other first env n v (m ∷ ms) other h = (own_other n (Some v) env m other.0 ∙ h.0, same_other first env n v ms other.1 h.1)

same_next : (first env : StatementEnv) (n : Name) (v : Type') (ns : List Name) → (is_blank n.text || not (list_any (λ (m : Name). bytes_eq n.text m.text) ns)) ≡ true → Same first env ns → Same first (next n (Some v) env) ns
same_next first env n v ns h same = elim (cases_Bool (is_blank n.text)) [
  | inl blank ↦ (let r : next n (Some v) env ≡ env = rw blank refl in subst (λ e. Same first e ns) (sym r) same)
  | inr named ↦ elim (cases_Bool (list_any (λ (m : Name). bytes_eq n.text m.text) ns)) [
    | inl among ↦ absurd (let r : (is_blank n.text || not (list_any (λ (m : Name). bytes_eq n.text m.text) ns)) ≡ false = rw (named, among) refl in cc)
    | inr alone ↦ same_other first env n v ns (all_differ n ns alone) same
  ]
]

module _ (x : Expected) (w : Table) (g : Setting) where
  found_sound : (d : List ℕ) (ns : List (List ℕ × Option Declared)) (y : List ℕ) (o : Option Declared) → AllSound w g.locals d ns → lookup (bytes_eq y) ns ≡ Some o → IsSoundName w g.locals d o
  found_sound d [] y o h is = absurd cc
  found_sound d ((z, p) ∷ ns) y o h is = elim (cases_Bool (bytes_eq y z)) [
    | inl here ↦ (let r : lookup (bytes_eq y) ((z, p) ∷ ns) ≡ Some p = rw here refl in let same : p ≡ o = cc in subst (IsSoundName w g.locals d) same h.1)
    | inr not_so ↦ found_sound d ns y o h.2 (let r : lookup (bytes_eq y) ((z, p) ∷ ns) ≡ lookup (bytes_eq y) ns = rw not_so refl in sym r ∙ is)
  ]

  -- what the block has under a name: nothing, or a variable
  abbrev Owned : StatementEnv → Name → Option (Option Type') → Type 0
  Owned env n due = ((own env n ≡ None) × (due ≡ Some None)) ⊎ ((u : Type') × (k : ℕ) × (own env n ≡ Some (Some (value (local u k)))) × (due ≡ Some (Some u)) × (slice_get g.locals k ≡ Some u) × IsSoundType w u)

  owned_by : (d : List ℕ) (env : StatementEnv) (n : Name) → AllSound w g.locals d env.names.inner → SoundLocals w g.locals d → (o : Option (Option Declared)) → own env n ≡ o → (b : Bool) (t : Option (Option Type')) → due_for b o ≡ Some t → (k : Option Type') → t ≡ Some k
      → Owned env n (Some k)
  owned_by d env n h l None at b t due k is = (
      let new : Some None ≡ t = cc in
      let none : Some None ≡ Some k = new ∙ is in
      inl (at, sym none)
      )
  owned_by d env n h l (Some None) at true t due k is = absurd cc
  owned_by d env n h l (Some None) at false t due k is = absurd (let unknown : None ≡ t = cc in let no : None ≡ Some k = unknown ∙ is in cc (no))
  owned_by d env n h l (Some (Some (value (local u m)))) at b t due k is = (
      let old : Some (Some u) ≡ t = cc in
      let type : Some (Some u) ≡ Some k = old ∙ is in
      let sound = found_sound d env.names.inner n.text (Some (value (local u m))) h at in
      inr (u, m, at, sym type, sound.0, l m u sound.0 sound.1)
      )
  owned_by d env n h l (Some (Some (value (constant u m)))) at b t due k is = absurd cc
  owned_by d env n h l (Some (Some p)) at b t due k is = absurd (found_sound d env.names.inner n.text (Some p) h at)

  -- what the block has under some names, and what is due for them
  abbrev Owns : StatementEnv → List Name → List (Option Type') → Type 0
  Owns env [] [] = Unit {0}
  Owns env [] (k ∷ ks) = ⊥
  Owns env (n ∷ ns) [] = ⊥
  Owns env (n ∷ ns) (k ∷ ks) = Owned env n (Some k) × Owns env ns ks

  owns_of : (constants : List (List ℕ)) (d : List ℕ) (env : StatementEnv) → AllSound w g.locals d env.names.inner → SoundLocals w g.locals d → (ns : List Name) (due : List (Option (Option Type'))) (ks : List (Option Type'))
      → dues_for constants (own env) ns ≡ Some due → all_some due ≡ Some ks → Owns env ns ks
  owns_of constants d env h l [] due ks is made = (
      let same : [] ≡ due = cc in
      let none : Some [] ≡ Some ks = ap all_some same ∙ made in
      let empty : [] ≡ ks = cc in
      subst (Owns env []) empty tt
      )
  owns_of constants d env h l (n ∷ ns) due ks is made =
      let here = λ (m : Name). list_any (bytes_eq m.text) constants in
      let one = some_part (due_for (here n) (own env n)) (map (λ m. due_for (here m) (own env m)) ns) due is in
      let two = some_part one.0 one.1 ks (ap all_some (sym one.4) ∙ made) in
      subst (Owns env (n ∷ ns)) (sym two.4) (owned_by d env n h l (own env n) refl (here n) one.0 one.2 two.0 two.2, owns_of constants d env h l ns one.1 two.1 one.3 two.3)

  short_due : (env : StatementEnv) (ns : List Name) (ks : List (Option Type')) → Owns env ns ks → SoundDue w ks
  short_due env [] [] h = tt
  short_due env [] (k ∷ ks) h = absurd h
  short_due env (n ∷ ns) [] h = absurd h
  short_due env (n ∷ ns) (None ∷ ks) h = short_due env ns ks h.1
  short_due env (n ∷ ns) (Some u ∷ ks) (inl k, rest) = absurd (let r : Some (Some u) ≡ Some None = k.1 in cc)
  short_due env (n ∷ ns) (Some u ∷ ks) (inr k, rest) = (
      let r : Some (Some u) ≡ Some (Some k.0) = k.3 in
      let type : k.0 ≡ u = cc in
      (subst (IsSoundType w) type k.5, short_due env ns ks rest)
      )

  dues : (env : StatementEnv) (ns : List Name) (ks : List (Option Type')) → Owns env ns ks → Dues env ns ks
  dues env [] [] h = tt
  dues env [] (k ∷ ks) h = absurd h
  dues env (n ∷ ns) [] h = absurd h
  dues env (n ∷ ns) (None ∷ ks) h = dues env ns ks h.1
  dues env (n ∷ ns) (Some u ∷ ks) (inl k, rest) = absurd (let r : Some (Some u) ≡ Some None = k.1 in cc)
  dues env (n ∷ ns) (Some u ∷ ks) (inr k, rest) = (ap is_some k.2, dues env ns ks rest)

  fits_one : (first env : StatementEnv) (n : Name) (o : Option Type') (os : List (Option Type')) (v t : Type') (vs ts : List Type') → Owned first n (Some o) → own env n ≡ own first n → AreDue w (o ∷ os) (v ∷ vs) (t ∷ ts)
      → FitsName w g.locals env n v t × AreDue w os vs ts
  fits_one first env n None os v t vs ts (inl k) same h = elim (cases_Bool (is_blank n.text)) [ inl blank ↦ (inl blank, h.2) | inr named ↦ (inr (inr (named, same ∙ k.0, ap underlying h.0, h.1)), h.2) ]
  fits_one first env n None os v t vs ts (inr k) same h = absurd (let r : Some None ≡ Some (Some k.0) = k.3 in cc)
  fits_one first env n (Some u) os v t vs ts (inl k) same h = absurd (let r : Some (Some u) ≡ Some None = k.1 in cc)
  fits_one first env n (Some u) os v t vs ts (inr k) same h =
      let r : Some (Some u) ≡ Some (Some k.0) = k.3 in
      let type : u ≡ k.0 = cc in
      (inr (inl (k.0, k.1, same ∙ k.2, h.0 ∙ ap underlying type, k.5, k.4)), h.1)

  nothing_ready : (env : StatementEnv) (vs ts : List Type') → AreDue w [] vs ts → Ready w g.locals env [] vs ts
  nothing_ready env [] [] h = tt
  nothing_ready env vs ts h = absurd h

  more_ready : (first env : StatementEnv) (n : Name) (ns : List Name) (o : Option Type') (os : List (Option Type')) (vs ts : List Type') → Owned first n (Some o) → own env n ≡ own first n → AreDue w (o ∷ os) vs ts
      → ((v : Type') (vs ts : List Type') → AreDue w os vs ts → Ready w g.locals (next n (Some v) env) ns vs ts) → Ready w g.locals env (n ∷ ns) vs ts
  more_ready first env n ns o os (v ∷ vs) (t ∷ ts) owned same h rest = (let one = fits_one first env n o os v t vs ts owned same h in (one.0, rest v vs ts one.1))
  more_ready first env n ns None os [] ts owned same h rest = absurd h
  more_ready first env n ns (Some u) os [] ts owned same h rest = absurd h
  more_ready first env n ns None os (v ∷ vs) [] owned same h rest = absurd h
  more_ready first env n ns (Some u) os (v ∷ vs) [] owned same h rest = absurd h

  ready_short : (first : StatementEnv) (ns : List Name) (ks : List (Option Type')) (vs ts : List Type') (env : StatementEnv) → Owns first ns ks → differ ns ≡ true → Same first env ns → AreDue w ks vs ts → Ready w g.locals env ns vs ts
  ready_short first [] [] vs ts env owns different same suit = nothing_ready env vs ts suit
  ready_short first [] (k ∷ ks) vs ts env owns different same suit = absurd owns
  ready_short first (n ∷ ns) [] vs ts env owns different same suit = absurd owns
  ready_short first (n ∷ ns) (k ∷ ks) vs ts env owns different same suit =
      let apart = and_parts (is_blank n.text || not (list_any (λ (m : Name). bytes_eq n.text m.text) ns)) (differ ns) different in
      more_ready first env n ns k ks vs ts owns.0 same.0 suit (λ v vs ts rest. ready_short first ns ks vs ts (next n (Some v) env) owns.1 apart.1 (same_next first env n v ns apart.0 same.1) rest)

-- where something isn't known of what is due, no source is
never_passed : (v : Verdict ValueSource) (s : ValueSource) → checked {B = ValueSource} (λ source. Passed) v ≡ Fine s → ⊥
never_passed v s h = (let part = checked_part (λ source. Passed) v s h in cc (part.2))

module _ (x : Expected) (w : Table) (g : Setting) where
  redefined_parts : (constants : List (List ℕ)) (own : Name → Option (Option Declared)) (ns : List Name) (v : AssignedValues) (s : ValueSource) (o : Option (List (Option (Option Type')))) (b : Bool)
      → (differ ns && list_any (λ n. is_new n (own n)) ns) ≡ b → dues_for constants own ns ≡ o → redefined constants own ns v ≡ Fine s
      → (due : List (Option (Option Type'))) × (ks : List (Option Type')) × (dues_for constants own ns ≡ Some due) × (all_some due ≡ Some ks) × (differ ns ≡ true) × (suited ks v ≡ Fine s)
  redefined_parts constants own ns v s o false at is h = absurd (let r : redefined constants own ns v ≡ Breaks Redeclared = rw at refl in cc)
  redefined_parts constants own ns v s None true at is h = absurd (let r : redefined constants own ns v ≡ Breaks Mismatch = rw (at, is, redefined) refl in cc)
  redefined_parts constants own ns v s (Some due) true at is h =
      elim (all_some due) as (λ k. all_some due ≡ k → (due : List (Option (Option Type'))) × (ks : List (Option Type')) × (dues_for constants own ns ≡ Some due) × (all_some due ≡ Some ks) × (differ ns ≡ true) × (suited ks v ≡ Fine s)) [
        | None ↦ λ k. absurd (let r : redefined constants own ns v ≡ checked (λ source. Passed) (suited_partly due v) = rw (at, is, k, redefined) refl in never_passed (suited_partly due v) s (sym r ∙ h))
        | Some ks ↦ λ k. (
            let r : redefined constants own ns v ≡ suited ks v = rw (at, is, k, redefined) refl in
            (due, ks, is, k, (and_parts (differ ns) (list_any (λ n. is_new n (own n)) ns) at).0, sym r ∙ h))
      ] refl

  short_parts : (constants : List (List ℕ)) (own : Name → Option (Option Declared)) (ns : List Name) (f : ValueSource → Stmt) (v : Option AssignedValues) (y : Stmt)
      → fine (asked (λ (k : AssignedValues). checked (λ source. Fine (f source)) (redefined constants own ns k)) v) ≡ Some y
      → (values : AssignedValues) × (s : ValueSource) × (v ≡ Some values) × (redefined constants own ns values ≡ Fine s) × (f s ≡ y)
  short_parts constants own ns f None y h = absurd cc
  short_parts constants own ns f (Some v) y h =
      let part = checked_part (λ source. Fine (f source)) (redefined constants own ns v) y (fine_is (checked (λ source. Fine (f source)) (redefined constants own ns v)) y h) in
      (v, part.0, refl, part.1, cc)

  pub short_sure : (c : Context) → Outside w g c → (p : Place) (ns : List Name) (es : source.ExpressionList) → HaveTexts es → Sure w g.locals declared_after (IsStmt g) (short_at c p ns es)
  short_sure c out p ns es texts env =
      let s = scope_in c None env in
      let types = value_types s es in
      let final = declare_new (paired_names ns types) env in
      let f = λ (source : ValueSource). define (map (variable_number final) ns) source in (
        new_grows (paired_names ns types) env,
        λ d r lies none y is. (
            let k = short_parts c.constants (own env) ns f (values_known s es) y is in
            let parts = redefined_parts c.constants (own env) ns k.0 k.1 (dues_for c.constants (own env) ns) (differ ns && list_any (λ n. is_new n (own env n)) ns) refl refl k.3 in
            let owns = owns_of x w g c.constants d env r.0 r.2 ns parts.0 parts.1 parts.2 parts.3 in
            let sound = sound_values x w g d s (scope_sound w g c out env d r None) es texts k.0 k.2 in
            let suit = sound_suited x w g d parts.1 k.0 k.1 (short_due x w g env ns parts.1 owns) sound parts.5 in
            let ready = ready_short x w g env ns parts.1 (own_types k.0) (source_types k.1) env owns parts.4 (same_all env ns) suit.1 in
            let fit = values_fit s es k.0 parts.1 k.2 (k.1, ap fine parts.5) in
            let due = fit_due env ns parts.1 types (dues x w g env ns parts.1 owns) fit in
            let new = defined x w g ns types (own_types k.0) (source_types k.1) env d (settled_new ns types (own_types k.0) env due (types_settle s es k.0 k.2)) r lies ready in
            subst (λ (t : Stmt). IsStmt g d t × Related w g.locals final (declared_after d t)) k.4 ((suit.0, new.0), new.1)
            ),
      )
