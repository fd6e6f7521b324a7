-- Declarations of variables define variables that get values of their types.
use Rattle.std.proofs.Common.{◌≡◌, ℕ, Bool, true, false, not, ◌&&◌, ◌||◌, Option, Some, None, List, [], ◌∷◌, ◌++◌, map, refl, sym, ap, subst, ◌∙◌, inl, inr}
use Rattle.std.specs.Prelude.{bytes_eq, option_map, is_some, if◌then◌else◌}
use Rattle.std.specs.List.{list_any}
use Rattle.std.proofs.lemmas.Bool.{cases_Bool}
use Rattle.go_text.specs.declared.place.Place.{Place}
use Rattle.go_text.specs.declared.fault.FaultKind.{FaultKind}
use Rattle.go_text.specs.declared.fault.FaultKind.TheVariants.{Redeclared}
use Rattle.go_ast.specs.Trees as source
use Rattle.go_ast.specs.Trees.{Name, TypeExpr, VarSpec}
use Rattle.go_types.specs.Types.{Type'}
use Rattle.go_types.specs.Relations.{underlying}
use Rattle.go_typed.specs.Trees.{ValueSource, zeros, Stmt, define}
use Rattle.go_meaning_laws.specs.WellTyped.{Setting, Suits, IsWhole, AllWhole, known_numbers, IsWellTypedSource, source_types, AreNew}
use Rattle.go_expr.specs.Known.{Scope, Fine}
use Rattle.go_expr.specs.Rules.{fine, checked}
use Rattle.go_expr.specs.Verdicts.{asked, both, type_verdict, broken}
use Rattle.go_scope.specs.Scopes.{is_blank}
use Rattle.go_stmt.specs.Scopes.{StatementEnv, Context, scope_in, own, variable_number, paired_names, declare_new, follow}
use Rattle.go_stmt.specs.Rules.{AssignedValues, has_no_values, variables_source, suited}
use Rattle.go_stmt.specs.Statements.{values_known, values_at, value_types, names_faults, names_at, written_at, place_of_first, variable_types, variables_at, specs_at}
use Rattle.go_package_laws.proofs.Completeness.Counts.{types_alone, values_fit}
use Rattle.go_package_laws.proofs.Soundness.{Table, IsSoundType}
use Rattle.go_package_laws.proofs.SoundNames.{IsSoundScope}
use Rattle.go_package_laws.proofs.Texts.{HaveTexts}
use Rattle.go_package_laws.proofs.BodyTexts.{WrittenHasTexts, VariablesHaveTexts}
use Rattle.go_package_laws.proofs.Expected.{Expected}
use Rattle.go_package_laws.proofs.Related.{two_none, Related, Lies, Sure}
use Rattle.go_package_laws.proofs.Values.{checked_part, own_types, AreDue, SoundDue, AreSoundValues, sound_values, sound_suited}
use Rattle.go_package_laws.proofs.Numbered.{Outside, scope_sound, own_other, next, Ready, new_grows, new_related}
use Rattle.go_package_laws.proofs.Settled.{Settle, alone_settle, all_own}
use Rattle.go_package_laws.proofs.Lists.{behind, AreList, sure_none, sure_appended}
use Rattle.go_package_laws.proofs.Leaves.{fine_is, SoundWritten, sound_written}

-- ---- names that are declared

other_name : (n m : Name) (ms : List Name) → list_any (λ (k : Name). bytes_eq n.text k.text) (ms ++ m ∷ []) ≡ false → (list_any (λ (k : Name). bytes_eq n.text k.text) ms ≡ false) × (bytes_eq n.text m.text ≡ false)
other_name n m [] h = (refl, elim (cases_Bool (bytes_eq n.text m.text)) [ inl is ↦ absurd (let r : list_any (λ (k : Name). bytes_eq n.text k.text) (m ∷ []) ≡ true = rw is refl in cc) | inr not_so ↦ not_so ])
other_name n m (k ∷ ks) h = elim (cases_Bool (bytes_eq n.text k.text)) [
  | inl is ↦ absurd (let r : list_any (λ (k : Name). bytes_eq n.text k.text) (k ∷ (ks ++ m ∷ [])) ≡ true = rw is refl in cc)
  | inr not_so ↦ (
      let r : list_any (λ (k : Name). bytes_eq n.text k.text) (k ∷ (ks ++ m ∷ [])) ≡ list_any (λ (k : Name). bytes_eq n.text k.text) (ks ++ m ∷ []) = rw not_so refl in
      let rest = other_name n m ks (sym r ∙ h) in
      (rw not_so rest.0, rest.1)
      )
]

none_of : {A : Type 0} (o : Option A) → is_some o ≡ false → o ≡ None
none_of None h = refl
none_of (Some x) h = absurd cc

head_unfaulty : (b : Bool) (n : Name) (rest : List (Place × FaultKind)) → (if b then (n.place, Redeclared) ∷ [] else []) ++ rest ≡ [] → (b ≡ false) × (rest ≡ [])
head_unfaulty true n rest h = absurd cc
head_unfaulty false n rest h = (refl, h)

abbrev Among : Name → List Name → Bool
Among n ms = list_any (λ (m : Name). bytes_eq n.text m.text) ms

unnamed : (env : StatementEnv) (n : Name) (before : List Name) → is_blank n.text ≡ false → (is_some (own env n) || not (is_blank n.text) && Among n before) ≡ false → (own env n ≡ None) × (Among n before ≡ false)
unnamed env n before named h = elim (cases_Bool (is_some (own env n))) [
  | inl is ↦ absurd (let r : (is_some (own env n) || not (is_blank n.text) && Among n before) ≡ true = rw is refl in cc)
  | inr not_so ↦ (none_of (own env n) not_so, (let r : (is_some (own env n) || not (is_blank n.text) && Among n before) ≡ Among n before = rw (not_so, named) refl in sym r ∙ h))
]

module _ (w : Table) (locals : List Type') where
  -- each variable has a sound type, and its value suits it
  abbrev pub Fitting : List Name → List Type' → List Type' → Type 0
  Fitting [] [] [] = Unit {0}
  Fitting (n ∷ ns) (v ∷ vs) (t ∷ ts) = Suits t v × IsSoundType w v × Fitting ns vs ts
  Fitting ns vs ts = ⊥

  abbrev Kept : StatementEnv → StatementEnv → List Name → Type 0
  Kept first env before = (m : Name) → is_blank m.text ≡ false → own first m ≡ None → Among m before ≡ false → own env m ≡ None

  kept_next : (first env : StatementEnv) (before : List Name) (n : Name) (v : Type') → Kept first env before → Kept first (next n (Some v) env) (before ++ n ∷ [])
  kept_next first env before n v h m named none new =
      let parts = other_name m n before new in
      own_other n (Some v) env m parts.1 ∙ h m named none parts.0

  ready_names : (ns : List Name) (vs ts : List Type') (first env : StatementEnv) (before : List Name) → names_faults first before ns ≡ [] → Kept first env before → Fitting ns vs ts → Ready w locals env ns vs ts
  ready_names [] [] [] first env before none kept f = tt
  ready_names (n ∷ ns) (v ∷ vs) (t ∷ ts) first env before none kept f =
      let head = head_unfaulty (is_some (own first n) || not (is_blank n.text) && Among n before) n (names_faults first (before ++ n ∷ []) ns) none in
      let rest = ready_names ns vs ts first (next n (Some v) env) (before ++ n ∷ []) head.1 (kept_next first env before n v kept) f.2 in
      elim (cases_Bool (is_blank n.text)) [
        | inl blank ↦ (inl blank, rest)
        | inr named ↦ (let free = unnamed first n before named head.0 in (inr (inr (named, kept n named free.0 free.1, f.0, f.1)), rest))
      ]
  ready_names ns vs ts first env before none kept f = absurd f

  pub ready_declared : (ns : List Name) (vs ts : List Type') (env : StatementEnv) → names_faults env [] ns ≡ [] → Fitting ns vs ts → Ready w locals env ns vs ts
  ready_declared ns vs ts env none f = ready_names ns vs ts env env [] none (λ m named free new. free) f

  due_none : (ns : List Name) (vs ts : List Type') → AreDue w (map (λ n. None) ns) vs ts → Fitting ns vs ts
  due_none [] [] [] h = tt
  due_none (n ∷ ns) (v ∷ vs) (t ∷ ts) h = (ap underlying h.0, h.1, due_none ns vs ts h.2)
  due_none [] vs ts h = absurd h
  due_none (n ∷ ns) vs ts h = absurd h

  due_some : (u : Type') → IsSoundType w u → (ns : List Name) (vs ts : List Type') → AreDue w (map (λ n. Some u) ns) vs ts → Fitting ns (map (λ n. u) ns) ts
  due_some u sound [] [] [] h = tt
  due_some u sound (n ∷ ns) (v ∷ vs) (t ∷ ts) h = (h.0, sound, due_some u sound ns vs ts h.1)
  due_some u sound [] vs ts h = absurd h
  due_some u sound (n ∷ ns) vs ts h = absurd h

  zeros_fit : (u : Type') → IsSoundType w u → (ns : List Name) → Fitting ns (map (λ n. u) ns) (map (λ n. u) ns)
  zeros_fit u sound [] = tt
  zeros_fit u sound (n ∷ ns) = (refl, sound, zeros_fit u sound ns)

-- ---- the types that values have

pub types_settle : (s : Scope) (es : source.ExpressionList) (v : AssignedValues) → values_known s es ≡ Some v → Settle (value_types s es) (own_types v)
types_settle s es v is = subst (λ (os : List (Option Type')). Settle os (own_types v)) (sym (types_alone s es v is)) (alone_settle v)

-- of values for which nothing is due
types_of_values : (s : Scope) (ns : List Name) (es : source.ExpressionList) (v : AssignedValues) (made : ValueSource) → values_known s es ≡ Some v → suited (map (λ n. None) ns) v ≡ Fine made → value_types s es ≡ map Some (own_types v)
types_of_values s ns es v made is suit = all_own ns (value_types s es) (own_types v) (values_fit s es v (map (λ n. None) ns) is (made, ap fine suit)) (types_settle s es v is)

-- ---- variables

same_types : (t : Option Type') (u : Type') (ns : List Name) → t ≡ Some u → map (λ (n : Name). t) ns ≡ map Some (map (λ (n : Name). u) ns)
same_types t u [] is = refl
same_types t u (n ∷ ns) is = ap (λ o. o ∷ map (λ (n : Name). t) ns) is ∙ ap (λ l. Some u ∷ l) (same_types t u ns is)

all_whole : (x : Expected) (w : Table) (u : Type') → IsWhole u → (ns : List Name) → AllWhole (map (λ n. u) ns)
all_whole x w u h [] = tt
all_whole x w u h (n ∷ ns) = (h, all_whole x w u h ns)

none_due : (w : Table) (ns : List Name) → SoundDue w (map (λ n. None) ns)
none_due w [] = tt
none_due w (n ∷ ns) = none_due w ns

some_due : (w : Table) (u : Type') → IsSoundType w u → (ns : List Name) → SoundDue w (map (λ n. Some u) ns)
some_due w u h [] = tt
some_due w u h (n ∷ ns) = (h, some_due w u h ns)

written_stays : (s : Scope) (t : Option TypeExpr) (env : StatementEnv) → (written_at s t env).after ≡ env
written_stays s None env = refl
written_stays s (Some t) env = refl

sourced : (ns : List Name) (f : ValueSource → List Stmt) (w : Option (Option Type')) (v : Option AssignedValues) (y : List Stmt)
    → fine (asked (λ (k : List Name × (Option Type' × AssignedValues)). checked (λ source. Fine (f source)) (variables_source ns (k.1).0 (k.1).1)) (both (Some ns) (both w v))) ≡ Some y
    → (t : Option Type') × (values : AssignedValues) × (s : ValueSource) × (w ≡ Some t) × (v ≡ Some values) × (variables_source ns t values ≡ Fine s) × (f s ≡ y)
sourced ns f None v y h = absurd cc
sourced ns f (Some t) None y h = absurd cc
sourced ns f (Some t) (Some values) y h =
    let part = checked_part (λ source. Fine (f source)) (variables_source ns t values) y (fine_is (checked (λ source. Fine (f source)) (variables_source ns t values)) y h) in
    (t, values, part.0, refl, refl, part.1, cc)

module _ (x : Expected) (w : Table) (g : Setting) where
  -- the source of new variables, of some types
  abbrev pub Made : List ℕ → List Name → List (Option Type') → ValueSource → Type 0
  Made d ns types s = (vs : List Type') × (types ≡ map Some vs) × IsWellTypedSource g d s × Fitting w g.locals ns vs (source_types s)

  typed_by : (d : List ℕ) (ns : List Name) (t : Option Type') (u : Type') (values : AssignedValues) (s : ValueSource) (b : Bool) → has_no_values values ≡ b → t ≡ Some u → IsSoundType w u → AreSoundValues x w g d values → variables_source ns (Some u) values ≡ Fine s
      → Made d ns (map (λ n. t) ns) s
  typed_by d ns t u values s true at is sound h made =
      let r : variables_source ns (Some u) values ≡ Fine (zeros (map (λ n. u) ns)) = rw at refl in
      let same : zeros (map (λ n. u) ns) ≡ s = cc in
      (map (λ n. u) ns, same_types t u ns is, subst (IsWellTypedSource g d) same (all_whole x w u (x.whole_type w u sound) ns), subst (λ (s : ValueSource). Fitting w g.locals ns (map (λ n. u) ns) (source_types s)) same (zeros_fit w g.locals u sound ns))
  typed_by d ns t u values s false at is sound h made =
      let r : variables_source ns (Some u) values ≡ suited (map (λ n. Some u) ns) values = rw at refl in
      let suit = sound_suited x w g d (map (λ n. Some u) ns) values s (some_due w u sound ns) h (sym r ∙ made) in
      (map (λ n. u) ns, same_types t u ns is, suit.0, due_some w g.locals u sound ns (own_types values) (source_types s) suit.1)

  pub made_by : (d : List ℕ) (sc : Scope) (spec : VarSpec) (env : StatementEnv) (t : Option Type') (values : AssignedValues) (s : ValueSource) → IsSoundScope w g d sc → WrittenHasTexts spec.type → HaveTexts spec.values
      → (written_at sc spec.type env).known ≡ Some t → values_known sc spec.values ≡ Some values → variables_source spec.names t values ≡ Fine s → Made d spec.names (variable_types sc spec) s
  made_by d sc spec env t values s scope texts more written known made = elim spec.type as (λ ty. spec.type ≡ ty → WrittenHasTexts ty → (written_at sc ty env).known ≡ Some t → Made d spec.names (variable_types sc spec) s) [
    | None ↦ λ at tx wr. (
        let none : None ≡ t = cc in
        let v = sound_values x w g d sc scope spec.values more values known in
        let suit = sound_suited x w g d (map (λ n. None) spec.names) values s (none_due w spec.names) v (subst (λ o. variables_source spec.names o values ≡ Fine s) (sym none) made) in
        let suits : suited (map (λ n. None) spec.names) values ≡ Fine s = subst (λ o. variables_source spec.names o values ≡ Fine s) (sym none) made in
        let types : variable_types sc spec ≡ map Some (own_types values) =
        ap (λ o. variable_types sc (record { names = spec.names; type = o; values = spec.values })) at ∙ types_of_values sc spec.names spec.values values s known suits in
        (own_types values, types, suit.0, due_none w g.locals spec.names (own_types values) (source_types s) suit.1)
        )
    | Some ty ↦ λ at tx wr. (
        let sound = sound_written x w g d sc scope (Some ty) tx env t wr in
        let types : variable_types sc spec ≡ map (λ n. fine (type_verdict sc ty)) spec.names = ap (λ o. variable_types sc (record { names = spec.names; type = o; values = spec.values })) at in
        let v = sound_values x w g d sc scope spec.values more values known in
        elim t as (λ t. option_map Some (fine (type_verdict sc ty)) ≡ Some t → SoundWritten x w g d t → variables_source spec.names t values ≡ Fine s → Made d spec.names (variable_types sc spec) s) [
          | None ↦ λ k so ma. absurd (elim (fine (type_verdict sc ty)) as (λ o. option_map Some o ≡ Some None → ⊥) [ None ↦ λ h. cc | Some v ↦ λ h. cc ] k)
          | Some u ↦ λ k so ma. (
              let is : fine (type_verdict sc ty) ≡ Some u = elim (fine (type_verdict sc ty)) as (λ o. option_map Some o ≡ Some (Some u) → o ≡ Some u) [ None ↦ λ h. absurd cc | Some v ↦ λ h. cc ] k in
              let r = typed_by d spec.names (fine (type_verdict sc ty)) u values s (has_no_values values) refl is so v ma in
              subst (λ (k : List (Option Type')). Made d spec.names k s) (sym types) r
              )
        ] wr sound made
        )
  ] refl texts written

  -- variables with their numbers
  pub defined : (ns : List Name) (types : List (Option Type')) (vs ts : List Type') (env : StatementEnv) (d : List ℕ) → declare_new (paired_names ns types) env ≡ declare_new (paired_names ns (map Some vs)) env → Related w g.locals env d → Lies w g.locals (declare_new (paired_names ns types) env) → Ready w g.locals env ns vs ts
      → AreNew g.locals (map (variable_number (declare_new (paired_names ns types) env)) ns) ts × Related w g.locals (declare_new (paired_names ns types) env) (known_numbers (map (variable_number (declare_new (paired_names ns types) env)) ns) ++ d)
  defined ns types vs ts env d is r lies ready =
      subst (λ (final : StatementEnv). Lies w g.locals final → AreNew g.locals (map (variable_number final) ns) ts × Related w g.locals final (known_numbers (map (variable_number final) ns) ++ d)) (sym is)
      (λ l. new_related w g.locals ns vs ts env d r l ready) lies

  pub variables_sure : (c : Context) → Outside w g c → (p : Place) (spec : VarSpec) → WrittenHasTexts spec.type → HaveTexts spec.values → Sure w g.locals behind (AreList w g) (variables_at c p spec)
  variables_sure c out p spec texts more env =
      let s = scope_in c None env in
      let types = variable_types s spec in
      let final = declare_new (paired_names spec.names types) env in
      let f = λ (source : ValueSource). define (map (variable_number final) spec.names) source ∷ [] in
      let rule = λ (k : List Name × (Option Type' × AssignedValues)). checked (λ source. Fine (f source)) (variables_source spec.names (k.1).0 (k.1).1) in
      let rest = follow (written_at s spec.type) (values_at c spec.values) in
      let parts = follow (names_at spec.names) rest in (
        new_grows (paired_names spec.names types) env,
        λ d r lies none y is. (
            let ns = two_none (parts env).faults (broken (place_of_first p spec.names) (asked rule (parts env).known)) none in
            let names = (two_none (names_faults env [] spec.names) (rest env).faults ns.0).0 in
            let written = (written_at s spec.type env).known in
            let here = subst (λ (e : StatementEnv). fine (asked rule (both (Some spec.names) (both written (values_at c spec.values e).known))) ≡ Some y) (written_stays s spec.type env) is in
            let k = sourced spec.names f written (values_known s spec.values) y here in
            let made = made_by d s spec env k.0 k.1 k.2 (scope_sound w g c out env d r None) texts more k.3 k.4 k.5 in
            let new = defined spec.names types made.0 (source_types k.2) env d (ap (λ ts. declare_new (paired_names spec.names ts) env) made.1) r lies (ready_declared w g.locals spec.names made.0 (source_types k.2) env names made.3) in
            subst (λ (ss : List Stmt). AreList w g d ss × Related w g.locals final (behind d ss)) k.6 (((made.2, new.0), tt), new.1)
            ),
      )

  pub specs_sure : (c : Context) → Outside w g c → (p : Place) (ss : List VarSpec) → VariablesHaveTexts ss → Sure w g.locals behind (AreList w g) (specs_at c p ss)
  specs_sure c out p [] texts = sure_none w g
  specs_sure c out p (s ∷ ss) texts = sure_appended w g (variables_at c p s) (specs_at c p ss) (variables_sure c out p s texts.0 texts.1) (specs_sure c out p ss texts.2)
