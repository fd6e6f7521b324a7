-- What relates the scope in a function to the local variables that have a value, and the function's forms one behind another.
use Rattle.std.proofs.Common.{◌≡◌, ℕ, Bool, true, false, Option, Some, None, List, [], ◌∷◌, ◌++◌, refl, sym, ap, subst, ◌∙◌, ◌⊎◌, inl, inr, append_assoc, append-nil}
use Rattle.std.specs.Prelude.{option_map, nat_eq}
use Rattle.std.specs.List.{slice_get}
use Rattle.std.proofs.lemmas.Bool.{cases_Bool}
use Rattle.go_text.specs.declared.place.Place.{Place}
use Rattle.go_text.specs.declared.fault.FaultKind.{FaultKind}
use Rattle.go_types.specs.Types.{Type'}
use Rattle.go_typed.specs.Trees.{Symbol, constant, local, Stmt, define, block, Stmts, no_stmts, some_stmts}
use Rattle.go_meaning_laws.specs.WellTyped.{Signature, Setting, has, known_numbers, declared_after, declared_after_all, IsConstant}
use Rattle.go_expr.specs.Known.{Declared, value, Verdict, Fine}
use Rattle.go_expr.specs.Rules.{fine}
use Rattle.go_expr.specs.Verdicts.{asked, both, broken}
use Rattle.go_scope.specs.Scopes.{is_blank}
use Rattle.go_stmt.specs.Scopes.{StatementEnv, enter_scope, leave, Checked, pure_checked, follow, map_checked, node, in_new_block}
use Rattle.go_package_laws.proofs.Soundness.{Table, IsSoundType, IsUntypedConstant}

abbrev Faults : Type 0
Faults = List (Place × FaultKind)

pub two_none : (xs ys : Faults) → xs ++ ys ≡ [] → (xs ≡ []) × (ys ≡ [])
two_none [] ys h = (refl, h)
two_none (x ∷ xs) ys h = cc

-- ---- numbers of local variables

-- the others have a value where these have
abbrev pub Covers : List ℕ → List ℕ → Type 0
Covers d e = (n : ℕ) → has d n ≡ true → has e n ≡ true

pub has_behind : (ns d : List ℕ) → Covers d (ns ++ d)
has_behind [] d n h = h
has_behind (m ∷ ns) d n h = elim (cases_Bool (nat_eq n m)) [ inl is ↦ rw is refl | inr not_so ↦ rw not_so (has_behind ns d n h) ]

mutual
  pub after_covers : (s : Stmt) (d : List ℕ) → Covers d (declared_after d s)
  after_covers (define os s) d = has_behind (known_numbers os) d
  after_covers (block ss) d = all_covers ss d
  after_covers s d = λ n h. h

  pub all_covers : (ss : Stmts) (d : List ℕ) → Covers d (declared_after_all d ss)
  all_covers no_stmts d = λ n h. h
  all_covers (some_stmts s ss) d = λ n h. all_covers ss (declared_after d s) n (after_covers s d n h)

-- ---- what is in scope

abbrev pub setting_in : (Symbol → Option Signature) → (Symbol → Option Type') → List Type' → List Type' → Bool → Bool → Setting
setting_in functions variables locals results breaks continues =
    record { functions = functions; variables = variables; locals = locals; results = results; breaks = breaks; continues = continues }

-- types of variables stay, and so do the names of the blocks around
abbrev pub Grows : StatementEnv → StatementEnv → Type 0
Grows env there = (there.names.outer ≡ env.names.outer) × ((rest : List Type') × (env.types ++ rest ≡ there.types))

pub grows_none : (env : StatementEnv) → Grows env env
grows_none env = (refl, ([], append-nil env.types))

pub grows_on : (a b c : StatementEnv) → Grows a b → Grows b c → Grows a c
grows_on a b c h k =
    (k.0 ∙ h.0, ((h.1).0 ++ (k.1).0, sym (append_assoc a.types (h.1).0 (k.1).0) ∙ ap (λ l. l ++ (k.1).0) (h.1).1 ∙ (k.1).1))

-- a form that declares nothing
abbrev pub stays : {A : Type 0} → List ℕ → A → List ℕ
stays d x = d

module _ (w : Table) (locals : List Type') where
  -- the local variables that have a value have sound types
  abbrev pub SoundLocals : List ℕ → Type 0
  SoundLocals d = (n : ℕ) (t : Type') → slice_get locals n ≡ Some t → has d n ≡ true → IsSoundType w t

  -- a name in a function stands for a local variable that has a value, or for a constant
  abbrev pub IsSoundName : List ℕ → Option Declared → Type 0
  IsSoundName d None = Unit {0}
  IsSoundName d (Some (value (local t n))) = (slice_get locals n ≡ Some t) × (has d n ≡ true)
  IsSoundName d (Some (value (constant t c))) = IsUntypedConstant (constant t c) ⊎ (IsConstant t c × IsSoundType w t)
  IsSoundName d o = ⊥

  -- the blank name is none
  abbrev pub AllSound : List ℕ → List (List ℕ × Option Declared) → Type 0
  AllSound d [] = Unit {0}
  AllSound d ((x, o) ∷ ns) = (is_blank x ≡ false) × IsSoundName d o × AllSound d ns

  abbrev pub BlocksSound : List ℕ → List (List (List ℕ × Option Declared)) → Type 0
  BlocksSound d [] = Unit {0}
  BlocksSound d (b ∷ bs) = AllSound d b × BlocksSound d bs

  abbrev pub Related : StatementEnv → List ℕ → Type 0
  Related env d = AllSound d env.names.inner × BlocksSound d env.names.outer × SoundLocals d

  -- its variables are the first of the function's
  abbrev pub Lies : StatementEnv → Type 0
  Lies env = (rest : List Type') × (env.types ++ rest ≡ locals)

  pub lies_before : (a b : StatementEnv) → Grows a b → Lies b → Lies a
  lies_before a b h k = ((h.1).0 ++ k.0, sym (append_assoc a.types (h.1).0 k.0) ∙ ap (λ l. l ++ k.0) (h.1).1 ∙ k.1)

  name_covers : (d e : List ℕ) (o : Option Declared) → Covers d e → IsSoundName d o → IsSoundName e o
  name_covers d e None c h = tt
  name_covers d e (Some (value (local t n))) c h = (h.0, c n h.1)
  name_covers d e (Some (value (constant t x))) c h = h
  name_covers d e o c h = absurd h

  pub all_sound_covers : (d e : List ℕ) (ns : List (List ℕ × Option Declared)) → Covers d e → AllSound d ns → AllSound e ns
  all_sound_covers d e [] c h = tt
  all_sound_covers d e ((x, o) ∷ ns) c h = (h.0, name_covers d e o c h.1, all_sound_covers d e ns c h.2)

  pub blocks_cover : (d e : List ℕ) (bs : List (List (List ℕ × Option Declared))) → Covers d e → BlocksSound d bs → BlocksSound e bs
  blocks_cover d e [] c h = tt
  blocks_cover d e (b ∷ bs) c h = (all_sound_covers d e b c h.0, blocks_cover d e bs c h.1)

  -- ---- forms

  -- a form keeps what it finds, and where it has no fault it gives what it must, and leaves a scope that is related to the variables behind it
  abbrev pub SureAt : {A : Type 0} → (List ℕ → A → List ℕ) → (List ℕ → A → Type 0) → (StatementEnv → Checked A) → StatementEnv → Type 0
  SureAt {A} behind P form env = Grows env (form env).after
      × ((d : List ℕ) → Related env d → Lies (form env).after → (form env).faults ≡ [] → (x : A) → (form env).known ≡ Some x → P d x × Related (form env).after (behind d x))

  abbrev pub Sure : {A : Type 0} → (List ℕ → A → List ℕ) → (List ℕ → A → Type 0) → (StatementEnv → Checked A) → Type 0
  Sure {A} behind P form = (env : StatementEnv) → SureAt behind P form env

  pub sure_given : {A : Type 0} (P : List ℕ → A → Type 0) (x : A) → ((d : List ℕ) → SoundLocals d → P d x) → Sure stays P (pure_checked x)
  sure_given P x h env = (grows_none env, λ d r lies none y is. (let same : x ≡ y = cc in (subst (P d) same (h d r.2), r)))

  both_parts : {A B : Type 0} (a : Option A) (b : Option B) (x : A × B) → both a b ≡ Some x → (a ≡ Some x.0) × (b ≡ Some x.1)
  both_parts (Some a) (Some b) x h = (let same : (a, b) ≡ x = cc in (ap (λ k. Some k.0) same, ap (λ k. Some k.1) same))
  both_parts None b x h = absurd cc
  both_parts (Some a) None x h = absurd cc

  pub follow_at : {A B : Type 0} (s : List ℕ → A → List ℕ) (P : List ℕ → A → Type 0) (t : List ℕ → B → List ℕ) (Q : List ℕ → B → Type 0) (f : StatementEnv → Checked A) (g : StatementEnv → Checked B) (env : StatementEnv) → SureAt s P f env → SureAt t Q g (f env).after
      → SureAt (λ (d : List ℕ) (k : A × B). t (s d k.0) k.1) (λ (d : List ℕ) (k : A × B). P d k.0 × Q (s d k.0) k.1) (follow f g) env
  follow_at s P t Q f g env one two = (
    grows_on env (f env).after (g (f env).after).after one.0 two.0,
    λ d r lies none x is. (
        let ns = two_none (f env).faults (g (f env).after).faults none in
        let parts = both_parts (f env).known (g (f env).after).known x is in
        let first = one.1 d r (lies_before (f env).after (g (f env).after).after two.0 lies) ns.0 x.0 parts.0 in
        let second = two.1 (s d x.0) first.1 lies ns.1 x.1 parts.1 in
        ((first.0, second.0), second.1)
        ),
  )

  pub sure_follow : {A B : Type 0} (s : List ℕ → A → List ℕ) (P : List ℕ → A → Type 0) (t : List ℕ → B → List ℕ) (Q : List ℕ → B → Type 0) (f : StatementEnv → Checked A) (g : StatementEnv → Checked B) → Sure s P f → Sure t Q g
      → Sure (λ (d : List ℕ) (k : A × B). t (s d k.0) k.1) (λ (d : List ℕ) (k : A × B). P d k.0 × Q (s d k.0) k.1) (follow f g)
  sure_follow s P t Q f g h k env = follow_at s P t Q f g env (h env) (k (f env).after)

  -- what a form gives is what is known of it
  pub known_at : {A : Type 0} (s : List ℕ → A → List ℕ) (P : List ℕ → A → Type 0) (form : StatementEnv → Checked A) (env : StatementEnv) → SureAt s P form env → SureAt s (λ (d : List ℕ) (x : A). P d x × ((form env).known ≡ Some x)) form env
  known_at s P form env one = (one.0, λ d r lies none x is. (let first = one.1 d r lies none x is in ((first.0, is), first.1)))

  pub sure_as : {A : Type 0} (s : List ℕ → A → List ℕ) (P : List ℕ → A → Type 0) (t : List ℕ → A → List ℕ) (Q : List ℕ → A → Type 0) (form : StatementEnv → Checked A) → ((d : List ℕ) (x : A) → P d x → Q d x × (s d x ≡ t d x)) → Sure s P form → Sure t Q form
  sure_as s P t Q form each h env =
      let one = h env in (
        one.0,
        λ d r lies none x is. (
            let first = one.1 d r lies none x is in
            let made = each d x first.0 in
            (made.0, subst (λ e. Related (form env).after e) made.1 first.1)
            ),
      )

  mapped_part : {A B : Type 0} (f : A → B) (o : Option A) (y : B) → option_map f o ≡ Some y → (x : A) × (o ≡ Some x) × (f x ≡ y)
  mapped_part f None y h = absurd cc
  mapped_part f (Some x) y h = (x, refl, cc)

  pub sure_seen : {A B : Type 0} (s : List ℕ → A → List ℕ) (P : List ℕ → A → Type 0) (t : List ℕ → B → List ℕ) (Q : List ℕ → B → Type 0) (f : A → B) (form : StatementEnv → Checked A)
      → ((d : List ℕ) (x : A) → P d x → Q d (f x) × (s d x ≡ t d (f x))) → Sure s P form → Sure t Q (map_checked f form)
  sure_seen s P t Q f form each h env =
      let one = h env in (
        one.0,
        λ d r lies none y is. (
            let part = mapped_part f (form env).known y is in
            let first = one.1 d r lies none part.0 part.1 in
            let made = each d part.0 first.0 in
            (subst (Q d) part.2 made.0, subst (λ e. Related (form env).after e) (made.1 ∙ ap (t d) part.2) first.1)
            ),
      )

  asked_part : {A B : Type 0} (rule : A → Verdict B) (o : Option A) (y : B) → fine (asked rule o) ≡ Some y → (x : A) × (o ≡ Some x) × (rule x ≡ Fine y)
  asked_part rule None y h = absurd cc
  asked_part rule (Some x) y h = (x, refl, elim (rule x) as (λ v. fine v ≡ Some y → v ≡ Fine y) [ Fine z ↦ λ k. cc | _ ↦ λ k. cc ] h)

  pub node_at : {A B : Type 0} (s : List ℕ → A → List ℕ) (P : List ℕ → A → Type 0) (t : List ℕ → B → List ℕ) (Q : List ℕ → B → Type 0) (p : Place) (rule : A → Verdict B) (parts : StatementEnv → Checked A) (env : StatementEnv)
      → ((d : List ℕ) (x : A) (y : B) → P d x → rule x ≡ Fine y → SoundLocals d → Q d y × (s d x ≡ t d y)) → SureAt s P parts env → SureAt t Q (node p rule parts) env
  node_at s P t Q p rule parts env each one = (
    one.0,
    λ d r lies none y is. (
        let part = asked_part rule (parts env).known y is in
        let first = one.1 d r lies (two_none (parts env).faults (broken p (asked rule (parts env).known)) none).0 part.0 part.1 in
        let made = each d part.0 y first.0 part.2 r.2 in
        (made.0, subst (λ e. Related (parts env).after e) made.1 first.1)
        ),
  )

  pub sure_node : {A B : Type 0} (s : List ℕ → A → List ℕ) (P : List ℕ → A → Type 0) (t : List ℕ → B → List ℕ) (Q : List ℕ → B → Type 0) (p : Place) (rule : A → Verdict B) (parts : StatementEnv → Checked A)
      → ((d : List ℕ) (x : A) (y : B) → P d x → rule x ≡ Fine y → SoundLocals d → Q d y × (s d x ≡ t d y)) → Sure s P parts → Sure t Q (node p rule parts)
  sure_node s P t Q p rule parts each h env = node_at s P t Q p rule parts env each (h env)

  -- a block: what stood around it stands there again
  left_names : (env there : StatementEnv) (d e : List ℕ) → Grows (enter_scope env) there → Covers d e → AllSound d env.names.inner → BlocksSound d env.names.outer → SoundLocals e → Related (leave there) e
  left_names env there d e g c h k l = elim there.names.outer as (λ o. o ≡ env.names.inner ∷ env.names.outer → there.names.outer ≡ o → Related (leave there) e) [
    | [] ↦ λ same at. absurd cc
    | b ∷ bs ↦ λ same at. (
        let inner : b ≡ env.names.inner = cc in
        let outer : bs ≡ env.names.outer = cc in
        let one = subst (AllSound e) (sym inner) (all_sound_covers d e env.names.inner c h) in
        let two = subst (BlocksSound e) (sym outer) (blocks_cover d e env.names.outer c k) in
        rw (at, Related) (one, two, l)
        )
  ] g.0 refl

  left_grows : (env there : StatementEnv) → Grows (enter_scope env) there → Grows env (leave there)
  left_grows env there g = elim there.names.outer as (λ o. o ≡ env.names.inner ∷ env.names.outer → there.names.outer ≡ o → Grows env (leave there)) [
    | [] ↦ λ same at. absurd cc
    | b ∷ bs ↦ λ same at. (let outer : bs ≡ env.names.outer = cc in rw (at, Grows) (outer, g.1))
  ] g.0 refl

  entered : (env : StatementEnv) (d : List ℕ) → Related env d → Related (enter_scope env) d
  entered env d r = (tt, (r.0, r.1), r.2)

  -- what is declared in it has a value behind it
  pub inside_at : {A : Type 0} (s : List ℕ → A → List ℕ) (P : List ℕ → A → Type 0) (form : StatementEnv → Checked A) (env : StatementEnv) → ((d : List ℕ) (x : A) → Covers d (s d x)) → SureAt s P form (enter_scope env) → SureAt s P (in_new_block form) env
  inside_at s P form env c one = (
    left_grows env (form (enter_scope env)).after one.0,
    λ d r lies none x is. (
        let first = one.1 d (entered env d r) lies none x is in
        (first.0, left_names env (form (enter_scope env)).after d (s d x) one.0 (c d x) r.0 r.1 (first.1).2)
        ),
  )

  pub sure_inside : {A : Type 0} (s : List ℕ → A → List ℕ) (P : List ℕ → A → Type 0) (form : StatementEnv → Checked A) → ((d : List ℕ) (x : A) → Covers d (s d x)) → Sure s P form → Sure s P (in_new_block form)
  sure_inside s P form c h env = inside_at s P form env c (h (enter_scope env))

  -- or isn't spoken of
  pub apart_at : {A : Type 0} (s : List ℕ → A → List ℕ) (P : List ℕ → A → Type 0) (form : StatementEnv → Checked A) (env : StatementEnv) → SureAt s P form (enter_scope env) → SureAt stays P (in_new_block form) env
  apart_at s P form env one = (
    left_grows env (form (enter_scope env)).after one.0,
    λ d r lies none x is. (
        let first = one.1 d (entered env d r) lies none x is in
        (first.0, left_names env (form (enter_scope env)).after d d one.0 (λ n k. k) r.0 r.1 r.2)
        ),
  )

  pub sure_apart : {A : Type 0} (s : List ℕ → A → List ℕ) (P : List ℕ → A → Type 0) (form : StatementEnv → Checked A) → Sure s P form → Sure stays P (in_new_block form)
  sure_apart s P form h env = apart_at s P form env (h (enter_scope env))
