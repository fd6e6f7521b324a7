-- Names that a function's blocks have: what is in scope is sound, and new variables have the numbers and the types that their statements say.
use Rattle.std.proofs.Common.{◌≡◌, ℕ, zero, suc, ◌<◌, true, false, Option, Some, None, List, [], ◌∷◌, ◌++◌, map, length, codes, refl, sym, ap, subst, ◌∙◌, ◌⊎◌, inl, inr, arith, append-nil, length-append}
use Rattle.std.specs.Prelude.{bytes_eq, nat_eq, is_some}
use Rattle.std.specs.List.{flat_map, slice_get}
use Rattle.std.specs.Map.{lookup}
use Rattle.std.proofs.lemmas.Bool.{cases_Bool, eqb-true}
use Rattle.std.proofs.lemmas.Bool.Decides.{Decides-eqb}
use Rattle.std.proofs.lemmas.Slice.Eq.{bytes_eq-Decides}
use Rattle.go_ast.specs.Trees.{Name}
use Rattle.go_scope.specs.Scopes as scopes
use Rattle.go_types.specs.Types.{Type'}
use Rattle.go_typed.specs.Trees.{constant, local}
use Rattle.go_meaning_laws.specs.WellTyped.{Setting, has, known_numbers, Suits, AreNew}
use Rattle.go_expr.specs.Known.{Declared, value, Known, declared, Verdict, Fine, named, look_up_known}
use Rattle.go_scope.specs.Scopes.{is_blank}
use Rattle.go_stmt.specs.Scopes.{StatementEnv, Context, scope_in, own, variable_number, declare_variable, paired_names, declare_new}
use Rattle.go_package_laws.proofs.Soundness.{Table, IsSoundType}
use Rattle.go_package_laws.proofs.SoundNames.{IsSoundKnown, IsSoundScope}
use Rattle.go_package_laws.proofs.Related.{SoundLocals, IsSoundName, AllSound, BlocksSound, Related, Lies, Grows, grows_none, grows_on, lies_before, Covers, has_behind, all_sound_covers, blocks_cover}

-- ---- what is in scope

module _ (w : Table) (g : Setting) where
  -- names outside of the function are sound, and the package's path is plain
  abbrev pub Outside : Context → Type 0
  Outside c = (w.plain c.path ≡ true) × ((iota : Option ℕ) (d : List ℕ) (x : List ℕ) (k : Known) → look_up_known x (c.outside iota) ≡ Fine k → IsSoundKnown w g d k)

  name_known : (d : List ℕ) → SoundLocals w g.locals d → (o : Option Declared) → IsSoundName w g.locals d o → (k : Known) → named o ≡ Fine k → IsSoundKnown w g d k
  name_known d l None h k is = absurd cc
  name_known d l (Some (value (local t n))) h k is =
      let same : declared (value (local t n)) ≡ k = cc in
      subst (IsSoundKnown w g d) same (inr (inl ((h.0, h.1), l n t h.0 h.1, tt)))
  name_known d l (Some (value (constant t c))) (inl h) k is = (let same : declared (value (constant t c)) ≡ k = cc in subst (IsSoundKnown w g d) same (inl h))
  name_known d l (Some (value (constant t c))) (inr h) k is = (let same : declared (value (constant t c)) ≡ k = cc in subst (IsSoundKnown w g d) same (inr (inl (h.0, h.1, tt))))
  name_known d l o h k is = absurd h

  more_sound : (d : List ℕ) (ns ms : List (List ℕ × Option Declared)) → AllSound w g.locals d ns → AllSound w g.locals d ms → AllSound w g.locals d (ns ++ ms)
  more_sound d [] ms h k = k
  more_sound d ((x, o) ∷ ns) ms h k = (h.0, h.1, more_sound d ns ms h.2 k)

  flat_sound : (d : List ℕ) (bs : List (List (List ℕ × Option Declared))) → BlocksSound w g.locals d bs → AllSound w g.locals d (flat_map (λ b. b) bs)
  flat_sound d [] h = tt
  flat_sound d (b ∷ bs) h = more_sound d b (flat_map (λ b. b) bs) h.0 (flat_sound d bs h.1)

  found : (d : List ℕ) → SoundLocals w g.locals d → (ns : List (List ℕ × Option Declared)) (rest : List (List ℕ × Verdict Known)) (x : List ℕ) (k : Known) → AllSound w g.locals d ns
      → (look_up_known x rest ≡ Fine k → IsSoundKnown w g d k) → look_up_known x (map (λ n. (n.0, named n.1)) ns ++ rest) ≡ Fine k → IsSoundKnown w g d k
  found d l [] rest x k h out is = out is
  found d l ((y, o) ∷ ns) rest x k h out is = elim (cases_Bool (bytes_eq x y)) [
    | inl here ↦ name_known d l o h.1 k (let r : look_up_known x (map (λ n. (n.0, named n.1)) ((y, o) ∷ ns) ++ rest) ≡ named o = rw here refl in sym r ∙ is)
    | inr not_so ↦ found d l ns rest x k h.2 out (
        let r : look_up_known x (map (λ n. (n.0, named n.1)) ((y, o) ∷ ns) ++ rest) ≡ look_up_known x (map (λ n. (n.0, named n.1)) ns ++ rest) = rw not_so refl in
        sym r ∙ is)
  ]

  pub scope_sound : (c : Context) → Outside c → (env : StatementEnv) (d : List ℕ) → Related w g.locals env d → (iota : Option ℕ) → IsSoundScope w g d (scope_in c iota env)
  scope_sound c out env d r iota = (
    out.0,
    λ x k is.
        found d r.2 (flat_map (λ b. b) (env.names.inner ∷ env.names.outer)) (c.outside iota) x k (flat_sound d (env.names.inner ∷ env.names.outer) (r.0, r.1)) (out.1 iota d x k) is,
  )

-- ---- names more

same_text : (p q : List ℕ) → bytes_eq p q ≡ true → p ≡ q
same_text p q h = (bytes_eq-Decides p q).0 h

text_same : (p : List ℕ) → bytes_eq p p ≡ true
text_same p = (bytes_eq-Decides p p).1 refl

abbrev Names : Type 0
Names = List (List ℕ × Option Declared)

stays_found : (x : List ℕ) (ns ms : Names) (o : Option Declared) → lookup (bytes_eq x) ns ≡ Some o → lookup (bytes_eq x) (ns ++ ms) ≡ Some o
stays_found x [] ms o h = absurd cc
stays_found x ((y, p) ∷ ns) ms o h = elim (cases_Bool (bytes_eq x y)) [
  | inl is ↦ (let r : lookup (bytes_eq x) ((y, p) ∷ ns) ≡ Some p = rw is refl in let k : lookup (bytes_eq x) (((y, p) ∷ ns) ++ ms) ≡ Some p = rw is refl in k ∙ sym r ∙ h)
  | inr not_so ↦ (
      let r : lookup (bytes_eq x) ((y, p) ∷ ns) ≡ lookup (bytes_eq x) ns = rw not_so refl in
      let k : lookup (bytes_eq x) (((y, p) ∷ ns) ++ ms) ≡ lookup (bytes_eq x) (ns ++ ms) = rw not_so refl in
      k ∙ stays_found x ns ms o (sym r ∙ h)
      )
]

found_last : (x y : List ℕ) (ns : Names) (o : Option Declared) → lookup (bytes_eq x) ns ≡ None → bytes_eq x y ≡ true → lookup (bytes_eq x) (ns ++ (y, o) ∷ []) ≡ Some o
found_last x y [] o h is = rw is refl
found_last x y ((z, p) ∷ ns) o h is = elim (cases_Bool (bytes_eq x z)) [
  | inl at ↦ absurd (let r : lookup (bytes_eq x) ((z, p) ∷ ns) ≡ Some p = rw at refl in cc)
  | inr not_so ↦ (
      let r : lookup (bytes_eq x) ((z, p) ∷ ns) ≡ lookup (bytes_eq x) ns = rw not_so refl in
      let k : lookup (bytes_eq x) (((z, p) ∷ ns) ++ (y, o) ∷ []) ≡ lookup (bytes_eq x) (ns ++ (y, o) ∷ []) = rw not_so refl in
      k ∙ found_last x y ns o (sym r ∙ h) is
      )
]

passed_by : (x y : List ℕ) (ns : Names) (o : Option Declared) → bytes_eq x y ≡ false → lookup (bytes_eq x) (ns ++ (y, o) ∷ []) ≡ lookup (bytes_eq x) ns
passed_by x y [] o differs = rw differs refl
passed_by x y ((z, p) ∷ ns) o differs = elim (cases_Bool (bytes_eq x z)) [ inl is ↦ rw is refl | inr not_so ↦ rw not_so (passed_by x y ns o differs) ]

-- what declaring a variable does where it does something
abbrev with_variable : Name → Type' → StatementEnv → StatementEnv
with_variable n t env = declare_variable n.text (Some t) env

abbrev pub next : Name → Option Type' → StatementEnv → StatementEnv
next n t env = declare_new ((n, t) ∷ []) env

pub next_blank : (n : Name) (t : Option Type') (env : StatementEnv) → is_blank n.text ≡ true → next n t env ≡ env
next_blank n t env h = rw h refl

is_own_known : (env : StatementEnv) (n : Name) (o : Option (Option Declared)) → own env n ≡ o → scopes.is_own env.names n.text ≡ is_some o
is_own_known env n o h = ap is_some h

next_own : (n : Name) (t : Option Type') (env : StatementEnv) (o : Option Declared) → own env n ≡ Some o → next n t env ≡ env
next_own n t env o h = elim (cases_Bool (is_blank n.text)) [ inl is ↦ rw is refl | inr sure ↦ (let k : scopes.is_own env.names n.text ≡ true = is_own_known env n (Some o) h in rw (sure, k) refl) ]

next_new : (n : Name) (t : Option Type') (env : StatementEnv) → is_blank n.text ≡ false → own env n ≡ None → next n t env ≡ declare_variable n.text t env
next_new n t env h k = (let r : scopes.is_own env.names n.text ≡ false = is_own_known env n None k in rw (h, r) refl)

added : Name → Type' → StatementEnv → StatementEnv
added n t env = record { names = record { inner = env.names.inner ++ (n.text, Some (value (local t (length env.types)))) ∷ []; outer = env.names.outer }; types = env.types ++ t ∷ [] }

new_added : (n : Name) (t : Type') (env : StatementEnv) → is_blank n.text ≡ false → with_variable n t env ≡ added n t env
unfolding added
new_added n t env h = rw h refl

added_own : (n : Name) (v : Type') (env : StatementEnv) → own env n ≡ None → own (added n v env) n ≡ Some (Some (value (local v (length env.types))))
unfolding added
added_own n v env none = found_last n.text n.text env.names.inner (Some (value (local v (length env.types)))) none (text_same n.text)

added_types : (n : Name) (v : Type') (env : StatementEnv) → (added n v env).types ≡ env.types ++ v ∷ []
unfolding added
added_types n v env = refl

first_has : (m : ℕ) (d : List ℕ) → has (m ∷ d) m ≡ true
first_has m d = (let r : nat_eq m m ≡ true = (Decides-eqb m m).1 refl in rw r refl)

-- a name stays what it is
own_variable : (m : Name) (t : Option Type') (env : StatementEnv) (n : Name) (o : Option Declared) → own env n ≡ Some o → own (declare_variable m.text t env) n ≡ Some o
own_variable m None env n o h = elim (cases_Bool (is_blank m.text)) [ inl is ↦ rw is h | inr not_so ↦ rw not_so (stays_found n.text env.names.inner ((m.text, None) ∷ []) o h) ]
own_variable m (Some t) env n o h = elim (cases_Bool (is_blank m.text)) [ inl is ↦ rw is h | inr not_so ↦ rw not_so (stays_found n.text env.names.inner ((m.text, Some (value (local t (length env.types)))) ∷ []) o h) ]

own_next : (m : Name) (t : Option Type') (env : StatementEnv) (n : Name) (o : Option Declared) → own env n ≡ Some o → own (next m t env) n ≡ Some o
own_next m t env n o h = elim (cases_Bool (is_blank m.text)) [
  | inl is ↦ rw is h
  | inr sure ↦ elim (cases_Bool (scopes.is_own env.names m.text)) [ inl is ↦ rw (sure, is) h | inr not_so ↦ rw (sure, not_so) (own_variable m t env n o h) ]
]

own_stays : (ns : List (Name × Option Type')) (env : StatementEnv) (n : Name) (o : Option Declared) → own env n ≡ Some o → own (declare_new ns env) n ≡ Some o
own_stays [] env n o h = h
own_stays ((m, t) ∷ ns) env n o h = own_stays ns (next m t env) n o (own_next m t env n o h)

-- another name doesn't change it
other_variable : (m : Name) (t : Option Type') (env : StatementEnv) (n : Name) → bytes_eq n.text m.text ≡ false → own (declare_variable m.text t env) n ≡ own env n
other_variable m None env n h = elim (cases_Bool (is_blank m.text)) [ inl is ↦ rw is refl | inr not_so ↦ rw not_so (passed_by n.text m.text env.names.inner None h) ]
other_variable m (Some t) env n h = elim (cases_Bool (is_blank m.text)) [ inl is ↦ rw is refl | inr not_so ↦ rw not_so (passed_by n.text m.text env.names.inner (Some (value (local t (length env.types)))) h) ]

pub own_other : (m : Name) (t : Option Type') (env : StatementEnv) (n : Name) → bytes_eq n.text m.text ≡ false → own (next m t env) n ≡ own env n
own_other m t env n h = elim (cases_Bool (is_blank m.text)) [
  | inl is ↦ rw is refl
  | inr sure ↦ elim (cases_Bool (scopes.is_own env.names m.text)) [ inl is ↦ rw (sure, is) refl | inr not_so ↦ rw (sure, not_so) (other_variable m t env n h) ]
]

-- ---- what grows

pub variable_grows : (x : List ℕ) (t : Option Type') (env : StatementEnv) → Grows env (declare_variable x t env)
variable_grows x None env = elim (cases_Bool (is_blank x)) [ inl is ↦ rw is (refl, ([], append-nil env.types)) | inr not_so ↦ rw not_so (refl, ([], append-nil env.types)) ]
variable_grows x (Some t) env = elim (cases_Bool (is_blank x)) [ inl is ↦ rw is (refl, (t ∷ [], refl)) | inr not_so ↦ rw not_so (refl, (t ∷ [], refl)) ]

next_grows : (n : Name) (t : Option Type') (env : StatementEnv) → Grows env (next n t env)
next_grows n t env = elim (cases_Bool (is_blank n.text)) [
  | inl is ↦ rw is (grows_none env)
  | inr sure ↦ elim (cases_Bool (scopes.is_own env.names n.text)) [ inl is ↦ rw (sure, is) (grows_none env) | inr not_so ↦ rw (sure, not_so) (variable_grows n.text t env) ]
]

pub new_grows : (ns : List (Name × Option Type')) (env : StatementEnv) → Grows env (declare_new ns env)
new_grows [] env = grows_none env
new_grows ((n, t) ∷ ns) env = grows_on env (next n t env) (declare_new ns (next n t env)) (next_grows n t env) (new_grows ns (next n t env))

-- ---- the blank name

blank_text : (x : List ℕ) → is_blank x ≡ true → x ≡ codes "_"
blank_text x h = same_text x (codes "_") h

abbrev NoBlanks : StatementEnv → Type 0
NoBlanks env = (n : Name) → is_blank n.text ≡ true → own env n ≡ None

-- what is blank is no other name
blank_differs : (x y : List ℕ) → is_blank x ≡ true → is_blank y ≡ false → bytes_eq x y ≡ false
blank_differs x y h k = elim (cases_Bool (bytes_eq x y)) [
  | inl is ↦ absurd (let same : x ≡ y = same_text x y is in let r : is_blank y ≡ true = subst (λ z. is_blank z ≡ true) same h in cc)
  | inr not_so ↦ not_so
]

blanks_next : (m : Name) (t : Option Type') (env : StatementEnv) → NoBlanks env → NoBlanks (next m t env)
blanks_next m t env none n blank = elim (cases_Bool (is_blank m.text)) [
  | inl is ↦ rw is (none n blank)
  | inr sure ↦ own_other m t env n (blank_differs n.text m.text blank sure) ∙ none n blank
]

blanks_stay : (ns : List (Name × Option Type')) (env : StatementEnv) → NoBlanks env → NoBlanks (declare_new ns env)
blanks_stay [] env h = h
blanks_stay ((n, t) ∷ ns) env h = blanks_stay ns (next n t env) (blanks_next n t env h)

pub numbered : (env : StatementEnv) (n : Name) (o : Option (Option Declared)) → own env n ≡ o → variable_number env n ≡ elim o [ Some (Some (value (local t k))) ↦ Some k | _ ↦ None ]
numbered env n o h = rw (h, variable_number) refl

-- what stands in the first of two lists
pub nth_left : {A : Type 0} (xs ys : List A) (n : ℕ) → n < length xs → slice_get (xs ++ ys) n ≡ slice_get xs n
nth_left [] ys n less = absurd (omega (arith, less))
nth_left (x ∷ xs) ys zero less = refl
nth_left (x ∷ xs) ys (suc n) less = nth_left xs ys n (omega (arith, less))

-- and right behind it
nth_seam : {A : Type 0} (xs : List A) (x : A) → slice_get (xs ++ x ∷ []) (length xs) ≡ Some x
nth_seam [] x = refl
nth_seam (y ∷ xs) x = nth_seam xs x

pub at_place : (types : List Type') (t : Type') (rest locals : List Type') → (types ++ t ∷ []) ++ rest ≡ locals → slice_get locals (length types) ≡ Some t
at_place types t rest locals h =
    let within : length types < length (types ++ t ∷ []) = omega (arith, length-append types (t ∷ [])) in
    sym (ap (λ l. slice_get l (length types)) h) ∙ nth_left (types ++ t ∷ []) rest (length types) within ∙ nth_seam types t

module _ (w : Table) (locals : List Type') where
  blank_none : (d : List ℕ) (ns : Names) (x : List ℕ) → AllSound w locals d ns → is_blank x ≡ true → lookup (bytes_eq x) ns ≡ None
  blank_none d [] x h blank = refl
  blank_none d ((y, o) ∷ ns) x h blank = (let r : bytes_eq x y ≡ false = blank_differs x y blank h.0 in rw r (blank_none d ns x h.2 blank))

  -- the name is blank; or it is a variable's already; or it is new
  abbrev pub FitsName : StatementEnv → Name → Type' → Type' → Type 0
  FitsName env n v t = (is_blank n.text ≡ true)
      ⊎ ((u : Type') × (k : ℕ) × (own env n ≡ Some (Some (value (local u k)))) × Suits t u × IsSoundType w u × (slice_get locals k ≡ Some u))
      ⊎ ((is_blank n.text ≡ false) × (own env n ≡ None) × Suits t v × IsSoundType w v)

  abbrev pub Ready : StatementEnv → List Name → List Type' → List Type' → Type 0
  Ready env [] [] [] = Unit {0}
  Ready env (n ∷ ns) (v ∷ vs) (t ∷ ts) = FitsName env n v t × Ready (next n (Some v) env) ns vs ts
  Ready env ns vs ts = ⊥

  -- it has a number, and the variable of that number takes a value of the type
  abbrev Numbered : StatementEnv → Name → Type' → Type 0
  Numbered final n t = (variable_number final n ≡ None) ⊎ ((k : ℕ) × (u : Type') × (variable_number final n ≡ Some k) × (slice_get locals k ≡ Some u) × Suits t u × IsSoundType w u)

  abbrev AllNumbered : StatementEnv → List Name → List Type' → Type 0
  AllNumbered final [] [] = Unit {0}
  AllNumbered final (n ∷ ns) (t ∷ ts) = Numbered final n t × AllNumbered final ns ts
  AllNumbered final ns ts = ⊥

  -- behind a new name
  pub new_own : (n : Name) (v : Type') (env : StatementEnv) → is_blank n.text ≡ false → own env n ≡ None → own (next n (Some v) env) n ≡ Some (Some (value (local v (length env.types))))
  new_own n v env named none = (
      let is : next n (Some v) env ≡ added n v env = next_new n (Some v) env named none ∙ new_added n v env named in
      let there : own (added n v env) n ≡ Some (Some (value (local v (length env.types)))) = added_own n v env none in
      ap (λ e. own e n) is ∙ there
      )

  pub new_place : (n : Name) (v : Type') (env final : StatementEnv) → is_blank n.text ≡ false → own env n ≡ None → Grows (next n (Some v) env) final → Lies w locals final → slice_get locals (length env.types) ≡ Some v
  new_place n v env final named none g lies =
      let is : (next n (Some v) env).types ≡ env.types ++ v ∷ [] = ap (λ e. e.types) (next_new n (Some v) env named none ∙ new_added n v env named) ∙ added_types n v env in
      let back = lies_before w locals (next n (Some v) env) final g lies in
      at_place env.types v back.0 locals (ap (λ l. l ++ back.0) (sym is) ∙ back.1)

  one_numbered : (n : Name) (v t : Type') (ns : List (Name × Option Type')) (env final : StatementEnv) → declare_new ns (next n (Some v) env) ≡ final → NoBlanks final → Lies w locals final → FitsName env n v t → Numbered final n t
  one_numbered n v t ns env final is blanks lies (inl blank) = inl (numbered final n None (blanks n blank))
  one_numbered n v t ns env final is blanks lies (inr (inl h)) =
      let there : own final n ≡ Some (Some (value (local h.0 h.1))) =
      sym (ap (λ e. own e n) is) ∙ own_stays ns (next n (Some v) env) n (Some (value (local h.0 h.1))) (own_next n (Some v) env n (Some (value (local h.0 h.1))) h.2) in
      inr (h.1, h.0, numbered final n (Some (Some (value (local h.0 h.1)))) there, h.5, h.3, h.4)
  one_numbered n v t ns env final is blanks lies (inr (inr h)) =
      let k = length env.types in
      let there : own final n ≡ Some (Some (value (local v k))) =
      sym (ap (λ e. own e n) is) ∙ own_stays ns (next n (Some v) env) n (Some (value (local v k))) (new_own n v env h.0 h.1) in
      let grows : Grows (next n (Some v) env) final = subst (Grows (next n (Some v) env)) is (new_grows ns (next n (Some v) env)) in
      inr (k, v, numbered final n (Some (Some (value (local v k)))) there, new_place n v env final h.0 h.1 grows lies, h.2, h.3)

  all_numbered : (ns : List Name) (vs ts : List Type') (env final : StatementEnv) → declare_new (paired_names ns (map Some vs)) env ≡ final → NoBlanks final → Lies w locals final → Ready env ns vs ts → AllNumbered final ns ts
  all_numbered [] [] [] env final is blanks lies r = tt
  all_numbered (n ∷ ns) (v ∷ vs) (t ∷ ts) env final is blanks lies r =
      (one_numbered n v t (paired_names ns (map Some vs)) env final is blanks lies r.0, all_numbered ns vs ts (next n (Some v) env) final is blanks lies r.1)
  all_numbered ns vs ts env final is blanks lies r = absurd r

  -- ---- what that says

  pub all_new : (ns : List Name) (ts : List Type') (final : StatementEnv) → AllNumbered final ns ts → AreNew locals (map (variable_number final) ns) ts
  all_new [] [] final h = tt
  all_new (n ∷ ns) (t ∷ ts) final (inl none, rest) = rw none (all_new ns ts final rest)
  all_new (n ∷ ns) (t ∷ ts) final (inr h, rest) = rw (h.2) ((h.1, h.3, h.4), all_new ns ts final rest)
  all_new ns ts final h = absurd h

  all_types_sound : (ns : List Name) (ts : List Type') (final : StatementEnv) (d : List ℕ) → AllNumbered final ns ts → SoundLocals w locals d → SoundLocals w locals (known_numbers (map (variable_number final) ns) ++ d)
  all_types_sound [] [] final d h l = l
  all_types_sound (n ∷ ns) (t ∷ ts) final d (inl none, rest) l = rw none (all_types_sound ns ts final d rest l)
  all_types_sound (n ∷ ns) (t ∷ ts) final d (inr h, rest) l = rw (h.2) (λ m u at given. elim (cases_Bool (nat_eq m h.0)) [
    | inl is ↦ (
        let same : m ≡ h.0 = eqb-true m h.0 is in
        let type : Some u ≡ Some h.1 = sym at ∙ ap (slice_get locals) same ∙ h.3 in
        let one : u ≡ h.1 = cc in
        subst (IsSoundType w) (sym one) h.5
        )
    | inr not_so ↦ all_types_sound ns ts final d rest l m u at (let r : has (h.0 ∷ (known_numbers (map (variable_number final) ns) ++ d)) m ≡ has (known_numbers (map (variable_number final) ns) ++ d) m = rw not_so refl in sym r ∙ given)
  ])
  all_types_sound ns ts final d h l = absurd h

  -- ---- what is in scope behind them

  pub more_names : (d : List ℕ) (ns ms : Names) → AllSound w locals d ns → AllSound w locals d ms → AllSound w locals d (ns ++ ms)
  more_names d [] ms h k = k
  more_names d ((x, o) ∷ ns) ms h k = (h.0, h.1, more_names d ns ms h.2 k)

  abbrev HaveAll : List ℕ → StatementEnv → List Name → Type 0
  HaveAll e final [] = Unit {0}
  HaveAll e final (n ∷ ns) = ((k : ℕ) → variable_number final n ≡ Some k → has e k ≡ true) × HaveAll e final ns

  added_sound : (e : List ℕ) (n : Name) (v : Type') (env : StatementEnv) → AllSound w locals e (env.names.inner ++ (n.text, Some (value (local v (length env.types)))) ∷ []) → AllSound w locals e (added n v env).names.inner
  unfolding added
  added_sound e n v env h = h

  next_sound : (e : List ℕ) (n : Name) (v t : Type') (ns : List (Name × Option Type')) (env final : StatementEnv) → declare_new ns (next n (Some v) env) ≡ final → Lies w locals final → ((k : ℕ) → variable_number final n ≡ Some k → has e k ≡ true)
      → FitsName env n v t → AllSound w locals e env.names.inner → AllSound w locals e (next n (Some v) env).names.inner
  next_sound e n v t ns env final is lies given (inl blank) h = subst (λ (x : StatementEnv). AllSound w locals e x.names.inner) (sym (next_blank n (Some v) env blank)) h
  next_sound e n v t ns env final is lies given (inr (inl f)) h = subst (λ (x : StatementEnv). AllSound w locals e x.names.inner) (sym (next_own n (Some v) env (Some (value (local f.0 f.1))) f.2)) h
  next_sound e n v t ns env final is lies given (inr (inr f)) h =
      let k = length env.types in
      let there : own final n ≡ Some (Some (value (local v k))) =
      sym (ap (λ e. own e n) is) ∙ own_stays ns (next n (Some v) env) n (Some (value (local v k))) (new_own n v env f.0 f.1) in
      let grows : Grows (next n (Some v) env) final = subst (Grows (next n (Some v) env)) is (new_grows ns (next n (Some v) env)) in
      let has_it = given k (numbered final n (Some (Some (value (local v k)))) there) in
      let whole : AllSound w locals e (env.names.inner ++ (n.text, Some (value (local v k))) ∷ []) =
      more_names e env.names.inner ((n.text, Some (value (local v k))) ∷ []) h (f.0, (new_place n v env final f.0 f.1 grows lies, has_it), tt) in
      subst (λ (x : StatementEnv). AllSound w locals e x.names.inner) (sym (next_new n (Some v) env f.0 f.1 ∙ new_added n v env f.0)) (added_sound e n v env whole)

  all_next : (e : List ℕ) (ns : List Name) (vs ts : List Type') (env final : StatementEnv) → declare_new (paired_names ns (map Some vs)) env ≡ final → Lies w locals final → HaveAll e final ns → Ready env ns vs ts
      → AllSound w locals e env.names.inner → AllSound w locals e final.names.inner
  all_next e [] [] [] env final is lies given r h = subst (λ (x : StatementEnv). AllSound w locals e x.names.inner) is h
  all_next e (n ∷ ns) (v ∷ vs) (t ∷ ts) env final is lies given r h =
      all_next e ns vs ts (next n (Some v) env) final is lies given.1 r.1 (next_sound e n v t (paired_names ns (map Some vs)) env final is lies given.0 r.0 h)
  all_next e ns vs ts env final is lies given r h = absurd r

  have_behind : (e : List ℕ) (final : StatementEnv) (ns : List Name) (k : ℕ) → HaveAll e final ns → HaveAll (k ∷ e) final ns
  have_behind e final [] k h = tt
  have_behind e final (n ∷ ns) k h = (
    λ m at. elim (cases_Bool (nat_eq m k)) [ inl is ↦ rw is refl | inr not_so ↦ rw not_so (h.0 m at) ],
    have_behind e final ns k h.1,
  )

  have_all : (final : StatementEnv) (d : List ℕ) (ns : List Name) → HaveAll (known_numbers (map (variable_number final) ns) ++ d) final ns
  have_all final d [] = tt
  have_all final d (n ∷ ns) = elim (variable_number final n) as (λ o. variable_number final n ≡ o → HaveAll (known_numbers (o ∷ map (variable_number final) ns) ++ d) final (n ∷ ns)) [
    | None ↦ λ at. (λ k is. absurd (let r : None ≡ Some k = sym at ∙ is in cc), have_all final d ns)
    | Some m ↦ λ at. (
      λ k is. (let r : Some m ≡ Some k = sym at ∙ is in let same : m ≡ k = cc in subst (λ j. has (m ∷ (known_numbers (map (variable_number final) ns) ++ d)) j ≡ true) same (first_has m (known_numbers (map (variable_number final) ns) ++ d))),
      have_behind (known_numbers (map (variable_number final) ns) ++ d) final ns m (have_all final d ns),
    )
  ] refl

  -- new variables: their numbers, and the scope behind
  pub new_related : (ns : List Name) (vs ts : List Type') (env : StatementEnv) (d : List ℕ) → let final = declare_new (paired_names ns (map Some vs)) env in
      Related w locals env d → Lies w locals final → Ready env ns vs ts → AreNew locals (map (variable_number final) ns) ts × Related w locals final (known_numbers (map (variable_number final) ns) ++ d)
  new_related ns vs ts env d r lies ready =
      let final = declare_new (paired_names ns (map Some vs)) env in
      let e = known_numbers (map (variable_number final) ns) ++ d in
      let grows = new_grows (paired_names ns (map Some vs)) env in
      let blanks : NoBlanks final = blanks_stay (paired_names ns (map Some vs)) env (λ n blank. blank_none d env.names.inner n.text r.0 blank) in
      let all = all_numbered ns vs ts env final refl blanks lies ready in
      let covers : Covers d e = has_behind (known_numbers (map (variable_number final) ns)) d in (
        all_new ns ts final all,
        (
          all_next e ns vs ts env final refl lies (have_all final d ns) ready (all_sound_covers w locals d e env.names.inner covers r.0),
          subst (BlocksSound w locals e) (sym grows.0) (blocks_cover w locals d e env.names.outer covers r.1),
          all_types_sound ns ts final d all r.2,
        ),
      )
