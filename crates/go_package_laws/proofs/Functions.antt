-- Functions without fault are well typed.
use Rattle.std.proofs.Common.{◌≡◌, ℕ, zero, suc, ◌<◌, ◌≢◌, Bool, true, false, ◌||◌, Option, Some, None, List, [], ◌∷◌, ◌++◌, map, length, drop, refl, sym, ap, subst, ◌∙◌, inl, inr, arith, append_assoc, append-nil, length-append, true≢false}
use Rattle.std.specs.Prelude.{option_map, nat_eq}
use Rattle.std.specs.List.{slice_get}
use Rattle.std.proofs.lemmas.Bool.{cases_Bool, eqb-true}
use Rattle.std.proofs.lemmas.Bool.Decides.{Decides-eqb}
use Rattle.go_text.specs.declared.fault.FaultKind.TheVariants.{NoReturn}
use Rattle.go_ast.specs.Trees.{Name, TypeExpr, Block, block, Parameter, FunctionDecl}
use Rattle.go_types.specs.Types.{Type'}
use Rattle.go_typed.specs.Trees as typed
use Rattle.go_typed.specs.Trees.{Symbol, local, Package, pack_stmts}
use Rattle.go_meaning_laws.specs.WellTyped.{Setting, has, first, AreStmts, signature_at, variable_at, are_none, IsWellTypedFunction}
use Rattle.go_expr.specs.Known.{value, Fine, Breaks}
use Rattle.go_expr.specs.Rules.{fine}
use Rattle.go_expr.specs.Verdicts.{asked, both, type_verdict, broken}
use Rattle.go_typed.specs.Terminating.{list_terminates}
use Rattle.go_scope.specs.Scopes.{is_blank}
use Rattle.go_stmt.specs.Scopes.{StatementEnv, Context, nothing, scope_in, declare_variable}
use Rattle.go_stmt.specs.Rules.{all_some, ended}
use Rattle.go_stmt.specs.Statements.{block_context, list_at}
use Rattle.go_stmt.specs.Functions.{declare_parameters, type_in_signature, parameter_at, parameters_at, result_types, results_at, body_at, closing_place, CheckedParts, whole_function, function_from, function_at}
use Rattle.go_package_laws.proofs.Soundness.{Table, IsSoundType, AreSoundTypes}
use Rattle.go_package_laws.proofs.Texts.{TypeHasTexts}
use Rattle.go_package_laws.proofs.BodyTexts.{ParametersHaveTexts, ResultsHaveTexts, FunctionHasTexts, BlockHasTexts}
use Rattle.go_package_laws.proofs.Expected.{Expected}
use Rattle.go_package_laws.proofs.Related.{two_none, BlocksSound, setting_in, Grows, grows_none, grows_on, AllSound, Related, Lies, lies_before}
use Rattle.go_package_laws.proofs.Values.{checked_part, some_part}
use Rattle.go_package_laws.proofs.Numbered.{Outside, scope_sound, variable_grows, more_names, at_place, nth_left}
use Rattle.go_package_laws.proofs.Leaves.{fine_is}
use Rattle.go_package_laws.proofs.Bodies.{Good, list_sure}

-- ---- the first numbers

first_below : (m n : ℕ) → has (first m) n ≡ true → n < m
first_below zero n h = absurd (true≢false (sym h))
first_below (suc m) n h = elim (cases_Bool (nat_eq n m)) [
  | inl is ↦ (let same : n ≡ m = eqb-true n m is in omega (arith, same))
  | inr not_so ↦ (let r : has (first (suc m)) n ≡ has (first m) n = rw not_so refl in let less = first_below m n (sym r ∙ h) in omega (arith, less))
]

differs : (n m : ℕ) → nat_eq n m ≡ false → n ≢ m
differs n m h same = true≢false (sym ((Decides-eqb n m).1 same) ∙ h)

below : (m n : ℕ) → nat_eq n m ≡ false → n < suc m → n < m
below m n h less = (let other = differs n m h in omega (arith, less, other))

has_first : (m n : ℕ) → n < m → has (first m) n ≡ true
has_first zero n h = absurd (omega (arith, h))
has_first (suc m) n h = elim (cases_Bool (nat_eq n m)) [
  | inl is ↦ rw is refl
  | inr not_so ↦ rw not_so (has_first m n (below m n not_so h))
]

drop_front : (xs ys : List Type') → drop (length xs) (xs ++ ys) ≡ ys
drop_front [] ys = refl
drop_front (x ∷ xs) ys = drop_front xs ys

-- ---- parameters

declared_types : (x : List ℕ) (t : Type') (env : StatementEnv) → (declare_variable x (Some t) env).types ≡ env.types ++ t ∷ []
declared_types x t env = refl

parameters_types : (ns : List Name) (t : Type') (env : StatementEnv) → (declare_parameters ns (Some t) env).types ≡ env.types ++ map (λ n. t) ns
parameters_types [] t env = sym (append-nil env.types)
parameters_types (n ∷ ns) t env = parameters_types ns t (declare_variable n.text (Some t) env) ∙ append_assoc env.types (t ∷ []) (map (λ n. t) ns)

names_grow : (ns : List Name) (t : Option Type') (env : StatementEnv) → Grows env (declare_parameters ns t env)
names_grow [] t env = grows_none env
names_grow (n ∷ ns) t env = grows_on env (declare_variable n.text t env) (declare_parameters ns t (declare_variable n.text t env)) (variable_grows n.text t env) (names_grow ns t (declare_variable n.text t env))

parameters_grow : (c : Context) (ps : List Parameter) (env : StatementEnv) → Grows env (parameters_at c ps env).after
parameters_grow c [] env = grows_none env
parameters_grow c (p ∷ ps) env =
    let there = (parameter_at c p env).after in
    grows_on env there (parameters_at c ps there).after (names_grow p.names (type_in_signature c p.type env).known env) (parameters_grow c ps there)

same_types_sound : (w : Table) (t : Type') → IsSoundType w t → (ns : List Name) → AreSoundTypes w (map (λ n. t) ns)
same_types_sound w t h [] = tt
same_types_sound w t h (n ∷ ns) = (h, same_types_sound w t h ns)

more_types : (w : Table) (ts us : List Type') → AreSoundTypes w ts → AreSoundTypes w us → AreSoundTypes w (ts ++ us)
more_types w [] us h k = k
more_types w (t ∷ ts) us h k = (h.0, more_types w ts us h.1 k)

pub type_of_place : (w : Table) (ts : List Type') (n : ℕ) (t : Type') → AreSoundTypes w ts → slice_get ts n ≡ Some t → IsSoundType w t
type_of_place w [] n t h is = absurd cc
type_of_place w (u ∷ ts) zero t h is = (let same : u ≡ t = cc in subst (IsSoundType w) same h.0)
type_of_place w (u ∷ ts) (suc n) t h is = type_of_place w ts n t h.1 is

one_known : (ns : List Name) (o : Option Type') (ks : List Type') → option_map (λ (k : List Name × Type'). map (λ n. k.1) k.0) (both (Some ns) o) ≡ Some ks → (t : Type') × (o ≡ Some t) × (map (λ n. t) ns ≡ ks)
one_known ns None ks h = absurd cc
one_known ns (Some t) ks h = (t, refl, cc)

two_known : (a b : Option (List Type')) (ks : List Type') → option_map (λ (k : List Type' × List Type'). k.0 ++ k.1) (both a b) ≡ Some ks → (us : List Type') × (vs : List Type') × (a ≡ Some us) × (b ≡ Some vs) × (us ++ vs ≡ ks)
two_known None b ks h = absurd cc
two_known (Some us) None ks h = absurd cc
two_known (Some us) (Some vs) ks h = (us, vs, refl, refl, cc)

all_known : (o : Option Type') (os : List (Option Type')) (w : Table) (ks : List Type') → ((t : Type') → o ≡ Some t → IsSoundType w t) → ((ts : List Type') → all_some os ≡ Some ts → AreSoundTypes w ts) → all_some (o ∷ os) ≡ Some ks → AreSoundTypes w ks
all_known o os w ks h k is = (let part = some_part o os ks is in subst (AreSoundTypes w) (sym part.4) (h part.0 part.2, k part.1 part.3))

-- what a body gives, and that it doesn't run off its end where something is due
ended_parts : (ts : List Type') (ss : List typed.Stmt) (k : List Type' × List typed.Stmt) (a b : Bool) → nat_eq (length ts) 0 ≡ a → list_terminates (pack_stmts ss) ≡ b → ended ts ss ≡ Fine k → ((are_none ts || list_terminates (pack_stmts ss)) ≡ true) × ((ts, ss) ≡ k)
ended_parts [] ss k a b p q h = (refl, cc)
ended_parts (t ∷ ts) ss k true b p q h = absurd (let none : length (t ∷ ts) ≡ 0 = eqb-true (length (t ∷ ts)) 0 p in omega (arith, none))
ended_parts (t ∷ ts) ss k false true p q h = (let r : ended (t ∷ ts) ss ≡ Fine (t ∷ ts, ss) = rw (p, q) refl in (q, cc))
ended_parts (t ∷ ts) ss k false false p q h = absurd (let r : ended (t ∷ ts) ss ≡ Breaks NoReturn = rw (p, q) refl in cc)

body_parts : (a : Option (List Type')) (b : Option (List typed.Stmt)) (k : List Type' × List typed.Stmt) → both a b ≡ Some k → (a ≡ Some k.0) × (b ≡ Some k.1)
body_parts None b k h = absurd cc
body_parts (Some ts) None k h = absurd cc
body_parts (Some ts) (Some ss) k h = (let same : (ts, ss) ≡ k = cc in (ap (λ j. Some j.0) same, ap (λ j. Some j.1) same))

closed_parts : (ps : List Type') (k : List Type' × List typed.Stmt) (y : CheckedParts) → whole_function (ps, k) ≡ Fine y → (ended k.0 k.1 ≡ Fine y.1) × (ps ≡ y.0)
closed_parts ps k y h =
    let part = checked_part (λ inside. Fine (ps, inside)) (ended k.0 k.1) y h in
    let same : (ps, part.0) ≡ y = (let q : Fine (ps, part.0) ≡ Fine y = part.2 in cc) in
    (part.1 ∙ ap (λ (j : CheckedParts). Fine j.1) same, ap (λ (j : CheckedParts). j.0) same)

-- what is known of a whole function, and that it doesn't run off its end where something is due
ended_whole : (a : Option (List Type')) (b : Option (List Type' × List typed.Stmt)) (y : CheckedParts) → fine (asked whole_function (both a b)) ≡ Some y
    → (a ≡ Some y.0) × (b ≡ Some y.1) × ((are_none (y.1).0 || list_terminates (pack_stmts (y.1).1)) ≡ true)
ended_whole None b y h = absurd cc
ended_whole (Some ps) None y h = absurd cc
ended_whole (Some ps) (Some k) y h =
    let parts = closed_parts ps k y (fine_is (whole_function (ps, k)) y h) in
    let made = ended_parts k.0 k.1 y.1 (nat_eq (length k.0) 0) (list_terminates (pack_stmts k.1)) refl refl parts.0 in
    (ap Some parts.1, ap Some made.1, subst (λ (j : List Type' × List typed.Stmt). (are_none j.0 || list_terminates (pack_stmts j.1)) ≡ true) made.1 made.0)

whole_parts : (a : Option (List Type')) (b : Option (List Type' × List typed.Stmt)) (f : CheckedParts → typed.Function) (y : typed.Function) → option_map f (fine (asked whole_function (both a b))) ≡ Some y
    → (ps : List Type') × (k : List Type' × List typed.Stmt) × (a ≡ Some ps) × (b ≡ Some k) × ((are_none k.0 || list_terminates (pack_stmts k.1)) ≡ true) × (f (ps, k) ≡ y)
whole_parts a b f y h = elim (fine (asked whole_function (both a b))) as (λ o. fine (asked whole_function (both a b)) ≡ o → option_map f o ≡ Some y
    → (ps : List Type') × (k : List Type' × List typed.Stmt) × (a ≡ Some ps) × (b ≡ Some k) × ((are_none k.0 || list_terminates (pack_stmts k.1)) ≡ true) × (f (ps, k) ≡ y)) [
      | None ↦ λ is q. absurd cc
      | Some z ↦ λ is q. (let parts = ended_whole a b z is in (z.0, z.1, parts.0, parts.1, parts.2, cc))
    ] refl h

-- the types that are known, where all are
all_mapped : (os : List (Option Type')) (ts : List Type') → all_some os ≡ Some ts → os ≡ map Some ts
all_mapped [] ts is = (let same : [] ≡ ts = cc in ap (map Some) same)
all_mapped (o ∷ os) ts is =
    let part = some_part o os ts is in
    ap (λ p. p ∷ os) part.2 ∙ ap (λ l. Some part.0 ∷ l) (all_mapped os part.1 part.3) ∙ ap (map Some) (sym part.4)

module _ (x : Expected) (w : Table) (packages : List Package) where
  -- names outside of a function are sound wherever they stand
  abbrev pub SoundOutside : Context → Type 0
  SoundOutside c = (locals results : List Type') (b k : Bool) → Outside w (setting_in (signature_at packages) (variable_at packages) locals results b k) c

  abbrev pub SoundPackageVariables : Type 0
  SoundPackageVariables = (s : Symbol) (t : Type') → variable_at packages s ≡ Some t → IsSoundType w t

  -- types of the signature stand outside of the function
  outer : Setting
  outer = setting_in (signature_at packages) (variable_at packages) [] [] false false

  signature_type : (c : Context) → SoundOutside c → (t : TypeExpr) → TypeHasTexts t → (u : Type') → fine (type_verdict (scope_in c None nothing) t) ≡ Some u → IsSoundType w u
  unfolding outer
  signature_type c out t texts u is =
      x.sound_type w outer [] (scope_in c None nothing) t (scope_sound w outer c (out [] [] false false) nothing [] (tt, tt, λ n t place none. absurd (true≢false (sym none))) None) texts u (fine_is (type_verdict (scope_in c None nothing) t) u is)

  parameters_sound : (c : Context) → SoundOutside c → (ps : List Parameter) → ParametersHaveTexts ps → (env : StatementEnv) (ks : List Type') → (parameters_at c ps env).known ≡ Some ks → AreSoundTypes w ks × ((parameters_at c ps env).after.types ≡ env.types ++ ks)
  parameters_sound c out [] texts env ks is = (let same : [] ≡ ks = cc in subst (λ (l : List Type'). AreSoundTypes w l × (env.types ≡ env.types ++ l)) same (tt, sym (append-nil env.types)))
  parameters_sound c out (p ∷ ps) texts env ks is =
      let there = (parameter_at c p env).after in
      let parts = two_known (parameter_at c p env).known (parameters_at c ps there).known ks is in
      let one = one_known p.names (type_in_signature c p.type env).known parts.0 parts.2 in
      let rest = parameters_sound c out ps texts.1 there parts.1 parts.3 in
      let types : there.types ≡ env.types ++ parts.0 =
      ap (λ o. (declare_parameters p.names o env).types) one.1 ∙ parameters_types p.names one.0 env ∙ ap (λ l. env.types ++ l) one.2 in
      let sound = subst (AreSoundTypes w) one.2 (same_types_sound w one.0 (signature_type c out p.type texts.0 one.0 one.1) p.names) in
      let all : AreSoundTypes w (parts.0 ++ parts.1) = more_types w parts.0 parts.1 sound rest.0 in
      let long : (parameters_at c ps there).after.types ≡ env.types ++ (parts.0 ++ parts.1) =
      rest.1 ∙ ap (λ l. l ++ parts.1) types ∙ append_assoc env.types parts.0 parts.1 in
      (subst (AreSoundTypes w) parts.4 all, long ∙ ap (λ l. env.types ++ l) parts.4)

  results_sound : (c : Context) → SoundOutside c → (ts : List TypeExpr) → ResultsHaveTexts ts → (ks : List Type') → all_some (map (λ t. fine (type_verdict (scope_in c None nothing) t)) ts) ≡ Some ks → AreSoundTypes w ks
  results_sound c out [] texts ks is = (let same : [] ≡ ks = cc in subst (AreSoundTypes w) same tt)
  results_sound c out (t ∷ ts) texts ks is =
      all_known (fine (type_verdict (scope_in c None nothing) t)) (map (λ t. fine (type_verdict (scope_in c None nothing) t)) ts) w ks (λ u at. signature_type c out t texts.0 u at) (λ us at. results_sound c out ts texts.1 us at) is

  body_result : (c : Context) (rs : List TypeExpr) (b : Block) (env : StatementEnv) (k : List Type' × List typed.Stmt) → (body_at c rs b env).known ≡ Some k → (results_at c rs nothing).known ≡ Some k.0
  body_result c rs (block p ss q) env k is = (body_parts (results_at c rs env).known (list_at (record (block_context c) { results = result_types c rs }) ss env).known k is).0

  -- ---- parameters in scope

  module _ (locals : List Type') (d : List ℕ) where
    abbrev Given : StatementEnv → Type 0
    Given env = (n : ℕ) → n < length env.types → has d n ≡ true

    given_before : (a b : StatementEnv) → Grows a b → Given b → Given a
    given_before a b g h n less = h n (let longer : length (a.types ++ (g.1).0) ≡ length b.types = ap length (g.1).1 in omega (arith, less, length-append a.types (g.1).0, longer))

    variable_named : (n : Name) (t : Type') (env final : StatementEnv) → Grows (declare_variable n.text (Some t) env) final → Lies w locals final → Given final → AllSound w locals d env.names.inner → AllSound w locals d (declare_variable n.text (Some t) env).names.inner
    variable_named n t env final grows lies given h =
        let back = lies_before w locals (declare_variable n.text (Some t) env) final grows lies in
        let place : slice_get locals (length env.types) ≡ Some t = at_place env.types t back.0 locals back.1 in
        let there = given_before (declare_variable n.text (Some t) env) final grows given in
        let has_it : has d (length env.types) ≡ true = there (length env.types) (omega (arith, length-append env.types (t ∷ []))) in
        elim (cases_Bool (is_blank n.text)) [
          | inl is ↦ rw is h
          | inr named ↦ rw named (more_names w locals d env.names.inner ((n.text, Some (value (local t (length env.types)))) ∷ []) h (named, (place, has_it), tt))
        ]

    names_named : (ns : List Name) (t : Type') (env final : StatementEnv) → Grows (declare_parameters ns (Some t) env) final → Lies w locals final → Given final → AllSound w locals d env.names.inner → AllSound w locals d (declare_parameters ns (Some t) env).names.inner
    names_named [] t env final grows lies given h = h
    names_named (n ∷ ns) t env final grows lies given h =
        let one = declare_variable n.text (Some t) env in
        names_named ns t one final grows lies given (variable_named n t env final (grows_on one (declare_parameters ns (Some t) one) final (names_grow ns (Some t) one) grows) lies given h)

    parameters_named : (c : Context) (ps : List Parameter) (env final : StatementEnv) (ks : List Type') → (parameters_at c ps env).known ≡ Some ks → Grows (parameters_at c ps env).after final → Lies w locals final → Given final → AllSound w locals d env.names.inner
        → AllSound w locals d (parameters_at c ps env).after.names.inner
    parameters_named c [] env final ks is grows lies given h = h
    parameters_named c (p ∷ ps) env final ks is grows lies given h =
        let there = (parameter_at c p env).after in
        let parts = two_known (parameter_at c p env).known (parameters_at c ps there).known ks is in
        let one = one_known p.names (type_in_signature c p.type env).known parts.0 parts.2 in
        let same : declare_parameters p.names (Some one.0) env ≡ there = ap (λ o. declare_parameters p.names o env) (sym one.1) in
        let forward : Grows there final = grows_on there (parameters_at c ps there).after final (parameters_grow c ps there) grows in
        let first_names = names_named p.names one.0 env final (subst (λ (e : StatementEnv). Grows e final) (sym same) forward) lies given h in
        parameters_named c ps there final parts.1 parts.3 grows lies given (subst (λ (e : StatementEnv). AllSound w locals d e.names.inner) same first_names)

  -- ---- bodies and functions

  body_sure : (c : Context) → SoundOutside c → SoundPackageVariables → (rs : List TypeExpr) (b : Block) → ResultsHaveTexts rs → BlockHasTexts b → (env : StatementEnv) → (body_at c rs b env).faults ≡ [] → (k : List Type' × List typed.Stmt) → (body_at c rs b env).known ≡ Some k
      → Grows env (body_at c rs b env).after × ((results_at c rs nothing).known ≡ Some k.0) × AreSoundTypes w k.0
      × ((d : List ℕ) → Related w (body_at c rs b env).after.types env d → AreStmts (setting_in (signature_at packages) (variable_at packages) (body_at c rs b env).after.types k.0 c.breaks c.continues) d (pack_stmts k.1))
  body_sure c out v rs (block p ss q) texts more env none k is =
      let inner = record (block_context c) { results = result_types c rs } in
      let list = list_at inner ss env in
      let parts = body_parts (results_at c rs env).known list.known k is in
      let locals = list.after.types in
      let sound = results_sound c out rs texts k.0 parts.0 in
      let good : Good x w (signature_at packages) (variable_at packages) locals k.0 inner = (
        λ b j. out locals k.0 b j,
        (all_mapped (result_types c rs) k.0 parts.0, sound),
        v,
      ) in
      let sure = list_sure x w (signature_at packages) (variable_at packages) locals k.0 inner good ss more env in
      let lists = two_none (results_at c rs env).faults list.faults none in
      (sure.0, parts.0, sound, λ d r. (sure.1 d r ([], append-nil locals) lists.1 k.1 parts.1).0)

  parameters_related : (c : Context) (ps : List Parameter) (ts rest : List Type') → AreSoundTypes w ts → (parameters_at c ps nothing).known ≡ Some ts → (parameters_at c ps nothing).after.types ≡ ts
      → Related w (ts ++ rest) (parameters_at c ps nothing).after (first (length ts))
  parameters_related c ps ts rest sound known types =
      let env = (parameters_at c ps nothing).after in
      let d = first (length ts) in
      let locals = ts ++ rest in
      let lies : Lies w locals env = (rest, ap (λ l. l ++ rest) types) in
      let long : length env.types ≡ length ts = ap length types in
      let given : Given locals d env = λ n less. has_first (length ts) n (omega (arith, less, long)) in (
        parameters_named locals d c ps nothing env ts known (grows_none env) lies given tt,
        subst (BlocksSound w locals d) (sym (parameters_grow c ps nothing).0) tt,
        λ n t place has_it. (
            let less = first_below (length ts) n has_it in
            type_of_place w ts n t sound (sym (nth_left ts rest n less) ∙ place)
            ),
      )

  -- types of the signature, whatever stands in the body
  pub sound_signature : (c : Context) (f : FunctionDecl) → SoundOutside c → FunctionHasTexts f → (y : typed.Function) → (function_at c f).known ≡ Some y → AreSoundTypes w y.parameters × AreSoundTypes w y.results
  unfolding function_at
  sound_signature c f out texts y is =
      let start = parameters_at c f.parameters nothing in
      let body = body_at c f.results f.body start.after in
      let parts = whole_parts start.known body.known (function_from f body.after.types) y is in
      let params = parameters_sound c out f.parameters texts.0 nothing parts.0 parts.2 in
      let results = results_sound c out f.results texts.1 (parts.1).0 (body_result c f.results f.body start.after parts.1 parts.3) in
      subst (λ (y : typed.Function). AreSoundTypes w y.parameters × AreSoundTypes w y.results) parts.5 (params.0, results)

  pub sound_function : (c : Context) (f : FunctionDecl) → c.breaks ≡ false → c.continues ≡ false → SoundOutside c → SoundPackageVariables → FunctionHasTexts f → (function_at c f).faults ≡ [] → (y : typed.Function) → (function_at c f).known ≡ Some y
      → IsWellTypedFunction packages y × ((parameters_at c f.parameters nothing).known ≡ Some y.parameters) × ((results_at c f.results nothing).known ≡ Some y.results) × AreSoundTypes w y.parameters × AreSoundTypes w y.results × (y.name ≡ f.name.text)
  unfolding function_at
  sound_function c f breaks continues out v texts none y is =
      let start = parameters_at c f.parameters nothing in
      let env = start.after in
      let body = body_at c f.results f.body env in
      let types = body.after.types in
      let parts = whole_parts start.known body.known (function_from f types) y is in
      let ts = parts.0 in
      let k = parts.1 in
      let inside_it = two_none (start.faults ++ body.faults) (broken (closing_place f.body) (asked whole_function (both start.known body.known))) none in
      let faultless = two_none start.faults body.faults inside_it.0 in
      let params = parameters_sound c out f.parameters texts.0 nothing ts parts.2 in
      let made = body_sure c out v f.results f.body texts.1 texts.2 env faultless.1 k parts.3 in
      let rest = ((made.0).1).0 in
      let whole_types : ts ++ rest ≡ types = ap (λ l. l ++ rest) (sym params.1) ∙ ((made.0).1).1 in
      let related = parameters_related c f.parameters ts rest params.0 parts.2 params.1 in
      let stmts = made.3 (first (length ts)) (subst (λ l. Related w l env (first (length ts))) whole_types related) in
      let behind_them : drop (length ts) types ≡ rest = ap (drop (length ts)) (sym whole_types) ∙ drop_front ts rest in
      let locals : types ≡ ts ++ drop (length ts) types = sym whole_types ∙ ap (λ l. ts ++ l) (sym behind_them) in
      let one = subst (λ l. AreStmts (setting_in (signature_at packages) (variable_at packages) l k.0 c.breaks c.continues) (first (length ts)) (pack_stmts k.1)) locals stmts in
      let two = subst (λ b. AreStmts (setting_in (signature_at packages) (variable_at packages) (ts ++ drop (length ts) types) k.0 b c.continues) (first (length ts)) (pack_stmts k.1)) breaks one in
      let three = subst (λ b. AreStmts (setting_in (signature_at packages) (variable_at packages) (ts ++ drop (length ts) types) k.0 false b) (first (length ts)) (pack_stmts k.1)) continues two in
      subst (λ (y : typed.Function). IsWellTypedFunction packages y × ((parameters_at c f.parameters nothing).known ≡ Some y.parameters) × ((results_at c f.results nothing).known ≡ Some y.results) × AreSoundTypes w y.parameters × AreSoundTypes w y.results × (y.name ≡ f.name.text)) parts.5
      (record { body = three; ended = parts.4 }, parts.2, made.1, params.0, made.2, refl)
