-- Initial values of package variables are well typed, and suit the variables that they are given to.
use Rattle.std.proofs.Common.{◌≡◌, ℕ, zero, suc, ◌+◌, true, false, Bool, not, ◌&&◌, ◌||◌, List, [], ◌∷◌, ◌++◌, Option, Some, None, map, length, codes, refl, sym, ap, ◌∙◌, subst, inl, inr, arith}
use Rattle.std.specs.Prelude.{bytes_eq, nat_eq, option_map, option_and_then, unwrap_or, if◌then◌else◌}
use Rattle.std.specs.List.{All, flat_map, list_any, slice_get}
use Rattle.std.proofs.lemmas.Bool.{cases_Bool, and_parts, eqb-true}
use Rattle.std.proofs.lemmas.Slice.Eq.{bytes_eq-Decides}
use Rattle.std.proofs.lemmas.List.Elements.{All-head, All-tail, All-nil, All-cons, All-append, All-map}
use Rattle.go_text.specs.declared.edition.Edition.{Edition}
use Rattle.ws_reach.proofs.Closure.{IsOneOf}
use Rattle.ws_reach.specs.Worklist.{is_marked}
use Rattle.go_text.specs.declared.place.Place.{Place}
use Rattle.go_text.specs.declared.fault.FaultKind.TheVariants.{Redeclared, Recursive}
use Rattle.go_ast.specs.Trees as source
use Rattle.go_ast.specs.Trees.{Name, TypeExpr, VarSpec, constants, variables, types, TopLevel, declared, function, File}
use Rattle.go_types.specs.Types.{Type'}
use Rattle.go_typed.specs.Trees as typed
use Rattle.go_typed.specs.Trees.{Symbol, Initialization, ValueSource, each, results, zeros, global, expr_type}
use Rattle.go_init.specs.Variables.{depends, variable_order}
use Rattle.go_init.proofs.Members.{all_of}
use Rattle.go_init.proofs.Turns.{turns_are}
use Rattle.go_meaning.specs.Programs.{package_symbol, sets}
use Rattle.go_expr.specs.Known.{Declared, value, type', function as known_function, println, length', capacity', make', append', panic', Known, declared as known_declared, package', results as call_results, printed, panicked, Verdict, Fine, Breaks, Passed, Scope, Names}
use Rattle.go_expr.specs.Rules.{fine, value_due, settled_type}
use Rattle.go_expr.specs.Verdicts.{asked, asked_both, operand, verdict, type_verdict}
use Rattle.go_stmt.specs.Scopes.{nothing}
use Rattle.go_stmt.specs.Rules.{values_of, variables_source}
use Rattle.go_stmt.specs.Statements.{each_of, values_known, alone_types, variable_types, written_at}
use Rattle.go_objects.specs.Objects.{DeclaredObject, paired, typed_object, valued_object, result_objects, uncounted, variables_of, firsts, objects_in, objects_from, objects_of}
use Rattle.go_objects.specs.Table.{number_of, iota_in, scope_at, call_result_type, form_verdict, object_verdict, declared_in}
use Rattle.go_package.specs.Faults.{Facts, Faults, written_type, is_declared_by, name_faults, var_spec_faults, top_faults, files_faults}
use Rattle.go_package.specs.Typed.{own_name, alone, each_alone, together, initializations_by, spec_initializations, top_initializations, of_files, typed_package}
use Rattle.go_package_laws.specs.Finds.{IsKnown, AreKnown}
use Rattle.go_meaning_laws.specs.WellTyped.{Suits, IsWellTypedSource, AreWellTypedExprs, exprs_types, source_types, AreGiven, IsWellTypedStart, variable_at, package_setting}
use Rattle.go_package_laws.proofs.Soundness.{Table}
use Rattle.go_package_laws.proofs.SoundNames.{IsSoundScope}
use Rattle.go_package_laws.proofs.Texts.{HaveTexts}
use Rattle.go_package_laws.proofs.BodyTexts.{WrittenHasTexts, VariablesHaveTexts}
use Rattle.go_package_laws.proofs.DeclaredTexts.{TopsHaveTexts, FilesHaveTexts}
use Rattle.go_package_laws.proofs.Whole.{expected}
use Rattle.go_package_laws.proofs.Declares.{Fitting, made_by}
use Rattle.go_package_laws.proofs.Forms.{fine_is, both_asked, variable_parts, known_is}
use Rattle.go_package_laws.proofs.Tables.{pair_second}
use Rattle.go_package_laws.proofs.Fits.{AllIn, all_at, all_firsts}
use Rattle.go_package_laws.proofs.Links.{Checked}
use Rattle.go_package_laws.proofs.Places.{all_front, all_behind, Alike, IsOnly, only_there}

both_none : {A : Type 0} (xs ys : List A) → xs ++ ys ≡ [] → (xs ≡ []) × (ys ≡ [])
both_none [] ys h = (refl, h)
both_none (x ∷ xs) ys h = absurd cc

unmapped : {A B : Type 0} (f : A → B) (xs : List A) → map f xs ≡ [] → xs ≡ []
unmapped f [] h = refl
unmapped f (x ∷ xs) h = absurd cc

some_same : {A : Type 0} (x y : A) → Some x ≡ Some y → x ≡ y
some_same x y h = cc

heads : {A : Type 0} (x y : A) (xs ys : List A) → x ∷ xs ≡ y ∷ ys → x ≡ y
heads x y xs ys h = cc

tails : {A : Type 0} (x y : A) (xs ys : List A) → x ∷ xs ≡ y ∷ ys → xs ≡ ys
tails x y xs ys h = cc

all_some_same : (ts us : List Type') → map Some ts ≡ map Some us → ts ≡ us
all_some_same [] [] h = refl
all_some_same [] (u ∷ us) h = absurd cc
all_some_same (t ∷ ts) [] h = absurd cc
all_some_same (t ∷ ts) (u ∷ us) h =
    ap (λ x. x ∷ ts) (some_same t u (heads (Some t) (Some u) (map Some ts) (map Some us) h))
    ∙ ap (λ l. u ∷ l) (all_some_same ts us (tails (Some t) (Some u) (map Some ts) (map Some us) h))

-- ---- the types that values give variables

-- of one value
single : (o : Verdict Known) (u v : Type') → alone_types (fine (asked values_of (fine o))) ≡ Some v ∷ [] → option_and_then settled_type (fine (asked value_due (fine o))) ≡ Some u → u ≡ v
single (Fine (known_declared (value e))) u v h k = some_same u v (sym k ∙ heads (settled_type e) (Some v) [] [] h)
single (Fine (known_declared (type' t))) u v h k = absurd cc
single (Fine (known_declared (known_function s ts rs))) u v h k = absurd cc
single (Fine (known_declared println)) u v h k = absurd cc
single (Fine (known_declared length')) u v h k = absurd cc
single (Fine (known_declared capacity')) u v h k = absurd cc
single (Fine (known_declared make')) u v h k = absurd cc
single (Fine (known_declared append')) u v h k = absurd cc
single (Fine (known_declared panic')) u v h k = absurd cc
single (Fine (package' names)) u v h k = absurd cc
single (Fine (call_results ts s es)) u v h k = absurd cc
single (Fine (printed es)) u v h k = absurd cc
single (Fine (panicked e)) u v h k = absurd cc
single (Breaks kind) u v h k = absurd cc
single Passed u v h k = absurd cc

counted : (ts : List Type') (number count : ℕ) (u : Type') (vs : List Type') → map Some ts ≡ map Some vs → (if nat_eq (length ts) count then slice_get ts number else None) ≡ Some u → slice_get vs number ≡ Some u
counted ts number count u vs same h = elim (cases_Bool (nat_eq (length ts) count)) [
  | inl is ↦ ap (λ l. slice_get l number) (sym (all_some_same ts vs same)) ∙ rw is at h
  | inr not_so ↦ absurd (let no : None ≡ Some u = rw not_so at h in cc (no))
]

-- of the results of a call
of_result : (o : Verdict Known) (number count : ℕ) (u : Type') (vs : List Type') → alone_types (fine (asked values_of (fine o))) ≡ map Some vs → call_result_type number count (fine o) ≡ Some u → slice_get vs number ≡ Some u
of_result (Fine (call_results ts s es)) number count u vs h k = counted ts number count u vs h k
of_result (Fine (known_declared d)) number count u vs h k = absurd cc
of_result (Fine (package' names)) number count u vs h k = absurd cc
of_result (Fine (printed es)) number count u vs h k = absurd cc
of_result (Fine (panicked e)) number count u vs h k = absurd cc
of_result (Breaks kind) number count u vs h k = absurd cc
of_result Passed number count u vs h k = absurd cc

module _ (t : Facts) where
  abbrev scope : ℕ → Scope
  scope file = scope_at t.package t.known file None

  -- an object of that file and name declares a variable of that type, if anything
  abbrev Declares : ℕ → Name → Type' → DeclaredObject → Type 0
  Declares file n v o =
      (o.file ≡ file) × (o.name ≡ n) × ((x : Symbol) (e : Declared) → form_verdict (scope_at t.package t.known o.file (iota_in o.form)) x o.form ≡ Fine (known_declared e) → e ≡ value (global v x))

  abbrev AllDeclare : ℕ → List Name → List Type' → List DeclaredObject → Type 0
  AllDeclare file [] [] [] = Unit {0}
  AllDeclare file (n ∷ ns) (v ∷ vs) (o ∷ os) = Declares file n v o × AllDeclare file ns vs os
  AllDeclare file ns vs os = ⊥

  typed_declare : (file : ℕ) (ty : TypeExpr) (all ns : List Name) (vs : List Type') → map (λ (n : Name). fine (type_verdict (scope file) ty)) ns ≡ map Some vs → AllDeclare file ns vs (map (typed_object file all ty) ns)
  typed_declare file ty all [] [] h = tt
  typed_declare file ty all [] (v ∷ vs) h = absurd cc
  typed_declare file ty all (n ∷ ns) [] h = absurd cc
  typed_declare file ty all (n ∷ ns) (v ∷ vs) h =
      let o = fine (type_verdict (scope file) ty) in
      let is = heads o (Some v) (map (λ (n : Name). o) ns) (map Some vs) h in (
        (
          refl,
          refl,
          λ x e made. (let parts = variable_parts x o e made in parts.2 ∙ ap (λ u. value (global u x)) (some_same parts.0 v (sym parts.1 ∙ is))),
        ),
        typed_declare file ty all ns vs (tails o (Some v) (map (λ (n : Name). o) ns) (map Some vs) h),
      )

  one_valued : (file : ℕ) (all : List Name) (n : Name) (v : Type') (e : source.Expression) → ((u : Type') → option_and_then settled_type (operand (verdict (scope file) e)) ≡ Some u → u ≡ v) → Declares file n v (valued_object file all n e)
  one_valued file all n v e h = (
    refl,
    refl,
    λ x d made. (let parts = variable_parts x (option_and_then settled_type (operand (verdict (scope file) e))) d made in parts.2 ∙ ap (λ u. value (global u x)) (h parts.0 parts.1)),
  )

  abbrev ManyDeclare : ℕ → List Name → List Type' → Option (List DeclaredObject) → Type 0
  ManyDeclare file ns vs None = ⊥
  ManyDeclare file ns vs (Some os) = AllDeclare file ns vs os

  one_more : (file : ℕ) (n : Name) (v : Type') (o : DeclaredObject) (ns : List Name) (vs : List Type') (os : Option (List DeclaredObject)) → Declares file n v o → ManyDeclare file ns vs os → ManyDeclare file (n ∷ ns) (v ∷ vs) (option_map (λ xs. o ∷ xs) os)
  one_more file n v o ns vs None h k = absurd k
  one_more file n v o ns vs (Some os) h k = (h, k)

  valued_declare : (file : ℕ) (all ns : List Name) (es : source.ExpressionList) (vs : List Type') → each_of (λ e. option_and_then settled_type (operand (verdict (scope file) e))) es ≡ map Some vs → length ns ≡ length vs → ManyDeclare file ns vs (paired (valued_object file all) ns es)
  valued_declare file all [] source.no_exprs [] h same = tt
  valued_declare file all [] source.no_exprs (v ∷ vs) h same = absurd cc
  valued_declare file all (n ∷ ns) source.no_exprs [] h same = absurd (omega (arith, same))
  valued_declare file all (n ∷ ns) source.no_exprs (v ∷ vs) h same = absurd cc
  valued_declare file all [] (source.some_exprs e es) [] h same = absurd cc
  valued_declare file all [] (source.some_exprs e es) (v ∷ vs) h same = absurd (omega (arith, same))
  valued_declare file all (n ∷ ns) (source.some_exprs e es) [] h same = absurd cc
  valued_declare file all (n ∷ ns) (source.some_exprs e es) (v ∷ vs) h same =
      let f = λ (e : source.Expression). option_and_then settled_type (operand (verdict (scope file) e)) in
      let is = heads (f e) (Some v) (each_of f es) (map Some vs) h in
      one_more file n v (valued_object file all n e) ns vs (paired (valued_object file all) ns es) (one_valued file all n v e (λ u k. some_same u v (sym k ∙ is)))
      (valued_declare file all ns es vs (tails (f e) (Some v) (each_of f es) (map Some vs) h) (omega (arith, same)))

  either_declare : (file : ℕ) (ns : List Name) (vs : List Type') (a : Option (List DeclaredObject)) (b : List DeclaredObject) → ManyDeclare file ns vs a → AllDeclare file ns vs (unwrap_or a b)
  either_declare file ns vs None b h = absurd h
  either_declare file ns vs (Some os) b h = h

  results_declare : (file : ℕ) (all : List Name) (e : source.Expression) (whole : List Type') → alone_types (fine (asked values_of (fine (verdict (scope file) e)))) ≡ map Some whole
      → (number : ℕ) (ns : List Name) (vs : List Type') → ((j : ℕ) → slice_get whole (number + j) ≡ slice_get vs j) → length ns ≡ length vs → AllDeclare file ns vs (result_objects file all number e ns)
  results_declare file all e whole is number [] [] shift same = tt
  results_declare file all e whole is number [] (v ∷ vs) shift same = absurd (omega (arith, same))
  results_declare file all e whole is number (n ∷ ns) [] shift same = absurd (omega (arith, same))
  results_declare file all e whole is number (n ∷ ns) (v ∷ vs) shift same =
      let zeroth : number + 0 ≡ number = omega arith in
      let at : slice_get whole number ≡ Some v = ap (slice_get whole) (sym zeroth) ∙ shift 0 in (
        (
          refl,
          refl,
          λ x d made. (
              let parts = variable_parts x (call_result_type number (length all) (fine (verdict (scope file) e))) d made in
              let own = of_result (verdict (scope file) e) number (length all) parts.0 whole is parts.1 in
              parts.2 ∙ ap (λ u. value (global u x)) (some_same parts.0 v (sym own ∙ at))),
        ),
        results_declare file all e whole is (suc number) ns vs (λ j. (let next : number + suc j ≡ suc number + j = omega arith in ap (slice_get whole) (sym next) ∙ shift (suc j))) (omega (arith, same)),
      )

  -- the objects of a specification
  spec_declare : (file : ℕ) (ns : List Name) (ty : Option TypeExpr) (es : source.ExpressionList) (vs : List Type') → variable_types (scope file) (record { names = ns; type = ty; values = es }) ≡ map Some vs → length ns ≡ length vs
      → AllDeclare file ns vs (variables_of file (record { names = ns; type = ty; values = es }))
  spec_declare file ns (Some ty) es vs h same = typed_declare file ty ns ns vs h
  spec_declare file ns None source.no_exprs vs h same =
      either_declare file ns vs (paired (valued_object file ns) ns source.no_exprs) (uncounted file ns source.no_exprs) (valued_declare file ns ns source.no_exprs vs h same)
  spec_declare file ns None (source.some_exprs e (source.some_exprs f es)) vs h same =
      let all = source.some_exprs e (source.some_exprs f es) in
      either_declare file ns vs (paired (valued_object file ns) ns all) (uncounted file ns all) (valued_declare file ns ns all vs h same)
  spec_declare file [] None (source.some_exprs e source.no_exprs) [] h same = tt
  spec_declare file [] None (source.some_exprs e source.no_exprs) (v ∷ vs) h same = absurd (omega (arith, same))
  spec_declare file (n ∷ []) None (source.some_exprs e source.no_exprs) [] h same = absurd (omega (arith, same))
  spec_declare file (n ∷ []) None (source.some_exprs e source.no_exprs) (v ∷ []) h same = (one_valued file (n ∷ []) n v e (λ u k. single (verdict (scope file) e) u v h k), tt)
  spec_declare file (n ∷ []) None (source.some_exprs e source.no_exprs) (v ∷ w ∷ vs) h same = absurd (omega (arith, same))
  spec_declare file (n ∷ m ∷ ns) None (source.some_exprs e source.no_exprs) vs h same = results_declare file (n ∷ m ∷ ns) e vs h 0 (n ∷ m ∷ ns) vs (λ j. (let zeroth : 0 + j ≡ j = omega arith in ap (slice_get vs) zeroth)) same

-- ---- an object that a name finds

firsts_have : (names : List (List ℕ)) (os : List DeclaredObject) (j : ℕ) (o : DeclaredObject) → slice_get os j ≡ Some o → bytes_eq o.name.text (codes "_") ≡ false → list_any (bytes_eq o.name.text) names ≡ false → (k : ℕ) × (number_of (firsts names os) o.name.text ≡ Some k)
firsts_have names [] j o at named new = absurd cc
firsts_have names (y ∷ os) zero o at named new =
    let same : y ≡ o = cc in
    let named' : bytes_eq y.name.text (codes "_") ≡ false = ap (λ (z : DeclaredObject). bytes_eq z.name.text (codes "_")) same ∙ named in
    let new' : list_any (bytes_eq y.name.text) names ≡ false = ap (λ (z : DeclaredObject). list_any (bytes_eq z.name.text) names) same ∙ new in
    let is : bytes_eq o.name.text y.name.text ≡ true = (bytes_eq-Decides o.name.text y.name.text).1 (ap (λ (z : DeclaredObject). z.name.text) (sym same)) in
    (0, rw (named', new', is) refl)
firsts_have names (y ∷ os) (suc j) o at named new = elim (cases_Bool (bytes_eq y.name.text (codes "_") || list_any (bytes_eq y.name.text) names)) [
  | inl out ↦ (let rest = firsts_have names os j o at named new in (rest.0, rw out rest.1))
  | inr taken ↦ elim (cases_Bool (bytes_eq o.name.text y.name.text)) [
    | inl here ↦ (0, rw (taken, here) refl)
    | inr later ↦ (let rest = firsts_have (names ++ y.name.text ∷ []) os j o at named (any_more names y.name.text o.name.text new later) in (suc rest.0, rw (taken, later) (ap (option_map suc) rest.1)))
  ]
]
  where
    any_more : (names : List (List ℕ)) (y x : List ℕ) → list_any (bytes_eq x) names ≡ false → bytes_eq x y ≡ false → list_any (bytes_eq x) (names ++ y ∷ []) ≡ false
    any_more [] y x h k = rw k refl
    any_more (z ∷ names) y x h k = elim (cases_Bool (bytes_eq x z)) [
      | inl is ↦ absurd (let no : true ≡ false = rw is at h in cc (no))
      | inr not_so ↦ rw not_so (any_more names y x (rw not_so at h) k)
    ]

abbrev Got : List DeclaredObject → List ℕ → ℕ → Type 0
Got os x k = (o : DeclaredObject) × (slice_get os k ≡ Some o) × (bytes_eq x o.name.text ≡ true)

behind_got : (o : DeclaredObject) (os : List DeclaredObject) (x : List ℕ) (k : ℕ) (r : Option ℕ) → ((j : ℕ) → r ≡ Some j → Got os x j) → option_map suc r ≡ Some k → Got (o ∷ os) x k
behind_got o os x k None rest e = absurd cc
behind_got o os x k (Some j) rest e =
    let next : suc j ≡ k = some_same (suc j) k e in
    let got = rest j refl in
    (got.0, subst (λ i. slice_get (o ∷ os) i ≡ Some got.0) next got.1, got.2)

number_get : (os : List DeclaredObject) (x : List ℕ) (k : ℕ) → number_of os x ≡ Some k → Got os x k
number_get [] x k h = absurd cc
number_get (o ∷ os) x k h = elim (cases_Bool (bytes_eq x o.name.text)) [
  | inl is ↦ (let zeroth : Some 0 ≡ Some k = rw is at h in let same : 0 ≡ k = some_same 0 k zeroth in (o, subst (λ i. slice_get (o ∷ os) i ≡ Some o) same refl, is))
  | inr not_so ↦ behind_got o os x k (number_of os x) (λ j at. number_get os x j at) (rw not_so at h)
]

known_entry : (known : Names) → AreKnown known → (k : ℕ) (x : List ℕ) (d : Option Declared) → slice_get known k ≡ Some (x, d) → IsKnown d
known_entry [] h k x d at = absurd cc
known_entry ((y, v) ∷ known) h zero x d at = subst IsKnown (pair_second y x v d at) h.0
known_entry (n ∷ known) h (suc k) x d at = known_entry known h.1 k x d at

-- ---- initializations

module _ (packages : List typed.Package) (w : Table) (edition : Edition) (t : Facts) (names : List (List ℕ)) (files : List File) (h : Checked t files) where
  abbrev p : typed.Package
  p = typed_package edition t names files

  abbrev whole : List DeclaredObject
  whole = objects_from 0 files

  abbrev Starts : Initialization → Type 0
  Starts i = IsWellTypedStart packages (sets p.path i)

  abbrev type_of : List ℕ → Option Type'
  type_of x = variable_at packages (package_symbol p x)

  module _ (sound : (file : ℕ) → IsSoundScope w (package_setting packages) [] (scope t file))
      (stored : (k : ℕ) (o : DeclaredObject) (u : Type') (s : Symbol) → slice_get t.package.objects k ≡ Some o → slice_get t.known k ≡ Some (o.name.text, Some (value (global u s))) → type_of o.name.text ≡ Some u) where
    abbrev faults_at : ℕ → Name → Option ℕ → Faults
    faults_at file n o = elim o [
      | None ↦ []
      | Some k ↦ if not (is_declared_by file n (slice_get t.package.objects k)) then (n.place, Redeclared) ∷ []
          else (if is_marked t.recursive k then (n.place, Recursive) ∷ [] else [])
    ]

    no_other : (b : Bool) (n : Name) (rest : Faults) → (if not b then (n.place, Redeclared) ∷ [] else rest) ≡ [] → b ≡ true
    no_other true n rest h = refl
    no_other false n rest h = absurd cc

    declared_so : (file : ℕ) (n : Name) (k : ℕ) → number_of t.package.objects n.text ≡ Some k → name_faults t file n ≡ [] → is_declared_by file n (slice_get t.package.objects k) ≡ true
    declared_so file n k is none =
        no_other (is_declared_by file n (slice_get t.package.objects k)) n (if is_marked t.recursive k then (n.place, Recursive) ∷ [] else []) (subst (λ (o : Option ℕ). faults_at file n o ≡ []) is none)

    abbrev place_by : ℕ → ℕ → Place
    place_by line column = record { line = line; column = column }

    alike : (file : ℕ) (n : Name) (o y : DeclaredObject) → o.file ≡ file → o.name ≡ n → is_declared_by file n (Some y) ≡ true → Alike y o
    alike file n o y at is there =
        let one = and_parts (nat_eq file y.file) (nat_eq n.place.line y.name.place.line && nat_eq n.place.column y.name.place.column) there in
        let two = and_parts (nat_eq n.place.line y.name.place.line) (nat_eq n.place.column y.name.place.column) one.1 in
        let line = eqb-true n.place.line y.name.place.line two.0 in
        let column = eqb-true n.place.column y.name.place.column two.1 in
        let place : n.place ≡ y.name.place = ap (λ l. place_by l n.place.column) line ∙ ap (λ c. place_by y.name.place.line c) column in
        (sym (eqb-true file y.file one.0) ∙ sym at, sym place ∙ ap (λ (m : Name). m.place) (sym is))

    -- a variable's type is what its own object declares
    named_type : (file : ℕ) (n : Name) (v : Type') (o : DeclaredObject) → bytes_eq n.text (codes "_") ≡ false → Declares t file n v o → IsOnly whole o → name_faults t file n ≡ [] → type_of n.text ≡ Some v
    named_type file n v o named its only none =
        let text : o.name.text ≡ n.text = ap (λ (m : Name). m.text) its.1 in
        let first = firsts_have [] whole (only.0).0 o (only.0).1 (ap (λ x. bytes_eq x (codes "_")) text ∙ named) refl in
        let k = first.0 in
        let number : number_of t.package.objects n.text ≡ Some k = ap (λ os. number_of os n.text) h.objects ∙ ap (number_of (objects_of files)) (sym text) ∙ first.1 in
        let there = number_get t.package.objects n.text k number in
        let y = there.0 in
        let by : is_declared_by file n (Some y) ≡ true = ap (is_declared_by file n) (sym there.1) ∙ declared_so file n k number none in
        let at_first : slice_get (firsts [] whole) k ≡ Some y = ap (λ os. slice_get os k) (sym h.objects) ∙ there.1 in
        let same : y ≡ o = all_at (λ (z : DeclaredObject). Alike z o → z ≡ o) (firsts [] whole) k y (all_firsts (λ (z : DeclaredObject). Alike z o → z ≡ o) [] whole only.1) at_first (alike file n o y its.0 its.1 by) in
        let entry = h.told.table.grounded k y there.1 (h.told.grounded k) in
        let some = known_entry t.known h.all k y.name.text (declared_in (fine (object_verdict t.package t.known y))) entry in
        let e = some.0 in
        let verdict = known_is (object_verdict t.package t.known y) e some.1 in
        let declares : form_verdict (scope_at t.package t.known o.file (iota_in o.form)) (package_symbol p o.name.text) o.form ≡ Fine (known_declared e) = subst (λ (z : DeclaredObject). object_verdict t.package t.known z ≡ Fine (known_declared e)) same verdict in
        let is = its.2 (package_symbol p o.name.text) e declares in
        let stands : slice_get t.known k ≡ Some (y.name.text, Some (value (global v (package_symbol p o.name.text)))) = entry ∙ ap (λ d. Some (y.name.text, d)) (some.1 ∙ ap Some is) in
        let name : n.text ≡ y.name.text = (bytes_eq-Decides n.text y.name.text).0 there.2 in
        ap type_of name ∙ stored k y v (package_symbol p o.name.text) there.1 stands

    given_one : (file : ℕ) (n : Name) (v u : Type') (o : DeclaredObject) → Declares t file n v o → IsOnly whole o → name_faults t file n ≡ [] → Suits u v → (os : List (Option (List ℕ))) (ts : List Type') → AreGiven type_of os ts → AreGiven type_of (own_name n ∷ os) (u ∷ ts)
    given_one file n v u o its only none suits os ts rest = elim (cases_Bool (bytes_eq n.text (codes "_"))) [
      | inl blank ↦ rw blank rest
      | inr named ↦ (let is = named_type file n v o named its only none in rw named ((v, is, suits), rest))
    ]

    -- the variables of one call
    all_given : (file : ℕ) (ns : List Name) (vs ts : List Type') (os : List DeclaredObject) → Fitting w [] ns vs ts → AllDeclare t file ns vs os → AllIn (IsOnly whole) os → flat_map (name_faults t file) ns ≡ [] → AreGiven type_of (map own_name ns) ts
    all_given file [] [] [] os fit its only none = tt
    all_given file [] [] (u ∷ ts) os fit its only none = absurd fit
    all_given file [] (v ∷ vs) ts os fit its only none = absurd fit
    all_given file (n ∷ ns) [] ts os fit its only none = absurd fit
    all_given file (n ∷ ns) (v ∷ vs) [] os fit its only none = absurd fit
    all_given file (n ∷ ns) (v ∷ vs) (u ∷ ts) [] fit its only none = absurd its
    all_given file (n ∷ ns) (v ∷ vs) (u ∷ ts) (o ∷ os) fit its only none =
        let both = both_none (name_faults t file n) (flat_map (name_faults t file) ns) none in
        given_one file n v u o its.0 only.0 both.0 fit.0 (map own_name ns) ts (all_given file ns vs ts os fit.2 its.1 only.1 both.1)

    -- each with its own value
    each_given : (file : ℕ) (ns : List Name) (asts : source.ExpressionList) (es : typed.Exprs) (vs : List Type') (os : List DeclaredObject) → AreWellTypedExprs (package_setting packages) [] es → Fitting w [] ns vs (exprs_types es) → AllDeclare t file ns vs os → AllIn (IsOnly whole) os
        → flat_map (name_faults t file) ns ≡ [] → All Starts (each_alone t names file ns asts es)
    each_given file (n ∷ ns) (source.some_exprs v asts) (typed.some_exprs e es) (u ∷ vs) (o ∷ os) exprs fit its only none =
        let both = both_none (name_faults t file n) (flat_map (name_faults t file) ns) none in
        let given = given_one file n u (expr_type e) o its.0 only.0 both.0 fit.0 [] [] tt in
        All-cons Starts (alone t names file n v e) (each_alone t names file ns asts es) ((exprs.0, tt), given) (each_given file ns asts es vs os exprs.1 fit.2 its.1 only.1 both.1)
    each_given file [] asts es vs os exprs fit its only none = All-nil Starts
    each_given file (n ∷ ns) source.no_exprs es vs os exprs fit its only none = All-nil Starts
    each_given file (n ∷ ns) (source.some_exprs v asts) typed.no_exprs vs os exprs fit its only none = All-nil Starts
    each_given file (n ∷ ns) (source.some_exprs v asts) (typed.some_exprs e es) [] os exprs fit its only none = absurd its
    each_given file (n ∷ ns) (source.some_exprs v asts) (typed.some_exprs e es) (u ∷ vs) [] exprs fit its only none = absurd its

    fit_counted : (ns : List Name) (vs ts : List Type') → Fitting w [] ns vs ts → length ns ≡ length vs
    fit_counted [] [] [] h = refl
    fit_counted (n ∷ ns) (v ∷ vs) (t ∷ ts) h = ap suc (fit_counted ns vs ts h.2)
    fit_counted ns vs ts h = absurd h

    written_same : (s : Scope) (ty : Option TypeExpr) → (written_at s ty nothing).known ≡ written_type s ty
    written_same s None = refl
    written_same s (Some a) = refl

    by_source : (file : ℕ) (spec : VarSpec) (vs : List Type') (o : ValueSource) → variable_types (scope t file) spec ≡ map Some vs → IsWellTypedSource (package_setting packages) [] o → Fitting w [] spec.names vs (source_types o) → AllIn (IsOnly whole) (variables_of file spec)
        → flat_map (name_faults t file) spec.names ≡ [] → All Starts (initializations_by t names file spec (Some o))
    by_source file spec vs (zeros ts) own is fit only none = All-nil Starts
    by_source file spec vs (each es) own is fit only none =
        each_given file spec.names spec.values es vs (variables_of file spec) is fit (spec_declare t file spec.names spec.type spec.values vs own (fit_counted spec.names vs (exprs_types es) fit)) only none
    by_source file spec vs (results ts f es) own is fit only none =
        let its = spec_declare t file spec.names spec.type spec.values vs own (fit_counted spec.names vs ts fit) in
        All-cons Starts (together t names file spec (results ts f es)) [] (is, all_given file spec.names vs ts (variables_of file spec) fit its only none) (All-nil Starts)

    names_none : (file : ℕ) (ns : List Name) (ty : Option TypeExpr) (es : source.ExpressionList) → var_spec_faults t file (record { names = ns; type = ty; values = es }) ≡ [] → flat_map (name_faults t file) ns ≡ []
    names_none file [] ty es none = refl
    names_none file (n ∷ ns) ty es none = (both_none (flat_map (name_faults t file) (n ∷ ns)) _ none).0

    spec_starts : (file : ℕ) (spec : VarSpec) → WrittenHasTexts spec.type → HaveTexts spec.values → var_spec_faults t file spec ≡ [] → AllIn (IsOnly whole) (variables_of file spec)
        → (o : Option ValueSource) → fine (asked_both (variables_source spec.names) (written_type (scope t file) spec.type) (values_known (scope t file) spec.values)) ≡ o → All Starts (initializations_by t names file spec o)
    spec_starts file spec texts more none only None is = All-nil Starts
    spec_starts file spec texts more none only (Some o) is =
        let s = scope t file in
        let rule = asked_both (variables_source spec.names) (written_type s spec.type) (values_known s spec.values) in
        let parts = both_asked (variables_source spec.names) (written_type s spec.type) (values_known s spec.values) o (fine_is rule o is) in
        let made = made_by expected w (package_setting packages) [] s spec nothing parts.0 parts.1 o (sound file) texts more (written_same s spec.type ∙ parts.2) parts.3 parts.4 in
        by_source file spec made.0 o made.1 made.2 made.3 only (names_none file spec.names spec.type spec.values none)

    specs_start : (file : ℕ) (ss : List VarSpec) → VariablesHaveTexts ss → flat_map (var_spec_faults t file) ss ≡ [] → AllIn (IsOnly whole) (flat_map (variables_of file) ss) → All Starts (flat_map (spec_initializations t names file) ss)
    specs_start file [] texts none only = All-nil Starts
    specs_start file (s ∷ ss) texts none only =
        let both = both_none (var_spec_faults t file s) (flat_map (var_spec_faults t file) ss) none in
        All-append Starts (spec_initializations t names file s) (flat_map (spec_initializations t names file) ss)
        (spec_starts file s texts.0 texts.1 both.0 (all_front (IsOnly whole) (variables_of file s) (flat_map (variables_of file) ss) only)
        (fine (asked_both (variables_source s.names) (written_type (scope t file) s.type) (values_known (scope t file) s.values))) refl)
        (specs_start file ss texts.2 both.1 (all_behind (IsOnly whole) (variables_of file s) (flat_map (variables_of file) ss) only))

    tops_start : (file : ℕ) (tops : List TopLevel) → TopsHaveTexts tops → flat_map (top_faults t file) tops ≡ [] → AllIn (IsOnly whole) (flat_map (objects_in file) tops) → All Starts (flat_map (top_initializations t names file) tops)
    tops_start file [] texts none only = All-nil Starts
    tops_start file (declared (variables q ss) ∷ tops) texts none only =
        let both = both_none (flat_map (var_spec_faults t file) ss) (flat_map (top_faults t file) tops) none in
        All-append Starts (flat_map (spec_initializations t names file) ss) (flat_map (top_initializations t names file) tops)
        (specs_start file ss texts.0 both.0 (all_front (IsOnly whole) (flat_map (variables_of file) ss) (flat_map (objects_in file) tops) only))
        (tops_start file tops texts.1 both.1 (all_behind (IsOnly whole) (flat_map (variables_of file) ss) (flat_map (objects_in file) tops) only))
    tops_start file (declared (constants q ss) ∷ tops) texts none only =
        tops_start file tops texts.1 (both_none (top_faults t file (declared (constants q ss))) (flat_map (top_faults t file) tops) none).1
        (all_behind (IsOnly whole) (objects_in file (declared (constants q ss))) (flat_map (objects_in file) tops) only)
    tops_start file (declared (types q ss) ∷ tops) texts none only =
        tops_start file tops texts.1 (both_none (top_faults t file (declared (types q ss))) (flat_map (top_faults t file) tops) none).1
        (all_behind (IsOnly whole) (objects_in file (declared (types q ss))) (flat_map (objects_in file) tops) only)
    tops_start file (function f ∷ tops) texts none only =
        tops_start file tops texts.1 (both_none (top_faults t file (function f)) (flat_map (top_faults t file) tops) none).1
        (all_behind (IsOnly whole) (objects_in file (function f)) (flat_map (objects_in file) tops) only)

    files_start : (number : ℕ) (fs : List File) → FilesHaveTexts fs → files_faults t number fs ≡ [] → AllIn (IsOnly whole) (objects_from number fs) → All Starts (of_files (top_initializations t names) number fs)
    files_start number [] texts none only = All-nil Starts
    files_start number (f ∷ fs) texts none only =
        let own = flat_map (top_faults t number) f.declarations in
        let both = both_none (map (λ x. (number, x)) own) (files_faults t (suc number) fs) none in
        let objects = flat_map (objects_in number) f.declarations in
        All-append Starts (flat_map (top_initializations t names number) f.declarations) (of_files (top_initializations t names) (suc number) fs)
        (tops_start number f.declarations texts.0 (unmapped (λ x. (number, x)) own both.0) (all_front (IsOnly whole) objects (objects_from (suc number) fs) only))
        (files_start (suc number) fs texts.1 both.1 (all_behind (IsOnly whole) objects (objects_from (suc number) fs) only))

    one_all : {A : Type 0} (P : A → Type 0) (xs : List A) → All P xs → (x : A) → IsOneOf x xs → P x
    one_all P [] all x one = absurd one
    one_all P (y ∷ ys) all x (inl same) = subst P (sym same) (All-head P y ys all)
    one_all P (y ∷ ys) all x (inr one) = one_all P ys (All-tail P y ys all) x one

    -- in their order
    pub initial_start : All (IsWellTypedStart packages) (map (sets p.path) (variable_order p).0)
    initial_start =
        let all = files_start 0 files h.texts h.none (only_there files h.apart) in
        let turns = turns_are (depends p) (length p.initializations) p.initializations in
        All-map (IsWellTypedStart packages) (sets p.path) (variable_order p).0 (all_of Starts (variable_order p).0 (λ i one. one_all Starts p.initializations all i (turns.within i one)))
