-- Declarations of constants: their names stand for constants of their types.
use Rattle.std.proofs.Common.{◌≡◌, ℕ, suc, Bool, true, false, Option, Some, None, List, [], ◌∷◌, length, refl, sym, ap, subst, ◌∙◌, ◌⊎◌, inl, inr, true≢false, append-nil}
use Rattle.std.specs.Prelude.{nat_eq}
use Rattle.std.specs.List.{list_all}
use Rattle.std.proofs.lemmas.Bool.{cases_Bool}
use Rattle.go_text.specs.declared.place.Place.{Place}
use Rattle.go_text.specs.declared.fault.FaultKind.TheVariants.{Mismatch, Count}
use Rattle.go_ast.specs.Trees as source
use Rattle.go_ast.specs.Trees.{Name, TypeExpr, ConstSpec, Decl, constants, variables, types}
use Rattle.go_const.specs.declared.constant.Const.{Const}
use Rattle.go_types.specs.Types.{Type'}
use Rattle.go_typed.specs.Trees.{Expr, constant, ValueSource, each, no_exprs, Stmt, define}
use Rattle.go_meaning_laws.specs.WellTyped.{Setting, IsConstant}
use Rattle.go_expr.specs.Known.{Declared, Scope, Fine, Breaks}
use Rattle.go_expr.specs.Rules.{fine, checked, assigned}
use Rattle.go_expr.specs.Verdicts.{asked, both, operand, verdict, type_verdict}
use Rattle.go_scope.specs.Scopes.{is_blank}
use Rattle.go_stmt.specs.Scopes.{StatementEnv, Context, scope_in, paired_names, declare_name, Checked, follow, map_checked}
use Rattle.go_stmt.specs.Rules.{is_constant, constants_source, constants_verdict}
use Rattle.go_scope.specs.Specifications.{meant, is_repeated}
use Rattle.go_stmt.specs.Statements.{each_of, names_at, place_of_first, declared_as, declared_constant, declare_constants, spec_at, constants_at, group_at, declaration_at, one_block}
use Rattle.go_package_laws.proofs.Soundness.{Table, IsSoundType, IsUntypedConstant, IsSoundValue}
use Rattle.go_package_laws.proofs.SoundNames.{IsSoundScope}
use Rattle.go_package_laws.proofs.Texts.{HasTexts, HaveTexts, TypeHasTexts}
use Rattle.go_package_laws.proofs.BodyTexts.{WrittenHasTexts, ConstantsHaveTexts, DeclHasTexts}
use Rattle.go_package_laws.proofs.Expected.{Expected}
use Rattle.go_package_laws.proofs.Related.{IsSoundName, Related, Grows, grows_none, grows_on, Sure, sure_seen}
use Rattle.go_package_laws.proofs.Values.{checked_part}
use Rattle.go_package_laws.proofs.Numbered.{Outside, scope_sound, more_names}
use Rattle.go_package_laws.proofs.Lists.{behind, AreList, sure_none, sure_appended}
use Rattle.go_package_laws.proofs.Leaves.{fine_is}
use Rattle.go_package_laws.proofs.Declares.{specs_sure}

declare_grows : (x : List ℕ) (o : Option Declared) (env : StatementEnv) → Grows env (declare_name x o env)
declare_grows x o env = elim (cases_Bool (is_blank x)) [ inl is ↦ rw is (refl, ([], append-nil env.types)) | inr not_so ↦ rw not_so (refl, ([], append-nil env.types)) ]

constants_grow : (ns : List (Name × Option Declared)) (env : StatementEnv) → Grows env (declare_constants ns env)
constants_grow [] env = grows_none env
constants_grow ((n, o) ∷ ns) env = grows_on env (declare_name n.text o env) (declare_constants ns (declare_name n.text o env)) (declare_grows n.text o env) (constants_grow ns (declare_name n.text o env))

-- what a constant declaration means is nothing
none_done : (ns : List Name) (t : Option Type') (es : List Expr) (y : Stmt) (a b : Bool) → list_all is_constant es ≡ a → nat_eq (length ns) (length es) ≡ b → constants_verdict ns t es ≡ Fine y → define [] (each no_exprs) ≡ y
none_done ns t es y false b p q h = absurd (let r : constants_verdict ns t es ≡ Breaks Mismatch = rw p refl in cc)
none_done ns t es y true false p q h = absurd (let r : constants_verdict ns t es ≡ Breaks Count = rw (p, q) refl in cc)
none_done ns t es y true true p q h =
    let r : constants_verdict ns t es ≡ checked (λ (s : ValueSource). Fine (define [] (each no_exprs))) (constants_source ns t es) = rw (p, q) refl in
    let part = checked_part (λ (s : ValueSource). Fine (define [] (each no_exprs))) (constants_source ns t es) y (sym r ∙ h) in
    let same : Fine (define [] (each no_exprs)) ≡ Fine y = part.2 in
    cc

nothing_done : (ns : List Name) (o : Option (List Name × (Option Type' × List Expr))) (y : List Stmt)
    → fine (asked (λ (k : List Name × (Option Type' × List Expr)). checked (λ s. Fine (s ∷ [])) (constants_verdict ns (k.1).0 (k.1).1)) o) ≡ Some y → define [] (each no_exprs) ∷ [] ≡ y
nothing_done ns None y h = absurd cc
nothing_done ns (Some k) y h =
    let v = constants_verdict ns (k.1).0 (k.1).1 in
    let part = checked_part (λ s. Fine (s ∷ [])) v y (fine_is (checked (λ s. Fine (s ∷ [])) v) y h) in
    let made = none_done ns (k.1).0 (k.1).1 part.0 (list_all is_constant (k.1).1) (nat_eq (length ns) (length (k.1).1)) refl refl part.1 in
    let same : Fine (part.0 ∷ []) ≡ Fine y = part.2 in
    let listed : part.0 ∷ [] ≡ y = cc in
    ap (λ s. s ∷ []) made ∙ listed

module _ (x : Expected) (w : Table) (g : Setting) where
  declare_related : (d : List ℕ) (n : List ℕ) (o : Option Declared) (env : StatementEnv) → IsSoundName w g.locals d o → Related w g.locals env d → Related w g.locals (declare_name n o env) d
  declare_related d n o env h r = elim (cases_Bool (is_blank n)) [
    | inl is ↦ rw is r
    | inr named ↦ rw named (more_names w g.locals d env.names.inner ((n, o) ∷ []) r.0 (named, h, tt), r.1, r.2)
  ]

  abbrev SoundEach : List ℕ → List (Option Declared) → Type 0
  SoundEach d [] = Unit {0}
  SoundEach d (o ∷ os) = IsSoundName w g.locals d o × SoundEach d os

  all_declared : (d : List ℕ) (ns : List Name) (os : List (Option Declared)) (env : StatementEnv) → SoundEach d os → Related w g.locals env d → Related w g.locals (declare_constants (paired_names ns os) env) d
  all_declared d [] os env h r = r
  all_declared d (n ∷ ns) [] env h r = all_declared d ns [] (declare_name n.text None env) tt (declare_related d n.text None env tt r)
  all_declared d (n ∷ ns) (o ∷ os) env h r = all_declared d ns os (declare_name n.text o env) h.1 (declare_related d n.text o env h.0 r)

  -- a constant without a type, or one of the type that is written
  constant_value : (d : List ℕ) (t : Type') (c : Const) → IsSoundValue w g d (constant t c) → IsUntypedConstant (constant t c) ⊎ (IsConstant t c × IsSoundType w t)
  constant_value d t c (inl h) = inl h
  constant_value d t c (inr (inl h)) = inr (h.0, h.1)
  constant_value d t c (inr (inr h)) = absurd (true≢false (sym h.2))

  declared_sound : (d : List ℕ) (o : Option Expr) → ((e : Expr) → o ≡ Some e → IsSoundValue w g d e) → IsSoundName w g.locals d (declared_as o)
  declared_sound d None h = tt
  declared_sound d (Some (constant t c)) h = constant_value d t c (h (constant t c) refl)
  declared_sound d (Some e) h = tt

  typed_constant : (d : List ℕ) (s : Scope) → IsSoundScope w g d s → (t : TypeExpr) → TypeHasTexts t → (e : source.Expression) → HasTexts e → (u : Option Type') (v : Option Expr) → fine (type_verdict s t) ≡ u → operand (verdict s e) ≡ v
      → (y : Expr) → fine (asked (λ (k : Type' × Expr). assigned k.0 k.1) (both u v)) ≡ Some y → IsSoundValue w g d y
  typed_constant d s h t texts e more None v at is y made = absurd cc
  typed_constant d s h t texts e more (Some u) None at is y made = absurd cc
  typed_constant d s h t texts e more (Some u) (Some v) at is y made =
      let sound = x.sound_type w g d s t h texts u (fine_is (type_verdict s t) u at) in
      let r = x.sound_assigned w g d u v sound (x.sound_operand w g d s e h more v is) y (fine_is (assigned u v) y made) in
      inr (inl (r.0, subst (IsSoundType w) (sym r.1) sound, r.2))

  each_sound : (d : List ℕ) (s : Scope) → IsSoundScope w g d s → (t : Option TypeExpr) → WrittenHasTexts t → (es : source.ExpressionList) → HaveTexts es → SoundEach d (each_of (declared_constant s t) es)
  each_sound d s h t texts source.no_exprs more = tt
  each_sound d s h None texts (source.some_exprs e es) more =
      (declared_sound d (operand (verdict s e)) (λ y at. x.sound_operand w g d s e h more.0 y at), each_sound d s h None texts es more.1)
  each_sound d s h (Some t) texts (source.some_exprs e es) more = (
    declared_sound d (fine (asked (λ (k : Type' × Expr). assigned k.0 k.1) (both (fine (type_verdict s t)) (operand (verdict s e)))))
        (λ y at. typed_constant d s h t texts e more.0 (fine (type_verdict s t)) (operand (verdict s e)) refl refl y at),
    each_sound d s h (Some t) texts es more.1,
  )

  constants_sure : (c : Context) → Outside w g c → (p : Place) (iota : ℕ) (repeated : Bool) (spec : ConstSpec) → WrittenHasTexts spec.type → HaveTexts spec.values → Sure w g.locals behind (AreList w g) (constants_at c p iota repeated spec)
  constants_sure c out p iota repeated spec texts more env =
      let s = scope_in c (Some iota) env in
      let names = paired_names spec.names (each_of (declared_constant s spec.type) spec.values) in
      let first = place_of_first p spec.names in
      let parts = follow (names_at spec.names) (spec_at s first repeated spec) in (
        constants_grow names env,
        λ d r lies none y is. (
            let sound = each_sound d s (scope_sound w g c out env d r (Some iota)) spec.type texts spec.values more in
            let there = all_declared d spec.names (each_of (declared_constant s spec.type) spec.values) env sound r in
            let made = nothing_done spec.names (parts env).known y is in
            subst (λ (ss : List Stmt). AreList w g d ss × Related w g.locals (declare_constants names env) (behind d ss)) made (((tt, tt), tt), there)
            ),
      )

  meant_texts : (before s : ConstSpec) → WrittenHasTexts before.type → HaveTexts before.values → WrittenHasTexts s.type → HaveTexts s.values → WrittenHasTexts (meant before s).type × HaveTexts (meant before s).values
  meant_texts before s a b c e = elim s.values as (λ v. s.values ≡ v → HaveTexts v → WrittenHasTexts (meant before s).type × HaveTexts (meant before s).values) [
    | source.no_exprs ↦ λ at k. rw (at, meant) (a, b)
    | source.some_exprs f fs ↦ λ at k. rw (at, meant) (c, e)
  ] refl e

  group_sure : (c : Context) → Outside w g c → (p : Place) (iota : ℕ) (before : ConstSpec) → WrittenHasTexts before.type → HaveTexts before.values → (ss : List ConstSpec) → ConstantsHaveTexts ss → Sure w g.locals behind (AreList w g) (group_at c p iota before ss)
  group_sure c out p iota before a b [] texts = sure_none w g
  group_sure c out p iota before a b (s ∷ ss) texts =
      let m = meant before s in
      let k = meant_texts before s a b texts.0 texts.1 in
      sure_appended w g (constants_at c p iota (is_repeated s) m) (group_at c p (suc iota) m ss) (constants_sure c out p iota (is_repeated s) m k.0 k.1) (group_sure c out p (suc iota) m k.0 k.1 ss texts.2)

  -- a declaration, whose names stay in scope
  pub declaration_sure : (c : Context) → Outside w g c → (d : Decl) → DeclHasTexts d → Sure w g.locals behind (AreList w g) (declaration_at c d)
  declaration_sure c out (constants p ss) texts = group_sure c out p 0 (record { names = []; type = None; values = source.no_exprs }) tt tt ss texts
  declaration_sure c out (variables p ss) texts = specs_sure x w g c out p ss texts
  declaration_sure c out (types p ss) texts = λ env. (grows_none env, λ d r lies none y is. absurd (let h : None ≡ Some y = is in cc))

  pub block_of_list : (form : StatementEnv → Checked (List Stmt)) → Sure w g.locals behind (AreList w g) form → Sure w g.locals behind (AreList w g) (map_checked one_block form)
  block_of_list form h = sure_seen w g.locals behind (AreList w g) behind (AreList w g) one_block form (λ d x p. ((p, tt), refl)) h
