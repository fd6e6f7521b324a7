-- Calls of sound arguments are sound.
use Rattle.std.proofs.Common.{◌≡◌, ℕ, Bool, true, false, ◌||◌, List, [], ◌∷◌, ◌++◌, map, length, refl, ap, sym, ◌∙◌, subst, arith, inl, inr}
use Rattle.std.specs.Prelude.{if◌then◌else◌, nat_eq}
use Rattle.std.specs.List.{filter_map, flat_map, zip}
use Rattle.std.proofs.lemmas.Bool.{eqb-true}
use Rattle.go_text.specs.declared.fault.FaultKind.TheVariants.{Assign, Count, Range}
use Rattle.go_types.specs.Types.{Type'}
use Rattle.go_types.specs.Relations.{underlying, assignable}
use Rattle.go_typed.specs.Trees.{Symbol, Expr, expr_type, pack_exprs}
use Rattle.go_meaning_laws.specs.WellTyped.{Setting, is_string_type, exprs_types, IsCall, IsExpr, AreWellTypedExprs}
use Rattle.go_expr.specs.Known.{value, type', function, println, length', capacity', make', append', panic', Known, declared, package', results, printed, panicked, Verdict, Fine, Breaks, Passed}
use Rattle.go_expr.specs.Rules as rules
use Rattle.go_expr.specs.Rules.{fine, checked, valued, wrong, fine_list, printing, lies_in, as_type, assigned, default_type, defaulted, value_due, string, converted, length_of, capacity_of, append_verdict, one, function_call, printable, called}
use Rattle.go_package_laws.proofs.Soundness.{Table, AreSoundTypes, IsSoundValue, IsSoundDeclared}
use Rattle.go_package_laws.proofs.SoundNames.{IsSoundKnown}
use Rattle.go_package_laws.proofs.Assigned.{Gives, GoodAs, assigned_gives, defaulted_gives}
use Rattle.go_package_laws.proofs.Operators.{converted_gives}
use Rattle.go_package_laws.proofs.Selections.{length_gives, capacity_gives}
use Rattle.go_package_laws.proofs.Binary.{checked_gives}
use Rattle.go_package_laws.proofs.Literals.{Every, each_gives}
use Rattle.go_package_laws.proofs.Slices.{appended_gives}

module _ (w : Table) (g : Setting) (d : List ℕ) where
  pub valued_gives : (v : Verdict Expr) → Gives (IsSoundValue w g d) v → Gives (IsSoundKnown w g d) (valued v)
  valued_gives (Fine e) h = h
  valued_gives (Breaks kind) h = tt
  valued_gives Passed h = tt

  pub value_due_gives : (k : Known) → IsSoundKnown w g d k → Gives (IsSoundValue w g d) (value_due k)
  value_due_gives (declared (value e)) h = h
  value_due_gives (declared k) h = tt
  value_due_gives k h = tt

  pub one_gives : (xs : List Expr) → Every (IsSoundValue w g d) xs → Gives (IsSoundValue w g d) (one xs)
  one_gives [] h = tt
  one_gives (x ∷ []) h = h.0
  one_gives (x ∷ y ∷ xs) h = tt

  -- ---- arguments: https://go.dev/ref/spec#Calls

  -- values of these types
  abbrev pub AreGood : List Type' → List Expr → Type 0
  AreGood ts ys = AreWellTypedExprs g d (pack_exprs ys) × (exprs_types (pack_exprs ys) ≡ ts)

  -- what is assigned is told or given
  assigned_told : (t : Type') (e : Expr) (a b : Bool) → assignable (expr_type e) t ≡ a → lies_in t e ≡ b → assigned t e ≡ Passed → ⊥
  assigned_told t e false b p q h = (let is : assigned t e ≡ Breaks Assign = rw p refl in let wrong : Breaks Assign ≡ Passed = sym is ∙ h in cc)
  assigned_told t e true false p q h = (let is : assigned t e ≡ Breaks Range = rw (p, q) refl in let wrong : Breaks Range ≡ Passed = sym is ∙ h in cc)
  assigned_told t e true true p q h = (let is : assigned t e ≡ Fine (as_type t e) = rw (p, q) refl in let wrong : Fine (as_type t e) ≡ Passed = sym is ∙ h in cc)

  good_front : (t : Type') (ts : List Type') (y : Expr) (ys : List Expr) → GoodAs w g d t y → AreGood ts ys → AreGood (t ∷ ts) (y ∷ ys)
  good_front t ts y ys h k = ((h.0, k.0), ap (λ u. u ∷ exprs_types (pack_exprs ys)) h.1 ∙ ap (λ us. t ∷ us) k.1)

  argument : (t : Type') (ts : List Type') (x : Expr) (vs : List (Verdict Expr)) (v : Verdict Expr) → assigned t x ≡ v → Gives (GoodAs w g d t) v
      → wrong v ++ flat_map wrong vs ≡ [] → (flat_map wrong vs ≡ [] → AreGood ts (filter_map fine vs)) → AreGood (t ∷ ts) (filter_map fine (v ∷ vs))
  argument t ts x vs (Fine y) at h none rest = good_front t ts y (filter_map fine vs) h (rest none)
  argument t ts x vs (Breaks kind) at h none rest = cc
  argument t ts x vs Passed at h none rest = absurd (assigned_told t x (assignable (expr_type x) t) (lies_in t x) refl refl at)

  arguments : (ts : List Type') (xs : List Expr) → length ts ≡ length xs → AreSoundTypes w ts → Every (IsSoundValue w g d) xs
      → flat_map wrong (map (λ k. assigned k.0 k.1) (zip ts xs)) ≡ [] → AreGood ts (filter_map fine (map (λ k. assigned k.0 k.1) (zip ts xs)))
  arguments [] xs same h k none = (tt, refl)
  arguments (t ∷ ts) [] same h k none = absurd (omega (arith, same))
  arguments (t ∷ ts) (x ∷ xs) same h k none =
      argument t ts x (map (λ k. assigned k.0 k.1) (zip ts xs)) (assigned t x) refl (assigned_gives w g d t x h.0 k.0) none (λ rest. arguments ts xs (omega (arith, same)) h.1 k.1 rest)

  call_known : (s : Symbol) (ts rs : List Type') (ys : List Expr) → IsCall g s ts rs → AreSoundTypes w rs → AreGood ts ys → IsSoundKnown w g d (function_call s rs ys)
  call_known s ts (r ∷ []) ys h k good = inr (inl ((good.0, subst (λ us. IsCall g s us (r ∷ [])) (sym good.1) h), k.0, tt))
  call_known s ts [] ys h k good = (good.0, subst (λ us. IsCall g s us []) (sym good.1) h, k)
  call_known s ts (r ∷ q ∷ rs) ys h k good = (good.0, subst (λ us. IsCall g s us (r ∷ q ∷ rs)) (sym good.1) h, k)

  function_if : (s : Symbol) (ts rs : List Type') (xs : List Expr) → IsSoundDeclared w g d (function s ts rs) → Every (IsSoundValue w g d) xs → (b : Bool) → nat_eq (length ts) (length xs) ≡ b
      → Gives (IsSoundKnown w g d) (if b then checked (λ ys. Fine (function_call s rs ys)) (fine_list [] (map (λ k. assigned k.0 k.1) (zip ts xs))) else Breaks Count)
  function_if s ts rs xs h k false is = tt
  function_if s ts rs xs h k true is =
      let vs = map (λ k. assigned k.0 k.1) (zip ts xs) in
      checked_gives (AreGood ts) (IsSoundKnown w g d) (λ ys. Fine (function_call s rs ys)) (fine_list [] vs)
      (each_gives (AreGood ts) [] vs (λ none sure. arguments ts xs (eqb-true (length ts) (length xs) is) h.1 k sure))
      (λ ys good. call_known s ts rs ys h.0 h.2 good)

  -- ---- Println and panic

  abbrev IsGood : Expr → Type 0
  IsGood x = IsExpr g d x

  good_only : (t : Type') (v : Verdict Expr) → Gives (GoodAs w g d t) v → Gives IsGood v
  good_only t (Fine x) h = h.0
  good_only t (Breaks kind) h = tt
  good_only t Passed h = tt

  printable_if : (e : Expr) → IsSoundValue w g d e → (b : Bool) → (rules.is_integer (expr_type e) || rules.is_string (expr_type e) || rules.is_bool (expr_type e)) ≡ b → Gives IsGood (printable e)
  printable_if e h false is = rw is tt
  printable_if e h true is = rw is (good_only (default_type (expr_type e)) (defaulted e) (defaulted_gives w g d e h))

  printable_gives : (e : Expr) → IsSoundValue w g d e → Gives IsGood (printable e)
  printable_gives e h = printable_if e h (rules.is_integer (expr_type e) || rules.is_string (expr_type e) || rules.is_bool (expr_type e)) refl

  printables : (xs : List Expr) → Every (IsSoundValue w g d) xs → AreWellTypedExprs g d (pack_exprs (filter_map fine (map printable xs)))
  printables [] h = tt
  printables (x ∷ xs) h = printed_front (printable x) (map printable xs) (printable_gives x h.0) (printables xs h.1)
    where
      printed_front : (v : Verdict Expr) (vs : List (Verdict Expr)) → Gives IsGood v → AreWellTypedExprs g d (pack_exprs (filter_map fine vs)) → AreWellTypedExprs g d (pack_exprs (filter_map fine (v ∷ vs)))
      printed_front (Fine y) vs h k = (h, k)
      printed_front (Breaks kind) vs h k = k
      printed_front Passed vs h k = k

  printing_gives : (v : Verdict (List Expr)) → Gives (λ ys. AreWellTypedExprs g d (pack_exprs ys)) v → Gives (IsSoundKnown w g d) (printing v)
  printing_gives (Fine ys) h = h
  printing_gives (Breaks kind) h = tt
  printing_gives Passed h = tt

  pub called_gives : (k : Known) (xs : List Expr) → IsSoundKnown w g d k → Every (IsSoundValue w g d) xs → Gives (IsSoundKnown w g d) (called k xs)
  called_gives (declared (type' t)) xs h k =
      valued_gives (checked (converted t) (one xs)) (checked_gives (IsSoundValue w g d) (IsSoundValue w g d) (converted t) (one xs) (one_gives xs k) (λ x good. converted_gives w g d t x h good))
  called_gives (declared (function s ts rs)) xs h k = function_if s ts rs xs h k (nat_eq (length ts) (length xs)) refl
  called_gives (declared println) xs h k =
      printing_gives (fine_list [] (map printable xs)) (each_gives (λ ys. AreWellTypedExprs g d (pack_exprs ys)) [] (map printable xs) (λ none sure. printables xs k))
  called_gives (declared length') xs h k =
      valued_gives (checked length_of (one xs)) (checked_gives (IsSoundValue w g d) (IsSoundValue w g d) length_of (one xs) (one_gives xs k) (λ x good. length_gives w g d x good))
  called_gives (declared capacity') xs h k =
      valued_gives (checked capacity_of (one xs)) (checked_gives (IsSoundValue w g d) (IsSoundValue w g d) capacity_of (one xs) (one_gives xs k) (λ x good. capacity_gives w g d x good))
  called_gives (declared make') xs h k = tt
  called_gives (declared append') xs h k = valued_gives (append_verdict xs) (appended_gives w g d xs k)
  called_gives (declared panic') xs h k =
      checked_gives (GoodAs w g d string) (IsSoundKnown w g d) (λ y. Fine (panicked y)) (checked (assigned string) (one xs))
      (checked_gives (IsSoundValue w g d) (GoodAs w g d string) (assigned string) (one xs) (one_gives xs k) (λ x good. assigned_gives w g d string x refl good))
      (λ y good. (good.0, ap (λ u. is_string_type (underlying u)) good.1))
  called_gives (declared (value e)) xs h k = tt
  called_gives (package' names) xs h k = tt
  called_gives (results ts s es) xs h k = tt
  called_gives (printed es) xs h k = tt
  called_gives (panicked e) xs h k = tt
