-- What an expression is has never the results of a call that are one: a call that has one result is a value.
use Rattle.std.proofs.Common.{◌≡◌, ℕ, List, [], ◌∷◌, ◌++◌, Option, Some, None, map, refl, inl, inr}
use Rattle.std.specs.Prelude.{bytes_eq, nat_eq, length}
use Rattle.std.specs.List.{zip}
use Rattle.std.specs.Map.{lookup}
use Rattle.std.proofs.lemmas.Bool.{cases_Bool}
use Rattle.go_text.specs.declared.edition.Edition.{Edition}
use Rattle.go_text.specs.declared.edition.Edition.TheVariants.{One, Two}
use Rattle.go_text.specs.declared.fault.FaultKind.TheVariants.{LeftOut}
use Rattle.go_ast.specs.Trees.{Expression, ExpressionList, name, integer, rune, string, parenthesized, composite_lit, conversion, selector, index, cut, call, type_operand, unary, binary}
use Rattle.go_types.specs.declared.types.Basic.{Basic}
use Rattle.go_types.specs.Types.{Type', basic}
use Rattle.go_typed.specs.Trees as typed
use Rattle.go_expr.specs.Known.{Declared, value, type', function, println, length', capacity', make', append', panic', Names, Known, declared, package', results, printed, panicked, Verdict, Fine, Breaks, Passed, Scope, look_up_known, named, basic_types, left_out, slice_functions, others, universe}
use Rattle.go_expr.specs.Views.{iota_of}
use Rattle.go_expr.specs.Rules.{fine, checked, valued, literal, literal_of, exported, selection_verdict, field_verdict, value_due, index_verdict, cut_of, converted, called, one, function_call, fine_list, assigned, printable, length_of, capacity_of, append_verdict, printing, unary_verdict, binary_verdict, string as string_type, is_exported}
use Rattle.go_expr.specs.Verdicts.{asked, both, asked_both, inside, subject, callee, operand, is_make, bound_known, made_verdict, call_verdict, operand_list, elements, verdict, type_verdict}
use Rattle.go_objects.specs.Table.{PackageTable, imports_at, scope_at}
use Rattle.go_package_laws.proofs.Completeness.Packages.{Entries}

abbrev pub IsProper : Verdict Known → Type 0
IsProper (Fine (results (t ∷ []) f es)) = ⊥
IsProper v = Unit {0}

-- ---- rules

as_value : (v : Verdict typed.Expr) → IsProper (valued v)
as_value (Fine e) = tt
as_value (Breaks kind) = tt
as_value Passed = tt

by_name : (o : Option Declared) → IsProper (named o)
by_name None = tt
by_name (Some d) = tt

insides : (v : Verdict Known) → IsProper v → IsProper (inside v)
insides (Fine (declared d)) h = tt
insides (Fine (package' names)) h = tt
insides (Fine (results ts f es)) h = h
insides (Fine (printed es)) h = tt
insides (Fine (panicked e)) h = tt
insides (Breaks kind) h = tt
insides Passed h = tt

exports : (names : Names) (x : List ℕ) → IsProper (exported x names)
exports names x = elim (cases_Bool (is_exported x)) [
  | inr not_so ↦ rw not_so tt
  | inl is ↦ elim (lookup (bytes_eq x) names) as (λ o. lookup (bytes_eq x) names ≡ o → IsProper (exported x names)) [
    | None ↦ λ at. rw (is, at) tt
    | Some o ↦ λ at. rw (is, at) (by_name o)
  ] refl
]

selections : (path x : List ℕ) (o : Option Known) → IsProper (asked (selection_verdict path x) o)
selections path x None = tt
selections path x (Some (package' names)) = exports names x
selections path x (Some k) = as_value (checked (field_verdict path x) (value_due k))

of_function : (s : typed.Symbol) (ts : List Type') (v : Verdict (List typed.Expr)) → IsProper (checked (λ ys. Fine (function_call s ts ys)) v)
of_function s [] (Fine xs) = tt
of_function s (t ∷ []) (Fine xs) = tt
of_function s (t ∷ u ∷ ts) (Fine xs) = tt
of_function s ts (Breaks kind) = tt
of_function s ts Passed = tt

of_library : (v : Verdict (List typed.Expr)) → IsProper (printing v)
of_library (Fine xs) = tt
of_library (Breaks kind) = tt
of_library Passed = tt

of_panic : (v : Verdict typed.Expr) → IsProper (checked (λ y. Fine (panicked y)) v)
of_panic (Fine x) = tt
of_panic (Breaks kind) = tt
of_panic Passed = tt

calls : (k : Known) (xs : List typed.Expr) → IsProper (called k xs)
calls (declared (value e)) xs = tt
calls (declared (type' t)) xs = as_value (checked (converted t) (one xs))
calls (declared (function s ts rs)) xs = elim (cases_Bool (nat_eq (length ts) (length xs))) [
  | inl is ↦ rw is (of_function s rs (fine_list [] (map (λ k. assigned k.0 k.1) (zip ts xs))))
  | inr not_so ↦ rw not_so tt
]
calls (declared println) xs = of_library (fine_list [] (map printable xs))
calls (declared length') xs = as_value (checked length_of (one xs))
calls (declared capacity') xs = as_value (checked capacity_of (one xs))
calls (declared make') xs = tt
calls (declared append') xs = as_value (append_verdict xs)
calls (declared panic') xs = of_panic (checked (assigned string_type) (one xs))
calls (package' names) xs = tt
calls (results ts s es) xs = tt
calls (printed es) xs = tt
calls (panicked e) xs = tt

called_known : (o : Option Known) (xs : Option (List typed.Expr)) → IsProper (asked_both called o xs)
called_known None xs = tt
called_known (Some k) None = tt
called_known (Some k) (Some xs) = calls k xs

of_call : (s : Scope) (o : Option Known) (es : ExpressionList) → IsProper (call_verdict s o es)
of_call s o es = elim (cases_Bool (is_make o)) [ inl make ↦ rw make (as_value (made_verdict s es)) | inr other ↦ rw other (called_known o (operand_list s es)) ]

as_type : (v : Verdict Type') → IsProper (checked (λ t. Fine (declared (type' t))) v)
as_type (Fine t) = tt
as_type (Breaks kind) = tt
as_type Passed = tt

-- ---- expressions

pub proper : (s : Scope) → ((x : List ℕ) → IsProper (look_up_known x s.names)) → (e : Expression) → IsProper (verdict s e)
proper s h (name p x) = h x
proper s h (integer p text) = as_value (literal text)
proper s h (rune p z) = tt
proper s h (string p bytes) = tt
proper s h (parenthesized p e) = insides (verdict s e) (proper s h e)
proper s h (composite_lit p t q es) = as_value (asked_both (literal_of s.path) (fine (type_verdict s t)) (elements s (fine (type_verdict s t)) 0 es))
proper s h (selector p e x) = selections s.path x.text (fine (subject (verdict s e)))
proper s h (index p e i) = as_value (asked_both index_verdict (operand (verdict s e)) (operand (verdict s i)))
proper s h (conversion p t e) = as_value (asked_both converted (fine (type_verdict s t)) (operand (verdict s e)))
proper s h (cut p e a b) = as_value (asked_both (λ e ends. cut_of e ends.0 ends.1) (operand (verdict s e)) (both (bound_known s a) (bound_known s b)))
proper s h (call p f es) = of_call s (fine (callee (verdict s f))) es
proper s h (type_operand p t) = as_type (type_verdict s t)
proper s h (unary p op e) = as_value (asked (unary_verdict op) (operand (verdict s e)))
proper s h (binary p op a b) = as_value (asked_both (binary_verdict op) (operand (verdict s a)) (operand (verdict s b)))

-- ---- what names find

abbrev AllProper : Entries → Type 0
AllProper [] = Unit {0}
AllProper (n ∷ ns) = IsProper n.1 × AllProper ns

more : (ns ms : Entries) → AllProper ns → AllProper ms → AllProper (ns ++ ms)
more [] ms h k = k
more (n ∷ ns) ms h k = (h.0, more ns ms h.1 k)

found : (ns : Entries) → AllProper ns → (x : List ℕ) → IsProper (look_up_known x ns)
found [] h x = tt
found ((y, v) ∷ ns) h x = elim (cases_Bool (bytes_eq x y)) [ inl is ↦ rw is h.0 | inr not_so ↦ rw not_so (found ns h.1 x) ]

types_proper : (ts : List (List ℕ × Basic)) → AllProper (map (λ t. (t.0, Fine (declared (type' (basic t.1))))) ts)
types_proper [] = tt
types_proper (t ∷ ts) = (tt, types_proper ts)

others_proper : (xs : List (List ℕ)) → AllProper (map (λ x. (x, Breaks LeftOut)) xs)
others_proper [] = tt
others_proper (x ∷ xs) = (tt, others_proper xs)

slices_proper : (e : Edition) → AllProper (slice_functions e ++ others)
slices_proper One = (tt, (tt, (tt, (tt, (tt, (tt, (tt, tt)))))))
slices_proper Two = (tt, (tt, (tt, (tt, (tt, (tt, (tt, tt)))))))

universe_proper : (e : Edition) → AllProper (universe e)
unfolding universe
universe_proper e =
    let types : Entries = map (λ (t : List ℕ × Basic). (t.0, Fine (declared (type' (basic t.1))))) basic_types in
    let rest : Entries = map (λ (x : List ℕ). (x, Breaks LeftOut)) left_out in
    more (types ++ rest) (slice_functions e ++ others) (more types rest (types_proper basic_types) (others_proper left_out)) (slices_proper e)

iota_proper : (iota : Option ℕ) → AllProper (iota_of iota)
iota_proper None = tt
iota_proper (Some n) = (tt, tt)

imports_proper : (is : List (List ℕ × Names)) → AllProper (map (λ i. (i.0, Fine (package' i.1))) is)
imports_proper [] = tt
imports_proper (i ∷ is) = (tt, imports_proper is)

names_proper : (ns : Names) → AllProper (map (λ n. (n.0, named n.1)) ns)
names_proper [] = tt
names_proper (n ∷ ns) = (by_name n.1, names_proper ns)

pub scope_proper : (p : PackageTable) (known : Names) (file : ℕ) (iota : Option ℕ) (x : List ℕ) → IsProper (look_up_known x (scope_at p known file iota).names)
scope_proper p known file iota x =
    let imports : Entries = map (λ (i : List ℕ × Names). (i.0, Fine (package' i.1))) (imports_at p file) in
    let names : Entries = map (λ n. (n.0, named n.1)) known in
    let predeclared = universe p.edition in
    let rest = more (iota_of iota) predeclared (iota_proper iota) (universe_proper p.edition) in
    found (imports ++ (names ++ (iota_of iota ++ predeclared)))
    (more imports (names ++ (iota_of iota ++ predeclared)) (imports_proper (imports_at p file)) (more names (iota_of iota ++ predeclared) (names_proper known) rest)) x
