-- What checked packages export can be shown: their types are named by words, and their constants are of their types.
use Rattle.std.proofs.Common.{◌≡◌, ℕ, suc, ◌<◌, ◌≤◌, ◌^◌, true, false, List, [], ◌∷◌, ◌++◌, length, get_or, map, Option, Some, None, refl, sym, ap, ◌∙◌, subst, inl, inr, true≢false, leb-true, arith}
use Rattle.std.specs.Prelude.{nat_eq, nat_le}
use Rattle.std.specs.List.{All, list_all, slice_get}
use Rattle.std.specs.Map.{values_of}
use Rattle.std.specs.Str.{NonePass, NoCharPasses}
use Rattle.std.proofs.lemmas.Bool.{cases_Bool, and_parts, or_left, eqb-true}
use Rattle.std.proofs.lemmas.Bool.Decides.{Decides-eqb}
use Rattle.std.proofs.lemmas.Str.{NoCharPasses-byte}
use Rattle.std.proofs.lemmas.List.Elements.{All-head, All-tail, All-nil, All-cons, All-append, All-map, All-contains}
use Rattle.ucd_category.specs.GeneralCategory.{general_category}
use Rattle.ucd_category.specs.GeneralCategoryRows.{general_category_rows}
use Rattle.ucd_table.specs.Rows.{value_in}
use Rattle.ws_reach.proofs.Reached.{get_contains}
use Rattle.go_scan.specs.Words.{is_letter, is_digit, is_inside, is_word, IsWord}
use Rattle.go_const.specs.declared.constant.Const.{Const}
use Rattle.go_const.specs.declared.constant.Const.TheVariants.{Integer, Text, Bool as Truth}
use Rattle.go_types.specs.declared.types.Basic.{Basic}
use Rattle.go_types.specs.declared.types.Basic.TheVariants as basics
use Rattle.go_types.specs.declared.types.Untyped.{Untyped}
use Rattle.go_types.specs.declared.types.Untyped.TheVariants as kinds
use Rattle.go_types.specs.Types.{Type', basic, array, slice, struct, named, Fields, no_fields, field}
use Rattle.go_types.specs.Texts.{Lacks, IsSpelled, IsWritable, AreWritable}
use Rattle.go_typed.specs.Trees as typed
use Rattle.go_expr.specs.Known.{Declared, value, type', Names}
use Rattle.go_meaning.specs.Values.{single, is_basic, is_of}
use Rattle.go_meaning.specs.Choices.{cell_of}
use Rattle.go_meaning_laws.specs.WellTyped.{Setting, signature_at, variable_at}
use Rattle.go_export.specs.Exports.{Export, named_constant, exported_type, named_variable, named_function, declared_by, exports_of}
use Rattle.go_export.specs.Exports as exports
use Rattle.go_export.specs.Writable.{kind_of, value_kind, IsValue, IsShown}
use Rattle.go_export.proofs.Found.{shown}
use Rattle.go_package.specs.Typed.{constants_in, types_in, typed_package}
use Rattle.go_package_laws.proofs.Soundness.{Table, IsNamedField, IsSoundType, AreSoundFields, AreSoundTypes, is_of_kind, IsSoundValue}
use Rattle.go_package_laws.specs.Packages.{AreChecked, is_plain, HavePlainPaths}
use Rattle.go_package_laws.proofs.Constants.{no_slice}
use Rattle.go_package_laws.proofs.Dots.{dot}
use Rattle.go_package_laws.proofs.Entries.{TableSound}
use Rattle.go_package_laws.proofs.Packages.{entries_sound, variables_sound, signatures_sound}
use Rattle.go_package_laws.proofs.Listed.{table_of}
use Rattle.go_package_laws.proofs.Programs.{Good, all_good}

-- ---- bytes that stand in no word, and in no plain path

lacks_by : (c : ℕ) (bs : List ℕ) → ((i : ℕ) → i < length bs → get_or bs i 0 ≡ c → ⊥) → Lacks c bs
lacks_by c [] h = tt
lacks_by c (b ∷ bs) h = (h 0 (omega arith), lacks_by c bs (λ i lt. h (suc i) (omega (arith, lt))))

lacks_more : (c : ℕ) (xs ys : List ℕ) → Lacks c xs → Lacks c ys → Lacks c (xs ++ ys)
lacks_more c [] ys h k = k
lacks_more c (x ∷ xs) ys h k = (h.0, lacks_more c xs ys h.1 k)

other_char : (c x : ℕ) → is_inside c ≡ false → is_inside x ≡ true → nat_eq x c ≡ false
other_char c x out inside = elim (cases_Bool (nat_eq x c)) [
  | inr not_so ↦ not_so
  | inl is ↦ absurd (true≢false (sym inside ∙ ap is_inside (eqb-true x c is) ∙ out))
]

none_inside : (c : ℕ) (cs : List ℕ) → is_inside c ≡ false → list_all is_inside cs ≡ true → NonePass (λ x. nat_eq x c) cs
none_inside c [] out all = tt
none_inside c (x ∷ cs) out all =
    let both = and_parts (is_inside x) (list_all is_inside cs) all in
    (other_char c x out both.0, none_inside c cs out both.1)

none_word : (c : ℕ) (cs : List ℕ) → is_inside c ≡ false → is_word cs ≡ true → NonePass (λ x. nat_eq x c) cs
none_word c [] out word = tt
none_word c (x ∷ cs) out word =
    let both = and_parts (is_letter x) (list_all is_inside cs) word in
    (other_char c x out (or_left (is_letter x) (is_digit x) both.0), none_inside c cs out both.1)

word_lacks : (c : ℕ) (bytes : List ℕ) → c < 128 → is_inside c ≡ false → IsWord bytes → Lacks c bytes
word_lacks c bytes low out (cs, e, all, word) = lacks_by c bytes (λ i lt at. (
    let none : NoCharPasses (λ x. nat_eq x c) bytes = (cs, sym e, none_word c cs out word) in
    let fails : nat_eq (get_or bytes i 0) c ≡ false = NoCharPasses-byte (λ x. nat_eq x c) bytes i none lt (omega (arith, at, low)) in
    true≢false (sym ((Decides-eqb (get_or bytes i 0) c).1 at) ∙ fails)))

space : is_inside 32 ≡ false
unfolding general_category value_in general_category_rows
space = refl

brace : is_inside 125 ≡ false
unfolding general_category value_in general_category_rows
brace = refl

plain_lacks : (path : List ℕ) → is_plain path ≡ true → Lacks 32 path × Lacks 125 path
plain_lacks [] h = (tt, tt)
plain_lacks (b ∷ path) h = elim (cases_Bool (nat_eq b 32)) [
  | inl is ↦ absurd (true≢false (sym (rw is at h)))
  | inr first ↦ elim (cases_Bool (nat_eq b 125)) [
    | inl is ↦ absurd (true≢false (sym (rw (first, is) at h)))
    | inr second ↦ (
        let rest = plain_lacks path (rw (first, second) at h) in
        ((λ e. true≢false (sym ((Decides-eqb b 32).1 e) ∙ first), rest.0), (λ e. true≢false (sym ((Decides-eqb b 125).1 e) ∙ second), rest.1)))
  ]
]

word_spelled : (x : List ℕ) → IsWord x → IsSpelled None x
word_spelled x word = (word_lacks 32 x (omega arith) space word, word_lacks 125 x (omega arith) brace word, word_lacks 46 x (omega arith) dot word)

name_spelled : (path x : List ℕ) → is_plain path ≡ true → IsWord x → IsSpelled (Some path) x
name_spelled path x plain word =
    let own = word_spelled x word in
    let place = plain_lacks path plain in (
      lacks_more 32 (path ++ 46 ∷ []) x (lacks_more 32 path (46 ∷ []) place.0 (λ e. omega (arith, e), tt)) own.0,
      lacks_more 125 (path ++ 46 ∷ []) x (lacks_more 125 path (46 ∷ []) place.1 (λ e. omega (arith, e), tt)) own.1,
      own.2,
    )

-- ---- types

module _ (packages : List typed.Package) where
  abbrev w : Table
  w = table_of packages is_plain

  field_spelled : (p : Option (List ℕ)) (x : List ℕ) → IsNamedField w p x → IsSpelled p x
  field_spelled None x h = word_spelled x h
  field_spelled (Some path) x h = name_spelled path x h.0 h.1

  short : (n : ℕ) → nat_le n 65536 ≡ true → n < 2 ^ 32
  short n h = (let le : n ≤ 65536 = leb-true n 65536 h in let small : n < 4294967296 = omega (arith, le) in small)

  mutual
    writable : (t : Type') → IsSoundType w t → IsWritable t
    writable (basic b) h = tt
    writable (array n t) h = (short n h.0, writable t h.2)
    writable (slice t) h = writable t h
    writable (struct fs) h = all_writable fs h.1
    writable (named p x t) h = (name_spelled p x (h.2).0 (h.2).1, writable t h.1)

    all_writable : (fs : Fields) → AreSoundFields w fs → AreWritable fs
    all_writable no_fields h = tt
    all_writable (field p x t fs) h = (field_spelled p x h.2, writable t h.0, all_writable fs h.1)

  types_writable : (ts : List Type') → AreSoundTypes w ts → All IsWritable ts
  types_writable [] h = All-nil IsWritable
  types_writable (t ∷ ts) h = All-cons IsWritable t ts (writable t h.0) (types_writable ts h.1)

  -- ---- values

  basic_kind : (b : Basic) (c : Const) → is_basic b (cell_of c) ≡ true → value_kind b ≡ kind_of c
  basic_kind basics.Bool (Truth b) h = refl
  basic_kind (basics.Untyped kinds.Bool) (Truth b) h = refl
  basic_kind basics.String (Text text) h = refl
  basic_kind (basics.Integer i) (Integer z) h = refl
  basic_kind b c h = absurd (true≢false (sym h))

  untyped_kind : (kind : Untyped) (c : Const) → is_of_kind kind c ≡ true → value_kind (basics.Untyped kind) ≡ kind_of c
  untyped_kind kinds.Bool (Truth b) h = refl
  untyped_kind kinds.Int (Integer z) h = refl
  untyped_kind kinds.Rune (Integer z) h = refl
  untyped_kind kinds.String (Text text) h = refl
  untyped_kind kind c h = absurd (true≢false (sym h))

  valued : (t : Type') (c : Const) → is_of t (single (cell_of c)) ≡ true → IsValue t c
  valued (basic b) c h = record { of = b; is = refl; kind = basic_kind b c h }
  valued (array n t) c h = absurd (true≢false (sym h))
  valued (slice t) c h = absurd (true≢false (sym h ∙ no_slice t c))
  valued (struct fs) c h = absurd (true≢false (sym h))
  valued (named p x t) c h = (let below = valued t c h in record { of = below.of; is = below.is; kind = below.kind })

  constant_shown : (g : Setting) (d : List ℕ) (t : Type') (c : Const) → IsSoundValue w g d (typed.constant t c) → IsShown (exports.constant t c)
  constant_shown g d t c (inl (kind, u, is, of)) =
      let type : t ≡ basic (basics.Untyped kind) = cc (is) in
      let same : c ≡ u = cc (is) in (
        subst IsWritable (sym type) tt,
        subst (λ (t : Type'). IsValue t c) (sym type) (record { of = basics.Untyped kind; is = refl; kind = untyped_kind kind c (ap (is_of_kind kind) same ∙ of) }),
      )
  constant_shown g d t c (inr (inl (of, sound, way))) = (writable t sound, valued t c of.0)
  constant_shown g d t c (inr (inr (of, is, none, way))) = absurd (true≢false (sym none))

  -- ---- what a package declares

  abbrev Shown : List ℕ × Export → Type 0
  Shown e = IsShown e.1

  next : (g : Setting) (d : List ℕ) (n : List ℕ × Option Declared) (known : Names) → TableSound w g d (n ∷ known) → TableSound w g d known
  next g d n known h k x e at = h (suc k) x e at

  constants_shown : (g : Setting) (d : List ℕ) (known : Names) → TableSound w g d known → All Shown (map named_constant (constants_in known))
  constants_shown g d [] h = All-nil Shown
  constants_shown g d ((x, Some (value (typed.constant t c))) ∷ known) h =
      let rest = constants_in known in
      All-cons Shown (x, exports.constant t c) (map named_constant rest)
      (constant_shown g d t c (h 0 x (value (typed.constant t c)) refl))
      (constants_shown g d known (next g d _ known h))
  constants_shown g d ((x, v) ∷ known) h = constants_shown g d known (next g d (x, v) known h)

  types_shown : (g : Setting) (d : List ℕ) (known : Names) → TableSound w g d known → All Shown (map exported_type (types_in known))
  types_shown g d [] h = All-nil Shown
  types_shown g d ((x, Some (type' t)) ∷ known) h =
      All-cons Shown (x, exports.type' t) (map exported_type (types_in known)) (writable t (h 0 x (type' t) refl)) (types_shown g d known (next g d _ known h))
  types_shown g d ((x, v) ∷ known) h = types_shown g d known (next g d (x, v) known h)

  abbrev SoundVariable : typed.Variable → Type 0
  SoundVariable v = IsSoundType w v.of

  variables_shown : (vs : List typed.Variable) → All SoundVariable vs → All Shown (map named_variable vs)
  variables_shown [] h = All-nil Shown
  variables_shown (v ∷ vs) h = All-cons Shown (named_variable v) (map named_variable vs) (writable v.of (All-head SoundVariable v vs h)) (variables_shown vs (All-tail SoundVariable v vs h))

  abbrev SoundSigned : typed.Function → Type 0
  SoundSigned f = AreSoundTypes w f.parameters × AreSoundTypes w f.results

  functions_shown : (fs : List typed.Function) → All SoundSigned fs → All Shown (map named_function fs)
  functions_shown [] h = All-nil Shown
  functions_shown (f ∷ fs) h =
      let one = All-head SoundSigned f fs h in
      All-cons Shown (named_function f) (map named_function fs) (types_writable f.parameters one.0, types_writable f.results one.1) (functions_shown fs (All-tail SoundSigned f fs h))

  abbrev here : Setting
  here = record { functions = signature_at packages; variables = variable_at packages; locals = []; results = []; breaks = false; continues = false }

  declared_shown : (p : typed.Package) → Good packages w p → All IsShown (values_of (declared_by p))
  declared_shown p h =
      let q = typed_package h.edition h.facts h.names h.files in
      let table = entries_sound packages w h.edition h.facts h.names h.files h.given h.own h.imports h.are h.sound here [] (refl, refl) in
      let constants = constants_shown here [] h.facts.known table in
      let types = types_shown here [] h.facts.known table in
      let variables = variables_shown q.variables (variables_sound packages w h.edition h.facts h.names h.files h.given h.own h.imports h.are h.sound) in
      let functions = functions_shown q.functions (signatures_sound packages w h.edition h.facts h.names h.files h.given h.own h.imports h.are h.sound) in
      let cs = map named_constant q.constants in
      let ts = map exported_type q.types in
      let vs = map named_variable q.variables in
      let fs = map named_function q.functions in
      let all = All-append Shown (cs ++ ts ++ vs) fs (All-append Shown (cs ++ ts) vs (All-append Shown cs ts constants types) variables) functions in
      subst (λ (p : typed.Package). All IsShown (values_of (declared_by p))) (sym h.is) (All-map IsShown (λ (e : List ℕ × Export). e.1) (declared_by q) all)

pub checked_shown : (packages : List typed.Package) → AreChecked packages → HavePlainPaths packages → (k : ℕ) (p : typed.Package) → slice_get packages k ≡ Some p → All IsShown (values_of (exports_of p))
checked_shown packages h plain k p at =
    let each : (k : ℕ) (q : typed.Package) → slice_get packages k ≡ Some q → is_plain q.path ≡ true = λ k q at. All-contains (λ (q : typed.Package). is_plain q.path ≡ true) packages q plain (get_contains packages k q at) in
    let good = all_good packages is_plain h each in
    shown p (declared_shown packages p (All-contains (Good packages (table_of packages is_plain)) packages p good (get_contains packages k p at)))
