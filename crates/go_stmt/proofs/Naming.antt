-- Names that are declared, on the way through a loop.
use Rattle.std.proofs.Common.{◌≡◌, ℕ, ◌+◌, ◌<◌, Bool, true, false, ◌&&◌, ◌||◌, not, is_some, List, [], ◌∷◌, ◌++◌, map, take, drop, length, get_or, append-nil, bytes_eq, refl, sym, ap, subst, ◌∙◌, add-one, inl, inr}
use Rattle.std.specs.Prelude.{position, codes}
use Rattle.std.specs.List.{filter, list_any}
use Rattle.std.proofs.Math.Seq.{take-suc}
use Rattle.std.proofs.lemmas.Bool.{cases_Bool}
use Rattle.std.proofs.lemmas.List.{map-append}
use Rattle.std.proofs.lemmas.List.Elements.{filter-append}
use Rattle.std.proofs.lemmas.Slice.Eq.{bytes_eq-Decides}
use Rattle.go_text.specs.declared.fault.FaultKind.TheVariants.{Redeclared}
use Rattle.go_ast.specs.Trees.{Name}
use Rattle.go_scope.specs.Index as index
use Rattle.go_scope.proofs.Indexes.{Differing, differing_more, differing_not, is_some_position}
use Rattle.go_scope.specs.Scopes.{is_blank}
use Rattle.go_stmt.specs.Scopes.{StatementEnv, own}
use Rattle.go_stmt.specs.Rules.{differ}
use Rattle.go_stmt.specs.Views.{own_texts}
use Rattle.go_stmt.specs.Statements.{names_faults}
use Rattle.go_stmt.proofs.Sequences.{left}

-- ---- texts of names that aren't blank

pub texts_begin : (n : Name) (ns : List Name) → own_texts (n ∷ ns) ≡ own_texts (n ∷ []) ++ own_texts ns
texts_begin n ns = elim (cases_Bool (is_blank n.text)) [ inl t ↦ rw t refl | inr f ↦ rw f refl ]

texts_append : (ns ms : List Name) → own_texts (ns ++ ms) ≡ own_texts ns ++ own_texts ms
texts_append ns ms =
    let own = λ (n : Name). not (is_blank n.text) in
    let text = λ (n : Name). n.text in
    ap (map text) (filter-append own ns ms) ∙ map-append text (filter own ns) (filter own ms)

apart : (x y : List ℕ) → is_blank x ≡ false → is_blank y ≡ true → bytes_eq x y ≡ false
apart x y f t = ap (bytes_eq x) ((bytes_eq-Decides y (codes "_")).0 t) ∙ f

-- a name that isn't blank is among names, or among their texts
any_own : (x : List ℕ) → is_blank x ≡ false → (ns : List Name) → list_any (bytes_eq x) (own_texts ns) ≡ list_any (λ m. bytes_eq x m.text) ns
any_own x f [] = refl
any_own x f (n ∷ ns) = elim (cases_Bool (is_blank n.text)) [
  | inl t ↦ (let no : bytes_eq x n.text ≡ false = apart x n.text f t in rw (t, no) (any_own x f ns))
  | inr g ↦ elim (cases_Bool (bytes_eq x n.text)) [ inl t ↦ rw (g, t) refl | inr h ↦ rw (g, h) (any_own x f ns) ]
]

pub differ_by_texts : (ns : List Name) → index.are_distinct (own_texts ns) ≡ differ ns
differ_by_texts [] = refl
differ_by_texts (n ∷ ns) = elim (cases_Bool (is_blank n.text)) [
  | inl t ↦ rw t (differ_by_texts ns)
  | inr f ↦ rw (f, any_own n.text f ns) (ap (λ b. not (list_any (λ m. bytes_eq n.text m.text) ns) && b) (differ_by_texts ns))
]

-- ---- an index of such texts

abbrev pub is_in : List (List ℕ) → Name → Bool
is_in names n = list_any (λ x. is_some (position (bytes_eq x) names)) (own_texts (n ∷ []))

pub texts_more : (names left rest all : List (List ℕ)) (n : Name) → Differing names left all → left ≡ own_texts (n ∷ []) ++ rest → is_in names n ≡ false → Differing (names ++ own_texts (n ∷ [])) rest all
texts_more names left rest all n before is new = elim (cases_Bool (is_blank n.text)) [
  | inl t ↦ rw t (rw (append-nil names) (subst (λ (l : List (List ℕ)). Differing names l all) (rw t at is) before))
  | inr f ↦ elim (cases_Bool (is_some (position (bytes_eq n.text) names))) [
    | inl t ↦ (let no : true ≡ false = rw (f, t) at new in cc (no))
    | inr g ↦ rw f (differing_more names left rest all n.text before (rw f at is) g)
  ]
]

pub texts_not : (names left rest all : List (List ℕ)) (n : Name) → Differing names left all → left ≡ own_texts (n ∷ []) ++ rest → is_in names n ≡ true → false ≡ index.are_distinct all
texts_not names left rest all n before is known = elim (cases_Bool (is_blank n.text)) [
  | inl t ↦ (let no : false ≡ true = rw t at known in cc (no))
  | inr f ↦ elim (cases_Bool (is_some (position (bytes_eq n.text) names))) [
    | inl t ↦ differing_not names left rest all n.text before (rw f at is) t
    | inr g ↦ (let no : false ≡ true = rw (f, g) at known in cc (no))
  ]
]

-- ---- names of a declaration

abbrev pub is_doubled : StatementEnv → List Name → Name → Bool
is_doubled env before n = is_some (own env n) || not (is_blank n.text) && list_any (λ m. bytes_eq n.text m.text) before

-- one is doubled where it is among the texts of those before it
pub doubled_in : (env : StatementEnv) (before : List Name) (n : Name) → (is_some (own env n) || is_in (own_texts before) n) ≡ is_doubled env before n
doubled_in env before n = ap (λ b. is_some (own env n) || b) (elim (cases_Bool (is_blank n.text)) [
  | inl t ↦ rw t refl
  | inr f ↦ (
      let same : is_some (position (bytes_eq n.text) (own_texts before)) ≡ list_any (λ m. bytes_eq n.text m.text) before =
      is_some_position (bytes_eq n.text) (own_texts before) ∙ any_own n.text f before in
      elim (cases_Bool (list_any (λ m. bytes_eq n.text m.text) before)) [ inl t ↦ rw (f, same, t) refl | inr g ↦ rw (f, same, g) refl ])
])

pub next_taken : {A : Type 0} (xs : List A) (i : ℕ) (x : A) → i < length xs → x ≡ get_or xs i x → take (i + 1) xs ≡ take i xs ++ x ∷ []
next_taken xs i x within is = ap (λ k. take k xs) (add-one i) ∙ take-suc xs i x within ∙ ap (λ y. take i xs ++ y ∷ []) (sym is)

pub texts_taken : (names : List Name) (i : ℕ) (n : Name) → i < length names → n ≡ get_or names i n → own_texts (take i names) ++ own_texts (n ∷ []) ≡ own_texts (take (i + 1) names)
texts_taken names i n within is = sym (ap own_texts (next_taken names i n within is) ∙ texts_append (take i names) (n ∷ []))

-- the next is neither there already nor doubled
pub next_fine : (env : StatementEnv) (names : List Name) (i : ℕ) (n : Name) → i < length names → n ≡ get_or names i n → is_doubled env (take i names) n ≡ false →
    names_faults env (take (i + 1) names) (drop (i + 1) names) ≡ names_faults env (take i names) (drop i names)
next_fine env names i n within is fine =
    ap (λ b. names_faults env b (drop (i + 1) names)) (next_taken names i n within is)
    ∙ sym (ap (names_faults env (take i names)) (left names i n within is) ∙ rw fine refl)

pub next_faulty : (env : StatementEnv) (names : List Name) (i : ℕ) (n : Name) → i < length names → n ≡ get_or names i n → is_doubled env (take i names) n ≡ true →
    names_faults env (take i names) (drop i names) ≡ (n.place, Redeclared) ∷ names_faults env (take i names ++ n ∷ []) (drop (i + 1) names)
next_faulty env names i n within is doubled = ap (names_faults env (take i names)) (left names i n within is) ∙ rw doubled refl
