-- Lists whose items have a separator between them, whatever the items are.
use Rattle.std.proofs.Common.{◌≡◌, ℕ, ◌+◌, ◌≤◌, ◌⊎◌, inl, inr, Bool, true, false, List, [], ◌∷◌, ◌++◌, refl, sym, ap, ◌∙◌, subst, arith, append_assoc, append-nil}
use Rattle.go_text.specs.declared.edition.Edition.{Edition}
use Rattle.go_ast.specs.Kinds.{same}
use Rattle.go_ast.specs.Expected.{Expected, another}
use Rattle.go_ast.specs.Trees.{File}
use Rattle.go_ast.specs.Grammar.{Lexeme, Token, Behind, AreItems}
use Rattle.go_ast.specs.Machine.{ListKind, fields, arguments, elements, const_specs, var_specs, type_specs, import_specs, statements, parameters, results, Item, separator, closer, Reader, list_start, list_end, Take, Fail, cond, on_item, parser_step}
use Rattle.go_ast.proofs.Same.{are_same}
use Rattle.go_ast.proofs.Means.{IsItem, item_height, item_level, begins_item, begins, FitItems, Means, Okay, Good, After, Kept}
use Rattle.go_ast.proofs.Base.{false_true, left_true, right_true, after_cond, kept_cond, after_same, after_other, token_here}
use Rattle.go_ast.proofs.Tokens.{a_token, at_first, kind_here, same_here, no_token}

-- no item begins with the list's end, which is no separator
closer_begins : (k : ListKind) → begins_item k (closer k) ≡ false
closer_begins (fields l) = refl
closer_begins (arguments l) = refl
closer_begins (elements l) = refl
closer_begins (const_specs l) = refl
closer_begins (var_specs l) = refl
closer_begins (type_specs l) = refl
closer_begins import_specs = refl
closer_begins (statements l) = refl
closer_begins parameters = refl
closer_begins results = refl

closer_separates : (k : ListKind) → same (separator k) (closer k) ≡ false
closer_separates (fields l) = refl
closer_separates (arguments l) = refl
closer_separates (elements l) = refl
closer_separates (const_specs l) = refl
closer_separates (var_specs l) = refl
closer_separates (type_specs l) = refl
closer_separates import_specs = refl
closer_separates (statements l) = refl
closer_separates parameters = refl
closer_separates results = refl

not_closer : (k : ListKind) (t : Lexeme) → begins_item k t.kind ≡ true → same (closer k) t.kind ≡ false
not_closer k t first = by_test (same (closer k) t.kind) refl
  where
    by_test : (c : Bool) → same (closer k) t.kind ≡ c → c ≡ false
    by_test false e = refl
    by_test true e = absurd (false_true (sym (closer_begins k) ∙ ap (begins_item k) (sym (are_same (closer k) t.kind e)) ∙ first))

module _ (ed : Edition) (B : ℕ) where
  -- what is known of the items of a list: what a first token leads to, both ways
  pub record Items (k : ListKind) : Type 0 where
    pub back : (front : List (Item k)) (next : List (Item k) → Lexeme → Reader) (t : Lexeme) (us : List Lexeme) (f : File) → item_level k ≤ B + 1 →
        After ed B (on_item k front next t) us f →
        (i : Item k) × (vs : List Lexeme) × IsItem ed k i (t ∷ us) vs × (item_level k + item_height k i ≤ B + 1) × Means ed B
        (list_end k another (front ++ i ∷ []) next) vs f
    pub forth : (front : List (Item k)) (next : List (Item k) → Lexeme → Reader) (t : Lexeme) (us : List Lexeme) (f : File) (i : Item k) (vs : List Lexeme) →
        IsItem ed k i (t ∷ us) vs → item_level k + item_height k i ≤ B + 1 → Means ed B (list_end k another (front ++ i ∷ []) next) vs f →
        After ed B (on_item k front next t) us f
    pub kept : (front : List (Item k)) (next : List (Item k) → Lexeme → Reader) (t : Lexeme) → Okay ed B (list_start k front next) → Kept ed B (on_item k front next t)
    pub first : (i : Item k) (t : Lexeme) (us vs : List Lexeme) → IsItem ed k i (t ∷ us) vs → begins_item k t.kind ≡ true
    pub never : (i : Item k) (vs : List Lexeme) → IsItem ed k i [] vs → ⊥

  -- an item, or the list's end
  pub list_start_back : (k : ListKind) → Items k → (front : List (Item k)) (next : List (Item k) → Lexeme → Reader) (t : Lexeme) (us : List Lexeme) (f : File) →
      item_level k ≤ B + 1 → After ed B (parser_step ed (list_start k front next) t) us f → Means ed B (list_start k front next) (t ∷ us) f
  list_start_back k its front next t us f low a = elim (after_cond ed B (same (closer k) t.kind) (Take 0 (next front t)) (on_item k front next t) us f a) [
    | inl h ↦ (
      [],
      t,
      t ∷ us,
      us,
      refl,
      tt,
      token_here (closer k) t us (are_same (closer k) t.kind h.0),
      subst (λ x. Means ed B (next x t) us f) (sym (append-nil front)) h.1.1,
    )
    | inr h ↦ (let r = its.back front next t us f low h.1 in
        let m = r.4 in
        (r.0 ∷ m.0, m.1, m.2, m.3, (r.1, r.2, m.4), (r.3, m.5), m.6, subst (λ x. Means ed B (next x m.1) m.3 f) (append_assoc front (r.0 ∷ []) m.0) m.7))
  ]

  items_forth : (k : ListKind) → Items k → (front : List (Item k)) (next : List (Item k) → Lexeme → Reader) (t : Lexeme) (us : List Lexeme) (f : File)
      (is : List (Item k)) (c : Lexeme) (vs ws : List Lexeme) → AreItems (IsItem ed k) (separator k) is (t ∷ us) vs → FitItems ed B k is → Token (closer k) c vs ws →
      Means ed B (next (front ++ is) c) ws f → After ed B (parser_step ed (list_start k front next) t) us f
  items_forth k its front next t us f [] c vs ws are fit close m =
      let here : Token (closer k) c (t ∷ us) ws = subst (λ x. Token (closer k) c x ws) (sym are) close in
      after_same ed B (closer k) t (Take 0 (next front t)) (on_item k front next t) us f (kind_here (closer k) t c us ws here)
      (omega arith, at_first (closer k) t c us ws (λ u xs. Means ed B (next front u) xs f) here (subst (λ x. Means ed B (next x c) ws f) (append-nil front) m))
  items_forth k its front next t us f (i ∷ is) c vs ws are fit close m =
      after_other ed B (closer k) t (Take 0 (next front t)) (on_item k front next t) us f (not_closer k t (its.first i t us are.0 are.1))
      (its.forth front next t us f i are.0 are.1 fit.0
      (is, c, vs, ws, are.2, fit.1, close, subst (λ x. Means ed B (next x c) ws f) (sym (append_assoc front (i ∷ []) is)) m))

  pub list_start_forth : (k : ListKind) → Items k → (front : List (Item k)) (next : List (Item k) → Lexeme → Reader) (t : Lexeme) (us : List Lexeme) (f : File) →
      Means ed B (list_start k front next) (t ∷ us) f → After ed B (parser_step ed (list_start k front next) t) us f
  list_start_forth k its front next t us f m = items_forth k its front next t us f m.0 m.1 m.2 m.3 m.4 m.5 m.6 m.7

  pub list_start_kept : (k : ListKind) → Items k → (front : List (Item k)) (next : List (Item k) → Lexeme → Reader) (t : Lexeme) →
      Okay ed B (list_start k front next) →
      Kept ed B (parser_step ed (list_start k front next) t)
  list_start_kept k its front next t ok =
      kept_cond ed B (same (closer k) t.kind) (Take 0 (next front t)) (on_item k front next t) (λ e le. ok.2 front t ok.1) (λ e. its.kept front next t ok)

  items_first : (k : ListKind) → Items k → (t : Lexeme) (us : List Lexeme) (is : List (Item k)) (c : Lexeme) (vs ws : List Lexeme) →
      AreItems (IsItem ed k) (separator k) is (t ∷ us) vs → Token (closer k) c vs ws → (same (closer k) t.kind ≡ true) ⊎ (begins_item k t.kind ≡ true)
  items_first k its t us [] c vs ws are close = inl (same_here (closer k) t c us ws (subst (λ x. Token (closer k) c x ws) (sym are) close))
  items_first k its t us (i ∷ is) c vs ws are close = inr (its.first i t us are.0 are.1)

  pub list_start_first : (k : ListKind) → Items k → (front : List (Item k)) (next : List (Item k) → Lexeme → Reader) (t : Lexeme) (us : List Lexeme) (f : File) →
      Means ed B (list_start k front next) (t ∷ us) f → begins (list_start k front next) t.kind ≡ true
  list_start_first k its front next t us f m = elim (items_first k its t us m.0 m.1 m.2 m.3 m.4 m.6) [
    | inl h ↦ left_true (same (closer k) t.kind) (begins_item k t.kind) h
    | inr h ↦ right_true (same (closer k) t.kind) (begins_item k t.kind) h
  ]

  pub list_start_comes : (k : ListKind) (front : List (Item k)) (next : List (Item k) → Lexeme → Reader) → Okay ed B (list_start k front next) →
      ((c : Lexeme) → Good ed B (next front c) → (us : List Lexeme) × (f : File) × Means ed B (next front c) us f) →
      (us : List Lexeme) × (f : File) × Means ed B (list_start k front next) us f
  list_start_comes k front next ok go =
      let c = a_token (closer k) in
      let r = go c (ok.2 front c ok.1) in
      (c ∷ r.0, r.1, ([], c, c ∷ r.0, r.0, refl, tt, token_here (closer k) c r.0 refl, subst (λ x. Means ed B (next x c) r.0 r.1) (sym (append-nil front)) r.2))

  items_never : (k : ListKind) → Items k → (is : List (Item k)) (c : Lexeme) (vs ws : List Lexeme) → AreItems (IsItem ed k) (separator k) is [] vs →
      Token (closer k) c vs ws → ⊥
  items_never k its [] c vs ws are close = no_token (closer k) c ws (subst (λ x. Token (closer k) c x ws) (sym are) close)
  items_never k its (i ∷ is) c vs ws are close = its.never i are.0 are.1

  pub list_start_never : (k : ListKind) → Items k → (front : List (Item k)) (next : List (Item k) → Lexeme → Reader) (f : File) →
      Means ed B (list_start k front next) [] f → ⊥
  list_start_never k its front next f m = items_never k its m.0 m.1 m.2 m.3 m.4 m.6

  -- a separator, or the list's end
  pub list_end_back : (k : ListKind) (x : Expected) (front : List (Item k)) (next : List (Item k) → Lexeme → Reader) (t : Lexeme) (us : List Lexeme) (f : File) →
      After ed B (parser_step ed (list_end k x front next) t) us f → Means ed B (list_end k x front next) (t ∷ us) f
  list_end_back k x front next t us f a =
      elim
      (after_cond ed B (same (separator k) t.kind) (Take 0 (list_start k front next)) (cond (same (closer k) t.kind) (Take 0 (next front t)) (Fail x)) us f a) [
        | inl h ↦ (let m = h.1.1 in
            (m.0, m.1, m.2, m.3, inl (t, us, token_here (separator k) t us (are_same (separator k) t.kind h.0), m.4), m.5, m.6, m.7))
        | inr g ↦ elim (after_cond ed B (same (closer k) t.kind) (Take 0 (next front t)) (Fail x) us f g.1) [
          | inl h ↦ (
            [],
            t,
            t ∷ us,
            us,
            inr (refl, refl),
            tt,
            token_here (closer k) t us (are_same (closer k) t.kind h.0),
            subst (λ y. Means ed B (next y t) us f) (sym (append-nil front)) h.1.1,
          )
          | inr h ↦ absurd h.1
        ]
      ]

  behind_forth : (k : ListKind) (x : Expected) (front : List (Item k)) (next : List (Item k) → Lexeme → Reader) (t : Lexeme) (us : List Lexeme) (f : File)
      (is : List (Item k)) (c : Lexeme) (vs ws : List Lexeme) → Behind (separator k) (AreItems (IsItem ed k) (separator k) is) (is ≡ []) (t ∷ us) vs →
      FitItems ed B k is → Token (closer k) c vs ws → Means ed B (next (front ++ is) c) ws f → After ed B (parser_step ed (list_end k x front next) t) us f
  behind_forth k x front next t us f is c vs ws (inl b) fit close m =
      after_same ed B (separator k) t (Take 0 (list_start k front next)) (cond (same (closer k) t.kind) (Take 0 (next front t)) (Fail x)) us f
      (kind_here (separator k) t b.0 us b.1 b.2)
      (omega arith, (is, c, vs, ws, at_first (separator k) t b.0 us b.1 (λ u xs. AreItems (IsItem ed k) (separator k) is xs vs) b.2 b.3, fit, close, m))
  behind_forth k x front next t us f is c vs ws (inr b) fit close m =
      let here : Token (closer k) c (t ∷ us) ws = subst (λ y. Token (closer k) c y ws) (sym b.1) close in
      let kind : t.kind ≡ closer k = kind_here (closer k) t c us ws here in
      after_other ed B (separator k) t (Take 0 (list_start k front next)) (cond (same (closer k) t.kind) (Take 0 (next front t)) (Fail x)) us f
      (ap (same (separator k)) kind ∙ closer_separates k)
      (after_same ed B (closer k) t (Take 0 (next front t)) (Fail x) us f kind (
        omega arith,
        at_first (closer k) t c us ws (λ u xs. Means ed B (next front u) xs f) here
            (subst (λ y. Means ed B (next y c) ws f) (ap (λ y. front ++ y) b.0 ∙ append-nil front) m),
      ))

  pub list_end_forth : (k : ListKind) (x : Expected) (front : List (Item k)) (next : List (Item k) → Lexeme → Reader) (t : Lexeme) (us : List Lexeme)
      (f : File) →
      Means ed B (list_end k x front next) (t ∷ us) f → After ed B (parser_step ed (list_end k x front next) t) us f
  list_end_forth k x front next t us f m = behind_forth k x front next t us f m.0 m.1 m.2 m.3 m.4 m.5 m.6 m.7

  pub list_end_kept : (k : ListKind) (x : Expected) (front : List (Item k)) (next : List (Item k) → Lexeme → Reader) (t : Lexeme) →
      Okay ed B (list_end k x front next) →
      Kept ed B (parser_step ed (list_end k x front next) t)
  list_end_kept k x front next t ok =
      kept_cond ed B (same (separator k) t.kind) (Take 0 (list_start k front next)) (cond (same (closer k) t.kind) (Take 0 (next front t)) (Fail x))
      (λ e le. (tt, ok))
      (λ e. kept_cond ed B (same (closer k) t.kind) (Take 0 (next front t)) (Fail x) (λ q le. ok.2 front t ok.1) (λ q. tt))

  pub list_end_first : (k : ListKind) (x : Expected) (front : List (Item k)) (next : List (Item k) → Lexeme → Reader) (t : Lexeme) (us : List Lexeme)
      (f : File) →
      Means ed B (list_end k x front next) (t ∷ us) f → begins (list_end k x front next) t.kind ≡ true
  list_end_first k x front next t us f m = elim m.4 [
    | inl b ↦ left_true (same (separator k) t.kind) (same (closer k) t.kind) (same_here (separator k) t b.0 us b.1 b.2)
    | inr b ↦ right_true (same (separator k) t.kind) (same (closer k) t.kind) (same_here (closer k) t m.1 us m.3
        (subst (λ y. Token (closer k) m.1 y m.3) (sym b.1) m.6))
  ]

  pub list_end_comes : (k : ListKind) (x : Expected) (front : List (Item k)) (next : List (Item k) → Lexeme → Reader) → Okay ed B (list_end k x front next) →
      ((c : Lexeme) → Good ed B (next front c) → (us : List Lexeme) × (f : File) × Means ed B (next front c) us f) →
      (us : List Lexeme) × (f : File) × Means ed B (list_end k x front next) us f
  list_end_comes k x front next ok go =
      let c = a_token (closer k) in
      let r = go c (ok.2 front c ok.1) in (
        c ∷ r.0,
        r.1,
        (
          [],
          c,
          c ∷ r.0,
          r.0,
          inr (refl, refl),
          tt,
          token_here (closer k) c r.0 refl,
          subst (λ y. Means ed B (next y c) r.0 r.1) (sym (append-nil front)) r.2,
        ),
      )

  pub list_end_never : (k : ListKind) (x : Expected) (front : List (Item k)) (next : List (Item k) → Lexeme → Reader) (f : File) →
      Means ed B (list_end k x front next) [] f → ⊥
  list_end_never k x front next f m = elim m.4 [
    | inl b ↦ no_token (separator k) b.0 b.1 b.2
    | inr b ↦ no_token (closer k) m.1 m.3 (subst (λ y. Token (closer k) m.1 y m.3) (sym b.1) m.6)
  ]
