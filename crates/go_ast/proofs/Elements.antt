-- Items of lists: fields, arguments, results, and the elements of a literal.
use Rattle.std.proofs.Common.{◌≡◌, ℕ, ◌+◌, ◌≤◌, inl, inr, true, false, ◌||◌, List, [], ◌∷◌, ◌++◌, Option, Some, None, refl, sym, ap, ◌∙◌, subst, arith}
use Rattle.go_text.specs.declared.edition.Edition.{Edition}
use Rattle.go_scan.specs.declared.token.TokenKind.{TokenKind}
use Rattle.go_scan.specs.declared.token.TokenKind.TheVariants as kinds
use Rattle.go_ast.specs.Kinds.{same}
use Rattle.go_ast.specs.Operators.{binary_of}
use Rattle.go_ast.specs.Expected.{Expected, an_operand, a_type, an_element_end, a_field_end, a_result_end, another}
use Rattle.go_ast.specs.Trees.{Name, TypeExpr, Expression, name, Element, expression_element, value_element, File, pack_elements}
use Rattle.go_ast.specs.Heights.{height, type_height, element_height}
use Rattle.go_ast.specs.Grammar.{Lexeme, Token, name_of, opening_brace, closing_brace, comma, colon, AreMoreNames, AreNames, IsType, IsExpr, IsKey, IsElement, AreElements}
use Rattle.go_ast.specs.Machine.{ListKind, fields, arguments, elements, results, Item, Reader, optional, expr, type, more_names, list_start, list_end, Take, Fail, begins_expr, on_expr, on_item, on_element, behind_element}
use Rattle.go_ast.proofs.Same.{are_same, is_same}
use Rattle.go_ast.proofs.Means.{IsItem, item_height, item_level, is_tail, begins, Closes, Means, Okay, Good, After, Kept}
use Rattle.go_ast.proofs.Base.{either_true, left_true, right_true, after_cond, kept_cond, after_same, after_other, token_here, first_is, apart}
use Rattle.go_ast.proofs.Values.{ends_if, all_fit_append}
use Rattle.go_ast.proofs.Packed.{unpack_elements, packed_elements, elements_from, elements_to, elements_fit, fit_elements}
use Rattle.go_ast.proofs.Lists.{Items}
use Rattle.go_ast.proofs.Types.{type_first, type_never, led, on_type_back, on_type_forth, on_type_kept}
use Rattle.go_ast.proofs.LiteralTypes.{comma_or_closing}
use Rattle.go_ast.proofs.Operands.{expr_first, expr_never, on_expr_back, on_expr_forth, on_expr_kept}
use Rattle.go_ast.proofs.Levels.{height_positive, type_height_positive}
use Rattle.go_ast.proofs.Specs.{names_first, names_never}
use Rattle.go_ast.proofs.Never.{keyed_never}

-- what stands behind an element goes on with no expression
element_closes : (k : TokenKind) → (same comma k || same closing_brace k) ≡ true → Closes false k
element_closes k b = elim (either_true (same comma k) (same closing_brace k) b) [
  | inl e ↦ (ap (is_tail false) (are_same comma k e), ap binary_of (are_same comma k e))
  | inr e ↦ (ap (is_tail false) (are_same closing_brace k e), ap binary_of (are_same closing_brace k e))
]

key_closes : (k : TokenKind) → (same colon k || (same comma k || same closing_brace k)) ≡ true → Closes false k
key_closes k b = elim (either_true (same colon k) (same comma k || same closing_brace k) b) [
  | inl e ↦ (ap (is_tail false) (are_same colon k e), ap binary_of (are_same colon k e))
  | inr e ↦ element_closes k e
]

-- first tokens
element_first : (ed : Edition) → (k : Option Name) (e : Element) (t : Lexeme) (us vs ws : List Lexeme) → IsKey k (t ∷ us) vs → IsElement ed e vs ws →
    (same opening_brace t.kind || begins_expr t.kind) ≡ true
element_first ed None (expression_element e) t us vs ws d x =
    right_true (same opening_brace t.kind) (begins_expr t.kind) (expr_first ed 5 false e t us ws (subst (λ y. IsExpr ed 5 false e y ws) (sym d) x))
element_first ed None (value_element p es) t us vs ws d x =
    left_true (same opening_brace t.kind) (begins_expr t.kind)
    (is_same opening_brace t.kind (first_is opening_brace t x.0 us x.2 (subst (λ y. Token opening_brace x.0 y x.2) (sym d) x.4)).2)
element_first ed (Some n) e t us vs ws d x =
    ap (λ k. same opening_brace k || begins_expr k) (first_is kinds.Name t d.0 us d.2 d.3).2

module _ (ed : Edition) (B : ℕ) where
  -- one item more fits
  added : (k : ListKind) (x : Expected) (front : List (Item k)) (next : List (Item k) → Lexeme → Reader) (i : Item k) → Okay ed B (list_start k front next) →
      item_level k + item_height k i ≤ B + 1 → Good ed B (list_end k x (front ++ i ∷ []) next)
  added k x front next i ok fit = (tt, (ok.0, all_fit_append ed B (item_height k) (item_level k) front (i ∷ []) ok.1 (fit, tt), ok.2))

  -- fields
  abbrev behind_names : (l : ℕ) → List (Item (fields l)) → (List (Item (fields l)) → Lexeme → Reader) → List Name → Reader
  behind_names l front next ns = type l a_type (λ a. list_end (fields l) a_field_end (front ++ (ns, a) ∷ []) next)

  field_forth : (l : ℕ) (front : List (Item (fields l))) (next : List (Item (fields l)) → Lexeme → Reader) (t : Lexeme) (us : List Lexeme) (f : File)
      (ns : List Name) (a : TypeExpr) (vs xs : List Lexeme) →
      AreNames ns (t ∷ us) xs → IsType ed a xs vs → l + type_height a ≤ B + 1 → Means ed B (list_end (fields l) another (front ++ (ns, a) ∷ []) next) vs f →
      After ed B (on_item (fields l) front next t) us f
  field_forth l front next t us f [] a vs xs d x le m = absurd d
  field_forth l front next t us f (n ∷ ns) a vs xs d x le m =
      let e = first_is kinds.Name t d.0 us d.1 d.2 in
      let text : n ≡ name_of t = d.3 ∙ ap name_of (sym e.0) in
      after_same ed B kinds.Name t (Take l (more_names (name_of t ∷ []) (behind_names l front next))) (Fail another) us f e.2 (
        omega (arith, type_height_positive a),
        (
          ns,
          xs,
          subst (λ y. AreMoreNames ns y xs) (sym e.1) d.4,
          (a, vs, x, le, led ed B (λ y. list_end (fields l) another (front ++ (y ∷ ns, a) ∷ []) next) (name_of t) n vs vs f (sym text) refl m),
        ),
      )

  pub field_items : (l : ℕ) → Items ed B (fields l)
  field_items l = record {
    back = λ front next t us f low a. elim (after_cond ed B (same kinds.Name t.kind) (Take l (more_names (name_of t ∷ []) (behind_names l front next)))
        (Fail another) us f a) [
          | inl h ↦ (let m = h.1.1 in
              let b = m.3 in
              ((name_of t ∷ m.0, b.0), b.1, (m.1, (t, us, token_here kinds.Name t us (are_same kinds.Name t.kind h.0), refl, m.2), b.2), b.3, b.4))
          | inr h ↦ absurd h.1
        ];
    forth = λ front next t us f i vs d le m. field_forth l front next t us f i.0 i.1 vs d.0 d.1 d.2 le m;
    kept = λ front next t ok. kept_cond ed B (same kinds.Name t.kind) (Take l (more_names (name_of t ∷ []) (behind_names l front next))) (Fail another)
        (λ e le. (tt, ((λ ns. (le, ((λ a fits. added (fields l) a_field_end front next (ns, a) ok fits), λ a. refl))), λ ns. refl))) (λ e. tt);
    first = λ i t us vs d. names_first i.0 t us d.0 d.1;
    never = λ i vs d. names_never i.0 d.0 d.1;
  }

  -- arguments
  pub argument_items : (l : ℕ) → Items ed B (arguments l)
  argument_items l = record {
    back = λ front next t us f low a. on_expr_back ed B 5 false l an_operand (λ e. list_end (arguments l) another (front ++ e ∷ []) next) t us f a;
    forth = λ front next t us f i vs d le m. on_expr_forth ed B 5 false l an_operand (λ e. list_end (arguments l) another (front ++ e ∷ []) next) t us f
        (i, vs, d, le, m);
    kept = λ front next t ok. on_expr_kept ed B 5 false l an_operand (λ e. list_end (arguments l) another (front ++ e ∷ []) next) t
        ((λ e fits. added (arguments l) another front next e ok fits), ends_if ed B 5 false _ (λ e k b. comma_or_closing k b));
    first = λ i t us vs d. expr_first ed 5 false i t us vs d;
    never = λ i vs d. expr_never ed 5 false i vs d;
  }

  -- results
  pub result_items : Items ed B results
  result_items = record {
    back = λ front next t us f low a. on_type_back ed B 1 a_type (λ e. list_end results a_result_end (front ++ e ∷ []) next) t us f a;
    forth = λ front next t us f i vs d le m. on_type_forth ed B 1 a_type (λ e. list_end results a_result_end (front ++ e ∷ []) next) t us f (i, vs, d, le, m);
    kept = λ front next t ok. on_type_kept ed B 1 a_type (λ e. list_end results a_result_end (front ++ e ∷ []) next) t
        ((λ a fits. added results a_result_end front next a ok fits), λ a. refl);
    first = λ i t us vs d. type_first ed i t us vs d;
    never = λ i vs d. type_never ed i vs d;
  }

  -- elements
  abbrev Made : (l : ℕ) → List (Item (elements l)) → (List (Item (elements l)) → Lexeme → Reader) → List Lexeme → File → Type 0
  Made l front next us f =
      (i : Item (elements l)) × (vs : List Lexeme) × IsItem ed (elements l) i us vs × (l + element_height i.1 ≤ B + 1)
      × Means ed B (list_end (elements l) another (front ++ i ∷ []) next) vs f

  pub behind_element_back : (l : ℕ) (front : List (Item (elements l))) (next : List (Item (elements l)) → Lexeme → Reader) (e : Expression) (us ws : List Lexeme)
      (f : File) →
      IsExpr ed 5 false e us ws → l + height e ≤ B + 1 → Means ed B (behind_element l front next e) ws f → Made l front next us f
  behind_element_back l front next (name p text) us ws f d le m = elim m [
    | inl c ↦ (let key : record { text = text; place = p } ≡ name_of d.0 =
        ap (λ q. record { text = text; place = q }) d.2 ∙ ap (λ q. record { text = q; place = d.0.place }) d.3 in
        let is_key : IsKey (Some (record { text = text; place = p })) us c.1 = (d.0, c.0, ws, d.1, key, c.2) in
        elim c.4 [
          | inl o ↦ (let i = o.4 in (
            (Some (record { text = text; place = p }), value_element o.0.place (pack_elements i.0)),
            i.3,
            (c.1, is_key, (o.0, i.1, o.1, i.2, o.2, refl, elements_from ed (l + 1) i.0 o.1 i.2 i.4, i.6)),
            omega (arith, elements_fit ed B (l + 1) i.0 (omega (arith, le)) i.5),
            i.7,
          ))
          | inr x ↦ ((Some (record { text = text; place = p }), expression_element x.0), x.1, (c.1, is_key, x.2), x.3, x.4)
        ])
    | inr x ↦ ((None, expression_element (name p text)), ws, (us, refl, d), le, x)
  ]
  behind_element_back l front next e us ws f d le m = ((None, expression_element e), ws, (us, refl, d), le, m)

  -- an expression without a key
  pub behind_plain : (l : ℕ) (front : List (Item (elements l))) (next : List (Item (elements l)) → Lexeme → Reader) (e : Expression) (ws : List Lexeme) (f : File) →
      Means ed B (list_end (elements l) another (front ++ (None, expression_element e) ∷ []) next) ws f → Means ed B (behind_element l front next e) ws f
  behind_plain l front next (name p text) ws f m = inr m
  behind_plain l front next e ws f m = m

  -- what is behind a key
  abbrev behind_key : (l : ℕ) → List (Item (elements l)) → (List (Item (elements l)) → Lexeme → Reader) → Option Name → Reader
  behind_key l front next key =
      optional opening_brace l (λ o. list_start (elements (l + 1)) []
      (λ es _. list_end (elements l) an_element_end (front ++ (key, value_element o.place (pack_elements es)) ∷ []) next))
      (expr 5 false l an_operand (λ e. list_end (elements l) an_element_end (front ++ (key, expression_element e) ∷ []) next))

  behind_key_forth : (l : ℕ) (front : List (Item (elements l))) (next : List (Item (elements l)) → Lexeme → Reader) (key : Option Name) (e : Element)
      (us ws : List Lexeme) (f : File) →
      IsElement ed e us ws → l + element_height e ≤ B + 1 → Means ed B (list_end (elements l) another (front ++ (key, e) ∷ []) next) ws f →
      Means ed B (behind_key l front next key) us f
  behind_key_forth l front next key (expression_element e) us ws f d le m = inr (e, ws, d, le, m)
  behind_key_forth l front next key (value_element p es) us ws f d le m =
      let place : p ≡ d.0.place = d.5 in
      let whole : pack_elements (unpack_elements es) ≡ es = packed_elements es in
      inl (
        d.0,
        d.2,
        d.4,
        omega arith,
        (
          unpack_elements es,
          d.1,
          d.3,
          ws,
          elements_to ed (l + 1) es d.2 d.3 d.6,
          fit_elements ed B (l + 1) es (omega arith),
          d.7,
          led ed B (λ y. list_end (elements l) another (front ++ (key, y) ∷ []) next) (value_element d.0.place (pack_elements (unpack_elements es)))
              (value_element p es) ws ws f (cc (place, whole)) refl m,
        ),
      )

  behind_key_good : (l : ℕ) (front : List (Item (elements l))) (next : List (Item (elements l)) → Lexeme → Reader) (key : Option Name) → l ≤ B →
      Okay ed B (list_start (elements l) front next) →
      Good ed B (behind_key l front next key)
  behind_key_good l front next key le ok = (
    inl le,
    (
      (λ o k z. (
        tt,
        (
          omega arith,
          tt,
          λ is c fits. added (elements l) an_element_end front next (key, value_element o.place (pack_elements is)) ok
              (omega (arith, elements_fit ed B (l + 1) is (omega arith) fits)),
        ),
      )),
      ((λ e fits. added (elements l) an_element_end front next (key, expression_element e) ok fits), ends_if ed B 5 false _ (λ e k b. element_closes k b)),
      refl,
    ),
  )

  pub behind_element_good : (l : ℕ) (front : List (Item (elements l))) (next : List (Item (elements l)) → Lexeme → Reader) (e : Expression) →
      Okay ed B (list_start (elements l) front next) →
      l + height e ≤ B + 1 → Good ed B (behind_element l front next e)
  behind_element_good l front next (name p text) ok le = (
    inl (omega arith),
    (
      (λ c k z. behind_key_good l front next (Some (record { text = text; place = p })) (omega (arith, le)) ok),
      (added (elements l) another front next (None, expression_element (name p text)) ok le).1,
      refl,
    ),
  )
  behind_element_good l front next e ok le = added (elements l) an_element_end front next (None, expression_element e) ok le

  behind_element_closes : (l : ℕ) (front : List (Item (elements l))) (next : List (Item (elements l)) → Lexeme → Reader) (e : Expression) (k : TokenKind) →
      begins (behind_element l front next e) k ≡ true → Closes false k
  behind_element_closes l front next (name p text) k b = key_closes k b
  behind_element_closes l front next e k b = element_closes k b

  -- an element that begins with a brace
  abbrev behind_brace : (l : ℕ) → List (Item (elements l)) → (List (Item (elements l)) → Lexeme → Reader) → Lexeme → Reader
  behind_brace l front next t =
      list_start (elements (l + 1)) [] (λ es _. list_end (elements l) an_element_end (front ++ (None, value_element t.place (pack_elements es)) ∷ []) next)

  pub on_element_back : (l : ℕ) (front : List (Item (elements l))) (next : List (Item (elements l)) → Lexeme → Reader) (t : Lexeme) (us : List Lexeme)
      (f : File) →
      After ed B (on_element l front next t) us f → Made l front next (t ∷ us) f
  on_element_back l front next t us f a =
      elim (after_cond ed B (same opening_brace t.kind) (Take l (behind_brace l front next t))
      (on_expr 5 false l an_operand (behind_element l front next) t) us f a) [
        | inl h ↦ (let i = h.1.1 in (
          (None, value_element t.place (pack_elements i.0)),
          i.3,
          (t ∷ us, refl, (t, i.1, us, i.2, token_here opening_brace t us (are_same opening_brace t.kind h.0), refl, elements_from ed (l + 1) i.0 us i.2 i.4, i.6)),
          omega (arith, elements_fit ed B (l + 1) i.0 (omega (arith, h.1.0)) i.5, h.1.0),
          i.7,
        ))
        | inr h ↦ (let e = on_expr_back ed B 5 false l an_operand (behind_element l front next) t us f h.1 in
            behind_element_back l front next e.0 (t ∷ us) e.1 f e.2 e.3 e.4)
      ]

  pub on_element_forth : (l : ℕ) (front : List (Item (elements l))) (next : List (Item (elements l)) → Lexeme → Reader) (t : Lexeme) (us : List Lexeme)
      (f : File) (k : Option Name) (e : Element) (xs vs : List Lexeme) →
      IsKey k (t ∷ us) xs → IsElement ed e xs vs → l + element_height e ≤ B + 1 → Means ed B (list_end (elements l) another (front ++ (k, e) ∷ []) next) vs f →
      After ed B (on_element l front next t) us f
  on_element_forth l front next t us f None (expression_element e) xs vs d x le m =
      let is : IsExpr ed 5 false e (t ∷ us) vs = subst (λ y. IsExpr ed 5 false e y vs) (sym d) x in
      after_other ed B opening_brace t (Take l (behind_brace l front next t)) (on_expr 5 false l an_operand (behind_element l front next) t) us f
      (apart begins_expr opening_brace t.kind refl (expr_first ed 5 false e t us vs is))
      (on_expr_forth ed B 5 false l an_operand (behind_element l front next) t us f (e, vs, is, le, behind_plain l front next e vs f m))
  on_element_forth l front next t us f None (value_element p es) xs vs d x le m =
      let e = first_is opening_brace t x.0 us x.2 (subst (λ y. Token opening_brace x.0 y x.2) (sym d) x.4) in
      let place : p ≡ t.place = x.5 ∙ ap (λ (y : Lexeme). y.place) (sym e.0) in
      let whole : pack_elements (unpack_elements es) ≡ es = packed_elements es in
      after_same ed B opening_brace t (Take l (behind_brace l front next t)) (on_expr 5 false l an_operand (behind_element l front next) t) us f e.2 (
        omega arith,
        (
          unpack_elements es,
          x.1,
          x.3,
          vs,
          elements_to ed (l + 1) es us x.3 (subst (λ y. AreElements ed es y x.3) (sym e.1) x.6),
          fit_elements ed B (l + 1) es (omega arith),
          x.7,
          led ed B (λ y. list_end (elements l) another (front ++ (None, y) ∷ []) next) (value_element t.place (pack_elements (unpack_elements es)))
              (value_element p es) vs vs f (cc (place, whole)) refl m,
        ),
      )
  on_element_forth l front next t us f (Some n) e xs vs d x le m =
      let h = first_is kinds.Name t d.0 us d.2 d.3 in
      let text : n ≡ name_of t = d.4 ∙ ap name_of (sym h.0) in
      let behind : Means ed B (list_end (elements l) another (front ++ (Some (name_of t), e) ∷ []) next) vs f =
      led ed B (λ y. list_end (elements l) another (front ++ (Some y, e) ∷ []) next) (name_of t) n vs vs f (sym text) refl m in
      after_other ed B opening_brace t (Take l (behind_brace l front next t)) (on_expr 5 false l an_operand (behind_element l front next) t) us f
      (ap (same opening_brace) h.2)
      (on_expr_forth ed B 5 false l an_operand (behind_element l front next) t us f (
        name t.place t.text,
        us,
        (t, token_here kinds.Name t us h.2, refl, refl),
        omega (arith, element_height_positive e, le),
        inl (d.1, xs, subst (λ y. Token colon d.1 y xs) (sym h.1) d.5, omega arith, behind_key_forth l front next (Some (name_of t)) e xs vs f x le behind),
      ))
    where
      element_height_positive : (e : Element) → 1 ≤ element_height e
      element_height_positive (expression_element e) = height_positive e
      element_height_positive (value_element p es) = omega arith

  pub on_element_kept : (l : ℕ) (front : List (Item (elements l))) (next : List (Item (elements l)) → Lexeme → Reader) (t : Lexeme) →
      Okay ed B (list_start (elements l) front next) →
      Kept ed B (on_element l front next t)
  on_element_kept l front next t ok =
      kept_cond ed B (same opening_brace t.kind) (Take l (behind_brace l front next t)) (on_expr 5 false l an_operand (behind_element l front next) t)
      (λ e le. (
        tt,
        (
          omega arith,
          tt,
          λ is c fits. added (elements l) an_element_end front next (None, value_element t.place (pack_elements is)) ok
              (omega (arith, elements_fit ed B (l + 1) is (omega arith) fits)),
        ),
      ))
      (λ e. on_expr_kept ed B 5 false l an_operand (behind_element l front next) t
      ((λ e fits. behind_element_good l front next e ok fits), ends_if ed B 5 false _ (λ e k b. behind_element_closes l front next e k b)))

  pub element_items : (l : ℕ) → Items ed B (elements l)
  element_items l = record {
    back = λ front next t us f low a. on_element_back l front next t us f a;
    forth = λ front next t us f i vs d le m. on_element_forth l front next t us f i.0 i.1 d.0 vs d.1 d.2 le m;
    kept = λ front next t ok. on_element_kept l front next t ok;
    first = λ i t us vs d. element_first ed i.0 i.1 t us d.0 vs d.1 d.2;
    never = λ i vs d. keyed_never ed i.0 i.1 d.0 vs d.1 d.2;
  }
