-- What may come behind a comma tells the ends of two lists from all else: of elements by a brace, of results by a type that
-- is no operand.
use Rattle.std.proofs.Common.{◌≡◌, ℕ, ◌⊎◌, inl, inr, Bool, true, false, List, [], ◌∷◌, ◌++◌, refl, sym, ap, ◌∙◌, subst}
use Rattle.go_text.specs.declared.edition.Edition.{Edition}
use Rattle.go_text.specs.Editions.{has_slices}
use Rattle.go_text.specs.declared.place.Place.{Place}
use Rattle.go_scan.specs.declared.token.TokenKind.{TokenKind}
use Rattle.go_scan.specs.declared.token.TokenKind.TheVariants as kinds
use Rattle.go_scan.specs.declared.keyword.Keyword.TheVariants as keywords
use Rattle.go_scan.specs.declared.punctuation.Punctuation.TheVariants as marks
use Rattle.go_ast.specs.Kinds.{same}
use Rattle.go_ast.specs.Expected.{Expected, an_operand, a_value, a_type, a_declared_type, a_parameter_type, a_length, an_index, a_statement, behind_a_name, behind_a_jump, an_import, an_import_path, another, is_left_out_at, an_index_end}
use Rattle.go_ast.specs.Trees.{Expression, call_statement, conditional, no_else}
use Rattle.go_ast.specs.Grammar.{Lexeme, name_of, opening_brace, comma, colon, is_call}
use Rattle.go_ast.specs.Machine.{ListKind, fields, arguments, elements, const_specs, var_specs, type_specs, import_specs, statements, parameters, results, Item, Reader, ended, token, package_name, import_path, optional, type, optional_type, expr, optional_expr, suffixes, operators, more_names, more_exprs, list_start, list_end, lefts, else_part, clause_start, clause_end, import_end, decl_end, Move, Take, Fail, cond, keyword, literal_type, behind_left, parser_step, newer, operands}
use Rattle.go_ast.proofs.Same.{are_same}
use Rattle.go_ast.proofs.Base.{false_true, left_true, right_true}
use Rattle.go_ast.proofs.LeftOutStates.{Last, other, names, keyed, tok, GoesBy, Goes, starts, start_label, label, pick, TokenOk, EndOk, OptionalOk, OptionalKind, Right, under, NewerOk}
use Rattle.go_ast.proofs.LeftOutLed.{mark_not, newer_not}
use Rattle.go_ast.proofs.LeftOutMay.{goes_starts}
use Rattle.go_ast.proofs.LeftOutLabels.{by_call, call_end, token_mark}
use Rattle.go_ast.proofs.LeftOutPlaces.{optional_type_is, pick_other}
use Rattle.go_ast.proofs.LeftOutTests.{import_off, type_off, expr_off, newer_off, left_off, clause_off}
use Rattle.go_ast.proofs.LeftOutIndexes.{brace_step, moved, operand_step}

-- a colon may come for a key, in front of the state or in it
abbrev pub is_keyed : Last → Bool
is_keyed keyed = true
is_keyed _ = false

keyed_under : (k : TokenKind) (p : Last) → is_keyed (under k p) ≡ true → (same k colon ≡ true) ⊎ (is_keyed p ≡ true)
keyed_under kinds.Name p e = absurd (false_true e)
keyed_under (kinds.Punctuation marks.Colon) p e = inl refl
keyed_under (kinds.Punctuation marks.CloseBracket) p e = absurd (false_true e)
keyed_under _ p e = inr e

-- a test of labels that holds at the ends of one kind of list alone
pub record IsTest (ed : Edition) (T : Expected → Bool) (k : TokenKind) : Type 0 where
  pub token_off : (x : Expected) (p : Last) (kind : TokenKind) (next : Lexeme → Reader) → TokenOk ed p kind x next → T x ≡ false
  pub other_off : T another ≡ false
  pub operand_off : T an_operand ≡ false
  pub value_off : T a_value ≡ false
  pub length_off : T a_length ≡ false
  pub index_off : T an_index ≡ false
  pub index_end_off : T an_index_end ≡ false
  pub type_is_off : T a_type ≡ false
  pub declared_off : T a_declared_type ≡ false
  pub parameter_off : T a_parameter_type ≡ false
  pub statement_off : T a_statement ≡ false
  pub jump_off : T behind_a_jump ≡ false
  pub name_off : T behind_a_name ≡ false
  pub import_is_off : T an_import ≡ false
  pub path_off : T an_import_path ≡ false
  pub no_type : is_left_out_at a_type k ≡ false
  pub no_operand : is_left_out_at an_operand k ≡ false

module _ (ed : Edition) (T : Expected → Bool) (k j : TokenKind) (js : List TokenKind) (b : Bool) (is : IsTest ed T k) where
  -- the list goes on so, and its label tells it, unless a key's colon may come
  abbrev pub Comma : Last → Reader → Type 0
  Comma p s =
      (T (label s k) ≡ true → Goes ed (comma ∷ j ∷ js) s)
      × (Goes ed (comma ∷ j ∷ js) s → (T (label s k) ≡ true) ⊎ ((b ≡ true) × ((starts ed s colon ≡ true) ⊎ (is_keyed p ≡ true))))

  no_comma : (p : Last) (s : Reader) → T (label s k) ≡ false → (Goes ed (comma ∷ j ∷ js) s → ⊥) → Comma p s
  no_comma p s e f = ((λ q. absurd (false_true (sym e ∙ q))), λ g. absurd (f g))

  start_off : (s : ListKind) → T (start_label s) ≡ false
  start_off (fields l) = is.other_off
  start_off (arguments l) = is.operand_off
  start_off (elements l) = is.operand_off
  start_off (const_specs l) = is.other_off
  start_off (var_specs l) = is.other_off
  start_off (type_specs l) = is.other_off
  start_off import_specs = is.import_is_off
  start_off (statements l) = is.statement_off
  start_off parameters = is.other_off
  start_off results = is.type_is_off

  start_not : (s : ListKind) (front : List (Item s)) (next : List (Item s) → Lexeme → Reader) → Goes ed (comma ∷ j ∷ js) (list_start s front next) → ⊥
  start_not (fields l) front next g = g.2
  start_not (arguments l) front next g = g.2
  start_not (elements l) front next g = g.2
  start_not (const_specs l) front next g = g.2
  start_not (var_specs l) front next g = g.2
  start_not (type_specs l) front next g = g.2
  start_not import_specs front next g = g.2
  start_not (statements l) front next g = g.2
  start_not parameters front next g = g.2
  start_not results front next g = g.2

  token_not : (kind : TokenKind) (need : ℕ) (x : Expected) (next : Lexeme → Reader) → same kind comma ≡ false → Goes ed (comma ∷ j ∷ js) (token kind need x next) → ⊥
  token_not kind need x next e g =
      subst (λ c. GoesBy (Goes ed (j ∷ js)) (cond c (Take need (next (tok comma g.0 g.1))) (Fail x))) e g.2

  module _ (no_expr : (h : Bool) (l : ℕ) (next : Expression → Reader) → Goes ed (j ∷ js) (expr 5 h l an_operand next) → ⊥)
      (no_name : (need : ℕ) (next : Lexeme → Reader) → Goes ed (j ∷ js) (token kinds.Name need another next) → ⊥)
      (no_some : (s : Reader) → starts ed s (keyword keywords.Struct) ≡ false → (Goes ed (opening_brace ∷ []) s → ⊥) → Goes ed (j ∷ js) s → ⊥)
      (list : (s : ListKind) (x : Expected) (p : Last) (front : List (Item s)) (next : List (Item s) → Lexeme → Reader) → EndOk s x p →
      Comma p (list_end s x front next)) where
    -- where a part is passed over in front of which a comma stands, no list ends
    over : (p : Last) (s : Reader) → Comma p s → starts ed s comma ≡ false → T (label s k) ≡ true → ⊥
    over p s i quiet q = false_true (sym quiet ∙ goes_starts ed comma (j ∷ js) s refl (i.0 q))

    optional_comma : (kind : TokenKind) (p : Last) (need : ℕ) (some : Lexeme → Reader) (none : Reader) → OptionalOk ed p kind some none →
        Comma (under kind p) none → Comma p (optional kind need some none)
    optional_comma kind p need some none ok i = by_test (same kind comma) refl
      where
        back : (T (label none k) ≡ true) ⊎ ((b ≡ true) × ((starts ed none colon ≡ true) ⊎ (is_keyed (under kind p) ≡ true))) →
            (T (label none k) ≡ true) ⊎ ((b ≡ true) × ((starts ed (optional kind need some none) colon ≡ true) ⊎ (is_keyed p ≡ true)))
        back (inl y) = inl y
        back (inr (y, inl z)) = inr (y, inl (right_true (same kind colon) (starts ed none colon) z))
        back (inr (y, inr z)) = elim (keyed_under kind p z) [
          | inl c ↦ inr (y, inl (left_true (same kind colon) (starts ed none colon) c))
          | inr c ↦ inr (y, inr c)
        ]

        go : Bool → List ℕ → Place → Move
        go c text place = cond c (Take need (some (tok comma text place))) (parser_step ed none (tok comma text place))

        by_test : (c : Bool) → same kind comma ≡ c → Comma p (optional kind need some none)
        by_test false e = (
          (λ q. (let g = i.0 q in (g.0, g.1, subst (λ c. GoesBy (Goes ed (j ∷ js)) (go c g.0 g.1)) (sym e) g.2))),
          (λ g. back (i.1 (g.0, g.1, subst (λ c. GoesBy (Goes ed (j ∷ js)) (go c g.0 g.1)) e g.2))),
        )
        by_test true e =
            let here : OptionalKind ed comma p some none = subst (λ x. OptionalKind ed x p some none) (sym (are_same kind comma e)) ok.2 in (
              (λ q. absurd (false_true (sym here.0 ∙ goes_starts ed comma (j ∷ js) none refl (i.0 q)))),
              (λ g. (let t : Lexeme = tok comma g.0 g.1 in
                  absurd (no_some (some t) (here.1 t).0 (here.1 t).1 (subst (λ c. GoesBy (Goes ed (j ∷ js)) (go c g.0 g.1)) e g.2)))),
            )

    newer_comma : (kind : TokenKind) (p : Last) (need : ℕ) (x : Expected) (some : Lexeme → Reader) (none : Reader) → NewerOk ed p kind x some →
        starts ed none comma ≡ false → Goes ed (comma ∷ j ∷ js) (newer kind need x some none) → ⊥
    newer_comma kind p need x some none h quiet g =
        let t : Lexeme = tok comma g.0 g.1 in
        let there : GoesBy (Goes ed (j ∷ js)) (parser_step ed none t) =
        subst (λ c. GoesBy (Goes ed (j ∷ js)) (cond c (cond (has_slices ed) (Take need (some t)) (Fail x)) (parser_step ed none t)))
        (newer_not ed p kind x some comma h refl) g.2 in
        false_true (sym quiet ∙ goes_starts ed comma (j ∷ js) none refl (g.0, g.1, there))

    picked : (p : Last) (s none : Reader) (x : Expected) → label s k ≡ label none k →
        ((T (label none k) ≡ true → Goes ed (comma ∷ j ∷ js) s)
        × (Goes ed (comma ∷ j ∷ js) s → (T (label none k) ≡ true) ⊎ ((b ≡ true) × ((starts ed s colon ≡ true) ⊎ (is_keyed p ≡ true))))) → Comma p s
    picked p s none x e i =
        ((λ q. i.0 (sym (ap T e) ∙ q)), λ g. elim (i.1 g) [ inl y ↦ inl (ap T e ∙ y) | inr y ↦ inr y ])

    pub commas : (s : Reader) (p : Last) → Right ed s p → Comma p s
    commas (ended f) p r = no_comma p (ended f) is.other_off (λ g. g.2)
    commas (token kind need x next) p r =
        no_comma p (token kind need x next) (is.token_off x p kind next r.0) (token_not kind need x next (mark_not kind comma (token_mark ed x p kind next r.0) refl))
    commas (package_name next) p r = no_comma p (package_name next) is.other_off (λ g. g.2)
    commas (import_path x next) p r = no_comma p (import_path x next) (import_off ed T is.import_is_off is.path_off p x r.0) (λ g. g.2)
    commas (optional kind need some none) p r = optional_comma kind p need some none r.0 (commas none (under kind p) r.2)
    commas (newer kind need x some none) p r =
        no_comma p (newer kind need x some none) (newer_off ed T is.length_off is.index_off is.index_end_off p kind need x some none k r.0 (r.3 k))
        (λ g. newer_comma kind p need x some none r.0 r.4 g)
    commas (type l x next) p r = no_comma p (type l x next) (type_off ed T is.type_is_off is.declared_off is.parameter_off p x next r.0) (λ g. g.2)
    commas (optional_type l x some none) p r =
        subst (λ y. Comma p (optional_type l y some none)) (sym (optional_type_is ed p x some none r.0))
        (picked p (optional_type l a_type some none) none a_type (pick_other (is_left_out_at a_type k) a_type (label none k) is.no_type) (commas none p r.2))
    commas (expr n h l x next) p r =
        no_comma p (expr n h l x next) (expr_off ed T is.operand_off is.value_off is.length_off is.index_off p x (expr n h l x next) r.0) (λ g. g.2)
    commas (optional_expr h l x some none) p r =
        subst (λ y. Comma p (optional_expr h l y some none)) (sym r.1)
        (picked p (optional_expr h l an_operand some none) none an_operand (pick_other (is_left_out_at an_operand k) an_operand (label none k) is.no_operand)
        (commas none p r.4))
    commas (suffixes h l e next) p r =
        let i = commas (next e) p r.0 in
        let at = λ (text : List ℕ) (place : Place). brace_step h l (λ a. suffixes h l a next) (tok comma text place) (parser_step ed (next e) (tok comma text place)) (literal_type e) refl in (
          (λ q. (let g = i.0 q in (g.0, g.1, moved (Goes ed (j ∷ js)) _ _ (sym (at g.0 g.1)) g.2))),
          (λ g. i.1 (g.0, g.1, moved (Goes ed (j ∷ js)) _ _ (at g.0 g.1) g.2)),
        )
    commas (operators n h l e next) p r = commas (next e) p r.0
    commas (more_names front next) p r =
        ((λ q. absurd (over names (next front) (commas (next front) names (r.1 front)) (r.2 front) q)), λ g. absurd (no_name 0 (λ n. more_names (front ++ name_of n ∷ []) next) g.2))
    commas (more_exprs h l front next) p r =
        ((λ q. absurd (over p (next front) (commas (next front) p (r.1 front p r.0)) (r.2 front) q)), λ g. absurd (no_expr h l _ g.2))
    commas (list_start s front next) p r = no_comma p (list_start s front next) (start_off s) (start_not s front next)
    commas (list_end s x front next) p r = list s x p front next r.0
    commas (operands l next) p r =
        no_comma p (operands l next) is.operand_off
        (λ g. moved (Goes ed (j ∷ js)) _ _
        (operand_step (has_slices ed) l (λ e. list_end (arguments l) another (e ∷ []) next) (tok comma g.0 g.1) refl refl) g.2)
    commas (lefts m h l [] next alone range) p r = no_comma p (lefts m h l [] next alone range) is.other_off (λ g. g.2)
    commas (lefts m h l (e ∷ []) next alone range) p r = (
      (λ q. absurd (by_call (λ c. T (pick c (label (next (call_statement e)) k) (behind_left m e)) ≡ true → ⊥) (is_call e)
          (λ c. over p (next (call_statement e)) (commas (next (call_statement e)) p (r.1 (call_statement e) p (call_end m e p r.0 c))) (r.4 (call_statement e)))
          (λ c x. false_true (sym (left_off ed T is.name_off is.other_off m e) ∙ x)) q)),
      λ g. absurd (no_expr h l _ g.2),
    )
    commas (lefts m h l (e ∷ f ∷ es) next alone range) p r =
        no_comma p (lefts m h l (e ∷ f ∷ es) next alone range) is.other_off (λ g. no_expr h l _ g.2)
    commas (else_part l q i c d next) p r =
        let x = commas (next (conditional q i c d no_else)) other (r.1 (conditional q i c d no_else)) in
        (x.0, λ g. elim (x.1 g) [ inl y ↦ inl y | inr y ↦ inr (y.0, elim y.1 [ inl z ↦ inl z | inr z ↦ absurd (false_true z) ]) ])
    commas (clause_start l done q values front next) p r =
        no_comma p (clause_start l done q values front next) is.statement_off (λ g. g.2)
    commas (clause_end l x done q values front next) p r =
        no_comma p (clause_end l x done q values front next) (clause_off ed T is.jump_off is.other_off x p r.0) (λ g. g.2)
    commas (import_end q iss) p r = no_comma p (import_end q iss) is.other_off (λ g. g.2)
    commas (decl_end q imports ds) p r = no_comma p (decl_end q imports ds) is.other_off (λ g. g.2)
