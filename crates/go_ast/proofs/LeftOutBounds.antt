-- An index is due behind its bracket, or behind the colon of a part, where the bracket may come.
use Rattle.std.proofs.Common.{◌≡◌, ℕ, ◌⊎◌, inl, inr, Bool, true, false, List, [], ◌∷◌, refl, sym, ap, ◌∙◌, subst}
use Rattle.go_text.specs.declared.edition.Edition.{Edition}
use Rattle.go_text.specs.declared.place.Place.{Place}
use Rattle.go_scan.specs.declared.token.TokenKind.{TokenKind}
use Rattle.go_scan.specs.declared.token.TokenKind.TheVariants as kinds
use Rattle.go_scan.specs.declared.punctuation.Punctuation.TheVariants as marks
use Rattle.go_ast.specs.Kinds.{same}
use Rattle.go_ast.specs.Expected.{Expected, an_operand, a_length, a_type, an_index, is_left_out_at, a_value}
use Rattle.go_ast.specs.Trees.{Simple, call_statement, conditional, no_else}
use Rattle.go_ast.specs.Grammar.{Lexeme, closing_bracket, period, is_call}
use Rattle.go_ast.specs.Machine.{ListKind, fields, arguments, elements, const_specs, var_specs, type_specs, import_specs, statements, parameters, results, Reader, ended, token, package_name, import_path, optional, newer, type, optional_type, expr, optional_expr, suffixes, operators, more_names, more_exprs, list_start, list_end, operands, lefts, else_part, clause_start, clause_end, import_end, decl_end, Take, Fail, cond, behind_left, literal_type, parser_step}
use Rattle.go_ast.proofs.Same.{are_same}
use Rattle.go_ast.proofs.Base.{false_true}
use Rattle.go_ast.proofs.LeftOutStates.{Last, other, names, nameable, keyed, bracket, bounded, is_end, tok, GoesBy, Goes, start_label, label, pick, OptionalOk, OptionalKind, NewerOk, ExprOk, Right, under, equals}
use Rattle.go_ast.proofs.LeftOutMay.{starts_goes}
use Rattle.go_ast.proofs.LeftOutLed.{newer_label}
use Rattle.go_ast.proofs.LeftOutLabels.{by_call, call_end}
use Rattle.go_ast.proofs.LeftOutPlaces.{optional_type_is}
use Rattle.go_ast.proofs.LeftOutTests.{import_off, type_off, left_off, clause_off, list_off}
use Rattle.go_ast.proofs.LeftOutIndexes.{index_end, brace_step, moved}
use Rattle.go_ast.proofs.LeftOutEnds.{token_off, nowhere}
use Rattle.go_ast.proofs.LeftOutPassed.{optional_goes, left_step}
use Rattle.go_ast.proofs.LeftOutLengths.{is_indexed}

-- the last token is the bracket, or one may come here; in a part of a state one may come in front of it
abbrev pub IsIndexed : (ed : Edition) → Last → Reader → Type 0
IsIndexed ed p s = (p ≡ bracket) ⊎ ((p ≡ bounded) ⊎ Goes ed index_end s)

off : {A : Type 0} (x : Expected) → is_indexed x ≡ false → is_indexed x ≡ true → A
off x e q = absurd (false_true (sym e ∙ q))

expr_indexed : (ed : Edition) → (p : Last) (x : Expected) (s : Reader) → ExprOk ed p x s → is_indexed x ≡ true → IsIndexed ed p s
expr_indexed ed bracket an_index s h q = inl refl
expr_indexed ed bounded an_index s h q = inr (inl refl)
expr_indexed ed other an_operand s h q = absurd (false_true q)
expr_indexed ed equals a_value s h q = absurd (false_true q)
expr_indexed ed bracket a_length s h q = absurd (false_true q)
expr_indexed ed _ _ s h q = absurd h

newer_indexed : (ed : Edition) → (p : Last) (kind : TokenKind) (x : Expected) (some : Lexeme → Reader) (s : Reader) → NewerOk ed p kind x some → is_indexed x ≡ true →
    IsIndexed ed p s
newer_indexed ed p kind an_index some s h q = inl h.0
newer_indexed ed p kind _ some s h q = absurd (false_true q)

start_indexed : (k : ListKind) → is_indexed (start_label k) ≡ false
start_indexed (fields l) = refl
start_indexed (arguments l) = refl
start_indexed (elements l) = refl
start_indexed (const_specs l) = refl
start_indexed (var_specs l) = refl
start_indexed (type_specs l) = refl
start_indexed import_specs = refl
start_indexed (statements l) = refl
start_indexed parameters = refl
start_indexed results = refl

-- what comes before a part that may be missing
under_bracket : (k : TokenKind) (p : Last) → is_end p ≡ true → under k p ≡ bracket → ⊥
under_bracket kinds.Name p e q = let c : nameable ≡ bracket = q in cc (c)
under_bracket (kinds.Punctuation marks.Colon) p e q = let c : keyed ≡ bracket = q in cc (c)
under_bracket (kinds.Punctuation marks.CloseBracket) p e q = let c : bounded ≡ bracket = q in cc (c)
under_bracket _ p e q = false_true (sym (ap is_end q) ∙ e)

under_bounded : (k : TokenKind) (p : Last) → is_end p ≡ true → same k closing_bracket ≡ false → under k p ≡ bounded → ⊥
under_bounded kinds.Name p e n q = let c : nameable ≡ bounded = q in cc (c)
under_bounded (kinds.Punctuation marks.Colon) p e n q = let c : keyed ≡ bounded = q in cc (c)
under_bounded (kinds.Punctuation marks.CloseBracket) p e n q = false_true (sym n)
under_bounded _ p e n q = false_true (sym (ap is_end q) ∙ e)

optional_indexed : (ed : Edition) → (kind : TokenKind) (p : Last) (need : ℕ) (some : Lexeme → Reader) (none : Reader) → OptionalOk ed p kind some none →
    IsIndexed ed (under kind p) none → IsIndexed ed p (optional kind need some none)
optional_indexed ed kind p need some none ok i = by_test (same kind closing_bracket) refl
  where
    t : Lexeme
    t = tok closing_bracket [] nowhere

    by_test : (c : Bool) → same kind closing_bracket ≡ c → IsIndexed ed p (optional kind need some none)
    by_test true e =
        let here : OptionalKind ed closing_bracket p some none = subst (λ x. OptionalKind ed x p some none) (sym (are_same kind closing_bracket e)) ok.2 in
        let there : Goes ed (period ∷ []) (some t) = starts_goes ed period (some t) refl refl (here.0 t) in
        inr (inr ([], nowhere, subst (λ c. GoesBy (Goes ed (period ∷ [])) (cond c (Take need (some t)) (parser_step ed none t))) (sym e) there))
    by_test false e = elim i [
      | inl b ↦ absurd (under_bracket kind p ok.0 b)
      | inr (inl b) ↦ absurd (under_bounded kind p ok.0 e b)
      | inr (inr g) ↦ inr (inr (optional_goes ed closing_bracket (period ∷ []) kind need some none e g))
    ]

picked_type : (c : Bool) (y : Expected) → is_indexed (pick c a_type y) ≡ true → is_indexed y ≡ true
picked_type true y q = absurd (false_true q)
picked_type false y q = q

picked_operand : (c : Bool) (y : Expected) → is_indexed (pick c an_operand y) ≡ true → is_indexed y ≡ true
picked_operand true y q = absurd (false_true q)
picked_operand false y q = q

-- the same, from a state that passes a bracket on
passed_on : (ed : Edition) → (p q : Last) (s r : Reader) → (q ≡ bracket → ⊥) → (q ≡ bounded → ⊥) → (Goes ed index_end r → Goes ed index_end s) → IsIndexed ed q r →
    IsIndexed ed p s
passed_on ed p q s r a b f (inl e) = absurd (a e)
passed_on ed p q s r a b f (inr (inl e)) = absurd (b e)
passed_on ed p q s r a b f (inr (inr g)) = inr (inr (f g))

kept_on : (ed : Edition) → (p : Last) (s r : Reader) → (Goes ed index_end r → Goes ed index_end s) → IsIndexed ed p r → IsIndexed ed p s
kept_on ed p s r f (inl e) = inl e
kept_on ed p s r f (inr (inl e)) = inr (inl e)
kept_on ed p s r f (inr (inr g)) = inr (inr (f g))

module _ (ed : Edition) (k : TokenKind) where
  pub indexed : (s : Reader) (p : Last) → Right ed s p → is_indexed (label s k) ≡ true → IsIndexed ed p s
  indexed (ended f) p r q = absurd (false_true q)
  indexed (token kind need x next) p r q = off x (token_off ed is_indexed refl refl refl refl refl x p kind next r.0) q
  indexed (package_name next) p r q = absurd (false_true q)
  indexed (import_path x next) p r q = off x (import_off ed is_indexed refl refl p x r.0) q
  indexed (optional kind need some none) p r q = optional_indexed ed kind p need some none r.0 (indexed none (under kind p) r.2 q)
  indexed (newer kind need x some none) p r q =
      newer_indexed ed p kind x some (newer kind need x some none) r.0 (sym (ap is_indexed (newer_label kind need x some none k (r.3 k) ∙ r.3 k)) ∙ q)
  indexed (type l x next) p r q = off x (type_off ed is_indexed refl refl refl p x next r.0) q
  indexed (optional_type l x some none) p r q =
      subst (λ y. is_indexed (label (optional_type l y some none) k) ≡ true → IsIndexed ed p (optional_type l y some none))
      (sym (optional_type_is ed p x some none r.0))
      (λ c. kept_on ed p (optional_type l a_type some none) none (λ g. g) (indexed none p r.2 (picked_type (is_left_out_at a_type k) (label none k) c))) q
  indexed (expr n h l x next) p r q = expr_indexed ed p x (expr n h l x next) r.0 q
  indexed (optional_expr h l x some none) p r q =
      subst (λ y. is_indexed (label (optional_expr h l y some none) k) ≡ true → IsIndexed ed p (optional_expr h l y some none)) (sym r.1)
      (λ c. kept_on ed p (optional_expr h l an_operand some none) none (λ g. g)
      (indexed none p r.4 (picked_operand (is_left_out_at an_operand k) (label none k) c))) q
  indexed (suffixes h l e next) p r q =
      let at = λ (text : List ℕ) (place : Place). brace_step h l (λ a. suffixes h l a next) (tok closing_bracket text place)
      (parser_step ed (next e) (tok closing_bracket text place)) (literal_type e) refl in
      kept_on ed p (suffixes h l e next) (next e) (λ g. (g.0, g.1, moved (Goes ed (period ∷ [])) _ _ (sym (at g.0 g.1)) g.2)) (indexed (next e) p r.0 q)
  indexed (operators n h l e next) p r q = kept_on ed p (operators n h l e next) (next e) (λ g. g) (indexed (next e) p r.0 q)
  indexed (more_names front next) p r q =
      passed_on ed p names (more_names front next) (next front) (λ e. cc (e)) (λ e. cc (e)) (λ g. g) (indexed (next front) names (r.1 front) q)
  indexed (more_exprs h l front next) p r q = kept_on ed p (more_exprs h l front next) (next front) (λ g. g) (indexed (next front) p (r.1 front p r.0) q)
  indexed (list_start s front next) p r q = off (start_label s) (start_indexed s) q
  indexed (list_end s x front next) p r q = off x (list_off is_indexed refl refl refl refl refl s x p r.0) q
  indexed (operands l next) p r q = absurd (false_true q)
  indexed (lefts m h l [] next alone range) p r q = absurd (false_true q)
  indexed (lefts m h l (e ∷ []) next alone range) p r q =
      let behind : Simple → Reader = next in
      let part = by_call
      (λ c. is_indexed (pick c (label (behind (call_statement e)) k) (behind_left m e)) ≡ true →
      (p ≡ bracket) ⊎ ((p ≡ bounded) ⊎ ((text : List ℕ) × (place : Place)
      × GoesBy (Goes ed (period ∷ [])) (cond c (parser_step ed (behind (call_statement e)) (tok closing_bracket text place)) (Fail (behind_left m e)))))) (is_call e)
      (λ c d. indexed (next (call_statement e)) p (r.1 (call_statement e) p (call_end m e p r.0 c)) d)
      (λ c d. off (behind_left m e) (left_off ed is_indexed refl refl m e) d) q in
      elim part [
        | inl i ↦ inl i
        | inr (inl i) ↦ inr (inl i)
        | inr (inr g) ↦ inr (inr (g.0, g.1, moved (Goes ed (period ∷ [])) _ _ (sym (left_step ed m h l e next alone range (tok closing_bracket g.0 g.1) refl)) g.2))
      ]
  indexed (lefts m h l (e ∷ f ∷ es) next alone range) p r q = absurd (false_true q)
  indexed (else_part l a i c b next) p r q =
      let n = conditional a i c b no_else in
      passed_on ed p other (else_part l a i c b next) (next n) (λ e. cc (e)) (λ e. cc (e)) (λ g. g) (indexed (next n) other (r.1 n) q)
  indexed (clause_start l done a values front next) p r q = absurd (false_true q)
  indexed (clause_end l x done a values front next) p r q = off x (clause_off ed is_indexed refl refl x p r.0) q
  indexed (import_end a iss) p r q = absurd (false_true q)
  indexed (decl_end a is ds) p r q = absurd (false_true q)
