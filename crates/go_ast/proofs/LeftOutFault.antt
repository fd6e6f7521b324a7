-- Where a token may not come, the machine tells what is left out from what is wrong as the definition does.
use Rattle.std.proofs.Common.{◌≡◌, ℕ, ◌≤◌, ◌⊎◌, inl, inr, Bool, true, false, List, [], ◌∷◌, ◌++◌, refl, sym, ap, ◌∙◌, subst, append_assoc, append-nil}
use Rattle.std.specs.Prelude.{if◌then◌else◌}
use Rattle.go_text.specs.declared.edition.Edition.{Edition}
use Rattle.go_scan.specs.declared.token.TokenKind.{TokenKind}
use Rattle.go_scan.specs.declared.token.TokenKind.TheVariants as kinds
use Rattle.go_scan.specs.declared.keyword.Keyword.TheVariants as keywords
use Rattle.go_scan.specs.declared.punctuation.Punctuation.TheVariants as marks
use Rattle.go_ast.specs.Kinds.{same}
use Rattle.go_ast.specs.Expected.{Expected, an_operand, a_value, a_type, a_declared_type, a_parameter_type, a_length, an_index, an_index_end, a_selected_name, an_element_end, a_field_end, a_result_end, behind_a_name, behind_a_jump, a_function_name, a_function_opening, an_import, an_import_path, is_left_out_at, is_left_out}
use Rattle.go_ast.specs.Grammar.{Lexeme, assign, opening, closing, opening_bracket, closing_bracket, opening_brace, closing_brace, comma, period, semicolon, colon}
use Rattle.go_ast.specs.LeftOut.{is_never_read, begins_left_out, EndsIn, May, word, LeftOut, anywhere, pointer, parenthesized_type, method, generic, generic_function, slice, slice_end, slice_start, jump_label, key, assertion, alias, local_type, dot_import, cgo, range, unnamed, tag, named_result}
use Rattle.go_ast.specs.LeftOut as out
use Rattle.go_ast.specs.Machine.{Reader, Take, Fail, start, parser_step}
use Rattle.go_ast.proofs.Same.{are_same}
use Rattle.go_ast.proofs.Base.{false_true, left_true, right_true, either_true}
use Rattle.go_ast.proofs.Final.{Theory, Leads, Told}
use Rattle.go_ast.proofs.LeftOutStates.{Last, other, name_last, first_name, func_name, bracket, dot, equals, func, jump, keyed, is_func, is_special, tok, GoesBy, Goes, Right, Tells, Led, starts, label, index_tail}
use Rattle.go_ast.proofs.LeftOutStatements.{start_right}
use Rattle.go_ast.proofs.LeftOutLed.{led}
use Rattle.go_ast.proofs.LeftOutSaid.{is_sure, Says, said}
use Rattle.go_ast.proofs.LeftOutMay.{leads_append, goes_may, may_goes, goes_starts, starts_goes}
use Rattle.go_ast.proofs.LeftOutLabels.{is_fixed, LabelAt, labelled}
use Rattle.go_ast.proofs.LeftOutPlaces.{pointers, like_star, like_ampersand}
use Rattle.go_ast.proofs.LeftOutDeclared.{local, is_typed, typed}
use Rattle.go_ast.proofs.LeftOutIndexes.{is_index_end, index_end, index}
use Rattle.go_ast.proofs.LeftOutCommas.{is_keyed}
use Rattle.go_ast.proofs.LeftOutEnds.{is_element_end, element, is_result, result}
use Rattle.go_ast.proofs.LeftOutAliases.{is_declared, alias_to, is_named, alias_from}
use Rattle.go_ast.proofs.LeftOutImports.{is_path, is_import, string_taken, path_to, path_from, import_path_is, import_name}
use Rattle.go_ast.proofs.LeftOutFields.{is_field_end, field_to, field_from}
use Rattle.go_ast.proofs.LeftOutParameters.{is_parameter, named_behind, parameter_to, parameter_from}
use Rattle.go_ast.proofs.LeftOutLengths.{is_indexed, is_length, measured}
use Rattle.go_ast.proofs.LeftOutLasts.{EndsFunc, Known, func_known, known_func, last_of, last_of_label, fixed_last, last_of_kind, tells_last, tells_name, tells_first, tells_func_name, known_none, ends, jump_known, first_known, func_name_known, split_two}
use Rattle.go_ast.proofs.LeftOutBounds.{indexed}

-- a label behind a token that is left out there

abbrev is_out : TokenKind → Bool
is_out (kinds.Keyword keywords.Func) = true
is_out (kinds.Keyword keywords.Struct) = true
is_out (kinds.Keyword keywords.Type) = true
is_out (kinds.Keyword keywords.Range) = true
is_out (kinds.Punctuation marks.Star) = true
is_out (kinds.Punctuation marks.Ampersand) = true
is_out (kinds.Punctuation marks.OpenParenthesis) = true
is_out (kinds.Punctuation marks.CloseParenthesis) = true
is_out (kinds.Punctuation marks.OpenBracket) = true
is_out (kinds.Punctuation marks.CloseBracket) = true
is_out (kinds.Punctuation marks.Colon) = true
is_out (kinds.Punctuation marks.Period) = true
is_out (kinds.Punctuation marks.Assign) = true
is_out kinds.String = true
is_out kinds.Name = true
is_out _ = false

out_kind : (x : Expected) (k : TokenKind) → is_left_out_at x k ≡ true → is_out k ≡ true
out_kind x (kinds.Keyword keywords.Func) q = refl
out_kind x (kinds.Keyword keywords.Struct) q = refl
out_kind x (kinds.Keyword keywords.Type) q = refl
out_kind x (kinds.Keyword keywords.Range) q = refl
out_kind x (kinds.Punctuation marks.Star) q = refl
out_kind x (kinds.Punctuation marks.Ampersand) q = refl
out_kind x (kinds.Punctuation marks.OpenParenthesis) q = refl
out_kind x (kinds.Punctuation marks.CloseParenthesis) q = refl
out_kind x (kinds.Punctuation marks.OpenBracket) q = refl
out_kind x (kinds.Punctuation marks.CloseBracket) q = refl
out_kind x (kinds.Punctuation marks.Colon) q = refl
out_kind x (kinds.Punctuation marks.Period) q = refl
out_kind x (kinds.Punctuation marks.Assign) q = refl
out_kind x kinds.String q = refl
out_kind x kinds.Name q = refl
out_kind an_operand _ q = absurd (false_true q)
out_kind _ _ q = absurd (false_true q)

brace_in : (x : Expected) → is_left_out x opening_brace ≡ false
brace_in an_operand = refl
brace_in _ = refl

at_opening : (x : Expected) → is_left_out_at x opening ≡ true → (is_typed x ≡ true) ⊎ ((x ≡ a_selected_name) ⊎ (x ≡ a_function_name))
at_opening a_type q = inl refl
at_opening a_declared_type q = inl refl
at_opening a_parameter_type q = inl refl
at_opening a_selected_name q = inr (inl refl)
at_opening a_function_name q = inr (inr refl)
at_opening _ q = absurd (false_true q)

at_closing : (x : Expected) → is_left_out_at x closing ≡ true → is_parameter x ≡ true
at_closing a_parameter_type q = refl
at_closing _ q = absurd (false_true q)

at_bracket : (x : Expected) → is_left_out_at x opening_bracket ≡ true → (is_result x ≡ true) ⊎ ((x ≡ a_function_name) ⊎ (x ≡ a_function_opening))
at_bracket a_result_end q = inl refl
at_bracket a_function_name q = inr (inl refl)
at_bracket a_function_opening q = inr (inr refl)
at_bracket _ q = absurd (false_true q)

at_length : (x : Expected) → is_left_out_at x closing_bracket ≡ true → ((is_fixed x ≡ true) × (last_of_label x ≡ bracket)) ⊎ (is_indexed x ≡ true)
at_length a_length q = inl (refl, refl)
at_length an_index q = inr refl
at_length _ q = absurd (false_true q)

at_colon : (x : Expected) → is_left_out_at x colon ≡ true → (is_indexed x ≡ true) ⊎ ((is_index_end x ≡ true) ⊎ ((is_element_end x ≡ true) ⊎ (x ≡ behind_a_name)))
at_colon an_index q = inl refl
at_colon an_index_end q = inr (inl refl)
at_colon an_element_end q = inr (inr (inl refl))
at_colon behind_a_name q = inr (inr (inr refl))
at_colon _ q = absurd (false_true q)

at_period : (x : Expected) → is_left_out_at x period ≡ true → is_import x ≡ true
at_period an_import q = refl
at_period _ q = absurd (false_true q)

at_assign : (x : Expected) → is_left_out_at x assign ≡ true → is_declared x ≡ true
at_assign a_declared_type q = refl
at_assign _ q = absurd (false_true q)

at_string : (x : Expected) → is_left_out_at x kinds.String ≡ true → (is_field_end x ≡ true) ⊎ (is_path x ≡ true)
at_string a_field_end q = inl refl
at_string an_import q = inr refl
at_string an_import_path q = inr refl
at_string _ q = absurd (false_true q)

at_name : (x : Expected) → is_left_out_at x kinds.Name ≡ true → (is_result x ≡ true) ⊎ (x ≡ behind_a_jump)
at_name a_result_end q = inl refl
at_name behind_a_jump q = inr refl
at_name _ q = absurd (false_true q)

at_struct : (x : Expected) → is_left_out_at x (word keywords.Struct) ≡ true → is_result x ≡ true
at_struct a_result_end q = refl
at_struct _ q = absurd (false_true q)

at_range : (x : Expected) → is_left_out_at x (word keywords.Range) ≡ true → x ≡ a_value
at_range a_value q = refl
at_range _ q = absurd (false_true q)

-- and what is left out at a label

typed_opening : (x : Expected) → is_typed x ≡ true → is_left_out_at x opening ≡ true
typed_opening a_type q = refl
typed_opening a_declared_type q = refl
typed_opening a_parameter_type q = refl
typed_opening _ q = absurd (false_true q)

element_colon : (x : Expected) → is_element_end x ≡ true → is_left_out_at x colon ≡ true
element_colon an_element_end q = refl
element_colon _ q = absurd (false_true q)

declared_assign : (x : Expected) → is_declared x ≡ true → is_left_out_at x assign ≡ true
declared_assign a_declared_type q = refl
declared_assign _ q = absurd (false_true q)

import_period : (x : Expected) → is_import x ≡ true → is_left_out_at x period ≡ true
import_period an_import q = refl
import_period _ q = absurd (false_true q)

path_string : (x : Expected) → is_path x ≡ true → is_left_out_at x kinds.String ≡ true
path_string an_import q = refl
path_string an_import_path q = refl
path_string _ q = absurd (false_true q)

field_string : (x : Expected) → is_field_end x ≡ true → is_left_out_at x kinds.String ≡ true
field_string a_field_end q = refl
field_string _ q = absurd (false_true q)

parameter_closing : (x : Expected) → is_parameter x ≡ true → is_left_out_at x closing ≡ true
parameter_closing a_parameter_type q = refl
parameter_closing _ q = absurd (false_true q)

result_is : (x : Expected) → is_result x ≡ true → x ≡ a_result_end
result_is a_result_end q = refl
result_is _ q = absurd (false_true q)

-- states behind some tokens

is_func_last : (p : Last) → is_func p ≡ true → p ≡ func
is_func_last func e = refl
is_func_last _ e = absurd (false_true e)

is_keyed_last : (p : Last) → is_keyed p ≡ true → p ≡ keyed
is_keyed_last keyed e = refl
is_keyed_last _ e = absurd (false_true e)

-- behind `func` no `return` may stand
func_return : (ed : Edition) → (s : Reader) (p : Last) → Right ed s p → is_func p ≡ true → starts ed s (word keywords.Return) ≡ false
func_return ed s p right f =
    let here : label s (word keywords.Type) ≡ a_function_name =
    subst (λ z. LabelAt z (label s (word keywords.Type))) (is_func_last p f) (labelled ed s p (word keywords.Type) right) in
    sym (local ed s p right) ∙ ap (λ x. is_left_out_at x (word keywords.Type)) here

-- an opening brace isn't left out anywhere
brace_out : (ed : Edition) → {A : Type 0} (good : List Lexeme) (k : TokenKind) → k ≡ opening_brace → LeftOut ed good k → A
brace_out ed good k b (anywhere e) = absurd (false_true (sym (ap is_never_read b) ∙ e))
brace_out ed good k b (pointer e m) = absurd (false_true (sym (ap begins_left_out b) ∙ e))
brace_out ed good k b (parenthesized_type e m) = absurd (let c : opening_brace ≡ opening = sym b ∙ e in cc (c))
brace_out ed good k b (method f e i) = absurd (let c : opening_brace ≡ opening = sym b ∙ e in cc (c))
brace_out ed good k b (generic f e i) = absurd (let c : opening_brace ≡ opening_bracket = sym b ∙ e in cc (c))
brace_out ed good k b (generic_function f e i) = absurd (let c : opening_brace ≡ opening_bracket = sym b ∙ e in cc (c))
brace_out ed good k b (slice f e i) = absurd (let c : opening_brace ≡ closing_bracket = sym b ∙ e in cc (c))
brace_out ed good k b (slice_end e m) = absurd (let c : opening_brace ≡ colon = sym b ∙ e in cc (c))
brace_out ed good k b (slice_start f e i m) = absurd (let c : opening_brace ≡ colon = sym b ∙ e in cc (c))
brace_out ed good k b (out.label f e i m) = absurd (let c : opening_brace ≡ colon = sym b ∙ e in cc (c))
brace_out ed good k b (jump_label f e i) = absurd (let c : opening_brace ≡ kinds.Name = sym b ∙ e in cc (c))
brace_out ed good k b (key e m) = absurd (let c : opening_brace ≡ colon = sym b ∙ e in cc (c))
brace_out ed good k b (assertion f e i) = absurd (let c : opening_brace ≡ opening = sym b ∙ e in cc (c))
brace_out ed good k b (alias f e i m n) = absurd (let c : opening_brace ≡ assign = sym b ∙ e in cc (c))
brace_out ed good k b (local_type e m) = absurd (let c : opening_brace ≡ word keywords.Type = sym b ∙ e in cc (c))
brace_out ed good k b (dot_import e m n o) = absurd (let c : opening_brace ≡ period = sym b ∙ e in cc (c))
brace_out ed good k b (cgo e m) = absurd (let c : opening_brace ≡ kinds.String = sym b ∙ e in cc (c))
brace_out ed good k b (range f e i) = absurd (let c : opening_brace ≡ word keywords.Range = sym b ∙ e in cc (c))
brace_out ed good k b (unnamed f e i m) = absurd (let c : opening_brace ≡ closing = sym b ∙ e in cc (c))
brace_out ed good k b (tag e m n) = absurd (let c : opening_brace ≡ kinds.String = sym b ∙ e in cc (c))
brace_out ed good k b (named_result (inl e) m) = absurd (let c : opening_brace ≡ kinds.Name = sym b ∙ e in cc (c))
brace_out ed good k b (named_result (inr (inl e)) m) = absurd (let c : opening_brace ≡ opening_bracket = sym b ∙ e in cc (c))
brace_out ed good k b (named_result (inr (inr e)) m) = absurd (let c : opening_brace ≡ word keywords.Struct = sym b ∙ e in cc (c))

module _ (ed : Edition) (theory : (B : ℕ) → Theory ed B) where
  known_step : (B : ℕ) (before : List Lexeme) (s q : Reader) (p : Last) (t : Lexeme) (need : ℕ) → 1 ≤ B → Leads ed B start before s → Known ed before p → Right ed s p →
      parser_step ed s t ≡ Take need q → (r : Last) × Known ed (before ++ t ∷ []) r × Right ed q r
  known_step B before s q p t need one h known right e =
      let l : Led ed p (starts ed s (word keywords.Return)) t.kind (Take need q) = subst (Led ed p (starts ed s (word keywords.Return)) t.kind) e (led ed s p t right) in (
        l.0,
        inr (
          before,
          t,
          p,
          starts ed s (word keywords.Return),
          refl,
          l.1,
          (λ b. goes_may ed theory B before s (word keywords.Return ∷ []) one h (starts_goes ed (word keywords.Return) s refl refl b)),
          (λ m. goes_starts ed (word keywords.Return) [] s refl (may_goes ed theory B before s (word keywords.Return ∷ []) one h m)),
          func_known ed before p known,
          known_func ed before p known,
          (λ f. func_return ed s p right f),
        ),
        l.2,
      )

  runs : (B : ℕ) (ts before : List Lexeme) (s r : Reader) (p : Last) → 1 ≤ B → Leads ed B start before s → Known ed before p → Right ed s p → Leads ed B s ts r →
      (q : Last) × Known ed (before ++ ts) q × Right ed r q
  runs B [] before s r p one h known right lead =
      (p, subst (λ x. Known ed x p) (sym (append-nil before)) known, subst (λ x. Right ed x p) lead right)
  runs B (t ∷ ts) before s r p one h known right lead =
      let k = known_step B before s lead.1 p t lead.0 one h known right lead.2 in
      let there : Leads ed B start (before ++ t ∷ []) lead.1 =
      leads_append ed B before (t ∷ []) start s lead.1 h (lead.0, lead.1, lead.2, lead.3, refl) in
      let rest = runs B ts (before ++ t ∷ []) lead.1 r k.0 one there k.1 k.2 lead.4 in
      (rest.0, subst (λ x. Known ed x rest.0) (append_assoc before (t ∷ []) ts) rest.1, rest.2)

  module _ (B : ℕ) (good : List Lexeme) (r : Reader) (p : Last) (one : 1 ≤ B) (h : Leads ed B start good r) (known : Known ed good p) (right : Right ed r p) where
    may : (ks : List TokenKind) → Goes ed ks r → May ed good ks
    may ks g = goes_may ed theory B good r ks one h g

    goes : (ks : List TokenKind) → May ed good ks → Goes ed ks r
    goes ks m = may_goes ed theory B good r ks one h m

    first : (k : TokenKind) → same opening_brace k ≡ false → is_sure k ≡ true → starts ed r k ≡ true → May ed good (k ∷ [])
    first k ne sure s = may (k ∷ []) (starts_goes ed k r ne sure s)

    comes : (k : TokenKind) → same opening_brace k ≡ false → May ed good (k ∷ []) → starts ed r k ≡ true
    comes k ne m = goes_starts ed k [] r ne (goes (k ∷ []) m)

    not_come : (k : TokenKind) → same opening_brace k ≡ false → is_sure k ≡ true → (May ed good (k ∷ []) → ⊥) → starts ed r k ≡ false
    not_come k ne sure never = by_test (starts ed r k) refl
      where
        by_test : (c : Bool) → starts ed r k ≡ c → c ≡ false
        by_test false e = refl
        by_test true e = absurd (never (first k ne sure e))

    fixed : (k : TokenKind) (x : Expected) → label r k ≡ x → is_fixed x ≡ true → p ≡ last_of_label x
    fixed k x e f = fixed_last p (label r k) (labelled ed r p k right) (ap is_fixed e ∙ f) ∙ ap last_of_label e

    ends_in : (l : Last) (k : TokenKind) → p ≡ l → (l ≡ other → ⊥) → ((q : Last) (b : Bool) (j : TokenKind) → Tells l q b j → j ≡ k) →
        (front : List Lexeme) × EndsIn good front (k ∷ [])
    ends_in l k e ne f = ends ed good p l k known e ne f

    -- a result
    result_to : (k : TokenKind) → is_left_out_at a_type k ≡ false → is_left_out_at an_operand k ≡ false →
        ((k ≡ kinds.Name) ⊎ (k ≡ opening_bracket) ⊎ (k ≡ word keywords.Struct)) → is_result (label r k) ≡ true → LeftOut ed good k
    result_to k a b e q =
        named_result e (may (comma ∷ word keywords.Struct ∷ opening_brace ∷ closing_brace ∷ closing ∷ []) ((result ed k a b r p right).0 q))

    opening_to : starts ed r opening ≡ false → is_left_out_at (label r opening) opening ≡ true → LeftOut ed good opening
    opening_to no_opening q = elim (at_opening (label r opening) q) [
      | inl e ↦ parenthesized_type refl (first (word keywords.Struct) refl refl (sym (typed ed r p right no_opening) ∙ e))
      | inr (inl e) ↦ (let i = ends_in dot period (fixed opening a_selected_name e refl) (λ c. cc (c)) (λ q b j t. t) in assertion i.0 refl i.1)
      | inr (inr e) ↦ (let i = ends_in func (word keywords.Func) (fixed opening a_function_name e refl) (λ c. cc (c)) (λ q b j t. t) in method i.0 refl i.1)
    ]

    closing_to : is_left_out_at (label r closing) closing ≡ true → LeftOut ed good closing
    closing_to q =
        let i = parameter_to ed r p right (at_closing (label r closing) q) in
        elim i.0 [
          | inl e ↦ known_none ed good p known (inl e)
          | inr e ↦ (let f = ends_in name_last kinds.Name e (λ c. cc (c)) (λ q b j t. t.0) in unnamed f.0 refl f.1 (may (kinds.Name ∷ comma ∷ []) i.2))
        ]

    bracket_to : is_left_out_at (label r opening_bracket) opening_bracket ≡ true → LeftOut ed good opening_bracket
    bracket_to q = elim (at_bracket (label r opening_bracket) q) [
      | inl e ↦ result_to opening_bracket refl refl (inr (inl refl)) e
      | inr (inl e) ↦
          (let i = ends_in func (word keywords.Func) (fixed opening_bracket a_function_name e refl) (λ c. cc (c)) (λ q b j t. t) in generic i.0 refl i.1)
      | inr (inr e) ↦
          (let i = func_name_known ed good p known (fixed opening_bracket a_function_opening e refl) in generic_function i.0 refl i.1)
    ]

    -- behind a bracket
    behind_bracket : p ≡ bracket → (front : List Lexeme) × EndsIn good front (opening_bracket ∷ [])
    behind_bracket b = ends_in bracket opening_bracket b (λ c. cc (c)) (λ q b j t. t)

    slice_to : starts ed r closing_bracket ≡ false → is_left_out_at (label r closing_bracket) closing_bracket ≡ true → LeftOut ed good closing_bracket
    slice_to no_bracket q = elim (at_length (label r closing_bracket) q) [
      | inl e ↦
          (let i = behind_bracket (fixed_last p (label r closing_bracket) (labelled ed r p closing_bracket right) e.0 ∙ e.1) in slice i.0 refl i.1)
      | inr e ↦ elim (indexed ed closing_bracket r p right e) [
        | inl b ↦ (let i = behind_bracket b in slice i.0 refl i.1)
        | inr (inl b) ↦ known_none ed good p known (inr (inr (inr b)))
        | inr (inr g) ↦ absurd (false_true (sym no_bracket ∙ goes_starts ed closing_bracket (period ∷ []) r refl g))
      ]
    ]

    colon_to : is_left_out_at (label r colon) colon ≡ true → LeftOut ed good colon
    colon_to q = elim (at_colon (label r colon) q) [
      | inl e ↦ elim (indexed ed colon r p right e) [
        | inl b ↦ (let i = behind_bracket b in
            slice_start i.0 refl i.1 (may index_tail ((measured ed r (subst (λ z. Right ed r z) b right)).0 e)))
        | inr (inl b) ↦ known_none ed good p known (inr (inr (inr b)))
        | inr (inr g) ↦ slice_end refl (may index_end g)
      ]
      | inr (inl e) ↦ slice_end refl (may index_end ((index ed r p right).0 e))
      | inr (inr (inl e)) ↦ key refl (may (comma ∷ opening_brace ∷ []) ((element ed r p right).0 e))
      | inr (inr (inr e)) ↦ (let i = first_known ed good p known (fixed colon behind_a_name e refl) in out.label i.0 refl i.1 i.2)
    ]

    period_to : is_left_out_at (label r period) period ≡ true → LeftOut ed good period
    period_to q =
        let e = at_period (label r period) q in
        let i = path_to ed period refl refl r p right (import_path_is (label r period) e) in
        elim (import_name ed r p right e) [
          | inl n ↦ known_none ed good p known (inr (inl n))
          | inr n ↦
              dot_import refl (may (kinds.Name ∷ []) n) (may (kinds.String ∷ []) i.0) (λ m. false_true (sym i.1 ∙ comes kinds.Integer refl m))
        ]

    assign_to : is_left_out_at (label r assign) assign ≡ true → LeftOut ed good assign
    assign_to q =
        let i = alias_to ed r p right (at_assign (label r assign) q) in
        let f = ends_in name_last kinds.Name i.0 (λ c. cc (c)) (λ q b j t. t.0) in
        alias f.0 refl f.1 (first (word keywords.Struct) refl refl i.1) (λ m. false_true (sym i.2 ∙ comes comma refl m))

    string_to : is_left_out_at (label r kinds.String) kinds.String ≡ true → LeftOut ed good kinds.String
    string_to q = elim (at_string (label r kinds.String) q) [
      | inl e ↦ (let i = field_to ed r p right e in
          tag refl (first closing_brace refl refl i.0) (may (semicolon ∷ kinds.Name ∷ word keywords.Struct ∷ []) i.1))
      | inr e ↦ cgo refl (may (kinds.String ∷ []) (path_to ed kinds.String refl refl r p right e).0)
    ]

    name_to : is_left_out_at (label r kinds.Name) kinds.Name ≡ true → LeftOut ed good kinds.Name
    name_to q = elim (at_name (label r kinds.Name) q) [
      | inl e ↦ result_to kinds.Name refl refl (inl refl) e
      | inr e ↦ (let i = jump_known ed good p known (fixed kinds.Name behind_a_jump e refl) in jump_label i.0 refl i.1)
    ]

    range_to : is_left_out_at (label r (word keywords.Range)) (word keywords.Range) ≡ true → LeftOut ed good (word keywords.Range)
    range_to q =
        let i = ends_in equals assign (fixed (word keywords.Range) a_value (at_range (label r (word keywords.Range)) q) refl) (λ c. cc (c)) (λ q b j t. t) in
        range i.0 refl i.1

    pointer_to : (k : TokenKind) → begins_left_out k ≡ true → is_left_out_at (label r k) k ≡ starts ed r (word keywords.Struct) → is_left_out_at (label r k) k ≡ true →
        LeftOut ed good k
    pointer_to k b e q = pointer b (first (word keywords.Struct) refl refl (sym e ∙ q))

    out_to : (k : TokenKind) → (is_sure k ≡ true → starts ed r k ≡ false) → is_out k ≡ true → is_left_out_at (label r k) k ≡ true → LeftOut ed good k
    out_to (kinds.Keyword keywords.Func) sure o q = pointer_to (word keywords.Func) refl (pointers ed (word keywords.Func) (λ x. refl) r p right) q
    out_to (kinds.Punctuation marks.Star) sure o q =
        pointer_to (kinds.Punctuation marks.Star) refl (pointers ed (kinds.Punctuation marks.Star) like_star r p right) q
    out_to (kinds.Punctuation marks.Ampersand) sure o q =
        pointer_to (kinds.Punctuation marks.Ampersand) refl (pointers ed (kinds.Punctuation marks.Ampersand) like_ampersand r p right) q
    out_to (kinds.Punctuation marks.OpenParenthesis) sure o q = opening_to (sure refl) q
    out_to (kinds.Punctuation marks.CloseParenthesis) sure o q = closing_to q
    out_to (kinds.Punctuation marks.OpenBracket) sure o q = bracket_to q
    out_to (kinds.Punctuation marks.CloseBracket) sure o q = slice_to (sure refl) q
    out_to (kinds.Punctuation marks.Colon) sure o q = colon_to q
    out_to (kinds.Punctuation marks.Period) sure o q = period_to q
    out_to (kinds.Punctuation marks.Assign) sure o q = assign_to q
    out_to kinds.String sure o q = string_to q
    out_to kinds.Name sure o q = name_to q
    out_to (kinds.Keyword keywords.Struct) sure o q = result_to (word keywords.Struct) refl refl (inr (inr refl)) (at_struct (label r (word keywords.Struct)) q)
    out_to (kinds.Keyword keywords.Type) sure o q = local_type refl (first (word keywords.Return) refl refl (sym (local ed r p right) ∙ q))
    out_to (kinds.Keyword keywords.Range) sure o q = range_to q
    out_to _ sure o q = absurd (false_true o)

    -- and back

    abbrev Out : TokenKind → Type 0
    Out k = is_left_out_at (label r k) k ≡ true

    label_is : (k : TokenKind) (l : Last) → p ≡ l → LabelAt l (label r k)
    label_is k l e = subst (λ z. LabelAt z (label r k)) e (labelled ed r p k right)

    before : (k : TokenKind) (front : List Lexeme) → EndsIn good front (k ∷ []) → is_special k ≡ true → (k ≡ kinds.Name → ⊥) → p ≡ last_of_kind k
    before k front i s ne = let l = last_of ed good p k front known i in tells_last p l.0 l.1 k l.2 s ne

    func_is : EndsFunc good → p ≡ func
    func_is i = is_func_last p (known_func ed good p known i)

    named_is : (front : List Lexeme) → EndsIn good front (kinds.Name ∷ []) → is_named p ≡ true
    named_is front i = let l = last_of ed good p kinds.Name front known i in tells_name p l.0 l.1 l.2

    pointer_from : (k : TokenKind) → begins_left_out k ≡ true → starts ed r (word keywords.Struct) ≡ true → Out k
    pointer_from (kinds.Keyword keywords.Func) b s = pointers ed (word keywords.Func) (λ x. refl) r p right ∙ s
    pointer_from (kinds.Punctuation marks.Star) b s = pointers ed (kinds.Punctuation marks.Star) like_star r p right ∙ s
    pointer_from (kinds.Punctuation marks.Ampersand) b s = pointers ed (kinds.Punctuation marks.Ampersand) like_ampersand r p right ∙ s
    pointer_from _ b s = absurd (false_true b)

    slice_from : (front : List Lexeme) → EndsIn good front (opening_bracket ∷ []) → Out closing_bracket
    slice_from front i = elim (label_is closing_bracket bracket (before opening_bracket front i refl (λ c. cc (c)))) [
      | inl e ↦ ap (λ x. is_left_out_at x closing_bracket) e
      | inr e ↦ ap (λ x. is_left_out_at x closing_bracket) e
    ]

    slice_start_from : (front : List Lexeme) → EndsIn good front (opening_bracket ∷ []) → Goes ed index_tail r → Out colon
    slice_start_from front i g =
        let b = before opening_bracket front i refl (λ c. cc (c)) in
        elim (label_is colon bracket b) [
          | inl e ↦ absurd ((measured ed r (subst (λ z. Right ed r z) b right)).1 (ap is_length e) g)
          | inr e ↦ ap (λ x. is_left_out_at x colon) e
        ]

    label_from : (front : List Lexeme) → EndsIn good front (kinds.Name ∷ []) → May ed front (word keywords.Return ∷ []) → Out colon
    label_from front i m =
        let l = last_of ed good p kinds.Name front known i in
        ap (λ x. is_left_out_at x colon) (label_is colon first_name (tells_first p l.0 l.1 l.2 (l.3 m) l.5))

    jump_from : (k : TokenKind) (front : List Lexeme) → EndsIn good front (k ∷ []) → is_special k ≡ true → (k ≡ kinds.Name → ⊥) → last_of_kind k ≡ jump → Out kinds.Name
    jump_from k front i s ne e = ap (λ x. is_left_out_at x kinds.Name) (label_is kinds.Name jump (before k front i s ne ∙ e))

    generic_from : (front : List Lexeme) → EndsIn good front (word keywords.Func ∷ kinds.Name ∷ []) → Out opening_bracket
    generic_from front i =
        let s = split_two good front i in
        let l = last_of ed good p kinds.Name s.0 known s.1 in
        ap (λ x. is_left_out_at x opening_bracket) (label_is opening_bracket func_name (tells_func_name p l.0 l.1 l.2 (l.4 s.2)))

    key_from : starts ed r colon ≡ false → Goes ed (comma ∷ opening_brace ∷ []) r → Out colon
    key_from no_colon g = elim ((element ed r p right).1 g) [
      | inl e ↦ element_colon (label r colon) e
      | inr (b, inl s) ↦ absurd (false_true (sym no_colon ∙ s))
      | inr (b, inr k) ↦ known_none ed good p known (inr (inr (inl (is_keyed_last p k))))
    ]

    result_from : (k : TokenKind) → is_left_out_at a_type k ≡ false → is_left_out_at an_operand k ≡ false → is_left_out_at a_result_end k ≡ true →
        Goes ed (comma ∷ word keywords.Struct ∷ opening_brace ∷ closing_brace ∷ closing ∷ []) r → Out k
    result_from k a b c g = elim ((result ed k a b r p right).1 g) [
      | inl e ↦ ap (λ x. is_left_out_at x k) (result_is (label r k) e) ∙ c
      | inr e ↦ absurd (false_true e.0)
    ]

    sure_of : (k j : TokenKind) → k ≡ j → is_sure j ≡ true → (is_sure k ≡ true → starts ed r k ≡ false) → starts ed r j ≡ false
    sure_of k j e s sure = subst (λ i. starts ed r i ≡ false) e (sure (ap is_sure e ∙ s))

    module _ (k : TokenKind) (sure : is_sure k ≡ true → starts ed r k ≡ false) (no_integer : k ≡ kinds.String → starts ed r kinds.Integer ≡ false) where
      there : (j : TokenKind) → k ≡ j → Out j → is_left_out (label r k) k ≡ true
      there j e o = right_true (is_never_read k) (is_left_out_at (label r k) k) (subst Out (sym e) o)

      out_from : LeftOut ed good k → is_left_out (label r k) k ≡ true
      out_from (anywhere e) = left_true (is_never_read k) (is_left_out_at (label r k) k) e
      out_from (pointer b m) = there k refl (pointer_from k b (comes (word keywords.Struct) refl m))
      out_from (parenthesized_type e m) =
          there opening e (typed_opening (label r opening) (typed ed r p right (sure_of k opening e refl sure) ∙ comes (word keywords.Struct) refl m))
      out_from (method front e i) = there opening e (ap (λ x. is_left_out_at x opening) (label_is opening func (func_is (front, i))))
      out_from (generic front e i) =
          there opening_bracket e (ap (λ x. is_left_out_at x opening_bracket) (label_is opening_bracket func (func_is (front, i))))
      out_from (generic_function front e i) = there opening_bracket e (generic_from front i)
      out_from (slice front e i) = there closing_bracket e (slice_from front i)
      out_from (slice_end e m) = there colon e ((index ed r p right).1 (goes index_end m))
      out_from (slice_start front e i m) = there colon e (slice_start_from front i (goes index_tail m))
      out_from (out.label front e i m) = there colon e (label_from front i m)
      out_from (jump_label front e (inl i)) = there kinds.Name e (jump_from (word keywords.Break) front i refl (λ c. cc (c)) refl)
      out_from (jump_label front e (inr i)) = there kinds.Name e (jump_from (word keywords.Continue) front i refl (λ c. cc (c)) refl)
      out_from (key e m) = there colon e (key_from (sure_of k colon e refl sure) (goes (comma ∷ opening_brace ∷ []) m))
      out_from (assertion front e i) =
          there opening e (ap (λ x. is_left_out_at x opening) (label_is opening dot (before period front i refl (λ c. cc (c)))))
      out_from (alias front e i m never) =
          there assign e (declared_assign (label r assign)
          (alias_from ed r p right (named_is front i) (comes (word keywords.Struct) refl m) (not_come comma refl refl never)))
      out_from (local_type e m) = there (word keywords.Type) e (local ed r p right ∙ comes (word keywords.Return) refl m)
      out_from (dot_import e n s never) =
          there period e (import_period (label r period)
          (path_from ed period refl refl is_import refl r p right (λ _. inr (comes kinds.Name refl n)) (comes kinds.String refl s)
          (not_come kinds.Integer refl refl never)))
      out_from (cgo e s) =
          there kinds.String e (path_string (label r kinds.String)
          (path_from ed kinds.String refl refl is_path refl r p right (λ _. inl refl) (comes kinds.String refl s) (no_integer e)))
      out_from (range front e i) =
          there (word keywords.Range) e
          (ap (λ x. is_left_out_at x (word keywords.Range)) (label_is (word keywords.Range) equals (before assign front i refl (λ c. cc (c)))))
      out_from (unnamed front e i m) =
          there closing e (parameter_closing (label r closing)
          (parameter_from ed r p right (named_behind p (named_is front i)) (goes (kinds.Name ∷ comma ∷ []) m)))
      out_from (tag e m n) =
          there kinds.String e (field_string (label r kinds.String)
          (field_from ed r p right (comes closing_brace refl m, goes (semicolon ∷ kinds.Name ∷ word keywords.Struct ∷ []) n)))
      out_from (named_result (inl e) m) =
          there kinds.Name e (result_from kinds.Name refl refl refl (goes (comma ∷ word keywords.Struct ∷ opening_brace ∷ closing_brace ∷ closing ∷ []) m))
      out_from (named_result (inr (inl e)) m) =
          there opening_bracket e
          (result_from opening_bracket refl refl refl (goes (comma ∷ word keywords.Struct ∷ opening_brace ∷ closing_brace ∷ closing ∷ []) m))
      out_from (named_result (inr (inr e)) m) =
          there (word keywords.Struct) e
          (result_from (word keywords.Struct) refl refl refl (goes (comma ∷ word keywords.Struct ∷ opening_brace ∷ closing_brace ∷ closing ∷ []) m))

  -- both ways
  says_fail : (r : Reader) (t : Lexeme) (x : Expected) → same opening_brace t.kind ≡ false → parser_step ed r t ≡ Fail x →
      (x ≡ label r t.kind) × (is_sure t.kind ≡ true → starts ed r t.kind ≡ false)
  says_fail r t x ne e = subst (Says t.kind (starts ed r t.kind) (label r t.kind)) e (said ed r t ne)

  left_out_to : (B : ℕ) (good : List Lexeme) (r : Reader) (p : Last) (t : Lexeme) (x : Expected) → 1 ≤ B → Leads ed B start good r → Known ed good p → Right ed r p →
      parser_step ed r t ≡ Fail x → is_left_out x t.kind ≡ true → LeftOut ed good t.kind
  left_out_to B good r p t x one h known right e out = by_test (same opening_brace t.kind) refl
    where
      by_test : (c : Bool) → same opening_brace t.kind ≡ c → LeftOut ed good t.kind
      by_test true b = absurd (false_true (sym (brace_in x) ∙ ap (λ k. is_left_out x k) (sym (are_same opening_brace t.kind b)) ∙ out))
      by_test false ne =
          let f = says_fail r t x ne e in
          elim (either_true (is_never_read t.kind) (is_left_out_at x t.kind) out) [
            | inl never ↦ anywhere never
            | inr q ↦
                out_to B good r p one h known right t.kind f.1 (out_kind x t.kind q) (subst (λ y. is_left_out_at y t.kind ≡ true) f.0 q)
          ]

  left_out_from : (B : ℕ) (good : List Lexeme) (r : Reader) (p : Last) (t : Lexeme) (x : Expected) → 1 ≤ B → Leads ed B start good r → Known ed good p → Right ed r p →
      parser_step ed r t ≡ Fail x → LeftOut ed good t.kind → is_left_out x t.kind ≡ true
  left_out_from B good r p t x one h known right e out = by_test (same opening_brace t.kind) refl
    where
      integer : (c : Bool) → starts ed r kinds.Integer ≡ c → t.kind ≡ kinds.String → c ≡ false
      integer false i is = refl
      integer true i is =
          let taken : GoesBy (Goes ed []) (parser_step ed r t) =
          subst (λ j. GoesBy (Goes ed []) (parser_step ed r (tok j t.text t.place))) (sym is) (string_taken ed r p right i t.text t.place) in
          absurd (subst (GoesBy (Goes ed [])) e taken)

      by_test : (c : Bool) → same opening_brace t.kind ≡ c → is_left_out x t.kind ≡ true
      by_test true b = brace_out ed good t.kind (are_same opening_brace t.kind b) out
      by_test false ne =
          let f = says_fail r t x ne e in
          subst (λ y. is_left_out y t.kind ≡ true) (sym f.0)
          (out_from B good r p one h known right t.kind f.1 (λ is. integer (starts ed r kinds.Integer) refl is) out)

  pub told : Told ed
  told B good r t ts x one h e = by_test (is_left_out x t.kind) refl
    where
      by_test : (c : Bool) → is_left_out x t.kind ≡ c →
          ((◌≡◌ {A = ℕ} (if c then 2 else 3) 2) × LeftOut ed good t.kind) ⊎ ((◌≡◌ {A = ℕ} (if c then 2 else 3) 3) × (LeftOut ed good t.kind → ⊥))
      by_test true q =
          let k = runs B good [] start r other one refl (inl (refl, refl)) (start_right ed) h in
          inl (refl, left_out_to B good r k.0 t x one h k.1 k.2 e q)
      by_test false q =
          let k = runs B good [] start r other one refl (inl (refl, refl)) (start_right ed) h in
          inr (refl, λ out. false_true (sym q ∙ left_out_from B good r k.0 t x one h k.1 k.2 e out))
