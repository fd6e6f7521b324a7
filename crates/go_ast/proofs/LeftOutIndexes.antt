-- Behind the whole expression of an index a colon is left out: there, and only there, its bracket may come and a period.
use Rattle.std.proofs.Common.{◌≡◌, ℕ, Bool, true, false, ◌&&◌, List, [], ◌∷◌, Option, Some, None, refl, sym, ◌∙◌, subst, ap}
use Rattle.go_text.specs.declared.edition.Edition.{Edition}
use Rattle.go_text.specs.Editions.{has_slices}
use Rattle.go_text.specs.declared.place.Place.{Place}
use Rattle.go_scan.specs.declared.token.TokenKind.{TokenKind}
use Rattle.go_scan.specs.declared.keyword.Keyword.TheVariants as keywords
use Rattle.go_ast.specs.Kinds.{same}
use Rattle.go_ast.specs.Expected.{Expected, an_operand, a_length, an_index, an_index_end, a_selected_name, an_element_end, a_field_end, a_result_end, behind_a_jump, a_function_name, a_function_opening, another, is_left_out_at}
use Rattle.go_ast.specs.Trees.{Name, TypeExpr, Expression, Simple, call_statement, conditional, no_else}
use Rattle.go_ast.specs.Grammar.{Lexeme, opening_brace, closing_bracket, period, colon, define, is_call, opening_bracket}
use Rattle.go_ast.specs.Machine.{ListKind, fields, arguments, elements, const_specs, var_specs, type_specs, import_specs, statements, parameters, results, Position, Reader, ended, token, package_name, import_path, optional, type, optional_type, expr, optional_expr, suffixes, operators, more_names, more_exprs, list_start, list_end, lefts, else_part, clause_start, clause_end, import_end, decl_end, Move, Take, Fail, cond, names_if, may_define, is_header, literal_type, on_brace, on_define, behind_left, parser_step, newer, operands, on_operand, on_expr, keyword}
use Rattle.go_ast.proofs.Same.{are_same}
use Rattle.go_ast.proofs.Base.{false_true}
use Rattle.go_ast.proofs.LeftOutStates.{Last, other, names, tok, GoesBy, Goes, label, pick, MarkOk, TokenOk, EndOk, Right, under, NewerOk, OptionalOk, OptionalKind, starts}
use Rattle.go_ast.proofs.LeftOutLed.{newer_label}
use Rattle.go_ast.proofs.LeftOutTests.{import_off, type_off, expr_off, left_off, clause_off}
use Rattle.go_ast.proofs.LeftOutMay.{goes_starts, starts_goes}
use Rattle.go_ast.proofs.LeftOutLabels.{by_call, call_end}
use Rattle.go_ast.proofs.LeftOutPlaces.{optional_type_is}

-- what is passed on to the state behind

pub brace_step : (h : Bool) (l : ℕ) (behind : Expression → Reader) (t : Lexeme) (m : Move) (o : Option TypeExpr) → same opening_brace t.kind ≡ false →
    on_brace h l behind t m o ≡ m
brace_step true l behind t m o e = refl
brace_step false l behind t m None e = refl
brace_step false l behind t m (Some a) e = by_test (same opening_brace t.kind) e _
  where
    by_test : (c : Bool) → c ≡ false → (n : Move) → cond c n m ≡ m
    by_test true d n = absurd (false_true (sym d))
    by_test false d n = refl

pub define_step : (m : Position) (h : Bool) (l : ℕ) (next : Simple → Reader) (range : Name → Expression → Reader) (t : Lexeme) (x : Move) (o : Option (List Name)) →
    same define t.kind ≡ false → on_define m h l next range t x o ≡ x
define_step m h l next range t x None e = refl
define_step m h l next range t x (Some ns) e = by_test (same define t.kind) e _
  where
    by_test : (c : Bool) → c ≡ false → (n : Move) → cond (c && may_define m) n x ≡ x
    by_test true d n = absurd (false_true (sym d))
    by_test false d n = refl

pub header_step : (c d : Bool) (m n : Move) → d ≡ false → cond (c && d) m n ≡ n
header_step true true m n e = absurd (false_true (sym e))
header_step true false m n e = refl
header_step false d m n e = refl

-- but for a bracket and `struct`, a call's first operand begins as an expression
pub operand_step : (c : Bool) (l : ℕ) (next : Expression → Reader) (t : Lexeme) → same opening_bracket t.kind ≡ false → same (keyword keywords.Struct) t.kind ≡ false →
    on_operand c l next t ≡ on_expr 5 false l an_operand next t
operand_step false l next t e f = refl
operand_step true l next t e f = by_test (same opening_bracket t.kind) (same (keyword keywords.Struct) t.kind) e f _ _
  where
    by_test : (c d : Bool) → c ≡ false → d ≡ false → (m n : Move) →
        cond c m (cond d n (on_expr 5 false l an_operand next t)) ≡ on_expr 5 false l an_operand next t
    by_test true d e f m n = absurd (false_true (sym e))
    by_test false true e f m n = absurd (false_true (sym f))
    by_test false false e f m n = refl

abbrev pub index_end : List TokenKind
index_end = closing_bracket ∷ period ∷ []

abbrev pub is_index_end : Expected → Bool
is_index_end an_index_end = true
is_index_end _ = false

abbrev Index : (ed : Edition) → Reader → Type 0
Index ed s = (is_index_end (label s colon) ≡ true → Goes ed index_end s) × (Goes ed index_end s → is_left_out_at (label s colon) colon ≡ true)

no_index : (ed : Edition) → (s : Reader) → is_index_end (label s colon) ≡ false → (Goes ed index_end s → ⊥) → Index ed s
no_index ed s e f = ((λ q. absurd (false_true (sym e ∙ q))), λ g. absurd (f g))

bracket_not : (ed : Edition) → (p : Last) (kind : TokenKind) (need : ℕ) (x : Expected) (next : Lexeme → Reader) → MarkOk ed p kind next → Goes ed index_end (token kind need x next) → ⊥
bracket_not ed p kind need x next off g = by_test (same kind closing_bracket) refl g.2
  where
    by_test : (c : Bool) → same kind closing_bracket ≡ c →
        GoesBy (Goes ed (period ∷ [])) (cond c (Take need (next (tok closing_bracket g.0 g.1))) (Fail x)) → ⊥
    by_test false e h = h
    by_test true e h =
        let quiet : MarkOk ed p closing_bracket next = subst (λ k. MarkOk ed p k next) (sym (are_same kind closing_bracket e)) off in
        let t : Lexeme = tok closing_bracket g.0 g.1 in
        false_true (sym (quiet t) ∙ goes_starts ed period [] (next t) refl h)

token_index : (ed : Edition) → (x : Expected) (p : Last) (kind : TokenKind) (need : ℕ) (next : Lexeme → Reader) → TokenOk ed p kind x next → Index ed (token kind need x next)
token_index ed another p kind need next h = no_index ed (token kind need another next) refl (bracket_not ed p kind need another next h.2)
token_index ed an_index_end p kind need next h = (
  (λ q. subst (λ k. Goes ed index_end (token k need an_index_end next)) (sym h.1) (
    [],
    record { line = 0; column = 0 },
    starts_goes ed period (next (tok closing_bracket [] (record { line = 0; column = 0 }))) refl refl (h.2 (tok closing_bracket [] (record { line = 0; column = 0 }))),
  )),
  (λ g. refl),
)
token_index ed a_selected_name p kind need next h =
    no_index ed (token kind need a_selected_name next) refl (λ g. (subst (λ k. Goes ed index_end (token k need a_selected_name next)) h.1 g).2)
token_index ed a_function_name p kind need next h =
    no_index ed (token kind need a_function_name next) refl (λ g. (subst (λ k. Goes ed index_end (token k need a_function_name next)) h.1 g).2)
token_index ed a_function_opening p kind need next h =
    no_index ed (token kind need a_function_opening next) refl (λ g. (subst (λ k. Goes ed index_end (token k need a_function_opening next)) h.1 g).2)
token_index ed _ p kind need next h = absurd h

start_index : (ed : Edition) → (k : ListKind) (front : _) (next : _) → Index ed (list_start k front next)
start_index ed (fields l) front next = no_index ed (list_start (fields l) front next) refl (λ g. g.2)
start_index ed (arguments l) front next = no_index ed (list_start (arguments l) front next) refl (λ g. g.2)
start_index ed (elements l) front next = no_index ed (list_start (elements l) front next) refl (λ g. g.2)
start_index ed (const_specs l) front next = no_index ed (list_start (const_specs l) front next) refl (λ g. g.2)
start_index ed (var_specs l) front next = no_index ed (list_start (var_specs l) front next) refl (λ g. g.2)
start_index ed (type_specs l) front next = no_index ed (list_start (type_specs l) front next) refl (λ g. g.2)
start_index ed import_specs front next = no_index ed (list_start import_specs front next) refl (λ g. g.2)
start_index ed (statements l) front next = no_index ed (list_start (statements l) front next) refl (λ g. g.2)
start_index ed parameters front next = no_index ed (list_start parameters front next) refl (λ g. g.2)
start_index ed results front next = no_index ed (list_start results front next) refl (λ g. g.2)

list_index : (ed : Edition) → (k : ListKind) (x : Expected) (p : Last) (front : _) (next : _) → EndOk k x p → Index ed (list_end k x front next)
list_index ed (fields l) a_field_end p front next h = no_index ed (list_end (fields l) a_field_end front next) refl (λ g. g.2)
list_index ed (elements l) an_element_end p front next h = no_index ed (list_end (elements l) an_element_end front next) refl (λ g. g.2)
list_index ed (elements l) another p front next h = no_index ed (list_end (elements l) another front next) refl (λ g. g.2)
list_index ed (statements l) behind_a_jump p front next h = no_index ed (list_end (statements l) behind_a_jump front next) refl (λ g. g.2)
list_index ed (statements l) another p front next h = no_index ed (list_end (statements l) another front next) refl (λ g. g.2)
list_index ed results a_result_end p front next h = no_index ed (list_end results a_result_end front next) refl (λ g. g.2)
list_index ed (arguments l) another p front next h = no_index ed (list_end (arguments l) another front next) refl (λ g. g.2)
list_index ed (const_specs l) another p front next h = no_index ed (list_end (const_specs l) another front next) refl (λ g. g.2)
list_index ed (var_specs l) another p front next h = no_index ed (list_end (var_specs l) another front next) refl (λ g. g.2)
list_index ed (type_specs l) another p front next h = no_index ed (list_end (type_specs l) another front next) refl (λ g. g.2)
list_index ed import_specs another p front next h = no_index ed (list_end import_specs another front next) refl (λ g. g.2)
list_index ed parameters another p front next h = no_index ed (list_end parameters another front next) refl (λ g. g.2)
list_index ed _ _ p front next h = absurd h

-- the same tokens, from a state that passes them on
pub moved : (P : Reader → Type 0) (m n : Move) → m ≡ n → GoesBy P m → GoesBy P n
moved P m n e g = subst (GoesBy P) e g

abbrev at_period : (ed : Edition) → Move → Type 0
at_period ed m = GoesBy (Goes ed (period ∷ [])) m

-- in front of a bracket that may be missing an index is due
optional_index : (ed : Edition) → (kind : TokenKind) (p : Last) (need : ℕ) (some : Lexeme → Reader) (none : Reader) → OptionalOk ed p kind some none → Index ed none →
    Index ed (optional kind need some none)
optional_index ed kind p need some none ok i = by_test (same kind closing_bracket) refl
  where
    go : Bool → List ℕ → Place → Move
    go c text place = cond c (Take need (some (tok closing_bracket text place))) (parser_step ed none (tok closing_bracket text place))

    by_test : (c : Bool) → same kind closing_bracket ≡ c → Index ed (optional kind need some none)
    by_test true e =
        let here : OptionalKind ed closing_bracket p some none = subst (λ x. OptionalKind ed x p some none) (sym (are_same kind closing_bracket e)) ok.2 in
        ((λ q. absurd (false_true (sym (ap is_index_end here.1) ∙ q))), λ g. ap (λ y. is_left_out_at y colon) here.1)
    by_test false e = (
      (λ q. (let g = i.0 q in (g.0, g.1, subst (λ c. at_period ed (go c g.0 g.1)) (sym e) g.2))),
      (λ g. i.1 (g.0, g.1, subst (λ c. at_period ed (go c g.0 g.1)) e g.2)),
    )

newer_closing : (ed : Edition) → (p : Last) (kind : TokenKind) (x : Expected) (some : Lexeme → Reader) → NewerOk ed p kind x some → closing_bracket ≡ kind →
    (is_index_end x ≡ false) × ((t : Lexeme) → starts ed (some t) period ≡ false)
newer_closing ed p kind a_length some h e = (refl, h.2)
newer_closing ed p kind an_index some h e = absurd (let c : closing_bracket ≡ colon = e ∙ h.1 in cc (c))
newer_closing ed p kind an_index_end some h e = absurd (let c : closing_bracket ≡ colon = e ∙ h.1 in cc (c))
newer_closing ed p kind _ some h e = absurd h

newer_index : (ed : Edition) → (kind : TokenKind) (p : Last) (need : ℕ) (x : Expected) (some : Lexeme → Reader) (none : Reader) → NewerOk ed p kind x some →
    label none colon ≡ x → Index ed none → Index ed (newer kind need x some none)
newer_index ed kind p need x some none ok alike i = by_test (same kind closing_bracket) refl
  where
    same_label : label (newer kind need x some none) colon ≡ label none colon
    same_label = newer_label kind need x some none colon alike

    go : Bool → List ℕ → Place → Move
    go c text place = cond c (cond (has_slices ed) (Take need (some (tok closing_bracket text place))) (Fail x)) (parser_step ed none (tok closing_bracket text place))

    never : (t : Lexeme) → starts ed (some t) period ≡ false → (b : Bool) → at_period ed (cond b (Take need (some t)) (Fail x)) → ⊥
    never t quiet true g = false_true (sym quiet ∙ goes_starts ed period [] (some t) refl g)
    never t quiet false g = g

    by_test : (c : Bool) → same kind closing_bracket ≡ c → Index ed (newer kind need x some none)
    by_test true e =
        let here = newer_closing ed p kind x some ok (are_same kind closing_bracket e) in
        no_index ed (newer kind need x some none) (ap is_index_end (same_label ∙ alike) ∙ here.0)
        (λ g. never (tok closing_bracket g.0 g.1) (here.1 (tok closing_bracket g.0 g.1)) (has_slices ed) (subst (λ c. at_period ed (go c g.0 g.1)) e g.2))
    by_test false e = (
      (λ q. (let g = i.0 (sym (ap is_index_end same_label) ∙ q) in (g.0, g.1, subst (λ c. at_period ed (go c g.0 g.1)) (sym e) g.2))),
      (λ g. ap (λ y. is_left_out_at y colon) same_label ∙ i.1 (g.0, g.1, subst (λ c. at_period ed (go c g.0 g.1)) e g.2)),
    )

pub index : (ed : Edition) → (s : Reader) (p : Last) → Right ed s p → Index ed s
index ed (ended f) p r = no_index ed (ended f) refl (λ g. g.2)
index ed (token kind need x next) p r = token_index ed x p kind need next r.0
index ed (package_name next) p r = no_index ed (package_name next) refl (λ g. g.2)
index ed (import_path x next) p r = no_index ed (import_path x next) (import_off ed is_index_end refl refl p x r.0) (λ g. g.2)
index ed (optional kind need some none) p r = optional_index ed kind p need some none r.0 (index ed none (under kind p) r.2)
index ed (newer kind need x some none) p r = newer_index ed kind p need x some none r.0 (r.3 colon) (index ed none p r.2)
index ed (type l x next) p r = no_index ed (type l x next) (type_off ed is_index_end refl refl refl p x next r.0) (λ g. g.2)
index ed (optional_type l x some none) p r =
    subst (λ y. Index ed (optional_type l y some none)) (sym (optional_type_is ed p x some none r.0)) (index ed none p r.2)
index ed (expr n h l x next) p r =
    no_index ed (expr n h l x next) (expr_off ed is_index_end refl refl refl refl p x (expr n h l x next) r.0) (λ g. g.2)
index ed (optional_expr h l x some none) p r = subst (λ y. Index ed (optional_expr h l y some none)) (sym r.1) (index ed none p r.4)
index ed (suffixes h l e next) p r =
    let i = index ed (next e) p r.0 in
    let at = λ (text : List ℕ) (place : Place). brace_step h l (λ a. suffixes h l a next) (tok closing_bracket text place) (parser_step ed (next e) (tok closing_bracket text place))
    (literal_type e) refl in (
      (λ q. (let g = i.0 q in (g.0, g.1, moved (Goes ed (period ∷ [])) _ _ (sym (at g.0 g.1)) g.2))),
      (λ g. i.1 (g.0, g.1, moved (Goes ed (period ∷ [])) _ _ (at g.0 g.1) g.2)),
    )
index ed (operators n h l e next) p r = index ed (next e) p r.0
index ed (more_names front next) p r = index ed (next front) names (r.1 front)
index ed (more_exprs h l front next) p r = index ed (next front) p (r.1 front p r.0)
index ed (list_start s front next) p r = start_index ed s front next
index ed (list_end s x front next) p r = list_index ed s x p front next r.0
index ed (operands l next) p r =
    no_index ed (operands l next) refl
    (λ g. moved (Goes ed (period ∷ [])) _ _ (operand_step (has_slices ed) l (λ e. list_end (arguments l) another (e ∷ []) next) (tok closing_bracket g.0 g.1) refl refl) g.2)
index ed (lefts m h l [] next alone range) p r = no_index ed (lefts m h l [] next alone range) refl (λ g. g.2)
index ed (lefts m h l (e ∷ []) next alone range) p r =
    let behind : Simple → Reader = next in
    let go : List ℕ → Place → Move = λ text place.
    cond (is_call e) (parser_step ed (behind (call_statement e)) (tok closing_bracket text place)) (Fail (behind_left m e)) in
    let at = λ (text : List ℕ) (place : Place).
    define_step m h l next range (tok closing_bracket text place)
    (cond (is_header m && false) (parser_step ed (alone e) (tok closing_bracket text place)) (go text place)) (names_if (e ∷ [])) refl
    ∙ header_step (is_header m) false (parser_step ed (alone e) (tok closing_bracket text place)) (go text place) refl in
    let part = by_call
    (λ c. (is_index_end (pick c (label (next (call_statement e)) colon) (behind_left m e)) ≡ true →
    (text : List ℕ) × (place : Place)
    × GoesBy (Goes ed (period ∷ [])) (cond c (parser_step ed (next (call_statement e)) (tok closing_bracket text place)) (Fail (behind_left m e))))
    × ((text : List ℕ) × (place : Place)
    × GoesBy (Goes ed (period ∷ [])) (cond c (parser_step ed (next (call_statement e)) (tok closing_bracket text place)) (Fail (behind_left m e))) →
    is_left_out_at (pick c (label (next (call_statement e)) colon) (behind_left m e)) colon ≡ true)) (is_call e)
    (λ c. index ed (next (call_statement e)) p (r.1 (call_statement e) p (call_end m e p r.0 c)))
    (λ c. ((λ q. absurd (false_true (sym (left_off ed is_index_end refl refl m e) ∙ q))), λ g. absurd g.2)) in (
      (λ q. (let g = part.0 q in (g.0, g.1, moved (Goes ed (period ∷ [])) _ _ (sym (at g.0 g.1)) g.2))),
      (λ g. part.1 (g.0, g.1, moved (Goes ed (period ∷ [])) _ _ (at g.0 g.1) g.2)),
    )
index ed (lefts m h l (e ∷ f ∷ es) next alone range) p r =
    no_index ed (lefts m h l (e ∷ f ∷ es) next alone range) refl
    (λ g. moved (Goes ed (period ∷ [])) _ _ (define_step m h l next range (tok closing_bracket g.0 g.1) (Fail another) (names_if (e ∷ f ∷ es)) refl) g.2)
index ed (else_part l q i c b next) p r = index ed (next (conditional q i c b no_else)) other (r.1 (conditional q i c b no_else))
index ed (clause_start l done q values front next) p r = no_index ed (clause_start l done q values front next) refl (λ g. g.2)
index ed (clause_end l x done q values front next) p r =
    no_index ed (clause_end l x done q values front next) (clause_off ed is_index_end refl refl x p r.0) (λ g. g.2)
index ed (import_end q iss) p r = no_index ed (import_end q iss) refl (λ g. g.2)
index ed (decl_end q is ds) p r = no_index ed (decl_end q is ds) refl (λ g. g.2)
