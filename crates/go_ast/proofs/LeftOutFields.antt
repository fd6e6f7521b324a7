-- Behind a field, and only there, the struct may end and another field may come.
use Rattle.std.proofs.Common.{◌≡◌, ℕ, Bool, true, false, ◌&&◌, ◌||◌, List, [], ◌∷◌, refl, sym, ◌∙◌, subst, ap}
use Rattle.go_text.specs.declared.edition.Edition.{Edition}
use Rattle.go_text.specs.declared.place.Place.{Place}
use Rattle.go_scan.specs.declared.token.TokenKind.{TokenKind}
use Rattle.go_scan.specs.declared.token.TokenKind.TheVariants as kinds
use Rattle.go_scan.specs.declared.keyword.Keyword.TheVariants as keywords
use Rattle.go_ast.specs.Kinds.{same}
use Rattle.go_ast.specs.Expected.{Expected, an_element_end, a_field_end, a_result_end, behind_a_jump, another}
use Rattle.go_ast.specs.Trees.{Simple, call_statement, conditional, no_else}
use Rattle.go_ast.specs.Grammar.{Lexeme, closing_brace, semicolon, is_call}
use Rattle.go_ast.specs.Machine.{ListKind, fields, arguments, elements, const_specs, var_specs, type_specs, import_specs, statements, parameters, results, Reader, ended, token, package_name, import_path, optional, type, optional_type, expr, optional_expr, suffixes, operators, more_names, more_exprs, list_start, list_end, lefts, else_part, clause_start, clause_end, import_end, decl_end, Fail, cond, keyword, literal_type, behind_left, parser_step, newer, operands}
use Rattle.go_ast.proofs.Same.{are_same}
use Rattle.go_ast.proofs.Base.{false_true, right_true}
use Rattle.go_ast.proofs.LeftOutStates.{Last, other, names, tok, GoesBy, Goes, starts, start_label, label, pick, OptionalOk, OptionalKind, EndOk, Right, under}
use Rattle.go_ast.proofs.LeftOutLed.{optional_not, newer_not, newer_starts, newer_label}
use Rattle.go_ast.proofs.LeftOutLabels.{by_call, call_end, or_right}
use Rattle.go_ast.proofs.LeftOutPlaces.{optional_type_is}
use Rattle.go_ast.proofs.LeftOutTests.{import_off, type_off, expr_off, newer_off, left_off, clause_off}
use Rattle.go_ast.proofs.LeftOutIndexes.{brace_step, moved}
use Rattle.go_ast.proofs.LeftOutEnds.{token_off, nowhere}
use Rattle.go_ast.proofs.LeftOutPassed.{optional_goes, goes_optional, left_step, goes_newer}

abbrev pub is_field_end : Expected → Bool
is_field_end a_field_end = true
is_field_end _ = false

abbrev pub behind_field : List TokenKind
behind_field = kinds.Name ∷ keyword keywords.Struct ∷ []

abbrev pub Field : (ed : Edition) → Reader → Type 0
Field ed s = (starts ed s closing_brace ≡ true) × Goes ed (semicolon ∷ behind_field) s

off : {A : Type 0} (x : Expected) → is_field_end x ≡ false → is_field_end x ≡ true → A
off x e q = absurd (false_true (sym e ∙ q))

start_field : (k : ListKind) → is_field_end (start_label k) ≡ false
start_field (fields l) = refl
start_field (arguments l) = refl
start_field (elements l) = refl
start_field (const_specs l) = refl
start_field (var_specs l) = refl
start_field (type_specs l) = refl
start_field import_specs = refl
start_field (statements l) = refl
start_field parameters = refl
start_field results = refl

optional_field : (ed : Edition) → (kind : TokenKind) (p : Last) (need : ℕ) (some : Lexeme → Reader) (none : Reader) → OptionalOk ed p kind some none → Field ed none →
    Field ed (optional kind need some none)
optional_field ed kind p need some none ok i = by_test (same kind semicolon) refl
  where
    by_test : (c : Bool) → same kind semicolon ≡ c → Field ed (optional kind need some none)
    by_test true e =
        let quiet : OptionalKind ed semicolon p some none = subst (λ x. OptionalKind ed x p some none) (sym (are_same kind semicolon e)) ok.2 in
        absurd (false_true (sym quiet ∙ i.0))
    by_test false e =
        (right_true (same kind closing_brace) (starts ed none closing_brace) i.0, optional_goes ed semicolon behind_field kind need some none e i.1)

list_to : (ed : Edition) → (k : ListKind) (x : Expected) (p : Last) (front : _) (next : _) → EndOk k x p → is_field_end x ≡ true → Field ed (list_end k x front next)
list_to ed (fields l) a_field_end p front next h q = (refl, ([], nowhere, ([], nowhere, ([], nowhere, tt))))
list_to ed (elements l) an_element_end p front next h q = absurd (false_true q)
list_to ed (elements l) another p front next h q = absurd (false_true q)
list_to ed (statements l) behind_a_jump p front next h q = absurd (false_true q)
list_to ed (statements l) another p front next h q = absurd (false_true q)
list_to ed results a_result_end p front next h q = absurd (false_true q)
list_to ed (arguments l) another p front next h q = absurd (false_true q)
list_to ed (const_specs l) another p front next h q = absurd (false_true q)
list_to ed (var_specs l) another p front next h q = absurd (false_true q)
list_to ed (type_specs l) another p front next h q = absurd (false_true q)
list_to ed import_specs another p front next h q = absurd (false_true q)
list_to ed parameters another p front next h q = absurd (false_true q)
list_to ed _ _ p front next h q = absurd h

pub field_to : (ed : Edition) → (s : Reader) (p : Last) → Right ed s p → is_field_end (label s kinds.String) ≡ true → Field ed s
field_to ed (ended f) p r q = absurd (false_true q)
field_to ed (token kind need x next) p r q = off x (token_off ed is_field_end refl refl refl refl refl x p kind next r.0) q
field_to ed (package_name next) p r q = absurd (false_true q)
field_to ed (import_path x next) p r q = off x (import_off ed is_field_end refl refl p x r.0) q
field_to ed (optional kind need some none) p r q = optional_field ed kind p need some none r.0 (field_to ed none (under kind p) r.2 q)
field_to ed (newer kind need x some none) p r q =
    absurd (false_true (sym (newer_off ed is_field_end refl refl refl p kind need x some none kinds.String r.0 (r.3 kinds.String)) ∙ q))
field_to ed (type l x next) p r q = off x (type_off ed is_field_end refl refl refl p x next r.0) q
field_to ed (optional_type l x some none) p r q =
    subst (λ y. is_field_end (label (optional_type l y some none) kinds.String) ≡ true → Field ed (optional_type l y some none))
    (sym (optional_type_is ed p x some none r.0)) (λ c. field_to ed none p r.2 c) q
field_to ed (expr n h l x next) p r q = off x (expr_off ed is_field_end refl refl refl refl p x (expr n h l x next) r.0) q
field_to ed (optional_expr h l x some none) p r q =
    subst (λ y. is_field_end (label (optional_expr h l y some none) kinds.String) ≡ true → Field ed (optional_expr h l y some none)) (sym r.1)
    (λ c. field_to ed none p r.4 c) q
field_to ed (suffixes h l e next) p r q =
    let i = field_to ed (next e) p r.0 q in
    let t : Lexeme = tok semicolon i.1.0 i.1.1 in
    (i.0, (i.1.0, i.1.1, moved (Goes ed behind_field) _ _ (sym (brace_step h l (λ a. suffixes h l a next) t (parser_step ed (next e) t) (literal_type e) refl)) i.1.2))
field_to ed (operators n h l e next) p r q = field_to ed (next e) p r.0 q
field_to ed (more_names front next) p r q = field_to ed (next front) names (r.1 front) q
field_to ed (more_exprs h l front next) p r q = field_to ed (next front) p (r.1 front p r.0) q
field_to ed (list_start s front next) p r q = off (start_label s) (start_field s) q
field_to ed (list_end s x front next) p r q = list_to ed s x p front next r.0 q
field_to ed (operands l next) p r q = absurd (false_true q)
field_to ed (lefts m h l [] next alone range) p r q = absurd (false_true q)
field_to ed (lefts m h l (e ∷ []) next alone range) p r q =
    let behind : Simple → Reader = next in
    let part = by_call
    (λ c. is_field_end (pick c (label (behind (call_statement e)) kinds.String) (behind_left m e)) ≡ true →
    ((c && starts ed (behind (call_statement e)) closing_brace) ≡ true) × ((text : List ℕ) × (place : Place)
    × GoesBy (Goes ed behind_field) (cond c (parser_step ed (behind (call_statement e)) (tok semicolon text place)) (Fail (behind_left m e))))) (is_call e)
    (λ c d. field_to ed (next (call_statement e)) p (r.1 (call_statement e) p (call_end m e p r.0 c)) d)
    (λ c d. off (behind_left m e) (left_off ed is_field_end refl refl m e) d) q in
    let t : Lexeme = tok semicolon part.1.0 part.1.1 in
    (part.0, (part.1.0, part.1.1, moved (Goes ed behind_field) _ _ (sym (left_step ed m h l e next alone range t refl)) part.1.2))
field_to ed (lefts m h l (e ∷ f ∷ es) next alone range) p r q = absurd (false_true q)
field_to ed (else_part l a i c b next) p r q = field_to ed (next (conditional a i c b no_else)) other (r.1 (conditional a i c b no_else)) q
field_to ed (clause_start l done a values front next) p r q = absurd (false_true q)
field_to ed (clause_end l x done a values front next) p r q = off x (clause_off ed is_field_end refl refl x p r.0) q
field_to ed (import_end a iss) p r q = absurd (false_true q)
field_to ed (decl_end a is ds) p r q = absurd (false_true q)

-- the other way round

token_not : (ed : Edition) → (kind : TokenKind) (need : ℕ) (x : Expected) (next : Lexeme → Reader) → (same kind closing_brace || false) ≡ true →
    Goes ed (semicolon ∷ behind_field) (token kind need x next) → ⊥
token_not ed kind need x next st g = by_test (same kind closing_brace) refl st
  where
    by_test : (c : Bool) → same kind closing_brace ≡ c → (c || false) ≡ true → ⊥
    by_test false e q = false_true q
    by_test true e q = (subst (λ j. Goes ed (semicolon ∷ behind_field) (token j need x next)) (sym (are_same kind closing_brace e)) g).2

optional_other : (ed : Edition) → (kind : TokenKind) (p : Last) (need : ℕ) (some : Lexeme → Reader) (none : Reader) → OptionalOk ed p kind some none →
    Field ed (optional kind need some none) → Field ed none
optional_other ed kind p need some none ok i = by_test (same kind semicolon) refl
  where
    there : starts ed none closing_brace ≡ true
    there =
        or_right (same kind closing_brace) (starts ed none closing_brace) (starts ed none closing_brace) (optional_not kind closing_brace ok.1 refl) refl ∙ i.0

    by_test : (c : Bool) → same kind semicolon ≡ c → Field ed none
    by_test true e =
        let quiet : OptionalKind ed semicolon p some none = subst (λ x. OptionalKind ed x p some none) (sym (are_same kind semicolon e)) ok.2 in
        absurd (false_true (sym quiet ∙ there))
    by_test false e = (there, goes_optional ed semicolon behind_field kind need some none e i.1)

start_not : (ed : Edition) → {A : Type 0} (k : ListKind) (front : _) (next : _) → Field ed (list_start k front next) → A
start_not ed (fields l) front next i = absurd i.1.2
start_not ed (arguments l) front next i = absurd i.1.2
start_not ed (elements l) front next i = absurd i.1.2
start_not ed (const_specs l) front next i = absurd i.1.2
start_not ed (var_specs l) front next i = absurd i.1.2
start_not ed (type_specs l) front next i = absurd i.1.2
start_not ed import_specs front next i = absurd i.1.2
start_not ed (statements l) front next i = absurd i.1.2.2.2
start_not ed parameters front next i = absurd i.1.2
start_not ed results front next i = absurd i.1.2

list_from : (ed : Edition) → (k : ListKind) (x : Expected) (p : Last) (front : _) (next : _) → EndOk k x p → Field ed (list_end k x front next) → is_field_end x ≡ true
list_from ed (fields l) a_field_end p front next h i = refl
list_from ed (elements l) an_element_end p front next h i = absurd i.1.2
list_from ed (elements l) another p front next h i = absurd i.1.2
list_from ed (statements l) behind_a_jump p front next h i = absurd i.1.2.2.2
list_from ed (statements l) another p front next h i = absurd i.1.2.2.2
list_from ed results a_result_end p front next h i = absurd (false_true i.0)
list_from ed (arguments l) another p front next h i = absurd (false_true i.0)
list_from ed (const_specs l) another p front next h i = absurd (false_true i.0)
list_from ed (var_specs l) another p front next h i = absurd (false_true i.0)
list_from ed (type_specs l) another p front next h i = absurd (false_true i.0)
list_from ed import_specs another p front next h i = absurd (false_true i.0)
list_from ed parameters another p front next h i = absurd (false_true i.0)
list_from ed _ _ p front next h i = absurd h

pub field_from : (ed : Edition) → (s : Reader) (p : Last) → Right ed s p → Field ed s → is_field_end (label s kinds.String) ≡ true
field_from ed (ended f) p r i = absurd (false_true i.0)
field_from ed (token kind need x next) p r i = absurd (token_not ed kind need x next i.0 i.1)
field_from ed (package_name next) p r i = absurd (false_true i.0)
field_from ed (import_path x next) p r i = absurd (false_true i.0)
field_from ed (optional kind need some none) p r i = field_from ed none (under kind p) r.2 (optional_other ed kind p need some none r.0 i)
field_from ed (newer kind need x some none) p r i =
    ap is_field_end (newer_label kind need x some none kinds.String (r.3 kinds.String))
    ∙ field_from ed none p r.2 (
      sym (newer_starts ed p kind need x some none closing_brace r.0 refl) ∙ i.0,
      goes_newer ed semicolon behind_field kind need x some none (newer_not ed p kind x some semicolon r.0 refl) i.1,
    )
field_from ed (type l x next) p r i = absurd (false_true i.0)
field_from ed (optional_type l x some none) p r i =
    subst (λ y. Field ed (optional_type l y some none) → is_field_end (label (optional_type l y some none) kinds.String) ≡ true)
    (sym (optional_type_is ed p x some none r.0)) (λ j. field_from ed none p r.2 j) i
field_from ed (expr n h l x next) p r i = absurd (false_true i.0)
field_from ed (optional_expr h l x some none) p r i =
    subst (λ y. Field ed (optional_expr h l y some none) → is_field_end (label (optional_expr h l y some none) kinds.String) ≡ true) (sym r.1)
    (λ j. field_from ed none p r.4 j) i
field_from ed (suffixes h l e next) p r i =
    let t : Lexeme = tok semicolon i.1.0 i.1.1 in
    field_from ed (next e) p r.0
    (i.0, (i.1.0, i.1.1, moved (Goes ed behind_field) _ _ (brace_step h l (λ a. suffixes h l a next) t (parser_step ed (next e) t) (literal_type e) refl) i.1.2))
field_from ed (operators n h l e next) p r i = field_from ed (next e) p r.0 i
field_from ed (more_names front next) p r i = field_from ed (next front) names (r.1 front) i
field_from ed (more_exprs h l front next) p r i = field_from ed (next front) p (r.1 front p r.0) i
field_from ed (list_start s front next) p r i = start_not ed s front next i
field_from ed (list_end s x front next) p r i = list_from ed s x p front next r.0 i
field_from ed (operands l next) p r i = absurd (false_true i.0)
field_from ed (lefts m h l [] next alone range) p r i = absurd (false_true i.0)
field_from ed (lefts m h l (e ∷ []) next alone range) p r i =
    let behind : Simple → Reader = next in
    let t : Lexeme = tok semicolon i.1.0 i.1.1 in
    by_call
    (λ c. (c && starts ed (behind (call_statement e)) closing_brace) ≡ true →
    GoesBy (Goes ed behind_field) (cond c (parser_step ed (behind (call_statement e)) t) (Fail (behind_left m e))) →
    is_field_end (pick c (label (behind (call_statement e)) kinds.String) (behind_left m e)) ≡ true) (is_call e)
    (λ c d g. field_from ed (next (call_statement e)) p (r.1 (call_statement e) p (call_end m e p r.0 c)) (d, (i.1.0, i.1.1, g)))
    (λ c d g. absurd g) i.0 (moved (Goes ed behind_field) _ _ (left_step ed m h l e next alone range t refl) i.1.2)
field_from ed (lefts m h l (e ∷ f ∷ es) next alone range) p r i = absurd (false_true i.0)
field_from ed (else_part l a j c b next) p r i = field_from ed (next (conditional a j c b no_else)) other (r.1 (conditional a j c b no_else)) i
field_from ed (clause_start l done a values front next) p r i = absurd i.1.2.2.2
field_from ed (clause_end l x done a values front next) p r i = absurd i.1.2.2.2
field_from ed (import_end a iss) p r i = absurd (false_true i.0)
field_from ed (decl_end a is ds) p r i = absurd (false_true i.0)
