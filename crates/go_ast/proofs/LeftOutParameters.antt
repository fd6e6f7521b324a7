-- Behind names, and only there, a type and a comma may come where the names of parameters are due.
use Rattle.std.proofs.Common.{◌≡◌, ℕ, ◌⊎◌, inl, inr, Bool, true, false, ◌&&◌, List, [], ◌∷◌, refl, sym, ap, ◌∙◌, subst}
use Rattle.go_text.specs.declared.edition.Edition.{Edition}
use Rattle.go_text.specs.declared.place.Place.{Place}
use Rattle.go_scan.specs.declared.token.TokenKind.{TokenKind}
use Rattle.go_scan.specs.declared.token.TokenKind.TheVariants as kinds
use Rattle.go_scan.specs.declared.keyword.Keyword.TheVariants as keywords
use Rattle.go_scan.specs.declared.punctuation.Punctuation.TheVariants as marks
use Rattle.go_ast.specs.Kinds.{same}
use Rattle.go_ast.specs.Expected.{Expected, an_operand, a_value, a_type, a_declared_type, a_parameter_type, a_length, an_index, an_index_end, a_selected_name, a_function_name, a_function_opening, another}
use Rattle.go_ast.specs.Trees.{TypeExpr, named, Simple, call_statement, conditional, no_else}
use Rattle.go_ast.specs.Grammar.{Lexeme, name_of, closing, comma, is_call}
use Rattle.go_ast.specs.Machine.{ListKind, fields, arguments, elements, const_specs, var_specs, type_specs, import_specs, statements, parameters, results, Reader, ended, token, package_name, import_path, optional, type, optional_type, expr, optional_expr, suffixes, operators, more_names, more_exprs, list_start, list_end, lefts, else_part, clause_start, clause_end, import_end, decl_end, Take, Fail, cond, keyword, behind_name, names_if, literal_type, behind_left, parser_step, newer, operands}
use Rattle.go_ast.proofs.Same.{are_same}
use Rattle.go_ast.proofs.Base.{false_true, right_true}
use Rattle.go_ast.proofs.LeftOutStates.{Last, other, name_last, names, passed, first_name, func_name, bracket, dot, equals, func, keyed, nameable, is_end, tok, GoesBy, Goes, starts, start_label, label, pick, MarkOk, TokenOk, OptionalOk, OptionalKind, TypeOk, OptionalTypeOk, ExprOk, Right, under, bounded}
use Rattle.go_ast.proofs.LeftOutMay.{goes_starts, starts_goes}
use Rattle.go_ast.proofs.LeftOutLabels.{by_call, call_end}
use Rattle.go_ast.proofs.LeftOutPlaces.{optional_type_is}
use Rattle.go_ast.proofs.LeftOutTests.{import_off, expr_off, newer_off, left_off, clause_off, list_off}
use Rattle.go_ast.proofs.LeftOutIndexes.{brace_step, define_step, moved}
use Rattle.go_ast.proofs.LeftOutEnds.{token_off, nowhere}
use Rattle.go_ast.proofs.LeftOutAliases.{is_named}
use Rattle.go_ast.proofs.LeftOutPassed.{optional_goes, goes_optional, left_step, goes_newer}
use Rattle.go_ast.proofs.LeftOutLed.{newer_not, newer_label}

abbrev pub is_parameter : Expected → Bool
is_parameter a_parameter_type = true
is_parameter _ = false

abbrev pub named_next : List TokenKind
named_next = kinds.Name ∷ comma ∷ []

-- names were last
abbrev pub AreNames : Last → Type 0
AreNames p = (p ≡ names) ⊎ (p ≡ name_last)

abbrev pub Parameter : (ed : Edition) → Last → Reader → Type 0
Parameter ed p s = AreNames p × (starts ed s (keyword keywords.Struct) ≡ true) × Goes ed named_next s

off : {A : Type 0} (x : Expected) → is_parameter x ≡ false → is_parameter x ≡ true → A
off x e q = absurd (false_true (sym e ∙ q))

no_names : {A : Type 0} (p : Last) → p ≡ other → AreNames p → A
no_names p e (inl i) = absurd (let c : other ≡ names = sym e ∙ i in cc (c))
no_names p e (inr i) = absurd (let c : other ≡ name_last = sym e ∙ i in cc (c))

under_names : (k : TokenKind) (p : Last) → is_end p ≡ true → AreNames (under k p) → AreNames p × (same k kinds.Name ≡ false)
under_names kinds.Name p en (inl i) = absurd (let c : nameable ≡ names = i in cc (c))
under_names kinds.Name p en (inr i) = absurd (let c : nameable ≡ name_last = i in cc (c))
under_names (kinds.Punctuation marks.Colon) p en (inl i) = absurd (let c : keyed ≡ names = i in cc (c))
under_names (kinds.Punctuation marks.Colon) p en (inr i) = absurd (let c : keyed ≡ name_last = i in cc (c))
under_names (kinds.Punctuation marks.CloseBracket) p en (inl i) = absurd (let c : bounded ≡ names = i in cc (c))
under_names (kinds.Punctuation marks.CloseBracket) p en (inr i) = absurd (let c : bounded ≡ name_last = i in cc (c))
under_names _ p en i = (i, refl)

start_parameter : (k : ListKind) → is_parameter (start_label k) ≡ false
start_parameter (fields l) = refl
start_parameter (arguments l) = refl
start_parameter (elements l) = refl
start_parameter (const_specs l) = refl
start_parameter (var_specs l) = refl
start_parameter (type_specs l) = refl
start_parameter import_specs = refl
start_parameter (statements l) = refl
start_parameter parameters = refl
start_parameter results = refl

type_to : (ed : Edition) → (l : ℕ) (p : Last) (x : Expected) (next : TypeExpr → Reader) → TypeOk ed p x next → is_parameter x ≡ true → Parameter ed p (type l x next)
type_to ed l other a_type next h q = absurd (false_true q)
type_to ed l names a_type next h q = absurd (false_true q)
type_to ed l names a_parameter_type next h q =
    let t : Lexeme = tok kinds.Name [] nowhere in
    let a : TypeExpr = named t.place (name_of t) in
    (inl refl, refl, ([], nowhere, starts_goes ed comma (next a) refl refl (h a)))
type_to ed l name_last a_declared_type next h q = absurd (false_true q)
type_to ed l _ _ next h q = absurd h

optional_type_to : (ed : Edition) → {A : Type 0} (p : Last) (x : Expected) (some : TypeExpr → Reader) (none : Reader) → OptionalTypeOk ed p x some none → Parameter ed p none → A
optional_type_to ed other a_type some none h i = no_names other refl i.0
optional_type_to ed names a_type some none h i = absurd (false_true (sym h.3 ∙ i.1))
optional_type_to ed _ _ some none h i = absurd h

pub parameter_to : (ed : Edition) → (s : Reader) (p : Last) → Right ed s p → is_parameter (label s closing) ≡ true → Parameter ed p s
parameter_to ed (ended f) p r q = absurd (false_true q)
parameter_to ed (token kind need x next) p r q = off x (token_off ed is_parameter refl refl refl refl refl x p kind next r.0) q
parameter_to ed (package_name next) p r q = absurd (false_true q)
parameter_to ed (import_path x next) p r q = off x (import_off ed is_parameter refl refl p x r.0) q
parameter_to ed (optional kind need some none) p r q =
    let i = parameter_to ed none (under kind p) r.2 q in
    let u = under_names kind p r.0.0 i.0 in (
      u.0,
      right_true (same kind (keyword keywords.Struct)) (starts ed none (keyword keywords.Struct)) i.1,
      optional_goes ed kinds.Name (comma ∷ []) kind need some none u.1 i.2,
    )
parameter_to ed (newer kind need x some none) p r q =
    absurd (false_true (sym (newer_off ed is_parameter refl refl refl p kind need x some none closing r.0 (r.3 closing)) ∙ q))
parameter_to ed (type l x next) p r q = type_to ed l p x next r.0 q
parameter_to ed (optional_type l x some none) p r q =
    let here : is_parameter (label none closing) ≡ true =
    subst (λ y. is_parameter (label (optional_type l y some none) closing) ≡ true → is_parameter (label none closing) ≡ true)
    (sym (optional_type_is ed p x some none r.0)) (λ c. c) q in
    optional_type_to ed p x some none r.0 (parameter_to ed none p r.2 here)
parameter_to ed (expr n h l x next) p r q = off x (expr_off ed is_parameter refl refl refl refl p x (expr n h l x next) r.0) q
parameter_to ed (optional_expr h l x some none) p r q =
    let here : is_parameter (label none closing) ≡ true =
    subst (λ y. is_parameter (label (optional_expr h l y some none) closing) ≡ true → is_parameter (label none closing) ≡ true) (sym r.1) (λ c. c) q in
    no_names p r.0 (parameter_to ed none p r.4 here).0
parameter_to ed (suffixes h l e next) p r q =
    let i = parameter_to ed (next e) p r.0 q in
    let t : Lexeme = tok kinds.Name i.2.0 i.2.1 in (
      i.0,
      i.1,
      (i.2.0, i.2.1, moved (Goes ed (comma ∷ [])) _ _ (sym (brace_step h l (λ a. suffixes h l a next) t (parser_step ed (next e) t) (literal_type e) refl)) i.2.2),
    )
parameter_to ed (operators n h l e next) p r q = parameter_to ed (next e) p r.0 q
parameter_to ed (more_names front next) p r q =
    let i = parameter_to ed (next front) names (r.1 front) q in
    (inr r.0, i.1, i.2)
parameter_to ed (more_exprs h l front next) p r q = parameter_to ed (next front) p (r.1 front p r.0) q
parameter_to ed (list_start s front next) p r q = off (start_label s) (start_parameter s) q
parameter_to ed (list_end s x front next) p r q = off x (list_off is_parameter refl refl refl refl refl s x p r.0) q
parameter_to ed (operands l next) p r q = absurd (false_true q)
parameter_to ed (lefts m h l [] next alone range) p r q = absurd (false_true q)
parameter_to ed (lefts m h l (e ∷ []) next alone range) p r q =
    let behind : Simple → Reader = next in
    let part = by_call
    (λ c. is_parameter (pick c (label (behind (call_statement e)) closing) (behind_left m e)) ≡ true →
    AreNames p × ((c && starts ed (behind (call_statement e)) (keyword keywords.Struct)) ≡ true) × ((text : List ℕ) × (place : Place)
    × GoesBy (Goes ed (comma ∷ [])) (cond c (parser_step ed (behind (call_statement e)) (tok kinds.Name text place)) (Fail (behind_left m e))))) (is_call e)
    (λ c d. parameter_to ed (next (call_statement e)) p (r.1 (call_statement e) p (call_end m e p r.0 c)) d)
    (λ c d. off (behind_left m e) (left_off ed is_parameter refl refl m e) d) q in
    let t : Lexeme = tok kinds.Name part.2.0 part.2.1 in
    (part.0, part.1, (part.2.0, part.2.1, moved (Goes ed (comma ∷ [])) _ _ (sym (left_step ed m h l e next alone range t refl)) part.2.2))
parameter_to ed (lefts m h l (e ∷ f ∷ es) next alone range) p r q = absurd (false_true q)
parameter_to ed (else_part l a i c b next) p r q =
    no_names other refl (parameter_to ed (next (conditional a i c b no_else)) other (r.1 (conditional a i c b no_else)) q).0
parameter_to ed (clause_start l done a values front next) p r q = absurd (false_true q)
parameter_to ed (clause_end l x done a values front next) p r q = off x (clause_off ed is_parameter refl refl x p r.0) q
parameter_to ed (import_end a iss) p r q = absurd (false_true q)
parameter_to ed (decl_end a is ds) p r q = absurd (false_true q)

-- the other way round

-- a name was last, or names
abbrev pub is_behind : Last → Bool
is_behind names = true
is_behind p = is_named p

pub named_behind : (p : Last) → is_named p ≡ true → is_behind p ≡ true
named_behind name_last e = refl
named_behind passed e = refl
named_behind first_name e = refl
named_behind func_name e = refl
named_behind keyed e = refl
named_behind _ e = absurd (false_true e)

not_behind : {A : Type 0} (p q : Last) → p ≡ q → is_behind q ≡ false → is_behind p ≡ true → A
not_behind p q e f n = absurd (false_true (sym f ∙ sym (ap is_behind e) ∙ n))

under_behind : (ed : Edition) → (k : TokenKind) (p : Last) (some : Lexeme → Reader) (none : Reader) → OptionalOk ed p k some none → is_behind p ≡ true → is_behind (under k p) ≡ true
under_behind ed kinds.Name p some none h n = not_behind p other h.2.3 refl n
under_behind ed (kinds.Punctuation marks.Colon) p some none h n = refl
under_behind ed (kinds.Punctuation marks.CloseBracket) p some none h n = not_behind p other h.2.2 refl n
under_behind ed _ p some none h n = n

token_none : (ed : Edition) → {A : Type 0} (x : Expected) (p : Last) (kind : TokenKind) (need : ℕ) (next : Lexeme → Reader) → TokenOk ed p kind x next → is_behind p ≡ true →
    Goes ed named_next (token kind need x next) → A
token_none ed {A} another p kind need next h n g = by_test (same kind kinds.Name) refl g.2
  where
    by_test : (c : Bool) → same kind kinds.Name ≡ c → GoesBy (Goes ed (comma ∷ [])) (cond c (Take need (next (tok kinds.Name g.0 g.1))) (Fail another)) → A
    by_test false e i = absurd i
    by_test true e i =
        let last : MarkOk ed p kinds.Name next = subst (λ k. MarkOk ed p k next) (sym (are_same kind kinds.Name e)) h.2 in
        not_behind p other last refl n
token_none ed an_index_end p kind need next h n g = absurd (subst (λ k. Goes ed named_next (token k need an_index_end next)) h.1 g).2
token_none ed a_selected_name p kind need next h n g = not_behind p dot h.0 refl n
token_none ed a_function_name p kind need next h n g = not_behind p func h.0 refl n
token_none ed a_function_opening p kind need next h n g = absurd (subst (λ k. Goes ed named_next (token k need a_function_opening next)) h.1 g).2
token_none ed _ p kind need next h n g = absurd h

optional_none : (ed : Edition) → (kind : TokenKind) (p : Last) (need : ℕ) (some : Lexeme → Reader) (none : Reader) → OptionalOk ed p kind some none → is_behind p ≡ true →
    Goes ed named_next (optional kind need some none) → Goes ed named_next none
optional_none ed kind p need some none ok n g = by_test (same kind kinds.Name) refl
  where
    by_test : (c : Bool) → same kind kinds.Name ≡ c → Goes ed named_next none
    by_test false e = goes_optional ed kinds.Name (comma ∷ []) kind need some none e g
    by_test true e =
        let here : OptionalKind ed kinds.Name p some none = subst (λ x. OptionalKind ed x p some none) (sym (are_same kind kinds.Name e)) ok.2 in
        not_behind p other here.3 refl n

no_comma : (ed : Edition) → {A : Type 0} (next : TypeExpr → Reader) (text : List ℕ) (place : Place) → ((a : TypeExpr) → starts ed (next a) comma ≡ false) →
    Goes ed (comma ∷ []) (behind_name next (tok kinds.Name text place)) → A
no_comma ed next text place quiet g =
    let t : Lexeme = tok kinds.Name text place in
    let a : TypeExpr = named t.place (name_of t) in
    absurd (false_true (sym (quiet a) ∙ goes_starts ed comma [] (next a) refl g))

type_from : (ed : Edition) → (l : ℕ) (p : Last) (x : Expected) (next : TypeExpr → Reader) → TypeOk ed p x next → is_behind p ≡ true → Goes ed named_next (type l x next) →
    is_parameter x ≡ true
type_from ed l other a_type next h n g = absurd (false_true n)
type_from ed l names a_type next h n g = no_comma ed next g.0 g.1 h g.2
type_from ed l names a_parameter_type next h n g = refl
type_from ed l name_last a_declared_type next h n g = no_comma ed next g.0 g.1 h g.2
type_from ed l _ _ next h n g = absurd h

optional_type_from : (ed : Edition) → {A : Type 0} (l : ℕ) (p : Last) (x : Expected) (some : TypeExpr → Reader) (none : Reader) → OptionalTypeOk ed p x some none → is_behind p ≡ true →
    Goes ed named_next (optional_type l x some none) → A
optional_type_from ed l other a_type some none h n g = absurd (false_true n)
optional_type_from ed l names a_type some none h n g = no_comma ed some g.0 g.1 h.0 g.2
optional_type_from ed l _ _ some none h n g = absurd h

expr_behind : (ed : Edition) → {A : Type 0} (p : Last) (x : Expected) (s : Reader) → ExprOk ed p x s → is_behind p ≡ true → A
expr_behind ed other an_operand s h n = absurd (false_true n)
expr_behind ed equals a_value s h n = absurd (false_true n)
expr_behind ed bracket a_length s h n = absurd (false_true n)
expr_behind ed bracket an_index s h n = absurd (false_true n)
expr_behind ed bounded an_index s h n = absurd (false_true n)
expr_behind ed _ _ s h n = absurd h

list_none : (ed : Edition) → {A : Type 0} (k : ListKind) (x : Expected) (front : _) (next : _) → Goes ed named_next (list_end k x front next) → A
list_none ed (fields l) x front next g = absurd g.2
list_none ed (arguments l) x front next g = absurd g.2
list_none ed (elements l) x front next g = absurd g.2
list_none ed (const_specs l) x front next g = absurd g.2
list_none ed (var_specs l) x front next g = absurd g.2
list_none ed (type_specs l) x front next g = absurd g.2
list_none ed import_specs x front next g = absurd g.2
list_none ed (statements l) x front next g = absurd g.2
list_none ed parameters x front next g = absurd g.2
list_none ed results x front next g = absurd g.2

pub parameter_from : (ed : Edition) → (s : Reader) (p : Last) → Right ed s p → is_behind p ≡ true → Goes ed named_next s → is_parameter (label s closing) ≡ true
parameter_from ed (ended f) p r n g = absurd g.2
parameter_from ed (token kind need x next) p r n g = token_none ed x p kind need next r.0 n g
parameter_from ed (package_name next) p r n g = not_behind p other r.0 refl n
parameter_from ed (import_path x next) p r n g = absurd g.2
parameter_from ed (optional kind need some none) p r n g =
    parameter_from ed none (under kind p) r.2 (under_behind ed kind p some none r.0 n) (optional_none ed kind p need some none r.0 n g)
parameter_from ed (newer kind need x some none) p r n g =
    ap is_parameter (newer_label kind need x some none closing (r.3 closing))
    ∙ parameter_from ed none p r.2 n (goes_newer ed kinds.Name (comma ∷ []) kind need x some none (newer_not ed p kind x some kinds.Name r.0 refl) g)
parameter_from ed (type l x next) p r n g = type_from ed l p x next r.0 n g
parameter_from ed (optional_type l x some none) p r n g = optional_type_from ed l p x some none r.0 n g
parameter_from ed (expr m h l x next) p r n g = expr_behind ed p x (expr m h l x next) r.0 n
parameter_from ed (optional_expr h l x some none) p r n g = not_behind p other r.0 refl n
parameter_from ed (suffixes h l e next) p r n g =
    let t : Lexeme = tok kinds.Name g.0 g.1 in
    parameter_from ed (next e) p r.0 n
    (g.0, g.1, moved (Goes ed (comma ∷ [])) _ _ (brace_step h l (λ a. suffixes h l a next) t (parser_step ed (next e) t) (literal_type e) refl) g.2)
parameter_from ed (operators m h l e next) p r n g = parameter_from ed (next e) p r.0 n g
parameter_from ed (more_names front next) p r n g = parameter_from ed (next front) names (r.1 front) refl g
parameter_from ed (more_exprs h l front next) p r n g = parameter_from ed (next front) p (r.1 front p r.0) n g
parameter_from ed (list_start s front next) p r n g = not_behind p other r.0 refl n
parameter_from ed (list_end s x front next) p r n g = list_none ed s x front next g
parameter_from ed (operands l next) p r n g = not_behind p other r.0 refl n
parameter_from ed (lefts m h l [] next alone range) p r n g = absurd g.2
parameter_from ed (lefts m h l (e ∷ []) next alone range) p r n g =
    let behind : Simple → Reader = next in
    let t : Lexeme = tok kinds.Name g.0 g.1 in
    by_call
    (λ c. GoesBy (Goes ed (comma ∷ [])) (cond c (parser_step ed (behind (call_statement e)) t) (Fail (behind_left m e))) →
    is_parameter (pick c (label (behind (call_statement e)) closing) (behind_left m e)) ≡ true) (is_call e)
    (λ c i. parameter_from ed (next (call_statement e)) p (r.1 (call_statement e) p (call_end m e p r.0 c)) n (g.0, g.1, i))
    (λ c i. absurd i) (moved (Goes ed (comma ∷ [])) _ _ (left_step ed m h l e next alone range t refl) g.2)
parameter_from ed (lefts m h l (e ∷ f ∷ es) next alone range) p r n g =
    absurd (moved (Goes ed (comma ∷ [])) _ _ (define_step m h l next range (tok kinds.Name g.0 g.1) (Fail another) (names_if (e ∷ f ∷ es)) refl) g.2)
parameter_from ed (else_part l a i c b next) p r n g = not_behind p other r.0 refl n
parameter_from ed (clause_start l done a values front next) p r n g = not_behind p other r.0 refl n
parameter_from ed (clause_end l x done a values front next) p r n g = absurd g.2
parameter_from ed (import_end a iss) p r n g = absurd g.2
parameter_from ed (decl_end a is ds) p r n g = absurd g.2
