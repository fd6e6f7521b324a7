-- Where the path of an import is due, and only there, a string may come and a number may not.
use Rattle.std.proofs.Common.{◌≡◌, ℕ, ◌⊎◌, inl, inr, Bool, true, false, ◌&&◌, ◌||◌, List, [], ◌∷◌, refl, sym, ap, ◌∙◌, subst}
use Rattle.std.specs.Prelude.{codes}
use Rattle.go_text.specs.declared.edition.Edition.{Edition}
use Rattle.go_text.specs.Editions.{has_slices}
use Rattle.go_text.specs.declared.place.Place.{Place}
use Rattle.go_scan.specs.declared.token.TokenKind.{TokenKind}
use Rattle.go_scan.specs.declared.token.TokenKind.TheVariants as kinds
use Rattle.go_scan.specs.declared.punctuation.Punctuation.TheVariants as marks
use Rattle.go_ast.specs.Kinds.{same}
use Rattle.go_ast.specs.Expected.{Expected, an_operand, a_type, an_import, an_import_path, another, is_left_out_at}
use Rattle.go_ast.specs.Trees.{Simple, call_statement, conditional, no_else}
use Rattle.go_ast.specs.Grammar.{Lexeme, period, is_call}
use Rattle.go_ast.specs.Machine.{ListKind, fields, arguments, elements, const_specs, var_specs, type_specs, import_specs, statements, parameters, results, separator, closer, Reader, ended, token, package_name, import_path, optional, type, optional_type, expr, optional_expr, suffixes, operators, more_names, more_exprs, list_start, list_end, lefts, else_part, clause_start, clause_end, import_end, decl_end, Move, Take, Fail, cond, literal_type, is_string_token, behind_left, parser_step, newer, operands}
use Rattle.go_ast.proofs.Base.{false_true, either_false, neither}
use Rattle.go_ast.proofs.LeftOutStates.{Last, other, name_last, names, keyed, nameable, is_end, tok, GoesBy, Goes, starts, start_label, label, pick, ImportOk, Right, under, bounded}
use Rattle.go_ast.proofs.LeftOutLed.{optional_not, newer_not, newer_starts, newer_label}
use Rattle.go_ast.proofs.LeftOutMay.{goes_starts}
use Rattle.go_ast.proofs.LeftOutLabels.{by_call, call_end, or_right, token_starts}
use Rattle.go_ast.proofs.LeftOutPlaces.{optional_type_is, pick_other}
use Rattle.go_ast.proofs.LeftOutTests.{type_off, expr_off, newer_off, left_off, clause_off, list_off}
use Rattle.go_ast.proofs.LeftOutIndexes.{brace_step, moved, operand_step}
use Rattle.go_ast.proofs.LeftOutEnds.{token_off, nowhere}
use Rattle.go_ast.proofs.LeftOutAliases.{not_end, under_not, optional_type_end}
use Rattle.go_ast.proofs.LeftOutPassed.{optional_goes, left_step}
use Rattle.go_ast.proofs.Tokens.{a_path, path_allowed, is_a_string}

abbrev pub is_path : Expected → Bool
is_path an_import = true
is_path an_import_path = true
is_path _ = false

abbrev pub is_import : Expected → Bool
is_import an_import = true
is_import _ = false

list_integer : (k : ListKind) → (same (separator k) kinds.Integer || (same (closer k) kinds.Integer || false)) ≡ false
list_integer (fields l) = refl
list_integer (arguments l) = refl
list_integer (elements l) = refl
list_integer (const_specs l) = refl
list_integer (var_specs l) = refl
list_integer (type_specs l) = refl
list_integer import_specs = refl
list_integer (statements l) = refl
list_integer parameters = refl
list_integer results = refl

list_string : (k : ListKind) → (same (separator k) kinds.String || (same (closer k) kinds.String || false)) ≡ false
list_string (fields l) = refl
list_string (arguments l) = refl
list_string (elements l) = refl
list_string (const_specs l) = refl
list_string (var_specs l) = refl
list_string (type_specs l) = refl
list_string import_specs = refl
list_string (statements l) = refl
list_string parameters = refl
list_string results = refl

-- where a number may come, each string may
start_taken : (ed : Edition) → (k : ListKind) (front : _) (next : _) (text : List ℕ) (place : Place) → starts ed (list_start k front next) kinds.Integer ≡ true →
    GoesBy (Goes ed []) (parser_step ed (list_start k front next) (tok kinds.String text place))
start_taken ed (fields l) front next text place q = absurd (false_true q)
start_taken ed (arguments l) front next text place q = tt
start_taken ed (elements l) front next text place q = tt
start_taken ed (const_specs l) front next text place q = absurd (false_true q)
start_taken ed (var_specs l) front next text place q = absurd (false_true q)
start_taken ed (type_specs l) front next text place q = absurd (false_true q)
start_taken ed import_specs front next text place q = absurd (false_true q)
start_taken ed (statements l) front next text place q = tt
start_taken ed parameters front next text place q = absurd (false_true q)
start_taken ed results front next text place q = absurd (false_true q)

pub string_taken : (ed : Edition) → (s : Reader) (p : Last) → Right ed s p → starts ed s kinds.Integer ≡ true → (text : List ℕ) (place : Place) →
    GoesBy (Goes ed []) (parser_step ed s (tok kinds.String text place))
string_taken ed (ended f) p r q text place = absurd (false_true q)
string_taken ed (token kind need x next) p r q text place = absurd (false_true (sym (token_starts ed kinds.Integer x p kind next refl r.0) ∙ q))
string_taken ed (package_name next) p r q text place = absurd (false_true q)
string_taken ed (import_path x next) p r q text place = absurd (false_true q)
string_taken ed (optional kind need some none) p r q text place =
    let t : Lexeme = tok kinds.String text place in
    let i = string_taken ed none (under kind p) r.2
    (or_right (same kind kinds.Integer) (starts ed none kinds.Integer) (starts ed none kinds.Integer) (optional_not kind kinds.Integer r.0.1 refl) refl ∙ q) text place in
    subst (λ c. GoesBy (Goes ed []) (cond c (Take need (some t)) (parser_step ed none t))) (sym (optional_not kind kinds.String r.0.1 refl)) i
string_taken ed (newer kind need x some none) p r q text place =
    let t : Lexeme = tok kinds.String text place in
    let i = string_taken ed none p r.2 (sym (newer_starts ed p kind need x some none kinds.Integer r.0 refl) ∙ q) text place in
    subst (λ c. GoesBy (Goes ed []) (cond c (cond (has_slices ed) (Take need (some t)) (Fail x)) (parser_step ed none t)))
    (sym (newer_not ed p kind x some kinds.String r.0 refl)) i
string_taken ed (type l x next) p r q text place = absurd (false_true q)
string_taken ed (optional_type l x some none) p r q text place =
    subst (λ y. starts ed (optional_type l y some none) kinds.Integer ≡ true → GoesBy (Goes ed []) (parser_step ed (optional_type l y some none) (tok kinds.String text place)))
    (sym (optional_type_is ed p x some none r.0)) (λ c. string_taken ed none p r.2 c text place) q
string_taken ed (expr n h l x next) p r q text place = tt
string_taken ed (optional_expr h l x some none) p r q text place = tt
string_taken ed (suffixes h l e next) p r q text place =
    let t : Lexeme = tok kinds.String text place in
    moved (Goes ed []) _ _ (sym (brace_step h l (λ a. suffixes h l a next) t (parser_step ed (next e) t) (literal_type e) refl)) (string_taken ed (next e) p r.0 q text place)
string_taken ed (operators n h l e next) p r q text place = string_taken ed (next e) p r.0 q text place
string_taken ed (more_names front next) p r q text place = string_taken ed (next front) names (r.1 front) q text place
string_taken ed (more_exprs h l front next) p r q text place = string_taken ed (next front) p (r.1 front p r.0) q text place
string_taken ed (list_start k front next) p r q text place = start_taken ed k front next text place q
string_taken ed (list_end k x front next) p r q text place = absurd (false_true (sym (list_integer k) ∙ q))
string_taken ed (operands l next) p r q text place =
    moved (Goes ed []) _ _
    (sym (operand_step (has_slices ed) l (λ e. list_end (arguments l) another (e ∷ []) next) (tok kinds.String text place) refl refl)) tt
string_taken ed (lefts m h l [] next alone range) p r q text place = absurd (false_true q)
string_taken ed (lefts m h l (e ∷ []) next alone range) p r q text place =
    let behind : Simple → Reader = next in
    let t : Lexeme = tok kinds.String text place in
    let part = by_call
    (λ c. (c && starts ed (behind (call_statement e)) kinds.Integer) ≡ true → GoesBy (Goes ed []) (cond c (parser_step ed (behind (call_statement e)) t) (Fail (behind_left m e))))
    (is_call e)
    (λ c d. string_taken ed (next (call_statement e)) p (r.1 (call_statement e) p (call_end m e p r.0 c)) d text place) (λ c d. absurd (false_true d)) q in
    moved (Goes ed []) _ _ (sym (left_step ed m h l e next alone range t refl)) part
string_taken ed (lefts m h l (e ∷ f ∷ es) next alone range) p r q text place = absurd (false_true q)
string_taken ed (else_part l a i c b next) p r q text place =
    string_taken ed (next (conditional a i c b no_else)) other (r.1 (conditional a i c b no_else)) q text place
string_taken ed (clause_start l done a values front next) p r q text place = tt
string_taken ed (clause_end l x done a values front next) p r q text place = absurd (false_true q)
string_taken ed (import_end a iss) p r q text place = absurd (false_true q)
string_taken ed (decl_end a is ds) p r q text place = absurd (false_true q)

path_here : is_string_token (codes "C") (tok kinds.String a_path.text nowhere) ≡ true
path_here = is_a_string (tok kinds.String a_path.text nowhere) refl path_allowed

path_goes : (ed : Edition) → (need : ℕ) (s : Reader) (m : Move) → GoesBy (Goes ed []) (cond (is_string_token (codes "C") (tok kinds.String a_path.text nowhere)) (Take need s) m)
path_goes ed need s m = subst (λ c. GoesBy (Goes ed []) (cond c (Take need s) m)) (sym path_here) tt

module _ (ed : Edition) (k : TokenKind) (no_type : is_left_out_at a_type k ≡ false) (no_operand : is_left_out_at an_operand k ≡ false) where
  abbrev pub Path : Reader → Type 0
  Path s = Goes ed (kinds.String ∷ []) s × (starts ed s kinds.Integer ≡ false)

  off : {A : Type 0} (x : Expected) → is_path x ≡ false → is_path x ≡ true → A
  off x e q = absurd (false_true (sym e ∙ q))

  start_to : (s : ListKind) (front : _) (next : _) → is_path (start_label s) ≡ true → Path (list_start s front next)
  start_to (fields l) front next q = absurd (false_true q)
  start_to (arguments l) front next q = absurd (false_true q)
  start_to (elements l) front next q = absurd (false_true q)
  start_to (const_specs l) front next q = absurd (false_true q)
  start_to (var_specs l) front next q = absurd (false_true q)
  start_to (type_specs l) front next q = absurd (false_true q)
  start_to import_specs front next q = ((a_path.text, nowhere, path_goes ed 0 _ (Fail an_import)), refl)
  start_to (statements l) front next q = absurd (false_true q)
  start_to parameters front next q = absurd (false_true q)
  start_to results front next q = absurd (false_true q)

  pub path_to : (s : Reader) (p : Last) → Right ed s p → is_path (label s k) ≡ true → Path s
  path_to (ended f) p r q = absurd (false_true q)
  path_to (token kind need x next) p r q = off x (token_off ed is_path refl refl refl refl refl x p kind next r.0) q
  path_to (package_name next) p r q = absurd (false_true q)
  path_to (import_path x next) p r q = ((a_path.text, nowhere, path_goes ed 0 (next (tok kinds.String a_path.text nowhere)) (Fail x)), refl)
  path_to (optional kind need some none) p r q =
      let i = path_to none (under kind p) r.2 q in (
        optional_goes ed kinds.String [] kind need some none (optional_not kind kinds.String r.0.1 refl) i.0,
        neither (same kind kinds.Integer) (starts ed none kinds.Integer) (optional_not kind kinds.Integer r.0.1 refl) i.1,
      )
  path_to (newer kind need x some none) p r q =
      absurd (false_true (sym (newer_off ed is_path refl refl refl p kind need x some none k r.0 (r.3 k)) ∙ q))
  path_to (type l x next) p r q = off x (type_off ed is_path refl refl refl p x next r.0) q
  path_to (optional_type l x some none) p r q =
      subst (λ y. is_path (label (optional_type l y some none) k) ≡ true → Path (optional_type l y some none)) (sym (optional_type_is ed p x some none r.0))
      (λ c. path_to none p r.2 (sym (ap is_path (pick_other (is_left_out_at a_type k) a_type (label none k) no_type)) ∙ c)) q
  path_to (expr n h l x next) p r q = off x (expr_off ed is_path refl refl refl refl p x (expr n h l x next) r.0) q
  path_to (optional_expr h l x some none) p r q =
      let here : is_path (label none k) ≡ true =
      subst (λ y. is_path (label (optional_expr h l y some none) k) ≡ true → is_path (label none k) ≡ true) (sym r.1)
      (λ c. sym (ap is_path (pick_other (is_left_out_at an_operand k) an_operand (label none k) no_operand)) ∙ c) q in
      absurd (false_true (sym r.5 ∙ goes_starts ed kinds.String [] none refl (path_to none p r.4 here).0))
  path_to (suffixes h l e next) p r q =
      let i = path_to (next e) p r.0 q in
      let t : Lexeme = tok kinds.String i.0.0 i.0.1 in
      ((i.0.0, i.0.1, moved (Goes ed []) _ _ (sym (brace_step h l (λ a. suffixes h l a next) t (parser_step ed (next e) t) (literal_type e) refl)) i.0.2), i.1)
  path_to (operators n h l e next) p r q = path_to (next e) p r.0 q
  path_to (more_names front next) p r q = path_to (next front) names (r.1 front) q
  path_to (more_exprs h l front next) p r q = path_to (next front) p (r.1 front p r.0) q
  path_to (list_start s front next) p r q = start_to s front next q
  path_to (list_end s x front next) p r q = off x (list_off is_path refl refl refl refl refl s x p r.0) q
  path_to (operands l next) p r q = absurd (false_true q)
  path_to (lefts m h l [] next alone range) p r q = absurd (false_true q)
  path_to (lefts m h l (e ∷ []) next alone range) p r q =
      let behind : Simple → Reader = next in
      let part = by_call
      (λ c. is_path (pick c (label (behind (call_statement e)) k) (behind_left m e)) ≡ true →
      ((text : List ℕ) × (place : Place)
      × GoesBy (Goes ed []) (cond c (parser_step ed (behind (call_statement e)) (tok kinds.String text place)) (Fail (behind_left m e))))
      × ((c && starts ed (behind (call_statement e)) kinds.Integer) ≡ false)) (is_call e)
      (λ c d. path_to (next (call_statement e)) p (r.1 (call_statement e) p (call_end m e p r.0 c)) d)
      (λ c d. off (behind_left m e) (left_off ed is_path refl refl m e) d) q in
      let t : Lexeme = tok kinds.String part.0.0 part.0.1 in
      ((part.0.0, part.0.1, moved (Goes ed []) _ _ (sym (left_step ed m h l e next alone range t refl)) part.0.2), part.1)
  path_to (lefts m h l (e ∷ f ∷ es) next alone range) p r q = absurd (false_true q)
  path_to (else_part l a i c b next) p r q = path_to (next (conditional a i c b no_else)) other (r.1 (conditional a i c b no_else)) q
  path_to (clause_start l done a values front next) p r q = absurd (false_true q)
  path_to (clause_end l x done a values front next) p r q = off x (clause_off ed is_path refl refl x p r.0) q
  path_to (import_end a iss) p r q = absurd (false_true q)
  path_to (decl_end a is ds) p r q = absurd (false_true q)

  -- the other way round, for tests of labels that hold at an import
  module _ (T : Expected → Bool) (here : T an_import ≡ true) where
    abbrev Allows : Last → Reader → Type 0
    Allows p s = p ≡ name_last → (T an_import_path ≡ true) ⊎ (starts ed s kinds.Name ≡ true)

    import_is : (p : Last) (x : Expected) → ImportOk p x → (p ≡ name_last → (T an_import_path ≡ true) ⊎ ((same kinds.String kinds.Name || false) ≡ true)) → T x ≡ true
    import_is nameable an_import h n = here
    import_is name_last an_import_path h n = elim (n refl) [ inl y ↦ y | inr y ↦ absurd (false_true y) ]
    import_is _ _ h n = absurd h

    start_from : (s : ListKind) (front : _) (next : _) → starts ed (list_start s front next) kinds.String ≡ true →
        starts ed (list_start s front next) kinds.Integer ≡ false → T (start_label s) ≡ true
    start_from (fields l) front next st i = absurd (false_true st)
    start_from (arguments l) front next st i = absurd (false_true (sym i))
    start_from (elements l) front next st i = absurd (false_true (sym i))
    start_from (const_specs l) front next st i = absurd (false_true st)
    start_from (var_specs l) front next st i = absurd (false_true st)
    start_from (type_specs l) front next st i = absurd (false_true st)
    start_from import_specs front next st i = here
    start_from (statements l) front next st i = absurd (false_true (sym i))
    start_from parameters front next st i = absurd (false_true st)
    start_from results front next st i = absurd (false_true st)

    pub path_from : (s : Reader) (p : Last) → Right ed s p → Allows p s → starts ed s kinds.String ≡ true → starts ed s kinds.Integer ≡ false → T (label s k) ≡ true
    path_from (ended f) p r n st i = absurd (false_true st)
    path_from (token kind need x next) p r n st i = absurd (false_true (sym (token_starts ed kinds.String x p kind next refl r.0) ∙ st))
    path_from (package_name next) p r n st i = absurd (false_true st)
    path_from (import_path x next) p r n st i = import_is p x r.0 n
    path_from (optional kind need some none) p r n st i =
        path_from none (under kind p) r.2 (λ e. under_not kind p r.0.0 e)
        (or_right (same kind kinds.String) (starts ed none kinds.String) (starts ed none kinds.String) (optional_not kind kinds.String r.0.1 refl) refl ∙ st)
        (either_false (same kind kinds.Integer) (starts ed none kinds.Integer) i).1
    path_from (newer kind need x some none) p r n st i =
        ap T (newer_label kind need x some none k (r.3 k))
        ∙ path_from none p r.2 (λ e. elim (n e) [ inl y ↦ inl y | inr y ↦ inr (sym (newer_starts ed p kind need x some none kinds.Name r.0 refl) ∙ y) ])
        (sym (newer_starts ed p kind need x some none kinds.String r.0 refl) ∙ st)
        (sym (newer_starts ed p kind need x some none kinds.Integer r.0 refl) ∙ i)
    path_from (type l x next) p r n st i = absurd (false_true st)
    path_from (optional_type l x some none) p r n st i =
        subst (λ y. starts ed (optional_type l y some none) kinds.String ≡ true → starts ed (optional_type l y some none) kinds.Integer ≡ false →
        T (label (optional_type l y some none) k) ≡ true) (sym (optional_type_is ed p x some none r.0))
        (λ c d. ap T (pick_other (is_left_out_at a_type k) a_type (label none k) no_type)
        ∙ path_from none p r.2 (λ e. not_end p (optional_type_end ed p x some none r.0) e) c d) st i
    path_from (expr m h l x next) p r n st i = absurd (false_true (sym i))
    path_from (optional_expr h l x some none) p r n st i = absurd (false_true (sym i))
    path_from (suffixes h l e next) p r n st i = path_from (next e) p r.0 n st i
    path_from (operators m h l e next) p r n st i = path_from (next e) p r.0 n st i
    path_from (more_names front next) p r n st i = path_from (next front) names (r.1 front) (λ e. not_end names refl e) st i
    path_from (more_exprs h l front next) p r n st i = path_from (next front) p (r.1 front p r.0) (λ e. not_end p r.0 e) st i
    path_from (list_start s front next) p r n st i = start_from s front next st i
    path_from (list_end s x front next) p r n st i = absurd (false_true (sym (list_string s) ∙ st))
    path_from (operands l next) p r n st i = absurd (false_true (sym i))
    path_from (lefts m h l [] next alone range) p r n st i = absurd (false_true st)
    path_from (lefts m h l (e ∷ []) next alone range) p r n st i =
        let behind : Simple → Reader = next in
        by_call
        (λ c. (c && starts ed (behind (call_statement e)) kinds.String) ≡ true → (c && starts ed (behind (call_statement e)) kinds.Integer) ≡ false →
        T (pick c (label (behind (call_statement e)) k) (behind_left m e)) ≡ true) (is_call e)
        (λ c d f. (let en = call_end m e p r.0 c in path_from (next (call_statement e)) p (r.1 (call_statement e) p en) (λ q. not_end p en q) d f))
        (λ c d f. absurd (false_true d)) st i
    path_from (lefts m h l (e ∷ f ∷ es) next alone range) p r n st i = absurd (false_true st)
    path_from (else_part l a j c b next) p r n st i =
        path_from (next (conditional a j c b no_else)) other (r.1 (conditional a j c b no_else)) (λ e. not_end other refl e) st i
    path_from (clause_start l done a values front next) p r n st i = absurd (false_true (sym i))
    path_from (clause_end l x done a values front next) p r n st i = absurd (false_true st)
    path_from (import_end a iss) p r n st i = absurd (false_true st)
    path_from (decl_end a is ds) p r n st i = absurd (false_true st)

pub import_path_is : (x : Expected) → is_import x ≡ true → is_path x ≡ true
import_path_is an_import e = refl
import_path_is _ e = absurd (false_true e)

-- where an import is due that may have a name, a name may come
abbrev pub Nameable : (ed : Edition) → Last → Reader → Type 0
Nameable ed p s = (p ≡ nameable) ⊎ Goes ed (kinds.Name ∷ []) s

not_import : {A : Type 0} (x : Expected) → is_import x ≡ false → is_import x ≡ true → A
not_import x e q = absurd (false_true (sym e ∙ q))

under_nameable : (k : TokenKind) (p : Last) → is_end p ≡ true → same k kinds.Name ≡ false → under k p ≡ nameable → ⊥
under_nameable kinds.Name p e ne q = false_true (sym ne)
under_nameable (kinds.Punctuation marks.Colon) p e ne q = let c : keyed ≡ nameable = q in cc (c)
under_nameable (kinds.Punctuation marks.CloseBracket) p e ne q = let c : bounded ≡ nameable = q in cc (c)
under_nameable _ p e ne q = false_true (sym (ap is_end q) ∙ e)

import_nameable : (p : Last) (x : Expected) → ImportOk p x → is_import x ≡ true → p ≡ nameable
import_nameable nameable an_import h q = refl
import_nameable name_last an_import_path h q = absurd (false_true q)
import_nameable _ _ h q = absurd h

start_name : (ed : Edition) → (s : ListKind) (front : _) (next : _) → is_import (start_label s) ≡ true → Goes ed (kinds.Name ∷ []) (list_start s front next)
start_name ed (fields l) front next q = absurd (false_true q)
start_name ed (arguments l) front next q = absurd (false_true q)
start_name ed (elements l) front next q = absurd (false_true q)
start_name ed (const_specs l) front next q = absurd (false_true q)
start_name ed (var_specs l) front next q = absurd (false_true q)
start_name ed (type_specs l) front next q = absurd (false_true q)
start_name ed import_specs front next q = ([], nowhere, tt)
start_name ed (statements l) front next q = absurd (false_true q)
start_name ed parameters front next q = absurd (false_true q)
start_name ed results front next q = absurd (false_true q)

optional_name : (ed : Edition) → (kind : TokenKind) (p : Last) (need : ℕ) (some : Lexeme → Reader) (none : Reader) → is_end p ≡ true → Nameable ed (under kind p) none →
    Nameable ed p (optional kind need some none)
optional_name ed kind p need some none en i = by_test (same kind kinds.Name) refl
  where
    by_test : (c : Bool) → same kind kinds.Name ≡ c → Nameable ed p (optional kind need some none)
    by_test true e =
        let t : Lexeme = tok kinds.Name [] nowhere in
        inr ([], nowhere, subst (λ c. GoesBy (Goes ed []) (cond c (Take need (some t)) (parser_step ed none t))) (sym e) tt)
    by_test false e = elim i [
      | inl n ↦ absurd (under_nameable kind p en e n)
      | inr g ↦ inr (optional_goes ed kinds.Name [] kind need some none e g)
    ]

pub import_name : (ed : Edition) → (s : Reader) (p : Last) → Right ed s p → is_import (label s period) ≡ true → Nameable ed p s
import_name ed (ended f) p r q = absurd (false_true q)
import_name ed (token kind need x next) p r q = not_import x (token_off ed is_import refl refl refl refl refl x p kind next r.0) q
import_name ed (package_name next) p r q = absurd (false_true q)
import_name ed (import_path x next) p r q = inl (import_nameable p x r.0 q)
import_name ed (optional kind need some none) p r q = optional_name ed kind p need some none r.0.0 (import_name ed none (under kind p) r.2 q)
import_name ed (newer kind need x some none) p r q =
    absurd (false_true (sym (newer_off ed is_import refl refl refl p kind need x some none period r.0 (r.3 period)) ∙ q))
import_name ed (type l x next) p r q = not_import x (type_off ed is_import refl refl refl p x next r.0) q
import_name ed (optional_type l x some none) p r q = inr ([], nowhere, tt)
import_name ed (expr n h l x next) p r q = not_import x (expr_off ed is_import refl refl refl refl p x (expr n h l x next) r.0) q
import_name ed (optional_expr h l x some none) p r q = inr ([], nowhere, tt)
import_name ed (suffixes h l e next) p r q = elim (import_name ed (next e) p r.0 q) [
  | inl i ↦ inl i
  | inr g ↦ (let t : Lexeme = tok kinds.Name g.0 g.1 in
      inr (g.0, g.1, moved (Goes ed []) _ _ (sym (brace_step h l (λ a. suffixes h l a next) t (parser_step ed (next e) t) (literal_type e) refl)) g.2))
]
import_name ed (operators n h l e next) p r q = import_name ed (next e) p r.0 q
import_name ed (more_names front next) p r q = elim (import_name ed (next front) names (r.1 front) q) [
  | inl i ↦ absurd (let c : names ≡ nameable = i in cc (c))
  | inr g ↦ inr g
]
import_name ed (more_exprs h l front next) p r q = import_name ed (next front) p (r.1 front p r.0) q
import_name ed (list_start s front next) p r q = inr (start_name ed s front next q)
import_name ed (list_end s x front next) p r q = not_import x (list_off is_import refl refl refl refl refl s x p r.0) q
import_name ed (operands l next) p r q = absurd (false_true q)
import_name ed (lefts m h l [] next alone range) p r q = absurd (false_true q)
import_name ed (lefts m h l (e ∷ []) next alone range) p r q =
    let behind : Simple → Reader = next in
    let part = by_call
    (λ c. is_import (pick c (label (behind (call_statement e)) period) (behind_left m e)) ≡ true →
    (p ≡ nameable) ⊎ ((text : List ℕ) × (place : Place)
    × GoesBy (Goes ed []) (cond c (parser_step ed (behind (call_statement e)) (tok kinds.Name text place)) (Fail (behind_left m e))))) (is_call e)
    (λ c d. import_name ed (next (call_statement e)) p (r.1 (call_statement e) p (call_end m e p r.0 c)) d)
    (λ c d. not_import (behind_left m e) (left_off ed is_import refl refl m e) d) q in
    elim part [
      | inl i ↦ inl i
      | inr g ↦ inr (g.0, g.1, moved (Goes ed []) _ _ (sym (left_step ed m h l e next alone range (tok kinds.Name g.0 g.1) refl)) g.2)
    ]
import_name ed (lefts m h l (e ∷ f ∷ es) next alone range) p r q = absurd (false_true q)
import_name ed (else_part l a i c b next) p r q = elim (import_name ed (next (conditional a i c b no_else)) other (r.1 (conditional a i c b no_else)) q) [
  | inl i ↦ absurd (let c : other ≡ nameable = i in cc (c))
  | inr g ↦ inr g
]
import_name ed (clause_start l done a values front next) p r q = absurd (false_true q)
import_name ed (clause_end l x done a values front next) p r q = not_import x (clause_off ed is_import refl refl x p r.0) q
import_name ed (import_end a iss) p r q = absurd (false_true q)
import_name ed (decl_end a is ds) p r q = absurd (false_true q)
