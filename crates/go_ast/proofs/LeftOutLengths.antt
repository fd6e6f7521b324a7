-- Behind the bracket of an index a number, the bracket and a period may come, and behind that of a length they may not.
use Rattle.std.proofs.Common.{◌≡◌, ℕ, Bool, true, false, List, [], ◌∷◌, refl, sym, ◌∙◌, ap}
use Rattle.go_text.specs.declared.edition.Edition.{Edition}
use Rattle.go_text.specs.declared.place.Place.{Place}
use Rattle.go_scan.specs.declared.token.TokenKind.TheVariants as kinds
use Rattle.go_ast.specs.Expected.{Expected, a_length, an_index, an_element_end, a_field_end, a_result_end, behind_a_jump, another}
use Rattle.go_ast.specs.Trees.{Expression}
use Rattle.go_ast.specs.Grammar.{closing_bracket, period, colon}
use Rattle.go_ast.specs.Machine.{ListKind, fields, arguments, elements, const_specs, var_specs, type_specs, import_specs, statements, parameters, results, Reader, ended, token, package_name, import_path, optional, type, optional_type, expr, optional_expr, suffixes, operators, more_names, more_exprs, list_start, list_end, lefts, else_part, clause_start, clause_end, import_end, decl_end, literal_type, parser_step, newer, operands}
use Rattle.go_ast.proofs.Base.{false_true}
use Rattle.go_ast.proofs.LeftOutStates.{bracket, tok, Goes, label, ExprOk, EndOk, Right, index_tail, is_alone, LeftsOk}
use Rattle.go_ast.proofs.LeftOutTests.{import_off, type_off, clause_off}
use Rattle.go_ast.proofs.LeftOutIndexes.{brace_step, moved}
use Rattle.go_ast.proofs.LeftOutEnds.{token_off}
use Rattle.go_ast.proofs.LeftOutAliases.{optional_type_end}
use Rattle.go_ast.proofs.LeftOutLed.{newer_not, newer_label}
use Rattle.go_ast.proofs.LeftOutPassed.{newer_goes, goes_newer}

abbrev pub is_indexed : Expected → Bool
is_indexed an_index = true
is_indexed _ = false

abbrev pub is_length : Expected → Bool
is_length a_length = true
is_length _ = false

-- the label in a state behind a bracket
abbrev pub Measured : (ed : Edition) → Reader → Type 0
Measured ed s = (is_indexed (label s colon) ≡ true → Goes ed index_tail s) × (is_length (label s colon) ≡ true → Goes ed index_tail s → ⊥)

neither_one : (ed : Edition) → (s : Reader) → is_indexed (label s colon) ≡ false → is_length (label s colon) ≡ false → Measured ed s
neither_one ed s e f = ((λ q. absurd (false_true (sym e ∙ q))), λ q. absurd (false_true (sym f ∙ q)))

expr_measured : (ed : Edition) → (n : ℕ) (h : Bool) (l : ℕ) (x : Expected) (next : Expression → Reader) → ExprOk ed bracket x (expr n h l x next) → Measured ed (expr n h l x next)
expr_measured ed n h l a_length next r = ((λ q. absurd (false_true q)), λ q g. r g)
expr_measured ed n h l an_index next r = ((λ q. r), λ q. absurd (false_true q))
expr_measured ed n h l _ next r = absurd r

list_measured : {A : Type 0} (k : ListKind) (x : Expected) → EndOk k x bracket → A
list_measured (fields l) a_field_end h = absurd (false_true h)
list_measured (elements l) an_element_end h = absurd (false_true h)
list_measured (elements l) another h = absurd (cc (h))
list_measured (statements l) behind_a_jump h = absurd (cc (h))
list_measured (statements l) another h = absurd (false_true h)
list_measured results a_result_end h = absurd (false_true h)
list_measured (arguments l) another h = absurd (false_true h)
list_measured (const_specs l) another h = absurd (false_true h)
list_measured (var_specs l) another h = absurd (false_true h)
list_measured (type_specs l) another h = absurd (false_true h)
list_measured import_specs another h = absurd (false_true h)
list_measured parameters another h = absurd (false_true h)
list_measured _ _ h = absurd h

no_lefts : {A : Type 0} (c : Bool) → LeftsOk c bracket → A
no_lefts true h = absurd (cc (h))
no_lefts false h = absurd (false_true h)

pub measured : (ed : Edition) → (s : Reader) → Right ed s bracket → Measured ed s
measured ed (ended f) r = absurd (false_true r)
measured ed (token kind need x next) r =
    neither_one ed (token kind need x next) (token_off ed is_indexed refl refl refl refl refl x bracket kind next r.0)
    (token_off ed is_length refl refl refl refl refl x bracket kind next r.0)
measured ed (package_name next) r = neither_one ed (package_name next) refl refl
measured ed (import_path x next) r =
    neither_one ed (import_path x next) (import_off ed is_indexed refl refl bracket x r.0) (import_off ed is_length refl refl bracket x r.0)
measured ed (optional kind need some none) r = absurd (false_true r.0.0)
measured ed (newer kind need x some none) r =
    let i = measured ed none r.2 in
    let e = newer_label kind need x some none colon (r.3 colon) in
    let integer = newer_not ed bracket kind x some kinds.Integer r.0 refl in (
      (λ q. newer_goes ed kinds.Integer (closing_bracket ∷ period ∷ []) kind need x some none integer (i.0 (sym (ap is_indexed e) ∙ q))),
      (λ q g. i.1 (sym (ap is_length e) ∙ q) (goes_newer ed kinds.Integer (closing_bracket ∷ period ∷ []) kind need x some none integer g)),
    )
measured ed (type l x next) r =
    neither_one ed (type l x next) (type_off ed is_indexed refl refl refl bracket x next r.0) (type_off ed is_length refl refl refl bracket x next r.0)
measured ed (optional_type l x some none) r = absurd (false_true (optional_type_end ed bracket x some none r.0))
measured ed (expr n h l x next) r = expr_measured ed n h l x next r.0
measured ed (optional_expr h l x some none) r = absurd (cc (r.0))
measured ed (suffixes h l e next) r =
    let i = measured ed (next e) r.0 in
    let at = λ (text : List ℕ) (place : Place). brace_step h l (λ a. suffixes h l a next) (tok kinds.Integer text place) (parser_step ed (next e) (tok kinds.Integer text place))
    (literal_type e) refl in (
      (λ q. (let g = i.0 q in (g.0, g.1, moved (Goes ed (closing_bracket ∷ period ∷ [])) _ _ (sym (at g.0 g.1)) g.2))),
      (λ q g. i.1 q (g.0, g.1, moved (Goes ed (closing_bracket ∷ period ∷ [])) _ _ (at g.0 g.1) g.2)),
    )
measured ed (operators n h l e next) r = measured ed (next e) r.0
measured ed (more_names front next) r = absurd (cc (r.0))
measured ed (more_exprs h l front next) r = absurd (false_true r.0)
measured ed (list_start s front next) r = absurd (cc (r.0))
measured ed (list_end s x front next) r = list_measured s x r.0
measured ed (operands l next) r = absurd (cc (r.0))
measured ed (lefts m h l front next alone range) r = no_lefts (is_alone m front) r.0
measured ed (else_part l a i c b next) r = absurd (cc (r.0))
measured ed (clause_start l done a values front next) r = absurd (cc (r.0))
measured ed (clause_end l x done a values front next) r =
    neither_one ed (clause_end l x done a values front next) (clause_off ed is_indexed refl refl x bracket r.0) (clause_off ed is_length refl refl x bracket r.0)
measured ed (import_end a iss) r = absurd (false_true r)
measured ed (decl_end a is ds) r = absurd (false_true r)
