-- Where the states of lists go on as others do.
use Rattle.std.proofs.Common.{◌≡◌, ℕ, ◌+◌, true, false, List, [], ◌∷◌, None, refl, sym, ap, ◌∙◌}
use Rattle.go_text.specs.declared.edition.Edition.{Edition}
use Rattle.go_text.specs.Editions.{has_slices}
use Rattle.go_scan.specs.declared.token.TokenKind.{TokenKind}
use Rattle.go_scan.specs.declared.keyword.Keyword.TheVariants as keywords
use Rattle.go_ast.specs.Kinds.{same}
use Rattle.go_ast.specs.Expected.{Expected, an_operand, another}
use Rattle.go_ast.specs.Trees.{Expression}
use Rattle.go_ast.specs.Grammar.{Lexeme, opening_bracket, closing}
use Rattle.go_ast.specs.Machine.{Reader, Take, Fail, token, expr, operands, keyword, behind_bracket, behind_struct, behind_operand_type, on_operand, on_expr, list_start, list_end, ListKind, Item, fields, arguments, elements, const_specs, var_specs, type_specs, import_specs, statements, parameters, results, separator, closer, on_item, parser_step, final, cond, run_parser}
use Rattle.go_pexpr.specs.Reads.{First}
use Rattle.go_pexpr.proofs.Steps.{Kind, same_step, same_end, same_at, passed, chosen, cond_false}

apart : (k : ListKind) → same (separator k) (closer k) ≡ false
apart (fields l) = refl
apart (arguments l) = refl
apart (elements l) = refl
apart (const_specs l) = refl
apart (var_specs l) = refl
apart (type_specs l) = refl
apart import_specs = refl
apart (statements l) = refl
apart parameters = refl
apart results = refl

module _ (ed : Edition) (k : ListKind) (front : List (Item k)) (next : List (Item k) → Lexeme → Reader) where
  -- the end of a list is due
  pub list_closes : (ts : List Lexeme) → First (Kind (closer k)) ts → run_parser ed 250 (list_start k front next) ts ≡ run_parser ed 250 (token (closer k) 0 another (next front)) ts
  list_closes [] h = absurd h
  list_closes (t ∷ ts) h =
      same_step ed (list_start k front next) (token (closer k) 0 another (next front)) t ts
      (chosen (closer k) t (Take 0 (next front t)) (on_item k front next t) h ∙ sym (chosen (closer k) t (Take 0 (next front t)) (Fail another) h))

  -- behind an item the end may come as behind a separator
  pub list_ends : (x : Expected) (ts : List Lexeme) → First (Kind (closer k)) ts → run_parser ed 250 (list_end k x front next) ts ≡ run_parser ed 250 (list_start k front next) ts
  list_ends x [] h = absurd h
  list_ends x (t ∷ ts) h =
      same_step ed (list_end k x front next) (list_start k front next) t ts
      (cond_false (same (separator k) t.kind) (Take 0 (list_start k front next)) (cond (same (closer k) t.kind) (Take 0 (next front t)) (Fail x)) (ap (same (separator k)) h ∙ apart k)
      ∙ chosen (closer k) t (Take 0 (next front t)) (Fail x) h ∙ sym (chosen (closer k) t (Take 0 (next front t)) (on_item k front next t) h))

  -- elsewhere a separator is due behind an item
  pub list_goes : (x : Expected) (ts : List Lexeme) → (First (Kind (closer k)) ts → ⊥) → run_parser ed 250 (list_end k x front next) ts ≡ run_parser ed 250 (token (separator k) 0 x (λ _. list_start k front next)) ts
  list_goes x [] never = same_end ed (list_end k x front next) (token (separator k) 0 x (λ _. list_start k front next)) refl
  list_goes x (t ∷ ts) never =
      same_step ed (list_end k x front next) (token (separator k) 0 x (λ _. list_start k front next)) t ts
      (ap (cond (same (separator k) t.kind) (Take 0 (list_start k front next))) (passed (closer k) t (Take 0 (next front t)) (Fail x) never))

  pub list_separated : (x : Expected) (m : TokenKind) (ts : List Lexeme) → m ≡ separator k → (First (Kind (closer k)) ts → ⊥) → run_parser ed 250 (list_end k x front next) ts ≡ run_parser ed 250 (token m 0 x (λ _. list_start k front next)) ts
  list_separated x m ts e never = list_goes x ts never ∙ ap (λ s. run_parser ed 250 (token s 0 x (λ _. list_start k front next)) ts) (sym e)

  -- elsewhere an item is due
  pub list_item : (s : Reader) (ts : List Lexeme) → ((t : Lexeme) → on_item k front next t ≡ parser_step ed s t) → final s ≡ None → (First (Kind (closer k)) ts → ⊥) → run_parser ed 250 (list_start k front next) ts ≡ run_parser ed 250 s ts
  list_item s [] e f never = same_end ed (list_start k front next) s (sym f)
  list_item s (t ∷ ts) e f never = same_step ed (list_start k front next) s t ts (passed (closer k) t (Take 0 (next front t)) (on_item k front next t) never ∙ e t)

-- a call's operands

abbrev pub operand_end : ℕ → (List Expression → Lexeme → Reader) → Expression → Reader
operand_end l next e = list_end (arguments l) another (e ∷ []) next

module _ (ed : Edition) (l : ℕ) (next : List Expression → Lexeme → Reader) where
  -- none of them
  pub operands_close : (ts : List Lexeme) → First (Kind closing) ts → run_parser ed 250 (operands l next) ts ≡ run_parser ed 250 (token closing 0 another (next [])) ts
  operands_close ts h = same_at ed (operands l next) (token closing 0 another (next [])) closing ts h (λ text p. refl)

  first_step : (t : Lexeme) → (t.kind ≡ closing → ⊥) → parser_step ed (operands l next) t ≡ on_operand (has_slices ed) l (operand_end l next) t
  first_step t never = passed closing t (Take 0 (next [] t)) (on_operand (has_slices ed) l (operand_end l next) t) never

  -- the first of them, without slices
  pub operands_old : (ts : List Lexeme) → has_slices ed ≡ false → (First (Kind closing) ts → ⊥) →
      run_parser ed 250 (operands l next) ts ≡ run_parser ed 250 (expr 5 false l an_operand (operand_end l next)) ts
  operands_old [] has never = same_end ed (operands l next) (expr 5 false l an_operand (operand_end l next)) refl
  operands_old (t ∷ ts) has never =
      same_step ed (operands l next) (expr 5 false l an_operand (operand_end l next)) t ts
      (first_step t never ∙ ap (λ b. on_operand b l (operand_end l next) t) has)

  -- with slices a type may come
  pub operands_bracket : (ts : List Lexeme) → has_slices ed ≡ true → First (Kind opening_bracket) ts →
      run_parser ed 250 (operands l next) ts ≡ run_parser ed 250 (token opening_bracket (l + 1) another (behind_bracket l (behind_operand_type l (operand_end l next)))) ts
  operands_bracket ts has h =
      same_at ed (operands l next) (token opening_bracket (l + 1) another (behind_bracket l (behind_operand_type l (operand_end l next)))) opening_bracket ts h
      (λ text p. ap (λ b. on_operand b l (operand_end l next) (record { kind = opening_bracket; text = text; place = p })) has)

  pub operands_struct : (ts : List Lexeme) → has_slices ed ≡ true → First (Kind (keyword keywords.Struct)) ts →
      run_parser ed 250 (operands l next) ts ≡ run_parser ed 250 (token (keyword keywords.Struct) l another (behind_struct l (behind_operand_type l (operand_end l next)))) ts
  operands_struct ts has h =
      same_at ed (operands l next) (token (keyword keywords.Struct) l another (behind_struct l (behind_operand_type l (operand_end l next)))) (keyword keywords.Struct) ts h
      (λ text p. ap (λ b. on_operand b l (operand_end l next) (record { kind = keyword keywords.Struct; text = text; place = p })) has)

  -- or an expression
  pub operands_expr : (ts : List Lexeme) → has_slices ed ≡ true → (First (Kind closing) ts → ⊥) → (First (Kind opening_bracket) ts → ⊥) →
      (First (Kind (keyword keywords.Struct)) ts → ⊥) →
      run_parser ed 250 (operands l next) ts ≡ run_parser ed 250 (expr 5 false l an_operand (operand_end l next)) ts
  operands_expr [] has never no_bracket no_struct = same_end ed (operands l next) (expr 5 false l an_operand (operand_end l next)) refl
  operands_expr (t ∷ ts) has never no_bracket no_struct =
      let behind = behind_operand_type l (operand_end l next) in
      same_step ed (operands l next) (expr 5 false l an_operand (operand_end l next)) t ts
      (first_step t never ∙ ap (λ b. on_operand b l (operand_end l next) t) has
      ∙ passed opening_bracket t (Take (l + 1) (behind_bracket l behind t))
      (cond (same (keyword keywords.Struct) t.kind) (Take l (behind_struct l behind t)) (on_expr 5 false l an_operand (operand_end l next) t)) no_bracket
      ∙ passed (keyword keywords.Struct) t (Take l (behind_struct l behind t)) (on_expr 5 false l an_operand (operand_end l next) t) no_struct)
