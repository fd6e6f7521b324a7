-- Where a type or an expression that may be missing is read, refused, or passed over.
use Rattle.std.proofs.Common.{◌≡◌, ℕ, Bool, true, false, List, [], ◌∷◌, refl, ap, ◌∙◌}
use Rattle.go_text.specs.declared.edition.Edition.{Edition}
use Rattle.go_ast.specs.Expected.{Expected, is_left_out_at}
use Rattle.go_ast.specs.Trees.{TypeExpr, Expression}
use Rattle.go_ast.specs.Grammar.{Lexeme}
use Rattle.go_ast.specs.Machine.{Reader, Move, Fail, type, optional_type, expr, optional_expr, begins_type, begins_expr, on_type, on_expr, on_optional, parser_step, Refused, run_parser}
use Rattle.go_pexpr.specs.Reads.{fault_of}
use Rattle.go_pexpr.specs.Next.{type_begins, expr_begins, left_out_at}
use Rattle.go_pexpr.proofs.Steps.{same_step, same_end, refuses}

false_true : false ≡ true → ⊥
false_true e = cc (e)

-- what is done where it begins, and where it doesn't
on_there : (b out : Bool) (x : Expected) (there missing : Move) → b ≡ true → on_optional b out x there missing ≡ there
on_there true out x there missing e = refl
on_there false out x there missing e = absurd (false_true e)

on_out : (b out : Bool) (x : Expected) (there missing : Move) → b ≡ false → out ≡ true → on_optional b out x there missing ≡ Fail x
on_out b out x there missing e f = ap (λ c. on_optional c out x there missing) e ∙ ap (λ c. on_optional false c x there missing) f

on_missing : (b out : Bool) (x : Expected) (there missing : Move) → b ≡ false → out ≡ false → on_optional b out x there missing ≡ missing
on_missing b out x there missing e f = ap (λ c. on_optional c out x there missing) e ∙ ap (λ c. on_optional false c x there missing) f

module _ (ed : Edition) (l : ℕ) (x : Expected) (some : TypeExpr → Reader) (none : Reader) where
  pub type_there : (ts : List Lexeme) → type_begins ts ≡ true → run_parser ed 250 (optional_type l x some none) ts ≡ run_parser ed 250 (type l x some) ts
  type_there [] e = absurd (false_true e)
  type_there (t ∷ ts) e =
      same_step ed (optional_type l x some none) (type l x some) t ts
      (on_there (begins_type t.kind) (is_left_out_at x t.kind) x (on_type l x some t) (parser_step ed none t) e)

  pub type_out : (ts : List Lexeme) → type_begins ts ≡ false → left_out_at x ts ≡ true → run_parser ed 250 (optional_type l x some none) ts ≡ Refused (fault_of x ts) ts
  type_out [] e f = absurd (false_true f)
  type_out (t ∷ ts) e f =
      refuses ed (optional_type l x some none) x t ts
      (on_out (begins_type t.kind) (is_left_out_at x t.kind) x (on_type l x some t) (parser_step ed none t) e f)

  pub type_missing : (ts : List Lexeme) → type_begins ts ≡ false → left_out_at x ts ≡ false → run_parser ed 250 (optional_type l x some none) ts ≡ run_parser ed 250 none ts
  type_missing [] e f = same_end ed (optional_type l x some none) none refl
  type_missing (t ∷ ts) e f =
      same_step ed (optional_type l x some none) none t ts
      (on_missing (begins_type t.kind) (is_left_out_at x t.kind) x (on_type l x some t) (parser_step ed none t) e f)

module _ (ed : Edition) (h : Bool) (l : ℕ) (x : Expected) (some : Expression → Reader) (none : Reader) where
  pub expr_there : (ts : List Lexeme) → expr_begins ts ≡ true → run_parser ed 250 (optional_expr h l x some none) ts ≡ run_parser ed 250 (expr 5 h l x some) ts
  expr_there [] e = absurd (false_true e)
  expr_there (t ∷ ts) e =
      same_step ed (optional_expr h l x some none) (expr 5 h l x some) t ts
      (on_there (begins_expr t.kind) (is_left_out_at x t.kind) x (on_expr 5 h l x some t) (parser_step ed none t) e)

  pub expr_out : (ts : List Lexeme) → expr_begins ts ≡ false → left_out_at x ts ≡ true → run_parser ed 250 (optional_expr h l x some none) ts ≡ Refused (fault_of x ts) ts
  expr_out [] e f = absurd (false_true f)
  expr_out (t ∷ ts) e f =
      refuses ed (optional_expr h l x some none) x t ts
      (on_out (begins_expr t.kind) (is_left_out_at x t.kind) x (on_expr 5 h l x some t) (parser_step ed none t) e f)

  pub expr_missing : (ts : List Lexeme) → expr_begins ts ≡ false → left_out_at x ts ≡ false → run_parser ed 250 (optional_expr h l x some none) ts ≡ run_parser ed 250 none ts
  expr_missing [] e f = same_end ed (optional_expr h l x some none) none refl
  expr_missing (t ∷ ts) e f =
      same_step ed (optional_expr h l x some none) none t ts
      (on_missing (begins_expr t.kind) (is_left_out_at x t.kind) x (on_expr 5 h l x some t) (parser_step ed none t) e f)
