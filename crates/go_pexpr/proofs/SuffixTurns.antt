-- Where the suffixes of an operand go on.
use Rattle.std.proofs.Common.{◌≡◌, ℕ, ◌+◌, Bool, true, false, List, [], ◌∷◌, Option, Some, None, refl, ap, ◌∙◌}
use Rattle.go_text.specs.declared.edition.Edition.{Edition}
use Rattle.go_scan.specs.declared.token.TokenKind.{TokenKind}
use Rattle.go_scan.specs.declared.token.TokenKind.TheVariants as kinds
use Rattle.go_scan.specs.declared.punctuation.Punctuation.TheVariants as marks
use Rattle.go_ast.specs.Kinds.{same}
use Rattle.go_ast.specs.Expected.{another}
use Rattle.go_ast.specs.Trees.{TypeExpr, Expression}
use Rattle.go_ast.specs.Heights.{height}
use Rattle.go_ast.specs.Grammar.{Lexeme, opening, opening_bracket, opening_brace, period}
use Rattle.go_ast.specs.Machine.{Reader, Move, Take, token, suffixes, literal_type, is_some, on_brace, parser_step, run_parser}
use Rattle.go_ast.proofs.Same.{not_same}
use Rattle.go_pexpr.specs.declared.operators.Suffix.TheVariants.{Selector, Index, Call, CompositeLit}
use Rattle.go_pexpr.specs.Next.{suffix_of, suffix_at}
use Rattle.go_pexpr.specs.Turns.{behind_selector, behind_index, behind_call, behind_brace}
use Rattle.go_pexpr.proofs.Steps.{same_step, same_end, same_at, cond_false, passed}

-- the first token of a suffix
selector_kind : (h a : Bool) (k : TokenKind) → suffix_of h a k ≡ Some Selector → k ≡ period
selector_kind h a (kinds.Punctuation marks.Period) e = refl
selector_kind false true (kinds.Punctuation marks.OpenBrace) e = cc (e)
selector_kind false false (kinds.Punctuation marks.OpenBrace) e = cc (e)
selector_kind true a (kinds.Punctuation marks.OpenBrace) e = cc (e)
selector_kind h a _ e = cc (e)

index_kind : (h a : Bool) (k : TokenKind) → suffix_of h a k ≡ Some Index → k ≡ opening_bracket
index_kind h a (kinds.Punctuation marks.OpenBracket) e = refl
index_kind false true (kinds.Punctuation marks.OpenBrace) e = cc (e)
index_kind false false (kinds.Punctuation marks.OpenBrace) e = cc (e)
index_kind true a (kinds.Punctuation marks.OpenBrace) e = cc (e)
index_kind h a _ e = cc (e)

call_kind : (h a : Bool) (k : TokenKind) → suffix_of h a k ≡ Some Call → k ≡ opening
call_kind h a (kinds.Punctuation marks.OpenParenthesis) e = refl
call_kind false true (kinds.Punctuation marks.OpenBrace) e = cc (e)
call_kind false false (kinds.Punctuation marks.OpenBrace) e = cc (e)
call_kind true a (kinds.Punctuation marks.OpenBrace) e = cc (e)
call_kind h a _ e = cc (e)

literal_kind : (h a : Bool) (k : TokenKind) → suffix_of h a k ≡ Some CompositeLit → (k ≡ opening_brace) × (h ≡ false) × (a ≡ true)
literal_kind false true (kinds.Punctuation marks.OpenBrace) e = (refl, refl, refl)
literal_kind false false (kinds.Punctuation marks.OpenBrace) e = cc (e)
literal_kind true a (kinds.Punctuation marks.OpenBrace) e = cc (e)
literal_kind h a _ e = cc (e)

pub some_of : {A : Type 0} (o : Option A) → is_some o ≡ true → (a : A) × (o ≡ Some a)
some_of None e = cc (e)
some_of (Some a) e = (a, refl)

pub literal_named : (h : Bool) (e : Expression) (ts : List Lexeme) → suffix_at h (is_some (literal_type e)) ts ≡ Some CompositeLit → (a : TypeExpr) × (literal_type e ≡ Some a)
literal_named h e [] q = cc (q)
literal_named h e (t ∷ ts) q = some_of (literal_type e) (literal_kind h (is_some (literal_type e)) t.kind q).2

some_none : {A : Type 0} (o : Option A) (a : A) → o ≡ Some a → o ≡ None → ⊥
some_none o a e f = cc (e, f)

brace_ends : (h : Bool) (l : ℕ) (behind : Expression → Reader) (t : Lexeme) (other : Move) (o : Option TypeExpr) → suffix_of h (is_some o) t.kind ≡ None → on_brace h l behind t other o ≡ other
brace_ends true l behind t other None q = refl
brace_ends true l behind t other (Some a) q = refl
brace_ends false l behind t other None q = refl
brace_ends false l behind t other (Some a) q =
    passed opening_brace t (Take (l + 1) (behind_brace l a behind t)) other (λ k. some_none (suffix_of false true t.kind) CompositeLit (ap (suffix_of false true) k) q)

module _ (ed : Edition) (h : Bool) (l : ℕ) (e : Expression) (next : Expression → Reader) where
  pub as_selector : (a : Bool) (ts : List Lexeme) → suffix_at h a ts ≡ Some Selector → run_parser ed 250 (suffixes h l e next) ts ≡ run_parser ed 250 (token period (l + height e) another (behind_selector e (λ x. suffixes h l x next))) ts
  as_selector a [] q = cc (q)
  as_selector a (t ∷ ts) q = same_at ed (suffixes h l e next) (token period (l + height e) another (behind_selector e (λ x. suffixes h l x next))) period (t ∷ ts) (selector_kind h a t.kind q) (λ text p. refl)

  pub as_index : (a : Bool) (ts : List Lexeme) → suffix_at h a ts ≡ Some Index → run_parser ed 250 (suffixes h l e next) ts ≡ run_parser ed 250 (token opening_bracket (l + height e) another (behind_index l e (λ x. suffixes h l x next))) ts
  as_index a [] q = cc (q)
  as_index a (t ∷ ts) q = same_at ed (suffixes h l e next) (token opening_bracket (l + height e) another (behind_index l e (λ x. suffixes h l x next))) opening_bracket (t ∷ ts) (index_kind h a t.kind q) (λ text p. refl)

  pub as_call : (a : Bool) (ts : List Lexeme) → suffix_at h a ts ≡ Some Call → run_parser ed 250 (suffixes h l e next) ts ≡ run_parser ed 250 (token opening (l + height e) another (behind_call l e (λ x. suffixes h l x next))) ts
  as_call a [] q = cc (q)
  as_call a (t ∷ ts) q = same_at ed (suffixes h l e next) (token opening (l + height e) another (behind_call l e (λ x. suffixes h l x next))) opening (t ∷ ts) (call_kind h a t.kind q) (λ text p. refl)

  pub as_literal : (a : TypeExpr) (ts : List Lexeme) → suffix_at h (is_some (literal_type e)) ts ≡ Some CompositeLit → literal_type e ≡ Some a → run_parser ed 250 (suffixes h l e next) ts ≡ run_parser ed 250 (token opening_brace (l + 1) another (behind_brace l a (λ x. suffixes h l x next))) ts
  as_literal a [] q la = cc (q)
  as_literal a (t ∷ ts) q la =
      let is = literal_kind h (is_some (literal_type e)) t.kind q in
      same_at ed (suffixes h l e next) (token opening_brace (l + 1) another (behind_brace l a (λ x. suffixes h l x next))) opening_brace (t ∷ ts) is.0
      (λ text p.
      ap (λ x. on_brace x l (λ y. suffixes h l y next) (record { kind = opening_brace; text = text; place = p }) (parser_step ed (next e) (record { kind = opening_brace; text = text; place = p })) (literal_type e)) is.1
      ∙ ap (on_brace false l (λ y. suffixes h l y next) (record { kind = opening_brace; text = text; place = p }) (parser_step ed (next e) (record { kind = opening_brace; text = text; place = p }))) la)

  pub suffix_ends : (ts : List Lexeme) → suffix_at h (is_some (literal_type e)) ts ≡ None → run_parser ed 250 (suffixes h l e next) ts ≡ run_parser ed 250 (next e) ts
  suffix_ends [] q = same_end ed (suffixes h l e next) (next e) refl
  suffix_ends (t ∷ ts) q =
      let a = is_some (literal_type e) in
      same_step ed (suffixes h l e next) (next e) t ts (
      cond_false (same period t.kind) _ _ (not_same period t.kind (λ k. some_none (suffix_of h a t.kind) Selector (ap (suffix_of h a) k) q))
      ∙ cond_false (same opening_bracket t.kind) _ _ (not_same opening_bracket t.kind (λ k. some_none (suffix_of h a t.kind) Index (ap (suffix_of h a) k) q))
      ∙ cond_false (same opening t.kind) _ _ (not_same opening t.kind (λ k. some_none (suffix_of h a t.kind) Call (ap (suffix_of h a) k) q))
      ∙ brace_ends h l (λ x. suffixes h l x next) t (parser_step ed (next e) t) (literal_type e) q)
