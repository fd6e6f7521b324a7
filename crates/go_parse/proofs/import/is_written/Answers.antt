use Rattle.std.proofs.Common.{◌≡◌, sym, ap, ◌∙◌, subst}
use Rattle.std.proofs.lemmas.Bool.Decides.{Decides-eqb}
use Rattle.std.proofs.lemmas.Slice.Eq.{slice_eq-Decides}
use Rattle.go_ast.specs.Grammar.{Lexeme}
use Rattle.go_ast.specs.Tokens.{lexemes}
use Rattle.go_pexpr.specs.Reads.{First}
use Rattle.go_pexpr.proofs.Steps.{first_and_rest}
use Rattle.go_parse.proofs.import.is_written.Goals as goal

pub returns-in-len1-up : goal.returns-in-len1-up
returns-in-len1-up c =
    let Is : Lexeme → Type 0 = λ t. t.text ≡ c.args.text.now in
    let some = ap (lexemes c.args.parser.now.text.now) (first_and_rest c.args.parser.now.tokens.now _ c.in-len1-up.len_at_least) in
    let same = slice_eq-Decides Decides-eqb _ _ _ c.eq.ensures in (
      λ h. subst (First Is) (sym some) (sym c.spelling.ensures ∙ same.0 h),
      λ h. same.1 (c.spelling.ensures ∙ subst (First Is) some h),
    )
