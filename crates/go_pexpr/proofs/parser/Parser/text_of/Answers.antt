use Rattle.std.proofs.Common.{sym, subst}
use Rattle.std.specs.Prelude.{IsUtf8}
use Rattle.go_pexpr.proofs.Stands.{lies_text}
use Rattle.go_pexpr.proofs.parser.Parser.text_of.Goals as goal

pub text_from-requires : goal.text_from-requires
text_from-requires c = subst IsUtf8 (sym c.spelling.ensures) (lies_text c.args.self.now.text.now c.args.token c.requires.stands c.requires.kind)
