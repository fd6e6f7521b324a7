use Rattle.std.proofs.Common.{◌∙◌}
use Rattle.go_gen.proofs.Reversed.{replaced}
use Rattle.go_gen.proofs.code.Code.replace.Goals as goal

pub returns : goal.returns
returns c front back x e len = replaced c.self.inside.reversed.items front back x c.args.instr c.args.following (c.self.view_is ∙ e) len
