use Rattle.std.proofs.Common.{sym, ap, ◌∙◌}
use Rattle.std.specs.Map.{lookup}
use Rattle.std.specs.Str.{bytes_eq}
use Rattle.go_scope.proofs.Lookups.{lookup_named}
use Rattle.go_scope.proofs.block.Block.get.Goals as goal

pub returns : goal.returns
returns g c = c.get.ensures.value ∙ sym (lookup_named c.args.name.now c.self.inside.names.entries) ∙ ap (lookup (bytes_eq c.args.name.now)) c.self.view_is
