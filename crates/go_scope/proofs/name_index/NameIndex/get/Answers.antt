use Rattle.std.proofs.Common.{sym, ap, ◌∙◌}
use Rattle.std.specs.Prelude.{position}
use Rattle.std.specs.Str.{bytes_eq}
use Rattle.go_scope.proofs.Indexes.{lookup_seen}
use Rattle.go_scope.proofs.name_index.NameIndex.get.Goals as goal

pub returns : goal.returns
returns c =
    c.copied.ensures ∙ c.get.ensures.value ∙ sym (lookup_seen c.args.name.now c.self.inside.firsts.entries) ∙ c.self.invariant c.args.name.now
    ∙ ap (position (bytes_eq c.args.name.now)) c.self.view_is
