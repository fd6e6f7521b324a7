use Rattle.std.proofs.Common.{map, ◌∙◌}
use Rattle.go_objects.specs.Views.{object_view}
use Rattle.go_objects.proofs.Firsts.{number_by_keys}
use Rattle.go_objects.proofs.objects.Objects.number_of.Goals as goal

pub returns : goal.returns
returns c =
    let objects = c.args.self.now in
    c.get_index_of.ensures.index ∙ number_by_keys objects.names.keys (map object_view objects.list.items) c.args.name.now objects.numbered.same
