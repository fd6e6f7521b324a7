use Rattle.std.proofs.Common.{ap, ◌∙◌}
use Rattle.std.specs.List.{position}
use Rattle.go_symbol.specs.Symbols.{same_symbol}
use Rattle.go_link.proofs.names.Names.number.Goals as goal

pub returns : goal.returns
returns c =
    c.copied.ensures ∙ c.get.ensures.value ∙ c.self.invariant (c.args.path, c.args.name)
    ∙ ap (position (same_symbol (record { path = c.args.path.now; name = c.args.name.now }))) c.self.view_is
