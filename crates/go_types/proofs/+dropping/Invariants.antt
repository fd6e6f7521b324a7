use Rattle.std.proofs.Common.{◌≤◌}
use Rattle.go_types.specs.declared.types.Element.TheDeep.{deep-GoType}
use Rattle.go_types.proofs.+dropping.Given as goal

-- what is left isn't deeper than the whole
abbrev pub invariant-types::GoType::drop-loop-self : goal.invariant-types::GoType::drop-loop-self
invariant-types::GoType::drop-loop-self l = deep-GoType l.self ≤ deep-GoType l.initial.self

abbrev pub decreases-types::GoType::drop-loop-self : goal.decreases-types::GoType::drop-loop-self
decreases-types::GoType::drop-loop-self l = deep-GoType l.self
