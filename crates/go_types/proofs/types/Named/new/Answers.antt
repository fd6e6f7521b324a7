use Rattle.std.proofs.Common.{string_bytes}
use Rattle.go_types.proofs.types.Named.new.Goals as goal

pub invariant_of-result : goal.invariant_of-result
invariant_of-result c = c.named_size-size.ensures (string_bytes c.args.path) (string_bytes c.args.name)
