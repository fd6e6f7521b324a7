-- Where a simple statement may stand.
use Rattle.std.specs.Prelude.{Bool, true, false}
use Rattle.go_ast.specs.Machine.{Position, in_for}

abbrev pub is_for : Position → Bool
is_for in_for = true
is_for _ = false
