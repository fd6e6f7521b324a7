-- Keys of elements.
use Rattle.std.specs.Prelude.{Option, Some, None, Box}
use Rattle.std.specs.Global.{Global}
use Rattle.go_ast.specs.Trees.{Name}

-- the name that is kept, if there is one
abbrev pub kept_name : Option (Box Name Global) → Option Name
kept_name None = None
kept_name (Some name) = Some name.value
