use Rattle.std.proofs.Common.{◌≡◌, drop}
use Rattle.std.specs.List.{list_any}
use Rattle.std.specs.Str.{bytes_eq}
use Rattle.go_stmt.specs.Views.{constant_names_in}
use Rattle.go_stmt.proofs.context.is_constant.Given as goal

abbrev pub invariant-loop-s : goal.invariant-loop-s
invariant-loop-s l = list_any (bytes_eq l.name.text) (constant_names_in (drop l.s-index l.statements)) ≡ list_any (bytes_eq l.name.text) (constant_names_in l.statements)
