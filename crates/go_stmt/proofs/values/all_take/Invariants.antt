use Rattle.std.proofs.Common.{◌≡◌, drop, map}
use Rattle.std.specs.List.{zip, list_all}
use Rattle.std.specs.Option.{option_map}
use Rattle.go_types.specs.Views.{go_type}
use Rattle.go_stmt.specs.Rules.{takes}
use Rattle.go_stmt.proofs.values.all_take.Given as goal

abbrev pub invariant-loop-of : goal.invariant-loop-of
invariant-loop-of l =
    list_all takes (zip (map (option_map go_type) l.rest) (map go_type (drop l.of-index l.results))) ≡ list_all takes (zip (map (option_map go_type) l.due) (map go_type l.results))
