use Rattle.std.proofs.Common.{◌≡◌, ◌++◌, map, string_bytes}
use Rattle.std.specs.List.{filter_map}
use Rattle.std.specs.Option.{option_map}
use Rattle.go_typed.specs.Views.{constant_of}
use Rattle.go_expr.specs.Views.{declared_of, names_of}
use Rattle.go_package.specs.Typed.{exported_constant, constants_in}
use Rattle.go_package.proofs.names.constants_in.Given as goal

abbrev pub invariant-loop-name : goal.invariant-loop-name
invariant-loop-name l =
    map constant_of l.found.items ++ filter_map exported_constant (map (λ e. (string_bytes e.0, option_map declared_of e.1)) l.name-iterator) ≡ constants_in (names_of l.known)
