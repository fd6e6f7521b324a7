use Rattle.std.proofs.Common.{◌≡◌, ◌++◌, drop, map}
use Rattle.std.specs.Prelude.{slice_get}
use Rattle.std.specs.List.{filter_map}
use Rattle.go_typed.specs.Views.{initialization_of}
use Rattle.go_gen.specs.Translation.{symbol_code, translated_setup}
use Rattle.go_gen.proofs.setup.generate_setups.Given as goal

abbrev pub invariant-loop-index : goal.invariant-loop-index
invariant-loop-index l =
    l.made.items ++ map (translated_setup symbol_code symbol_code l.path) (filter_map (slice_get (map initialization_of l.initializations)) (drop l.index-index l.order))
    ≡ map (translated_setup symbol_code symbol_code l.path) (filter_map (slice_get (map initialization_of l.initializations)) l.order)
