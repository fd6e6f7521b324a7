use Rattle.std.proofs.Common.{◌≡◌, ◌++◌, map, drop}
use Rattle.std.specs.List.{filter}
use Rattle.go_link.specs.Links.{is_init_symbol, start_of}
use Rattle.go_link.proofs.starts.push_inits.Given as goal

abbrev pub invariant-loop-function : goal.invariant-loop-function
invariant-loop-function l =
    l.starts.items ++ map (λ f. start_of l.names l.object f.name) (filter is_init_symbol (drop l.function-index l.functions))
    ≡ l.fn.starts.items ++ map (λ f. start_of l.names l.object f.name) (filter is_init_symbol l.functions)
