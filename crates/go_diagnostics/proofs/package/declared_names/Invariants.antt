use Rattle.std.proofs.Common.{◌≡◌, [], ◌++◌, length, map}
use Rattle.go_diagnostics.specs.Packages.{declared_names}
use Rattle.go_diagnostics.proofs.package.declared_names.Given as goal

-- the names so far, and those that are left
abbrev pub invariant-loop-rest : goal.invariant-loop-rest
invariant-loop-rest l = map (λ name. name.now) l.names.items ++ declared_names l.text l.before l.rest ≡ declared_names l.text [] l.tokens

abbrev pub decreases-loop-rest : goal.decreases-loop-rest
decreases-loop-rest l = length l.rest
