use Rattle.std.proofs.Common.{◌≡◌, List, ◌++◌, length}
use Rattle.ws_version.specs.Writes.{Write}
use Rattle.ws_register.specs.Pages.{Ascends, AllPathsBelow}
use Rattle.ws_register.proofs.rest.Rest.pass_below.Given as goal

abbrev pub invariant-passed : goal.invariant-passed
invariant-passed l = ((front : List Write) × (l.fn.self ≡ front ++ l.self) × AllPathsBelow front l.path) × Ascends l.self

abbrev pub decreases-passed : goal.decreases-passed
decreases-passed l = length l.self
