use Rattle.std.proofs.Common.{◌≡◌, ◌++◌, length}
use Rattle.ws_register.specs.Sources.{texts_of}
use Rattle.ws_register.specs.Texted.{texted}
use Rattle.ws_register.proofs.sources_of.Given as goal

-- the sources so far, and those among what is left
abbrev pub invariant-writes : goal.invariant-writes
invariant-writes l = texted l.sources.items ++ texts_of l.left ≡ texts_of l.fn.rest

abbrev pub decreases-writes : goal.decreases-writes
decreases-writes l = length l.left
