use Rattle.std.proofs.Common.{length}
use Rattle.ws_version_vector.proofs.family.Vectors.+greatest_of.Given as goal

abbrev pub decreases-greatest_of : goal.decreases-greatest_of
decreases-greatest_of l = length l.at.now
