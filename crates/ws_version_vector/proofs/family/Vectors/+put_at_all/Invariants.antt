use Rattle.std.proofs.Common.{length}
use Rattle.ws_version_vector.proofs.family.Vectors.+put_at_all.Given as goal

abbrev pub decreases-put_at_all : goal.decreases-put_at_all
decreases-put_at_all l = length l.at.now
