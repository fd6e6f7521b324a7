-- Paths are in a total order, and the greater of two that are held is a join.
use Rattle.std.specs.Cmp.{IsTotalOrder}
use Rattle.std.specs.FinMap.{IsAntisymmetric, nat_cmp-IsAntisymmetric, slice_cmp-IsAntisymmetric}
use Rattle.std.proofs.lemmas.Cmp.{nat_list_cmp_total}
use Rattle.ws_map.specs.Greater.{IsSemilattice}
use Rattle.ws_map.proofs.Greater.{greater-semilattice}
use Rattle.ws_version.specs.Laws.{held_cmp_total, held_cmp-IsAntisymmetric}
use Rattle.ws_version.specs.Writes.{path_cmp, greater_held}

pub path_cmp_total : IsTotalOrder path_cmp
path_cmp_total = nat_list_cmp_total

pub path_cmp-IsAntisymmetric : IsAntisymmetric path_cmp
path_cmp-IsAntisymmetric = slice_cmp-IsAntisymmetric nat_cmp-IsAntisymmetric

pub held-semilattice : IsSemilattice greater_held
held-semilattice = greater-semilattice held_cmp_total held_cmp-IsAntisymmetric
