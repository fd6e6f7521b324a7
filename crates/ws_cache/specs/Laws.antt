-- What the orders of ids and of entries owe: they are total, what ties is one, and the lesser of two entries is a join.
use Rattle.std.specs.Cmp.{IsTotalOrder}
use Rattle.std.specs.FinMap.{IsAntisymmetric, nat_cmp-IsAntisymmetric, slice_cmp-IsAntisymmetric}
use Rattle.std.proofs.lemmas.Cmp.{back_total, nat_list_cmp_total}
use Rattle.std.proofs.Common.{sym}
use Rattle.ws_map.specs.Greater.{IsSemilattice}
use Rattle.ws_map.proofs.Greater.{greater-semilattice}
use Rattle.ws_action.proofs.Order.{action_cmp_total, action_cmp-IsAntisymmetric}
use Rattle.ws_cache.specs.Held.{id_cmp}
use Rattle.ws_cache.specs.Joined.{downwards, lesser}

pub id_cmp_total : IsTotalOrder id_cmp
id_cmp_total = nat_list_cmp_total

pub id_cmp-IsAntisymmetric : IsAntisymmetric id_cmp
id_cmp-IsAntisymmetric = slice_cmp-IsAntisymmetric nat_cmp-IsAntisymmetric

pub downwards_total : IsTotalOrder downwards
downwards_total = back_total action_cmp_total

pub downwards-IsAntisymmetric : IsAntisymmetric downwards
downwards-IsAntisymmetric a b e = sym (action_cmp-IsAntisymmetric b a e)

pub lesser-semilattice : IsSemilattice lesser
lesser-semilattice = greater-semilattice downwards_total downwards-IsAntisymmetric
