use Rattle.std.proofs.Common.{map, take, length}
use Rattle.std.specs.List.{AllZip}
use Rattle.ws_replica.specs.Builds.{target_of}
use Rattle.ws_replica.specs.Jobs.{all_reached_of}
use Rattle.ws_replica.specs.Parts.{target_part, IsPartOf, AllPartsWithin}
use Rattle.ws_replica.proofs.parts.all_parts.Given as goal

abbrev pub invariant-loop-target : goal.invariant-loop-target
invariant-loop-target l = record {
  are : AllZip (IsPartOf (all_reached_of l.all)) (map target_of (take l.target-index l.targets)) (map target_part l.parts.items);
  within : AllPartsWithin (length l.all) l.parts.items;
}
