use Rattle.std.proofs.Common.{arith}
use Rattle.ws_version_vector.proofs.Tops.{tops_more, within_more}
use Rattle.ws_version_vector.proofs.family.Vectors.maximal.Goals as goal

pub loop-at-preserved : goal.loop-at-preserved
loop-at-preserved c = record {
  tops = tops_more c.args.self.now c.loop-at.at c.loop-at.tops.items c.in_ok-tops.tops.items c.loop-at.invariant.tops c.in_ok-tops.ensures.below;
  within = within_more c.loop-at.at c.loop-at.tops.items c.in_ok-tops.tops.items c.loop-at.invariant.within c.in_ok-tops.ensures.within;
}

pub returns-clause-within : goal.returns-clause-within
returns-clause-within c t among = let lt = c.loop-at.invariant.within t among in omega (arith, lt)
