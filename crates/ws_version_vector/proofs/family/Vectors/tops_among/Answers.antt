use Rattle.std.proofs.Common.{◌≡◌, ◌≤◌, List, ℕ, get_or, length, subst, arith}
use Rattle.std.specs.List.{Contains}
use Rattle.std.proofs.lemmas.List.{get_or_default, take_all}
use Rattle.ws_version_vector.specs.Counts.{AreBelow}
use Rattle.ws_version_vector.proofs.Tops.{none_below, some_more, among_more}
use Rattle.ws_version_vector.proofs.family.Vectors.tops_among.Goals as goal

pub loop-at-init : goal.loop-at-init
loop-at-init c = record {
  tops = none_below c.args.self.now c.args.among.now c.new-tops.result.items;
  within = λ t among. absurd (let lt = among.1 in omega (arith, lt));
}

pub loop-at-preserved : goal.loop-at-preserved
loop-at-preserved c =
    let among : List ℕ = c.args.among.now in
    let i : ℕ = c.loop-at.at-index in
    let at : ℕ = get_or among i 0 in
    let is : at ≡ get_or among i at = get_or_default among i 0 at c.loop-at-test.true in
    record {
      tops = some_more c.args.self.now among c.loop-at.tops.items c.in_ok-tops.tops.items i at c.loop-at-test.true is c.loop-at.invariant.tops c.in_ok-tops.ensures.below;
      within = among_more among c.loop-at.tops.items c.in_ok-tops.tops.items i at c.loop-at-test.true is c.loop-at.invariant.within c.in_ok-tops.ensures.within;
    }

pub returns-clause-tops : goal.returns-clause-tops
returns-clause-tops c =
    let past : length c.args.among.now ≤ c.loop-at.at-index = omega (arith, c.loop-at-test.false) in
    subst (λ (ks : List ℕ). AreBelow c.args.self.now ks c.loop-at.tops.items) (take_all c.loop-at.at-index c.args.among.now past) c.loop-at.invariant.tops

pub returns-clause-within : goal.returns-clause-within
returns-clause-within c t among =
    let past : length c.args.among.now ≤ c.loop-at.at-index = omega (arith, c.loop-at-test.false) in
    subst (λ (ks : List ℕ). Contains ks t) (take_all c.loop-at.at-index c.args.among.now past) (c.loop-at.invariant.within t among)
