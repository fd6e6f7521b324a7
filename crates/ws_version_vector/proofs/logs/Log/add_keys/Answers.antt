use Rattle.std.proofs.Common.{◌≡◌, ◌++◌, ◌∷◌, [], List, ℕ, map, ap, ◌∙◌, arith}
use Rattle.std.specs.Borrow.{Bor}
use Rattle.ws_version_vector.proofs.Logged.{kept_more, keys_more, now_push}
use Rattle.ws_version_vector.proofs.logs.Log.add_keys.Goals as goal

pub loop-number-preserved : goal.loop-number-preserved
loop-number-preserved c =
    let old : List (List ℕ) = map (λ k. k.now) c.loop-number.keys.items in
    let new : List (List ℕ) = map (λ k. k.now) c.push.new.self.items in
    let pushed : new ≡ old ++ c.in-Some.key.now ∷ [] = ap (λ (ks : List (Bor (List ℕ))). map (λ k. k.now) ks) c.in_ok-push.ensures.items ∙ now_push c.loop-number.keys.items c.in-Some.key in
    record {
      kept = kept_more (map (λ k. k.now) c.args.keys.now.items) old new c.in-Some.key.now pushed c.loop-number.invariant.kept;
      all = keys_more c.args.self.now c.args.from c.loop-number.number old new c.in-Some.key.now pushed c.loop-number.invariant.all c.in-Some.ensures;
    }

pub returns-clause-all : goal.returns-clause-all
returns-clause-all c = λ e n above below. c.loop-number.invariant.all n above (let b = below in omega (arith, b, c.loop-number-test.false))
