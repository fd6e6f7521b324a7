use Rattle.std.proofs.Common.{List, ℕ, subst}
use Rattle.ws_version_vector.specs.Counts.{AreFirstNumbers, AreShared}
use Rattle.ws_session.proofs.counting.settle_counted.Goals as goal

pub returns-clause-wrote : goal.returns-clause-wrote
returns-clause-wrote g c = subst (λ n. (ks : List ℕ) × AreFirstNumbers n ks × AreShared ks c.args.wrote.now.counts c.settle.new.self) c.len-count.ensures c.in_ok-settle.ensures

pub returns-clause-compiled : goal.returns-clause-compiled
returns-clause-compiled g c = subst (λ n. (ks : List ℕ) × AreFirstNumbers n ks × AreShared ks c.args.compiled.now c.settle-2.new.self) c.len-count.ensures c.in_ok-settle-2.ensures
