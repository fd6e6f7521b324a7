use Rattle.std.proofs.Common.{ℕ, List, map}
use Rattle.std.specs.List.{Contains}
use Rattle.ws_version_vector.specs.Keyed.{HasKeys}
use Rattle.ws_version_vector.proofs.logs.Log.add_keys.Given as goal

abbrev pub invariant-loop-number : goal.invariant-loop-number
invariant-loop-number l = record {
  kept : (key : List ℕ) → Contains (map (λ k. k.now) l.fn.keys.items) key → Contains (map (λ k. k.now) l.keys.items) key;
  all : HasKeys l.self l.from l.number (map (λ k. k.now) l.keys.items);
}
