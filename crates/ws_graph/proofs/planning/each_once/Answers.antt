use Rattle.std.proofs.Common.{List, ℕ, subst}
use Rattle.std.proofs.lemmas.List.Filters.{dedup_is}
use Rattle.std.specs.List.{Contains}
use Rattle.ws_graph.specs.Discovery.{string_texts}
use Rattle.ws_graph.proofs.Named.{texts_kept}
use Rattle.ws_graph.proofs.planning.each_once.Goals as goal

pub returns : goal.returns
returns c = λ p.
    subst (λ (all : List (List ℕ)). (Contains (string_texts c.dedup.new.self.items) p → Contains all p) × (Contains all p → Contains (string_texts c.dedup.new.self.items) p)) c.in_ok-once.ensures
    (texts_kept c.in_ok-once.once.items c.sort.new.self.items c.dedup.new.self.items p c.sort.ensures.permutation (dedup_is _ _ _ c.dedup.ensures.filtered))
