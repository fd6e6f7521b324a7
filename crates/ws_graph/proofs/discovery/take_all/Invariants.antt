use Rattle.std.proofs.Common.{ℕ, List, []}
use Rattle.std.specs.Prelude.{string_cmp}
use Rattle.std.specs.BTreeMap.{IsOrdered}
use Rattle.go_text.specs.declared.edition.Edition.{Edition}
use Rattle.ws_graph.specs.Discovery.{held_sources, string_texts, waiting_paths, AreRead, Walking}
use Rattle.ws_graph.specs.declared.waiting.Waiting.{Waiting}
use Rattle.ws_graph.proofs.Walking.{Taking}
use Rattle.ws_graph.proofs.discovery.take_all.Given as goal

abbrev pub invariant-loop-directory : goal.invariant-loop-directory
invariant-loop-directory l = record {
  ordered : IsOrdered string_cmp l.met;
  takes : (ed : Edition) (targets : List (List ℕ)) (wave : List Waiting) → AreRead ed (held_sources l.registers) wave l.fn.read.items → Walking ed (held_sources l.registers) targets l.fn.met.entries (waiting_paths wave) []
      → Taking ed (held_sources l.registers) targets wave l.fn.met.entries l.met.entries (string_texts l.imported.items) l.directory-iterator.rest.items;
}
