use Rattle.std.proofs.Common.{◌≡◌, drop}
use Rattle.std.specs.List.{list_any}
use Rattle.ws_graph.specs.Discovery.{is_refused}
use Rattle.ws_graph.proofs.any_refused.Given as goal

-- those that are left say it of all
abbrev pub invariant-loop-parsed : goal.invariant-loop-parsed
invariant-loop-parsed l = list_any is_refused (drop l.parsed-index l.each) ≡ list_any is_refused l.each
