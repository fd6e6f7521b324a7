use Rattle.std.proofs.Common.{◌≡◌, length, nat_eq, if◌then◌else◌}
use Rattle.std.specs.List.{list_any}
use Rattle.go_diagnostics.specs.Unknown.{last_element}
use Rattle.go_diagnostics.proofs.unknown.last_element.Given as goal

-- where a slash is left, the last element is that of what is left
abbrev pub invariant-loop-rest : goal.invariant-loop-rest
invariant-loop-rest l = (if list_any (nat_eq 47) l.rest then last_element l.rest else l.last) ≡ last_element l.path

abbrev pub decreases-loop-rest : goal.decreases-loop-rest
decreases-loop-rest l = length l.rest
