use Rattle.std.proofs.Common.{◌≡◌, length, bytes_eq}
use Rattle.std.specs.List.{find}
use Rattle.go_diagnostics.specs.Unknown.{import_path, imports, last_element}
use Rattle.go_diagnostics.proofs.unknown.import_path.Given as goal

abbrev pub invariant-loop-rest : goal.invariant-loop-rest
invariant-loop-rest l =
    find (λ path. bytes_eq (last_element path) l.name) (imports l.text l.before l.rest) ≡ import_path l.text l.tokens l.name

abbrev pub decreases-loop-rest : goal.decreases-loop-rest
decreases-loop-rest l = length l.rest
