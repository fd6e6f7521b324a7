use Rattle.std.proofs.Common.{◌≡◌, ◌++◌, drop, map}
use Rattle.go_check.proofs.files.names_of.Given as goal

abbrev pub invariant-loop-file : goal.invariant-loop-file
invariant-loop-file l = map (λ n. n.now) l.names.items ++ map (λ f. f.name) (drop l.file-index l.files) ≡ map (λ f. f.name) l.files
