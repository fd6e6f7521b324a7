use Rattle.std.proofs.Common.{drop}
use Rattle.go_scope.proofs.Indexes.{Differing}
use Rattle.go_stmt.specs.Views.{own_texts}
use Rattle.go_stmt.proofs.names.differ.Given as goal

abbrev pub invariant-loop-name : goal.invariant-loop-name
invariant-loop-name l = Differing l.before (own_texts (drop l.name-index l.names)) (own_texts l.names)
