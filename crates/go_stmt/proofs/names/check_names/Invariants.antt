use Rattle.std.proofs.Common.{◌≡◌, [], drop, take}
use Rattle.go_stmt.specs.Statements.{names_faults}
use Rattle.go_stmt.specs.Views.{env_of, own_texts}
use Rattle.go_stmt.proofs.names.check_names.Given as goal

abbrev pub invariant-loop-name : goal.invariant-loop-name
invariant-loop-name l = record {
  texts : l.before ≡ own_texts (take l.name-index l.names);
  faults : names_faults (env_of l.env) (take l.name-index l.names) (drop l.name-index l.names) ≡ names_faults (env_of l.env) [] l.names;
}
