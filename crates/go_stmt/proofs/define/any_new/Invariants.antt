use Rattle.std.proofs.Common.{◌≡◌, drop}
use Rattle.std.specs.List.{list_any}
use Rattle.go_stmt.specs.Scopes.{own}
use Rattle.go_stmt.specs.Rules.{is_new}
use Rattle.go_stmt.specs.Views.{env_of}
use Rattle.go_stmt.proofs.define.any_new.Given as goal

abbrev pub invariant-loop-name : goal.invariant-loop-name
invariant-loop-name l =
    list_any (λ n. is_new n (own (env_of l.env) n)) (drop l.name-index l.names) ≡ list_any (λ n. is_new n (own (env_of l.env) n)) l.names
