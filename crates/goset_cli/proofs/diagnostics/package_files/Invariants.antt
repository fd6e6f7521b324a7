use Rattle.std.proofs.Common.{◌≡◌, ◌++◌, drop, map}
use Rattle.goset_cli.specs.Diagnostics.{placed, directory_source}
use Rattle.goset_cli.proofs.diagnostics.package_files.Given as goal

-- what is found so far, and what is left gives
abbrev pub invariant-loop-path : goal.invariant-loop-path
invariant-loop-path l = map placed l.found.items ++ map directory_source (drop l.path-index l.files) ≡ map directory_source l.files
