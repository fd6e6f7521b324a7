use Rattle.std.proofs.Common.{◌≡◌, drop}
use Rattle.go_diagnostics.specs.Packages.{file_named}
use Rattle.go_diagnostics.proofs.package.file_named.Given as goal

abbrev pub invariant-loop-file : goal.invariant-loop-file
invariant-loop-file l = file_named l.directory l.name (drop l.file-index l.files) ≡ file_named l.directory l.name l.files
