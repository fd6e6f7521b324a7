use Rattle.std.proofs.Common.{◌++◌, drop, map}
use Rattle.std.specs.List.{filter}
use Rattle.go_diagnostics.specs.Packages.{AllDeclare, PackageNames, lies_in_directory}
use Rattle.go_diagnostics.proofs.package.package_names.Given as goal

-- the names so far, and those that the files that are left declare, are those that all declare
abbrev pub invariant-loop-file : goal.invariant-loop-file
invariant-loop-file l =
    (more : PackageNames) → AllDeclare (filter (lies_in_directory l.directory) (drop l.file-index l.files)) more
    → AllDeclare (filter (lies_in_directory l.directory) l.files) (map (λ name. name.now) l.names.items ++ more)
