use Rattle.std.proofs.Common.{◌≡◌, drop, map}
use Rattle.std.specs.List.{flat_map}
use Rattle.go_ast.specs.Views.{file_of}
use Rattle.go_package.specs.Packages.{reserved_names_faults, each_file}
use Rattle.go_package.proofs.check.check_all_reserved.Given as goal

abbrev pub invariant-loop-number : goal.invariant-loop-number
invariant-loop-number l =
    each_file (λ number file. flat_map (reserved_names_faults l.clause) file.declarations) l.number (map (λ f. file_of f.now) (drop l.number l.files))
    ≡ each_file (λ number file. flat_map (reserved_names_faults l.clause) file.declarations) 0 (map (λ f. file_of f.now) l.files)
