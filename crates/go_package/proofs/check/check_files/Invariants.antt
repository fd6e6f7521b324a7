use Rattle.std.proofs.Common.{◌≡◌, ◌++◌, drop}
use Rattle.go_package.specs.Packages.{file_faults, each_file}
use Rattle.go_package.specs.Views.{facts_of, files_of, texts_in, importables_of, initial_in, uses_in, functions_in}
use Rattle.go_package.specs.Typed.{top_initializations, top_uses, top_functions, of_files}
use Rattle.go_package.proofs.check.check_files.Given as goal

abbrev pub invariant-loop-number : goal.invariant-loop-number
invariant-loop-number l = record {
  faults : each_file (file_faults (importables_of l.packages.all.now) (facts_of l.facts)) l.number (files_of (drop l.number l.files))
      ≡ each_file (file_faults (importables_of l.packages.all.now) (facts_of l.facts)) 0 (files_of l.files);
  initial : initial_in l.bodies ++ of_files (top_initializations (facts_of l.facts) (texts_in l.names)) l.number (files_of (drop l.number l.files))
      ≡ of_files (top_initializations (facts_of l.facts) (texts_in l.names)) 0 (files_of l.files);
  uses : uses_in l.bodies ++ of_files (top_uses (facts_of l.facts)) l.number (files_of (drop l.number l.files)) ≡ of_files (top_uses (facts_of l.facts)) 0 (files_of l.files);
  functions : functions_in l.bodies ++ of_files (top_functions (facts_of l.facts)) l.number (files_of (drop l.number l.files))
      ≡ of_files (top_functions (facts_of l.facts)) 0 (files_of l.files);
}
