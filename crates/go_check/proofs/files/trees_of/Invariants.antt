use Rattle.std.proofs.Common.{take}
use Rattle.go_package.specs.Views.{files_of}
use Rattle.go_check.specs.Checked.{AreTrees}
use Rattle.go_check.proofs.files.trees_of.Given as goal

abbrev pub invariant-loop-file : goal.invariant-loop-file
invariant-loop-file l = AreTrees (take l.file-index l.files) (files_of l.trees.items)
