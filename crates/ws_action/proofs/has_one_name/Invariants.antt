use Rattle.std.proofs.Common.{take}
use Rattle.std.specs.List.{All}
use Rattle.go_ast.specs.Parse.{IsNamed}
use Rattle.ws_action.proofs.has_one_name.Given as goal

-- the files so far have the name
abbrev pub invariant-loop-file : goal.invariant-loop-file
invariant-loop-file l = All (λ file. IsNamed file.edition l.name file.text) (take l.file-index l.rest)
