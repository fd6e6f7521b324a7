use Rattle.std.proofs.Common.{◌≡◌, drop, map}
use Rattle.std.specs.List.{list_any}
use Rattle.goset_cli.specs.CommandLine.{names_keep}
use Rattle.goset_cli.proofs.words.any_names_keep.Given as goal

-- what is left names one where all do
abbrev pub invariant-loop-word : goal.invariant-loop-word
invariant-loop-word g l = list_any names_keep (map g.S.AsStr.text (drop l.word-index l.words)) ≡ list_any names_keep (map g.S.AsStr.text l.words)
