use Rattle.std.proofs.Common.{◌≡◌, drop, map}
use Rattle.std.specs.List.{list_all}
use Rattle.ws_module.specs.Places.{is_in_folder}
use Rattle.ws_module.proofs.places.are_in.Given as goal

abbrev pub invariant-loop-file : goal.invariant-loop-file
invariant-loop-file l = list_all (is_in_folder l.folder) (map (λ file. file.now) (drop l.file-index l.files)) ≡ list_all (is_in_folder l.folder) (map (λ file. file.now) l.files)
