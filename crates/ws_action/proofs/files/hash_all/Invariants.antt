use Rattle.std.proofs.Common.{◌≡◌, ◌++◌, drop, take, map}
use Rattle.std.specs.List.{flat_map}
use Rattle.ws_action.specs.Actions.{source_with_name, named_text, list_text}
use Rattle.ws_action.proofs.Hashed.{text_digest}
use Rattle.ws_action.proofs.files.hash_all.Given as goal

-- what is written and what is left to write are the whole; the digests so far
abbrev pub invariant-loop-file : goal.invariant-loop-file
invariant-loop-file l = (l.text.items ++ flat_map named_text (map source_with_name (drop l.file-index l.parsed)) ≡ l.fn.text.items ++ list_text (map source_with_name l.parsed)) × (l.digests.items ≡ map text_digest (take l.file-index l.parsed))
