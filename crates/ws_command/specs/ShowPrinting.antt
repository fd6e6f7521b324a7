-- What is printed of held writes.
use Rattle.std.specs.Prelude.{ℕ, List, [], ◌∷◌, ◌++◌, length, Option, None, Some, codes}
use Rattle.std.specs.List.{flat_map}
use Rattle.std.specs.Fmt.{decimal}
use Rattle.ws_version.specs.Writes.{Write}

-- how long the text is, or that the file is removed
abbrev pub content_text : Option (List ℕ) → List ℕ
content_text content = elim content [ None ↦ codes " removed" | Some text ↦ codes " text " ++ decimal (length text) ]

-- the path, the version, and the content
unfoldable pub write_text : Write → List ℕ
write_text w = w.0 ++ (codes " " ++ decimal w.1.counter) ++ (codes "." ++ decimal w.1.number) ++ content_text w.1.text ++ 10 ∷ []

-- how many writes are held, and a line for each
unfoldable pub show_text : List ℕ → List Write → List ℕ
show_text name shown = (codes "show " ++ name) ++ (codes " " ++ decimal (length shown)) ++ 10 ∷ [] ++ flat_map write_text shown
