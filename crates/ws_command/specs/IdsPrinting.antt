-- What is printed of ids.
use Rattle.std.specs.Prelude.{ℕ, List, [], ◌∷◌, ◌++◌, length, codes}
use Rattle.std.specs.List.{flat_map}
use Rattle.std.specs.Fmt.{decimal}
use Rattle.hex.specs.Hex.{encode_lower}
use Rattle.ws_report.specs.declared.IdStatus.{IdStatus}
use Rattle.ws_report.specs.declared.IdStatus.TheVariants.{NoId, Absent, Held}

-- the id in hexadecimal digits, and whether a result of its action is held; or that there is none
abbrev pub standing_text : IdStatus → List ℕ
standing_text NoId = codes " none"
standing_text (Absent id) = codes " " ++ encode_lower id ++ codes " absent"
standing_text (Held id) = codes " " ++ encode_lower id ++ codes " held"

-- the directory, and how its action stands
unfoldable pub id_text : List ℕ × IdStatus → List ℕ
id_text row = (codes "id " ++ row.0) ++ standing_text row.1 ++ 10 ∷ []

-- the target, how many directories it reaches, and a line for each
unfoldable pub ids_text : List ℕ → List ℕ → List (List ℕ × IdStatus) → List ℕ
ids_text name directory rows =
    (codes "ids " ++ name) ++ (codes " " ++ directory) ++ (codes " " ++ decimal (length rows)) ++ 10 ∷ [] ++ flat_map id_text rows
