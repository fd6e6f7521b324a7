-- The bytes of tokens.
use Rattle.std.specs.Prelude.{ℕ, nat_le, List, [], ◌∷◌, length, Option, Some, None, if◌then◌else◌}
use Rattle.std.specs.List.{slice_range}
use Rattle.go_scan.specs.Kinds.{kind_eq}
use Rattle.go_scan.specs.declared.token.Token.{Token}
use Rattle.go_scan.specs.declared.token.TokenKind.TheVariants as kinds

-- the bytes of a token in a text
abbrev pub token_bytes : List ℕ → Token → List ℕ
token_bytes text t =
    if nat_le t.start t.end then (if nat_le t.end (length text) then slice_range text t.start t.end else []) else []

-- the name that tokens begin with, if they do
abbrev pub name_here : List ℕ → List Token → Option (List ℕ)
name_here text [] = None
name_here text (t ∷ ts) = if kind_eq t.kind kinds.Name then Some (token_bytes text t) else None
