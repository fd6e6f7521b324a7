-- Kinds of tokens are compared.
use Rattle.std.specs.Prelude.{Bool}
use Rattle.go_scan.specs.declared.token.TokenKind.{TokenKind}
use Rattle.go_scan.specs.Kinds.{kind_eq}

-- two kinds are the same, as `==` compares them
abbrev pub same : TokenKind → TokenKind → Bool
same = kind_eq
