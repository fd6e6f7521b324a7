-- Kinds of tokens are compared.
use Rattle.std.specs.Prelude.{Bool}
use Rattle.go_scan.specs.contracts.token.TokenKindPartialEq.TheImpl as kind
use Rattle.go_scan.specs.declared.token.TokenKind.{TokenKind}

-- what `==` answers: that the kinds are the same
abbrev pub kind_eq : TokenKind → TokenKind → Bool
kind_eq = (kind.ghosts).eq
