-- How keywords are spelled.
use Rattle.std.specs.Prelude.{◌≢◌, ℕ, Bool, true, false, List, codes}
use Rattle.go_scan.specs.declared.keyword.Keyword.{Keyword}
use Rattle.go_scan.specs.declared.keyword.Keyword.TheVariants as keywords

-- the bytes of a keyword
abbrev pub spelling : Keyword → List ℕ
spelling keywords.Break = codes "break"
spelling keywords.Case = codes "case"
spelling keywords.Chan = codes "chan"
spelling keywords.Const = codes "const"
spelling keywords.Continue = codes "continue"
spelling keywords.Default = codes "default"
spelling keywords.Defer = codes "defer"
spelling keywords.Else = codes "else"
spelling keywords.Fallthrough = codes "fallthrough"
spelling keywords.For = codes "for"
spelling keywords.Func = codes "func"
spelling keywords.Go = codes "go"
spelling keywords.Goto = codes "goto"
spelling keywords.If = codes "if"
spelling keywords.Import = codes "import"
spelling keywords.Interface = codes "interface"
spelling keywords.Map = codes "map"
spelling keywords.Package = codes "package"
spelling keywords.Range = codes "range"
spelling keywords.Return = codes "return"
spelling keywords.Select = codes "select"
spelling keywords.Struct = codes "struct"
spelling keywords.Switch = codes "switch"
spelling keywords.Type = codes "type"
spelling keywords.Var = codes "var"

-- the bytes spell no keyword
abbrev pub IsNoKeyword : List ℕ → Type 0
IsNoKeyword bytes = (k : Keyword) → bytes ≢ spelling k

-- a line that ends behind the keyword ends a statement
abbrev pub keyword_ends_statement : Keyword → Bool
keyword_ends_statement keywords.Break = true
keyword_ends_statement keywords.Continue = true
keyword_ends_statement keywords.Fallthrough = true
keyword_ends_statement keywords.Return = true
keyword_ends_statement _ = false
