-- Bytes that hold whole tokens: what is written behind them is read behind them.
use Rattle.std.specs.Prelude.{◌≡◌, ℕ, List, ◌++◌}
use Rattle.go_packed.specs.Tokens.{Beside, tokens}

-- what lies beside bytes, and what lies beside the bytes behind them
abbrev pub appended_beside : Beside → Beside → Beside
appended_beside a b = record {
  shorts = a.shorts ++ b.shorts;
  sizes = a.sizes ++ b.sizes;
  integers = a.integers ++ b.integers;
  texts = a.texts ++ b.texts;
}

pub record IsPackedForm (names : List (List ℕ)) (beside : Beside) (bytes : List ℕ) : Type 0 where
  pub goes_on : (more : List (List ℕ)) (next : Beside) (rest : List ℕ) → tokens (names ++ more) (appended_beside beside next) (bytes ++ rest) ≡ tokens names beside bytes ++ tokens (names ++ more) next rest
