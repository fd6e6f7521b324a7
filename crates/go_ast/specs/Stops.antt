-- What is answered: the file that some tokens are, or where they stop being one, and by what fault.
use Rattle.std.specs.Prelude.{◌≡◌, ◌≢◌, ◌⊎◌, ℕ, List, [], ◌∷◌, ◌++◌}
use Rattle.go_text.specs.declared.edition.Edition.{Edition}
use Rattle.go_ast.specs.Trees.{File}
use Rattle.go_ast.specs.Grammar.{Lexeme, Derives, Begins}
use Rattle.go_ast.specs.LeftOut.{LeftOut}

-- with the next token, or where the tokens end here, there is no file
abbrev pub NoneAfter : Edition → ℕ → List Lexeme → List Lexeme → Type 0
NoneAfter e levels good [] = (f : File) → Derives e levels good f → ⊥
NoneAfter e levels good (t ∷ ts) = Begins e levels (good ++ t ∷ []) → ⊥

-- with the next token, or where the tokens end here, there is a file, however deep
abbrev pub GoesOn : Edition → List Lexeme → List Lexeme → Type 0
GoesOn e good [] = (levels : ℕ) × (f : File) × Derives e levels good f
GoesOn e good (t ∷ ts) = (levels : ℕ) × Begins e levels (good ++ t ∷ [])

-- the number of a fault other than 4: 2 of what is left out of Go, else 3, as where the tokens end
abbrev pub IsFault : Edition → List Lexeme → List Lexeme → ℕ → Type 0
IsFault e good [] number = number ≡ 3
IsFault e good (t ∷ ts) number = ((number ≡ 2) × LeftOut e good t.kind) ⊎ ((number ≡ 3) × (LeftOut e good t.kind → ⊥))

-- The tokens in front of `bad` begin a file within the levels, and with the first of `bad`, or ended there, they begin
-- none. The number is 4 just where without the bound they go on.
pub record StopsAt (e : Edition) (levels : ℕ) (ts : List Lexeme) (number : ℕ) (bad : List Lexeme) : Type 0 where
  pub good : List Lexeme
  pub whole : ts ≡ good ++ bad
  pub begins : Begins e levels good
  pub ends : NoneAfter e levels good bad
  pub too_deep : number ≡ 4 → GoesOn e good bad
  pub wrong : number ≢ 4 → GoesOn e good bad → ⊥
  pub fault : number ≢ 4 → IsFault e good bad number
