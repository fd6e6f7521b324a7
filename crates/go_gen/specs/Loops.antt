-- How the code of a loop is closed, which is written from its end.
use Rattle.std.specs.Prelude.{◌≡◌, ℕ, ◌+◌, List, ◌∷◌, ◌++◌, length}
use Rattle.go_code.specs.declared.instr.Instr.{Instr}
use Rattle.go_code.specs.declared.instr.Instr.TheVariants.{Jump as Go_to}
use Rattle.go_code.specs.declared.instr.JumpInstr.TheVariants.{Jump, LoopIf}
use Rattle.go_symbol.specs.Symbols.{Symbol}

-- Of an inner part, a test and an instruction with `end` instructions behind it, and `test` instructions from the test on, is made: a jump
-- past the inner part, the inner part, the test, and in that instruction's place a jump back to the inner part.
abbrev pub Closes : List (Instr Symbol) → ℕ → ℕ → List (Instr Symbol) → Type 0
Closes old end test new =
    (inner tc rest : List (Instr Symbol)) (x : Instr Symbol) → old ≡ inner ++ (tc ++ x ∷ rest) → length rest ≡ end → length tc + 1 + end ≡ test →
    new ≡ Go_to (Jump (length inner)) ∷ (inner ++ (tc ++ Go_to (LoopIf (length inner + length tc + 1)) ∷ rest))
