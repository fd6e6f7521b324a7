-- Fields by their numbers, and variables without values.
use Rattle.std.proofs.Common.{◌≡◌, ℕ, zero, suc, ◌<◌, ◌≤◌, List, [], ◌∷◌, ◌++◌, length, get_or, Option, refl, arith}
use Rattle.go_code.specs.declared.instr.Instr.{Instr}
use Rattle.go_symbol.specs.Symbols as symbols
use Rattle.go_types.specs.declared.types.Field.{Field}
use Rattle.go_types.specs.Types.{Type'}
use Rattle.go_types.specs.Views.{go_type, fields_in}
use Rattle.go_meaning.specs.Choices.{field_at}
use Rattle.go_gen.specs.Translation.{Places, or_type, defines_code, sets_code}

pub field_some : (fs : List Field) (n : ℕ) (other : Type') (d : Field) → n < length fs → go_type (get_or fs n d).of ≡ or_type other (field_at (fields_in fs) n)
field_some [] n other d lt = absurd (omega arith)
field_some (g ∷ fs) zero other d lt = refl
field_some (g ∷ fs) (suc n) other d lt = field_some fs n other d (omega arith)

pub field_none : (fs : List Field) (n : ℕ) (other : Type') → length fs ≤ n → other ≡ or_type other (field_at (fields_in fs) n)
field_none [] n other le = refl
field_none (g ∷ fs) zero other le = absurd (omega arith)
field_none (g ∷ fs) (suc n) other le = field_none fs n other (omega arith)

-- without a value nothing is left to store
pub defines_end : (p : Places symbols.Symbol) (ns : List (Option ℕ)) (rest : List ℕ) (code all : List (Instr symbols.Symbol)) → length rest < 1 → defines_code p ns rest ++ code ≡ all → code ≡ all
defines_end p [] rest code all lt e = e
defines_end p (n ∷ ns) [] code all lt e = e
defines_end p (n ∷ ns) (r ∷ rest) code all lt e = absurd (omega arith)

pub sets_end : (p : Places symbols.Symbol) (path : List ℕ) (os : List (Option (List ℕ))) (rest : List ℕ) (code all : List (Instr symbols.Symbol)) → length rest < 1 → sets_code p path os rest ++ code ≡ all → code ≡ all
sets_end p path [] rest code all lt e = e
sets_end p path (o ∷ os) [] code all lt e = e
sets_end p path (o ∷ os) (r ∷ rest) code all lt e = absurd (omega arith)
