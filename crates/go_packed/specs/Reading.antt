-- The object that tokens stand for. Each list of tokens stands for one; of what no object is written by, nothing is said.
use Rattle.std.specs.Prelude.{ℕ, zero, suc, ◌-◌, ℤ, pos, nat_eq, nat_lt, true, false, List, [], ◌∷◌, if◌then◌else◌}
use Rattle.go_const.specs.declared.kind.IntKind.{IntKind}
use Rattle.go_const.specs.declared.kind.IntKind.TheVariants.{Int, Int8, Int16, Int32, Int64, Uint, Uint8, Uint16, Uint32, Uint64}
use Rattle.go_const.specs.declared.operator.ArithmeticOperator.{ArithmeticOperator}
use Rattle.go_const.specs.declared.operator.ArithmeticOperator.TheVariants.{Add, Subtract, Multiply, Divide, Remainder, BitAnd, BitOr, BitXor, AndNot}
use Rattle.go_const.specs.declared.operator.ComparisonOperator.{ComparisonOperator}
use Rattle.go_const.specs.declared.operator.ComparisonOperator.TheVariants.{Equal, NotEqual, Less, LessOrEqual, Greater, GreaterOrEqual}
use Rattle.go_const.specs.declared.operator.ShiftOperator.TheVariants.{Left, Right}
use Rattle.go_symbol.specs.Symbols.{Symbol}
use Rattle.go_text.specs.declared.edition.Edition.{Edition}
use Rattle.go_text.specs.declared.edition.Edition.TheVariants.{One, Two}
use Rattle.go_code.specs.declared.cell.Cell.{Cell}
use Rattle.go_code.specs.declared.cell.Cell.TheVariants as cell
use Rattle.go_code.specs.declared.instr.Instr.{Instr}
use Rattle.go_code.specs.declared.instr.Instr.TheVariants as instr
use Rattle.go_code.specs.declared.instr.FrameInstr.{FrameInstr}
use Rattle.go_code.specs.declared.instr.FrameInstr.TheVariants.{Push, Pop, Repeat}
use Rattle.go_code.specs.declared.instr.AccessInstr.{AccessInstr}
use Rattle.go_code.specs.declared.instr.AccessInstr.TheVariants.{Load, Store, LoadAt, StoreAt}
use Rattle.go_code.specs.declared.instr.PartInstr.{PartInstr}
use Rattle.go_code.specs.declared.instr.PartInstr.TheVariants.{Move, Index, Reach, Pick, Part}
use Rattle.go_code.specs.declared.instr.RowInstr.{RowInstr}
use Rattle.go_code.specs.declared.instr.RowInstr.TheVariants as row
use Rattle.go_code.specs.declared.instr.JumpInstr.{JumpInstr}
use Rattle.go_code.specs.declared.instr.JumpInstr.TheVariants.{Jump, JumpIf, JumpIfNot, LoopIf}
use Rattle.go_code.specs.declared.instr.OutputInstr.{OutputInstr}
use Rattle.go_code.specs.declared.instr.OutputInstr.TheVariants.{Print, Panic}
use Rattle.go_code.specs.declared.instr.CallInstr.{CallInstr}
use Rattle.go_code.specs.declared.instr.CallInstr.TheVariants.{Call, Return}
use Rattle.go_code.specs.declared.operator.Operator.{Operator}
use Rattle.go_code.specs.declared.operator.Operator.TheVariants as operator
use Rattle.go_code.specs.declared.operator.TextOperator.TheVariants.{At, Length, Join, Cut}
use Rattle.go_code.specs.declared.operator.SliceOperator.TheVariants as slices
use Rattle.go_code.specs.Functions.{Setup}
use Rattle.go_code.specs.Packages.{Object, PackageVariable, PackageFunction}
use Rattle.go_packed.specs.Tokens.{PackedToken, Number, Integer, Text, Name, first_or, rest_of}

-- ---- what a token says; one of another kind says nothing

abbrev pub token_number : PackedToken → ℕ
token_number (Number n) = n
token_number token = 0

abbrev pub integer_of : PackedToken → ℤ
integer_of (Integer z) = z
integer_of token = pos 0

abbrev pub token_text : PackedToken → List ℕ
token_text (Text text) = text
token_text token = []

abbrev pub token_name : PackedToken → List ℕ
token_name (Name name) = name
token_name token = []

-- the token that comes first
abbrev pub next : List PackedToken → PackedToken
next ts = first_or (Number 0) ts

-- a value, and the tokens behind those that it was read from
abbrev pub Read : Type 0 → Type 0
Read A = A × List PackedToken

-- with the number that comes first
abbrev pub number_then : {A : Type 0} → List PackedToken → (ℕ → List PackedToken → A) → A
number_then ts go = go (token_number (next ts)) (rest_of ts)

abbrev pub symbol_then : {A : Type 0} → List PackedToken → (Symbol → List PackedToken → A) → A
symbol_then ts go = go (record { path = token_name (next ts); name = token_name (next (rest_of ts)) }) (rest_of (rest_of ts))

abbrev pub read_symbol : List PackedToken → Read Symbol
read_symbol ts = symbol_then ts (λ s ts. (s, ts))

-- ---- operators

abbrev pub kind_at : ℕ → IntKind
kind_at n =
    if nat_eq n 0 then Int
    else if nat_eq n 1 then Int8
    else if nat_eq n 2 then Int16
    else if nat_eq n 3 then Int32
    else if nat_eq n 4 then Int64
    else if nat_eq n 5 then Uint
    else if nat_eq n 6 then Uint8
    else if nat_eq n 7 then Uint16
    else if nat_eq n 8 then Uint32
    else Uint64

abbrev pub arithmetic_at : ℕ → ArithmeticOperator
arithmetic_at n =
    if nat_eq n 0 then Add
    else if nat_eq n 1 then Subtract
    else if nat_eq n 2 then Multiply
    else if nat_eq n 3 then Divide
    else if nat_eq n 4 then Remainder
    else if nat_eq n 5 then BitAnd
    else if nat_eq n 6 then BitOr
    else if nat_eq n 7 then BitXor
    else AndNot

abbrev pub comparison_at : ℕ → ComparisonOperator
comparison_at n =
    if nat_eq n 0 then Equal
    else if nat_eq n 1 then NotEqual
    else if nat_eq n 2 then Less
    else if nat_eq n 3 then LessOrEqual
    else if nat_eq n 4 then Greater
    else GreaterOrEqual

abbrev pub operator_by : ℕ → List PackedToken → Read Operator
operator_by tag ts =
    if nat_eq tag 26 then number_then ts (λ op ts. number_then ts (λ kind ts. (operator.Arithmetic (arithmetic_at op) (kind_at kind), ts)))
    else if nat_eq tag 27 then number_then ts (λ kind ts. (operator.Shift Left (kind_at kind), ts))
    else if nat_eq tag 28 then number_then ts (λ kind ts. (operator.Shift Right (kind_at kind), ts))
    else if nat_eq tag 29 then number_then ts (λ kind ts. (operator.Negate (kind_at kind), ts))
    else if nat_eq tag 30 then number_then ts (λ kind ts. (operator.Complement (kind_at kind), ts))
    else if nat_eq tag 31 then number_then ts (λ kind ts. (operator.Convert (kind_at kind), ts))
    else if nat_eq tag 32 then (operator.Not, ts)
    else if nat_eq tag 33 then number_then ts (λ op ts. (operator.Compare (comparison_at op), ts))
    else if nat_eq tag 34 then number_then ts (λ count ts. (operator.Equal count, ts))
    else if nat_eq tag 35 then (operator.Text At, ts)
    else if nat_eq tag 36 then (operator.Text Length, ts)
    else if nat_eq tag 37 then (operator.Text Join, ts)
    else if nat_eq tag 45 then (operator.Text Cut, ts)
    else if nat_eq tag 46 then (operator.Slice slices.Length, ts)
    else if nat_eq tag 47 then (operator.Slice slices.Capacity, ts)
    else (operator.Slice slices.Cut, ts)

-- ---- instructions, by their tags

abbrev pub slice_then : List PackedToken → Read Cell
slice_then ts = number_then ts (λ row ts. number_then ts (λ start ts. number_then ts (λ n ts. number_then ts (λ c ts. (cell.Slice row start n c, ts)))))

abbrev pub cell_by : ℕ → List PackedToken → Read Cell
cell_by tag ts =
    if nat_eq tag 0 then (cell.Int (integer_of (next ts)), rest_of ts)
    else if nat_eq tag 1 then (cell.Bool false, ts)
    else if nat_eq tag 2 then (cell.Bool true, ts)
    else if nat_eq tag 3 then (cell.Text (token_text (next ts)), rest_of ts)
    else slice_then ts

abbrev pub frame_by : ℕ → List PackedToken → Read FrameInstr
frame_by tag ts =
    if nat_eq tag 4 then number_then ts (λ count ts. (Pop count, ts))
    else if nat_eq tag 5 then number_then ts (λ count ts. number_then ts (λ times ts. (Repeat count times, ts)))
    else (Push (cell_by tag ts).0, (cell_by tag ts).1)

abbrev pub access_by : {P : Type 0} → ℕ → P → ℕ → AccessInstr P
access_by form first count =
    if nat_eq form 0 then Load first count
    else if nat_eq form 1 then Store first count
    else if nat_eq form 2 then LoadAt first count
    else StoreAt first count

abbrev pub local_by : ℕ → List PackedToken → Read (AccessInstr ℕ)
local_by form ts = number_then ts (λ first ts. number_then ts (λ count ts. (access_by form first count, ts)))

abbrev pub global_by : ℕ → List PackedToken → Read (AccessInstr Symbol)
global_by form ts = symbol_then ts (λ first ts. number_then ts (λ count ts. (access_by form first count, ts)))

abbrev pub part_by : ℕ → List PackedToken → Read PartInstr
part_by tag ts =
    if nat_eq tag 14 then number_then ts (λ by ts. (Move by, ts))
    else if nat_eq tag 15 then number_then ts (λ count ts. number_then ts (λ size ts. (Index count size, ts)))
    else if nat_eq tag 16 then number_then ts (λ count ts. number_then ts (λ size ts. (Pick count size, ts)))
    else if nat_eq tag 43 then number_then ts (λ size ts. (Reach size, ts))
    else number_then ts (λ whole ts. number_then ts (λ first ts. number_then ts (λ count ts. (Part whole first count, ts))))

abbrev pub row_by : ℕ → List PackedToken → Read RowInstr
row_by tag ts =
    if nat_eq tag 38 then number_then ts (λ size ts. (row.Make size, ts))
    else if nat_eq tag 39 then number_then ts (λ size ts. (row.Get size, ts))
    else if nat_eq tag 40 then number_then ts (λ count ts. (row.GetAt count, ts))
    else if nat_eq tag 41 then number_then ts (λ count ts. (row.SetAt count, ts))
    else number_then ts (λ size ts. number_then ts (λ count ts. (row.Append size count, ts)))

abbrev pub jump_by : ℕ → ℕ → JumpInstr
jump_by tag by =
    if nat_eq tag 18 then Jump by
    else if nat_eq tag 19 then JumpIf by
    else if nat_eq tag 20 then JumpIfNot by
    else LoopIf by

abbrev pub output_by : ℕ → List PackedToken → Read OutputInstr
output_by tag ts = if nat_eq tag 22 then number_then ts (λ count ts. (Print count, ts)) else (Panic, ts)

abbrev pub call_by : ℕ → List PackedToken → Read (CallInstr Symbol)
call_by tag ts =
    if nat_eq tag 24 then symbol_then ts (λ s ts. (Call s, ts)) else number_then ts (λ count ts. (Return count, ts))

-- what is read, as a part of something
abbrev pub as_part : {A B : Type 0} → (A → B) → Read A → Read B
as_part f read = (f read.0, read.1)

abbrev pub instr_by : ℕ → List PackedToken → Read (Instr Symbol)
instr_by tag ts =
    if nat_lt tag 6 then as_part instr.Frame (frame_by tag ts)
    else if nat_lt tag 10 then as_part instr.Local (local_by (tag - 6) ts)
    else if nat_lt tag 14 then as_part instr.Global (global_by (tag - 10) ts)
    else if nat_lt tag 18 then as_part instr.Part (part_by tag ts)
    else if nat_lt tag 22 then number_then ts (λ by ts. (instr.Jump (jump_by tag by), ts))
    else if nat_lt tag 24 then as_part instr.Output (output_by tag ts)
    else if nat_lt tag 26 then as_part instr.Calls (call_by tag ts)
    else if nat_lt tag 38 then as_part instr.Operate (operator_by tag ts)
    else if nat_lt tag 43 then as_part instr.Row (row_by tag ts)
    else if nat_eq tag 43 then as_part instr.Part (part_by tag ts)
    else if nat_eq tag 44 then as_part instr.Frame (frame_by tag ts)
    else as_part instr.Operate (operator_by tag ts)

-- ---- objects

abbrev pub read_cell : List PackedToken → Read Cell
read_cell ts = number_then ts cell_by

abbrev pub read_instr : List PackedToken → Read (Instr Symbol)
read_instr ts = number_then ts instr_by

-- so many, one behind another
abbrev pub read_many : {A : Type 0} → (List PackedToken → Read A) → ℕ → List PackedToken → Read (List A)
read_many read zero ts = ([], ts)
read_many read (suc n) ts = as_part (λ xs. (read ts).0 ∷ xs) (read_many read n (read ts).1)

-- a list behind its length
abbrev pub read_list : {A : Type 0} → (List PackedToken → Read A) → List PackedToken → Read (List A)
read_list read ts = number_then ts (read_many read)

abbrev pub read_variable : List PackedToken → Read PackageVariable
read_variable ts = as_part (λ zero. record { name = token_name (next ts); zero = zero }) (read_list read_cell (rest_of ts))

abbrev pub read_setup : List PackedToken → Read (Setup Symbol)
read_setup ts = number_then ts (λ cells ts. as_part (λ code. record { cells = cells; code = code }) (read_list read_instr ts))

abbrev pub read_function : List PackedToken → Read PackageFunction
read_function ts =
    number_then (rest_of ts) (λ parameters rest. number_then rest (λ cells rest.
    as_part (λ code. record { name = token_name (next ts); function = record { parameters = parameters; cells = cells; code = code } }) (read_list read_instr rest)))

-- the edition of a number; the first for a number of none
abbrev pub edition_at : ℕ → Edition
edition_at number = if nat_eq number 2 then Two else One

abbrev pub unpacked_object : List PackedToken → Object
unpacked_object ts =
    let variables = read_list read_variable (rest_of (rest_of (rest_of ts))) in
    let functions = read_list read_function variables.1 in
    let setups = read_list read_setup functions.1 in
    record {
      path = token_name (next ts);
      name = token_name (next (rest_of ts));
      edition = edition_at (token_number (next (rest_of (rest_of ts))));
      variables = variables.0;
      functions = functions.0;
      setups = setups.0;
    }
