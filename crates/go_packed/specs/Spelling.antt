-- The tokens by which an object is written.
use Rattle.std.specs.Prelude.{ℕ, true, false, List, [], ◌∷◌, ◌++◌, length}
use Rattle.std.specs.List.{flat_map}
use Rattle.go_const.specs.declared.kind.IntKind.{IntKind}
use Rattle.go_const.specs.declared.kind.IntKind.TheVariants.{Int, Int8, Int16, Int32, Int64, Uint, Uint8, Uint16, Uint32, Uint64}
use Rattle.go_const.specs.declared.operator.ArithmeticOperator.{ArithmeticOperator}
use Rattle.go_const.specs.declared.operator.ArithmeticOperator.TheVariants.{Add, Subtract, Multiply, Divide, Remainder, BitAnd, BitOr, BitXor, AndNot}
use Rattle.go_const.specs.declared.operator.ComparisonOperator.{ComparisonOperator}
use Rattle.go_const.specs.declared.operator.ComparisonOperator.TheVariants.{Equal, NotEqual, Less, LessOrEqual, Greater, GreaterOrEqual}
use Rattle.go_const.specs.declared.operator.ShiftOperator.TheVariants.{Left, Right}
use Rattle.go_symbol.specs.Symbols.{Symbol}
use Rattle.go_text.specs.Editions.{edition_number}
use Rattle.go_code.specs.declared.cell.Cell.{Cell}
use Rattle.go_code.specs.declared.cell.Cell.TheVariants as cell
use Rattle.go_code.specs.declared.instr.Instr.{Instr}
use Rattle.go_code.specs.declared.instr.Instr.TheVariants as instr
use Rattle.go_code.specs.declared.instr.FrameInstr.{FrameInstr}
use Rattle.go_code.specs.declared.instr.FrameInstr.TheVariants.{Push, Pop, Repeat}
use Rattle.go_code.specs.declared.instr.AccessInstr.{AccessInstr}
use Rattle.go_code.specs.declared.instr.AccessInstr.TheVariants.{Load, Store, LoadAt, StoreAt}
use Rattle.go_code.specs.declared.instr.PartInstr.{PartInstr}
use Rattle.go_code.specs.declared.instr.PartInstr.TheVariants.{Move, Index, Reach, Pick, Part}
use Rattle.go_code.specs.declared.instr.RowInstr.{RowInstr}
use Rattle.go_code.specs.declared.instr.RowInstr.TheVariants as row
use Rattle.go_code.specs.declared.instr.JumpInstr.{JumpInstr}
use Rattle.go_code.specs.declared.instr.JumpInstr.TheVariants.{Jump, JumpIf, JumpIfNot, LoopIf}
use Rattle.go_code.specs.declared.instr.OutputInstr.{OutputInstr}
use Rattle.go_code.specs.declared.instr.OutputInstr.TheVariants.{Print, Panic}
use Rattle.go_code.specs.declared.instr.CallInstr.{CallInstr}
use Rattle.go_code.specs.declared.instr.CallInstr.TheVariants.{Call, Return}
use Rattle.go_code.specs.declared.operator.Operator.{Operator}
use Rattle.go_code.specs.declared.operator.Operator.TheVariants as operator
use Rattle.go_code.specs.declared.operator.TextOperator.TheVariants.{At, Length, Join, Cut}
use Rattle.go_code.specs.declared.operator.SliceOperator.TheVariants as slices
use Rattle.go_code.specs.Functions.{Setup}
use Rattle.go_code.specs.Packages.{Object, PackageVariable, PackageFunction}
use Rattle.go_packed.specs.Tokens.{PackedToken, Number, Integer, Text, Name}

-- ---- operators

abbrev pub kind_number : IntKind → ℕ
kind_number Int = 0
kind_number Int8 = 1
kind_number Int16 = 2
kind_number Int32 = 3
kind_number Int64 = 4
kind_number Uint = 5
kind_number Uint8 = 6
kind_number Uint16 = 7
kind_number Uint32 = 8
kind_number Uint64 = 9

abbrev pub arithmetic_number : ArithmeticOperator → ℕ
arithmetic_number Add = 0
arithmetic_number Subtract = 1
arithmetic_number Multiply = 2
arithmetic_number Divide = 3
arithmetic_number Remainder = 4
arithmetic_number BitAnd = 5
arithmetic_number BitOr = 6
arithmetic_number BitXor = 7
arithmetic_number AndNot = 8

abbrev pub comparison_number : ComparisonOperator → ℕ
comparison_number Equal = 0
comparison_number NotEqual = 1
comparison_number Less = 2
comparison_number LessOrEqual = 3
comparison_number Greater = 4
comparison_number GreaterOrEqual = 5

abbrev pub operator_tokens : Operator → List PackedToken
operator_tokens (operator.Arithmetic op kind) = Number 26 ∷ Number (arithmetic_number op) ∷ Number (kind_number kind) ∷ []
operator_tokens (operator.Shift Left kind) = Number 27 ∷ Number (kind_number kind) ∷ []
operator_tokens (operator.Shift Right kind) = Number 28 ∷ Number (kind_number kind) ∷ []
operator_tokens (operator.Negate kind) = Number 29 ∷ Number (kind_number kind) ∷ []
operator_tokens (operator.Complement kind) = Number 30 ∷ Number (kind_number kind) ∷ []
operator_tokens (operator.Convert kind) = Number 31 ∷ Number (kind_number kind) ∷ []
operator_tokens operator.Not = Number 32 ∷ []
operator_tokens (operator.Compare op) = Number 33 ∷ Number (comparison_number op) ∷ []
operator_tokens (operator.Equal count) = Number 34 ∷ Number count ∷ []
operator_tokens (operator.Text At) = Number 35 ∷ []
operator_tokens (operator.Text Length) = Number 36 ∷ []
operator_tokens (operator.Text Join) = Number 37 ∷ []
operator_tokens (operator.Text Cut) = Number 45 ∷ []
operator_tokens (operator.Slice slices.Length) = Number 46 ∷ []
operator_tokens (operator.Slice slices.Capacity) = Number 47 ∷ []
operator_tokens (operator.Slice slices.Cut) = Number 48 ∷ []

-- ---- instructions: a tag, and what it takes

abbrev pub cell_tokens : Cell → List PackedToken
cell_tokens (cell.Int z) = Number 0 ∷ Integer z ∷ []
cell_tokens (cell.Bool false) = Number 1 ∷ []
cell_tokens (cell.Bool true) = Number 2 ∷ []
cell_tokens (cell.Text text) = Number 3 ∷ Text text ∷ []
cell_tokens (cell.Slice row start n c) = Number 44 ∷ Number row ∷ Number start ∷ Number n ∷ Number c ∷ []

abbrev pub frame_tokens : FrameInstr → List PackedToken
frame_tokens (Push cell) = cell_tokens cell
frame_tokens (Pop count) = Number 4 ∷ Number count ∷ []
frame_tokens (Repeat count times) = Number 5 ∷ Number count ∷ Number times ∷ []

abbrev pub local_tokens : AccessInstr ℕ → List PackedToken
local_tokens (Load first count) = Number 6 ∷ Number first ∷ Number count ∷ []
local_tokens (Store first count) = Number 7 ∷ Number first ∷ Number count ∷ []
local_tokens (LoadAt first count) = Number 8 ∷ Number first ∷ Number count ∷ []
local_tokens (StoreAt first count) = Number 9 ∷ Number first ∷ Number count ∷ []

abbrev pub access_tokens : ℕ → Symbol → ℕ → List PackedToken
access_tokens tag s count = Number tag ∷ Name s.path ∷ Name s.name ∷ Number count ∷ []

abbrev pub global_tokens : AccessInstr Symbol → List PackedToken
global_tokens (Load s count) = access_tokens 10 s count
global_tokens (Store s count) = access_tokens 11 s count
global_tokens (LoadAt s count) = access_tokens 12 s count
global_tokens (StoreAt s count) = access_tokens 13 s count

abbrev pub part_tokens : PartInstr → List PackedToken
part_tokens (Move by) = Number 14 ∷ Number by ∷ []
part_tokens (Index count size) = Number 15 ∷ Number count ∷ Number size ∷ []
part_tokens (Pick count size) = Number 16 ∷ Number count ∷ Number size ∷ []
part_tokens (Reach size) = Number 43 ∷ Number size ∷ []
part_tokens (Part whole first count) = Number 17 ∷ Number whole ∷ Number first ∷ Number count ∷ []

abbrev pub row_tokens : RowInstr → List PackedToken
row_tokens (row.Make size) = Number 38 ∷ Number size ∷ []
row_tokens (row.Get size) = Number 39 ∷ Number size ∷ []
row_tokens (row.GetAt count) = Number 40 ∷ Number count ∷ []
row_tokens (row.SetAt count) = Number 41 ∷ Number count ∷ []
row_tokens (row.Append size count) = Number 42 ∷ Number size ∷ Number count ∷ []

abbrev pub jump_tokens : JumpInstr → List PackedToken
jump_tokens (Jump by) = Number 18 ∷ Number by ∷ []
jump_tokens (JumpIf by) = Number 19 ∷ Number by ∷ []
jump_tokens (JumpIfNot by) = Number 20 ∷ Number by ∷ []
jump_tokens (LoopIf by) = Number 21 ∷ Number by ∷ []

abbrev pub output_tokens : OutputInstr → List PackedToken
output_tokens (Print count) = Number 22 ∷ Number count ∷ []
output_tokens Panic = Number 23 ∷ []

abbrev pub call_tokens : CallInstr Symbol → List PackedToken
call_tokens (Call s) = Number 24 ∷ Name s.path ∷ Name s.name ∷ []
call_tokens (Return count) = Number 25 ∷ Number count ∷ []

abbrev pub instr_tokens : Instr Symbol → List PackedToken
instr_tokens (instr.Frame i) = frame_tokens i
instr_tokens (instr.Local i) = local_tokens i
instr_tokens (instr.Global i) = global_tokens i
instr_tokens (instr.Part i) = part_tokens i
instr_tokens (instr.Row i) = row_tokens i
instr_tokens (instr.Operate i) = operator_tokens i
instr_tokens (instr.Jump i) = jump_tokens i
instr_tokens (instr.Output i) = output_tokens i
instr_tokens (instr.Calls i) = call_tokens i

-- ---- objects: lists behind their lengths

abbrev pub list_tokens : {A : Type 0} → (A → List PackedToken) → List A → List PackedToken
list_tokens f xs = Number (length xs) ∷ flat_map f xs

abbrev pub function_tokens : PackageFunction → List PackedToken
function_tokens f = (Name f.name ∷ Number f.function.parameters ∷ Number f.function.cells ∷ []) ++ list_tokens instr_tokens f.function.code

abbrev pub variable_tokens : PackageVariable → List PackedToken
variable_tokens v = (Name v.name ∷ []) ++ list_tokens cell_tokens v.zero

abbrev pub setup_tokens : Setup Symbol → List PackedToken
setup_tokens s = (Number s.cells ∷ []) ++ list_tokens instr_tokens s.code

abbrev pub object_tokens : Object → List PackedToken
object_tokens o =
    (Name o.path ∷ Name o.name ∷ Number (edition_number o.edition) ∷ []) ++ (list_tokens variable_tokens o.variables ++ (list_tokens function_tokens o.functions ++ list_tokens setup_tokens o.setups))
