-- What an object is written by gives the object back.
use Rattle.std.proofs.Common.{◌≡◌, ◌∙◌, List, [], ◌∷◌, ◌++◌, length, refl, ap, append_assoc, append-nil, sym, true, false}
use Rattle.std.specs.List.{flat_map}
use Rattle.go_const.specs.declared.kind.IntKind.{IntKind}
use Rattle.go_const.specs.declared.kind.IntKind.TheVariants.{Int, Int8, Int16, Int32, Int64, Uint, Uint8, Uint16, Uint32, Uint64}
use Rattle.go_const.specs.declared.operator.ArithmeticOperator.{ArithmeticOperator}
use Rattle.go_const.specs.declared.operator.ArithmeticOperator.TheVariants.{Add, Subtract, Multiply, Divide, Remainder, BitAnd, BitOr, BitXor, AndNot}
use Rattle.go_const.specs.declared.operator.ComparisonOperator.{ComparisonOperator}
use Rattle.go_const.specs.declared.operator.ComparisonOperator.TheVariants.{Equal, NotEqual, Less, LessOrEqual, Greater, GreaterOrEqual}
use Rattle.go_const.specs.declared.operator.ShiftOperator.TheVariants.{Left, Right}
use Rattle.go_symbol.specs.Symbols.{Symbol}
use Rattle.go_text.specs.declared.edition.Edition.{Edition}
use Rattle.go_text.specs.declared.edition.Edition.TheVariants.{One, Two}
use Rattle.go_text.specs.Editions.{edition_number}
use Rattle.go_code.specs.declared.cell.Cell.{Cell}
use Rattle.go_code.specs.declared.cell.Cell.TheVariants as cell
use Rattle.go_code.specs.declared.instr.Instr.{Instr}
use Rattle.go_code.specs.declared.instr.Instr.TheVariants as instr
use Rattle.go_code.specs.declared.instr.FrameInstr.{FrameInstr}
use Rattle.go_code.specs.declared.instr.FrameInstr.TheVariants.{Push, Pop, Repeat}
use Rattle.go_code.specs.declared.instr.AccessInstr.TheVariants.{Load, Store, LoadAt, StoreAt}
use Rattle.go_code.specs.declared.instr.PartInstr.TheVariants.{Move, Index, Reach, Pick, Part}
use Rattle.go_code.specs.declared.instr.RowInstr.TheVariants as row
use Rattle.go_code.specs.declared.instr.JumpInstr.TheVariants.{Jump, JumpIf, JumpIfNot, LoopIf}
use Rattle.go_code.specs.declared.instr.OutputInstr.TheVariants.{Print, Panic}
use Rattle.go_code.specs.declared.instr.CallInstr.TheVariants.{Call, Return}
use Rattle.go_code.specs.declared.operator.Operator.{Operator}
use Rattle.go_code.specs.declared.operator.Operator.TheVariants as operator
use Rattle.go_code.specs.declared.operator.TextOperator.TheVariants.{At, Length, Join, Cut}
use Rattle.go_code.specs.declared.operator.SliceOperator.TheVariants as slices
use Rattle.go_code.specs.Functions.{Setup}
use Rattle.go_code.specs.Packages.{Object, PackageVariable, PackageFunction}
use Rattle.go_packed.specs.Tokens.{PackedToken}
use Rattle.go_packed.specs.Spelling.{kind_number, arithmetic_number, comparison_number, operator_tokens, cell_tokens, frame_tokens, instr_tokens, list_tokens, function_tokens, variable_tokens, setup_tokens, object_tokens}
use Rattle.go_packed.specs.Reading.{Read, kind_at, arithmetic_at, comparison_at, read_cell, read_instr, read_many, read_list, read_variable, read_setup, read_function, edition_at, unpacked_object}

kind_back : (k : IntKind) → kind_at (kind_number k) ≡ k
kind_back Int = refl
kind_back Int8 = refl
kind_back Int16 = refl
kind_back Int32 = refl
kind_back Int64 = refl
kind_back Uint = refl
kind_back Uint8 = refl
kind_back Uint16 = refl
kind_back Uint32 = refl
kind_back Uint64 = refl

arithmetic_back : (op : ArithmeticOperator) → arithmetic_at (arithmetic_number op) ≡ op
arithmetic_back Add = refl
arithmetic_back Subtract = refl
arithmetic_back Multiply = refl
arithmetic_back Divide = refl
arithmetic_back Remainder = refl
arithmetic_back BitAnd = refl
arithmetic_back BitOr = refl
arithmetic_back BitXor = refl
arithmetic_back AndNot = refl

comparison_back : (op : ComparisonOperator) → comparison_at (comparison_number op) ≡ op
comparison_back Equal = refl
comparison_back NotEqual = refl
comparison_back Less = refl
comparison_back LessOrEqual = refl
comparison_back Greater = refl
comparison_back GreaterOrEqual = refl

operator_back : (o : Operator) (rest : List PackedToken) → read_instr (operator_tokens o ++ rest) ≡ (instr.Operate o, rest)
operator_back (operator.Arithmetic op kind) rest = ap (λ a. (instr.Operate (operator.Arithmetic a (kind_at (kind_number kind))), rest)) (arithmetic_back op) ∙ ap (λ k. (instr.Operate (operator.Arithmetic op k), rest)) (kind_back kind)
operator_back (operator.Shift Left kind) rest = ap (λ k. (instr.Operate (operator.Shift Left k), rest)) (kind_back kind)
operator_back (operator.Shift Right kind) rest = ap (λ k. (instr.Operate (operator.Shift Right k), rest)) (kind_back kind)
operator_back (operator.Negate kind) rest = ap (λ k. (instr.Operate (operator.Negate k), rest)) (kind_back kind)
operator_back (operator.Complement kind) rest = ap (λ k. (instr.Operate (operator.Complement k), rest)) (kind_back kind)
operator_back (operator.Convert kind) rest = ap (λ k. (instr.Operate (operator.Convert k), rest)) (kind_back kind)
operator_back operator.Not rest = refl
operator_back (operator.Compare op) rest = ap (λ c. (instr.Operate (operator.Compare c), rest)) (comparison_back op)
operator_back (operator.Equal count) rest = refl
operator_back (operator.Text At) rest = refl
operator_back (operator.Text Length) rest = refl
operator_back (operator.Text Join) rest = refl
operator_back (operator.Text Cut) rest = refl
operator_back (operator.Slice slices.Length) rest = refl
operator_back (operator.Slice slices.Capacity) rest = refl
operator_back (operator.Slice slices.Cut) rest = refl

cell_back : (c : Cell) (rest : List PackedToken) → read_cell (cell_tokens c ++ rest) ≡ (c, rest)
cell_back (cell.Int z) rest = refl
cell_back (cell.Bool false) rest = refl
cell_back (cell.Bool true) rest = refl
cell_back (cell.Text text) rest = refl
cell_back (cell.Slice row start n c) rest = refl

frame_back : (i : FrameInstr) (rest : List PackedToken) → read_instr (frame_tokens i ++ rest) ≡ (instr.Frame i, rest)
frame_back (Push (cell.Int z)) rest = refl
frame_back (Push (cell.Bool false)) rest = refl
frame_back (Push (cell.Bool true)) rest = refl
frame_back (Push (cell.Text text)) rest = refl
frame_back (Push (cell.Slice row start n c)) rest = refl
frame_back (Pop count) rest = refl
frame_back (Repeat count times) rest = refl

instr_back : (i : Instr Symbol) (rest : List PackedToken) → read_instr (instr_tokens i ++ rest) ≡ (i, rest)
instr_back (instr.Frame i) rest = frame_back i rest
instr_back (instr.Local (Load first count)) rest = refl
instr_back (instr.Local (Store first count)) rest = refl
instr_back (instr.Local (LoadAt first count)) rest = refl
instr_back (instr.Local (StoreAt first count)) rest = refl
instr_back (instr.Global (Load first count)) rest = refl
instr_back (instr.Global (Store first count)) rest = refl
instr_back (instr.Global (LoadAt first count)) rest = refl
instr_back (instr.Global (StoreAt first count)) rest = refl
instr_back (instr.Part (Move by)) rest = refl
instr_back (instr.Part (Index count size)) rest = refl
instr_back (instr.Part (Pick count size)) rest = refl
instr_back (instr.Part (Reach size)) rest = refl
instr_back (instr.Part (Part whole first count)) rest = refl
instr_back (instr.Row (row.Make size)) rest = refl
instr_back (instr.Row (row.Get size)) rest = refl
instr_back (instr.Row (row.GetAt count)) rest = refl
instr_back (instr.Row (row.SetAt count)) rest = refl
instr_back (instr.Row (row.Append size count)) rest = refl
instr_back (instr.Operate o) rest = operator_back o rest
instr_back (instr.Jump (Jump by)) rest = refl
instr_back (instr.Jump (JumpIf by)) rest = refl
instr_back (instr.Jump (JumpIfNot by)) rest = refl
instr_back (instr.Jump (LoopIf by)) rest = refl
instr_back (instr.Output (Print count)) rest = refl
instr_back (instr.Output Panic) rest = refl
instr_back (instr.Calls (Call function)) rest = refl
instr_back (instr.Calls (Return count)) rest = refl

-- ---- lists

many_back : {A : Type 0} (read : List PackedToken → Read A) (write : A → List PackedToken) → ((x : A) (rest : List PackedToken) → read (write x ++ rest) ≡ (x, rest))
    → (xs : List A) (rest : List PackedToken) → read_many read (length xs) (flat_map write xs ++ rest) ≡ (xs, rest)
many_back read write back [] rest = refl
many_back read write back (x ∷ xs) rest = rw (append_assoc (write x) (flat_map write xs) rest, back x (flat_map write xs ++ rest), many_back read write back xs rest) refl

list_back : {A : Type 0} (read : List PackedToken → Read A) (write : A → List PackedToken) → ((x : A) (rest : List PackedToken) → read (write x ++ rest) ≡ (x, rest))
    → (xs : List A) (rest : List PackedToken) → read_list read (list_tokens write xs ++ rest) ≡ (xs, rest)
list_back read write back xs rest = many_back read write back xs rest

variable_back : (v : PackageVariable) (rest : List PackedToken) → read_variable (variable_tokens v ++ rest) ≡ (v, rest)
variable_back v rest =
    let f : Read (List Cell) → Read PackageVariable = λ r. (record { name = v.name; zero = r.0 }, r.1) in
    ap f (list_back read_cell cell_tokens cell_back v.zero rest)

setup_back : (s : Setup Symbol) (rest : List PackedToken) → read_setup (setup_tokens s ++ rest) ≡ (s, rest)
setup_back s rest =
    let f : Read (List (Instr Symbol)) → Read (Setup Symbol) = λ r. (record { cells = s.cells; code = r.0 }, r.1) in
    ap f (list_back read_instr instr_tokens instr_back s.code rest)

function_back : (p : PackageFunction) (rest : List PackedToken) → read_function (function_tokens p ++ rest) ≡ (p, rest)
function_back p rest =
    let f : Read (List (Instr Symbol)) → Read PackageFunction =
    λ r. (record { name = p.name; function = record { parameters = p.function.parameters; cells = p.function.cells; code = r.0 } }, r.1) in
    ap f (list_back read_instr instr_tokens instr_back p.function.code rest)

edition_back : (e : Edition) → edition_at (edition_number e) ≡ e
edition_back One = refl
edition_back Two = refl

-- what an object is written by gives the object back
pub object_back : (o : Object) → unpacked_object (object_tokens o) ≡ o
object_back o =
    let setups : List PackedToken = list_tokens setup_tokens o.setups in
    let functions : List PackedToken = list_tokens function_tokens o.functions ++ setups in
    let with_variables : Read (List PackageVariable) → Object =
    λ v. record { path = o.path; name = o.name; edition = edition_at (edition_number o.edition); variables = v.0; functions = (read_list read_function v.1).0; setups = (read_list read_setup (read_list read_function v.1).1).0 } in
    let with_functions : Read (List PackageFunction) → Object =
    λ f. record { path = o.path; name = o.name; edition = edition_at (edition_number o.edition); variables = o.variables; functions = f.0; setups = (read_list read_setup f.1).0 } in
    let with_setups : Read (List (Setup Symbol)) → Object =
    λ s. record { path = o.path; name = o.name; edition = edition_at (edition_number o.edition); variables = o.variables; functions = o.functions; setups = s.0 } in
    let with_edition : Edition → Object = λ e. record o { edition = e } in
    ap with_variables (list_back read_variable variable_tokens variable_back o.variables functions)
    ∙ ap with_functions (list_back read_function function_tokens function_back o.functions setups)
    ∙ ap with_setups (ap (read_list read_setup) (sym (append-nil setups)) ∙ list_back read_setup setup_tokens setup_back o.setups [])
    ∙ ap with_edition (edition_back o.edition)
