-- Instructions, functions and setups with other references.
use Rattle.std.specs.Prelude.{map}
use Rattle.go_code.specs.declared.instr.Instr.{Instr}
use Rattle.go_code.specs.declared.instr.Instr.TheVariants.{Frame, Local, Global, Part, Row, Operate, Jump, Output, Calls as By_call}
use Rattle.go_code.specs.declared.instr.AccessInstr.{AccessInstr}
use Rattle.go_code.specs.declared.instr.AccessInstr.TheVariants.{Load, Store, LoadAt, StoreAt}
use Rattle.go_code.specs.declared.instr.CallInstr.{CallInstr}
use Rattle.go_code.specs.declared.instr.CallInstr.TheVariants.{Call, Return}
use Rattle.go_code.specs.Functions.{FunctionCode, Setup}

-- what becomes of references to functions, and of those to package variables
pub record Changes (R S : Type 0) : Type 0 where
  pub functions : R → S
  pub variables : R → S

-- what the instruction says the place of its cells by
abbrev pub reference_of : {P : Type 0} → AccessInstr P → P
reference_of (Load first count) = first
reference_of (Store first count) = first
reference_of (LoadAt first count) = first
reference_of (StoreAt first count) = first

-- the access with its place changed
abbrev pub refer_access : {P Q : Type 0} → (P → Q) → AccessInstr P → AccessInstr Q
refer_access v (Load first count) = Load (v first) count
refer_access v (Store first count) = Store (v first) count
refer_access v (LoadAt first count) = LoadAt (v first) count
refer_access v (StoreAt first count) = StoreAt (v first) count

-- the call with its reference changed
abbrev pub refer_call : {R S : Type 0} → (R → S) → CallInstr R → CallInstr S
refer_call f (Call function) = Call (f function)
refer_call f (Return count) = Return count

-- the instruction with its reference changed: only calls and accesses to package variables have one
abbrev pub refer : {R S : Type 0} → Changes R S → Instr R → Instr S
refer g (Frame i) = Frame i
refer g (Local i) = Local i
refer g (Global i) = Global (refer_access g.variables i)
refer g (Part i) = Part i
refer g (Row i) = Row i
refer g (Operate operator) = Operate operator
refer g (Jump i) = Jump i
refer g (Output i) = Output i
refer g (By_call i) = By_call (refer_call g.functions i)

-- the function with the references of its code changed
abbrev pub refer_function : {R S : Type 0} → Changes R S → FunctionCode R → FunctionCode S
refer_function g f = record { parameters = f.parameters; cells = f.cells; code = map (refer g) f.code }

-- the setup with the references of its code changed
abbrev pub refer_setup : {R S : Type 0} → Changes R S → Setup R → Setup S
refer_setup g s = record { cells = s.cells; code = map (refer g) s.code }
