-- The sentences of kinds of faults and of messages.
use Rattle.std.specs.Prelude.{ℕ, List}
use Rattle.go_text.specs.declared.fault.FaultKind.{FaultKind}
use Rattle.go_text.specs.declared.fault.FaultKind.TheVariants as faults
use Rattle.go_diagnostics.specs.declared.message.Message.{Message}
use Rattle.go_diagnostics.specs.declared.message.Message.TheVariants as messages
use Rattle.go_diagnostics.specs.declared.message.TheConstants as texts

-- what is said of a fault of a kind
abbrev pub kind_text : FaultKind → List ℕ
kind_text faults.Scan = texts.SCAN_FAULT.now
kind_text faults.LeftOut = texts.LEFT_OUT_FAULT.now
kind_text faults.Parse = texts.PARSE_FAULT.now
kind_text faults.Deep = texts.DEEP_FAULT.now
kind_text faults.Size = texts.SIZE_FAULT.now
kind_text faults.PackageName = texts.PACKAGE_NAME_FAULT.now
kind_text faults.NoImport = texts.NO_IMPORT_FAULT.now
kind_text faults.Cycle = texts.CYCLE_FAULT.now
kind_text faults.Program = texts.PROGRAM_FAULT.now
kind_text faults.Redeclared = texts.REDECLARED_FAULT.now
kind_text faults.Undeclared = texts.UNDECLARED_FAULT.now
kind_text faults.UnusedImport = texts.UNUSED_IMPORT_FAULT.now
kind_text faults.Mismatch = texts.MISMATCH_FAULT.now
kind_text faults.Range = texts.RANGE_FAULT.now
kind_text faults.Constant = texts.CONSTANT_FAULT.now
kind_text faults.DivideByZero = texts.DIVIDE_BY_ZERO_FAULT.now
kind_text faults.Index = texts.INDEX_FAULT.now
kind_text faults.NoReturn = texts.NO_RETURN_FAULT.now
kind_text faults.Assign = texts.ASSIGN_FAULT.now
kind_text faults.Count = texts.COUNT_FAULT.now
kind_text faults.Recursive = texts.RECURSIVE_FAULT.now
kind_text faults.InitCycle = texts.INIT_CYCLE_FAULT.now
kind_text faults.Main = texts.MAIN_FAULT.now
kind_text faults.Branch = texts.BRANCH_FAULT.now
kind_text faults.Unexported = texts.UNEXPORTED_FAULT.now
kind_text faults.Large = texts.LARGE_FAULT.now

-- what a message says
abbrev pub message_text : Message → List ℕ
message_text messages.Aliases = texts.ALIASES.now
message_text messages.BuildConstraints = texts.BUILD_CONSTRAINTS.now
message_text messages.C = texts.C.now
message_text messages.Channels = texts.CHANNELS.now
message_text messages.Clear = texts.CLEAR.now
message_text messages.Closures = texts.CLOSURES.now
message_text messages.Copy = texts.COPY.now
message_text messages.CountedArrays = texts.COUNTED_ARRAYS.now
message_text messages.Defer = texts.DEFER.now
message_text messages.DotImports = texts.DOT_IMPORTS.now
message_text messages.Errors = texts.ERRORS.now
message_text messages.Floats = texts.FLOATS.now
message_text messages.Generics = texts.GENERICS.now
message_text messages.Goroutines = texts.GOROUTINES.now
message_text messages.Goto = texts.GOTO.now
message_text messages.Interfaces = texts.INTERFACES.now
message_text messages.Keys = texts.KEYS.now
message_text messages.Labels = texts.LABELS.now
message_text messages.LabelsOrKeys = texts.LABELS_OR_KEYS.now
message_text messages.LocalTypes = texts.LOCAL_TYPES.now
message_text messages.Maps = texts.MAPS.now
message_text messages.Methods = texts.METHODS.now
message_text messages.MinMax = texts.MIN_MAX.now
message_text messages.NamedResults = texts.NAMED_RESULTS.now
message_text messages.Nil = texts.NIL.now
message_text messages.ParenthesizedTypes = texts.PARENTHESIZED_TYPES.now
message_text messages.Pointers = texts.POINTERS.now
message_text messages.Print = texts.PRINT.now
message_text messages.RangeAssignments = texts.RANGE_ASSIGNMENTS.now
message_text messages.RangeElements = texts.RANGE_ELEMENTS.now
message_text messages.Recover = texts.RECOVER.now
message_text messages.Select = texts.SELECT.now
message_text messages.Shifts = texts.SHIFTS.now
message_text messages.SliceExpressions = texts.SLICE_EXPRESSIONS.now
message_text messages.SliceFunctions = texts.SLICE_FUNCTIONS.now
message_text messages.Slices = texts.SLICES.now
message_text messages.Spread = texts.SPREAD.now
message_text messages.Tags = texts.TAGS.now
message_text messages.ThreeIndexSlices = texts.THREE_INDEX_SLICES.now
message_text messages.TypeAssertions = texts.TYPE_ASSERTIONS.now
message_text messages.Uintptr = texts.UINTPTR.now
message_text messages.UnnamedFields = texts.UNNAMED_FIELDS.now
message_text messages.UnnamedParameters = texts.UNNAMED_PARAMETERS.now
message_text messages.Variadics = texts.VARIADICS.now
message_text messages.EmbeddedFields = texts.EMBEDDED_FIELDS.now
message_text messages.LateImports = texts.LATE_IMPORTS.now
message_text messages.LineEnds = texts.LINE_ENDS.now
message_text messages.MissingIndex = texts.MISSING_INDEX.now
message_text messages.NextLineBody = texts.NEXT_LINE_BODY.now
message_text messages.NextLineElse = texts.NEXT_LINE_ELSE.now
message_text messages.NoCall = texts.NO_CALL.now
message_text messages.OutsideFunctions = texts.OUTSIDE_FUNCTIONS.now
message_text messages.StepValues = texts.STEP_VALUES.now
message_text messages.CaseType = texts.CASE_TYPE.now
message_text messages.CapOperand = texts.CAP_OPERAND.now
message_text messages.ForCondition = texts.FOR_CONDITION.now
message_text messages.IfCondition = texts.IF_CONDITION.now
message_text messages.LenOperand = texts.LEN_OPERAND.now
message_text messages.MakeOperand = texts.MAKE_OPERAND.now
message_text messages.AppendOperand = texts.APPEND_OPERAND.now
message_text messages.FmtNames = texts.FMT_NAMES.now
message_text messages.PrintlnOperand = texts.PRINTLN_OPERAND.now
message_text messages.RangeOperand = texts.RANGE_OPERAND.now
message_text messages.NumberValue = texts.NUMBER_VALUE.now
message_text messages.StringAndNumber = texts.STRING_AND_NUMBER.now
message_text messages.StringValue = texts.STRING_VALUE.now
