-- Faults as values, and how reports name their kinds.
use Rattle.std.specs.Prelude.{ℕ, List, codes}
use Rattle.go_text.specs.declared.place.Place.{Place}
use Rattle.go_text.specs.declared.fault.FaultKind.{FaultKind}
use Rattle.go_text.specs.declared.fault.FaultKind.TheVariants.{Scan, LeftOut, Parse, Deep, Size, PackageName, NoImport, Cycle, Program, Redeclared, Undeclared, UnusedImport, Mismatch, Range, Constant, DivideByZero, Index, NoReturn, Assign, Count, Recursive, InitCycle, Main, Branch, Unexported, Large}

-- the file's name, the place in it, and what is wrong there
pub record Fault : Type 0 where
  pub file : List ℕ
  pub place : Place
  pub kind : FaultKind

-- the number and the word of a kind in reports
abbrev pub fault_code : FaultKind → ℕ × List ℕ
fault_code Scan = (1, codes "scan")
fault_code LeftOut = (2, codes "leftout")
fault_code Parse = (3, codes "parse")
fault_code Deep = (4, codes "deep")
fault_code Size = (5, codes "size")
fault_code PackageName = (6, codes "packagename")
fault_code NoImport = (7, codes "noimport")
fault_code Cycle = (8, codes "cycle")
fault_code Program = (9, codes "program")
fault_code Redeclared = (10, codes "redeclared")
fault_code Undeclared = (11, codes "undeclared")
fault_code UnusedImport = (12, codes "unusedimport")
fault_code Mismatch = (13, codes "mismatch")
fault_code Range = (14, codes "range")
fault_code Constant = (15, codes "constant")
fault_code DivideByZero = (16, codes "zero")
fault_code Index = (17, codes "index")
fault_code NoReturn = (18, codes "noreturn")
fault_code Assign = (19, codes "assign")
fault_code Count = (20, codes "count")
fault_code Recursive = (21, codes "recursive")
fault_code InitCycle = (22, codes "initcycle")
fault_code Main = (23, codes "main")
fault_code Branch = (24, codes "branch")
fault_code Unexported = (25, codes "unexported")
fault_code Large = (26, codes "large")

abbrev pub fault_number : FaultKind → ℕ
fault_number kind = (fault_code kind).0

abbrev pub fault_word : FaultKind → List ℕ
fault_word kind = (fault_code kind).1
