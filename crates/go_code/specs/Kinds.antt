-- The words of kinds of panics.
use Rattle.std.specs.Prelude.{ℕ, List, codes}
use Rattle.go_code.specs.declared.ending.PanicKind.{PanicKind}
use Rattle.go_code.specs.declared.ending.PanicKind.TheVariants.{Divide, Index, Slice, Make, Shift, Depth, Long, User}

abbrev pub panic_word : PanicKind → List ℕ
panic_word Divide = codes "divide"
panic_word Index = codes "index"
panic_word Slice = codes "slice"
panic_word Make = codes "make"
panic_word Shift = codes "shift"
panic_word Depth = codes "depth"
panic_word Long = codes "long"
panic_word (User text) = codes "user"
