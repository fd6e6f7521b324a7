-- What a run prints.
use Rattle.std.specs.Prelude.{ℕ, List, [], ◌∷◌, ◌++◌, length, codes}
use Rattle.std.specs.Fmt.{decimal}
use Rattle.go_code.specs.declared.ending.Ending.{Ending}
use Rattle.go_code.specs.declared.ending.Ending.TheVariants.{Ended, Cut, Panicked}
use Rattle.go_code.specs.declared.ending.PanicKind.{PanicKind}
use Rattle.go_code.specs.declared.ending.PanicKind.TheVariants.{Divide, Index, Slice, Make, Shift, Depth, Long, User}

abbrev pub panic_word : PanicKind → List ℕ
panic_word Divide = codes "divide"
panic_word Index = codes "index"
panic_word Slice = codes "slice"
panic_word Make = codes "make"
panic_word Shift = codes "shift"
panic_word Depth = codes "depth"
panic_word Long = codes "long"
panic_word (User text) = codes "user"

-- how the program ended
abbrev pub ending_text : Ending → List ℕ
ending_text ending = elim ending [ Ended ↦ codes " ended " | Cut ↦ codes " cut " | Panicked kind ↦ codes " panic " ++ panic_word kind ++ codes " " ]

-- how long the text of the program's own panic is
abbrev pub panic_size : Ending → List ℕ
panic_size ending = elim ending [ Panicked (User text) ↦ codes " " ++ decimal (length text) | _ ↦ [] ]

-- and that text, which a newline follows
abbrev pub panic_text : Ending → List ℕ
panic_text ending = elim ending [ Panicked (User text) ↦ text ++ 10 ∷ [] | _ ↦ [] ]

abbrev pub run_target_text : List ℕ → List ℕ → List ℕ
run_target_text name directory = codes "run " ++ name ++ codes " " ++ directory

-- how the program ended, and how many bytes of output there are
unfoldable pub head_text : Ending → ℕ → List ℕ
head_text ending size = ending_text ending ++ decimal size ++ panic_size ending ++ 10 ∷ []

-- the target, the rest of its line, and then the output
unfoldable pub run_text : List ℕ → List ℕ → Ending → List ℕ → List ℕ
run_text name directory ending output = run_target_text name directory ++ head_text ending (length output) ++ output ++ panic_text ending
