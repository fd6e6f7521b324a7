-- Why files aren't run, and what is said of it.
use Rattle.std.specs.Prelude.{ℕ, List, ◌++◌, codes, string_bytes}
use Rattle.goset_cli.specs.declared.failure.Failure.{Failure}
use Rattle.goset_cli.specs.declared.failure.Failure.TheVariants as failures
use Rattle.ws_module.specs.Reasons.{reason_of}
use Rattle.ws_module.specs.declared.unread.FilesError.{FilesError}
use Rattle.ws_module.specs.declared.unread.FilesError.TheVariants as errors
use Rattle.ws_module.specs.declared.unread.Unread.{Unread}

-- files that aren't had aren't run
abbrev pub failure_of : FilesError → Failure
failure_of (errors.Unread file why) = failures.Unread file why
failure_of errors.Memory = failures.Memory

-- the line of standard error for a file
abbrev pub unread_line : List ℕ → Unread → List ℕ
unread_line file why = codes "goset: " ++ file ++ codes ": " ++ reason_of why ++ codes "\n"

-- and for each failure
abbrev pub line_of : Failure → List ℕ
line_of (failures.Unread file why) = unread_line (string_bytes file) why
line_of failures.Memory = codes "goset: memory\n"
line_of failures.Write = codes "goset: write\n"
