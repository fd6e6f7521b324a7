-- Why files aren't taken.
use Rattle.std.specs.Prelude.{◌≡◌, ◌⊎◌, ◌<◌, ◌≤◌, ℕ, List, length, codes, true, is_some, Option, Some, None, string_bytes}
use Rattle.std.specs.Str.{IsUtf8}
use Rattle.go_text.specs.Editions.{text_limit}
use Rattle.go_text.specs.Texts.{text_error}
use Rattle.go_text.specs.declared.edition.Edition.{Edition}
use Rattle.go_text.specs.declared.edition.Edition.TheVariants.{One, Two}
use Rattle.ws_module.specs.declared.unread.FilesError.{FilesError}
use Rattle.ws_module.specs.declared.unread.FilesError.TheVariants as errors
use Rattle.ws_module.specs.declared.unread.Unread.{Unread}
use Rattle.ws_module.specs.declared.unread.Unread.TheVariants.{Missing, Folder, Long, NoText, NoPath, NoModule, Other}

abbrev pub reason_of : Unread → List ℕ
reason_of Missing = codes "no such file"
reason_of Folder = codes "a folder, not a file"
reason_of (Long One) = codes "longer than 1048576 bytes"
reason_of (Long Two) = codes "longer than 4194304 bytes"
reason_of NoText = codes "not a text: it is UTF-8 without NUL, with a byte order mark at its start alone"
reason_of NoPath = codes "not a path of a Go file, as docs/SCRIPT.md has them"
reason_of NoModule = codes "it names no module: a line of it is module PATH"
reason_of Other = codes "can't be read"

-- the file that isn't taken, and why; nothing where memory ran out
abbrev pub unread_of : FilesError → Option (List ℕ × Unread)
unread_of (errors.Unread file why) = Some (string_bytes file, why)
unread_of errors.Memory = None

-- bytes are no text of an edition: they are more than it allows, or no text of a source
abbrev pub WhyNoText : Edition → List ℕ → Unread → Type 0
WhyNoText edition bytes why =
    ((why ≡ Long edition) × (text_limit edition < length bytes))
    ⊎ ((why ≡ NoText) × (length bytes ≤ text_limit edition) × ((¬ (IsUtf8 bytes)) ⊎ (is_some (text_error edition bytes) ≡ true)))
