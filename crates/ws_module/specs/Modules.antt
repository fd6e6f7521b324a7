-- The path of a module, which its go.mod names: https://go.dev/ref/mod#go-mod-file-module
-- The first line that begins with the word `module` has the path behind that word, or opens a block, whose one line has it.
use Rattle.std.specs.Prelude.{ℕ, Bool, false, ◌&&◌, ◌||◌, ◌==◌, ◌-◌, nat_eq, nat_le, slice_index, slice_range, if◌then◌else◌, List, [], ◌∷◌, length, map, Option, None, Some, codes, option_map}
use Rattle.std.specs.List.{starts_with}
use Rattle.std.specs.Option.{option_map_or}
use Rattle.std.specs.Str.{bytes_eq}
use Rattle.ws_command.specs.Lines.{lines_of, words_of}

-- a space for a tab and for a carriage return
abbrev pub spaced : ℕ → ℕ
spaced b = if (b == 9) || (b == 13) then 32 else b

-- what stands before a comment
abbrev pub uncommented : List ℕ → List ℕ
uncommented [] = []
uncommented (b ∷ line) = if starts_with nat_eq (b ∷ line) (codes "//") then [] else b ∷ uncommented line

-- ---- of the words of a line

abbrev pub only_word : List (List ℕ) → Option (List ℕ)
only_word (word ∷ []) = Some word
only_word _ = None

-- the second of two
abbrev pub word_behind : List (List ℕ) → Option (List ℕ)
word_behind [] = None
word_behind (word ∷ words) = only_word words

abbrev pub is_module : List (List ℕ) → Bool
is_module [] = false
is_module (word ∷ words) = bytes_eq word (codes "module") || bytes_eq word (codes "module(")

-- the line is this word alone
abbrev pub is_lone_word : List ℕ → List (List ℕ) → Bool
is_lone_word word words = option_map_or (λ only. bytes_eq only word) (only_word words) false

-- `module` opens a block on it
abbrev pub opens_block : List (List ℕ) → Bool
opens_block words = option_map_or (λ word. bytes_eq word (codes "(")) (word_behind words) (is_lone_word (codes "module(") words)

-- ---- of lines

-- the words of a line, before a comment
abbrev pub said : List ℕ → List (List ℕ)
said line = words_of (uncommented line)

-- the word of a block, behind the line that opens it
abbrev pub word_in_block : List (List ℕ) → Option (List ℕ)
word_in_block (line ∷ close ∷ lines) = if is_lone_word (codes ")") (said close) then only_word (said line) else None
word_in_block _ = None

-- the word that names the module
abbrev pub module_word : List (List ℕ) → Option (List ℕ)
module_word [] = None
module_word (line ∷ lines) =
    if is_module (said line) then (if opens_block (said line) then word_in_block lines else word_behind (said line)) else module_word lines

-- a word of two bytes or more that begins and ends with this mark
abbrev pub is_quoted : ℕ → List ℕ → Bool
is_quoted mark word = nat_le 2 (length word) && ((slice_index word 0 == mark) && (slice_index word (length word - 1) == mark))

-- a word without the quotation marks around it, of either kind
abbrev pub unquoted : List ℕ → List ℕ
unquoted word = if is_quoted 34 word || is_quoted 96 word then slice_range word 1 (length word - 1) else word

-- the path of the module that a go.mod names
abbrev pub module_of : List ℕ → Option (List ℕ)
module_of text = option_map unquoted (module_word (lines_of (map spaced text)))
