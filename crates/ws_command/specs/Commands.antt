-- What a line of a script asks for.
use Rattle.std.specs.Prelude.{ℕ, zero, suc, ◌==◌, ◌&&◌, ◌||◌, nat_lt, Bool, cond, List, [], ◌∷◌, ◌++◌, length, Option, None, Some, codes}
use Rattle.std.specs.List.{list_all}
use Rattle.std.specs.Str.{bytes_eq}
use Rattle.std.specs.Option.{option_map}
use Rattle.go_text.specs.declared.edition.Edition.{Edition}
use Rattle.go_text.specs.declared.edition.Edition.TheVariants.{One, Two}
use Rattle.ws_command.specs.Lines.{words_of, decimal_value, without_return, is_decimal}

-- A command with its words: names, a path, a directory, and a number of lines or of ticks. What is built are names, each with a directory. What is applied has a counter, a number,
-- and so many lines, or none where it is a removal.
pub data Command : Type 0 where
  Nothing : Command
  Bad : Command
  Create : List ℕ → Command
  Write : List ℕ → List ℕ → ℕ → Command
  Remove : List ℕ → List ℕ → Command
  Apply : List ℕ → List ℕ → ℕ → ℕ → Option ℕ → Command
  Merge : List ℕ → List ℕ → Command
  Settle : Command
  Build : List (List ℕ × List ℕ) → Command
  Run : List ℕ → List ℕ → ℕ → Command
  Ids : List ℕ → List ℕ → Command
  Show : List ℕ → Command
  Use : Edition → Command

abbrev pub is_name_byte : ℕ → Bool
is_name_byte b = is_decimal b || (nat_lt 96 b && nat_lt b 123) || (nat_lt 64 b && nat_lt b 91) || (b == 95) || (b == 45)

-- 1 to 32 letters, digits, `_` and `-`
abbrev pub is_replica_name : List ℕ → Bool
is_replica_name word = nat_lt 0 (length word) && nat_lt (length word) 33 && list_all is_name_byte word

-- a command of names that are good
abbrev pub if_good : Bool → Command → Command
if_good good command = cond good command Bad

abbrev pub if_number : Option ℕ → (ℕ → Command) → Command
if_number word command = elim word [ None ↦ Bad | Some n ↦ command n ]

-- counters and the numbers of replicas are above 0, and those below 2^32
abbrev pub is_version : ℕ → ℕ → Bool
is_version counter number = nat_lt 0 counter && (nat_lt 0 number && nat_lt number 4294967296)

-- a write that is applied is a number of lines, or `-`, a removal
abbrev pub apply_of : List ℕ → List ℕ → ℕ → ℕ → List ℕ → Command
apply_of name path counter number word = cond (bytes_eq word (codes "-")) (Apply name path counter number None) (if_number (decimal_value word) (λ lines. Apply name path counter number (Some lines)))

-- an edition that there is
abbrev pub use_of : Option ℕ → Command
use_of number = if_number number (λ n. cond (n == 1) (Use One) (cond (n == 2) (Use Two) Bad))

-- all commands but builds
abbrev pub of_others : List (List ℕ) → Command
of_others (word ∷ []) = cond (bytes_eq word (codes "settle")) Settle Bad
of_others (word ∷ a ∷ []) =
    cond (bytes_eq word (codes "replica")) (if_good (is_replica_name a) (Create a))
    (cond (bytes_eq word (codes "show")) (if_good (is_replica_name a) (Show a))
    (cond (bytes_eq word (codes "edition")) (use_of (decimal_value a)) Bad))
of_others (word ∷ a ∷ b ∷ []) =
    cond (bytes_eq word (codes "merge")) (if_good (is_replica_name a && is_replica_name b) (Merge a b))
    (cond (bytes_eq word (codes "ids")) (if_good (is_replica_name a) (Ids a b))
    (cond (bytes_eq word (codes "remove")) (if_good (is_replica_name a) (Remove a b)) Bad))
of_others (word ∷ a ∷ b ∷ c ∷ []) =
    cond (bytes_eq word (codes "write")) (if_good (is_replica_name a) (if_number (decimal_value c) (Write a b)))
    (cond (bytes_eq word (codes "run")) (if_good (is_replica_name a) (if_number (decimal_value c) (Run a b))) Bad)
of_others (word ∷ a ∷ b ∷ c ∷ d ∷ e ∷ []) =
    cond (bytes_eq word (codes "apply")) (if_good (is_replica_name a) (if_number (decimal_value c) (λ counter. if_number (decimal_value d) (λ number. if_good (is_version counter number) (apply_of a b counter number e))))) Bad
of_others _ = Bad

-- the words of a build, two and two
abbrev pub pairs_of : List (List ℕ) → Option (List (List ℕ × List ℕ))
pairs_of [] = Some []
pairs_of (a ∷ []) = None
pairs_of (a ∷ b ∷ words) = option_map (λ pairs. (a, b) ∷ pairs) (pairs_of words)

-- 1 to 64 names, each with a directory
abbrev pub build_of : Option (List (List ℕ × List ℕ)) → Command
build_of words = elim words [ None ↦ Bad | Some pairs ↦ if_good (nat_lt 0 (length pairs) && nat_lt (length pairs) 65 && list_all (λ pair. is_replica_name pair.0) pairs) (Build pairs) ]

abbrev pub of_words : List (List ℕ) → Command
of_words [] = Nothing
of_words (word ∷ words) = cond (bytes_eq word (codes "build")) (build_of (pairs_of words)) (of_others (word ∷ words))

abbrev pub command_of : List ℕ → Command
command_of line = of_words (words_of (without_return line))

-- how many lines of text follow it
abbrev pub text_lines : Command → ℕ
text_lines command = elim command [ Write name path lines ↦ lines | Apply name path counter number (Some lines) ↦ lines | _ ↦ 0 ]

-- the text of the first n lines, each with a newline, where there are so many
abbrev pub text_of : ℕ → List (List ℕ) → Option (List ℕ)
text_of zero lines = Some []
text_of (suc n) [] = None
text_of (suc n) (line ∷ lines) = option_map (λ text. line ++ 10 ∷ text) (text_of n lines)
