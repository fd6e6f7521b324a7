-- The command line, as clap reads it.
use Rattle.std.specs.Prelude.{ℕ, Bool, nat_eq, if◌then◌else◌, List, [], ◌∷◌, Option, None, Some, true, false, codes, pos, unwrap_or, option_and_then, option_map, slice_get, ◌||◌}
use Rattle.std.specs.List.{list_any, starts_with}
use Rattle.std.specs.Option.{option_map_or}
use Rattle.std.specs.Str.{bytes_eq}
use Rattle.std.specs.Str.Parse.{digits_value, without_leading_plus}
use Rattle.clap.specs.Faults.{fault_of}
use Rattle.clap.specs.Kinds.{Kinds}
use Rattle.clap.specs.Lexer.{usize_max}
use Rattle.clap.specs.Simple.{App, matches_of, new_app, new_rule, on_top, with_rule}
use Rattle.clap.specs.Walk.{Rule, Text, all_of, one_of}
use Rattle.clap.specs.declared.builder.action.ArgAction.TheVariants.{SetTrue}
use Rattle.clap.specs.declared.builder.value_parser.ValueParser.{ValueParser}
use Rattle.clap.specs.declared.builder.value_parser.ValueParser.TheVariants as parsers
use Rattle.go_text.specs.declared.edition.Edition.{Edition}
use Rattle.go_text.specs.declared.edition.Edition.TheVariants.{One, Two}

-- `run` is the first of words
abbrev pub is_run_word : List Text → Bool
is_run_word [] = false
is_run_word (word ∷ words) = bytes_eq word (codes "run")

-- the words from `run` on, where that is the first behind the program's name: they ask for files to be run, and others for a session
abbrev pub words_of_run : List Text → Option (List Text)
words_of_run [] = None
words_of_run (program ∷ words) = if is_run_word words then Some words else None

-- ---- options

-- an option --NAME with one value that this parser lets through
abbrev pub value_option : Text → ValueParser → Rule
value_option name parser = record (new_rule name) {
  long = Some name;
  parser = Some parser;
  value_names = 1;
}

-- an option --NAME with a number from 1 on
abbrev pub number_option : Text → ℕ → Rule
number_option name most = value_option name (parsers.Signed (pos 1) (pos most))

abbrev pub edition_option : Rule
edition_option = number_option (codes "edition") 2

-- the number that the words give an option, and this one where they give none
abbrev pub option_number : App → Text → ℕ → List Text → ℕ
option_number app name none words = option_map_or (λ text. digits_value 10 (without_leading_plus text)) (one_of name (matches_of app words)) none

-- the number that the words give an option, if they give one
abbrev pub named_number : App → Text → List Text → Option ℕ
named_number app name words = option_map (λ text. digits_value 10 (without_leading_plus text)) (one_of name (matches_of app words))

-- the text that the words give an option, if they give one
abbrev pub named_text : App → Text → List Text → Option Text
named_text app name words = option_and_then (λ texts. slice_get texts 0) (all_of name (matches_of app words))

-- the edition of a number: 2 is the second
abbrev pub edition_at : ℕ → Edition
edition_at number = if nat_eq number 2 then Two else One

-- a program of this name, which has --help too, and --version
abbrev pub versioned : Text → App
versioned name = on_top (λ top. record top { has_version = true }) (new_app name)

-- ---- sessions

abbrev pub workers_option : Rule
workers_option = number_option (codes "workers") 64

abbrev pub goset : App
goset = with_rule (with_rule (versioned (codes "goset")) workers_option) edition_option

-- how many workers the words name, and 4 where they name none
abbrev pub workers_of : List Text → ℕ
workers_of words = option_number goset (codes "workers") 4 words

-- the edition that the words name, and the first where they name none
abbrev pub edition_option_of : List Text → Edition
edition_option_of words = edition_at (option_number goset (codes "edition") 1 words)

-- what clap finds wrong with the words, or finds to show for them; nothing, where they ask for a session
abbrev pub option_faults : List Text → Kinds
option_faults words = fault_of goset words

-- ---- sessions that go on from a kept workspace

-- a word is the option that names a kept workspace
abbrev pub names_keep : Text → Bool
names_keep word = bytes_eq word (codes "--keep") || starts_with nat_eq word (codes "--keep=")

-- a word behind the program's name is
abbrev pub asks_to_keep : List Text → Bool
asks_to_keep [] = false
asks_to_keep (program ∷ words) = list_any names_keep words

abbrev pub keep_option : Rule
keep_option = record (value_option (codes "keep") parsers.NonEmptyString) { required = true }

abbrev pub expect_option : Rule
expect_option = value_option (codes "expect") parsers.NonEmptyString

abbrev pub keep : App
keep = with_rule (with_rule (with_rule (with_rule (versioned (codes "goset")) keep_option) workers_option) edition_option) expect_option

-- the name under which the workspace is kept
abbrev pub keep_name_of : List Text → Text
keep_name_of words = unwrap_or (named_text keep (codes "keep") words) []

abbrev pub keep_workers_of : List Text → ℕ
keep_workers_of words = option_number keep (codes "workers") 4 words

-- the edition that the words name, if they name one
abbrev pub keep_edition_of : List Text → Option Edition
keep_edition_of words = option_map edition_at (named_number keep (codes "edition") words)

-- the digest that the words expect, if they expect one
abbrev pub expected_digest : List Text → Option Text
expected_digest words = named_text keep (codes "expect") words

-- what clap finds wrong with the words, or finds to show for them; nothing, where they ask for a session behind a kept workspace
abbrev pub keep_faults : List Text → Kinds
keep_faults words = fault_of keep words

-- ---- files that are run: of words the first is `run`

-- as many ticks as there are, where none are named
abbrev pub all_ticks : ℕ
all_ticks = 18446744073709551615

abbrev pub ticks_option : Rule
ticks_option = value_option (codes "ticks") (parsers.Unsigned 0 all_ticks)

abbrev pub plain_option : Rule
plain_option = record (new_rule (codes "plain")) {
  long = Some (codes "plain");
  action = Some SetTrue;
  parser = Some parsers.Bool;
}

-- files, one at least
abbrev pub file_argument : Rule
file_argument = record (new_rule (codes "file")) {
  value_names = 1;
  range = Some (record { start_inclusive = 1; end_inclusive = usize_max });
  required = true;
}

abbrev pub run_app : App
run_app = with_rule (with_rule (with_rule (with_rule (versioned (codes "goset")) ticks_option) edition_option) plain_option) file_argument

-- for how many ticks the words ask
abbrev pub ticks_of : List Text → ℕ
ticks_of words = option_number run_app (codes "ticks") all_ticks words

abbrev pub run_edition_of : List Text → Edition
run_edition_of words = edition_at (option_number run_app (codes "edition") 1 words)

-- the words ask for faults in one line each
abbrev pub wants_plain : List Text → Bool
wants_plain words = option_map_or (λ text. bytes_eq text (codes "true")) (one_of (codes "plain") (matches_of run_app words)) false

-- the files that the words name, in their order
abbrev pub run_files_of : List Text → List Text
run_files_of words = unwrap_or (all_of (codes "file") (matches_of run_app words)) []

-- what clap finds wrong with the words, or finds to show for them; nothing, where they ask for files to be run
abbrev pub run_faults : List Text → Kinds
run_faults words = fault_of run_app words
