-- The files that texts are parsed to have texts for string literals, and declare nothing behind a turn of a loop.
use Rattle.std.specs.Prelude.{◌≡◌, ℕ, true, List, [], ◌∷◌}
use Rattle.go_scan.specs.Words.{IsWord}
use Rattle.go_scan.proofs.Spelled.{tokens_stand}
use Rattle.go_text.specs.declared.edition.Edition.{Edition}
use Rattle.go_ast.specs.Parse.{Derived, IsParse}
use Rattle.go_ast.specs.Tokens.{lexemes}
use Rattle.go_ast.specs.Trees.{TypeSpec, constants, variables, types, TopLevel, declared, function, File}
use Rattle.go_package_laws.specs.Whole.{AreParsed}
use Rattle.go_meaning_laws.specs.WellTyped.{is_text}
use Rattle.go_package_laws.specs.Packages.{AreOfTexts}
use Rattle.go_package_laws.proofs.Literals.{Every}
use Rattle.go_package_laws.proofs.DeclaredTexts.{TypesHaveTexts, TopsHaveTexts, FilesHaveTexts}
use Rattle.go_package_laws.proofs.FileTexts.{TopTexts, file_texts}
use Rattle.go_package_laws.proofs.Written.{SpecHasTexts}
use Rattle.go_package_laws.proofs.Lexemes.{lexemes_texts}

types_have : (ss : List TypeSpec) → Every SpecHasTexts ss → TypesHaveTexts ss
types_have [] h = tt
types_have (s ∷ ss) h = ((h.0).0, types_have ss h.1, (h.0).1)

tops_have : (tops : List TopLevel) → Every TopTexts tops → TopsHaveTexts tops
tops_have [] h = tt
tops_have (declared (constants p ss) ∷ tops) h = (h.0, tops_have tops h.1)
tops_have (declared (variables p ss) ∷ tops) h = (h.0, tops_have tops h.1)
tops_have (declared (types p ss) ∷ tops) h = (types_have ss h.0, tops_have tops h.1)
tops_have (function f ∷ tops) h = ((h.0).0, tops_have tops h.1)

file_has : (edition : Edition) (text : List ℕ) (f : File) → IsParse edition text (Derived f) → is_text text ≡ true → TopsHaveTexts f.declarations
unfolding IsParse
file_has edition text f (ts, lexes, derives) h = tops_have f.declarations (file_texts edition f (lexemes text ts) derives.derived (lexemes_texts text ts h (tokens_stand text ts lexes)))

-- names of functions are words
abbrev pub TopsNamed : List TopLevel → Type 0
TopsNamed [] = Unit {0}
TopsNamed (declared d ∷ tops) = TopsNamed tops
TopsNamed (function f ∷ tops) = IsWord f.name.text × TopsNamed tops

abbrev pub FilesNamed : List File → Type 0
FilesNamed [] = Unit {0}
FilesNamed (f ∷ fs) = TopsNamed f.declarations × FilesNamed fs

tops_named : (tops : List TopLevel) → Every TopTexts tops → TopsNamed tops
tops_named [] h = tt
tops_named (declared d ∷ tops) h = tops_named tops h.1
tops_named (function f ∷ tops) h = ((h.0).1, tops_named tops h.1)

file_named : (edition : Edition) (text : List ℕ) (f : File) → IsParse edition text (Derived f) → is_text text ≡ true → TopsNamed f.declarations
unfolding IsParse
file_named edition text f (ts, lexes, derives) h = tops_named f.declarations (file_texts edition f (lexemes text ts) derives.derived (lexemes_texts text ts h (tokens_stand text ts lexes)))

pub files_named : (edition : Edition) (files : List File) → AreOfTexts edition files → FilesNamed files
files_named edition [] h = tt
files_named edition (f ∷ fs) ((text, parsed, is), rest) = (file_named edition text f parsed is, files_named edition fs rest)

pub files_have : (edition : Edition) (files : List File) → AreOfTexts edition files → FilesHaveTexts files
files_have edition [] h = tt
files_have edition (f ∷ fs) ((text, parsed, is), rest) = (file_has edition text f parsed is, files_have edition fs rest)

pub files_parsed : (edition : Edition) (files : List File) → AreOfTexts edition files → AreParsed edition files
files_parsed edition [] h = tt
files_parsed edition (f ∷ fs) ((text, parsed, is), rest) = ((text, parsed), files_parsed edition fs rest)
