-- Two texts are packages without fault, of which one imports the other and calls its function.
use Rattle.std.proofs.Common.{◌≡◌, ◌≢◌, ◌≤◌, ℕ, true, false, List, [], ◌∷◌, length, map, codes, Some, refl, arith}
use Rattle.std.specs.Prelude.{nat_lt, pos}
use Rattle.std.specs.List.{Contains, list_all}
use Rattle.std.specs.Str.{chars}
use Rattle.std.proofs.lemmas.Bool.{and_from, lt-ltb}
use Rattle.std.proofs.lemmas.List.Elements.{All-nil, All-cons, All-contains_itself}
use Rattle.std.proofs.lemmas.Slice.Eq.{bytes_eq-Decides}
use Rattle.ucd_category.specs.GeneralCategory.{general_category}
use Rattle.ucd_category.specs.GeneralCategoryRows.{general_category_rows}
use Rattle.ucd_table.specs.Rows.{value_in}
use Rattle.go_text.specs.declared.edition.Edition.TheVariants.{One}
use Rattle.go_ast.specs.Trees.{File}
use Rattle.go_const.specs.declared.kind.IntKind.TheVariants as integers
use Rattle.go_const.specs.Constants.{fits}
use Rattle.go_typed.specs.Trees.{Package, Function, no_exprs, no_stmts, some_stmts, run as run_call}
use Rattle.go_meaning.specs.Programs.{package_symbol}
use Rattle.go_meaning_laws.specs.WellTyped.{is_text}
use Rattle.go_stmt.specs.Functions.{function_at}
use Rattle.go_export.specs.Exports.{exports_of}
use Rattle.go_check.specs.Names.{importable_of}
use Rattle.go_init.specs.Variables.{variable_order}
use Rattle.go_package.specs.Packages.{package_in}
use Rattle.go_package.specs.Typed.{IsTypedIn}
use Rattle.go_package_laws.specs.Packages.{AreOfTexts, IsChecked, AreChecked, IsNamedMain}
use Rattle.go_package_laws.proofs.Instances.{file_names, library_path, library_known, main_known, typed, typed_in}
use Rattle.go_package_laws.proofs.LexedTexts.{library_text, caller_text}
use Rattle.go_package_laws.proofs.ParsedTexts.{library_file, library_parses, caller_file, caller_parses}

pub short_text : (text : List ℕ) → list_all (λ b. nat_lt b 256) text ≡ true → length text ≤ 100 → is_text text ≡ true
short_text text bytes short =
    and_from (list_all (λ b. nat_lt b 256) text) (fits (Some integers.Int) (pos (length text))) bytes (lt-ltb (length text) 9223372036854775808 (omega (arith, short)))

-- ---- the library

abbrev library_files : List File
library_files = library_file ∷ []

abbrev pub parsed_library : Package
parsed_library = typed One library_path library_files [] library_known

library_texts : AreOfTexts One library_files
library_texts = ((library_text, library_parses, short_text library_text refl (let le : 22 ≤ 100 = omega arith in le)), tt)

library_typed : IsTypedIn One (package_in One library_path library_files []) library_files [] file_names parsed_library
unfolding function_at
library_typed = typed_in One library_path library_files [] library_known refl refl tt refl

library_ordered : (variable_order parsed_library).1 ≡ []
unfolding function_at
library_ordered = refl

library_checked : IsChecked [] parsed_library
library_checked = record {
  path = library_path;
  edition = One;
  files = library_files;
  names = file_names;
  libraries = [];
  imported = [];
  are_libraries = tt;
  stand_before = All-nil (Contains []);
  sources = library_texts;
  typed = library_typed;
  new = All-nil (λ (q : Package). parsed_library.path ≢ q.path);
  ordered = library_ordered;
}

-- ---- its caller

abbrev caller_path : List ℕ
caller_path = codes "main"

abbrev caller_files : List File
caller_files = caller_file ∷ []

abbrev pub parsed_caller : Package
parsed_caller = typed One caller_path caller_files (importable_of parsed_library ∷ []) (main_known caller_path)

caller_texts : AreOfTexts One caller_files
caller_texts = ((caller_text, caller_parses, short_text caller_text refl (let le : 46 ≤ 100 = omega arith in le)), tt)

caller_typed : IsTypedIn One (package_in One caller_path caller_files (importable_of parsed_library ∷ [])) caller_files (importable_of parsed_library ∷ []) file_names parsed_caller
unfolding function_at exports_of chars general_category value_in general_category_rows
caller_typed = typed_in One caller_path caller_files (importable_of parsed_library ∷ []) (main_known caller_path) refl refl tt refl

caller_ordered : (variable_order parsed_caller).1 ≡ []
unfolding function_at exports_of chars general_category value_in general_category_rows
caller_ordered = refl

other_path : caller_path ≢ library_path
other_path same =
    let no : false ≡ true = (bytes_eq-Decides caller_path library_path).1 same in
    cc (no)

caller_checked : IsChecked (parsed_library ∷ []) parsed_caller
caller_checked = record {
  path = caller_path;
  edition = One;
  files = caller_files;
  names = file_names;
  libraries = [];
  imported = parsed_library ∷ [];
  are_libraries = tt;
  stand_before = All-contains_itself (parsed_library ∷ []);
  sources = caller_texts;
  typed = caller_typed;
  new = All-cons (λ (q : Package). parsed_caller.path ≢ q.path) parsed_library [] other_path (All-nil (λ (q : Package). parsed_caller.path ≢ q.path));
  ordered = caller_ordered;
}

pub parsed_checked : AreChecked (parsed_library ∷ parsed_caller ∷ [])
parsed_checked = (library_checked, (caller_checked, tt))

pub parsed_named : IsNamedMain (parsed_library ∷ parsed_caller ∷ [])
parsed_named = (parsed_caller, refl, refl)

pub parsed_calls : map (λ (f : Function). f.body) parsed_caller.functions ≡ some_stmts (run_call [] (package_symbol parsed_library (codes "F")) no_exprs) no_stmts ∷ []
unfolding function_at exports_of chars general_category value_in general_category_rows
parsed_calls = refl
