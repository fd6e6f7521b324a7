-- A text of edition 2 is a package main without fault, which has a slice.
use Rattle.std.proofs.Common.{◌≡◌, ◌≢◌, ◌≤◌, ◌<◌, ℕ, List, [], ◌∷◌, codes, Some, refl, arith}
use Rattle.std.specs.List.{Contains}
use Rattle.std.proofs.lemmas.List.Elements.{All-nil}
use Rattle.go_text.specs.declared.edition.Edition.TheVariants.{Two}
use Rattle.go_ast.specs.Trees.{File}
use Rattle.go_types.specs.Types.{slice}
use Rattle.go_typed.specs.Trees.{Package, Variable, global}
use Rattle.go_init.specs.Variables.{variable_order}
use Rattle.go_expr.specs.Known.{value, Names, universe}
use Rattle.go_expr.specs.Rules.{int}
use Rattle.go_stmt.specs.Functions.{function_at}
use Rattle.go_package.specs.Packages.{package_in}
use Rattle.go_package.specs.Typed.{IsTypedIn}
use Rattle.go_package_laws.specs.Packages.{AreOfTexts, IsChecked, AreChecked, IsNamedMain}
use Rattle.go_package_laws.specs.Sliced.{HasSlice}
use Rattle.go_package_laws.proofs.Instances.{file_names, main_known, typed, typed_in}
use Rattle.go_package_laws.proofs.ParsedInstances.{short_text}
use Rattle.go_package_laws.proofs.ParsedTexts.{at}
use Rattle.go_package_laws.proofs.SlicedText.{sliced_text, sliced_file, sliced_parses}

abbrev sliced_path : List ℕ
sliced_path = codes "main"

abbrev sliced_files : List File
sliced_files = sliced_file ∷ []

abbrev sliced_known : Names
sliced_known = (codes "x", Some (value (global (slice int) (record { path = sliced_path; name = codes "x" })))) ∷ main_known sliced_path

abbrev pub a_sliced : Package
a_sliced = typed Two sliced_path sliced_files [] sliced_known

sliced_texts : AreOfTexts Two sliced_files
sliced_texts = ((sliced_text, sliced_parses, short_text sliced_text refl (let le : 41 ≤ 100 = omega arith in le)), tt)

sliced_typed : IsTypedIn Two (package_in Two sliced_path sliced_files []) sliced_files [] file_names a_sliced
unfolding function_at universe
sliced_typed = typed_in Two sliced_path sliced_files [] sliced_known refl refl tt refl

sliced_ordered : (variable_order a_sliced).1 ≡ []
unfolding function_at universe
sliced_ordered = refl

sliced_checked : IsChecked [] a_sliced
sliced_checked = record {
  path = sliced_path;
  edition = Two;
  files = sliced_files;
  names = file_names;
  libraries = [];
  imported = [];
  are_libraries = tt;
  stand_before = All-nil (Contains []);
  sources = sliced_texts;
  typed = sliced_typed;
  new = All-nil (λ (q : Package). a_sliced.path ≢ q.path);
  ordered = sliced_ordered;
}

pub sliced_are_checked : AreChecked (a_sliced ∷ [])
sliced_are_checked = (sliced_checked, tt)

pub sliced_named : IsNamedMain (a_sliced ∷ [])
sliced_named = (a_sliced, refl, refl)

abbrev the_slice : Variable
the_slice = record { name = codes "x"; of = slice int; file = codes "a.go"; place = at 17 }

pub sliced_has : HasSlice a_sliced
unfolding function_at universe
sliced_has = (the_slice, int, (0, (let lt : 0 < 1 = omega arith in lt), refl), refl)
