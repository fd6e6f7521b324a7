-- The definitions computed on worked rows.
use Rattle.std.proofs.Common.{◌≡◌, pos, [], ◌∷◌, length, codes, refl}
use Rattle.std.specs.Fmt.{digits}
use Rattle.std.specs.Str.{chars}
use Rattle.ucd_category.specs.GeneralCategory.{general_category}
use Rattle.ucd_category.specs.GeneralCategoryRows.{general_category_rows}
use Rattle.ucd_table.specs.Rows.{value_in}
use Rattle.go_text.specs.declared.edition.Edition.TheVariants.{One}
use Rattle.go_const.specs.declared.constant.Const.TheVariants.{Integer}
use Rattle.go_types.specs.declared.types.Basic.TheVariants as basics
use Rattle.go_types.specs.declared.types.Untyped.TheVariants as kinds
use Rattle.go_types.specs.Types.{basic}
use Rattle.go_typed.specs.Trees.{Package}
use Rattle.go_export.specs.Exports.{constant, variable, type', sorted_by_name, exports_of}
use Rattle.go_export.specs.Summaries.{summary_of, summary_text}

-- package lib with const k = 2 and const K = 1
abbrev lib : Package
lib = record {
  path = codes "lib";
  name = codes "lib";
  edition = One;
  constants = (codes "k", (basic (basics.Untyped kinds.Int), Integer (pos 2))) ∷ (codes "K", (basic (basics.Untyped kinds.Int), Integer (pos 1))) ∷ [];
  types = [];
  variables = [];
  initializations = [];
  uses = [];
  functions = [];
}

-- what isn't exported stays out
lib_exports : exports_of lib ≡ (codes "K", constant (basic (basics.Untyped kinds.Int)) (Integer (pos 1))) ∷ []
unfolding exports_of chars general_category value_in general_category_rows
lib_exports = refl

lib_size : length (summary_text (summary_of lib)) ≡ 97
unfolding exports_of summary_text digits chars general_category value_in general_category_rows
lib_size = refl

-- by bytes; the first of several stays
in_byte_order : sorted_by_name ((codes "Tb", type' (basic basics.Bool)) ∷ (codes "T", variable (basic basics.Bool)) ∷ (codes "Ta", type' (basic basics.Bool)) ∷ (codes "Tb", variable (basic basics.Bool)) ∷ [])
    ≡ (codes "T", variable (basic basics.Bool)) ∷ (codes "Ta", type' (basic basics.Bool)) ∷ (codes "Tb", type' (basic basics.Bool)) ∷ []
in_byte_order = refl
