-- The paths of the packages that files import, the library aside.
use Rattle.std.specs.Prelude.{ℕ, List, ◌⊎◌}
use Rattle.std.specs.List.{Contains}
use Rattle.std.specs.List.Sorted.{IsStrictlySortedBy}
use Rattle.go_text.specs.declared.edition.Edition.{Edition}
use Rattle.go_ast.specs.Parse.{Parsed}
use Rattle.ws_action.specs.Actions.{TextImports, IsImported, text_cmp}

-- those that one file of an edition imports come to some paths
pub record AddsImports (edition : Edition) (text : List ℕ) (old new : List (List ℕ)) : Type 0 where
  pub kept : (path : List ℕ) → Contains old path → Contains new path
  pub added : (path : List ℕ) → TextImports edition text path → Contains new path
  pub only : (path : List ℕ) → Contains new path → Contains old path ⊎ TextImports edition text path

-- all that files import, and nothing else
pub record AreImported (files : List Parsed) (paths : List (List ℕ)) : Type 0 where
  pub all : (path : List ℕ) → IsImported files path → Contains paths path
  pub only : (path : List ℕ) → Contains paths path → IsImported files path

-- the same, in ascending order and each once
pub record AreImportPaths (files : List Parsed) (paths : List (List ℕ)) : Type 0 where
  pub ascend : IsStrictlySortedBy text_cmp paths
  pub imported : AreImported files paths
