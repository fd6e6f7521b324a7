-- The objects of a package by their numbers.
use Rattle.std.specs.Prelude.{◌≡◌, ℕ, List, map, Some}
use Rattle.std.specs.List.{slice_get}
use Rattle.go_objects.specs.Objects.{DeclaredObject}
use Rattle.go_objects.specs.Table.{number_of}

-- the names of objects in their order, each of which is the name of one alone
pub record Numbered (names : List (List ℕ)) (os : List DeclaredObject) : Type 0 where
  pub same : names ≡ map (λ (o : DeclaredObject). o.name.text) os
  pub once : (k : ℕ) (o : DeclaredObject) → slice_get os k ≡ Some o → number_of os o.name.text ≡ Some k
