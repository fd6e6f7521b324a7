-- How deep the fields are that are left when one is taken out.
use Rattle.std.proofs.Common.{ℕ, zero, suc, ◌≤◌, ◌+◌, ◌-◌, ◌*◌, max, List, [], ◌∷◌, length, take, slice_set, slice_index_or, swap_remove, arith}
use denote.Param.Weighed.{most}
use Rattle.go_types.specs.declared.types.Field.{Field}
use Rattle.go_types.specs.declared.types.Element.TheDeep.{deep-Field, size-Field}
use Rattle.go_types.specs.Depths.{fields_fall}
use Rattle.go_types.specs.Views.{fields_in}
use Rattle.go_types.specs.Sizes.{nodes_of}

most_take : {X : Type 0} (f : X → ℕ) (n : ℕ) (xs : List X) → most f (take n xs) ≤ most f xs
most_take f zero xs = omega arith
most_take f (suc n) [] = omega arith
most_take f (suc n) (x ∷ xs) = omega (arith, most_take f n xs)

most_set : {X : Type 0} (f : X → ℕ) (xs : List X) (i : ℕ) (y : X) → most f (slice_set xs i y) ≤ max (most f xs) (f y)
most_set f [] i y = omega arith
most_set f (x ∷ xs) zero y = omega arith
most_set f (x ∷ xs) (suc i) y = omega (arith, most_set f xs i y)

most_at : {X : Type 0} (f : X → ℕ) (xs : List X) (i : ℕ) (d : X) → f (slice_index_or xs i d) ≤ max (most f xs) (f d)
most_at f [] i d = omega arith
most_at f (x ∷ xs) zero d = omega arith
most_at f (x ∷ xs) (suc i) d = omega (arith, most_at f xs i d)

-- what is left isn't deeper than all were
pub most_left : {X : Type 0} (f : X → ℕ) (xs : List X) (i : ℕ) (d : X) → f d ≤ most f xs → most f (swap_remove xs i d) ≤ most f xs
most_left f xs i d h =
    let last : ℕ = length xs - 1 in
    omega (arith, h, most_take f last (slice_set xs i (slice_index_or xs last d)), most_set f xs i (slice_index_or xs last d), most_at f xs last d)

most_size : (fs : List Field) → most size-Field fs ≤ 3 * most deep-Field fs + 2
most_size [] = omega arith
most_size (f ∷ fs) = omega (arith, most_size fs)

-- fields are less deep than a struct of them
pub size_left : (fs : List Field) → most size-Field fs ≤ 3 * nodes_of (fields_in fs) + 2
size_left fs = omega (arith, most_size fs, fields_fall fs)
