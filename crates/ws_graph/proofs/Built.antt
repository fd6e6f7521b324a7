-- Sources filtered by their names.
use Rattle.std.proofs.Common.{◌≡◌, Bool, true, false, cond, List, [], ◌∷◌, map, refl, ap, ◌∙◌}
use Rattle.std.specs.List.{filter}
use Rattle.go_text.specs.Named.{Source}
use Rattle.ws_register.specs.Sources.{pair_of}
use Rattle.ws_graph.specs.Packages.{is_built}

by_test : (b : Bool) (x : Source) (xs : List Source) → map pair_of (cond b (x ∷ xs) xs) ≡ cond b (pair_of x ∷ map pair_of xs) (map pair_of xs)
by_test true x xs = refl
by_test false x xs = refl

pub map-filter : (xs : List Source) → map pair_of (filter (λ s. is_built s.name) xs) ≡ filter (λ file. is_built file.0) (map pair_of xs)
map-filter [] = refl
map-filter (x ∷ xs) = by_test (is_built x.name) x (filter (λ s. is_built s.name) xs) ∙ ap (λ l. cond (is_built x.name) (pair_of x ∷ l) l) (map-filter xs)
