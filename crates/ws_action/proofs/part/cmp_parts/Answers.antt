use Rattle.std.proofs.Common.{◌≡◌, ℕ, ◌<◌, ◌≤◌, List, [], ◌∷◌, length, drop, map, refl, sym, ◌∙◌, arith, length-drop}
use Rattle.std.proofs.lemmas.List.{drop_all}
use Rattle.std.specs.declared.cmp.Ordering.{Ordering}
use Rattle.std.specs.declared.cmp.Ordering.TheVariants.{Less, Equal}
use Rattle.std.specs.Cmp.Lexicographic.{slice_cmp}
use Rattle.ws_action.specs.Actions.{Named}
use Rattle.ws_action.proofs.part.cmp_parts.Goals as goal

below_some : {P : Type 0} (order : Named → Named → Ordering) (f : P → Named) (parts : List P) → 0 < length parts → slice_cmp order [] (map f parts) ≡ Less
below_some order f [] h = absurd (omega (arith, h))
below_some order f (p ∷ ps) h = refl

-- nothing is left of the first list, and something of the second
second_left : {P : Type 0} (order : Named → Named → Ordering) (f : P → Named) (parts others : List P) (i : ℕ) → length parts ≤ i → i < length others → slice_cmp order (map f (drop i parts)) (map f (drop i others)) ≡ Less
second_left order f parts others i p q = rw (drop_all i parts p) (below_some order f (drop i others) (omega (arith, length-drop i others)))

-- nothing is left of either
nothing_left : {P : Type 0} (order : Named → Named → Ordering) (f : P → Named) (parts others : List P) (i : ℕ) → length parts ≤ i → length others ≤ i → slice_cmp order (map f (drop i parts)) (map f (drop i others)) ≡ Equal
nothing_left order f parts others i p q = rw (drop_all i parts p, drop_all i others q) refl

pub returns-then-parts-others : goal.returns-then-parts-others
returns-then-parts-others g c = sym (second_left g.P.Part.order g.P.Part.named c.args.parts.now c.args.others.now c.loop-i.i (omega arith) (omega arith)) ∙ c.loop-i.invariant

pub returns-else-parts-others : goal.returns-else-parts-others
returns-else-parts-others g c = sym (nothing_left g.P.Part.order g.P.Part.named c.args.parts.now c.args.others.now c.loop-i.i (omega arith) (omega arith)) ∙ c.loop-i.invariant
