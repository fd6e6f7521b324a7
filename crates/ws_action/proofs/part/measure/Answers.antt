use Rattle.std.proofs.Common.{rules, ◌<◌, ◌^◌, List, [], ◌∷◌, length, map, subst, sym}
use Rattle.std.specs.List.{All}
use Rattle.std.proofs.lemmas.List.Elements.{All-nil, All-cons, All-head, All-tail}
use Rattle.std.proofs.lemmas.List.{length-map}
use Rattle.ws_action.specs.Actions.{Named}
use Rattle.ws_action.proofs.part.measure.Goals as goal

-- the names of parts are those of what they stand for
names_small : {P : Type 0} (f : P → Named) (ps : List P) → All (λ p. length (f p).0 < 2 ^ 64) ps → All (λ n. length n.0 < 2 ^ 64) (map f ps)
names_small f [] h = All-nil (λ n. length n.0 < 2 ^ 64)
names_small f (p ∷ ps) h = All-cons (λ n. length n.0 < 2 ^ 64) (f p) (map f ps) (All-head (λ q. length (f q).0 < 2 ^ 64) p ps h) (names_small f ps (All-tail (λ q. length (f q).0 < 2 ^ 64) p ps h))

pub returns : goal.returns
returns g c = record {
  count = subst (λ n. n < 2 ^ 64) (sym (length-map c.args.parts.now g.P.Part.named)) (search rules);
  names = names_small g.P.Part.named c.args.parts.now (search rules);
}
