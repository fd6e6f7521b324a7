-- Steps along a directory's files.
use Rattle.std.proofs.Common.{◌≡◌, ℕ, List, [], ◌∷◌, ◌++◌, map, length, drop, get_or, suc, ◌+◌, add-one, ◌<◌, sym, ap, subst, ◌∙◌, refl}
use Rattle.std.proofs.Math.Seq.{drop-cons}
use Rattle.go_text.specs.declared.edition.Edition.{Edition}
use Rattle.go_text.specs.Faults.{Fault}
use Rattle.go_text.specs.Named.{Source}
use Rattle.go_text.specs.declared.place.Place.{Place}
use Rattle.go_text.specs.declared.fault.FaultKind.{FaultKind}
use Rattle.ws_register.specs.Sources.{pair_of}
use Rattle.go_ast.specs.Parse.{Parsed, IsNamed, IsOther}
use Rattle.ws_graph.specs.Plan.{source_of_parsed, IsFileIn, Stops, AllParsed, AllNamed, HasOther, StopsIn}

-- what is said of the parsed that are left is said of all
pub record Leads (name : List ℕ) (left all : List Parsed) : Type 0 where
  pub named : AllNamed name left → AllNamed name all
  pub other : (other : Parsed) → HasOther name left other → HasOther name all other

pub leads_all : (name : List ℕ) (all : List Parsed) → Leads name all all
leads_all name all = record { named = λ h. h; other = λ other h. h }

pub leads_more : (name : List ℕ) (p : Parsed) (left all : List Parsed) → IsNamed p.edition name p.text → Leads name (p ∷ left) all → Leads name left all
leads_more name p left all here h = record {
  named = λ n. h.named (here, n);
  other = λ other o. h.other other (record { front = p ∷ o.front; rest = o.rest; whole = ap (λ z. p ∷ z) o.whole; named = (here, o.named); differs = o.differs });
}

pub other_here : (name : List ℕ) (p : Parsed) (left all : List Parsed) → IsOther p.edition name p.text → Leads name (p ∷ left) all → HasOther name all p
other_here name p left all differs h = h.other p (record { front = []; rest = left; whole = refl; named = tt; differs = differs })

-- the element that is read is the head of what is left
left_here : (ps : List Parsed) (i : ℕ) (p : Parsed) → p ≡ get_or ps i p → i < length ps → drop i ps ≡ p ∷ drop (i + 1) ps
left_here ps i p is inside = rw add-one (drop-cons ps i p inside ∙ ap (λ q. q ∷ drop (suc i) ps) (sym is))

pub leads_next : (name : List ℕ) (ps : List Parsed) (i : ℕ) (p : Parsed) → p ≡ get_or ps i p → i < length ps → IsNamed p.edition name p.text → Leads name (drop i ps) ps → Leads name (drop (i + 1) ps) ps
leads_next name ps i p is inside here h = leads_more name p (drop (i + 1) ps) ps here (subst (λ z. Leads name z ps) (left_here ps i p is inside) h)

pub other_next : (name : List ℕ) (ps : List Parsed) (i : ℕ) (p : Parsed) → p ≡ get_or ps i p → i < length ps → IsOther p.edition name p.text → Leads name (drop i ps) ps → HasOther name ps p
other_next name ps i p is inside differs h = other_here name p (drop (i + 1) ps) ps differs (subst (λ z. Leads name z ps) (left_here ps i p is inside) h)

pub parsed_more : (ed : Edition) (ps : List Parsed) (p : Parsed) → AllParsed ed ps → IsFileIn ed p → AllParsed ed (ps ++ p ∷ [])
parsed_more ed [] p h here = (here, tt)
parsed_more ed (q ∷ ps) p h here = (h.0, parsed_more ed ps p h.1 here)

pub stops_here : (ed : Edition) (front : List Parsed) (source : Source) (rest files : List Source) (fault : Fault) (kind : FaultKind) (place : Place) → map source_of_parsed front ++ map pair_of (source ∷ rest) ≡ map pair_of files → AllParsed ed front → Stops ed source.text kind place → fault ≡ record { file = source.name; place = place; kind = kind } → StopsIn ed (map pair_of files) fault
stops_here ed front source rest files fault kind place whole parses stops is = record {
  front = front;
  name = source.name;
  text = source.text;
  rest = map pair_of rest;
  kind = kind;
  place = place;
  whole = sym whole;
  parses = parses;
  stops = stops;
  is = is;
}

map_pushed : (ps : List Parsed) (p : Parsed) (rest : List (List ℕ × List ℕ)) → map source_of_parsed (ps ++ p ∷ []) ++ rest ≡ map source_of_parsed ps ++ source_of_parsed p ∷ rest
map_pushed [] p rest = refl
map_pushed (q ∷ ps) p rest = ap (λ z. source_of_parsed q ∷ z) (map_pushed ps p rest)

-- one more file is parsed
pub parsed_next : (ed : Edition) (ps new : List Parsed) (p : Parsed) (s : Source) (left rest files : List Source) → new ≡ ps ++ p ∷ [] → left ≡ s ∷ rest → source_of_parsed p ≡ pair_of s → IsFileIn ed p → (map source_of_parsed ps ++ map pair_of left ≡ map pair_of files) × AllParsed ed ps → (map source_of_parsed new ++ map pair_of rest ≡ map pair_of files) × AllParsed ed new
parsed_next ed ps new p s left rest files pushed taken is here h =
    subst (λ z. (map source_of_parsed z ++ map pair_of rest ≡ map pair_of files) × AllParsed ed z) (sym pushed)
    (map_pushed ps p (map pair_of rest) ∙ ap (λ z. map source_of_parsed ps ++ z ∷ map pair_of rest) is ∙ sym (ap (λ z. map source_of_parsed ps ++ map pair_of z) taken) ∙ h.0, parsed_more ed ps p h.1 here)
