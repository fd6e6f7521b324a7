-- What is judged of a directory's parsed files.
use Rattle.std.proofs.Common.{◌≡◌, ℕ, Bool, true, false, List, ◌∷◌, ap, subst, ◌∙◌, ◌⊎◌, inr}
use Rattle.std.specs.Bool.{OnFalse}
use Rattle.std.specs.Str.{bytes_eq}
use Rattle.std.proofs.lemmas.Slice.Eq.{bytes_eq-Decides}
use Rattle.go_text.specs.declared.edition.Edition.{Edition}
use Rattle.go_text.specs.Faults.{Fault}
use Rattle.go_text.specs.declared.fault.FaultKind.TheVariants.{PackageName}
use Rattle.go_ast.specs.Trees.{Name}
use Rattle.go_ast.specs.Parse.{Parsed, IsPackage, IsOther}
use Rattle.ws_graph.specs.Plan.{NoFiles, Faulty, Sound, AreParsed, AllNamed, HasOther, StopsIn, DiffersIn, IsSound}
use Rattle.ws_graph.proofs.OnePlan.{one_package}

-- a package name that isn't these bytes
pub not_named : (ed : Edition) (name text words : List ℕ) (clause : Name) (b : Bool) → IsPackage ed text clause → words ≡ clause.text → b ≡ bytes_eq words name → OnFalse b (IsOther ed name text)
not_named ed name text words clause true h w e = tt
not_named ed name text words clause false h w e = record {
  clause = clause;
  package_is = h;
  other = λ q. let t : bytes_eq words name ≡ true = (bytes_eq-Decides words name).1 (w ∙ q) in let wrong : false ≡ true = e ∙ t in cc (wrong);
}

-- all have the name of the first
pub judged_sound : (ed : Edition) (files : List (List ℕ × List ℕ)) (first : Parsed) (rest all : List Parsed) (clause : Name) → all ≡ first ∷ rest → IsPackage first.edition first.text clause → AllNamed clause.text rest → AreParsed ed files all → IsSound ed files all × (Sound all ≡ NoFiles → ⊥)
judged_sound ed files first rest all clause is here named parses = (
  record {
    first = first;
    rest = rest;
    clause = clause;
    is = is;
    parses = parses;
    package_is = here;
    named = named;
  },
  λ q. cc,
)

-- one has another
pub judged_faulty : (ed : Edition) (files : List (List ℕ × List ℕ)) (first other : Parsed) (rest all : List Parsed) (clause there : Name) (fault : Fault) → all ≡ first ∷ rest → IsPackage first.edition first.text clause → HasOther clause.text rest other → IsPackage other.edition other.text there → fault ≡ record { file = other.name; place = there.place; kind = PackageName } → AreParsed ed files all → (StopsIn ed files fault ⊎ DiffersIn ed files fault) × (Faulty fault ≡ NoFiles → ⊥)
judged_faulty ed files first other rest all clause there fault is here has at said parses = (
  inr (record {
    first = first;
    front = has.front;
    other = other;
    rest = has.rest;
    clause = clause;
    parsed = subst (AreParsed ed files) (is ∙ ap (λ l. first ∷ l) has.whole) parses;
    package_is = here;
    named = has.named;
    differs = has.differs;
    is = said ∙ ap (λ (n : Name). let f : Fault = record { file = other.name; place = n.place; kind = PackageName } in f) (one_package other.edition other.text there has.differs.clause at has.differs.package_is);
  }),
  λ q. cc,
)
