-- There is a plan of each directory's files for each set of writes.
use Rattle.std.proofs.Common.{◌≡◌, ℕ, List, [], ◌∷◌, true, false, Bool, refl, ap, subst, inl, inr}
use Rattle.std.specs.Prelude.{◌⊎◌}
use Rattle.std.specs.Str.{bytes_eq}
use Rattle.std.specs.FinMap.{entries}
use Rattle.std.proofs.lemmas.Slice.Eq.{bytes_eq-Decides}
use Rattle.go_text.specs.declared.edition.Edition.{Edition}
use Rattle.go_text.specs.Faults.{Fault}
use Rattle.go_text.specs.declared.fault.FaultKind.{FaultKind}
use Rattle.go_text.specs.declared.fault.FaultKind.TheVariants.{PackageName, Large}
use Rattle.go_text.specs.declared.place.Place.{Place}
use Rattle.ws_version.specs.Writes.{Write}
use Rattle.ws_register.proofs.Exists.{some_contents}
use Rattle.ws_register.specs.Sources.{texts_of, IsSources}
use Rattle.ws_graph.specs.Packages.{package_files}
use Rattle.go_ast.specs.Trees.{Name, File}
use Rattle.go_ast.specs.Parse.{Parse, Derived, Stopped, IsParse, IsPackage, IsNamed, Parsed}
use Rattle.ws_graph.specs.Plan.{Planned, NoFiles, Faulty, Sound, is_large, Stops, AllParsed, AreParsed, AllNamed, HasOther, StopsIn, IsPlan, IsPlanOf}
use Rattle.go_ast.proofs.Exists.{parse_exists}

pub some_sources : (W : List Write) → (S : List (List ℕ × List ℕ)) × IsSources W S
some_sources W = let g = some_contents W in (texts_of (entries g.0), (g.0, g.1, refl))

-- ---- the plan of some files

abbrev pub Read : Edition → List (List ℕ × List ℕ) → Type 0
Read ed files = ((parsed : List Parsed) × AreParsed ed files parsed) ⊎ ((fault : Fault) × StopsIn ed files fault)

-- a text is too long, or a file, or stops
abbrev ReadOne : Edition → List ℕ → Type 0
ReadOne ed text = ((file : File) × (is_large ed text ≡ false) × IsParse ed text (Derived file)) ⊎ ((kind : FaultKind) × (place : Place) × Stops ed text kind place)

by_length : (ed : Edition) (text : List ℕ) (large : Bool) → is_large ed text ≡ large → (parse : Parse) → IsParse ed text parse → ReadOne ed text
by_length ed text true e parse h = inr (Large, record { line = 1; column = 1 }, inl (record { large = e; kind_is = refl; place_is = refl }))
by_length ed text false e (Derived file) h = inl (file, e, h)
by_length ed text false e (Stopped kind place) h = inr (kind, place, inr (record { short = e; parse = h }))

read_text : (ed : Edition) (text : List ℕ) → ReadOne ed text
read_text ed text = let p = parse_exists ed text in by_length ed text (is_large ed text) refl p.0 p.1

read_one : (ed : Edition) (name text : List ℕ) (files : List (List ℕ × List ℕ)) → ReadOne ed text → Read ed files → Read ed ((name, text) ∷ files)
read_one ed name text files (inl h) (inl ps) =
    let new : Parsed = record { name = name; text = text; edition = ed } in
    inl (new ∷ ps.0, record { sources = ap (λ (z : List (List ℕ × List ℕ)). (name, text) ∷ z) ps.1.sources; parses = (record { file = h.0; short = h.1; parse = h.2; of = refl }, ps.1.parses) })
read_one ed name text files (inl h) (inr stop) =
    let new : Parsed = record { name = name; text = text; edition = ed } in
    let s = stop.1 in
    inr (
      stop.0,
      record {
        front = new ∷ s.front;
        name = s.name;
        text = s.text;
        rest = s.rest;
        kind = s.kind;
        place = s.place;
        whole = ap (λ (z : List (List ℕ × List ℕ)). (name, text) ∷ z) s.whole;
        parses = (record { file = h.0; short = h.1; parse = h.2; of = refl }, s.parses);
        stops = s.stops;
        is = s.is;
      },
    )
read_one ed name text files (inr h) rest =
    inr (
      record { file = name; place = h.1; kind = h.0 },
      record {
        front = [];
        name = name;
        text = text;
        rest = files;
        kind = h.0;
        place = h.1;
        whole = refl;
        parses = tt;
        stops = h.2;
        is = refl;
      },
    )

pub read : (ed : Edition) (files : List (List ℕ × List ℕ)) → Read ed files
read ed [] = inl ([], record { sources = refl; parses = tt })
read ed (file ∷ files) = read_one ed file.0 file.1 files (read_text ed file.1) (read ed files)

abbrev Named : List ℕ → List Parsed → Type 0
Named name ps = AllNamed name ps ⊎ ((other : Parsed) × HasOther name ps other)

-- a text that is a file has a package name
package_of : (ed : Edition) (text : List ℕ) (file : File) → IsParse ed text (Derived file) → IsPackage ed text file.package
package_of ed text file h = (file, h, refl)

named_one : (name : List ℕ) (p : Parsed) (ps : List Parsed) (file : File) → IsParse p.edition p.text (Derived file) → (b : Bool) → bytes_eq file.package.text name ≡ b → Named name ps → Named name (p ∷ ps)
named_one name p ps file h true e n =
    let here : IsNamed p.edition name p.text = record { clause = file.package; package_is = package_of p.edition p.text file h; same = (bytes_eq-Decides file.package.text name).0 e } in
    among n here
  where
    among : Named name ps → IsNamed p.edition name p.text → Named name (p ∷ ps)
    among (inl n) here = inl (here, n)
    among (inr o) here = inr (
      o.0,
      record {
        front = p ∷ o.1.front;
        rest = o.1.rest;
        whole = ap (λ (z : List Parsed). p ∷ z) o.1.whole;
        named = (here, o.1.named);
        differs = o.1.differs;
      },
    )
named_one name p ps file h false e n = inr (
  p,
  record {
    front = [];
    rest = ps;
    whole = refl;
    named = tt;
    differs = record {
      clause = file.package;
      package_is = package_of p.edition p.text file h;
      other = λ q. let t = (bytes_eq-Decides file.package.text name).1 q in cc;
    };
  },
)

names : (ed : Edition) (name : List ℕ) (ps : List Parsed) → AllParsed ed ps → Named name ps
names ed name [] h = inl tt
names ed name (p ∷ ps) h = named_one name p ps h.0.file h.0.parse (bytes_eq h.0.file.package.text name) refl (names ed name ps h.1)

plan_named : (ed : Edition) (files : List (List ℕ × List ℕ)) (first : Parsed) (rest : List Parsed) (clause : Name) → IsPackage first.edition first.text clause → AreParsed ed files (first ∷ rest) → Named clause.text rest → (p : Planned) × IsPlan ed files p
plan_named ed files first rest clause here a (inl n) = (Sound (first ∷ rest), record { first = first; rest = rest; clause = clause; is = refl; parses = a; package_is = here; named = n })
plan_named ed files first rest clause here a (inr o) =
    let h = o.1 in (
      Faulty (record { file = o.0.name; place = h.differs.clause.place; kind = PackageName }),
      inr (record {
        first = first;
        front = h.front;
        other = o.0;
        rest = h.rest;
        clause = clause;
        parsed = subst (λ z. AreParsed ed files (first ∷ z)) h.whole a;
        package_is = here;
        named = h.named;
        differs = h.differs;
        is = refl;
      }),
    )

plan_parsed : (ed : Edition) (file : List ℕ × List ℕ) (files : List (List ℕ × List ℕ)) (parsed : List Parsed) → AreParsed ed (file ∷ files) parsed → (p : Planned) × IsPlan ed (file ∷ files) p
plan_parsed ed file files [] a = let none = a.sources in cc
plan_parsed ed file files (first ∷ rest) a =
    let tree = a.parses.0.file in
    plan_named ed (file ∷ files) first rest tree.package (package_of first.edition first.text tree a.parses.0.parse) a (names ed tree.package.text rest a.parses.1)

plan_read : (ed : Edition) (file : List ℕ × List ℕ) (files : List (List ℕ × List ℕ)) → Read ed (file ∷ files) → (p : Planned) × IsPlan ed (file ∷ files) p
plan_read ed file files (inl ps) = plan_parsed ed file files ps.0 ps.1
plan_read ed file files (inr stop) = (Faulty stop.0, inl stop.1)

pub some_plan : (ed : Edition) (files : List (List ℕ × List ℕ)) → (p : Planned) × IsPlan ed files p
some_plan ed [] = (NoFiles, refl)
some_plan ed (file ∷ files) = plan_read ed file files (read ed (file ∷ files))

pub some_plan_of : (ed : Edition) (W : List Write) (directory : List ℕ) → (p : Planned) × IsPlanOf ed W directory p
some_plan_of ed W directory =
    let s = some_sources W in
    let p = some_plan ed (package_files directory s.0) in
    (p.0, (s.0, s.1, p.1))
