-- Files have one plan, and writes with the same members one.
use Rattle.std.proofs.Common.{◌≡◌, ℕ, true, false, List, [], ◌∷◌, ◌++◌, map, sym, ap, subst, ◌∙◌, refl, inl, inr}
use Rattle.go_text.specs.declared.edition.Edition.{Edition}
use Rattle.go_text.specs.Faults.{Fault}
use Rattle.go_text.specs.declared.place.Place.{Place}
use Rattle.go_text.specs.declared.fault.FaultKind.{FaultKind}
use Rattle.go_text.specs.declared.fault.FaultKind.TheVariants.{PackageName}
use Rattle.ws_version.specs.Writes.{Write}
use Rattle.ws_map.specs.Kept.{SameMembers}
use Rattle.ws_graph.specs.Packages.{package_files}
use Rattle.ws_register.proofs.Laws.{same_sources}
use Rattle.go_ast.specs.Trees.{Name, File}
use Rattle.go_ast.specs.Parse.{Parse, Parsed, Derived, Stopped, IsParse, IsPackage, IsNamed, IsOther}
use Rattle.ws_graph.specs.Plan.{Planned, NoFiles, Faulty, Sound, source_of_parsed, is_large, IsFileIn, Stops, AllParsed, AreParsed, AllNamed, StopsIn, DiffersIn, IsSound, IsPlan, IsPlanOf}
use Rattle.go_ast.proofs.Once.{one_parse}

-- a file's name and text
abbrev Pair : Type 0
Pair = List ℕ × List ℕ

kind_in : FaultKind → Parse → FaultKind
kind_in k (Derived file) = k
kind_in k (Stopped kind place) = kind

place_in : Place → Parse → Place
place_in p (Derived file) = p
place_in p (Stopped kind place) = place

file_in : File → Parse → File
file_in other (Derived file) = file
file_in other (Stopped kind place) = other

one_kind : (ed : Edition) (t : List ℕ) (k l : FaultKind) (p q : Place) → IsParse ed t (Stopped k p) → IsParse ed t (Stopped l q) → k ≡ l
unfolding kind_in
one_kind ed t k l p q g h = ap (kind_in k) (one_parse ed t (Stopped k p) (Stopped l q) g h)

one_place : (ed : Edition) (t : List ℕ) (k l : FaultKind) (p q : Place) → IsParse ed t (Stopped k p) → IsParse ed t (Stopped l q) → p ≡ q
unfolding place_in
one_place ed t k l p q g h = ap (place_in p) (one_parse ed t (Stopped k p) (Stopped l q) g h)

pub one_file : (ed : Edition) (t : List ℕ) (a b : File) → IsParse ed t (Derived a) → IsParse ed t (Derived b) → a ≡ b
unfolding file_in
one_file ed t a b g h = ap (file_in a) (one_parse ed t (Derived a) (Derived b) g h)

not_parsed : (ed : Edition) (t : List ℕ) (k : FaultKind) (p : Place) (file : File) → IsParse ed t (Stopped k p) → IsParse ed t (Derived file) → ⊥
not_parsed ed t k p file g h = let e = one_parse ed t (Stopped k p) (Derived file) g h in cc

-- a text isn't too long, and not
not_long : (ed : Edition) (t : List ℕ) → is_large ed t ≡ true → is_large ed t ≡ false → ⊥
not_long ed t g h = let e : true ≡ false = sym g ∙ h in cc

-- a text that stops has one kind of fault, at one place
kind_of_stop : (ed : Edition) (t : List ℕ) (k l : FaultKind) (p q : Place) → Stops ed t k p → Stops ed t l q → k ≡ l
kind_of_stop ed t k l p q (inl g) (inl h) = g.kind_is ∙ sym h.kind_is
kind_of_stop ed t k l p q (inl g) (inr h) = absurd (not_long ed t g.large h.short)
kind_of_stop ed t k l p q (inr g) (inl h) = absurd (not_long ed t h.large g.short)
kind_of_stop ed t k l p q (inr g) (inr h) = one_kind ed t k l p q g.parse h.parse

place_of_stop : (ed : Edition) (t : List ℕ) (k l : FaultKind) (p q : Place) → Stops ed t k p → Stops ed t l q → p ≡ q
place_of_stop ed t k l p q (inl g) (inl h) = g.place_is ∙ sym h.place_is
place_of_stop ed t k l p q (inl g) (inr h) = absurd (not_long ed t g.large h.short)
place_of_stop ed t k l p q (inr g) (inl h) = absurd (not_long ed t h.large g.short)
place_of_stop ed t k l p q (inr g) (inr h) = one_place ed t k l p q g.parse h.parse

-- and it is no file
not_both : (ed : Edition) (t : List ℕ) (k : FaultKind) (p : Place) (file : File) → Stops ed t k p → is_large ed t ≡ false → IsParse ed t (Derived file) → ⊥
not_both ed t k p file (inl g) short h = not_long ed t g.large short
not_both ed t k p file (inr g) short h = not_parsed ed t k p file g.parse h

-- a text has one package name
pub one_package : (ed : Edition) (t : List ℕ) (m n : Name) → IsPackage ed t m → IsPackage ed t n → m ≡ n
one_package ed t m n g h = g.2 ∙ ap (λ (f : File). f.package) (one_file ed t g.0 h.0 g.1 h.1) ∙ sym h.2

-- it isn't one and another
pub named_so : (ed : Edition) (name t : List ℕ) → IsNamed ed name t → IsOther ed name t → ⊥
named_so ed name t g h = h.other (ap (λ (n : Name). n.text) (one_package ed t h.clause g.clause h.package_is g.package_is) ∙ g.same)

-- what a text of the edition parses to
parsed_in : (ed : Edition) (p : Parsed) (in_it : IsFileIn ed p) → IsParse ed p.text (Derived in_it.file)
parsed_in ed p in_it = subst (λ e. IsParse e p.text (Derived in_it.file)) in_it.of in_it.parse

-- a text that stops is not among texts that parse
no_stop : (ed : Edition) (front ps : List Parsed) (n t : List ℕ) (rest : List Pair) (kind : FaultKind) (place : Place) → map source_of_parsed ps ≡ map source_of_parsed front ++ (n, t) ∷ rest → AllParsed ed ps → Stops ed t kind place → ⊥
no_stop ed [] [] n t rest kind place e all stops = cc
no_stop ed [] (p ∷ ps) n t rest kind place e all stops =
    let heads : source_of_parsed p ≡ (n, t) = cc in
    let texts : p.text ≡ t = ap (λ (s : Pair). s.1) heads in
    not_both ed t kind place all.0.file stops (subst (λ z. is_large ed z ≡ false) texts all.0.short) (subst (λ z. IsParse ed z (Derived all.0.file)) texts (parsed_in ed p all.0))
no_stop ed (f ∷ front) [] n t rest kind place e all stops = cc
no_stop ed (f ∷ front) (p ∷ ps) n t rest kind place e all stops =
    let tails : map source_of_parsed ps ≡ map source_of_parsed front ++ (n, t) ∷ rest = cc in
    no_stop ed front ps n t rest kind place tails all.1 stops

-- where the first texts stop is one place, for one fault
pub record SameStop (n m : List ℕ) (k l : FaultKind) (p q : Place) : Type 0 where
  pub names : n ≡ m
  pub kinds : k ≡ l
  pub places : p ≡ q

one_stop : (ed : Edition) (front back : List Parsed) (n t m s : List ℕ) (rest left : List Pair) (k l : FaultKind) (p q : Place) → map source_of_parsed front ++ (n, t) ∷ rest ≡ map source_of_parsed back ++ (m, s) ∷ left → AllParsed ed front → AllParsed ed back → Stops ed t k p → Stops ed s l q → SameStop n m k l p q
one_stop ed [] [] n t m s rest left k l p q e f b g h =
    let heads : ◌≡◌ {A = Pair} (n, t) (m, s) = cc in
    let there : Stops ed s k p = subst (λ z. Stops ed z k p) (ap (λ (z : Pair). z.1) heads) g in
    record { names = ap (λ (z : Pair). z.0) heads; kinds = kind_of_stop ed s k l p q there h; places = place_of_stop ed s k l p q there h }
one_stop ed [] (x ∷ back) n t m s rest left k l p q e f b g h =
    let heads : (n, t) ≡ source_of_parsed x = cc in
    absurd (not_both ed x.text k p b.0.file (subst (λ z. Stops ed z k p) (ap (λ (z : Pair). z.1) heads) g) b.0.short (parsed_in ed x b.0))
one_stop ed (x ∷ front) [] n t m s rest left k l p q e f b g h =
    let heads : source_of_parsed x ≡ (m, s) = cc in
    absurd (not_both ed x.text l q f.0.file (subst (λ z. Stops ed z l q) (sym (ap (λ (z : Pair). z.1) heads)) h) f.0.short (parsed_in ed x f.0))
one_stop ed (x ∷ front) (y ∷ back) n t m s rest left k l p q e f b g h =
    let tails : map source_of_parsed front ++ (n, t) ∷ rest ≡ map source_of_parsed back ++ (m, s) ∷ left = cc in
    one_stop ed front back n t m s rest left k l p q tails f.1 b.1 g h

-- files of an edition parse to one list
one_list : (ed : Edition) (ps qs : List Parsed) → AllParsed ed ps → AllParsed ed qs → map source_of_parsed ps ≡ map source_of_parsed qs → ps ≡ qs
one_list ed [] [] g h e = refl
one_list ed [] (q ∷ qs) g h e = cc
one_list ed (p ∷ ps) [] g h e = cc
one_list ed (p ∷ ps) (q ∷ qs) g h e =
    let heads : source_of_parsed p ≡ source_of_parsed q = cc in
    let tails : map source_of_parsed ps ≡ map source_of_parsed qs = cc in
    let names : p.name ≡ q.name = ap (λ (z : Pair). z.0) heads in
    let texts : p.text ≡ q.text = ap (λ (z : Pair). z.1) heads in
    let editions : p.edition ≡ q.edition = g.0.of ∙ sym h.0.of in
    let same : p ≡ q = λ i. record { name = names i; text = texts i; edition = editions i } in
    ap (λ z. z ∷ ps) same ∙ ap (λ z. q ∷ z) (one_list ed ps qs g.1 h.1 tails)

pub one_parsed : (ed : Edition) (files : List Pair) (ps qs : List Parsed) → AreParsed ed files ps → AreParsed ed files qs → ps ≡ qs
one_parsed ed files ps qs g h = one_list ed ps qs g.parses h.parses (g.sources ∙ sym h.sources)

-- the first that is named otherwise is one
one_other : (name : List ℕ) (front back : List Parsed) (p q : Parsed) (rest left : List Parsed) → front ++ p ∷ rest ≡ back ++ q ∷ left → AllNamed name front → AllNamed name back → IsOther p.edition name p.text → IsOther q.edition name q.text → p ≡ q
one_other name [] [] p q rest left e f b g h = cc
one_other name [] (y ∷ back) p q rest left e f b g h =
    let heads : p ≡ y = cc in absurd (named_so y.edition name y.text b.0 (subst (λ (z : Parsed). IsOther z.edition name z.text) heads g))
one_other name (x ∷ front) [] p q rest left e f b g h =
    let heads : x ≡ q = cc in absurd (named_so x.edition name x.text f.0 (subst (λ (z : Parsed). IsOther z.edition name z.text) (sym heads) h))
one_other name (x ∷ front) (y ∷ back) p q rest left e f b g h =
    let tails : front ++ p ∷ rest ≡ back ++ q ∷ left = cc in
    one_other name front back p q rest left tails f.1 b.1 g h

-- none is named otherwise where all have the name
named_among : (name : List ℕ) (front : List Parsed) (p : Parsed) (rest : List Parsed) → AllNamed name (front ++ p ∷ rest) → IsNamed p.edition name p.text
named_among name [] p rest h = h.0
named_among name (x ∷ front) p rest h = named_among name front p rest h.1

-- ---- plans

no_cons : (xs : List Pair) (y : Pair) (ys : List Pair) → [] ≡ xs ++ y ∷ ys → ⊥
no_cons [] y ys e = cc
no_cons (x ∷ xs) y ys e = cc

none_stops : (ed : Edition) (files : List Pair) (fault : Fault) → files ≡ [] → StopsIn ed files fault → ⊥
none_stops ed files fault e h = no_cons (map source_of_parsed h.front) (h.name, h.text) h.rest (sym e ∙ h.whole)

none_parsed : (ed : Edition) (files : List Pair) (p : Parsed) (ps : List Parsed) → files ≡ [] → AreParsed ed files (p ∷ ps) → ⊥
none_parsed ed files p ps e h = let c : source_of_parsed p ∷ map source_of_parsed ps ≡ [] = h.sources ∙ e in cc

stops_once : (ed : Edition) (files : List Pair) (f g : Fault) → StopsIn ed files f → StopsIn ed files g → f ≡ g
stops_once ed files f g a b =
    let same = one_stop ed a.front b.front a.name a.text b.name b.text a.rest b.rest a.kind b.kind a.place b.place (sym a.whole ∙ b.whole) a.parses b.parses a.stops b.stops in
    a.is ∙ (λ i. record { file = same.names i; place = same.places i; kind = same.kinds i }) ∙ sym b.is

pub stops_or_parses : (ed : Edition) (files : List Pair) (f : Fault) (ps : List Parsed) → StopsIn ed files f → AreParsed ed files ps → ⊥
stops_or_parses ed files f ps a b = no_stop ed a.front ps a.name a.text a.rest a.kind a.place (b.sources ∙ a.whole) b.parses a.stops

-- first files that are one have one package name
one_clause : (p q : Parsed) (m n : Name) → p ≡ q → IsPackage p.edition p.text m → IsPackage q.edition q.text n → m ≡ n
one_clause p q m n e g h = one_package q.edition q.text m n (subst (λ (z : Parsed). IsPackage z.edition z.text m) e g) h

misnamed : Parsed → Name → Fault
misnamed p n = record { file = p.name; place = n.place; kind = PackageName }

differs_once : (ed : Edition) (files : List Pair) (f g : Fault) → DiffersIn ed files f → DiffersIn ed files g → f ≡ g
unfolding misnamed
differs_once ed files f g a b =
    let same : a.first ∷ (a.front ++ a.other ∷ a.rest) ≡ b.first ∷ (b.front ++ b.other ∷ b.rest) = one_parsed ed files _ _ a.parsed b.parsed in
    let heads : a.first ≡ b.first = cc in
    let tails : a.front ++ a.other ∷ a.rest ≡ b.front ++ b.other ∷ b.rest = cc in
    let names : b.clause.text ≡ a.clause.text = ap (λ (n : Name). n.text) (sym (one_clause a.first b.first a.clause b.clause heads a.package_is b.package_is)) in
    let other : a.other ≡ b.other = one_other a.clause.text a.front b.front a.other b.other a.rest b.rest tails a.named (subst (λ n. AllNamed n b.front) names b.named) a.differs (subst (λ n. IsOther b.other.edition n b.other.text) names b.differs) in
    let clause : a.differs.clause ≡ b.differs.clause = one_clause a.other b.other a.differs.clause b.differs.clause other a.differs.package_is b.differs.package_is in
    a.is ∙ ap (λ (p : Parsed). misnamed p a.differs.clause) other ∙ ap (misnamed b.other) clause ∙ sym b.is

differs_or_sound : (ed : Edition) (files : List Pair) (f : Fault) (ps : List Parsed) → DiffersIn ed files f → IsSound ed files ps → ⊥
differs_or_sound ed files f ps a b =
    let same : a.first ∷ (a.front ++ a.other ∷ a.rest) ≡ b.first ∷ b.rest = one_parsed ed files _ _ a.parsed b.parses ∙ b.is in
    let heads : a.first ≡ b.first = cc in
    let tails : a.front ++ a.other ∷ a.rest ≡ b.rest = cc in
    let clause : b.clause ≡ a.clause = sym (one_clause a.first b.first a.clause b.clause heads a.package_is b.package_is) in
    let names : AllNamed a.clause.text (a.front ++ a.other ∷ a.rest) = subst (λ (n : Name). AllNamed n.text (a.front ++ a.other ∷ a.rest)) clause (subst (AllNamed b.clause.text) (sym tails) b.named) in
    named_so a.other.edition a.clause.text a.other.text (named_among a.clause.text a.front a.other a.rest names) a.differs

pub one_plan : (ed : Edition) (files : List Pair) (p q : Planned) → IsPlan ed files p → IsPlan ed files q → p ≡ q
one_plan ed files NoFiles NoFiles g h = refl
one_plan ed files NoFiles (Faulty f) g (inl h) = absurd (none_stops ed files f g h)
one_plan ed files NoFiles (Faulty f) g (inr h) = absurd (none_parsed ed files h.first (h.front ++ h.other ∷ h.rest) g h.parsed)
one_plan ed files NoFiles (Sound ps) g h = absurd (none_parsed ed files h.first h.rest g (subst (AreParsed ed files) h.is h.parses))
one_plan ed files (Faulty f) NoFiles (inl g) h = absurd (none_stops ed files f h g)
one_plan ed files (Faulty f) NoFiles (inr g) h = absurd (none_parsed ed files g.first (g.front ++ g.other ∷ g.rest) h g.parsed)
one_plan ed files (Faulty f) (Faulty e) (inl g) (inl h) = ap Faulty (stops_once ed files f e g h)
one_plan ed files (Faulty f) (Faulty e) (inl g) (inr h) = absurd (stops_or_parses ed files f (h.first ∷ (h.front ++ h.other ∷ h.rest)) g h.parsed)
one_plan ed files (Faulty f) (Faulty e) (inr g) (inl h) = absurd (stops_or_parses ed files e (g.first ∷ (g.front ++ g.other ∷ g.rest)) h g.parsed)
one_plan ed files (Faulty f) (Faulty e) (inr g) (inr h) = ap Faulty (differs_once ed files f e g h)
one_plan ed files (Faulty f) (Sound ps) (inl g) h = absurd (stops_or_parses ed files f ps g h.parses)
one_plan ed files (Faulty f) (Sound ps) (inr g) h = absurd (differs_or_sound ed files f ps g h)
one_plan ed files (Sound ps) NoFiles g h = absurd (none_parsed ed files g.first g.rest h (subst (AreParsed ed files) g.is g.parses))
one_plan ed files (Sound ps) (Faulty f) g (inl h) = absurd (stops_or_parses ed files f ps h g.parses)
one_plan ed files (Sound ps) (Faulty f) g (inr h) = absurd (differs_or_sound ed files f ps h g)
one_plan ed files (Sound ps) (Sound qs) g h = ap Sound (one_parsed ed files ps qs g.parses h.parses)

pub one_plan_of : (ed : Edition) (V W : List Write) (directory : List ℕ) (p q : Planned) → SameMembers V W → IsPlanOf ed V directory p → IsPlanOf ed W directory q → p ≡ q
one_plan_of ed V W directory p q same g h =
    let sources : g.0 ≡ h.0 = same_sources V W g.0 h.0 same g.1 h.1 in
    one_plan ed (package_files directory h.0) p q (subst (λ (s : List Pair). IsPlan ed (package_files directory s) p) sources g.2) h.2
