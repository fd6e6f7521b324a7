-- Names that files of texts declare stand apart.
use Rattle.std.proofs.Common.{◌≡◌, ℕ, suc, ◌≤◌, ◌<◌, ◌⊎◌, inl, inr, Bool, true, false, ◌&&◌, List, [], ◌∷◌, ◌++◌, append_assoc, append-nil, length, map, codes, Option, Some, None, refl, sym, ap, ◌∙◌, subst, arith}
use Rattle.std.specs.Prelude.{nat_eq, bytes_eq, option_map, unwrap_or}
use Rattle.std.specs.List.{flat_map, list_any}
use Rattle.std.proofs.lemmas.Bool.{cases_Bool, eqb-true}
use Rattle.go_text.specs.declared.place.Place.{Place}
use Rattle.go_text.specs.Places.{place_at, mark_size}
use Rattle.go_ast.specs.Trees.{Name, TypeExpr, Expression, ExpressionList, no_exprs, some_exprs, ConstSpec, VarSpec, TypeSpec, constants, variables, types, TopLevel, declared, function, File}
use Rattle.go_text.specs.declared.edition.Edition.{Edition}
use Rattle.go_ast.specs.Parse.{IsParse, Derived}
use Rattle.go_ast.specs.Tokens.{lexemes}
use Rattle.go_scope.specs.Specifications.{meant}
use Rattle.go_objects.specs.Objects.{Form, constant, valued_variable, DeclaredObject, paired, begin_of, other_object, unpaired, constants_of, in_group, typed_object, result_objects, uncounted, variables_of, type_object, objects_in, objects_from}
use Rattle.go_package.specs.Faults.{is_declared_by}
use Rattle.go_package_laws.specs.Whole.{AreParsed}
use Rattle.go_package_laws.proofs.Completeness.Places.{places_differ, lexes_rise}
use Rattle.go_package_laws.proofs.Completeness.Spreads.{top_names, Placed, file_placed}

-- no name stands at the place of one before it in its file
abbrev pub AreApart : List DeclaredObject → List DeclaredObject → Type 0
AreApart before [] = Unit {0}
AreApart before (o ∷ os) = (list_any (λ b. is_declared_by o.file o.name (Some b)) before ≡ false) × AreApart (before ++ o ∷ []) os

-- ---- objects of names

-- objects of a file that have some of these names, in their order
abbrev Sub : ℕ → List Name → List DeclaredObject → Type 0
Sub file ns [] = Unit {0}
Sub file [] (o ∷ os) = ⊥
Sub file (n ∷ ns) (o ∷ os) = ((o.file ≡ file) × (o.name ≡ n) × Sub file ns os) ⊎ Sub file ns (o ∷ os)

skip : (file : ℕ) (n : Name) (ns : List Name) (os : List DeclaredObject) → Sub file ns os → Sub file (n ∷ ns) os
skip file n ns [] h = tt
skip file n ns (o ∷ os) h = inr h

skip_all : (file : ℕ) (ns ms : List Name) (os : List DeclaredObject) → Sub file ms os → Sub file (ns ++ ms) os
skip_all file [] ms os h = h
skip_all file (n ∷ ns) ms os h = skip file n (ns ++ ms) os (skip_all file ns ms os h)

sub_both : (file : ℕ) (ns ms : List Name) (os ps : List DeclaredObject) → Sub file ns os → Sub file ms ps → Sub file (ns ++ ms) (os ++ ps)
sub_both file ns ms [] ps h k = skip_all file ns ms ps k
sub_both file [] ms (o ∷ os) ps h k = absurd h
sub_both file (n ∷ ns) ms (o ∷ os) ps (inl h) k = inl (h.0, h.1, sub_both file ns ms os ps h.2 k)
sub_both file (n ∷ ns) ms (o ∷ os) ps (inr h) k = inr (sub_both file ns ms (o ∷ os) ps h k)

sub_others : (file : ℕ) (all : List Name) (of : Option TypeExpr) (es : ExpressionList) (ns : List Name) → Sub file ns (map (other_object file all of es) ns)
sub_others file all of es [] = tt
sub_others file all of es (n ∷ ns) = inl (refl, refl, sub_others file all of es ns)

sub_unpaired : (file : ℕ) (of : Option TypeExpr) (es : ExpressionList) (ns : List Name) → Sub file ns (unpaired file of es ns)
sub_unpaired file of es ns = sub_others file ns of es ns

abbrev made : ℕ → List Name → (Expression → Form) → Name → Expression → DeclaredObject
made file all form n e = record { file = file; begins = begin_of all n; name = n; form = form e }

sub_paired : (file : ℕ) (all : List Name) (form : Expression → Form) (ns : List Name) (es : ExpressionList) (os : List DeclaredObject) → paired (made file all form) ns es ≡ Some os → Sub file ns os
sub_paired file all form [] no_exprs os is = (let same : [] ≡ os = cc in subst (Sub file []) same tt)
sub_paired file all form [] (some_exprs e es) os is = absurd cc
sub_paired file all form (n ∷ ns) no_exprs os is = absurd cc
sub_paired file all form (n ∷ ns) (some_exprs e es) os is =
    elim (paired (made file all form) ns es) as (λ r. paired (made file all form) ns es ≡ r → option_map (λ xs. made file all form n e ∷ xs) r ≡ Some os → Sub file (n ∷ ns) os) [
      | None ↦ λ at k. absurd cc
      | Some rest ↦ λ at k. (
          let same : made file all form n e ∷ rest ≡ os = cc in
          subst (Sub file (n ∷ ns)) same (inl (refl, refl, sub_paired file all form ns es rest at)))
    ] refl is

either : (file : ℕ) (ns : List Name) (o : Option (List DeclaredObject)) (os : List DeclaredObject) → ((xs : List DeclaredObject) → o ≡ Some xs → Sub file ns xs) → Sub file ns os → Sub file ns (unwrap_or o os)
either file ns None os f g = g
either file ns (Some xs) os f g = f xs refl

sub_constants : (file iota : ℕ) (s : ConstSpec) → Sub file s.names (constants_of file iota s)
sub_constants file iota s =
    either file s.names (paired (made file s.names (λ e. constant s.type e iota)) s.names s.values) (unpaired file s.type s.values s.names)
    (λ xs is. sub_paired file s.names (λ e. constant s.type e iota) s.names s.values xs is) (sub_unpaired file s.type s.values s.names)

meant_names : (before : ConstSpec) (ns : List Name) (of : Option TypeExpr) (es : ExpressionList) → (meant before (record { names = ns; type = of; values = es })).names ≡ ns
meant_names before ns of no_exprs = refl
meant_names before ns of (some_exprs e es) = refl

sub_group : (file iota : ℕ) (before : ConstSpec) (ss : List ConstSpec) → Sub file (flat_map (λ (s : ConstSpec). s.names) ss) (in_group file iota before ss)
sub_group file iota before [] = tt
sub_group file iota before (s ∷ ss) =
    let m = meant before s in
    sub_both file s.names (flat_map (λ (s : ConstSpec). s.names) ss) (constants_of file iota m) (in_group file (suc iota) m ss)
    (subst (λ ns. Sub file ns (constants_of file iota m)) (meant_names before s.names s.type s.values) (sub_constants file iota m)) (sub_group file (suc iota) m ss)

sub_typed : (file : ℕ) (all : List Name) (of : TypeExpr) (ns : List Name) → Sub file ns (map (typed_object file all of) ns)
sub_typed file all of [] = tt
sub_typed file all of (n ∷ ns) = inl (refl, refl, sub_typed file all of ns)

sub_results : (file : ℕ) (all : List Name) (number : ℕ) (e : Expression) (ns : List Name) → Sub file ns (result_objects file all number e ns)
sub_results file all number e [] = tt
sub_results file all number e (n ∷ ns) = inl (refl, refl, sub_results file all (suc number) e ns)

sub_uncounted : (file : ℕ) (ns : List Name) (es : ExpressionList) → Sub file ns (uncounted file ns es)
sub_uncounted file ns no_exprs = sub_unpaired file None no_exprs ns
sub_uncounted file ns (some_exprs e no_exprs) = sub_results file ns 0 e ns
sub_uncounted file ns (some_exprs e (some_exprs f es)) = sub_unpaired file None (some_exprs e (some_exprs f es)) ns

sub_variables : (file : ℕ) (ns : List Name) (of : Option TypeExpr) (es : ExpressionList) → Sub file ns (variables_of file (record { names = ns; type = of; values = es }))
sub_variables file ns None es =
    either file ns (paired (made file ns valued_variable) ns es) (uncounted file ns es) (λ xs is. sub_paired file ns valued_variable ns es xs is) (sub_uncounted file ns es)
sub_variables file ns (Some of) es = sub_typed file ns of ns

sub_specs : (file : ℕ) (ss : List VarSpec) → Sub file (flat_map (λ (s : VarSpec). s.names) ss) (flat_map (variables_of file) ss)
sub_specs file [] = tt
sub_specs file (s ∷ ss) = sub_both file s.names (flat_map (λ (s : VarSpec). s.names) ss) (variables_of file s) (flat_map (variables_of file) ss) (sub_variables file s.names s.type s.values) (sub_specs file ss)

sub_types : (file : ℕ) (ss : List TypeSpec) → Sub file (flat_map (λ (s : TypeSpec). s.name ∷ []) ss) (map (type_object file) ss)
sub_types file [] = tt
sub_types file (s ∷ ss) = inl (refl, refl, sub_types file ss)

sub_top : (file : ℕ) (top : TopLevel) → Sub file (top_names top) (objects_in file top)
sub_top file (declared (constants p ss)) = sub_group file 0 (record { names = []; type = None; values = no_exprs }) ss
sub_top file (declared (variables p ss)) = sub_specs file ss
sub_top file (declared (types p ss)) = sub_types file ss
sub_top file (function f) = elim (cases_Bool (bytes_eq f.name.text (codes "init"))) [ inl init ↦ rw init tt | inr named ↦ rw named (inl (refl, refl, tt)) ]

sub_tops : (file : ℕ) (tops : List TopLevel) → Sub file (flat_map top_names tops) (flat_map (objects_in file) tops)
sub_tops file [] = tt
sub_tops file (top ∷ tops) = sub_both file (top_names top) (flat_map top_names tops) (objects_in file top) (flat_map (objects_in file) tops) (sub_top file top) (sub_tops file tops)

-- ---- places

-- objects of a file stand at bytes of its text, each behind those before it
abbrev Stand : List ℕ → ℕ → ℕ → List DeclaredObject → Type 0
Stand text file at [] = Unit {0}
Stand text file at (o ∷ os) = (o.file ≡ file) × (k : ℕ) × (at ≤ k) × (k < length text) × (o.name.place ≡ place_at text k) × Stand text file (suc k) os

stand_from : (text : List ℕ) (file a b : ℕ) (os : List DeclaredObject) → a ≤ b → Stand text file b os → Stand text file a os
stand_from text file a b [] le h = tt
stand_from text file a b (o ∷ os) le (same, k, l, within, place, rest) = (same, k, omega (arith, le, l), within, place, rest)

sub_stand : (text : List ℕ) (file at : ℕ) (ns : List Name) (os : List DeclaredObject) → Sub file ns os → Placed text at ns → Stand text file at os
sub_stand text file at ns [] h p = tt
sub_stand text file at [] (o ∷ os) h p = absurd h
sub_stand text file at (n ∷ ns) (o ∷ os) (inl h) (k, le, within, place, rest) = (h.0, k, le, within, ap (λ (m : Name). m.place) h.1 ∙ place, sub_stand text file (suc k) ns os h.2 rest)
sub_stand text file at (n ∷ ns) (o ∷ os) (inr h) (k, le, within, place, rest) = stand_from text file at (suc k) (o ∷ os) (omega (arith, le)) (sub_stand text file (suc k) ns (o ∷ os) h rest)

-- an object of an earlier file, or of this one at an earlier byte
abbrev Before : List ℕ → ℕ → ℕ → DeclaredObject → Type 0
Before text file at b = (b.file < file) ⊎ ((b.file ≡ file) × (j : ℕ) × (mark_size text ≤ j) × (j < at) × (b.name.place ≡ place_at text j))

abbrev AllOf : (DeclaredObject → Type 0) → List DeclaredObject → Type 0
AllOf P [] = Unit {0}
AllOf P (o ∷ os) = P o × AllOf P os

all_mapped : (P Q : DeclaredObject → Type 0) → ((o : DeclaredObject) → P o → Q o) → (os : List DeclaredObject) → AllOf P os → AllOf Q os
all_mapped P Q f [] h = tt
all_mapped P Q f (o ∷ os) h = (f o h.0, all_mapped P Q f os h.1)

all_more : (P : DeclaredObject → Type 0) (os : List DeclaredObject) (o : DeclaredObject) → AllOf P os → P o → AllOf P (os ++ o ∷ [])
all_more P [] o h k = (k, tt)
all_more P (p ∷ os) o h k = (h.0, all_more P os o h.1 k)

both_true : (a b : Bool) → (a && b) ≡ true → (a ≡ true) × (b ≡ true)
both_true true b h = (refl, h)
both_true false b h = absurd cc

same_place : (p q : Place) → p.line ≡ q.line → p.column ≡ q.column → p ≡ q
same_place p q l c = ap (λ (x : ℕ). record { line = x; column = p.column }) l ∙ ap (λ (x : ℕ). record { line = q.line; column = x }) c

not_declared : (text : List ℕ) (file k : ℕ) (o b : DeclaredObject) → o.file ≡ file → k < length text → o.name.place ≡ place_at text k → Before text file k b → is_declared_by o.file o.name (Some b) ≡ false
not_declared text file k o b same within place before = elim (cases_Bool (is_declared_by o.file o.name (Some b))) [
  | inr not_so ↦ not_so
  | inl is ↦ absurd (
      let ends = both_true (nat_eq o.file b.file) (nat_eq o.name.place.line b.name.place.line && nat_eq o.name.place.column b.name.place.column) is in
      let places = both_true (nat_eq o.name.place.line b.name.place.line) (nat_eq o.name.place.column b.name.place.column) ends.1 in
      let files : o.file ≡ b.file = eqb-true o.file b.file ends.0 in
      let alike : o.name.place ≡ b.name.place = same_place o.name.place b.name.place (eqb-true o.name.place.line b.name.place.line places.0) (eqb-true o.name.place.column b.name.place.column places.1) in
      elim before [
        | inl lt ↦ omega (arith, files, same, lt)
        | inr h ↦ places_differ text h.1 k h.2 h.3 within (sym h.4 ∙ sym alike ∙ place)
      ])
]

none_declared : (text : List ℕ) (file k : ℕ) (o : DeclaredObject) (before : List DeclaredObject) → o.file ≡ file → k < length text → o.name.place ≡ place_at text k → AllOf (Before text file k) before
    → list_any (λ b. is_declared_by o.file o.name (Some b)) before ≡ false
none_declared text file k o [] same within place h = refl
none_declared text file k o (b ∷ bs) same within place h = (let one = not_declared text file k o b same within place h.0 in rw one (none_declared text file k o bs same within place h.1))

further : (text : List ℕ) (file a b : ℕ) → a ≤ b → (o : DeclaredObject) → Before text file a o → Before text file b o
further text file a b le o (inl lt) = inl lt
further text file a b le o (inr (same, j, above, below, place)) = inr (same, j, above, omega (arith, le, below), place)

record FileApart (text : List ℕ) (file : ℕ) (before os : List DeclaredObject) : Type 0 where
  apart : AreApart before os
  last : ℕ
  all : AllOf (Before text file last) (before ++ os)

apart_file : (text : List ℕ) (file at : ℕ) → mark_size text ≤ at → (before os : List DeclaredObject) → AllOf (Before text file at) before → Stand text file at os → FileApart text file before os
apart_file text file at above before [] h s = record { apart = tt; last = at; all = subst (AllOf (Before text file at)) (sym (append-nil before)) h }
apart_file text file at above before (o ∷ os) h (same, k, le, within, place, rest) =
    let here = all_mapped (Before text file at) (Before text file k) (further text file at k le) before h in
    let later = all_mapped (Before text file k) (Before text file (suc k)) (further text file k (suc k) (omega arith)) before here in
    let own : Before text file (suc k) o = inr (same, k, omega (arith, above, le), omega arith, place) in
    let others = apart_file text file (suc k) (omega (arith, above, le)) (before ++ o ∷ []) os (all_more (Before text file (suc k)) before o later own) rest in
    record {
      apart = (none_declared text file k o before same within place here, others.apart);
      last = others.last;
      all = subst (AllOf (Before text file others.last)) (append_assoc before (o ∷ []) os) others.all;
    }

apart_both : (before os ps : List DeclaredObject) → AreApart before os → AreApart (before ++ os) ps → AreApart before (os ++ ps)
apart_both before [] ps h k = subst (λ l. AreApart l ps) (append-nil before) k
apart_both before (o ∷ os) ps h k = (h.0, apart_both (before ++ o ∷ []) os ps h.1 (subst (λ l. AreApart l ps) (sym (append_assoc before (o ∷ []) os)) k))

earlier : (text : List ℕ) (file b : ℕ) (next : List ℕ) (at : ℕ) (o : DeclaredObject) → Before text file b o → Before next (suc file) at o
earlier text file b next at o (inl lt) = inl (omega (arith, lt))
earlier text file b next at o (inr h) = inl (let same = h.0 in omega (arith, same))

parsed_placed : (edition : Edition) (text : List ℕ) (f : File) → IsParse edition text (Derived f) → Placed text (mark_size text) (flat_map top_names f.declarations)
unfolding IsParse
parsed_placed edition text f (ts, lexes, derives) = file_placed edition text (mark_size text) f (lexemes text ts) derives.derived (lexes_rise text ts lexes)

files_apart : (edition : Edition) (number : ℕ) (files : List File) (before : List DeclaredObject) → AreParsed edition files → ((text : List ℕ) (at : ℕ) → AllOf (Before text number at) before) → AreApart before (objects_from number files)
files_apart edition number [] before h earlier_ones = tt
files_apart edition number (f ∷ fs) before h earlier_ones =
    let text = (h.0).0 in
    let own = flat_map (objects_in number) f.declarations in
    let stand = sub_stand text number (mark_size text) (flat_map top_names f.declarations) own (sub_tops number f.declarations) (parsed_placed edition text f (h.0).1) in
    let one = apart_file text number (mark_size text) (omega arith) before own (earlier_ones text (mark_size text)) stand in
    apart_both before own (objects_from (suc number) fs) one.apart
    (files_apart edition (suc number) fs (before ++ own) h.1 (λ next at. all_mapped (Before text number one.last) (Before next (suc number) at) (earlier text number one.last next at) (before ++ own) one.all))

pub parsed_apart : (edition : Edition) (files : List File) → AreParsed edition files → AreApart [] (objects_from 0 files)
parsed_apart edition files h = files_apart edition 0 files [] h (λ text at. tt)
