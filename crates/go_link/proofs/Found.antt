-- Where a symbol names a function, its number is that of a function with its path and its name.
use Rattle.std.proofs.Common.{◌≡◌, ℕ, zero, suc, ◌+◌, Bool, true, false, cond, ◌&&◌, ◌||◌, not, List, [], ◌∷◌, ◌++◌, map, ◌⊎◌, Option, Some, None, refl, sym, ap, subst, ◌∙◌, inl, inr, arith}
use Rattle.std.specs.Prelude.{◌-◌, codes, if◌then◌else◌, length, slice_get}
use Rattle.std.specs.List.{flat_map, list_any, position_or_len}
use Rattle.std.specs.Option.{option_map}
use Rattle.std.specs.Str.{bytes_eq}
use Rattle.std.proofs.lemmas.Option.{slice_get-map}
use Rattle.std.proofs.lemmas.List.{map-append}
use Rattle.std.proofs.lemmas.List.Folds.{list_any-append}
use Rattle.std.proofs.lemmas.Slice.Eq.{bytes_eq-Decides}
use Rattle.go_code.specs.Packages.{Object, PackageFunction}
use Rattle.go_symbol.specs.Symbols.{Symbol, same_symbol}
use Rattle.go_code.specs.declared.instr.Instr.TheVariants.{Calls as By_call}
use Rattle.go_code.specs.declared.instr.CallInstr.TheVariants.{Call}
use Rattle.go_link.specs.declared.link.LinkError.TheVariants.{NoMain, NameMissing, EditionsDiffer}
use Rattle.go_link.specs.Links.{code_of, editions_differ, has_main, has_main_in, is_missing_symbol, last_object, link_refusal, name_missing, linked_function, variables, function_symbols, function_number, object_symbol}
use Rattle.go_link.specs.Found.{IsDeclared, Found}

-- ---- indexes

record First (p : Symbol → Bool) (xs : List Symbol) : Type 0 where
  item : Symbol
  there : slice_get xs (position_or_len p xs) ≡ Some item
  passes : p item ≡ true

first_by : (p : Symbol → Bool) (x : Symbol) (xs : List Symbol) (b : Bool) → p x ≡ b → (b || list_any p xs) ≡ true → (list_any p xs ≡ true → First p xs) → First p (x ∷ xs)
first_by p x xs true is any later = record { item = x; there = ap (λ t. slice_get (x ∷ xs) (cond (not t) (1 + position_or_len p xs) 0)) is; passes = is }
first_by p x xs false is any later =
    let rest = later any in
    let next : 1 + position_or_len p xs ≡ suc (position_or_len p xs) = omega arith in
    record {
      item = rest.item;
      there = ap (λ t. slice_get (x ∷ xs) (cond (not t) (1 + position_or_len p xs) 0)) is ∙ ap (slice_get (x ∷ xs)) next ∙ rest.there;
      passes = rest.passes;
    }

first_at : (p : Symbol → Bool) (xs : List Symbol) → list_any p xs ≡ true → First p xs
first_at p [] any = cc
first_at p (x ∷ xs) any = first_by p x xs (p x) refl any (first_at p xs)

same_itself : (s : Symbol) → same_symbol s s ≡ true
same_itself s = ap (λ b. b && bytes_eq s.name s.name) ((bytes_eq-Decides s.path s.path).1 refl) ∙ (bytes_eq-Decides s.name s.name).1 refl

-- ---- functions with their packages

abbrev entries : List Object → List (Object × PackageFunction)
entries packages = flat_map (λ o. map (λ f. (o, f)) o.functions) packages

abbrev symbol_in : Object × PackageFunction → Symbol
symbol_in e = object_symbol e.0 e.1.name

map_pairs : {Y : Type 0} (g : Object × PackageFunction → Y) (o : Object) (fs : List PackageFunction) → map g (map (λ f. (o, f)) fs) ≡ map (λ f. g (o, f)) fs
map_pairs g o [] = refl
map_pairs g o (f ∷ fs) = ap (λ l. g (o, f) ∷ l) (map_pairs g o fs)

map_entries : {Y : Type 0} (g : Object × PackageFunction → Y) (packages : List Object) → map g (entries packages) ≡ flat_map (λ o. map (λ f. g (o, f)) o.functions) packages
map_entries g [] = refl
map_entries g (o ∷ packages) =
    map-append g (map (λ f. (o, f)) o.functions) (entries packages)
    ∙ ap (λ l. l ++ map g (entries packages)) (map_pairs g o o.functions)
    ∙ ap (λ l. map (λ f. g (o, f)) o.functions ++ l) (map_entries g packages)

-- ---- entries are declared

record Front (o : Object) (fs : List PackageFunction) (rest : List (Object × PackageFunction)) (k : ℕ) (e : Object × PackageFunction) : Type 0 where
  index : ℕ
  own : e.0 ≡ o
  is : slice_get fs index ≡ Some e.1

record Behind (rest : List (Object × PackageFunction)) (e : Object × PackageFunction) : Type 0 where
  index : ℕ
  is : slice_get rest index ≡ Some e

front_or_behind : (o : Object) (fs : List PackageFunction) (rest : List (Object × PackageFunction)) (k : ℕ) (e : Object × PackageFunction) → slice_get (map (λ f. (o, f)) fs ++ rest) k ≡ Some e → (Front o fs rest k e) ⊎ (Behind rest e)
front_or_behind o [] rest k e is = inr (record { index = k; is = is })
front_or_behind o (f ∷ fs) rest zero e is = let same : ◌≡◌ {A = Object × PackageFunction} (o, f) e = cc in inl (record { index = 0; own = sym (ap (λ (x : Object × PackageFunction). x.0) same); is = ap (λ (x : Object × PackageFunction). Some x.1) same })
front_or_behind o (f ∷ fs) rest (suc k) e is = elim (front_or_behind o fs rest k e is) [
  | inl h ↦ inl (record { index = suc h.index; own = h.own; is = h.is })
  | inr h ↦ inr h
]

later_package : (o : Object) (packages : List Object) (e : Object × PackageFunction) → IsDeclared packages e.0 e.1 → IsDeclared (o ∷ packages) e.0 e.1
later_package o packages e h = record { package_index = suc h.package_index; package_is = h.package_is; index = h.index; is = h.is }

entry_declared : (packages : List Object) (k : ℕ) (e : Object × PackageFunction) → slice_get (entries packages) k ≡ Some e → IsDeclared packages e.0 e.1
entry_declared [] k e is = cc
entry_declared (o ∷ packages) k e is = elim (front_or_behind o o.functions (entries packages) k e is) [
  | inl h ↦ record { package_index = 0; package_is = ap Some (sym h.own); index = h.index; is = ap (λ x. slice_get x.functions h.index) h.own ∙ h.is }
  | inr h ↦ later_package o packages e (entry_declared packages h.index e h.is)
]

same_is : (s t : Symbol) (a b : Bool) → bytes_eq s.path t.path ≡ a → bytes_eq s.name t.name ≡ b → (a && b) ≡ true → t ≡ s
same_is s t true true a b e =
    let path = (bytes_eq-Decides s.path t.path).0 a in
    let name = (bytes_eq-Decides s.name t.name).0 b in
    sym (ap (λ (p : List ℕ). record { path = p; name = s.name }) path ∙ ap (λ (n : List ℕ). record { path = t.path; name = n }) name)
same_is s t true false a b e = cc
same_is s t false b' a b e = cc

found_with : (packages : List Object) (s item : Symbol) (o : Option (Object × PackageFunction)) → slice_get (entries packages) (function_number (function_symbols packages) s) ≡ o → option_map symbol_in o ≡ Some item → item ≡ s → Found packages s
found_with packages s item None is e same = cc
found_with packages s item (Some entry) is e same =
    let named : symbol_in entry ≡ item = cc in
    record {
      object = entry.0;
      function = entry.1;
      declared = entry_declared packages (function_number (function_symbols packages) s) entry is;
      named = named ∙ same;
      there = ap (λ l. slice_get l (function_number (function_symbols packages) s)) (sym (map_entries (λ e. linked_function (function_symbols packages) (variables packages) e.1) packages))
          ∙ slice_get-map (λ e. linked_function (function_symbols packages) (variables packages) e.1) (entries packages) (function_number (function_symbols packages) s)
          ∙ ap (option_map (λ e. linked_function (function_symbols packages) (variables packages) e.1)) is;
    }

-- where a symbol names a function, its number is that of a function with its path and its name
pub found_by : (packages : List Object) (s : Symbol) → list_any (same_symbol s) (function_symbols packages) ≡ true → Found packages s
found_by packages s any =
    let first = first_at (same_symbol s) (function_symbols packages) any in
    let k : ℕ = function_number (function_symbols packages) s in
    let there : option_map symbol_in (slice_get (entries packages) k) ≡ Some first.item =
    sym (slice_get-map symbol_in (entries packages) k) ∙ ap (λ l. slice_get l k) (map_entries symbol_in packages) ∙ first.there in
    found_with packages s first.item (slice_get (entries packages) k) refl there
    (same_is s first.item (bytes_eq s.path first.item.path) (bytes_eq s.name first.item.name) refl refl first.passes)

-- ---- what may be called

or_right : (a b : Bool) → b ≡ true → (a || b) ≡ true
or_right true b e = refl
or_right false b e = e

or_left : (a b : Bool) → a ≡ true → (a || b) ≡ true
or_left a b e = ap (λ c. c || b) e

pub any_at : {X : Type 0} (p : X → Bool) (xs : List X) (k : ℕ) (x : X) → slice_get xs k ≡ Some x → p x ≡ true → list_any p xs ≡ true
any_at p [] k x is passes = cc
any_at p (y ∷ ys) zero x is passes = let same : y ≡ x = cc in ap (λ b. b || list_any p ys) (ap p same ∙ passes)
any_at p (y ∷ ys) (suc k) x is passes = or_right (p y) (list_any p ys) (any_at p ys k x is passes)

pub any_in : {X A : Type 0} (p : A → Bool) (f : X → List A) (xs : List X) (k : ℕ) (x : X) → slice_get xs k ≡ Some x → list_any p (f x) ≡ true → list_any p (flat_map f xs) ≡ true
any_in p f [] k x is passes = cc
any_in p f (y ∷ ys) zero x is passes =
    let same : y ≡ x = cc in
    list_any-append p (f y) (flat_map f ys) ∙ or_left (list_any p (f y)) (list_any p (flat_map f ys)) (ap (λ z. list_any p (f z)) same ∙ passes)
any_in p f (y ∷ ys) (suc k) x is passes =
    list_any-append p (f y) (flat_map f ys) ∙ or_right (list_any p (f y)) (list_any p (flat_map f ys)) (any_in p f ys k x is passes)

-- each function of a package has a number
pub declared_found : (packages : List Object) (o : Object) (f : PackageFunction) → IsDeclared packages o f → Found packages (object_symbol o f.name)
declared_found packages o f d =
    found_by packages (object_symbol o f.name)
    (any_in (same_symbol (object_symbol o f.name)) (λ o. map (λ f. object_symbol o f.name) o.functions) packages d.package_index o d.package_is
    (any_at (same_symbol (object_symbol o f.name)) (map (λ f. object_symbol o f.name) o.functions) d.index (object_symbol o f.name)
    (slice_get-map (λ f. object_symbol o f.name) o.functions d.index ∙ ap (option_map (λ f. object_symbol o f.name)) d.is) (same_itself (object_symbol o f.name))))

pub not_missing : (b c : Bool) → b ≡ false → (c ≡ true → b ≡ true) → c ≡ false
not_missing b true e h = cc (h refl)
not_missing b false e h = refl

pub not_false : (b : Bool) → not b ≡ false → b ≡ true
not_false true e = refl
not_false false e = cc

-- each function that an instruction of a linked package calls has a number
pub called_found : (packages : List Object) (i j : ℕ) (o : Object) (s : Symbol) → name_missing packages ≡ false → slice_get packages i ≡ Some o → slice_get (code_of o) j ≡ Some (By_call (Call s)) → Found packages s
called_found packages i j o s whole at is =
    let missing : is_missing_symbol (function_symbols packages) (variables packages) (By_call (Call s)) ≡ false =
    not_missing (name_missing packages) (is_missing_symbol (function_symbols packages) (variables packages) (By_call (Call s))) whole
    (λ h. any_in (is_missing_symbol (function_symbols packages) (variables packages)) code_of packages i o at (any_at (is_missing_symbol (function_symbols packages) (variables packages)) (code_of o) j (By_call (Call s)) is h)) in
    found_by packages s (not_false (list_any (same_symbol s) (function_symbols packages)) missing)

-- ---- main

record There {X : Type 0} (p : X → Bool) (xs : List X) : Type 0 where
  index : ℕ
  item : X
  is : slice_get xs index ≡ Some item
  passes : p item ≡ true

there_if : {X : Type 0} (p : X → Bool) (x : X) (xs : List X) (b : Bool) → p x ≡ b → (b || list_any p xs) ≡ true → (list_any p xs ≡ true → There p xs) → There p (x ∷ xs)
there_if p x xs true e any later = record { index = 0; item = x; is = refl; passes = e }
there_if p x xs false e any later = let h = later any in record { index = suc h.index; item = h.item; is = h.is; passes = h.passes }

any_there : {X : Type 0} (p : X → Bool) (xs : List X) → list_any p xs ≡ true → There p xs
any_there p [] any = cc
any_there p (x ∷ xs) any = there_if p x xs (p x) refl any (any_there p xs)

and_right : (a b : Bool) → (a && b) ≡ true → b ≡ true
and_right true b e = e
and_right false b e = cc

-- what is not refused has a main, misses no name, and is of one edition
allowed_if : (a b c : Bool) → (if not a then Some NoMain else (if b then Some NameMissing else (if c then Some EditionsDiffer else None))) ≡ None → (a ≡ true) × (b ≡ false) × (c ≡ false)
allowed_if true true c e = cc
allowed_if true false true e = cc
allowed_if true false false e = (refl, refl, refl)
allowed_if false b c e = cc

pub allowed : (packages : List Object) → link_refusal packages ≡ None → (has_main packages ≡ true) × (name_missing packages ≡ false) × (editions_differ packages ≡ false)
allowed packages e = allowed_if (has_main packages) (name_missing packages) (editions_differ packages) e

pub main_found : (packages : List Object) (o : Object) → has_main packages ≡ true → last_object packages ≡ Some o → Found packages (object_symbol o (codes "main"))
main_found packages o main last =
    let parts : has_main_in (Some o) ≡ true = ap has_main_in (sym last) ∙ main in
    let h = any_there (λ f. bytes_eq f.name (codes "main")) o.functions (and_right (bytes_eq o.name (codes "main")) (list_any (λ f. bytes_eq f.name (codes "main")) o.functions) parts) in
    let named : h.item.name ≡ codes "main" = (bytes_eq-Decides h.item.name (codes "main")).0 h.passes in
    let declared : IsDeclared packages o h.item = record { package_index = length packages - 1; package_is = last; index = h.index; is = h.is } in
    subst (λ n. Found packages (object_symbol o n)) named (declared_found packages o h.item declared)
