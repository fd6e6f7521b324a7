-- Where a symbol names a variable, its place is that of a variable with its path and its name.
use Rattle.std.proofs.Common.{◌≡◌, ℕ, zero, suc, ◌+◌, ◌≤◌, Bool, true, false, ◌&&◌, ◌||◌, List, [], ◌∷◌, ◌++◌, length, map, take, Some, None, refl, sym, ap, subst, ◌∙◌, arith, length-append, append_assoc}
use Rattle.std.specs.Prelude.{if◌then◌else◌, slice_get, nat_le}
use Rattle.std.specs.List.{flat_map, list_any}
use Rattle.std.specs.Str.{bytes_eq}
use Rattle.std.proofs.lemmas.Bool.{le-leb}
use Rattle.std.proofs.lemmas.List.{map-append}
use Rattle.std.proofs.lemmas.List.Concat.{flat_map-append}
use Rattle.std.proofs.lemmas.Slice.Eq.{bytes_eq-Decides}
use Rattle.std.proofs.Math.Seq.{take-append_seam, drop-append_seam}
use Rattle.go_code.specs.declared.cell.Cell.{Cell}
use Rattle.go_code.specs.Accesses.{cells_at}
use Rattle.go_code.specs.Packages.{Object, PackageVariable}
use Rattle.go_symbol.specs.Symbols.{Symbol, same_symbol}
use Rattle.go_code.specs.declared.instr.AccessInstr.{AccessInstr}
use Rattle.go_code.specs.declared.instr.Instr.TheVariants.{Global as On_globals}
use Rattle.go_code.specs.Referred.{reference_of}
use Rattle.go_link.specs.Links.{LinkedVariable, code_of, is_missing_symbol, name_missing, function_symbols, first_cell_of, object_symbol, variables, zero_cells}
use Rattle.go_link.specs.Found.{Placed}
use Rattle.go_link.proofs.Found.{any_at, any_in, not_false, not_missing}

-- ---- rows of cells

if_true : {A : Type 0} (b : Bool) (x y : A) → b ≡ true → (if b then x else y) ≡ x
if_true b x y e = ap (λ v. if v then x else y) e

row_at : (before row after : List Cell) → cells_at (before ++ (row ++ after)) (length before) (length row) ≡ Some row
row_at before row after =
    let all : List Cell = before ++ (row ++ after) in
    let within : length before + length row ≤ length all = omega (arith, length-append before (row ++ after), length-append row after) in
    if_true (nat_le (length before + length row) (length all)) _ None (le-leb _ _ within)
    ∙ ap (λ l. Some (take (length row) l)) (drop-append_seam before (row ++ after))
    ∙ ap Some (take-append_seam row after)

-- ---- variables with their packages

abbrev Entry : Type 0
Entry = Object × PackageVariable

abbrev entries : List Object → List Entry
entries packages = flat_map (λ o. map (λ v. (o, v)) o.variables) packages

abbrev held_by : Entry → LinkedVariable
held_by e = (object_symbol e.0 e.1.name, length e.1.zero)

abbrev zero_by : Entry → List Cell
zero_by e = e.1.zero

held_each : (o : Object) (vs : List PackageVariable) → map (λ (v : PackageVariable). (object_symbol o v.name, length v.zero)) vs ≡ map held_by (map (λ v. (o, v)) vs)
held_each o [] = refl
held_each o (v ∷ vs) = ap (λ l. held_by (o, v) ∷ l) (held_each o vs)

held_all : (packages : List Object) → variables packages ≡ map held_by (entries packages)
held_all [] = refl
held_all (o ∷ packages) =
    ap (λ l. l ++ variables packages) (held_each o o.variables)
    ∙ ap (λ l. map held_by (map (λ v. (o, v)) o.variables) ++ l) (held_all packages)
    ∙ sym (map-append held_by (map (λ v. (o, v)) o.variables) (entries packages))

zeros_each : (o : Object) (vs : List PackageVariable) → flat_map (λ (v : PackageVariable). v.zero) vs ≡ flat_map zero_by (map (λ v. (o, v)) vs)
zeros_each o [] = refl
zeros_each o (v ∷ vs) = ap (λ l. v.zero ++ l) (zeros_each o vs)

zeros_all : (packages : List Object) → flat_map zero_cells packages ≡ flat_map zero_by (entries packages)
zeros_all [] = refl
zeros_all (o ∷ packages) =
    ap (λ l. l ++ flat_map zero_cells packages) (zeros_each o o.variables)
    ∙ ap (λ l. flat_map zero_by (map (λ v. (o, v)) o.variables) ++ l) (zeros_all packages)
    ∙ sym (flat_map-append zero_by (map (λ v. (o, v)) o.variables) (entries packages))

-- ---- entries are declared

record Owned (packages : List Object) (e : Entry) : Type 0 where
  package_index : ℕ
  package_is : slice_get packages package_index ≡ Some e.0
  index : ℕ
  is : slice_get e.0.variables index ≡ Some e.1

later_owned : (o : Object) (packages : List Object) (e : Entry) → Owned packages e → Owned (o ∷ packages) e
later_owned o packages e h = record { package_index = suc h.package_index; package_is = h.package_is; index = h.index; is = h.is }

-- the entry at an index: one of the first package, the variables before which are past, or of those behind
owned_from : (o : Object) (packages : List Object) (past : ℕ) (vs : List PackageVariable) → ((k : ℕ) (v : PackageVariable) → slice_get vs k ≡ Some v → slice_get o.variables (past + k) ≡ Some v) → ((k : ℕ) (e : Entry) → slice_get (entries packages) k ≡ Some e → Owned packages e) → (k : ℕ) (e : Entry) → slice_get (map (λ v. (o, v)) vs ++ entries packages) k ≡ Some e → Owned (o ∷ packages) e
owned_from o packages past [] own later k e is = later_owned o packages e (later k e is)
owned_from o packages past (v ∷ vs) own later zero e is =
    let same : ◌≡◌ {A = Entry} (o, v) e = cc in
    subst (Owned (o ∷ packages)) same (record { package_index = 0; package_is = refl; index = past + 0; is = own 0 v refl })
owned_from o packages past (v ∷ vs) own later (suc k) e is =
    owned_from o packages (past + 1) vs (λ j u at. let next : past + suc j ≡ past + 1 + j = omega arith in ap (slice_get o.variables) (sym next) ∙ own (suc j) u at) later k e is

owned : (packages : List Object) (k : ℕ) (e : Entry) → slice_get (entries packages) k ≡ Some e → Owned packages e
owned [] k e is = cc
owned (o ∷ packages) k e is =
    owned_from o packages 0 o.variables (λ j v at. let none : 0 + j ≡ j = omega arith in ap (slice_get o.variables) none ∙ at) (owned packages) k e is

-- ---- the first entry of a symbol

record There (es : List Entry) (s : Symbol) : Type 0 where
  index : ℕ
  entry : Entry
  is : slice_get es index ≡ Some entry
  named : object_symbol entry.0 entry.1.name ≡ s
  before : List Cell
  after : List Cell
  cells : flat_map zero_by es ≡ before ++ (entry.1.zero ++ after)
  place : length before ≡ first_cell_of (map held_by es) s

both : (a b : Bool) → (a && b) ≡ true → (a ≡ true) × (b ≡ true)
both true true e = (refl, refl)
both true false e = cc
both false b e = cc

same_is : (s t : Symbol) → same_symbol s t ≡ true → t ≡ s
same_is s t e =
    let parts = both (bytes_eq s.path t.path) (bytes_eq s.name t.name) e in
    sym (ap (λ (p : List ℕ). record { path = p; name = s.name }) ((bytes_eq-Decides s.path t.path).0 parts.0)
    ∙ ap (λ (n : List ℕ). record { path = t.path; name = n }) ((bytes_eq-Decides s.name t.name).0 parts.1))

there_by : (e : Entry) (es : List Entry) (s : Symbol) (b : Bool) → same_symbol s (object_symbol e.0 e.1.name) ≡ b → (b || list_any (λ v. same_symbol s v.0) (map held_by es)) ≡ true → (list_any (λ v. same_symbol s v.0) (map held_by es) ≡ true → There es s) → There (e ∷ es) s
there_by e es s true is any later = record {
  index = 0;
  entry = e;
  is = refl;
  named = same_is s (object_symbol e.0 e.1.name) is;
  before = [];
  after = flat_map zero_by es;
  cells = refl;
  place = sym (ap (λ b. if b then 0 else length e.1.zero + first_cell_of (map held_by es) s) is);
}
there_by e es s false is any later =
    let rest = later any in
    record {
      index = suc rest.index;
      entry = rest.entry;
      is = rest.is;
      named = rest.named;
      before = e.1.zero ++ rest.before;
      after = rest.after;
      cells = ap (λ l. e.1.zero ++ l) rest.cells ∙ sym (append_assoc e.1.zero rest.before (rest.entry.1.zero ++ rest.after));
      place = length-append e.1.zero rest.before
          ∙ ap (λ n. length e.1.zero + n) rest.place
          ∙ sym (ap (λ b. if b then 0 else length e.1.zero + first_cell_of (map held_by es) s) is);
    }

there : (es : List Entry) (s : Symbol) → list_any (λ v. same_symbol s v.0) (map held_by es) ≡ true → There es s
there [] s any = cc
there (e ∷ es) s any = there_by e es s (same_symbol s (object_symbol e.0 e.1.name)) refl any (there es s)

-- a symbol of one of the variables
pub placed_by : (packages : List Object) (s : Symbol) → list_any (λ v. same_symbol s v.0) (variables packages) ≡ true → Placed packages s
placed_by packages s any =
    let t = there (entries packages) s (ap (list_any (λ v. same_symbol s v.0)) (sym (held_all packages)) ∙ any) in
    let o = owned packages t.index t.entry t.is in
    record {
      object = t.entry.0;
      variable = t.entry.1;
      package_index = o.package_index;
      package_is = o.package_is;
      index = o.index;
      is = o.is;
      named = t.named;
      there = ap (λ n. cells_at (flat_map zero_cells packages) n (length t.entry.1.zero)) (ap (λ l. first_cell_of l s) (held_all packages) ∙ sym t.place)
          ∙ ap (λ l. cells_at l (length t.before) (length t.entry.1.zero)) (zeros_all packages ∙ t.cells)
          ∙ row_at t.before t.entry.1.zero t.after;
    }

-- each variable that an instruction of a linked package reads or changes has a place
pub accessed_placed : (packages : List Object) (i j : ℕ) (o : Object) (a : AccessInstr Symbol) → name_missing packages ≡ false → slice_get packages i ≡ Some o → slice_get (code_of o) j ≡ Some (On_globals a) → Placed packages (reference_of a)
accessed_placed packages i j o a whole at is =
    let missing : is_missing_symbol (function_symbols packages) (variables packages) (On_globals a) ≡ false =
    not_missing (name_missing packages) (is_missing_symbol (function_symbols packages) (variables packages) (On_globals a)) whole
    (λ h. any_in (is_missing_symbol (function_symbols packages) (variables packages)) code_of packages i o at (any_at (is_missing_symbol (function_symbols packages) (variables packages)) (code_of o) j (On_globals a) is h)) in
    placed_by packages (reference_of a) (not_false (list_any (λ v. same_symbol (reference_of a) v.0) (variables packages)) missing)
