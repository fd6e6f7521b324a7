-- Names, and their numbers and places.
use Rattle.std.specs.Prelude.{◌≡◌, ℕ, ◌+◌, List, [], ◌∷◌, Option, Some, None, if◌then◌else◌}
use Rattle.std.specs.Borrow.{Bor}
use Rattle.std.specs.BTreeMap as tree
use Rattle.std.specs.Cmp.Lexicographic.{slice_cmp}
use Rattle.std.specs.List.{list_any, position}
use Rattle.std.specs.Ordering.{nat_cmp, ordering_then}
use Rattle.std.specs.declared.cmp.Ordering.{Ordering}
use Rattle.go_symbol.specs.Symbols.{Symbol, same_symbol}
use Rattle.go_link.specs.Links.{LinkedVariable, first_cell_of}

-- a path and a name, each behind a reference
abbrev pub SymbolParts : Type 0
SymbolParts = Bor (List ℕ) × Bor (List ℕ)

abbrev pub symbol_at : SymbolParts → Symbol
symbol_at n = record { path = n.0.now; name = n.1.now }

-- by path, then by name
abbrev pub name_cmp : SymbolParts → SymbolParts → Ordering
name_cmp x y = ordering_then (slice_cmp nat_cmp x.0.now y.0.now) (slice_cmp nat_cmp x.1.now y.1.now)

-- the map has the first index of each name
abbrev pub Numbers : tree.BTreeMap SymbolParts ℕ → List Symbol → Type 0
Numbers m names = (n : SymbolParts) → tree.get name_cmp m n ≡ position (same_symbol (symbol_at n)) names

abbrev pub held_at : SymbolParts × ℕ → LinkedVariable
held_at v = (symbol_at v.0, v.1)

-- how many cells the variables have
abbrev pub cell_count : List LinkedVariable → ℕ
cell_count [] = 0
cell_count (v ∷ vs) = v.1 + cell_count vs

-- the first cell of the variable that a symbol names, if there is one
abbrev pub place : Symbol → List LinkedVariable → Option ℕ
place s held = if list_any (λ v. same_symbol s v.0) held then Some (first_cell_of held s) else None

-- the map has the first place of each name
abbrev pub Firsts : tree.BTreeMap SymbolParts ℕ → List LinkedVariable → Type 0
Firsts m held = (n : SymbolParts) → tree.get name_cmp m n ≡ place (symbol_at n) held
