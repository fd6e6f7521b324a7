-- The first place of each name, as variables are added.
use Rattle.std.proofs.Common.{◌≡◌, ℕ, ◌+◌, Bool, true, false, ◌||◌, cond, List, [], ◌∷◌, ◌++◌, length, map, Some, None, refl, sym, ap, ◌∙◌, subst, arith, append_assoc}
use Rattle.std.specs.Prelude.{if◌then◌else◌}
use Rattle.std.specs.BTreeMap as tree
use Rattle.std.specs.List.{list_any}
use Rattle.std.specs.Option.{is_some}
use Rattle.std.specs.Ordering.{is_eq}
use Rattle.std.proofs.lemmas.List.Folds.{list_any-append}
use Rattle.go_symbol.specs.Symbols.{Symbol, same_symbol}
use Rattle.go_code.specs.Packages.{Object, PackageVariable}
use Rattle.go_link.specs.Links.{LinkedVariable, first_cell_of, object_symbol, variables}
use Rattle.go_link.specs.Named.{Firsts, SymbolParts, cell_count, name_cmp, place, symbol_at}
use Rattle.go_link.proofs.Numbered.{cmp_same, same_back, same_eq}

some_if : (b : Bool) (n : ℕ) → is_some (if b then Some n else None) ≡ b
some_if true n = refl
some_if false n = refl

-- ---- places

-- a symbol of no variable has its place behind all
behind_if : (s : Symbol) (v : LinkedVariable) (vs : List LinkedVariable) (b : Bool) → same_symbol s v.0 ≡ b → (b || list_any (λ (v : LinkedVariable). same_symbol s v.0) vs) ≡ false → (list_any (λ (v : LinkedVariable). same_symbol s v.0) vs ≡ false → first_cell_of vs s ≡ cell_count vs) → (if b then 0 else v.1 + first_cell_of vs s) ≡ v.1 + cell_count vs
behind_if s v vs true is none later = cc
behind_if s v vs false is none later = ap (λ n. v.1 + n) (later none)

pub behind_all : (held : List LinkedVariable) (s : Symbol) → list_any (λ (v : LinkedVariable). same_symbol s v.0) held ≡ false → first_cell_of held s ≡ cell_count held
behind_all [] s none = refl
behind_all (v ∷ vs) s none = behind_if s v vs (same_symbol s v.0) refl none (behind_all vs s)

-- a symbol of one of them keeps its place
kept_if : (s : Symbol) (v w : LinkedVariable) (vs : List LinkedVariable) (b : Bool) → (b || list_any (λ (v : LinkedVariable). same_symbol s v.0) vs) ≡ true → (list_any (λ (v : LinkedVariable). same_symbol s v.0) vs ≡ true → first_cell_of (vs ++ w ∷ []) s ≡ first_cell_of vs s) → (if b then 0 else v.1 + first_cell_of (vs ++ w ∷ []) s) ≡ (if b then 0 else v.1 + first_cell_of vs s)
kept_if s v w vs true any later = refl
kept_if s v w vs false any later = ap (λ n. v.1 + n) (later any)

kept : (held : List LinkedVariable) (w : LinkedVariable) (s : Symbol) → list_any (λ (v : LinkedVariable). same_symbol s v.0) held ≡ true → first_cell_of (held ++ w ∷ []) s ≡ first_cell_of held s
kept [] w s any = cc
kept (v ∷ vs) w s any = kept_if s v w vs (same_symbol s v.0) any (kept vs w s)

-- the first variable of a symbol has its place behind all before
added_if : (s : Symbol) (v w : LinkedVariable) (vs : List LinkedVariable) (b : Bool) → (b || list_any (λ (v : LinkedVariable). same_symbol s v.0) vs) ≡ false → (list_any (λ (v : LinkedVariable). same_symbol s v.0) vs ≡ false → first_cell_of (vs ++ w ∷ []) s ≡ cell_count vs) → (if b then 0 else v.1 + first_cell_of (vs ++ w ∷ []) s) ≡ v.1 + cell_count vs
added_if s v w vs true none later = cc
added_if s v w vs false none later = ap (λ n. v.1 + n) (later none)

added : (held : List LinkedVariable) (w : LinkedVariable) (s : Symbol) → list_any (λ (v : LinkedVariable). same_symbol s v.0) held ≡ false → same_symbol s w.0 ≡ true → first_cell_of (held ++ w ∷ []) s ≡ cell_count held
added [] w s none same = ap (λ b. if b then 0 else w.1 + 0) same
added (v ∷ vs) w s none same = added_if s v w vs (same_symbol s v.0) none (λ rest. added vs w s rest same)

is_place : (s : Symbol) (held : List LinkedVariable) → list_any (λ (v : LinkedVariable). same_symbol s v.0) held ≡ true → place s held ≡ Some (first_cell_of held s)
is_place s held any = ap (λ b. if b then Some (first_cell_of held s) else None) any

is_none : (s : Symbol) (held : List LinkedVariable) → list_any (λ (v : LinkedVariable). same_symbol s v.0) held ≡ false → place s held ≡ None
is_none s held none = ap (λ b. if b then Some (first_cell_of held s) else None) none

pub some_place : (s : Symbol) (held : List LinkedVariable) → is_some (place s held) ≡ list_any (λ (v : LinkedVariable). same_symbol s v.0) held
some_place s held = some_if (list_any (λ (v : LinkedVariable). same_symbol s v.0) held) (first_cell_of held s)

any_more : (s : Symbol) (held : List LinkedVariable) (w : LinkedVariable) (a b : Bool) → list_any (λ (v : LinkedVariable). same_symbol s v.0) held ≡ a → same_symbol s w.0 ≡ b → list_any (λ (v : LinkedVariable). same_symbol s v.0) (held ++ w ∷ []) ≡ (a || (b || false))
any_more s held w a b any same =
    list_any-append (λ (v : LinkedVariable). same_symbol s v.0) held (w ∷ [])
    ∙ ap (λ x. x || (same_symbol s w.0 || false)) any
    ∙ ap (λ x. a || (x || false)) same

place_more : (s : Symbol) (held : List LinkedVariable) (w : LinkedVariable) (a b : Bool) → list_any (λ (v : LinkedVariable). same_symbol s v.0) held ≡ a → same_symbol s w.0 ≡ b → place s (held ++ w ∷ []) ≡ (if a then Some (first_cell_of held s) else (if b then Some (cell_count held) else None))
place_more s held w true b any same = is_place s (held ++ w ∷ []) (any_more s held w true b any same) ∙ ap Some (kept held w s any)
place_more s held w false true any same = is_place s (held ++ w ∷ []) (any_more s held w false true any same) ∙ ap Some (added held w s any same)
place_more s held w false false any same = is_none s (held ++ w ∷ []) (any_more s held w false false any same)

same_place : (s : Symbol) (held : List LinkedVariable) (a : Bool) → list_any (λ (v : LinkedVariable). same_symbol s v.0) held ≡ a → (if a then Some (first_cell_of held s) else None) ≡ place s held
same_place s held a any = ap (λ b. if b then Some (first_cell_of held s) else None) (sym any)

-- a name that is there already keeps its place
kept_place : (s t : Symbol) (held : List LinkedVariable) (n : ℕ) (a b : Bool) → list_any (λ (v : LinkedVariable). same_symbol s v.0) held ≡ a → same_symbol s t ≡ b → list_any (λ (v : LinkedVariable). same_symbol t v.0) held ≡ true → place s (held ++ (t, n) ∷ []) ≡ place s held
kept_place s t held n true b any same there = place_more s held (t, n) true b any same ∙ same_place s held true any
kept_place s t held n false true any same there =
    let both : false ≡ true = sym any ∙ subst (λ u. list_any (λ (v : LinkedVariable). same_symbol u v.0) held ≡ true) (sym (same_eq s t same)) there in
    cc
kept_place s t held n false false any same there = place_more s held (t, n) false false any same ∙ same_place s held false any

-- a new name has its place behind all
added_place : (s t : Symbol) (held : List LinkedVariable) (n : ℕ) (a b : Bool) → list_any (λ (v : LinkedVariable). same_symbol s v.0) held ≡ a → same_symbol s t ≡ b → list_any (λ (v : LinkedVariable). same_symbol t v.0) held ≡ false → place s (held ++ (t, n) ∷ []) ≡ cond b (Some (cell_count held)) (place s held)
added_place s t held n true true any same none =
    let both : true ≡ false = sym any ∙ subst (λ u. list_any (λ (v : LinkedVariable). same_symbol u v.0) held ≡ false) (sym (same_eq s t same)) none in
    cc
added_place s t held n false true any same none = place_more s held (t, n) false true any same
added_place s t held n true false any same none = place_more s held (t, n) true false any same ∙ same_place s held true any
added_place s t held n false false any same none = place_more s held (t, n) false false any same ∙ same_place s held false any

-- ---- maps

pub kept_firsts : (m : tree.BTreeMap SymbolParts ℕ) (held : List LinkedVariable) (t : SymbolParts) (n : ℕ) → Firsts m held → is_some (tree.get name_cmp m t) ≡ true → Firsts m (held ++ (symbol_at t, n) ∷ [])
kept_firsts m held t n h there = λ k.
    h k ∙ sym (kept_place (symbol_at k) (symbol_at t) held n _ _ refl refl (sym (some_place (symbol_at t) held) ∙ ap is_some (sym (h t)) ∙ there))

pub added_firsts : (m m' : tree.BTreeMap SymbolParts ℕ) (held : List LinkedVariable) (t : SymbolParts) (n first : ℕ) → Firsts m held → is_some (tree.get name_cmp m t) ≡ false → first ≡ cell_count held → ((k : SymbolParts) → tree.get name_cmp m' k ≡ cond (is_eq (name_cmp t k)) (Some first) (tree.get name_cmp m k)) → Firsts m' (held ++ (symbol_at t, n) ∷ [])
added_firsts m m' held t n first h there is updates = λ k.
    updates k
    ∙ ap (λ b. cond b (Some first) (tree.get name_cmp m k)) (cmp_same t k ∙ same_back (symbol_at t) (symbol_at k))
    ∙ ap (λ o. cond (same_symbol (symbol_at k) (symbol_at t)) (Some first) o) (h k)
    ∙ ap (λ j. cond (same_symbol (symbol_at k) (symbol_at t)) (Some j) (place (symbol_at k) held)) is
    ∙ sym (added_place (symbol_at k) (symbol_at t) held n _ _ refl refl (sym (some_place (symbol_at t) held) ∙ ap is_some (sym (h t)) ∙ there))

-- ---- places

-- a symbol that has no place has that behind all
none_if : (b : Bool) (n : ℕ) → (if b then Some n else None) ≡ None → b ≡ false
none_if true n e = cc
none_if false n e = refl

pub no_place : (held : List LinkedVariable) (s : Symbol) (cells : ℕ) → cells ≡ cell_count held → place s held ≡ None → cells ≡ first_cell_of held s
no_place held s cells is none = is ∙ sym (behind_all held s (none_if (list_any (λ (v : LinkedVariable). same_symbol s v.0) held) (first_cell_of held s) none))

some_same : (b : Bool) (n k : ℕ) → (if b then Some n else None) ≡ Some k → k ≡ n
some_same true n k e = cc
some_same false n k e = cc

pub its_place : (held : List LinkedVariable) (s : Symbol) (k : ℕ) → place s held ≡ Some k → k ≡ first_cell_of held s
its_place held s k e = some_same (list_any (λ (v : LinkedVariable). same_symbol s v.0) held) (first_cell_of held s) k e

pub cells_more : (held : List LinkedVariable) (w : LinkedVariable) → cell_count (held ++ w ∷ []) ≡ cell_count held + w.1
cells_more [] w = omega arith
cells_more (v ∷ vs) w = let rest = cells_more vs w in omega (arith, rest)

-- ---- packages

-- a package's variables behind those before it
pub variables_more : (old new : List LinkedVariable) (o : Object) (rest packages : List Object) → new ≡ old ++ map (λ (v : PackageVariable). (object_symbol o v.name, length v.zero)) o.variables → old ++ variables (o ∷ rest) ≡ variables packages → new ++ variables rest ≡ variables packages
variables_more old new o rest packages grown all =
    ap (λ l. l ++ variables rest) grown
    ∙ append_assoc old (map (λ (v : PackageVariable). (object_symbol o v.name, length v.zero)) o.variables) (variables rest)
    ∙ all
