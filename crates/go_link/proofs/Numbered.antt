-- The first index of each name, as names are added.
use Rattle.std.proofs.Common.{◌≡◌, ℕ, ◌+◌, ◌≤◌, Bool, true, false, ◌&&◌, ◌||◌, not, cond, nat_lt, List, [], ◌∷◌, ◌++◌, length, Option, Some, None, refl, sym, ap, ◌∙◌, subst, arith, zero-add}
use Rattle.std.specs.BTreeMap as tree
use Rattle.std.specs.Cmp.Lexicographic.{slice_cmp}
use Rattle.std.specs.List.{list_any, position, position_from}
use Rattle.std.specs.Option.{is_some}
use Rattle.std.specs.Ordering.{is_eq, nat_cmp, ordering_then}
use Rattle.std.specs.Str.{bytes_eq}
use Rattle.std.specs.declared.cmp.Ordering.{Ordering}
use Rattle.std.specs.declared.cmp.Ordering.TheVariants.{Less, Equal, Greater}
use Rattle.std.proofs.lemmas.Bool.{ltb-false}
use Rattle.std.proofs.lemmas.Bool.Decides.{same_from_decides}
use Rattle.std.proofs.lemmas.List.Sums.{prefix_len-le-length}
use Rattle.std.proofs.lemmas.Iterator.Adapters.{position_from-zero}
use Rattle.std.proofs.lemmas.Map.Text.{is_eq-slice_cmp}
use Rattle.std.proofs.lemmas.Slice.Eq.{bytes_eq-Decides}
use Rattle.go_symbol.specs.Symbols.{Symbol, same_symbol}
use Rattle.go_link.specs.Links.{function_number}
use Rattle.go_link.specs.Named.{SymbolParts, Numbers, name_cmp, symbol_at}

-- ---- symbols that are the same

both : (a b : Bool) → (a && b) ≡ true → (a ≡ true) × (b ≡ true)
both true true e = (refl, refl)
both true false e = cc
both false b e = cc

pub same_eq : (s t : Symbol) → same_symbol s t ≡ true → s ≡ t
same_eq s t e =
    let parts = both (bytes_eq s.path t.path) (bytes_eq s.name t.name) e in
    ap (λ (p : List ℕ). record { path = p; name = s.name }) ((bytes_eq-Decides s.path t.path).0 parts.0)
    ∙ ap (λ (n : List ℕ). record { path = t.path; name = n }) ((bytes_eq-Decides s.name t.name).0 parts.1)

same_itself : (s : Symbol) → same_symbol s s ≡ true
same_itself s = ap (λ b. b && bytes_eq s.name s.name) ((bytes_eq-Decides s.path s.path).1 refl) ∙ (bytes_eq-Decides s.name s.name).1 refl

same_true : (s t : Symbol) → s ≡ t → same_symbol s t ≡ true
same_true s t e = subst (λ u. same_symbol s u ≡ true) e (same_itself s)

pub same_back : (s t : Symbol) → same_symbol s t ≡ same_symbol t s
same_back s t = same_from_decides {P = s ≡ t} (same_symbol s t) (same_symbol t s) (same_eq s t, same_true s t) (λ h. sym (same_eq t s h), λ e. same_true t s (sym e))

then_eq : (a b : Ordering) → is_eq (ordering_then a b) ≡ (is_eq a && is_eq b)
then_eq Less b = refl
then_eq Equal b = refl
then_eq Greater b = refl

pub cmp_same : (m n : SymbolParts) → is_eq (name_cmp m n) ≡ same_symbol (symbol_at m) (symbol_at n)
cmp_same m n =
    then_eq (slice_cmp nat_cmp m.0.now n.0.now) (slice_cmp nat_cmp m.1.now n.1.now)
    ∙ ap (λ b. b && is_eq (slice_cmp nat_cmp m.1.now n.1.now)) (is_eq-slice_cmp m.0.now n.0.now)
    ∙ ap (λ b. bytes_eq m.0.now n.0.now && b) (is_eq-slice_cmp m.1.now n.1.now)

-- ---- indexes

or_else : Option ℕ → Option ℕ → Option ℕ
or_else None d = d
or_else (Some n) d = Some n

or_none : (o : Option ℕ) → or_else o None ≡ o
unfolding or_else
or_none None = refl
or_none (Some n) = refl

or_some : (o d : Option ℕ) → is_some o ≡ true → or_else o d ≡ o
unfolding or_else
or_some None d e = cc
or_some (Some n) d e = refl

or_missing : (o d : Option ℕ) → is_some o ≡ false → or_else o d ≡ d
unfolding or_else
or_missing None d e = refl
or_missing (Some n) d e = cc

from_if : {X : Type 0} (p : X → Bool) (i : ℕ) (x : X) (xs : List X) (y : X) (b : Bool) → position_from p (i + 1) (xs ++ y ∷ []) ≡ or_else (position_from p (i + 1) xs) (cond (p y) (Some (i + 1 + length xs)) None) → cond b (Some i) (position_from p (i + 1) (xs ++ y ∷ [])) ≡ or_else (cond b (Some i) (position_from p (i + 1) xs)) (cond (p y) (Some (i + length (x ∷ xs))) None)
unfolding or_else
from_if p i x xs y true later = refl
from_if p i x xs y false later =
    let e : i + 1 + length xs ≡ i + length (x ∷ xs) = omega arith in
    later ∙ ap (λ k. or_else (position_from p (i + 1) xs) (cond (p y) (Some k) None)) e

from_push : {X : Type 0} (p : X → Bool) (i : ℕ) (xs : List X) (y : X) → position_from p i (xs ++ y ∷ []) ≡ or_else (position_from p i xs) (cond (p y) (Some (i + length xs)) None)
unfolding or_else
from_push p i [] y = let e : i ≡ i + 0 = omega arith in ap (λ k. cond (p y) (Some k) None) e
from_push p i (x ∷ xs) y = from_if p i x xs y (p x) (from_push p (i + 1) xs y)

index_push : {X : Type 0} (p : X → Bool) (xs : List X) (y : X) → position p (xs ++ y ∷ []) ≡ or_else (position p xs) (cond (p y) (Some (length xs)) None)
index_push p xs y =
    position_from-zero p (xs ++ y ∷ [])
    ∙ from_push p 0 xs y
    ∙ ap (λ k. or_else (position_from p 0 xs) (cond (p y) (Some k) None)) (zero-add (length xs))
    ∙ ap (λ o. or_else o (cond (p y) (Some (length xs)) None)) (sym (position_from-zero p xs))

-- a name that is there already has its index
kept_if : (xs : List Symbol) (s t : Symbol) (b : Bool) → same_symbol s t ≡ b → is_some (position (same_symbol t) xs) ≡ true → or_else (position (same_symbol s) xs) (cond b (Some (length xs)) None) ≡ position (same_symbol s) xs
kept_if xs s t true e there = or_some (position (same_symbol s) xs) (Some (length xs)) (subst (λ u. is_some (position (same_symbol u) xs) ≡ true) (sym (same_eq s t e)) there)
kept_if xs s t false e there = or_none (position (same_symbol s) xs)

kept : (xs : List Symbol) (s t : Symbol) → is_some (position (same_symbol t) xs) ≡ true → position (same_symbol s) (xs ++ t ∷ []) ≡ position (same_symbol s) xs
kept xs s t there = index_push (same_symbol s) xs t ∙ kept_if xs s t (same_symbol s t) refl there

-- a new name has the index behind the others
added_if : (xs : List Symbol) (s t : Symbol) (b : Bool) → same_symbol s t ≡ b → is_some (position (same_symbol t) xs) ≡ false → or_else (position (same_symbol s) xs) (cond b (Some (length xs)) None) ≡ cond b (Some (length xs)) (position (same_symbol s) xs)
added_if xs s t true e there = or_missing (position (same_symbol s) xs) (Some (length xs)) (subst (λ u. is_some (position (same_symbol u) xs) ≡ false) (sym (same_eq s t e)) there)
added_if xs s t false e there = or_none (position (same_symbol s) xs)

added : (xs : List Symbol) (s t : Symbol) → is_some (position (same_symbol t) xs) ≡ false → position (same_symbol s) (xs ++ t ∷ []) ≡ cond (same_symbol t s) (Some (length xs)) (position (same_symbol s) xs)
added xs s t there =
    index_push (same_symbol s) xs t
    ∙ added_if xs s t (same_symbol s t) refl there
    ∙ ap (λ b. cond b (Some (length xs)) (position (same_symbol s) xs)) (same_back s t)

-- ---- maps

pub kept_numbers : (m : tree.BTreeMap SymbolParts ℕ) (xs : List Symbol) (t : SymbolParts) → Numbers m xs → is_some (tree.get name_cmp m t) ≡ true → Numbers m (xs ++ symbol_at t ∷ [])
kept_numbers m xs t h there = λ n.
    h n ∙ sym (kept xs (symbol_at n) (symbol_at t) (ap is_some (sym (h t)) ∙ there))

pub added_numbers : (m m' : tree.BTreeMap SymbolParts ℕ) (xs : List Symbol) (t : SymbolParts) (k : ℕ) → Numbers m xs → is_some (tree.get name_cmp m t) ≡ false → k ≡ length xs → ((n : SymbolParts) → tree.get name_cmp m' n ≡ cond (is_eq (name_cmp t n)) (Some k) (tree.get name_cmp m n)) → Numbers m' (xs ++ symbol_at t ∷ [])
added_numbers m m' xs t k h there is updates = λ n.
    updates n
    ∙ ap (λ b. cond b (Some k) (tree.get name_cmp m n)) (cmp_same t n)
    ∙ ap (λ o. cond (same_symbol (symbol_at t) (symbol_at n)) (Some k) o) (h n)
    ∙ ap (λ j. cond (same_symbol (symbol_at t) (symbol_at n)) (Some j) (position (same_symbol (symbol_at n)) xs)) is
    ∙ sym (added xs (symbol_at n) (symbol_at t) (ap is_some (sym (h t)) ∙ there))

-- ---- numbers

from_any_if : {X : Type 0} (p : X → Bool) (i : ℕ) (xs : List X) (b : Bool) → is_some (position_from p (i + 1) xs) ≡ list_any p xs → is_some (cond b (Some i) (position_from p (i + 1) xs)) ≡ (b || list_any p xs)
from_any_if p i xs true later = refl
from_any_if p i xs false later = later

from_any : {X : Type 0} (p : X → Bool) (i : ℕ) (xs : List X) → is_some (position_from p i xs) ≡ list_any p xs
from_any p i [] = refl
from_any p i (x ∷ xs) = from_any_if p i xs (p x) (from_any p (i + 1) xs)

pub less_any : {X : Type 0} (p : X → Bool) (xs : List X) → is_some (position p xs) ≡ list_any p xs
less_any p xs = ap is_some (position_from-zero p xs) ∙ from_any p 0 xs

-- a name that has no index has the number behind all
none_if : (b : Bool) (k n : ℕ) → nat_lt k n ≡ b → k ≤ n → cond b (Some k) None ≡ None → n ≡ k
none_if true k n e le h = cc
none_if false k n e le h = let ge : n ≤ k = ltb-false k n e in omega arith

pub none_behind : (names : List Symbol) (s : Symbol) (n : ℕ) → n ≡ length names → position (same_symbol s) names ≡ None → n ≡ function_number names s
none_behind names s n is h = is ∙ none_if (nat_lt (function_number names s) (length names)) (function_number names s) (length names) refl (prefix_len-le-length (λ t. not (same_symbol s t)) names) h

-- a name is missing that has no index
missing_if : (b c : Bool) → b ≡ not c → c ≡ not b
missing_if true true e = cc
missing_if true false e = refl
missing_if false true e = refl
missing_if false false e = cc

pub missing_is : (names : List Symbol) (s : Symbol) (b : Bool) → is_some (position (same_symbol s) names) ≡ not b → b ≡ not (list_any (same_symbol s) names)
missing_is names s b e = missing_if (list_any (same_symbol s) names) b (sym (less_any (same_symbol s) names) ∙ e)
