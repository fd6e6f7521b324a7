-- Looking names up in a block and in the blocks round it.
use Rattle.std.proofs.Common.{◌≡◌, ℕ, ◌+◌, ◌<◌, suc, Bool, true, false, cond, List, [], ◌∷◌, ◌++◌, map, reverse, drop, take, length, get_or, Option, Some, None, option_copied, Bor, String, string_bytes, string_eq, refl, sym, ap, ◌∙◌, inl, inr, is_some, add-one, drop-cons, ◌≤◌}
use Rattle.std.specs.Global.{Global}
use Rattle.std.specs.List.{flat_map}
use Rattle.std.specs.Map.{lookup}
use Rattle.std.specs.Str.{bytes_eq}
use Rattle.std.proofs.lemmas.Bool.{cases_Bool}
use Rattle.std.proofs.lemmas.List.{reverse-append, take-append-drop, drop_all, map-append}
use Rattle.indexmap.specs.IndexMap.{IndexMap, get, insert_entry}
use Rattle.indexmap.proofs.CallerLemmas.{insert_entry-new}
use Rattle.go_scope.specs.Scopes.{BlockNames, Env, look_up}
use Rattle.go_scope.specs.Blocks.{named_entry}

-- a table's entries, by their names' bytes
pub lookup_named : {T : Type 0} (q : List ℕ) (entries : List (String Global × T)) → lookup (bytes_eq q) (map named_entry entries) ≡ lookup (λ k. bytes_eq q (string_bytes k)) entries
lookup_named q [] = refl
lookup_named q (e ∷ es) = ap (λ rest. cond (bytes_eq q (string_bytes e.0)) (Some e.1) rest) (lookup_named q es)

-- a name more in a table that hasn't it
pub added : {T S : Type 0} (m : IndexMap (String Global) T S) (key : String Global) (value : T) (q : List ℕ) (block : BlockNames T) (entries : List (String Global × T)) → map named_entry m.entries ≡ block → string_bytes key ≡ q → lookup (bytes_eq q) block ≡ None
    → entries ≡ insert_entry string_eq m.entries key value → map named_entry entries ≡ block ++ (q, value) ∷ []
added m key value q block entries view is none inserted =
    let absent : get string_eq m key ≡ None = sym (lookup_named (string_bytes key) m.entries) ∙ ap (lookup (bytes_eq (string_bytes key))) view ∙ ap (λ b. lookup (bytes_eq b) block) is ∙ none in
    ap (map named_entry) (inserted ∙ insert_entry-new string_eq m key value absent) ∙ map-append named_entry m.entries ((key, value) ∷ [])
    ∙ ap (λ b. b ++ (string_bytes key, value) ∷ []) view ∙ ap (λ b. block ++ (b, value) ∷ []) is

-- what is found first, or else last
abbrev pub or_else : {A : Type 0} → Option A → Option A → Option A
or_else (Some a) b = Some a
or_else None b = b

pub lookup_append : {T : Type 0} (test : List ℕ → Bool) (a b : BlockNames T) → lookup test (a ++ b) ≡ or_else (lookup test a) (lookup test b)
lookup_append test [] b = refl
lookup_append test (e ∷ es) b = elim (cases_Bool (test e.0)) [ inl t ↦ rw t refl | inr f ↦ rw f (lookup_append test es b) ]

or_else_none : {A : Type 0} (a : Option A) → or_else a None ≡ a
or_else_none (Some a) = refl
or_else_none None = refl

or_else_assoc : {A : Type 0} (a b c : Option A) → or_else (or_else a b) c ≡ or_else a (or_else b c)
or_else_assoc (Some a) b c = refl
or_else_assoc None b c = refl

-- in some blocks, the last of which is the innermost
unfoldable pub look_in : {T : Type 0} → List (BlockNames T) → List ℕ → Option T
look_in blocks q = lookup (bytes_eq q) (flat_map (λ block. block) (reverse blocks))

abbrev flat : {T : Type 0} → List (BlockNames T) → BlockNames T
flat blocks = flat_map (λ block. block) blocks

flat_append : {T : Type 0} (first last : List (BlockNames T)) (q : List ℕ) → lookup (bytes_eq q) (flat (first ++ last)) ≡ or_else (lookup (bytes_eq q) (flat first)) (lookup (bytes_eq q) (flat last))
flat_append [] last q = refl
flat_append (b ∷ first) last q =
    lookup_append (bytes_eq q) b (flat (first ++ last))
    ∙ ap (or_else (lookup (bytes_eq q) b)) (flat_append first last q)
    ∙ sym (or_else_assoc (lookup (bytes_eq q) b) (lookup (bytes_eq q) (flat first)) (lookup (bytes_eq q) (flat last)))
    ∙ ap (λ o. or_else o (lookup (bytes_eq q) (flat last))) (sym (lookup_append (bytes_eq q) b (flat first)))

-- the later blocks hide the earlier ones
look_split : {T : Type 0} (first last : List (BlockNames T)) (q : List ℕ) → look_in (first ++ last) q ≡ or_else (look_in last q) (look_in first q)
unfolding look_in
look_split first last q = ap (λ l. lookup (bytes_eq q) (flat l)) (reverse-append first last) ∙ flat_append (reverse last) (reverse first) q

look_one : {T : Type 0} (block : BlockNames T) (q : List ℕ) → look_in (block ∷ []) q ≡ lookup (bytes_eq q) block
unfolding look_in
look_one block q = lookup_append (bytes_eq q) block [] ∙ or_else_none (lookup (bytes_eq q) block)

pub look_none : {T : Type 0} (blocks : List (BlockNames T)) (n : ℕ) (q : List ℕ) → length blocks ≤ n → look_in (drop n blocks) q ≡ None
unfolding look_in
look_none blocks n q le = ap (λ l. lookup (bytes_eq q) (flat_map (λ block. block) (reverse l))) (drop_all n blocks le)

-- one block further out
look_next : {T : Type 0} (blocks : List (BlockNames T)) (i : ℕ) (block : BlockNames T) (q : List ℕ) → i < length blocks → block ≡ get_or blocks i block → look_in (drop (i + 1) blocks) q ≡ None → look_in (drop i blocks) q ≡ lookup (bytes_eq q) block
look_next blocks i block q lt is none =
    let d : drop i blocks ≡ block ∷ drop (i + 1) blocks = rw (add-one, drop-cons blocks i block) (ap (λ b. b ∷ drop (suc i) blocks) (sym is)) in
    ap (λ l. look_in l q) d ∙ look_split (block ∷ []) (drop (i + 1) blocks) q ∙ ap (λ o. or_else o (look_in (block ∷ []) q)) none ∙ look_one block q

pub look_further : {T : Type 0} (blocks : List (BlockNames T)) (i : ℕ) (block : BlockNames T) (q : List ℕ) → i < length blocks → block ≡ get_or blocks i block → look_in (drop (i + 1) blocks) q ≡ None → lookup (bytes_eq q) block ≡ None → look_in (drop i blocks) q ≡ None
look_further blocks i block q lt is none here = look_next blocks i block q lt is none ∙ here

is_some_hides : {A : Type 0} (a b : Option A) → is_some a ≡ true → or_else a b ≡ a
is_some_hides (Some a) b h = refl
is_some_hides None b h = cc

pub look_found : {T : Type 0} (blocks : List (BlockNames T)) (i : ℕ) (block : BlockNames T) (q : List ℕ) → i < length blocks → block ≡ get_or blocks i block → look_in (drop (i + 1) blocks) q ≡ None → is_some (lookup (bytes_eq q) block) ≡ true → look_in blocks q ≡ lookup (bytes_eq q) block
look_found blocks i block q lt is none here =
    ap (λ l. look_in l q) (sym (take-append-drop i blocks))
    ∙ look_split (take i blocks) (drop i blocks) q
    ∙ ap (λ o. or_else o (look_in (take i blocks) q)) (look_next blocks i block q lt is none)
    ∙ is_some_hides (lookup (bytes_eq q) block) (look_in (take i blocks) q) here

-- what is found by reference
pub copied_none : {T : Type 0} (found : Option (Bor T)) → is_some found ≡ false → option_copied found ≡ None
copied_none None h = refl
copied_none (Some a) h = cc

pub copied_some : {T : Type 0} (found : Option (Bor T)) → is_some found ≡ true → is_some (option_copied found) ≡ true
copied_some None h = cc
copied_some (Some a) h = refl

-- in the innermost block, and round it
pub look_inner : {T : Type 0} (env : Env T) (q : List ℕ) → is_some (lookup (bytes_eq q) env.inner) ≡ true → look_up env q ≡ lookup (bytes_eq q) env.inner
look_inner env q here = lookup_append (bytes_eq q) env.inner (flat env.outer) ∙ is_some_hides (lookup (bytes_eq q) env.inner) (lookup (bytes_eq q) (flat env.outer)) here

pub look_outer : {T : Type 0} (env : Env T) (q : List ℕ) → lookup (bytes_eq q) env.inner ≡ None → look_up env q ≡ lookup (bytes_eq q) (flat_map (λ block. block) env.outer)
look_outer env q none = lookup_append (bytes_eq q) env.inner (flat env.outer) ∙ ap (λ o. or_else o (lookup (bytes_eq q) (flat env.outer))) none
