-- A map from texts with one more entry, and what is looked up in it.
use Rattle.std.proofs.Common.{◌≡◌, ◌⊎◌, ℕ, Bool, true, false, cond, is_some, List, [], ◌∷◌, Some, refl, sym, ap, ◌∙◌, inl, inr}
use Rattle.std.specs.Prelude.{String, string_bytes, string_cmp}
use Rattle.std.specs.Global.{Global}
use Rattle.std.specs.Ordering.{match_ordering, is_eq}
use Rattle.std.specs.declared.cmp.Ordering.{Ordering}
use Rattle.std.specs.declared.cmp.Ordering.TheVariants.{Less, Equal, Greater}
use Rattle.std.specs.BTreeMap.{insert_entry, is_at}
use Rattle.std.specs.Map.{lookup}
use Rattle.std.proofs.lemmas.Map.Text.{is_eq-slice_cmp}
use Rattle.std.proofs.lemmas.Slice.Eq.{bytes_eq-Decides}
use Rattle.ws_version.specs.Writes.{path_cmp}
use Rattle.ws_version.proofs.Writes.{path_cmp-IsAntisymmetric}
use Rattle.ws_reach.proofs.Closure.{IsOneOf}
use Rattle.ws_graph.specs.Discovery.{Met, met_paths}
use Rattle.ws_graph.specs.declared.wave.Found.{Found}

abbrev Text : Type 0
Text = String Global

abbrev Entry : Type 0
Entry = Text × Found

-- the entries with one more, by how its key compares to the first one's
abbrev put_by : Ordering → Text → Found → Entry → Met → Met
put_by o k v e es = match_ordering o ((k, v) ∷ e ∷ es) ((e.0, v) ∷ es) (e ∷ insert_entry string_cmp es k v)

same_key : (k : Text) (e : Entry) → string_cmp k e.0 ≡ Equal → string_bytes k ≡ string_bytes e.0
same_key k e is = path_cmp-IsAntisymmetric (string_bytes k) (string_bytes e.0) is

to_path_by : (q : List ℕ) (k : Text) (v : Found) (e : Entry) (es : Met) (o : Ordering) → (IsOneOf q (met_paths (insert_entry string_cmp es k v)) → (q ≡ string_bytes k) ⊎ IsOneOf q (met_paths es)) → IsOneOf q (met_paths (put_by o k v e es)) → (q ≡ string_bytes k) ⊎ IsOneOf q (met_paths (e ∷ es))
to_path_by q k v e es Less later h = h
to_path_by q k v e es Equal later h = inr h
to_path_by q k v e es Greater later (inl same) = inr (inl same)
to_path_by q k v e es Greater later (inr h) = elim (later h) [
  | inl same ↦ inl same
  | inr there ↦ inr (inr there)
]

pub to_path : (q : List ℕ) (k : Text) (v : Found) (es : Met) → IsOneOf q (met_paths (insert_entry string_cmp es k v)) → (q ≡ string_bytes k) ⊎ IsOneOf q (met_paths es)
to_path q k v [] h = h
to_path q k v (e ∷ es) h = to_path_by q k v e es (string_cmp k e.0) (to_path q k v es) h

from_path_by : (q : List ℕ) (k : Text) (v : Found) (e : Entry) (es : Met) (o : Ordering) → ((q ≡ string_bytes k) ⊎ IsOneOf q (met_paths es) → IsOneOf q (met_paths (insert_entry string_cmp es k v))) → string_cmp k e.0 ≡ o → (q ≡ string_bytes k) ⊎ IsOneOf q (met_paths (e ∷ es)) → IsOneOf q (met_paths (put_by o k v e es))
from_path_by q k v e es Less later is h = h
from_path_by q k v e es Equal later is (inl same) = inl (same ∙ same_key k e is)
from_path_by q k v e es Equal later is (inr h) = h
from_path_by q k v e es Greater later is (inl same) = inr (later (inl same))
from_path_by q k v e es Greater later is (inr (inl same)) = inl same
from_path_by q k v e es Greater later is (inr (inr h)) = inr (later (inr h))

pub from_path : (q : List ℕ) (k : Text) (v : Found) (es : Met) → (q ≡ string_bytes k) ⊎ IsOneOf q (met_paths es) → IsOneOf q (met_paths (insert_entry string_cmp es k v))
from_path q k v [] h = h
from_path q k v (e ∷ es) h = from_path_by q k v e es (string_cmp k e.0) (from_path q k v es) refl h

abbrev IsPut : Text → Found → Entry → Type 0
IsPut k v x = (string_bytes x.0 ≡ string_bytes k) × (x.1 ≡ v)

to_entry_by : (x : Entry) (k : Text) (v : Found) (e : Entry) (es : Met) (o : Ordering) → (IsOneOf x (insert_entry string_cmp es k v) → IsPut k v x ⊎ IsOneOf x es) → string_cmp k e.0 ≡ o → IsOneOf x (put_by o k v e es) → IsPut k v x ⊎ IsOneOf x (e ∷ es)
to_entry_by x k v e es Less later is (inl same) = inl (ap (λ (z : Entry). string_bytes z.0) same, ap (λ (z : Entry). z.1) same)
to_entry_by x k v e es Less later is (inr h) = inr h
to_entry_by x k v e es Equal later is (inl same) = inl (ap (λ (z : Entry). string_bytes z.0) same ∙ sym (same_key k e is), ap (λ (z : Entry). z.1) same)
to_entry_by x k v e es Equal later is (inr h) = inr (inr h)
to_entry_by x k v e es Greater later is (inl same) = inr (inl same)
to_entry_by x k v e es Greater later is (inr h) = elim (later h) [
  | inl both ↦ inl both
  | inr there ↦ inr (inr there)
]

pub to_entry : (x : Entry) (k : Text) (v : Found) (es : Met) → IsOneOf x (insert_entry string_cmp es k v) → ((string_bytes x.0 ≡ string_bytes k) × (x.1 ≡ v)) ⊎ IsOneOf x es
to_entry x k v [] (inl same) = inl (ap (λ (z : Entry). string_bytes z.0) same, ap (λ (z : Entry). z.1) same)
to_entry x k v [] (inr h) = absurd h
to_entry x k v (e ∷ es) h = to_entry_by x k v e es (string_cmp k e.0) (to_entry x k v es) refl h

-- ---- looking up

abbrev pub has_path : List ℕ → Met → Bool
has_path q es = is_some (lookup (is_at (λ (k : Text). path_cmp q (string_bytes k))) es)

abbrev has_by : Bool → List ℕ → Entry → Met → Bool
has_by b q e es = is_some (cond b (Some e.1) (lookup (is_at (λ (k : Text). path_cmp q (string_bytes k))) es))

has_to_by : (q : List ℕ) (e : Entry) (es : Met) (b : Bool) → (has_path q es ≡ true → IsOneOf q (met_paths es)) → is_eq (path_cmp q (string_bytes e.0)) ≡ b → has_by b q e es ≡ true → IsOneOf q (met_paths (e ∷ es))
has_to_by q e es true later is h = inl ((bytes_eq-Decides q (string_bytes e.0)).0 (sym (is_eq-slice_cmp q (string_bytes e.0)) ∙ is))
has_to_by q e es false later is h = inr (later h)

pub has_to : (q : List ℕ) (es : Met) → has_path q es ≡ true → IsOneOf q (met_paths es)
has_to q [] h = cc (h)
has_to q (e ∷ es) h = has_to_by q e es (is_eq (path_cmp q (string_bytes e.0))) (has_to q es) refl h

has_from_by : (q : List ℕ) (e : Entry) (es : Met) (b : Bool) → (IsOneOf q (met_paths es) → has_path q es ≡ true) → is_eq (path_cmp q (string_bytes e.0)) ≡ b → IsOneOf q (met_paths (e ∷ es)) → has_by b q e es ≡ true
has_from_by q e es true later is h = refl
has_from_by q e es false later is (inl same) = (let z : true ≡ false = sym (is_eq-slice_cmp q (string_bytes e.0) ∙ (bytes_eq-Decides q (string_bytes e.0)).1 same) ∙ is in cc (z))
has_from_by q e es false later is (inr h) = later h

pub has_from : (q : List ℕ) (es : Met) → IsOneOf q (met_paths es) → has_path q es ≡ true
has_from q [] h = absurd h
has_from q (e ∷ es) h = has_from_by q e es (is_eq (path_cmp q (string_bytes e.0))) (has_from q es) refl h
