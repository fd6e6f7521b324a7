-- Exports in byte order of names.
use Rattle.std.proofs.Common.{◌≡◌, ℕ, Bool, true, false, cond, List, [], ◌∷◌, ◌++◌, Option, Some, None, Bor, refl, ap, ◌∙◌, sym}
use Rattle.std.specs.BTreeMap.{insert_entry, is_at}
use Rattle.std.specs.Cmp.Lexicographic.{slice_cmp}
use Rattle.std.specs.Ordering.{nat_cmp, match_ordering}
use Rattle.std.specs.Map.{lookup}
use Rattle.std.specs.Option.{option_map, option_copied}
use Rattle.std.specs.Prelude.{String, bytes_eq, string_bytes, string_cmp}
use Rattle.std.proofs.lemmas.List.{map-append}
use Rattle.std.proofs.lemmas.List.Elements.{filter-append}
use Rattle.std.proofs.lemmas.Map.Text.{is_eq-slice_cmp}
use Rattle.std.specs.Global.{Global}
use Rattle.std.specs.declared.cmp.Ordering.{Ordering}
use Rattle.std.specs.declared.cmp.Ordering.TheVariants.{Less, Equal, Greater}
use Rattle.go_types.specs.Names.{is_exported}
use Rattle.go_export.specs.declared.export.Export as rust
use Rattle.go_export.specs.Exports.{Export, Exports, only_exported, sorted_by_name}
use Rattle.go_export.specs.Views.{named_of, export_of, all_exports}

-- some names in order over others that are there
abbrev pub over : Exports → Exports → Exports
over there [] = there
over there (e ∷ es) = insert_entry (slice_cmp nat_cmp) (over there es) e.0 e.1

pub over_none : (es : Exports) → over [] es ≡ sorted_by_name es
over_none [] = refl
over_none (e ∷ es) = ap (λ (m : Exports). insert_entry (slice_cmp nat_cmp) m e.0 e.1) (over_none es)

pub over_last : (there es : Exports) (e : List ℕ × Export) → over there (es ++ e ∷ []) ≡ over (insert_entry (slice_cmp nat_cmp) there e.0 e.1) es
over_last there [] e = refl
over_last there (f ∷ es) e = ap (λ (m : Exports). insert_entry (slice_cmp nat_cmp) m f.0 f.1) (over_last there es e)

pub seen_insert : (es : List (String Global × rust.Export)) (k : String Global) (v : rust.Export) →
    all_exports (insert_entry string_cmp es k v) ≡ insert_entry (slice_cmp nat_cmp) (all_exports es) (string_bytes k) (export_of v)
seen_insert [] k v = refl
seen_insert (e ∷ es) k v =
    let name = string_bytes k in
    let export = export_of v in
    elim (slice_cmp nat_cmp name (string_bytes e.0)) as (λ (o : Ordering).
    all_exports (match_ordering o ((k, v) ∷ e ∷ es) ((e.0, v) ∷ es) (e ∷ insert_entry string_cmp es k v))
    ≡ match_ordering o ((name, export) ∷ all_exports (e ∷ es)) ((string_bytes e.0, export) ∷ all_exports es) (named_of e ∷ insert_entry (slice_cmp nat_cmp) (all_exports es) name export))
    [ Less ↦ refl | Equal ↦ refl | Greater ↦ ap (λ (m : Exports). named_of e ∷ m) (seen_insert es k v) ]

-- the last of those that are left comes to those that are there
pub taken : (there more rest left : List (String Global × rust.Export)) (k : String Global) (v : rust.Export) →
    more ≡ insert_entry string_cmp there k v → left ≡ rest ++ (k, v) ∷ [] → over (all_exports more) (all_exports rest) ≡ over (all_exports there) (all_exports left)
taken there more rest left k v came was =
    ap (λ (m : Exports). over m (all_exports rest)) (ap all_exports came ∙ seen_insert there k v)
    ∙ sym (over_last (all_exports there) (all_exports rest) (string_bytes k, export_of v))
    ∙ ap (over (all_exports there)) (sym (map-append named_of rest ((k, v) ∷ [])) ∙ ap all_exports (sym was))

-- a look-up among names in the code's order finds what stands under the name
pub looked : (text : List ℕ) (es : List (String Global × rust.Export)) →
    option_map export_of (lookup (is_at (λ (k : String Global). slice_cmp nat_cmp text (string_bytes k))) es) ≡ lookup (bytes_eq text) (all_exports es)
looked text [] = refl
looked text (e ∷ es) =
    either (is_at (λ (k : String Global). slice_cmp nat_cmp text (string_bytes k)) e.0) e.1 (lookup (is_at (λ (k : String Global). slice_cmp nat_cmp text (string_bytes k))) es)
    ∙ ap (λ (b : Bool). cond b (Some (export_of e.1)) (option_map export_of (lookup (is_at (λ (k : String Global). slice_cmp nat_cmp text (string_bytes k))) es)))
    (is_eq-slice_cmp text (string_bytes e.0))
    ∙ ap (cond (bytes_eq text (string_bytes e.0)) (Some (export_of e.1))) (looked text es)
  where
    either : (b : Bool) (v : rust.Export) (o : Option rust.Export) → option_map export_of (cond b (Some v) o) ≡ cond b (Some (export_of v)) (option_map export_of o)
    either true v o = refl
    either false v o = refl

pub seen_through : (o : Option (Bor rust.Export)) → option_map (λ (e : Bor rust.Export). export_of e.now) o ≡ option_map export_of (option_copied o)
seen_through None = refl
seen_through (Some e) = refl

-- the exported ones of four lists, one behind another
pub gathered : (a b c d n₀ n₁ n₂ n₃ n₄ : Exports) → n₀ ≡ [] → n₁ ≡ n₀ ++ only_exported a → n₂ ≡ n₁ ++ only_exported b → n₃ ≡ n₂ ++ only_exported c → n₄ ≡ n₃ ++ only_exported d →
    n₄ ≡ only_exported (((a ++ b) ++ c) ++ d)
gathered a b c d n₀ n₁ n₂ n₃ n₄ p q r s t =
    t ∙ ap (λ (n : Exports). n ++ only_exported d) (s ∙ ap (λ (n : Exports). n ++ only_exported c) (r ∙ ap (λ (n : Exports). n ++ only_exported b) (q ∙ ap (λ (n : Exports). n ++ only_exported a) p)))
    ∙ ap (λ (n : Exports). (n ++ only_exported c) ++ only_exported d) (joined a b) ∙ ap (λ (n : Exports). n ++ only_exported d) (joined (a ++ b) c) ∙ joined ((a ++ b) ++ c) d
  where
    joined : (x y : Exports) → only_exported x ++ only_exported y ≡ only_exported (x ++ y)
    joined x y = sym (filter-append (λ e. is_exported e.0) x y)
