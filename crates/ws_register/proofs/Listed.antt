-- The sources among some writes, taken from the first on.
use Rattle.std.proofs.Common.{◌≡◌, ℕ, List, [], ◌∷◌, ◌++◌, String, string_bytes, Option, Some, refl, sym, ap, ◌∙◌, append_assoc}
use Rattle.std.specs.Option.{option_map}
use Rattle.std.specs.List.{cons_option}
use Rattle.ws_version.specs.Writes.{Write}
use Rattle.ws_register.specs.Sources.{texts_of}
use Rattle.ws_register.specs.Texted.{texted}

texted-append : {Y X : Type 0} (es fs : List (String Y × X)) → texted (es ++ fs) ≡ texted es ++ texted fs
texted-append [] fs = refl
texted-append {Y} {X} (e ∷ es) fs = ap (λ (l : List (List ℕ × X)). (string_bytes e.0, e.1) ∷ l) (texted-append es fs)

-- the first write is the first source, where it has a text
texts_of-first : (w : Write) (ws : List Write) (text : List ℕ) → w.1.text ≡ Some text → texts_of (w ∷ ws) ≡ (w.0, text) ∷ texts_of ws
texts_of-first w ws text e = ap (λ (o : Option (List ℕ)). cons_option (option_map (λ t. (w.0, t)) o) (texts_of ws)) e

-- a source more, and a write less
pub one_more_source : {Y : Type 0} (sources next : List (String Y × List ℕ)) (path : String Y) (text : List ℕ) (w : Write) (before rest : List Write) (all : List (List ℕ × List ℕ)) → texted sources ++ texts_of before ≡ all → before ≡ w ∷ rest → string_bytes path ≡ w.0 → w.1.text ≡ Some text → next ≡ sources ++ (path, text) ∷ [] → texted next ++ texts_of rest ≡ all
one_more_source {Y} sources next path text w before rest all so_far cut at is pushed =
    ap (λ (l : List (String Y × List ℕ)). texted l ++ texts_of rest) pushed
    ∙ ap (λ l. l ++ texts_of rest) (texted-append sources ((path, text) ∷ []))
    ∙ append_assoc (texted sources) ((string_bytes path, text) ∷ []) (texts_of rest)
    ∙ ap (λ (p : List ℕ). texted sources ++ (p, text) ∷ texts_of rest) at
    ∙ ap (λ l. texted sources ++ l) (sym (texts_of-first w rest text is))
    ∙ ap (λ (ws : List Write). texted sources ++ texts_of ws) (sym cut)
    ∙ so_far
