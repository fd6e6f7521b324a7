-- Imports as names and texts.
use Rattle.std.specs.Prelude.{◌≡◌, List, [], ◌∷◌, map, refl}
use Rattle.std.specs.declared.sync.Arc.{Arc}
use Rattle.std.specs.Arc.{arc_value}
use Rattle.std.proofs.Common.{ap, sym, ◌∙◌}
use Rattle.std.specs.List.{All}
use Rattle.std.proofs.lemmas.List.Elements.{All-head, All-tail}
use Rattle.go_text.specs.declared.edition.Edition.{Edition}
use Rattle.go_ast.specs.Parse.{Parsed}
use Rattle.go_export.specs.Summaries.{Summary}
use Rattle.go_export.specs.Writable.{IsWritten}
use Rattle.go_export.proofs.OneSummary.{one_summary}
use Rattle.ws_action.specs.Actions.{Named, parsed_of, source_with_name, named_summary}

-- of shared summaries
pub named_imports : {Z : Type 0} (xs : List (Arc Summary Z)) → map (λ s. named_summary (arc_value s)) xs ≡ map named_summary (map arc_value xs)
named_imports [] = refl
named_imports (x ∷ xs) = ap (λ (ns : List Named). named_summary (arc_value x) ∷ ns) (named_imports xs)

abbrev pub IsOf : Edition → Summary → Type 0
IsOf edition summary = summary.edition ≡ edition

-- a path and a text are those of one summary of an edition, among those that their texts tell
pub one_import : (edition : Edition) (s t : Summary) → IsWritten s → IsWritten t → IsOf edition s → IsOf edition t → named_summary s ≡ named_summary t → s ≡ t
one_import edition s t p q of also e = one_summary s t p q (of ∙ sym also) (ap (λ (n : Named). n.1) e)

head_of : Named → List Named → Named
head_of none [] = none
head_of none (n ∷ ns) = n

rest_of : List Named → List Named
rest_of [] = []
rest_of (n ∷ ns) = ns

-- and so are paths and texts
pub same_imports : (edition : Edition) (ss ts : List Summary) → All IsWritten ss → All IsWritten ts → All (IsOf edition) ss → All (IsOf edition) ts → map named_summary ss ≡ map named_summary ts → ss ≡ ts
unfolding head_of rest_of
same_imports edition [] [] p q of also e = refl
same_imports edition [] (t ∷ ts) p q of also e = absurd (cc (e))
same_imports edition (s ∷ ss) [] p q of also e = absurd (cc (e))
same_imports edition (s ∷ ss) (t ∷ ts) p q of also e =
    let first = one_import edition s t (All-head IsWritten s ss p) (All-head IsWritten t ts q) (All-head (IsOf edition) s ss of) (All-head (IsOf edition) t ts also) (ap (head_of (named_summary s)) e) in
    let rest = same_imports edition ss ts (All-tail IsWritten s ss p) (All-tail IsWritten t ts q) (All-tail (IsOf edition) s ss of) (All-tail (IsOf edition) t ts also) (ap rest_of e) in
    ap (λ (x : Summary). x ∷ ss) first ∙ ap (λ (xs : List Summary). t ∷ xs) rest

-- files of an edition are told by their names and texts
pub parsed_again : (edition : Edition) (files : List Parsed) → All (λ file. file.edition ≡ edition) files → map (parsed_of edition) (map source_with_name files) ≡ files
parsed_again edition [] of = refl
parsed_again edition (file ∷ files) of =
    let here : file.edition ≡ edition = All-head (λ (f : Parsed). f.edition ≡ edition) file files of in
    let same : parsed_of edition (source_with_name file) ≡ file = λ i. record { name = file.name; text = file.text; edition = sym here i } in
    ap (λ (f : Parsed). f ∷ map (parsed_of edition) (map source_with_name files)) same ∙ ap (λ (fs : List Parsed). file ∷ fs) (parsed_again edition files (All-tail (λ (f : Parsed). f.edition ≡ edition) file files of))
