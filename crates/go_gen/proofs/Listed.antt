-- Setups of the initializations that some indexes list.
use Rattle.std.proofs.Common.{◌≡◌, ℕ, List, [], ◌∷◌, ◌++◌, map, Some, None, sym, ap, ◌∙◌, append_assoc}
use Rattle.std.specs.Prelude.{slice_get, option_map}
use Rattle.std.specs.List.{cons_option, filter_map}
use Rattle.std.proofs.lemmas.Option.{slice_get-map}
use Rattle.go_code.specs.Functions.{Setup}
use Rattle.go_symbol.specs.Symbols as symbols
use Rattle.go_typed.specs.Trees.{Initialization}
use Rattle.go_typed.specs.Views.{initialization_of}
use Rattle.go_typed.specs.declared.package.TypedInitialization.{TypedInitialization}
use Rattle.go_gen.specs.Translation.{symbol_code, translated_setup}

abbrev pub setup : List ℕ → Initialization → Setup symbols.Symbol
setup path = translated_setup symbol_code symbol_code path

abbrev pub listed : List TypedInitialization → List ℕ → List Initialization
listed is = filter_map (slice_get (map initialization_of is))

-- behind the setups that are made come those of the indexes that are left
pub one_listed : (path : List ℕ) (is : List TypedInitialization) (made : List (Setup symbols.Symbol)) (k : ℕ) (rest : List ℕ) (i : TypedInitialization) → slice_get is k ≡ Some i → (made ++ setup path (initialization_of i) ∷ []) ++ map (setup path) (listed is rest) ≡ made ++ map (setup path) (listed is (k ∷ rest))
one_listed path is made k rest i e =
    append_assoc made (setup path (initialization_of i) ∷ []) (map (setup path) (listed is rest))
    ∙ ap (λ o. made ++ map (setup path) (cons_option o (listed is rest))) (sym (slice_get-map initialization_of is k ∙ ap (option_map initialization_of) e))

pub none_listed : (path : List ℕ) (is : List TypedInitialization) (made : List (Setup symbols.Symbol)) (k : ℕ) (rest : List ℕ) → slice_get is k ≡ None → made ++ map (setup path) (listed is rest) ≡ made ++ map (setup path) (listed is (k ∷ rest))
none_listed path is made k rest e =
    ap (λ o. made ++ map (setup path) (cons_option o (listed is rest))) (sym (slice_get-map initialization_of is k ∙ ap (option_map initialization_of) e))
