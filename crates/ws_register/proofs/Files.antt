-- The files of a directory among some writes, taken from the first on.
use Rattle.std.proofs.Common.{◌≡◌, ℕ, Bool, true, false, cond, List, [], ◌∷◌, ◌++◌, map, Option, Some, None, refl, sym, ap, ◌∙◌, append_assoc}
use Rattle.std.specs.Option.{option_map, option_to_list}
use Rattle.std.specs.List.{cons_option}
use Rattle.std.proofs.lemmas.List.{map-append}
use Rattle.go_text.specs.Named.{Source}
use Rattle.ws_version.specs.Writes.{Write}
use Rattle.ws_register.specs.Sources.{is_in, by_file_name, texts_of, file_in, files_in, pair_of}

by_test : (b : Bool) (x : List ℕ × List ℕ) (xs : List (List ℕ × List ℕ)) → map by_file_name (cond b (x ∷ xs) xs) ≡ option_to_list (cond b (Some (by_file_name x)) None) ++ map by_file_name xs
by_test true x xs = refl
by_test false x xs = refl

none_either : (b : Bool) (xs : List (List ℕ × List ℕ)) → xs ≡ option_to_list (cond b None None) ++ xs
none_either true xs = refl
none_either false xs = refl

at_text : (dir path : List ℕ) (text : Option (List ℕ)) (sources : List (List ℕ × List ℕ)) → files_in dir (cons_option (option_map (λ t. (path, t)) text) sources) ≡ option_to_list (cond (is_in dir path) (option_map by_file_name (option_map (λ t. (path, t)) text)) None) ++ files_in dir sources
at_text dir path None sources = none_either (is_in dir path) _
at_text dir path (Some t) sources = by_test (is_in dir path) (path, t) _

-- the first write is the first file, or none
pub files_in-first : (dir : List ℕ) (w : Write) (ws : List Write) → files_in dir (texts_of (w ∷ ws)) ≡ option_to_list (file_in dir w) ++ files_in dir (texts_of ws)
files_in-first dir w ws = at_text dir w.0 w.1.text (texts_of ws)

-- a file more, and a write less
pub one_more_file : (dir : List ℕ) (files next : List Source) (file : Source) (w : Write) (before rest : List Write) (all : List (List ℕ × List ℕ)) → map pair_of files ++ files_in dir (texts_of before) ≡ all → before ≡ w ∷ rest → Some (pair_of file) ≡ file_in dir w → next ≡ files ++ file ∷ [] → map pair_of next ++ files_in dir (texts_of rest) ≡ all
one_more_file dir files next file w before rest all so_far cut is pushed =
    ap (λ (fs : List Source). map pair_of fs ++ files_in dir (texts_of rest)) pushed
    ∙ ap (λ l. l ++ files_in dir (texts_of rest)) (map-append pair_of files (file ∷ []))
    ∙ append_assoc (map pair_of files) (pair_of file ∷ []) (files_in dir (texts_of rest))
    ∙ ap (λ o. map pair_of files ++ (option_to_list o ++ files_in dir (texts_of rest))) is
    ∙ ap (λ l. map pair_of files ++ l) (sym (files_in-first dir w rest))
    ∙ ap (λ (ws : List Write). map pair_of files ++ files_in dir (texts_of ws)) (sym cut)
    ∙ so_far
