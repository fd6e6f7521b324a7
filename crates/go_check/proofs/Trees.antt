-- The trees of files, one after another, and faults in one of them.
use Rattle.std.proofs.Common.{◌≡◌, ℕ, suc, ◌+◌, ◌<◌, List, [], ◌∷◌, ◌++◌, length, take, get_or, Some, option_map, refl, sym, ap, ◌∙◌, subst}
use Rattle.std.specs.Borrow.{Bor}
use Rattle.std.proofs.lemmas.List.{take_more, map-append}
use Rattle.std.proofs.lemmas.Option.{slice_get-map, slice_get_read}
use Rattle.go_text.specs.Faults.{Fault}
use Rattle.go_text.specs.declared.fault.FaultKind.{FaultKind}
use Rattle.go_text.specs.declared.place.Place.{Place}
use Rattle.go_ast.specs.Trees.{File as Tree}
use Rattle.go_ast.specs.Parse.{Parsed, Derived, IsParse}
use Rattle.go_ast.specs.Views.{file_of}
use Rattle.go_ast.specs.declared.file.File.{File}
use Rattle.go_package.specs.Views.{files_of}
use Rattle.go_check.specs.Checked.{AreTrees}
use Rattle.go_check.specs.Results.{IsFaultIn}

-- one more
trees_push : (files : List Parsed) (trees : List Tree) (file : Parsed) (tree : Tree) → AreTrees files trees → IsParse file.edition file.text (Derived tree) → AreTrees (files ++ file ∷ []) (trees ++ tree ∷ [])
trees_push [] [] file tree h i = (i, tt)
trees_push [] (t ∷ ts) file tree h i = absurd h
trees_push (f ∷ fs) [] file tree h i = absurd h
trees_push (f ∷ fs) (t ∷ ts) file tree h i = (h.0, trees_push fs ts file tree h.1 i)

-- the next of some files
pub trees_next : (files : List Parsed) (i : ℕ) (d : Parsed) (done pushed : List (Bor File)) (x : Bor File) → i < length files → d ≡ get_or files i d → pushed ≡ done ++ x ∷ [] → AreTrees (take i files) (files_of done) → IsParse d.edition d.text (Derived (file_of x.now)) → AreTrees (take (i + 1) files) (files_of pushed)
trees_next files i d done pushed x within e p h is =
    let sources : take (i + 1) files ≡ take i files ++ d ∷ [] = take_more files i d within ∙ ap (λ y. take i files ++ y ∷ []) (sym e) in
    let trees : files_of pushed ≡ files_of done ++ file_of x.now ∷ [] = ap files_of p ∙ map-append (λ (f : Bor File). file_of f.now) done (x ∷ []) in
    subst (λ (ss : List Parsed). AreTrees ss (files_of pushed)) (sym sources)
    (subst (λ (fs : List Tree). AreTrees (take i files ++ d ∷ []) fs) (sym trees)
    (trees_push (take i files) (files_of done) d (file_of x.now) h is))

-- as many trees as files
pub trees_counted : (files : List Parsed) (trees : List Tree) → AreTrees files trees → length trees ≡ length files
trees_counted [] [] h = refl
trees_counted [] (t ∷ ts) h = absurd h
trees_counted (f ∷ fs) [] h = absurd h
trees_counted (f ∷ fs) (t ∷ ts) h = ap suc (trees_counted fs ts h.1)

-- a fault that is told of a file
pub told_in : (files : List Parsed) (number : ℕ) (place : Place) (kind : FaultKind) (file : Parsed) (fault : Fault) → number < length files → file ≡ get_or files number file
    → fault ≡ record { file = file.name; place = place; kind = kind } → IsFaultIn files (number, (place, kind)) fault
told_in files number place kind file fault within at is = record {
  name =
      slice_get-map (λ (f : Parsed). f.name) files number
      ∙ ap (option_map (λ (f : Parsed). f.name)) (slice_get_read files (length files) number file refl within at)
      ∙ ap (λ (f : Fault). Some f.file) (sym is);
  same = ap (λ (f : Fault). (f.place, f.kind)) (sym is);
}
