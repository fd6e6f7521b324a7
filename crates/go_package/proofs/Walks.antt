-- Walks over declarations and files: their faults, and what they come to.
use Rattle.std.proofs.Common.{◌≡◌, ℕ, suc, ◌+◌, ◌<◌, List, [], ◌++◌, Bor, map, length, drop, get_or, append_assoc, sym, ap, ◌∙◌, subst, add-one}
use Rattle.std.specs.List.{flat_map}
use Rattle.go_ast.specs.Trees.{TopLevel}
use Rattle.go_ast.specs.Views.{file_of}
use Rattle.go_ast.specs.declared.file.File.{File}
use Rattle.go_objects.proofs.Signatures.{next_of}
use Rattle.go_expr.specs.declared.error.ExprError.{ExprError}
use Rattle.go_expr.specs.Views.{Fails}
use Rattle.go_package.specs.Faults.{Faults}
use Rattle.go_package.specs.Views.{files_of}
use Rattle.go_package.specs.Typed.{of_files}
use Rattle.go_package.specs.Results.{in_file}
use Rattle.go_package.proofs.Several.{sooner}

joined : {A : Type 0} (old new here rest left whole : List A) → old ++ left ≡ whole → left ≡ here ++ rest → new ≡ old ++ here → new ++ rest ≡ whole
joined old new here rest left whole same next grown =
    let step : (old ++ here) ++ rest ≡ whole = rw append_assoc (ap (λ l. old ++ l) (sym next) ∙ same) in
    ap (λ l. l ++ rest) grown ∙ step

pub here : {A B : Type 0} (f : B → Faults) (g : A → B) (e : ExprError) (xs : List A) (i : ℕ) (d : A) (all : Faults) → i < length xs → d ≡ get_or xs i d →
    flat_map f (map g (drop i xs)) ≡ all → Fails e (f (g d)) → Fails e all
here f g e xs i d all lt is same h =
    subst (Fails e) (sym (ap (λ l. flat_map f (map g l)) (next_of xs i d d lt is)) ∙ same) (sooner e (f (g d)) (flat_map f (map g (drop (i + 1) xs))) h)

pub later : {A B C : Type 0} (f : B → List C) (g : A → B) (xs : List A) (i : ℕ) (d : A) (all : List C) → i < length xs → d ≡ get_or xs i d →
    flat_map f (map g (drop i xs)) ≡ all → f (g d) ≡ [] → flat_map f (map g (drop (i + 1) xs)) ≡ all
later f g xs i d all lt is same none =
    sym (ap (λ l. l ++ flat_map f (map g (drop (i + 1) xs))) none) ∙ sym (ap (λ l. flat_map f (map g l)) (next_of xs i d d lt is)) ∙ same

pub more : {A B C : Type 0} (f : B → List C) (g : A → B) (xs : List A) (i : ℕ) (d : A) (old new whole : List C) → i < length xs → d ≡ get_or xs i d →
    old ++ flat_map f (map g (drop i xs)) ≡ whole → new ≡ old ++ f (g d) → new ++ flat_map f (map g (drop (i + 1) xs)) ≡ whole
more f g xs i d old new whole lt is same grown =
    joined old new (f (g d)) (flat_map f (map g (drop (i + 1) xs))) (flat_map f (map g (drop i xs))) whole same (ap (λ l. flat_map f (map g l)) (next_of xs i d d lt is)) grown

pub more_files : {A : Type 0} (f : ℕ → TopLevel → List A) (files : List (Bor File)) (i : ℕ) (d : Bor File) (old new whole : List A) → i < length files → d ≡ get_or files i d →
    old ++ of_files f i (files_of (drop i files)) ≡ whole → new ≡ old ++ in_file f i (file_of d.now) → new ++ of_files f (i + 1) (files_of (drop (i + 1) files)) ≡ whole
more_files f files i d old new whole lt is same grown =
    let rest = files_of (drop (i + 1) files) in
    ap (λ n. new ++ of_files f n rest) (add-one i)
    ∙ joined old new (in_file f i (file_of d.now)) (of_files f (suc i) rest) (of_files f i (files_of (drop i files))) whole same
    (ap (λ (l : List (Bor File)). of_files f i (files_of l)) (next_of files i d d lt is)) grown
