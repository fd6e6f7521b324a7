-- What tests tell of files that the past has.
use denote.Enum.Bare.{same_true}
use Rattle.std.proofs.Common.{◌≡◌, ℕ, ◌+◌, ◌<◌, ◌≤◌, Bool, true, false, List, [], ◌∷◌, ◌++◌, length, take, get_or, sym, ap, ◌∙◌, append-nil, append_assoc, eqb}
use Rattle.std.specs.Bool.{OnTrue}
use Rattle.std.specs.Str.{bytes_eq}
use Rattle.std.proofs.lemmas.Slice.Eq.{bytes_eq-Decides}
use Rattle.std.proofs.lemmas.List.{take_more, take_all, nil_from_length}
use Rattle.std.proofs.lemmas.Bool.{eqb-true}
use Rattle.go_text.specs.contracts.edition.Edition as editions
use Rattle.go_text.specs.contracts.edition.EditionPartialEq.TheImpl as comparison
use Rattle.go_text.specs.declared.edition.Edition.{Edition}
use Rattle.go_ast.specs.Parse.{Parsed}

-- two files are of one edition
pub one_edition : (is : Bool) (own other a b : Edition) → a ≡ own → b ≡ other → is ≡ (comparison.ghosts).eq a b → OnTrue is (own ≡ other)
one_edition true own other a b p q e = sym p ∙ same_true editions.the_type tt a b (sym e) ∙ q
one_edition false own other a b p q e = tt

-- they have one name, or one text
pub one_text : (is : Bool) (own other a b : List ℕ) → a ≡ own → b ≡ other → is ≡ bytes_eq a b → OnTrue is (own ≡ other)
one_text true own other a b p q e = sym p ∙ (bytes_eq-Decides a b).0 (sym e) ∙ q
one_text false own other a b p q e = tt

-- so they are one
abbrev file_of : List ℕ → List ℕ → Edition → Parsed
file_of name text edition = record { name = name; text = text; edition = edition }

pub one_file : (is : Bool) (p q : Parsed) → p.edition ≡ q.edition → p.name ≡ q.name → OnTrue is (p.text ≡ q.text) → OnTrue is (p ≡ q)
one_file true p q of name text = ap (λ n. file_of n p.text p.edition) name ∙ ap (λ t. file_of q.name t p.edition) text ∙ ap (λ ed. file_of q.name q.text ed) of
one_file false p q of name text = tt

-- those so far are the same, and others are left
pub same_next : (files others left rest : List Parsed) (i : ℕ) (file other : Parsed) → i < length files → file ≡ get_or files i file → left ≡ other ∷ rest → file ≡ other → take i files ++ left ≡ others → take (i + 1) files ++ rest ≡ others
same_next files others left rest i file other within at next same h =
    let more : take (i + 1) files ≡ take i files ++ file ∷ [] = take_more files i file within ∙ ap (λ z. take i files ++ z ∷ []) (sym at) in
    ap (λ zs. zs ++ rest) more ∙ append_assoc (take i files) (file ∷ []) rest ∙ ap (λ z. take i files ++ z ∷ rest) same ∙ ap (λ zs. take i files ++ zs) (sym next) ∙ h

-- all are, where none is left
pub same_whole : (is : Bool) (files others left : List Parsed) (i : ℕ) → length files ≤ i → is ≡ eqb (length left) 0 → take i files ++ left ≡ others → OnTrue is (files ≡ others)
same_whole true files others left i over e h =
    let none : left ≡ [] = nil_from_length left (eqb-true (length left) 0 (sym e)) in
    sym (take_all i files over) ∙ sym (append-nil (take i files)) ∙ ap (λ zs. take i files ++ zs) (sym none) ∙ h
same_whole false files others left i over e h = tt
