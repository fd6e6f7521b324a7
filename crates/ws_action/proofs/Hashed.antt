-- Digests of the texts of files.
use Rattle.std.proofs.Common.{◌≡◌, ℕ, ◌+◌, ◌<◌, ◌≤◌, Bool, true, false, List, [], ◌∷◌, ◌++◌, length, map, take, get_or, sym, ap, ◌∙◌}
use Rattle.std.specs.Bool.{OnTrue}
use Rattle.std.specs.Str.{bytes_eq}
use Rattle.std.proofs.lemmas.Slice.Eq.{bytes_eq-Decides}
use Rattle.std.proofs.lemmas.List.{map_more, get_or-map, take_all}
use Rattle.sha2.specs.Sha256.{sha256}
use Rattle.go_ast.specs.Parse.{Parsed}

abbrev pub text_digest : Parsed → List ℕ
text_digest p = sha256 p.text

-- two files have one text
pub one_text : (is : Bool) (own other a b : List ℕ) → a ≡ own → b ≡ other → is ≡ bytes_eq a b → OnTrue is (own ≡ other)
one_text true own other a b p q e = sym p ∙ (bytes_eq-Decides a b).0 (sym e) ∙ q
one_text false own other a b p q e = tt

-- the digest at the number of a file with that text
pub digest_at : (parsed : List Parsed) (digests : List (List ℕ)) (n : ℕ) (one file : Parsed) (d : List ℕ) → digests ≡ map text_digest parsed → n < length parsed → one ≡ get_or parsed n one → d ≡ get_or digests n d → one.text ≡ file.text → d ≡ sha256 file.text
digest_at parsed digests n one file d are within at digest same =
    digest ∙ ap (λ ds. get_or ds n d) are ∙ get_or-map text_digest parsed n one d within ∙ ap text_digest (sym at) ∙ ap sha256 same

-- those so far have their digests
pub one_hashed : (parsed : List Parsed) (i : ℕ) (file : Parsed) (d : List ℕ) (done pushed : List (List ℕ)) → i < length parsed → file ≡ get_or parsed i file → pushed ≡ done ++ d ∷ [] → d ≡ sha256 file.text → done ≡ map text_digest (take i parsed) → pushed ≡ map text_digest (take (i + 1) parsed)
one_hashed parsed i file d done pushed within at push is h =
    push ∙ ap (λ ds. ds ++ d ∷ []) h ∙ ap (λ z. map text_digest (take i parsed) ++ z ∷ []) (is ∙ ap text_digest at) ∙ sym (map_more text_digest parsed i file within)

-- all have
pub all_hashed : (parsed : List Parsed) (i : ℕ) (done : List (List ℕ)) → length parsed ≤ i → done ≡ map text_digest (take i parsed) → done ≡ map text_digest parsed
all_hashed parsed i done over h = h ∙ ap (map text_digest) (take_all i parsed over)
