-- The text of a summary tells the summary.
use Rattle.std.proofs.Common.{◌≡◌, ℕ, ◌<◌, true, false, List, [], ◌∷◌, ◌++◌, append-nil, length, codes, refl, ap, sym, ◌∙◌, subst, arith}
use Rattle.std.specs.Prelude.{bytes_eq}
use Rattle.std.specs.List.{All, flat_map}
use Rattle.std.specs.Map.{values_of}
use Rattle.std.proofs.lemmas.List.{append_assoc}
use Rattle.std.proofs.lemmas.List.Elements.{All-head, All-tail}
use Rattle.go_export.specs.Fields.{be, field}
use Rattle.go_types.specs.Texts.{type_text, IsWritable}
use Rattle.go_types.specs.Types.{Type'}
use Rattle.go_types.proofs.OneText.{one_text}
use Rattle.go_export.specs.Exports.{Export, constant, variable, function, type', Exports}
use Rattle.go_export.specs.Summaries.{Summary, value_text, types_text, export_text, named_text, summary_text}
use Rattle.go_export.specs.Writable.{IsValue, IsShown, HasSmall, IsWritten}
use Rattle.go_export.proofs.Parts.{Short, short, split_field, split_number, counted, some_field, has_byte}
use Rattle.go_export.proofs.Values.{one_value}

-- the first is known, and so is what comes behind it
abbrev Told : {X : Type 0} → X → X → List ℕ → List ℕ → Type 0
Told x y s t = (x ≡ y) × (s ≡ t) × Short s

-- ---- types

told_type : (a b : Type') (s t : List ℕ) → IsWritable a → IsWritable b → Short (field (type_text a) ++ s) → field (type_text a) ++ s ≡ field (type_text b) ++ t → Told a b s t
told_type a b s t p q h e =
    let parts = split_field (type_text a) (type_text b) s t h e in
    (one_text a b p q parts.0, parts.1, parts.2)

told_all : (xs ys : List Type') (s t : List ℕ) → All IsWritable xs → All IsWritable ys → length xs ≡ length ys →
    Short (flat_map (λ a. field (type_text a)) xs ++ s) → flat_map (λ a. field (type_text a)) xs ++ s ≡ flat_map (λ a. field (type_text a)) ys ++ t → Told xs ys s t
told_all [] [] s t p q l h e = (refl, e, h)
told_all [] (b ∷ ys) s t p q l h e = absurd (omega (arith, l))
told_all (a ∷ xs) [] s t p q l h e = absurd (omega (arith, l))
told_all (a ∷ xs) (b ∷ ys) s t p q l h e =
    let texts : List Type' → List ℕ = flat_map (λ a. field (type_text a)) in
    let behind : (field (type_text a) ++ texts xs) ++ s ≡ field (type_text a) ++ (texts xs ++ s) = append_assoc (field (type_text a)) (texts xs) s in
    let other : (field (type_text b) ++ texts ys) ++ t ≡ field (type_text b) ++ (texts ys ++ t) = append_assoc (field (type_text b)) (texts ys) t in
    let first = told_type a b (texts xs ++ s) (texts ys ++ t) (All-head IsWritable a xs p) (All-head IsWritable b ys q) (subst Short behind h) (sym behind ∙ e ∙ other) in
    let lengths : length xs ≡ length ys = omega (arith, l) in
    let rest = told_all xs ys s t (All-tail IsWritable a xs p) (All-tail IsWritable b ys q) lengths first.2 first.1 in
    (ap (λ (x : Type'). x ∷ xs) first.0 ∙ ap (λ (zs : List Type'). b ∷ zs) rest.0, rest.1, rest.2)

told_types : (xs ys : List Type') (s t : List ℕ) → All IsWritable xs → All IsWritable ys → Short (types_text xs ++ s) → types_text xs ++ s ≡ types_text ys ++ t → Told xs ys s t
told_types xs ys s t p q h e =
    let texts : List Type' → List ℕ = flat_map (λ a. field (type_text a)) in
    let behind : types_text xs ++ s ≡ be (length xs) ++ (texts xs ++ s) = append_assoc (be (length xs)) (texts xs) s in
    let other : types_text ys ++ t ≡ be (length ys) ++ (texts ys ++ t) = append_assoc (be (length ys)) (texts ys) t in
    let numbers = split_number (length xs) (length ys) (texts xs ++ s) (texts ys ++ t) (counted (λ a. field (type_text a)) (λ a. has_byte (type_text a)) xs s) (counted (λ a. field (type_text a)) (λ a. has_byte (type_text a)) ys t)
    (subst Short behind h) (sym behind ∙ e ∙ other) in
    told_all xs ys s t p q numbers.0 numbers.2 numbers.1

-- ---- exports

abbrev letter : Export → List ℕ
letter (constant t c) = codes "C"
letter (variable t) = codes "V"
letter (function parameters results) = codes "F"
letter (type' t) = codes "T"

abbrev body : Export → List ℕ
body (constant t c) = field (type_text t) ++ field (value_text c)
body (variable t) = field (type_text t)
body (function parameters results) = types_text parameters ++ types_text results
body (type' t) = field (type_text t)

lettered : (e : Export) → export_text e ≡ field (letter e) ++ body e
lettered (constant t c) = append_assoc (field (codes "C")) (field (type_text t)) (field (value_text c))
lettered (variable t) = refl
lettered (function parameters results) = append_assoc (field (codes "F")) (types_text parameters) (types_text results)
lettered (type' t) = refl

unlike : (x y : List ℕ) → bytes_eq x y ≡ false → bytes_eq x x ≡ true → x ≡ y → ⊥
unlike x y differ same e = let wrong : false ≡ true = sym differ ∙ ap (bytes_eq x) (sym e) ∙ same in cc

told_body : (a b : Export) (s t : List ℕ) → IsShown a → IsShown b → HasSmall a → HasSmall b → letter a ≡ letter b → Short (body a ++ s) → body a ++ s ≡ body b ++ t → Told a b s t
told_body (constant x c) (constant y d) s t p q m n l h e =
    let behind : (field (type_text x) ++ field (value_text c)) ++ s ≡ field (type_text x) ++ (field (value_text c) ++ s) = append_assoc (field (type_text x)) (field (value_text c)) s in
    let other : (field (type_text y) ++ field (value_text d)) ++ t ≡ field (type_text y) ++ (field (value_text d) ++ t) = append_assoc (field (type_text y)) (field (value_text d)) t in
    let types = told_type x y (field (value_text c) ++ s) (field (value_text d) ++ t) p.0 q.0 (subst Short behind h) (sym behind ∙ e ∙ other) in
    let values = split_field (value_text c) (value_text d) s t types.2 types.1 in
    let value : c ≡ d = one_value y c d (subst (λ (z : Type'). IsValue z c) types.0 p.1) q.1 m n values.0 in
    (ap (λ (z : Type'). constant z c) types.0 ∙ ap (constant y) value, values.1, values.2)
told_body (variable x) (variable y) s t p q m n l h e = let types = told_type x y s t p q h e in (ap variable types.0, types.1, types.2)
told_body (function xs rs) (function ys us) s t p q m n l h e =
    let behind : (types_text xs ++ types_text rs) ++ s ≡ types_text xs ++ (types_text rs ++ s) = append_assoc (types_text xs) (types_text rs) s in
    let other : (types_text ys ++ types_text us) ++ t ≡ types_text ys ++ (types_text us ++ t) = append_assoc (types_text ys) (types_text us) t in
    let parameters = told_types xs ys (types_text rs ++ s) (types_text us ++ t) p.0 q.0 (subst Short behind h) (sym behind ∙ e ∙ other) in
    let results = told_types rs us s t p.1 q.1 parameters.2 parameters.1 in
    (ap (λ (z : List Type'). function z rs) parameters.0 ∙ ap (function ys) results.0, results.1, results.2)
told_body (type' x) (type' y) s t p q m n l h e = let types = told_type x y s t p q h e in (ap type' types.0, types.1, types.2)
told_body (constant x c) (variable y) s t p q m n l h e = absurd (unlike (codes "C") (codes "V") refl refl l)
told_body (constant x c) (function ys us) s t p q m n l h e = absurd (unlike (codes "C") (codes "F") refl refl l)
told_body (constant x c) (type' y) s t p q m n l h e = absurd (unlike (codes "C") (codes "T") refl refl l)
told_body (variable x) (constant y d) s t p q m n l h e = absurd (unlike (codes "V") (codes "C") refl refl l)
told_body (variable x) (function ys us) s t p q m n l h e = absurd (unlike (codes "V") (codes "F") refl refl l)
told_body (variable x) (type' y) s t p q m n l h e = absurd (unlike (codes "V") (codes "T") refl refl l)
told_body (function xs rs) (constant y d) s t p q m n l h e = absurd (unlike (codes "F") (codes "C") refl refl l)
told_body (function xs rs) (variable y) s t p q m n l h e = absurd (unlike (codes "F") (codes "V") refl refl l)
told_body (function xs rs) (type' y) s t p q m n l h e = absurd (unlike (codes "F") (codes "T") refl refl l)
told_body (type' x) (constant y d) s t p q m n l h e = absurd (unlike (codes "T") (codes "C") refl refl l)
told_body (type' x) (variable y) s t p q m n l h e = absurd (unlike (codes "T") (codes "V") refl refl l)
told_body (type' x) (function ys us) s t p q m n l h e = absurd (unlike (codes "T") (codes "F") refl refl l)

told_export : (a b : Export) (s t : List ℕ) → IsShown a → IsShown b → HasSmall a → HasSmall b → Short (export_text a ++ s) → export_text a ++ s ≡ export_text b ++ t → Told a b s t
told_export a b s t p q m n h e =
    let behind : export_text a ++ s ≡ field (letter a) ++ (body a ++ s) = ap (λ (x : List ℕ). x ++ s) (lettered a) ∙ append_assoc (field (letter a)) (body a) s in
    let other : export_text b ++ t ≡ field (letter b) ++ (body b ++ t) = ap (λ (x : List ℕ). x ++ t) (lettered b) ∙ append_assoc (field (letter b)) (body b) t in
    let letters = split_field (letter a) (letter b) (body a ++ s) (body b ++ t) (subst Short behind h) (sym behind ∙ e ∙ other) in
    told_body a b s t p q m n letters.0 letters.2 letters.1

told_named : (a b : List ℕ × Export) (s t : List ℕ) → IsShown a.1 → IsShown b.1 → HasSmall a.1 → HasSmall b.1 → Short (named_text a ++ s) → named_text a ++ s ≡ named_text b ++ t → Told a b s t
told_named a b s t p q m n h e =
    let behind : named_text a ++ s ≡ field a.0 ++ (export_text a.1 ++ s) = append_assoc (field a.0) (export_text a.1) s in
    let other : named_text b ++ t ≡ field b.0 ++ (export_text b.1 ++ t) = append_assoc (field b.0) (export_text b.1) t in
    let names = split_field a.0 b.0 (export_text a.1 ++ s) (export_text b.1 ++ t) (subst Short behind h) (sym behind ∙ e ∙ other) in
    let exports = told_export a.1 b.1 s t p q m n names.2 names.1 in
    (ap (λ (n : List ℕ). (n, a.1)) names.0 ∙ ap (λ (x : Export). (b.0, x)) exports.0, exports.1, exports.2)

told_exports : (xs ys : Exports) (s t : List ℕ) → All IsShown (values_of xs) → All IsShown (values_of ys)
    → All HasSmall (values_of xs) → All HasSmall (values_of ys) → length xs ≡ length ys → Short (flat_map named_text xs ++ s) → flat_map named_text xs ++ s ≡ flat_map named_text ys ++ t → Told xs ys s t
told_exports [] [] s t p q m n l h e = (refl, e, h)
told_exports [] (b ∷ ys) s t p q m n l h e = absurd (omega (arith, l))
told_exports (a ∷ xs) [] s t p q m n l h e = absurd (omega (arith, l))
told_exports (a ∷ xs) (b ∷ ys) s t p q m n l h e =
    let behind : (named_text a ++ flat_map named_text xs) ++ s ≡ named_text a ++ (flat_map named_text xs ++ s) = append_assoc (named_text a) (flat_map named_text xs) s in
    let other : (named_text b ++ flat_map named_text ys) ++ t ≡ named_text b ++ (flat_map named_text ys ++ t) = append_assoc (named_text b) (flat_map named_text ys) t in
    let first = told_named a b (flat_map named_text xs ++ s) (flat_map named_text ys ++ t) (All-head IsShown a.1 (values_of xs) p) (All-head IsShown b.1 (values_of ys) q)
    (All-head HasSmall a.1 (values_of xs) m) (All-head HasSmall b.1 (values_of ys) n) (subst Short behind h) (sym behind ∙ e ∙ other) in
    let lengths : length xs ≡ length ys = omega (arith, l) in
    let rest = told_exports xs ys s t (All-tail IsShown a.1 (values_of xs) p) (All-tail IsShown b.1 (values_of ys) q)
    (All-tail HasSmall a.1 (values_of xs) m) (All-tail HasSmall b.1 (values_of ys) n) lengths first.2 first.1 in
    (ap (λ (x : List ℕ × Export). x ∷ xs) first.0 ∙ ap (λ (zs : Exports). b ∷ zs) rest.0, rest.1, rest.2)

-- ---- summaries

some_named : (a : List ℕ × Export) → 0 < length (named_text a)
some_named a = some_field a.0 (export_text a.1)

abbrev behind_tag : Summary → List ℕ
behind_tag s = field s.path ++ (field s.«package» ++ (be (length s.exports) ++ (flat_map named_text s.exports ++ [])))

nested : (s : Summary) → summary_text s ≡ field (codes "goset summary") ++ behind_tag s
unfolding summary_text
nested s = five (field (codes "goset summary")) (field s.path) (field s.«package») (be (length s.exports)) (flat_map named_text s.exports)
  where
    five : (a b c d e : List ℕ) → (((a ++ b) ++ c) ++ d) ++ e ≡ a ++ (b ++ (c ++ (d ++ (e ++ []))))
    five a b c d e = simp (append_assoc, append-nil)

between : (x y u v : List ℕ) → x ≡ u → y ≡ v → x ≡ y → u ≡ v
between x y u v p q e = sym p ∙ e ∙ q

same_parts : (s t : Summary) → s.edition ≡ t.edition → s.path ≡ t.path → s.«package» ≡ t.«package» → s.exports ≡ t.exports → s ≡ t
same_parts s t o p q r = λ i. record { edition = o i; path = p i; «package» = q i; exports = r i }

pub one_summary : (s t : Summary) → IsWritten s → IsWritten t → s.edition ≡ t.edition → summary_text s ≡ summary_text t → s ≡ t
one_summary s t p q o e =
    let whole : field (codes "goset summary") ++ behind_tag s ≡ field (codes "goset summary") ++ behind_tag t =
    between (summary_text s) (summary_text t) (field (codes "goset summary") ++ behind_tag s) (field (codes "goset summary") ++ behind_tag t) (nested s) (nested t) e in
    let tags = split_field (codes "goset summary") (codes "goset summary") (behind_tag s) (behind_tag t) (subst Short (nested s) (short (summary_text s) p.sized)) whole in
    let paths = split_field s.path t.path _ _ tags.2 tags.1 in
    let names = split_field s.«package» t.«package» _ _ paths.2 paths.1 in
    let numbers = split_number (length s.exports) (length t.exports) _ _ (counted named_text some_named s.exports []) (counted named_text some_named t.exports []) names.2 names.1 in
    let exports = told_exports s.exports t.exports [] [] p.exports q.exports p.small q.small numbers.0 numbers.2 numbers.1 in
    same_parts s t o paths.0 names.0 exports.0
