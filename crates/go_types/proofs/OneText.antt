-- The text of a type tells the type.
use Rattle.std.proofs.Common.{◌≡◌, ℕ, ◌<◌, ◌^◌, Bool, true, false, not, ◌&&◌, ◌||◌, cond, List, [], ◌∷◌, ◌++◌, length, append_assoc, append-nil, Option, Some, None, codes, bytes_eq, refl, ap, sym, ◌∙◌, subst, arith}
use Rattle.std.specs.Prelude.{◌==◌}
use Rattle.std.specs.Fmt.{decimal}
use Rattle.std.proofs.lemmas.Fmt.{decimal_by_steps, decimal_injective, decimal_nonempty}
use Rattle.std.proofs.lemmas.List.{append_cancel_left}
use Rattle.go_const.specs.declared.kind.IntKind.TheVariants as integers
use Rattle.go_types.specs.declared.types.Basic.{Basic}
use Rattle.go_types.specs.declared.types.Basic.TheVariants as basics
use Rattle.go_types.specs.declared.types.Untyped.TheVariants as kinds
use Rattle.go_types.specs.Types.{Type', basic, array, slice, struct, named, Fields, no_fields, field}
use Rattle.go_types.specs.Texts.{basic_text, name_text, type_text, fields_text, Lacks, IsWritable, AreWritable}

-- bytes that begin what stands behind a word: ( ) ; [ {
abbrev is_mark : ℕ → Bool
is_mark c = (c == 40) || (c == 41) || (c == 59) || (c == 91) || (c == 123)

-- the text is empty or begins with a mark
abbrev is_marked : List ℕ → Bool
is_marked [] = true
is_marked (c ∷ _) = is_mark c

-- the text has no mark
abbrev is_word : List ℕ → Bool
is_word [] = true
is_word (c ∷ text) = not (is_mark c) && is_word text

not_both : (m r : Bool) → m ≡ true → (not m && r) ≡ true → ⊥
not_both true r p q = cc
not_both false r p q = cc

second : (m r : Bool) → (not m && r) ≡ true → r ≡ true
second true r q = cc
second false r q = q

-- equal texts, split behind their words
split_word : (a b x y : List ℕ) → is_word a ≡ true → is_word b ≡ true → is_marked x ≡ true → is_marked y ≡ true → a ++ x ≡ b ++ y → (a ≡ b) × (x ≡ y)
split_word [] [] x y p q h k e = (refl, e)
split_word [] (d ∷ b) x y p q h k e = absurd (not_both (is_mark d) (is_word b) (subst (λ (l : List ℕ). is_marked l ≡ true) e h) q)
split_word (c ∷ a) [] x y p q h k e = absurd (not_both (is_mark c) (is_word a) (subst (λ (l : List ℕ). is_marked l ≡ true) (sym e) k) p)
split_word (c ∷ a) (d ∷ b) x y p q h k e =
    let heads : c ≡ d = cc in
    let tails : a ++ x ≡ b ++ y = cc in
    let both = split_word a b x y (second (is_mark c) (is_word a) p) (second (is_mark d) (is_word b) q) h k tails in
    (let same = both.0 in cc, both.1)

tail_same : (c : ℕ) (a b : List ℕ) → c ∷ a ≡ c ∷ b → a ≡ b
tail_same c a b e = cc

head_same : (c d : ℕ) (a b : List ℕ) → c ∷ a ≡ d ∷ b → c ≡ d
head_same c d a b e = cc

tails_same : (c d : ℕ) (a b : List ℕ) → c ∷ a ≡ d ∷ b → a ≡ b
tails_same c d a b e = cc

-- equal texts, split at their first byte c
split_first : (c : ℕ) (a b x y : List ℕ) → Lacks c a → Lacks c b → a ++ c ∷ x ≡ b ++ c ∷ y → (a ≡ b) × (x ≡ y)
split_first c [] [] x y p q e = (refl, tail_same c x y e)
split_first c [] (d ∷ b) x y p q e = absurd (q.0 (sym (head_same c d x _ e)))
split_first c (d ∷ a) [] x y p q e = absurd (p.0 (head_same d c _ y e))
split_first c (d ∷ a) (f ∷ b) x y p q e =
    let heads : d ≡ f = head_same d f _ _ e in
    let both = split_first c a b x y p.1 q.1 (tails_same d f _ _ e) in
    (let same = both.0 in cc, both.1)

lacks_none : (c : ℕ) (a b : List ℕ) → Lacks c (a ++ c ∷ b) → ⊥
lacks_none c [] b h = h.0 refl
lacks_none c (d ∷ a) b h = lacks_none c a b h.1

lacks_append : (c : ℕ) (a b : List ℕ) → Lacks c a → Lacks c b → Lacks c (a ++ b)
lacks_append c [] b p q = q
lacks_append c (d ∷ a) b p q = (p.0, lacks_append c a b p.1 q)

-- equal texts, split at their last dot
split_last : (p q n m : List ℕ) → Lacks 46 n → Lacks 46 m → p ++ 46 ∷ n ≡ q ++ 46 ∷ m → (p ≡ q) × (n ≡ m)
split_last [] [] n m h k e = (refl, tail_same 46 n m e)
split_last [] (d ∷ q) n m h k e = absurd (lacks_none 46 q m (subst (Lacks 46) (tails_same 46 d n _ e) h))
split_last (c ∷ p) [] n m h k e = absurd (lacks_none 46 p n (subst (Lacks 46) (sym (tails_same c 46 _ m e)) k))
split_last (c ∷ p) (d ∷ q) n m h k e =
    let heads : c ≡ d = head_same c d _ _ e in
    let both = split_last p q n m h k (tails_same c d _ _ e) in
    (let same = both.0 in cc, both.1)

dotted : (p n : List ℕ) → name_text (Some p) n ≡ p ++ 46 ∷ n
dotted p n = append_assoc p (46 ∷ []) n

one_name : (o r : Option (List ℕ)) (n m : List ℕ) → Lacks 46 n → Lacks 46 m → name_text o n ≡ name_text r m → (o ≡ r) × (n ≡ m)
one_name None None n m h k e = (refl, e)
one_name None (Some q) n m h k e = absurd (lacks_none 46 q m (subst (Lacks 46) (e ∙ dotted q m) h))
one_name (Some p) None n m h k e = absurd (lacks_none 46 p n (subst (Lacks 46) (sym e ∙ dotted p n) k))
one_name (Some p) (Some q) n m h k e = let both = split_last p q n m h k (sym (dotted p n) ∙ e ∙ dotted q m) in (ap Some both.0, both.1)

-- the basic type of a name
abbrev basic_named : List ℕ → Option Basic
basic_named text =
    cond (bytes_eq text (codes "bool")) (Some basics.Bool) (
    cond (bytes_eq text (codes "string")) (Some basics.String) (
    cond (bytes_eq text (codes "int")) (Some (basics.Integer integers.Int)) (
    cond (bytes_eq text (codes "int8")) (Some (basics.Integer integers.Int8)) (
    cond (bytes_eq text (codes "int16")) (Some (basics.Integer integers.Int16)) (
    cond (bytes_eq text (codes "int32")) (Some (basics.Integer integers.Int32)) (
    cond (bytes_eq text (codes "int64")) (Some (basics.Integer integers.Int64)) (
    cond (bytes_eq text (codes "uint")) (Some (basics.Integer integers.Uint)) (
    cond (bytes_eq text (codes "uint8")) (Some (basics.Integer integers.Uint8)) (
    cond (bytes_eq text (codes "uint16")) (Some (basics.Integer integers.Uint16)) (
    cond (bytes_eq text (codes "uint32")) (Some (basics.Integer integers.Uint32)) (
    cond (bytes_eq text (codes "uint64")) (Some (basics.Integer integers.Uint64)) (
    cond (bytes_eq text (codes "untyped bool")) (Some (basics.Untyped kinds.Bool)) (
    cond (bytes_eq text (codes "untyped int")) (Some (basics.Untyped kinds.Int)) (
    cond (bytes_eq text (codes "untyped rune")) (Some (basics.Untyped kinds.Rune)) (
    cond (bytes_eq text (codes "untyped string")) (Some (basics.Untyped kinds.String)) (None))))))))))))))))

basic_is : (b : Basic) → (basic_named (basic_text b) ≡ Some b) × (is_word (basic_text b) ≡ true)
basic_is basics.Bool = (refl, refl)
basic_is basics.String = (refl, refl)
basic_is (basics.Integer integers.Int) = (refl, refl)
basic_is (basics.Integer integers.Int8) = (refl, refl)
basic_is (basics.Integer integers.Int16) = (refl, refl)
basic_is (basics.Integer integers.Int32) = (refl, refl)
basic_is (basics.Integer integers.Int64) = (refl, refl)
basic_is (basics.Integer integers.Uint) = (refl, refl)
basic_is (basics.Integer integers.Uint8) = (refl, refl)
basic_is (basics.Integer integers.Uint16) = (refl, refl)
basic_is (basics.Integer integers.Uint32) = (refl, refl)
basic_is (basics.Integer integers.Uint64) = (refl, refl)
basic_is (basics.Untyped kinds.Bool) = (refl, refl)
basic_is (basics.Untyped kinds.Int) = (refl, refl)
basic_is (basics.Untyped kinds.Rune) = (refl, refl)
basic_is (basics.Untyped kinds.String) = (refl, refl)

basic_one : (b c : Basic) → basic_text b ≡ basic_text c → b ≡ c
basic_one b c e = let same : Some b ≡ Some c = sym (basic_is b).0 ∙ ap basic_named e ∙ (basic_is c).0 in cc

not_basic : (b : Basic) (text : List ℕ) → basic_named text ≡ None → basic_text b ≡ text → ⊥
not_basic b text none e = let same : Some b ≡ None = sym (basic_is b).0 ∙ ap basic_named e ∙ none in cc

lacks_decimal : (n : ℕ) → n < 2 ^ 32 → Lacks 93 (decimal n)
lacks_decimal n small =
    decimal_by_steps (λ (_ : ℕ) (ds : List ℕ). Lacks 93 ds)
    (λ n h. ((λ e. omega arith), tt))
    (λ n ds h lacks. lacks_append 93 ds _ lacks ((λ e. omega arith), tt))
    n (omega (arith, small))

array_text : (n : ℕ) (t : Type') (x : List ℕ) → type_text (array n t) ++ x ≡ 91 ∷ (decimal n ++ 93 ∷ (type_text t ++ x))
array_text n t x = simp append_assoc

slice_text : (t : Type') (x : List ℕ) → type_text (slice t) ++ x ≡ 91 ∷ 93 ∷ (type_text t ++ x)
slice_text t x = simp append_assoc

struct_text : (f : Fields) (x : List ℕ) → type_text (struct f) ++ x ≡ codes "struct{" ++ (fields_text f ++ 125 ∷ x)
struct_text f x = simp append_assoc

named_text : (path name : List ℕ) (t : Type') (x : List ℕ) → type_text (named path name t) ++ x ≡ 40 ∷ (name_text (Some path) name ++ 32 ∷ (type_text t ++ 41 ∷ x))
named_text path name t x = simp append_assoc

field_text : (p : Option (List ℕ)) (name : List ℕ) (t : Type') (f : Fields) (x : List ℕ) → fields_text (field p name t f) ++ x ≡ name_text p name ++ 32 ∷ (type_text t ++ 59 ∷ (fields_text f ++ x))
field_text p name t f x = simp append_assoc

unlike : (c d : ℕ) (a b : List ℕ) → (c == d) ≡ false → (c == c) ≡ true → c ∷ a ≡ d ∷ b → ⊥
unlike c d a b p q e =
    let same : c ≡ d = cc in
    let both : (c == d) ≡ true = ap (λ (k : ℕ). c == k) (sym same) ∙ q in
    let wrong : false ≡ true = sym p ∙ both in
    cc

-- no name begins with a closing brace
not_closing : (w rest x : List ℕ) → Lacks 125 w → 125 ∷ x ≡ w ++ 32 ∷ rest → ⊥
not_closing [] rest x lacks e = unlike 125 32 x rest refl refl e
not_closing (c ∷ w) rest x lacks e = lacks.0 (sym (head_same 125 c x _ e))

-- forms that begin alike with no basic type
no_empty : (b : Basic) (c : ℕ) (x y : List ℕ) → is_mark c ≡ true → is_marked x ≡ true → basic_text b ++ x ≡ c ∷ y → ⊥
no_empty b c x y m h e = not_basic b [] refl (split_word (basic_text b) [] x (c ∷ y) (basic_is b).1 refl h m e).0

no_struct : (b : Basic) (x y : List ℕ) → is_marked x ≡ true → basic_text b ++ x ≡ codes "struct{" ++ y → ⊥
no_struct b x y h e = not_basic b (codes "struct") refl (split_word (basic_text b) (codes "struct") x (123 ∷ y) (basic_is b).1 refl h refl e).0

not_empty : (l : List ℕ) → l ≡ [] → 0 < length l → ⊥
not_empty [] e some = omega arith
not_empty (c ∷ l) e some = cc

-- a length is written, so no array begins as a slice does
no_length : (n : ℕ) (x y : List ℕ) → n < 2 ^ 32 → 91 ∷ (decimal n ++ 93 ∷ x) ≡ 91 ∷ 93 ∷ y → ⊥
no_length n x y small e =
    let none : decimal n ≡ [] = (split_first 93 (decimal n) [] x y (lacks_decimal n small) tt (tail_same 91 _ _ e)).0 in
    let some : 0 < length (decimal n) = decimal_nonempty n (omega (arith, small)) in
    absurd (not_empty (decimal n) none some)

mutual
  one_type : (a b : Type') (x y : List ℕ) → IsWritable a → IsWritable b → is_marked x ≡ true → is_marked y ≡ true → type_text a ++ x ≡ type_text b ++ y → (a ≡ b) × (x ≡ y)
  one_type (basic b) (basic c) x y p q h k e =
      let both = split_word (basic_text b) (basic_text c) x y (basic_is b).1 (basic_is c).1 h k e in
      (ap basic (basic_one b c both.0), both.1)
  one_type (basic b) (array n t) x y p q h k e = absurd (no_empty b 91 x _ refl h (e ∙ array_text n t y))
  one_type (basic b) (slice t) x y p q h k e = absurd (no_empty b 91 x _ refl h (e ∙ slice_text t y))
  one_type (basic b) (struct g) x y p q h k e = absurd (no_struct b x _ h (e ∙ struct_text g y))
  one_type (basic b) (named path name t) x y p q h k e = absurd (no_empty b 40 x _ refl h (e ∙ named_text path name t y))
  one_type (array n t) (basic c) x y p q h k e = absurd (no_empty c 91 y _ refl k (sym e ∙ array_text n t x))
  one_type (array m a) (array n b) x y p q h k e =
      let behind = tail_same 91 _ _ (sym (array_text m a x) ∙ e ∙ array_text n b y) in
      let lengths = split_first 93 (decimal m) (decimal n) _ _ (lacks_decimal m p.0) (lacks_decimal n q.0) behind in
      let length : m ≡ n = decimal_injective m n (omega (arith, p.0)) (omega (arith, q.0)) lengths.0 in
      let inside = one_type a b x y p.1 q.1 h k lengths.1 in
      (let same = inside.0 in cc, inside.1)
  one_type (array n a) (slice b) x y p q h k e = absurd (no_length n _ _ p.0 (sym (array_text n a x) ∙ e ∙ slice_text b y))
  one_type (array n t) (struct g) x y p q h k e = absurd (unlike 91 115 _ _ refl refl (sym (array_text n t x) ∙ e ∙ struct_text g y))
  one_type (array n t) (named path name b) x y p q h k e = absurd (unlike 91 40 _ _ refl refl (sym (array_text n t x) ∙ e ∙ named_text path name b y))
  one_type (slice t) (basic c) x y p q h k e = absurd (no_empty c 91 y _ refl k (sym e ∙ slice_text t x))
  one_type (slice a) (array n b) x y p q h k e = absurd (no_length n _ _ q.0 (sym (array_text n b y) ∙ sym e ∙ slice_text a x))
  one_type (slice a) (slice b) x y p q h k e =
      let inside = one_type a b x y p q h k (tail_same 93 _ _ (tail_same 91 _ _ (sym (slice_text a x) ∙ e ∙ slice_text b y))) in
      (ap slice inside.0, inside.1)
  one_type (slice t) (struct g) x y p q h k e = absurd (unlike 91 115 _ _ refl refl (sym (slice_text t x) ∙ e ∙ struct_text g y))
  one_type (slice t) (named path name b) x y p q h k e = absurd (unlike 91 40 _ _ refl refl (sym (slice_text t x) ∙ e ∙ named_text path name b y))
  one_type (struct f) (basic c) x y p q h k e = absurd (no_struct c y _ k (sym e ∙ struct_text f x))
  one_type (struct f) (array n t) x y p q h k e = absurd (unlike 91 115 _ _ refl refl (sym (array_text n t y) ∙ sym e ∙ struct_text f x))
  one_type (struct f) (slice t) x y p q h k e = absurd (unlike 91 115 _ _ refl refl (sym (slice_text t y) ∙ sym e ∙ struct_text f x))
  one_type (struct f) (struct g) x y p q h k e =
      let inside = one_fields f g x y p q (append_cancel_left (codes "struct{") (fields_text f ++ 125 ∷ x) (fields_text g ++ 125 ∷ y) (sym (struct_text f x) ∙ e ∙ struct_text g y)) in
      (ap struct inside.0, inside.1)
  one_type (struct f) (named path name t) x y p q h k e = absurd (unlike 40 115 _ _ refl refl (sym (named_text path name t y) ∙ sym e ∙ struct_text f x))
  one_type (named path name t) (basic c) x y p q h k e = absurd (no_empty c 40 y _ refl k (sym e ∙ named_text path name t x))
  one_type (named path name a) (array n t) x y p q h k e = absurd (unlike 91 40 _ _ refl refl (sym (array_text n t y) ∙ sym e ∙ named_text path name a x))
  one_type (named path name a) (slice t) x y p q h k e = absurd (unlike 91 40 _ _ refl refl (sym (slice_text t y) ∙ sym e ∙ named_text path name a x))
  one_type (named path name t) (struct g) x y p q h k e = absurd (unlike 40 115 _ _ refl refl (sym (named_text path name t x) ∙ e ∙ struct_text g y))
  one_type (named path name a) (named other word b) x y p q h k e =
      let behind = tail_same 40 _ _ (sym (named_text path name a x) ∙ e ∙ named_text other word b y) in
      let words = split_first 32 (name_text (Some path) name) (name_text (Some other) word) _ _ (p.0).0 (q.0).0 behind in
      let names = one_name (Some path) (Some other) name word (p.0).2 (q.0).2 words.0 in
      let inside = one_type a b (41 ∷ x) (41 ∷ y) p.1 q.1 refl refl words.1 in
      (let one = names.0 in let two = names.1 in let three = inside.0 in cc, tail_same 41 x y inside.1)

  one_fields : (f g : Fields) (x y : List ℕ) → AreWritable f → AreWritable g → fields_text f ++ 125 ∷ x ≡ fields_text g ++ 125 ∷ y → (f ≡ g) × (x ≡ y)
  one_fields no_fields no_fields x y p q e = (refl, tail_same 125 x y e)
  one_fields no_fields (field r m b g) x y p q e = absurd (not_closing (name_text r m) _ x (q.0).1 (e ∙ field_text r m b g (125 ∷ y)))
  one_fields (field o n a f) no_fields x y p q e = absurd (not_closing (name_text o n) _ y (p.0).1 (sym e ∙ field_text o n a f (125 ∷ x)))
  one_fields (field o n a f) (field r m b g) x y p q e =
      let words = split_first 32 (name_text o n) (name_text r m) _ _ (p.0).0 (q.0).0 (sym (field_text o n a f (125 ∷ x)) ∙ e ∙ field_text r m b g (125 ∷ y)) in
      let names = one_name o r n m (p.0).2 (q.0).2 words.0 in
      let inside = one_type a b (59 ∷ (fields_text f ++ 125 ∷ x)) (59 ∷ (fields_text g ++ 125 ∷ y)) p.1 q.1 refl refl words.1 in
      let others = one_fields f g x y p.2 q.2 (tail_same 59 _ _ inside.1) in
      (let one = names.0 in let two = names.1 in let three = inside.0 in let four = others.0 in cc, others.1)

pub one_text : (a b : Type') → IsWritable a → IsWritable b → type_text a ≡ type_text b → a ≡ b
one_text a b p q e = (one_type a b [] [] p q refl refl (append-nil (type_text a) ∙ e ∙ sym (append-nil (type_text b)))).0
