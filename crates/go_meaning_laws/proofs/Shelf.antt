-- The arrays that slices are parts of stand on a shelf: for each, which type its elements have and how many there are. Values whose slices are parts of them.
use Rattle.std.proofs.Common.{◌≡◌, ℕ, zero, suc, ◌+◌, ◌≤◌, List, [], ◌∷◌, ◌++◌, take, drop, replicate, Some, refl, sym, ap, ◌∙◌, append_assoc, append-nil}
use Rattle.std.specs.Prelude.{slice_get, ⊤}
use Rattle.go_types.specs.Types.{Type', basic, array, slice, struct, named, Fields, no_fields, field}
use Rattle.go_types.specs.Relations.{underlying}
use Rattle.go_code.specs.declared.cell.Cell.TheVariants.{Int, Bool as Truth, Text, Slice}
use Rattle.go_code.specs.Rows.{most_room}
use Rattle.go_meaning.specs.Values.{Value, single, parts, pack_values, unpack, zero_of, zeros_of}

-- it says this of each behind array 0
abbrev pub Shelf : Type 0
Shelf = List (Type' × ℕ)

-- a shelf grows at its end: an array stays, with its type and its number of elements
pub record Grows (σ later : Shelf) : Type 0 where
  pub more : Shelf
  pub is : later ≡ σ ++ more

pub grows_not : (σ : Shelf) → Grows σ σ
grows_not σ = record { more = []; is = sym (append-nil σ) }

pub grows_then : (σ later last : Shelf) → Grows σ later → Grows later last → Grows σ last
grows_then σ later last h k = record { more = h.more ++ k.more; is = k.is ∙ ap (λ s. s ++ k.more) h.is ∙ append_assoc σ h.more k.more }

pub grows_one : (σ : Shelf) (a : Type' × ℕ) → Grows σ (σ ++ a ∷ [])
grows_one σ a = record { more = a ∷ []; is = refl }

-- a slice is a part of the array of that number, which has no more elements than there may be; array 0 has nothing
abbrev pub Lies : Shelf → Type' → ℕ → ℕ → ℕ → ℕ → Type 0
Lies σ t zero start n c = (start ≡ 0) × (n ≡ 0) × (c ≡ 0)
Lies σ t (suc r) start n c = (m : ℕ) × (slice_get σ r ≡ Some (t, m)) × (n ≤ c) × (start + c ≤ m) × (m ≤ most_room)

-- each is so
abbrev pub Each : (Value → Type 0) → List Value → Type 0
Each P [] = ⊤
Each P (v ∷ vs) = P v × Each P vs

pub each_map : (P Q : Value → Type 0) (vs : List Value) → ((v : Value) → P v → Q v) → Each P vs → Each Q vs
each_map P Q [] f h = tt
each_map P Q (v ∷ vs) f h = (f v h.0, each_map P Q vs f h.1)

pub each_append : (P : Value → Type 0) (us vs : List Value) → Each P us → Each P vs → Each P (us ++ vs)
each_append P [] vs h k = k
each_append P (u ∷ us) vs h k = (h.0, each_append P us vs h.1 k)

pub each_take : (P : Value → Type 0) (n : ℕ) (vs : List Value) → Each P vs → Each P (take n vs)
each_take P zero vs h = tt
each_take P (suc n) [] h = tt
each_take P (suc n) (v ∷ vs) h = (h.0, each_take P n vs h.1)

pub each_drop : (P : Value → Type 0) (n : ℕ) (vs : List Value) → Each P vs → Each P (drop n vs)
each_drop P zero vs h = h
each_drop P (suc n) [] h = tt
each_drop P (suc n) (v ∷ vs) h = each_drop P n vs h.1

pub each_copy : (P : Value → Type 0) (n : ℕ) (v : Value) → P v → Each P (replicate n v)
each_copy P zero v h = tt
each_copy P (suc n) v h = (h, each_copy P n v h)

abbrev mutual
  pub Rooted : Shelf → Type' → Value → Type 0
  Rooted σ (basic b) v = ⊤
  Rooted σ (array n t) (single c) = ⊤
  Rooted σ (array n t) (parts vs) = Each (Rooted σ t) (unpack vs)
  Rooted σ (slice t) (single (Slice r start n c)) = Lies σ t r start n c
  Rooted σ (slice t) v = ⊤
  Rooted σ (struct fs) (single c) = ⊤
  Rooted σ (struct fs) (parts vs) = FieldsRooted σ fs (unpack vs)
  Rooted σ (named p x t) v = Rooted σ t v

  pub FieldsRooted : Shelf → Fields → List Value → Type 0
  FieldsRooted σ no_fields vs = ⊤
  FieldsRooted σ (field p x t fs) [] = ⊤
  FieldsRooted σ (field p x t fs) (v ∷ vs) = Rooted σ t v × FieldsRooted σ fs vs

pub rooted_under : (σ : Shelf) (t : Type') (v : Value) → Rooted σ t v → Rooted σ (underlying t) v
rooted_under σ (basic b) v h = h
rooted_under σ (array n t) v h = h
rooted_under σ (slice t) v h = h
rooted_under σ (struct fs) v h = h
rooted_under σ (named p x t) v h = rooted_under σ t v h

pub under_rooted : (σ : Shelf) (t : Type') (v : Value) → Rooted σ (underlying t) v → Rooted σ t v
under_rooted σ (basic b) v h = h
under_rooted σ (array n t) v h = h
under_rooted σ (slice t) v h = h
under_rooted σ (struct fs) v h = h
under_rooted σ (named p x t) v h = under_rooted σ t v h

-- ---- a longer shelf

pub get_more : (σ more : Shelf) (r : ℕ) (a : Type' × ℕ) → slice_get σ r ≡ Some a → slice_get (σ ++ more) r ≡ Some a
get_more [] more r a e = cc
get_more (b ∷ σ) more zero a e = e
get_more (b ∷ σ) more (suc r) a e = get_more σ more r a e

lies_more : (σ more : Shelf) (t : Type') (r start n c : ℕ) → Lies σ t r start n c → Lies (σ ++ more) t r start n c
lies_more σ more t zero start n c h = h
lies_more σ more t (suc r) start n c h = (h.0, get_more σ more r (t, h.0) h.1, h.2, h.3, h.4)

mutual
  pub rooted_more : (σ more : Shelf) (t : Type') (v : Value) → Rooted σ t v → Rooted (σ ++ more) t v
  rooted_more σ more (basic b) v h = tt
  rooted_more σ more (array n t) (single c) h = tt
  rooted_more σ more (array n t) (parts vs) h = each_map (Rooted σ t) (Rooted (σ ++ more) t) (unpack vs) (rooted_more σ more t) h
  rooted_more σ more (slice t) (single (Slice r start n c)) h = lies_more σ more t r start n c h
  rooted_more σ more (slice t) (single (Int z)) h = tt
  rooted_more σ more (slice t) (single (Truth b)) h = tt
  rooted_more σ more (slice t) (single (Text s)) h = tt
  rooted_more σ more (slice t) (parts vs) h = tt
  rooted_more σ more (struct fs) (single c) h = tt
  rooted_more σ more (struct fs) (parts vs) h = fields_more σ more fs (unpack vs) h
  rooted_more σ more (named p x t) v h = rooted_more σ more t v h

  fields_more : (σ more : Shelf) (fs : Fields) (vs : List Value) → FieldsRooted σ fs vs → FieldsRooted (σ ++ more) fs vs
  fields_more σ more no_fields vs h = tt
  fields_more σ more (field p x t fs) [] h = tt
  fields_more σ more (field p x t fs) (v ∷ vs) h = (rooted_more σ more t v h.0, fields_more σ more fs vs h.1)

-- ---- zero values

copies_rooted : (P : Value → Type 0) (v : Value) (n : ℕ) → P v → Each P (unpack (pack_values (replicate n v)))
copies_rooted P v zero h = tt
copies_rooted P v (suc n) h = (h, copies_rooted P v n h)

mutual
  pub zero_rooted : (σ : Shelf) (t : Type') → Rooted σ t (zero_of t)
  zero_rooted σ (basic b) = tt
  zero_rooted σ (array n t) = copies_rooted (Rooted σ t) (zero_of t) n (zero_rooted σ t)
  zero_rooted σ (slice t) = (refl, refl, refl)
  zero_rooted σ (struct fs) = zeros_rooted σ fs
  zero_rooted σ (named p x t) = zero_rooted σ t

  zeros_rooted : (σ : Shelf) (fs : Fields) → FieldsRooted σ fs (unpack (zeros_of fs))
  zeros_rooted σ no_fields = tt
  zeros_rooted σ (field p x t fs) = (zero_rooted σ t, zeros_rooted σ fs)
