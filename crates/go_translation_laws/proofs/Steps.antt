-- Along steps: where the cells of a part lie among those of the whole value, what they are with another value there, and the offset of the
-- part, as the machine finds it.
use Rattle.std.proofs.Common.{◌≡◌, ℕ, zero, suc, ◌+◌, ◌*◌, ◌≤◌, ◌<◌, ◌^◌, true, false, nat_lt, List, [], ◌∷◌, ◌++◌, length, Option, Some, None, refl, sym, ap, ◌∙◌, arith, length-append, append_assoc, append-nil, subst, ℤ, pos, negsuc}
use Rattle.std.specs.Prelude.{if◌then◌else◌, ⊤}
use Rattle.std.specs.List.{list_all}
use Rattle.std.proofs.lemmas.Bool.{le-leb, lt-leb}
use Rattle.go_types.specs.Types.{Type', array, struct, Fields, no_fields, field}
use Rattle.go_types.specs.Sizes.{cells}
use Rattle.go_code.specs.declared.cell.Cell.{Cell}
use Rattle.go_code.specs.declared.cell.Cell.TheVariants.{Int}
use Rattle.go_code.specs.declared.ending.PanicKind.{PanicKind}
use Rattle.go_code.specs.declared.ending.PanicKind.TheVariants.{Index as Out_of_range}
use Rattle.go_code.specs.declared.instr.PartInstr.TheVariants.{Move, Index}
use Rattle.go_code.specs.Operators as operators
use Rattle.go_code.specs.Operators.{Operated}
use Rattle.go_code.specs.Parts.{part, bind_index, offset_of}
use Rattle.go_meaning.specs.Values.{Value, single, parts, Values, no_values, some_values, unpack, flat, is_of, are_of_fields, Step, to_field, to_element, nth, part_of, with_part, read, updated, or_else, if_gives}
use Rattle.go_meaning.specs.Choices.{field_at}
use Rattle.go_code.specs.Rows.{most_room}
use Rattle.go_meaning.specs.Meaning.{most_cells}
use Rattle.go_gen.specs.Translation.{field_offset}
use Rattle.go_translation_laws.proofs.Frames.{if_true}
use Rattle.go_meaning_laws.proofs.Values.{flat_long}
use Rattle.go_translation_laws.proofs.Shapes.{both_true, same_number, field_among, element_among, nth_within, nth_beyond, nth_typed}

-- ---- one step

-- the part that a step leads to: its type, where its cells lie, and the cells of the whole with another value there
pub record Parted (v : Value) (s : Step) (u : Type') (x : Value) (at : ℕ) : Type 0 where
  pub before : List Cell
  pub after : List Cell
  pub typed : is_of u x ≡ true
  pub is : flat v ≡ before ++ (flat x ++ after)
  pub place : length before ≡ at
  pub renewed : (y : Value) → flat (with_part v s y) ≡ before ++ (flat y ++ after)

-- it lies within the whole
pub part_within : (v : Value) (s : Step) (u : Type') (x : Value) (at : ℕ) → Parted v s u x at → at + cells u ≤ length (flat v)
part_within v s u x at h = omega (arith, ap length h.is, length-append h.before (flat x ++ h.after), length-append (flat x) h.after, h.place, flat_long u x h.typed)

-- what an option has, where a value is given
pub has_given : (other : Operated Value) (o : Option Value) (x : Value) → ((y : Value) → other ≡ operators.Gives y → ⊥) → or_else other o ≡ operators.Gives x → o ≡ Some x
has_given other None x never e = absurd (never x e)
has_given other (Some y) x never e = cc

field_typed : (fs : Fields) (vs : Values) (n : ℕ) (u : Type') (x : Value) → are_of_fields fs (unpack vs) ≡ true → field_at fs n ≡ Some u → nth vs n ≡ Some x → is_of u x ≡ true
field_typed no_fields vs n u x e found is = cc
field_typed (field p y t fs) no_values n u x e found is = cc
field_typed (field p y t fs) (some_values v vs) zero u x e found is = let h = (both_true (is_of t v) (are_of_fields fs (unpack vs)) e).0 in cc
field_typed (field p y t fs) (some_values v vs) (suc n) u x e found is = field_typed fs vs n u x (both_true (is_of t v) (are_of_fields fs (unpack vs)) e).1 found is

pub field_parted : (fs : Fields) (n : ℕ) (u : Type') (v x : Value) → is_of (struct fs) v ≡ true → field_at fs n ≡ Some u → part_of v (to_field n) ≡ operators.Gives x → Parted v (to_field n) u x (field_offset fs n)
field_parted fs n u (single c) x typed found e = cc
field_parted fs n u (parts vs) x typed found e =
    let is = has_given operators.Senseless (nth vs n) x (λ y e1. cc) e in
    let at = field_among fs vs n x typed is in
    record { before = at.before; after = at.after; typed = field_typed fs vs n u x typed found is; is = at.is; place = at.place; renewed = at.renewed }

-- a field never panics
pub field_calm : (v : Value) (n : ℕ) (kind : PanicKind) → part_of v (to_field n) ≡ operators.Panics kind → ⊥
field_calm (single c) n kind e = cc
field_calm (parts vs) n kind e = by_case (nth vs n) e
  where
    by_case : (o : Option Value) → or_else operators.Senseless o ≡ operators.Panics kind → ⊥
    by_case None e = cc
    by_case (Some y) e = cc

element_parted : (count : ℕ) (u : Type') (vs : Values) (n : ℕ) (x : Value) → is_of (array count u) (parts vs) ≡ true → nth vs n ≡ Some x → Parted (parts vs) (to_element (pos n)) u x (n * cells u)
element_parted count u vs n x typed is =
    let h = both_true _ (list_all (is_of u) (unpack vs)) typed in
    let at = element_among u vs n x h.1 is in
    record { before = at.before; after = at.after; typed = nth_typed (is_of u) vs n x h.1 is; is = at.is; place = at.place; renewed = at.renewed }

-- ---- offsets, as the machine finds them

-- a row has room for the cells of a value
pub value_room : (n : ℕ) → n ≤ most_cells → n ≤ most_room
unfolding most_cells most_room
value_room n small = omega (arith, small)

-- no offset among the cells of a value or of a row is too large for it
pub offset_gives : (n : ℕ) → n ≤ most_room → offset_of (pos n) ≡ operators.Gives (Int (pos n) ∷ [])
unfolding most_room
offset_gives n small =
    let below : n < 2 ^ 64 = omega (arith, small) in
    if_true (nat_lt n (2 ^ 64)) (operators.Gives (Int (pos n) ∷ [])) operators.Senseless (le-leb (suc n) (2 ^ 64) below)

-- the offset of the part that a step leads to, where the whole value's is `base`
pub record Offset (v : Value) (s : Step) (u : Type') (x : Value) (base : ℕ) (got : Operated (List Cell)) : Type 0 where
  pub at : ℕ
  pub parted : Parted v s u x at
  pub got_is : got ≡ operators.Gives (Int (pos (base + at)) ∷ [])

-- an instruction finds it, or panics, as the step does
abbrev pub Finds : Value → Step → Type' → ℕ → Operated (List Cell) → Operated Value → Type 0
Finds v s u base got (operators.Gives x) = Offset v s u x base got
Finds v s u base got (operators.Panics kind) = got ≡ operators.Panics kind
Finds v s u base got operators.Senseless = ⊤

pub field_finds : (fs : Fields) (n : ℕ) (u : Type') (v : Value) (base : ℕ) → is_of (struct fs) v ≡ true → field_at fs n ≡ Some u → base + cells (struct fs) ≤ most_room → (o : Operated Value) → part_of v (to_field n) ≡ o → Finds v (to_field n) u base (part (Move (field_offset fs n)) (Int (pos base) ∷ [])) o
field_finds fs n u v base typed found small (operators.Gives x) e =
    let at = field_parted fs n u v x typed found e in
    let within : base + field_offset fs n ≤ most_room = omega (arith, small, part_within v (to_field n) u x (field_offset fs n) at, flat_long (struct fs) v typed) in
    record { at = field_offset fs n; parted = at; got_is = offset_gives (base + field_offset fs n) within }
field_finds fs n u v base typed found small (operators.Panics kind) e = absurd (field_calm v n kind e)
field_finds fs n u v base typed found small operators.Senseless e = tt

-- by whether there is an element of that number
element_found : (count : ℕ) (u : Type') (vs : Values) (n base : ℕ) (o : Option Value) → nth vs n ≡ o → is_of (array count u) (parts vs) ≡ true → base + count * cells u ≤ most_room → Finds (parts vs) (to_element (pos n)) u base (part (Index count (cells u)) (Int (pos base) ∷ Int (pos n) ∷ [])) (or_else (operators.Panics Out_of_range) o)
element_found count u vs n base (Some x) e typed small =
    let many = same_number (length (unpack vs)) count (both_true _ (list_all (is_of u) (unpack vs)) typed).0 in
    let below : n < count = omega (arith, nth_within vs n x e, many) in
    let at = element_parted count u vs n x typed e in
    let within : base + n * cells u ≤ most_room = omega (arith, small, part_within (parts vs) (to_element (pos n)) u x (n * cells u) at, flat_long (array count u) (parts vs) typed) in
    let test : nat_lt n count ≡ true = le-leb (suc n) count below in
    record {
      at = n * cells u;
      parted = at;
      got_is = ap (λ b. bind_index (if b then operators.Gives n else operators.Panics Out_of_range) (λ index. offset_of (pos (base + index * cells u)))) test ∙ offset_gives (base + n * cells u) within;
    }
element_found count u vs n base None e typed small =
    let many = same_number (length (unpack vs)) count (both_true _ (list_all (is_of u) (unpack vs)) typed).0 in
    let beyond : count < suc n = omega (arith, nth_beyond vs n e, many) in
    let test : nat_lt n count ≡ false = lt-leb (suc n) count beyond in
    ap (λ b. bind_index (if b then operators.Gives n else operators.Panics Out_of_range) (λ index. offset_of (pos (base + index * cells u)))) test

pub element_finds : (count : ℕ) (u : Type') (v : Value) (z : ℤ) (base : ℕ) → is_of (array count u) v ≡ true → base + cells (array count u) ≤ most_room → (o : Operated Value) → part_of v (to_element z) ≡ o → Finds v (to_element z) u base (part (Index count (cells u)) (Int (pos base) ∷ Int z ∷ [])) o
element_finds count u (single c) z base typed small o e = cc
element_finds count u (parts vs) (pos n) base typed small o e =
    subst (Finds (parts vs) (to_element (pos n)) u base (part (Index count (cells u)) (Int (pos base) ∷ Int (pos n) ∷ []))) e (element_found count u vs n base (nth vs n) refl typed small)
element_finds count u (parts vs) (negsuc n) base typed small o e =
    subst (Finds (parts vs) (to_element (negsuc n)) u base (part (Index count (cells u)) (Int (pos base) ∷ Int (negsuc n) ∷ []))) e refl

-- ---- several steps

-- the whole value with another part, and its cells
pub record Renewal (ss : List Step) (v y : Value) (before after : List Cell) : Type 0 where
  pub new : Value
  pub is : updated ss v y ≡ operators.Gives new
  pub row : flat new ≡ before ++ (flat y ++ after)

-- the part that steps lead to lies there among the whole value's cells, and where it is renewed the others stay
pub record Led (ss : List Step) (v x : Value) (at : ℕ) : Type 0 where
  pub before : List Cell
  pub after : List Cell
  pub is : flat v ≡ before ++ (flat x ++ after)
  pub place : length before ≡ at
  pub renewed : (y : Value) → Renewal ss v y before after

pub led_here : (v : Value) → Led [] v v 0
led_here v = record { before = []; after = []; is = sym (append-nil (flat v)); place = refl; renewed = λ y. record { new = y; is = refl; row = sym (append-nil (flat y)) } }

pub led_next : (s : Step) (ss : List Step) (u : Type') (v inner x : Value) (a b : ℕ) → part_of v s ≡ operators.Gives inner → Parted v s u inner a → Led ss inner x b → Led (s ∷ ss) v x (a + b)
led_next s ss u v inner x a b e one rest =
    let place : length (one.before ++ rest.before) ≡ a + b = omega (arith, length-append one.before rest.before, one.place, rest.place) in
    let regroup = λ (row : List Cell). within_both one.before rest.before row rest.after one.after in
    record {
      before = one.before ++ rest.before;
      after = rest.after ++ one.after;
      is = one.is ∙ ap (λ l. one.before ++ (l ++ one.after)) rest.is ∙ regroup (flat x);
      place = place;
      renewed = λ y.
          let r = rest.renewed y in
          record {
            new = with_part v s r.new;
            is = ap (λ o. if_gives o (λ z. if_gives (updated ss z y) (λ new. operators.Gives (with_part v s new)))) e ∙ ap (λ o. if_gives o (λ new. operators.Gives (with_part v s new))) r.is;
            row = one.renewed r.new ∙ ap (λ l. one.before ++ (l ++ one.after)) r.row ∙ regroup (flat y);
          };
    }
  where
    within_both : (a b row c d : List Cell) → a ++ ((b ++ (row ++ c)) ++ d) ≡ (a ++ b) ++ (row ++ (c ++ d))
    within_both a b row c d = simp append_assoc

-- what a read panics with, an update panics with; and an update makes no sense where a read makes none
pub update_panics : (ss : List Step) (v y : Value) (kind : PanicKind) → read ss v ≡ operators.Panics kind → updated ss v y ≡ operators.Panics kind
update_panics [] v y kind e = cc
update_panics (s ∷ ss) v y kind e = by_part (λ z. update_panics ss z y kind) (part_of v s) e
  where
    by_part : ((z : Value) → read ss z ≡ operators.Panics kind → updated ss z y ≡ operators.Panics kind) → (o : Operated Value) → if_gives o (read ss) ≡ operators.Panics kind → if_gives o (λ z. if_gives (updated ss z y) (λ new. operators.Gives (with_part v s new))) ≡ operators.Panics kind
    by_part others (operators.Gives z) e = ap (λ o. if_gives o (λ new. operators.Gives (with_part v s new))) (others z e)
    by_part others (operators.Panics k) e = e
    by_part others operators.Senseless e = cc

pub update_senseless : (ss : List Step) (v y : Value) → read ss v ≡ operators.Senseless → updated ss v y ≡ operators.Senseless
update_senseless [] v y e = cc
update_senseless (s ∷ ss) v y e = by_part (λ z. update_senseless ss z y) (part_of v s) e
  where
    by_part : ((z : Value) → read ss z ≡ operators.Senseless → updated ss z y ≡ operators.Senseless) → (o : Operated Value) → if_gives o (read ss) ≡ operators.Senseless → if_gives o (λ z. if_gives (updated ss z y) (λ new. operators.Gives (with_part v s new))) ≡ operators.Senseless
    by_part others (operators.Gives z) e = ap (λ o. if_gives o (λ new. operators.Gives (with_part v s new))) (others z e)
    by_part others (operators.Panics k) e = cc
    by_part others operators.Senseless e = refl
