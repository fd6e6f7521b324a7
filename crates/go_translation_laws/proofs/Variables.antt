-- Variables that get another value: where their cells lie, and what stays as it is.
use Rattle.std.proofs.Common.{◌≡◌, ℕ, zero, suc, ◌+◌, Bool, true, false, cond, List, [], ◌∷◌, ◌++◌, length, Option, Some, None, refl, sym, ap, ◌∙◌, subst, arith, length-append, append_assoc}
use Rattle.std.specs.Prelude.{if◌then◌else◌, slice_get, slice_set}
use Rattle.std.specs.List.{find}
use Rattle.std.specs.Option.{option_map, option_and_then}
use Rattle.go_types.specs.Sizes.{cells}
use Rattle.go_code.specs.declared.cell.Cell.{Cell}
use Rattle.go_code.specs.Finals.{Final}
use Rattle.go_typed.specs.Trees.{Symbol}
use Rattle.go_meaning.specs.Values.{Value, flat, is_of}
use Rattle.go_symbol.specs.Symbols.{same_symbol}
use Rattle.go_meaning.specs.Meaning.{Stored, ProgramState, Local, Locals, if_known, with_local, with_global}
use Rattle.go_translation_laws.proofs.Frames.{types_of}
use Rattle.go_meaning_laws.proofs.Values.{flat_long}
use Rattle.go_translation_laws.proofs.Runs.{Onward, held, Sized, global_at}

-- ---- local variables

same_local : (x l : Local) → Some x ≡ Some l → x ≡ l
same_local x l e = cc

pub types_stay : (locals : Locals) (n : ℕ) (l m : Local) → slice_get locals n ≡ Some l → m.of ≡ l.of → types_of (slice_set locals n m) ≡ types_of locals
types_stay [] n l m found e = cc
types_stay (x ∷ xs) zero l m found e = ap (λ t. t ∷ types_of xs) (e ∙ sym (ap (λ (y : Local). y.of) (same_local x l found)))
types_stay (x ∷ xs) (suc n) l m found e = ap (λ ts. x.of ∷ ts) (types_stay xs n l m found e)

-- a local variable that gets a value
pub local_put : (final : Final) (P : Locals → ProgramState → Type 0) (locals : Locals) (n : ℕ) (l : Local) (new : Value) (w : ProgramState) → slice_get locals n ≡ Some l → Onward final P (if_known (with_local locals n new) w) → (is_of l.of new ≡ true) × P (slice_set locals n (record { of = l.of; value = Some new })) w
local_put final P locals n l new w found h =
    by_test (is_of l.of new) refl
    (subst (λ o. Onward final P (if_known (option_and_then (λ m. if is_of m.of new then Some (slice_set locals n (record { of = m.of; value = Some new })) else None) o) w)) found h)
  where
    by_test : (b : Bool) → is_of l.of new ≡ b → Onward final P (if_known (if b then Some (slice_set locals n (record { of = l.of; value = Some new })) else None) w) → (is_of l.of new ≡ true) × P (slice_set locals n (record { of = l.of; value = Some new })) w
    by_test true e h = (e, h)
    by_test false e h = absurd h

-- ---- package variables

-- the first of a symbol has another value
pub record GlobalPut (variables changed : List Stored) (s : Symbol) (v new : Value) : Type 0 where
  pub before : List Cell
  pub after : List Cell
  pub was : held variables ≡ before ++ (flat v ++ after)
  pub is : held changed ≡ before ++ (flat new ++ after)
  pub place : length before ≡ global_at variables s
  pub long : length (flat new) ≡ length (flat v)
  pub sized : Sized changed
  pub same : (r : Symbol) → global_at changed r ≡ global_at variables r

global_put_first : (x : Stored) (xs : List Stored) (s : Symbol) (new : Value) → Sized (x ∷ xs) → same_symbol s x.symbol ≡ true → is_of x.of new ≡ true → GlobalPut (x ∷ xs) (record x { value = new } ∷ xs) s x.value new
global_put_first x xs s new sized found typed = record {
  before = [];
  after = held xs;
  was = refl;
  is = refl;
  place = ap (λ b. if b then 0 else cells x.of + global_at xs s) (sym found);
  long = flat_long x.of new typed ∙ sym sized.0;
  sized = (flat_long x.of new typed, sized.1);
  same = λ r. refl;
}

global_put_next : (x : Stored) (xs ys : List Stored) (s : Symbol) (v new : Value) → Sized (x ∷ xs) → same_symbol s x.symbol ≡ false → GlobalPut xs ys s v new → GlobalPut (x ∷ xs) (x ∷ ys) s v new
global_put_next x xs ys s v new sized found h =
    let long : length (flat x.value ++ h.before) ≡ cells x.of + global_at xs s = omega (arith, length-append (flat x.value) h.before, sized.0, h.place) in
    record {
      before = flat x.value ++ h.before;
      after = h.after;
      was = ap (λ l. flat x.value ++ l) h.was ∙ sym (append_assoc (flat x.value) h.before (flat v ++ h.after));
      is = ap (λ l. flat x.value ++ l) h.is ∙ sym (append_assoc (flat x.value) h.before (flat new ++ h.after));
      place = long ∙ ap (λ b. if b then 0 else cells x.of + global_at xs s) (sym found);
      long = h.long;
      sized = (sized.0, h.sized);
      same = λ r. ap (λ n. if same_symbol r x.symbol then 0 else cells x.of + n) (h.same r);
    }

pub global_put : (variables : List Stored) (s : Symbol) (v new : Value) (changed : List Stored) → Sized variables → option_map (λ x. x.value) (find (λ x. same_symbol s x.symbol) variables) ≡ Some v → with_global variables s new ≡ Some changed → GlobalPut variables changed s v new
global_put [] s v new changed sized found e = cc
global_put (x ∷ xs) s v new changed sized found e = by_symbol (λ ys. global_put xs s v new ys sized.1) (same_symbol s x.symbol) refl found e
  where
    by_type : (b : Bool) → is_of x.of new ≡ b → same_symbol s x.symbol ≡ true → Some x.value ≡ Some v → (if b then Some (record x { value = new } ∷ xs) else None) ≡ Some changed → GlobalPut (x ∷ xs) changed s v new
    by_type true typed is found e =
        let value : x.value ≡ v = cc in
        let all : record x { value = new } ∷ xs ≡ changed = cc in
        subst (λ y. GlobalPut (x ∷ xs) changed s y new) value (subst (λ ys. GlobalPut (x ∷ xs) ys s x.value new) all (global_put_first x xs s new sized is typed))
    by_type false typed is found e = cc

    by_rest : (o : Option (List Stored)) → with_global xs s new ≡ o → ((ys : List Stored) → with_global xs s new ≡ Some ys → GlobalPut xs ys s v new) → same_symbol s x.symbol ≡ false → option_map (λ ys. x ∷ ys) o ≡ Some changed → GlobalPut (x ∷ xs) changed s v new
    by_rest None is others other e = cc
    by_rest (Some ys) is others other e =
        let all : x ∷ ys ≡ changed = cc in
        subst (λ zs. GlobalPut (x ∷ xs) zs s v new) all (global_put_next x xs ys s v new sized other (others ys is))

    by_symbol : ((ys : List Stored) → option_map (λ y. y.value) (find (λ y. same_symbol s y.symbol) xs) ≡ Some v → with_global xs s new ≡ Some ys → GlobalPut xs ys s v new) → (b : Bool) → same_symbol s x.symbol ≡ b → option_map (λ y. y.value) (cond b (Some x) (find (λ y. same_symbol s y.symbol) xs)) ≡ Some v → (if b then (if is_of x.of new then Some (record x { value = new } ∷ xs) else None) else option_map (λ ys. x ∷ ys) (with_global xs s new)) ≡ Some changed → GlobalPut (x ∷ xs) changed s v new
    by_symbol others true is found e = by_type (is_of x.of new) refl is found e
    by_symbol others false is found e = by_rest (with_global xs s new) refl (λ ys. others ys found) is e
