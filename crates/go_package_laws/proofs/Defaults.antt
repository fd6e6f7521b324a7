-- What operators are defined on, of types of sound values.
use Rattle.std.proofs.Common.{◌≡◌, Bool, true, false, refl, sym, true≢false}
use Rattle.go_types.specs.declared.types.Basic.TheVariants as basics
use Rattle.go_types.specs.declared.types.Untyped.{Untyped}
use Rattle.go_types.specs.declared.types.Untyped.TheVariants as kinds
use Rattle.go_types.specs.Types.{Type', basic, array, slice, struct, named}
use Rattle.go_types.specs.Relations.{underlying}
use Rattle.go_meaning_laws.specs.WellTyped.{is_bool_type, is_integer_type, is_string_type}
use Rattle.go_expr.specs.Rules as rules
use Rattle.go_expr.specs.Rules.{default_type, is_untyped}
use Rattle.go_package_laws.proofs.Soundness.{Table, IsSoundType}
use Rattle.go_package_laws.proofs.Types.{sound_underlying}

abbrev integer_below : Type' → Bool
integer_below u = elim u [ basic (basics.Integer i) ↦ true | basic (basics.Untyped kinds.Int) ↦ true | basic (basics.Untyped kinds.Rune) ↦ true | _ ↦ false ]

abbrev string_below : Type' → Bool
string_below u = elim u [ basic basics.String ↦ true | basic (basics.Untyped kinds.String) ↦ true | _ ↦ false ]

abbrev bool_below : Type' → Bool
bool_below u = elim u [ basic basics.Bool ↦ true | basic (basics.Untyped kinds.Bool) ↦ true | _ ↦ false ]

integer_typed : (w : Table) (u : Type') → IsSoundType w u → integer_below u ≡ true → is_integer_type u ≡ true
integer_typed w (basic (basics.Integer i)) h e = refl
integer_typed w (basic (basics.Untyped k)) h e = absurd (true≢false (sym h))
integer_typed w u h e = absurd (true≢false (sym e))

string_typed : (w : Table) (u : Type') → IsSoundType w u → string_below u ≡ true → is_string_type u ≡ true
string_typed w (basic basics.String) h e = refl
string_typed w (basic (basics.Untyped k)) h e = absurd (true≢false (sym h))
string_typed w u h e = absurd (true≢false (sym e))

bool_typed : (u : Type') → bool_below u ≡ true → is_bool_type u ≡ true
bool_typed (basic basics.Bool) e = refl
bool_typed (basic (basics.Untyped kinds.Bool)) e = refl
bool_typed u e = absurd (true≢false (sym e))

pub sound_integer : (w : Table) (t : Type') → IsSoundType w t → rules.is_integer t ≡ true → is_integer_type (underlying t) ≡ true
sound_integer w t h e = integer_typed w (underlying t) (sound_underlying w t h) e

pub sound_string : (w : Table) (t : Type') → IsSoundType w t → rules.is_string t ≡ true → is_string_type (underlying t) ≡ true
sound_string w t h e = string_typed w (underlying t) (sound_underlying w t h) e

pub sound_bool : (t : Type') → rules.is_bool t ≡ true → is_bool_type (underlying t) ≡ true
sound_bool t e = bool_typed (underlying t) e

-- ---- the types that are taken where none is due

pub default_integer : (k : Untyped) → rules.is_integer (basic (basics.Untyped k)) ≡ true → rules.is_integer (default_type (basic (basics.Untyped k))) ≡ true
default_integer kinds.Int e = refl
default_integer kinds.Rune e = refl
default_integer k e = absurd (true≢false (sym e))

pub default_string : (k : Untyped) → rules.is_string (basic (basics.Untyped k)) ≡ true → rules.is_string (default_type (basic (basics.Untyped k))) ≡ true
default_string kinds.String e = refl
default_string k e = absurd (true≢false (sym e))

pub default_bool : (k : Untyped) → rules.is_bool (basic (basics.Untyped k)) ≡ true → rules.is_bool (default_type (basic (basics.Untyped k))) ≡ true
default_bool kinds.Bool e = refl
default_bool k e = absurd (true≢false (sym e))

pub sound_typed : (w : Table) (t : Type') → IsSoundType w t → is_untyped t ≡ false
sound_typed w (basic basics.Bool) h = refl
sound_typed w (basic basics.String) h = refl
sound_typed w (basic (basics.Integer i)) h = refl
sound_typed w (basic (basics.Untyped k)) h = absurd (true≢false (sym h))
sound_typed w (array n t) h = refl
sound_typed w (slice t) h = refl
sound_typed w (struct fs) h = refl
sound_typed w (named p x t) h = refl
