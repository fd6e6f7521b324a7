-- Words and texts that are UTF-8, or not.
use Rattle.std.proofs.Common.{◌≡◌, ℕ, List, true, false, Bool, Option, None, Some, refl, sym, ap, ◌∙◌}
use Rattle.std.specs.Prelude.{◌&&◌, IfSome, IfNone, MatchOption}
use Rattle.std.specs.Str.{IsUtf8, is_utf8}
use Rattle.std.proofs.lemmas.Str.{IsUtf8-from_is_utf8}
use Rattle.std.proofs.lemmas.Bool.{false_from_ne_true}
use Rattle.ws_path.specs.Paths.{is_path}
use Rattle.ws_session.specs.World.{is_path_word}

pub not_utf8 : (bs : List ℕ) → (IsUtf8 bs → ⊥) → is_utf8 bs ≡ false
not_utf8 bs h = false_from_ne_true (is_utf8 bs) (λ t. h (IsUtf8-from_is_utf8 bs t))

pub and_false : (a b : Bool) → a ≡ false → a && b ≡ false
and_false true b e = cc
and_false false b e = refl

pub and_right : (a b c : Bool) → a ≡ true → b ≡ c → a && b ≡ c
and_right true b c e f = f
and_right false b c e f = cc

-- a path that is made of a word, or isn't
pub made_path : (word text : List ℕ) (made : Option (List ℕ)) → is_utf8 word ≡ true → text ≡ word → IfSome made (λ path. path ≡ text) → IfSome made (λ _. is_path text ≡ true) → IfNone made (is_path text ≡ false)
    → MatchOption made (is_path_word word ≡ false) (λ path. (is_path_word word ≡ true) × (path ≡ word))
made_path word text None valid same is allowed refused = and_right (is_utf8 word) (is_path word) false valid (ap is_path (sym same) ∙ refused)
made_path word text (Some path) valid same is allowed refused = (and_right (is_utf8 word) (is_path word) true valid (ap is_path (sym same) ∙ allowed), is ∙ same)
