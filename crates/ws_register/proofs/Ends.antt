-- The files of a directory lie between two ends.
use Rattle.std.proofs.Common.{◌≡◌, ℕ, ◌<◌, Bool, true, false, cond, not, ◌&&◌, List, [], ◌∷◌, ◌++◌, length, eqb, None, String, string_bytes, refl, sym, ap, subst, ◌∙◌, arith}
use Rattle.std.specs.Option.{option_map, option_to_list}
use Rattle.std.specs.Ordering.{ordering_then, is_lt, is_le}
use Rattle.std.specs.declared.cmp.Ordering.{Ordering}
use Rattle.std.specs.declared.cmp.Ordering.TheVariants.{Less, Equal, Greater}
use Rattle.std.specs.List.{AllByRecursion}
use Rattle.std.specs.declared.ops.Bound.{Bound}
use Rattle.std.specs.declared.ops.Bound.TheVariants.{Included, Excluded, Unbounded}
use Rattle.std.proofs.lemmas.Cmp.{tied_itself, nat_cmp_total}
use Rattle.std.proofs.lemmas.Slice.Eq.{bytes_eq-Decides}
use Rattle.ws_path.specs.Paths.{directory, file_name}
use Rattle.ws_version.specs.Writes.{Write, path_cmp}
use Rattle.ws_version.proofs.Writes.{path_cmp_total}
use Rattle.ws_register.specs.Pages.{Ascends, AllPathsBelow}
use Rattle.ws_register.proofs.Order.{all-weaker, sorted-first, turned_less}
use Rattle.ws_path.proofs.Cuts.{some_before}
use Rattle.ws_register.specs.Between.{is_from, is_past, is_between}
use Rattle.ws_register.specs.Sources.{is_in, by_file_name, source_in, file_in, files_in, texts_of}
use Rattle.ws_register.proofs.Files.{files_in-first}

and_not_parts : (a b : Bool) → a && not b ≡ true → (a ≡ true) × (b ≡ false)
and_not_parts true false e = (refl, refl)
and_not_parts true true e = cc
and_not_parts false b e = cc

pub from_start : {Y : Type 0} (dir : List ℕ) (start end : Bound (String Y)) → ((path : List ℕ) → is_in dir path ≡ true → is_between start end path ≡ true) → (path : List ℕ) → is_in dir path ≡ true → is_from start path ≡ true
from_start dir start end h path is = (and_not_parts (is_from start path) (is_past end path) (h path is)).0

pub before_end : {Y : Type 0} (dir : List ℕ) (start end : Bound (String Y)) → ((path : List ℕ) → is_in dir path ≡ true → is_between start end path ≡ true) → (path : List ℕ) → is_in dir path ≡ true → is_past end path ≡ false
before_end dir start end h path is = (and_not_parts (is_from start path) (is_past end path) (h path is)).1

-- a write outside the directory is no file of it
no_file : (dir : List ℕ) (w : Write) (b : Bool) → is_in dir w.0 ≡ b → (b ≡ true → ⊥) → file_in dir w ≡ None
no_file dir w true e outside = absurd (outside refl)
no_file dir w false e outside = ap (λ t. cond t (option_map by_file_name (source_in w)) None) e

left_out : (dir : List ℕ) (w : Write) (W : List Write) → (is_in dir w.0 ≡ true → ⊥) → files_in dir (texts_of (w ∷ W)) ≡ files_in dir (texts_of W)
left_out dir w W outside = files_in-first dir w W ∙ ap (λ o. option_to_list o ++ files_in dir (texts_of W)) (no_file dir w (is_in dir w.0) refl outside)

differ : (b : Bool) → b ≡ true → b ≡ false → ⊥
differ b e f = let both : true ≡ false = sym e ∙ f in cc

-- what stands before the start is no file of the directory
pub files_from : {Y : Type 0} (dir : List ℕ) (start : Bound (String Y)) (front W : List Write) → ((path : List ℕ) → is_in dir path ≡ true → is_from start path ≡ true) → AllByRecursion (λ (w : Write). is_from start w.0 ≡ false) front → files_in dir (texts_of (front ++ W)) ≡ files_in dir (texts_of W)
files_from dir start [] W h before = refl
files_from dir start (w ∷ front) W h before =
    left_out dir w (front ++ W) (λ is. differ (is_from start w.0) (h w.0 is) before.0) ∙ files_from dir start front W h before.1

-- nor is what stands past the end
files_past : {Y : Type 0} (dir : List ℕ) (end : Bound (String Y)) (W : List Write) → ((path : List ℕ) → is_in dir path ≡ true → is_past end path ≡ false) → AllByRecursion (λ (w : Write). is_past end w.0 ≡ true) W → files_in dir (texts_of W) ≡ []
files_past dir end [] h past = refl
files_past dir end (w ∷ W) h past = left_out dir w W (λ is. differ (is_past end w.0) past.0 (h w.0 is)) ∙ files_past dir end W h past.1

lt_is_less : (r : Ordering) → is_lt r ≡ true → r ≡ Less
lt_is_less Less e = refl
lt_is_less Equal e = cc
lt_is_less Greater e = cc

later_than : (b p q : List ℕ) (r : Ordering) → path_cmp b p ≡ r → is_le r ≡ true → path_cmp p q ≡ Less → path_cmp b q ≡ Less
later_than b p q Less e h lt = path_cmp_total.trans b p q e lt
later_than b p q Equal e h lt = path_cmp_total.congr b p q e ∙ lt
later_than b p q Greater e h lt = cc

past_later : {Y : Type 0} (end : Bound (String Y)) (p q : List ℕ) → is_past end p ≡ true → path_cmp p q ≡ Less → is_past end q ≡ true
past_later (Included b) p q h lt = ap is_lt (path_cmp_total.trans (string_bytes b) p q (lt_is_less (path_cmp (string_bytes b) p) h) lt)
past_later (Excluded b) p q h lt = ap is_le (later_than (string_bytes b) p q (path_cmp (string_bytes b) p) refl h lt)
past_later Unbounded p q h lt = cc

-- from a write past the end on, none is a file of the directory
pub files_ended : {Y : Type 0} (dir : List ℕ) (end : Bound (String Y)) (all W : List Write) (w : Write) → all ≡ w ∷ W → Ascends all → is_past end w.0 ≡ true → ((path : List ℕ) → is_in dir path ≡ true → is_past end path ≡ false) → files_in dir (texts_of all) ≡ []
files_ended dir end all W w e ascends past h =
    let first = sorted-first path_cmp w W (subst Ascends e ascends) in
    let rest = all-weaker (λ (v : Write). path_cmp w.0 v.0 ≡ Less) (λ (v : Write). is_past end v.0 ≡ true) (λ v lt. past_later end w.0 v.0 past lt) W first in
    ap (λ l. files_in dir (texts_of l)) e ∙ files_past dir end (w ∷ W) h (past, rest)

-- what is below the start isn't from it on
pub below_start : {Y : Type 0} (start : String Y) (front : List Write) → AllPathsBelow front (string_bytes start) → AllByRecursion (λ (w : Write). is_from (Included start) w.0 ≡ false) front
below_start start front below = all-weaker (λ (w : Write). path_cmp w.0 (string_bytes start) ≡ Less) (λ (w : Write). is_from (Included start) w.0 ≡ false) (λ w lt. ap is_le (turned_less path_cmp_total w.0 (string_bytes start) lt)) front below

pub not_empty : (xs : List ℕ) → eqb (length xs) 0 ≡ false → 0 < length xs
not_empty [] e = cc
not_empty (x ∷ xs) e = omega arith

-- what two texts have in front decides nothing
same_front : (front a b : List ℕ) → path_cmp (front ++ a) (front ++ b) ≡ path_cmp a b
same_front [] a b = refl
same_front (x ∷ front) a b = ap (λ r. ordering_then r (path_cmp (front ++ a) (front ++ b))) (tied_itself nat_cmp_total x) ∙ same_front front a b

from_slash : (name : List ℕ) → is_le (path_cmp (47 ∷ []) (47 ∷ name)) ≡ true
from_slash [] = refl
from_slash (b ∷ name) = refl

in_directory : (dir path : List ℕ) → 0 < length dir → is_in dir path ≡ true → path ≡ dir ++ 47 ∷ file_name path
in_directory dir path some is =
    let same : directory path ≡ dir = (bytes_eq-Decides (directory path) dir).0 is in
    some_before 47 path (subst (λ d. 0 < length d) (sym same) some) ∙ ap (λ d. d ++ 47 ∷ file_name path) same

-- the paths of a directory are the directory, a slash and more
pub ends_around : {Y : Type 0} (dir : List ℕ) (start end : String Y) → 0 < length dir → string_bytes start ≡ dir ++ 47 ∷ [] → string_bytes end ≡ dir ++ 48 ∷ [] → (path : List ℕ) → is_in dir path ≡ true → is_between (Included start) (Excluded end) path ≡ true
ends_around dir start end some s e path is =
    let name = file_name path in
    let whole = in_directory dir path some is in
    let low : is_le (path_cmp (string_bytes start) path) ≡ true =
    ap (λ l. is_le (path_cmp l path)) s ∙ ap (λ l. is_le (path_cmp (dir ++ 47 ∷ []) l)) whole ∙ ap is_le (same_front dir (47 ∷ []) (47 ∷ name)) ∙ from_slash name in
    let high : is_le (path_cmp (string_bytes end) path) ≡ false =
    ap (λ l. is_le (path_cmp l path)) e ∙ ap (λ l. is_le (path_cmp (dir ++ 48 ∷ []) l)) whole ∙ ap is_le (same_front dir (48 ∷ []) (47 ∷ name)) in
    ap (λ b. b && not (is_le (path_cmp (string_bytes end) path))) low ∙ ap not high
