-- What puts back what was held at keys before values were put there.
use Rattle.std.specs.Prelude.{List, [], ◌∷◌, Option, None, Some}
use Rattle.std.specs.declared.cmp.Ordering.{Ordering}
use Rattle.std.specs.BTreeMap.{is_at}
use Rattle.std.specs.Map.{remove_entry, set_value}

module _ {K X : Type 0} (cmp : K → K → Ordering) where
  -- what was held at a key, if anything, is held again
  abbrev pub put_back : K → Option X → List (K × X) → List (K × X)
  put_back k None es = remove_entry (is_at (cmp k)) es
  put_back k (Some x) es = set_value (is_at (cmp k)) es x

  -- the last of the list first
  abbrev pub undone : List (K × Option X) → List (K × X) → List (K × X)
  undone [] es = es
  undone (p ∷ ps) es = put_back p.0 p.1 (undone ps es)
