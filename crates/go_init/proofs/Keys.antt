-- Which keys there are where one is inserted.
use Rattle.std.proofs.Common.{◌≡◌, ℕ, List, [], ◌∷◌, refl, inl, inr, ◌⊎◌}
use Rattle.std.specs.BTreeSet.{insert_key}
use Rattle.std.specs.Ordering.{match_ordering, nat_cmp}
use Rattle.std.specs.declared.cmp.Ordering.{Ordering}
use Rattle.std.specs.declared.cmp.Ordering.TheVariants.{Less, Equal, Greater}
use Rattle.std.proofs.lemmas.Map.Lookups.{exact_unsigned}
use Rattle.ws_reach.proofs.Closure.{IsOneOf}

from_by : (x n k : ℕ) (xs more : List ℕ) (r : Ordering) → (IsOneOf k more → IsOneOf k xs ⊎ (k ≡ n)) → IsOneOf k (match_ordering r (n ∷ x ∷ xs) (x ∷ xs) (x ∷ more)) → IsOneOf k (x ∷ xs) ⊎ (k ≡ n)
from_by x n k xs more Less later h = elim h [ inl e ↦ inr e | inr r ↦ inl r ]
from_by x n k xs more Equal later h = inl h
from_by x n k xs more Greater later h = elim h [ inl e ↦ inl (inl e) | inr r ↦ elim (later r) [ inl old ↦ inl (inr old) | inr e ↦ inr e ] ]

pub key_from : (xs : List ℕ) (n k : ℕ) → IsOneOf k (insert_key nat_cmp xs n) → IsOneOf k xs ⊎ (k ≡ n)
key_from [] n k h = elim h [ inl e ↦ inr e | inr r ↦ absurd r ]
key_from (x ∷ xs) n k h = from_by x n k xs (insert_key nat_cmp xs n) (nat_cmp n x) (key_from xs n k) h

kept_by : (x n k : ℕ) (xs more : List ℕ) (r : Ordering) → (IsOneOf k xs → IsOneOf k more) → IsOneOf k (x ∷ xs) → IsOneOf k (match_ordering r (n ∷ x ∷ xs) (x ∷ xs) (x ∷ more))
kept_by x n k xs more Less later h = inr h
kept_by x n k xs more Equal later h = h
kept_by x n k xs more Greater later h = elim h [ inl e ↦ inl e | inr r ↦ inr (later r) ]

pub key_kept : (xs : List ℕ) (n k : ℕ) → IsOneOf k xs → IsOneOf k (insert_key nat_cmp xs n)
key_kept [] n k h = absurd h
key_kept (x ∷ xs) n k h = kept_by x n k xs (insert_key nat_cmp xs n) (nat_cmp n x) (key_kept xs n k) h

there_by : (x n : ℕ) (xs more : List ℕ) (r : Ordering) → nat_cmp n x ≡ r → IsOneOf n more → IsOneOf n (match_ordering r (n ∷ x ∷ xs) (x ∷ xs) (x ∷ more))
there_by x n xs more Less is later = inl refl
there_by x n xs more Equal is later = inl (exact_unsigned n x is)
there_by x n xs more Greater is later = inr later

pub key_there : (xs : List ℕ) (n : ℕ) → IsOneOf n (insert_key nat_cmp xs n)
key_there [] n = inl refl
key_there (x ∷ xs) n = there_by x n xs (insert_key nat_cmp xs n) (nat_cmp n x) refl (key_there xs n)
