-- Lists on the way through a loop.
use Rattle.std.proofs.Common.{◌≡◌, ℕ, suc, ◌+◌, ◌<◌, ◌≤◌, Option, Some, None, List, [], ◌∷◌, ◌++◌, length, drop, get_or, Bor, refl, sym, ap, ◌∙◌, append_assoc, append-nil, add-one}
use Rattle.std.proofs.Math.Seq.{drop-cons}
use Rattle.std.proofs.lemmas.List.{drop_all}
use Rattle.go_text.specs.declared.place.Place.{Place}
use Rattle.go_text.specs.declared.fault.FaultKind.{FaultKind}
use Rattle.std.specs.Prelude.{option_copied, option_map}
use Rattle.go_expr.specs.declared.error.ExprError.{ExprError}
use Rattle.go_expr.specs.declared.error.ExprError.TheVariants.{Faulty, Memory}
use Rattle.go_expr.specs.Views.{Fails}
use Rattle.go_expr.specs.Verdicts.{chained}

-- those that are left begin with the next
pub left : {A : Type 0} (xs : List A) (i : ℕ) (x : A) → i < length xs → x ≡ get_or xs i x → drop i xs ≡ x ∷ drop (i + 1) xs
left xs i x h is = drop-cons xs i x h ∙ ap (λ y. y ∷ drop (suc i) xs) (sym is) ∙ ap (λ k. x ∷ drop k xs) (sym (add-one i))

-- the next has no fault
pub fault_later : (this own rest all : List (Place × FaultKind)) → this ≡ all → this ≡ own ++ rest → own ≡ [] → rest ≡ all
fault_later this own rest all same begins none = sym (ap (λ l. l ++ rest) none) ∙ sym begins ∙ same

joined_thrice : {A : Type 0} (xs ys zs : Option (List A)) → chained xs (chained ys zs) ≡ chained (chained xs ys) zs
joined_thrice None ys zs = refl
joined_thrice (Some xs) None zs = refl
joined_thrice (Some xs) (Some ys) None = refl
joined_thrice (Some xs) (Some ys) (Some zs) = ap Some (sym (append_assoc xs ys zs))

-- what is known with the next
pub known_later : {A : Type 0} (all done more own this rest : Option (List A)) → all ≡ chained done this → this ≡ chained own rest → more ≡ chained done own → all ≡ chained more rest
known_later all done more own this rest same begins push = same ∙ ap (chained done) begins ∙ joined_thrice done own rest ∙ ap (λ d. chained d rest) (sym push)

none_joined : {A : Type 0} (done : Option (List A)) → chained done (Some []) ≡ done
none_joined None = refl
none_joined (Some done) = ap Some (append-nil done)

-- what is known at the end of a loop
pub joined_done : {A X : Type 0} (xs : List X) (i : ℕ) (done all : Option (List A)) (known : List X → Option (List A)) → length xs ≤ i → known [] ≡ Some [] → all ≡ chained done (known (drop i xs)) → all ≡ done
joined_done xs i done all known end none is = is ∙ ap (λ l. chained done (known l)) (drop_all i xs end) ∙ ap (chained done) none ∙ none_joined done

-- what is wrong first with the first part of a node
pub fails_front : (e : ExprError) (fs gs : List (Place × FaultKind)) → Fails e fs → Fails e (fs ++ gs)
fails_front Memory fs gs h = tt
fails_front (Faulty p kind) fs gs h = (h.0 ++ gs, ap (λ l. l ++ gs) h.1)

-- what is lent, as what it is
pub copied : {X Y : Type 0} (f : X → Y) (o : Option (Bor X)) → option_map (λ r. f r.now) o ≡ option_map f (option_copied o)
copied f None = refl
copied f (Some r) = refl
