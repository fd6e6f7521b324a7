-- Names that one call adds, and then another.
use Rattle.std.proofs.Common.{◌≡◌, List, ◌++◌, append_assoc, Result, Ok, Err, OnOk, sym, ap, ◌∙◌}

pub added_once : {A E U : Type 0} (r : Result A E) (old new part whole : List U) → OnOk r (new ≡ old ++ part) → whole ≡ part → OnOk r (new ≡ old ++ whole)
added_once (Ok a) old new part whole h e = h ∙ ap (λ l. old ++ l) (sym e)
added_once (Err e) old new part whole h is = h

pub added_twice : {A E U : Type 0} (r : Result A E) (old middle new first second whole : List U) → middle ≡ old ++ first → OnOk r (new ≡ middle ++ second) → whole ≡ first ++ second → OnOk r (new ≡ old ++ whole)
added_twice (Ok a) old middle new first second whole m h e = h ∙ ap (λ l. l ++ second) m ∙ append_assoc old first second ∙ ap (λ l. old ++ l) (sym e)
added_twice (Err e) old middle new first second whole m h is = h

pub added_thrice : {A E U : Type 0} (r : Result A E) (old one two new first second third whole : List U) → one ≡ old ++ first → two ≡ one ++ second → OnOk r (new ≡ two ++ third) →
    whole ≡ (first ++ second) ++ third → OnOk r (new ≡ old ++ whole)
added_thrice r old one two new first second third whole a b h e =
    added_twice r old two new (first ++ second) third whole (b ∙ ap (λ l. l ++ second) a ∙ append_assoc old first second) h e
