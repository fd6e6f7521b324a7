-- Several faults, of which the least is told, on the way through a loop.
use Rattle.std.proofs.Common.{◌≡◌, ◌≢◌, ℕ, Bool, true, false, Option, Some, None, Result, Ok, Err, List, [], ◌∷◌, ◌++◌, Vec, Global, map, nat_le, refl, sym, ap, ◌∙◌, subst, arith, append_assoc, append-nil}
use Rattle.std.specs.List.{filter_map, flat_map}
use Rattle.std.proofs.lemmas.Bool.Decides.{nat_tests}
use Rattle.std.proofs.lemmas.List.{map-append}
use Rattle.std.proofs.lemmas.List.Elements.{filter_map-append}
use Rattle.go_text.specs.declared.fault.FaultKind.{FaultKind}
use Rattle.go_text.specs.Faults.{fault_number}
use Rattle.go_expr.specs.declared.error.RuleError.{RuleError}
use Rattle.go_expr.specs.declared.error.RuleError.TheVariants.{Broken, Memory}
use Rattle.go_expr.specs.declared.gather.Gathered.{Gathered}
use Rattle.go_expr.specs.Known.{Verdict, Fine}
use Rattle.go_expr.specs.Rules.{lesser_fault, least, wrong, fine, fine_list}
use Rattle.go_expr.specs.Views.{Gives, all_of, given_values, given_fault, Gathers, IsFinished}

no_other : (o : Option FaultKind) → lesser_fault o None ≡ o
no_other None = refl
no_other (Some k) = refl

through : (a b c : ℕ) → nat_le a b ≡ true → nat_le b c ≡ true → nat_le a c ≡ true
through a b c h i = grind (arith, nat_tests)

above : (a b c : ℕ) → nat_le a b ≡ false → nat_le b c ≡ false → nat_le a c ≡ false
above a b c h i = grind (arith, nat_tests)

three : (k l m : FaultKind) (p q : Bool) → nat_le (fault_number k) (fault_number l) ≡ p → nat_le (fault_number l) (fault_number m) ≡ q →
    lesser_fault (Some k) (lesser_fault (Some l) (Some m)) ≡ lesser_fault (lesser_fault (Some k) (Some l)) (Some m)
three k l m true true h i = simp (h, i, through (fault_number k) (fault_number l) (fault_number m) h i) refl
three k l m true false h i = simp (h, i) refl
three k l m false true h i = simp (h, i) refl
three k l m false false h i = simp (h, i, above (fault_number k) (fault_number l) (fault_number m) h i) refl

lesser_thrice : (a b c : Option FaultKind) → lesser_fault a (lesser_fault b c) ≡ lesser_fault (lesser_fault a b) c
lesser_thrice None b c = refl
lesser_thrice (Some k) None c = refl
lesser_thrice (Some k) (Some l) None = sym (no_other (lesser_fault (Some k) (Some l)))
lesser_thrice (Some k) (Some l) (Some m) = three k l m _ _ refl refl

pub least_both : (ks ls : List FaultKind) → least (ks ++ ls) ≡ lesser_fault (least ks) (least ls)
least_both [] ls = refl
least_both (k ∷ ks) ls = ap (lesser_fault (Some k)) (least_both ks ls) ∙ lesser_thrice (Some k) (least ks) (least ls)

-- what is gathered, with what is left, is the whole
pub record Leads {T Y : Type 0} (view : T → Y) (values : List T) (fault : Option FaultKind) (vs : List (Verdict Y)) (ks : List FaultKind) (whole : List (Verdict Y)) : Type 0 where
  pub faults : lesser_fault fault (least (flat_map wrong vs)) ≡ least (ks ++ flat_map wrong whole)
  pub found : map view values ++ filter_map fine vs ≡ filter_map fine whole

pub begins : {T Y : Type 0} (view : T → Y) (values : List T) (fault : Option FaultKind) (ks : List FaultKind) (whole : List (Verdict Y)) → values ≡ [] → fault ≡ least ks → Leads view values fault whole ks whole
begins view values fault ks whole none e = record {
  faults = ap (λ f. lesser_fault f (least (flat_map wrong whole))) e ∙ sym (least_both ks (flat_map wrong whole));
  found = ap (λ l. map view l ++ filter_map fine whole) none;
}

adds_next : {T Y : Type 0} (view : T → Y) (values : List T) (fault : Option FaultKind) (vs : List (Verdict Y)) (ks : List FaultKind) (whole : List (Verdict Y)) (v : Verdict Y) (given : Result T RuleError) →
    Gives view given v → given ≢ Err Memory → Leads view values fault (v ∷ vs) ks whole → Leads view (values ++ given_values given) (lesser_fault fault (given_fault given)) vs ks whole
adds_next {T} {Y} view values fault vs ks whole v (Ok x) g some l =
    let here = subst (λ (w : Verdict Y). Leads view values fault (w ∷ vs) ks whole) g l in
    record {
      faults = ap (λ f. lesser_fault f (least (flat_map wrong vs))) (no_other fault) ∙ here.faults;
      found = ap (λ l. l ++ filter_map fine vs) (map-append view values (x ∷ [])) ∙ append_assoc (map view values) (view x ∷ []) (filter_map fine vs) ∙ here.found;
    }
adds_next {T} {Y} view values fault vs ks whole v (Err (Broken k)) g some l =
    let here = subst (λ (w : Verdict Y). Leads view values fault (w ∷ vs) ks whole) g l in
    record {
      faults = sym (lesser_thrice fault (Some k) (least (flat_map wrong vs))) ∙ here.faults;
      found = ap (λ l. map view l ++ filter_map fine vs) (append-nil values) ∙ here.found;
    }
adds_next view values fault vs ks whole v (Err Memory) g some l = absurd (some refl)

pub adds : {T Y : Type 0} (view : T → Y) (values more : List T) (fault least_fault : Option FaultKind) (vs : List (Verdict Y)) (ks : List FaultKind) (whole : List (Verdict Y)) (v : Verdict Y) (given : Result T RuleError) →
    more ≡ values ++ given_values given → least_fault ≡ lesser_fault fault (given_fault given) → Gives view given v → given ≢ Err Memory → Leads view values fault (v ∷ vs) ks whole → Leads view more least_fault vs ks whole
adds {T} view values more fault least_fault vs ks whole v given m f g some l =
    subst (λ (x : List T). Leads view x least_fault vs ks whole) (sym m)
    (subst (λ (k : Option FaultKind). Leads view (values ++ given_values given) k vs ks whole) (sym f) (adds_next view values fault vs ks whole v given g some l))

pub ends : {T Y : Type 0} (view : T → Y) (values : List T) (fault : Option FaultKind) (ks : List FaultKind) (whole : List (Verdict Y)) (result : Result (Vec T Global) RuleError) →
    Leads view values fault [] ks whole → IsFinished fault values result → Gives (all_of view) result (fine_list ks whole)
ends {T} {Y} view values fault ks whole (Ok v) l done =
    let none : least (ks ++ flat_map wrong whole) ≡ None = sym l.faults ∙ no_other fault ∙ done.0 in
    let all : filter_map fine whole ≡ map view v.items = sym l.found ∙ append-nil (map view values) ∙ ap (map view) (sym done.1) in
    rw (fine_list, none) (ap Fine all)
ends view values fault ks whole (Err Memory) l done = tt
ends view values fault ks whole (Err (Broken k)) l done =
    let some : least (ks ++ flat_map wrong whole) ≡ Some k = sym l.faults ∙ no_other fault ∙ done in
    rw (fine_list, some) refl

-- what is gathered behind one more leads on
pub takes : {T Y : Type 0} (view : T → Y) (old new : Gathered T) (vs : List (Verdict Y)) (ks : List FaultKind) (whole : List (Verdict Y)) (v : Verdict Y) →
    Gathers view old new v → Leads view old.values.items old.fault (v ∷ vs) ks whole → Leads view new.values.items new.fault vs ks whole
takes {T} view old new vs ks whole v g l = record {
  faults = ap (λ f. lesser_fault f (least (flat_map wrong vs))) g.0 ∙ sym (lesser_thrice old.fault (least (wrong v)) (least (flat_map wrong vs)))
      ∙ ap (lesser_fault old.fault) (sym (least_both (wrong v) (flat_map wrong vs))) ∙ l.faults;
  found = ap (λ l. l ++ filter_map fine vs) g.1 ∙ append_assoc (map view old.values.items) (filter_map fine (v ∷ [])) (filter_map fine vs)
      ∙ ap (λ l. map view old.values.items ++ l) (sym (filter_map-append fine (v ∷ []) vs)) ∙ l.found;
}

pub gathers : {T Y : Type 0} (view : T → Y) (old new : Gathered T) (v : Verdict Y) (given : Result T RuleError) →
    new.values.items ≡ old.values.items ++ given_values given → new.fault ≡ lesser_fault old.fault (given_fault given) → Gives view given v → given ≢ Err Memory → Gathers view old new v
gathers {T} {Y} view old new v (Ok x) m f g some =
    subst (λ (w : Verdict Y). Gathers view old new w) (sym g) (f, ap (map view) m ∙ map-append view old.values.items (x ∷ []))
gathers {T} {Y} view old new v (Err (Broken k)) m f g some =
    subst (λ (w : Verdict Y). Gathers view old new w) (sym g) (f, ap (map view) m ∙ map-append view old.values.items [])
gathers view old new v (Err Memory) m f g some = absurd (some refl)

-- the next of several lists of faults
pub fault_next : (fault next own : Option FaultKind) (ks ls : List FaultKind) (all : Option FaultKind) → next ≡ lesser_fault fault own → own ≡ least ks → lesser_fault fault (least (ks ++ ls)) ≡ all → lesser_fault next (least ls) ≡ all
fault_next fault next own ks ls all n o so_far =
    ap (λ f. lesser_fault f (least ls)) (n ∙ ap (lesser_fault fault) o) ∙ sym (lesser_thrice fault (least ks) (least ls)) ∙ ap (lesser_fault fault) (sym (least_both ks ls)) ∙ so_far
