-- When the linker finds one edition: for the objects of packages of one, and of no other packages.
use Rattle.std.proofs.Common.{◌≡◌, Bool, true, false, not, ◌||◌, nat_eq, List, [], ◌∷◌, length, map, None, ◌-◌, refl, sym, ap, ◌∙◌, arith}
use Rattle.std.specs.List.{All, list_any}
use Rattle.std.proofs.lemmas.List.Elements.{All-nil, All-cons, All-head, All-tail, All-get_or, All-weaker}
use Rattle.std.proofs.lemmas.Option.{slice_get-get_or}
use Rattle.go_text.specs.declared.edition.Edition.{Edition}
use Rattle.go_text.specs.declared.edition.Edition.TheVariants.{One, Two}
use Rattle.go_text.specs.Editions.{edition_number}
use Rattle.go_link.specs.Links.{editions_differ, is_of_other, link_refusal}
use Rattle.go_link.proofs.Found.{allowed}
use Rattle.go_typed.specs.Trees.{Package}
use Rattle.go_meaning.specs.Programs.{program_edition, last_package}
use Rattle.go_gen.specs.Translation.{object_of}
use Rattle.go_translation_laws.specs.Programs.{HaveOneEdition}
use Rattle.go_translation_laws.proofs.Images.{last_edition}

same_number : (d e : Edition) → nat_eq (edition_number d) (edition_number e) ≡ true → d ≡ e
same_number One One h = refl
same_number One Two h = cc
same_number Two One h = cc
same_number Two Two h = refl

own_number : (e : Edition) → not (nat_eq (edition_number e) (edition_number e)) ≡ false
own_number One = refl
own_number Two = refl

neither : (b c : Bool) → (not b || c) ≡ false → (b ≡ true) × (c ≡ false)
neither true c h = (refl, h)
neither false c h = cc

module _ (edition : Edition) where
  abbrev Is : Package → Type 0
  Is p = p.edition ≡ edition

  all_alike : (ps : List Package) → list_any (is_of_other edition) (map object_of ps) ≡ false → All Is ps
  all_alike [] h = All-nil Is
  all_alike (p ∷ ps) h =
      let parts = neither (nat_eq (edition_number p.edition) (edition_number edition)) (list_any (is_of_other edition) (map object_of ps)) h in
      All-cons Is p ps (same_number p.edition edition parts.0) (all_alike ps parts.1)

  none_other : (ps : List Package) → All Is ps → list_any (is_of_other edition) (map object_of ps) ≡ false
  none_other [] h = refl
  none_other (p ∷ ps) h =
      ap (λ (e : Edition). not (nat_eq (edition_number e) (edition_number edition)) || list_any (is_of_other edition) (map object_of ps)) (All-head Is p ps h)
      ∙ ap (λ b. b || list_any (is_of_other edition) (map object_of ps)) (own_number edition)
      ∙ none_other ps (All-tail Is p ps h)

  last_is : (p : Package) (ps : List Package) → All Is (p ∷ ps) → program_edition (last_package (p ∷ ps)) ≡ edition
  last_is p ps h =
      ap program_edition (slice_get-get_or (p ∷ ps) (length (p ∷ ps) - 1) p (omega arith))
      ∙ All-get_or Is (p ∷ ps) (length (p ∷ ps) - 1) p (omega arith) h

  -- packages that are all of this edition have one
  pub have_one : (packages : List Package) → All Is packages → HaveOneEdition packages
  have_one [] h = All-nil (λ (p : Package). p.edition ≡ program_edition (last_package []))
  have_one (p ∷ ps) h =
      All-weaker Is (λ (q : Package). q.edition ≡ program_edition (last_package (p ∷ ps))) (λ q is. is ∙ sym (last_is p ps h)) (p ∷ ps) h

-- packages of one edition have objects of one
pub one_edition : (packages : List Package) → HaveOneEdition packages → editions_differ (map object_of packages) ≡ false
one_edition packages h =
    ap (λ (e : Edition). list_any (is_of_other e) (map object_of packages)) (last_edition packages)
    ∙ none_other (program_edition (last_package packages)) packages h

-- and no others have
pub alike : (packages : List Package) → editions_differ (map object_of packages) ≡ false → HaveOneEdition packages
alike packages e =
    all_alike (program_edition (last_package packages)) packages
    (ap (λ (d : Edition). list_any (is_of_other d) (map object_of packages)) (sym (last_edition packages)) ∙ e)

-- what the linker doesn't refuse is of one edition
pub linked_edition : (packages : List Package) → link_refusal (map object_of packages) ≡ None → HaveOneEdition packages
linked_edition packages e = alike packages (allowed (map object_of packages) e).2
