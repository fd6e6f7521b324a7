-- Editions and their numbers.
use Rattle.std.specs.Prelude.{◌≡◌, ◌<◌, ◌^◌, refl}
use Rattle.std.proofs.Common.{lit<}
use Rattle.go_text.specs.declared.edition.Edition.{Edition}
use Rattle.go_text.specs.declared.edition.Edition.TheVariants.{One, Two}
use Rattle.go_text.specs.Editions.{edition_number}

pub number_small : (e : Edition) → edition_number e < 2 ^ 32
number_small One = lit< tt
number_small Two = lit< tt

-- a number is that of one edition
pub one_number : (d e : Edition) → edition_number d ≡ edition_number e → d ≡ e
one_number One One same = refl
one_number One Two same = absurd (cc (same))
one_number Two One same = absurd (cc (same))
one_number Two Two same = refl
