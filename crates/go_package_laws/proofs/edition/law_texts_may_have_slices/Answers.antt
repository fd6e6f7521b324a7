use Rattle.go_package_laws.proofs.SlicedInstance.{a_sliced, sliced_are_checked, sliced_named, sliced_has}
use Rattle.go_package_laws.proofs.edition.law_texts_may_have_slices.Goals as goal

pub returns : goal.returns
returns c = (a_sliced, sliced_are_checked, sliced_named, sliced_has)
