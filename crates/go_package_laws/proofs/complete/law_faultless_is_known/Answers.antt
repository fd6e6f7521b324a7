use Rattle.go_package_laws.proofs.Completeness.Faultless.{faultless_known, faultless_value_known, faultless_type_known}
use Rattle.go_package_laws.proofs.complete.law_faultless_is_known.Goals as goal

pub returns-clause-expressions : goal.returns-clause-expressions
returns-clause-expressions c = faultless_known

pub returns-clause-values : goal.returns-clause-values
returns-clause-values c = faultless_value_known

pub returns-clause-types : goal.returns-clause-types
returns-clause-types c = faultless_type_known
