use Rattle.std.proofs.Common.{◌++◌, codes, refl}
use Rattle.std.specs.Fmt.{decimal}
use Rattle.go_package_laws.proofs.Instances.{files_of, file_names, valued_tops, circular_tops, init_tops, a_valued, valued_typed, valued_is, a_circular, circular_typed, circular_is, an_init, init_typed, init_is}
use Rattle.go_package_laws.proofs.law.law_packages_may_be_initialized.Goals as goal

pub returns-clause-valued : goal.returns-clause-valued
returns-clause-valued c path = (let order = valued_is path in (files_of valued_tops, file_names, a_valued path, order.0, valued_typed path, refl, order.1))

pub returns-clause-init : goal.returns-clause-init
returns-clause-init c path = (files_of init_tops, file_names, an_init path, codes "init." ++ decimal 1, init_typed path, refl, init_is path)

pub returns-clause-circular : goal.returns-clause-circular
returns-clause-circular c path = (let order = circular_is path in (files_of circular_tops, file_names, a_circular path, order.0, circular_typed path, refl, order.1))
