use Rattle.std.proofs.Common.{refl, codes}
use Rattle.go_package_laws.proofs.Instances.{library_files, caller_files, file_names, a_library, a_caller, library_typed, caller_typed, caller_calls, caller_is, library_is}
use Rattle.go_package_laws.proofs.Listed.{once}
use Rattle.go_package_laws.proofs.law.law_packages_may_import.Goals as goal

pub returns-clause-calls : goal.returns-clause-calls
returns-clause-calls c path = (library_files, caller_files, file_names, a_library, a_caller path, library_typed, caller_typed path, library_is, caller_is path, refl, (codes "F", caller_calls path))

pub returns-clause-once : goal.returns-clause-once
returns-clause-once c = once
