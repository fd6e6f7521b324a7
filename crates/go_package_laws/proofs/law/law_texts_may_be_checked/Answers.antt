use Rattle.std.proofs.Common.{codes}
use Rattle.go_package_laws.proofs.ParsedInstances.{parsed_library, parsed_caller, parsed_checked, parsed_named, parsed_calls}
use Rattle.go_package_laws.proofs.law.law_texts_may_be_checked.Goals as goal

pub returns : goal.returns
returns c = (parsed_library, parsed_caller, parsed_checked, parsed_named, (codes "F", parsed_calls))
