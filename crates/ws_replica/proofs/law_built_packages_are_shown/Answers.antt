use Rattle.ws_replica.proofs.PlanMakes.{plan_makes}
use Rattle.ws_replica.proofs.ShownPackages.{packages_shown, summaries_shown}
use Rattle.ws_replica.proofs.law_built_packages_are_shown.Goals as goal

pub returns-clause-shown : goal.returns-clause-shown
returns-clause-shown c edition W target build p has are among = packages_shown edition W has target build are p among

pub returns-clause-make : goal.returns-clause-make
returns-clause-make c edition W target build d files imports has are among ready = plan_makes edition W has target build.directories build.fates are.0 are.1 d among files imports ready

pub returns-clause-told : goal.returns-clause-told
returns-clause-told c edition W target build d files imports has are among ready written =
    let makes = plan_makes edition W has target build.directories build.fates are.0 are.1 d among files imports ready in
    summaries_shown edition W has target build are d among files imports makes.alike ready written
