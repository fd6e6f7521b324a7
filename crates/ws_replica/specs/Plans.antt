-- Plans that are kept.
use Rattle.std.specs.Prelude.{◌≡◌, ℕ, List, map, Option, None, Some}
use Rattle.go_text.specs.declared.edition.Edition.{Edition}
use Rattle.ws_version.specs.Writes.{Write, held_cmp}
use Rattle.ws_map.specs.Kept.{StandsFor}
use Rattle.ws_register.specs.Edits.{Contents}
use Rattle.ws_register.specs.Sources.{HasFiles}
use Rattle.ws_graph.specs.BuildPlan.{IsJointPlanFor}
use Rattle.ws_graph.specs.Discovery.{string_texts}
use Rattle.ws_replica.specs.declared.plan.Plan.{Plan}
use Rattle.ws_replica.specs.Jobs.{shared_of}

-- the joint plan of these targets in an edition, from the sources of these registers, which are of files
pub record IsKeptPlan (edition : Edition) (registers : Contents) (targets : List (List ℕ)) (plan : Plan) : Type 0 where
  pub is_in : plan.edition ≡ edition
  pub of : string_texts plan.targets.items ≡ targets
  pub planned : IsJointPlanFor edition registers targets (map shared_of plan.directories.items)
  pub files : (W : List Write) → StandsFor held_cmp registers W → HasFiles W

-- a plan that is kept is one of these registers
abbrev pub KeepsPlan : Contents → Option Plan → Type 0
KeepsPlan registers None = Unit {0}
KeepsPlan registers (Some plan) = IsKeptPlan plan.edition registers (string_texts plan.targets.items) plan
