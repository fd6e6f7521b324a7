-- Directories with all that they import: what a plan and a joint plan have in common.
use Rattle.std.proofs.Common.{ℕ, List}
use Rattle.std.specs.List.{Contains}
use Rattle.std.specs.List.Sorted.{IsStrictlySortedBy}
use Rattle.ws_version.specs.Writes.{Write, path_cmp}
use Rattle.ws_register.specs.Sources.{IsSources}
use Rattle.ws_reach.proofs.Reached.{reaches_more}
use Rattle.go_text.specs.declared.edition.Edition.{Edition}
use Rattle.ws_graph.specs.BuildPlan.{Sources, Imports, IsPlannedAs, Directory, paths_of, AreNumbers, IsBuildPlan, IsBuildPlanOf, IsJointPlan, IsJointPlanOf}

pub record IsWhole (ed : Edition) (sources : Sources) (directories : List Directory) : Type 0 where
  pub ascending : IsStrictlySortedBy path_cmp (paths_of directories)
  pub closed : (p q : List ℕ) → Contains (paths_of directories) p → Imports ed sources p q → Contains (paths_of directories) q
  pub planned : (d : Directory) → Contains directories d → IsPlannedAs ed sources d.path d.planned
  pub imports : (d : Directory) → Contains directories d → AreNumbers ed sources (paths_of directories) d.path d.imports

abbrev pub IsWholeOf : Edition → List Write → List Directory → Type 0
IsWholeOf ed writes directories = (sources : Sources) × IsSources writes sources × IsWhole ed sources directories

pub whole_plan : (ed : Edition) (sources : Sources) (target : List ℕ) (ds : List Directory) → IsBuildPlan ed sources target ds → IsWhole ed sources ds
whole_plan ed sources target ds h = record {
  ascending = h.ascending;
  closed = λ p q c i. (h.reached q).1 (reaches_more (Imports ed sources) target p q ((h.reached p).0 c) i);
  planned = h.planned;
  imports = h.imports;
}

pub whole_joint : (ed : Edition) (sources : Sources) (targets : List (List ℕ)) (ds : List Directory) → IsJointPlan ed sources targets ds → IsWhole ed sources ds
whole_joint ed sources targets ds h = record {
  ascending = h.ascending;
  closed = λ p q c i. (let way = (h.reached p).0 c in (h.reached q).1 (way.0, way.1, reaches_more (Imports ed sources) way.0 p q way.2 i));
  planned = h.planned;
  imports = h.imports;
}

pub whole_plan_of : (ed : Edition) (W : List Write) (target : List ℕ) (ds : List Directory) → IsBuildPlanOf ed W target ds → IsWholeOf ed W ds
whole_plan_of ed W target ds h = (h.0, h.1, whole_plan ed h.0 target ds h.2)

pub whole_joint_of : (ed : Edition) (W : List Write) (targets : List (List ℕ)) (ds : List Directory) → IsJointPlanOf ed W targets ds → IsWholeOf ed W ds
whole_joint_of ed W targets ds h = (h.0, h.1, whole_joint ed h.0 targets ds h.2)
