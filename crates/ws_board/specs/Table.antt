-- Rows of jobs.
use Rattle.std.specs.Prelude.{ℕ, Bool, true, false, List, map, Option, None, refl}
use Rattle.std.specs.List.{slice_index_or}
use Rattle.std.specs.Coded.{Coded, code_by, coded×, coded_ℕ, coded_bool, coded_option}
use Rattle.ws_action.specs.Actions.{Action, action_code}
use Rattle.ws_board.specs.declared.work.JobStatus.{JobStatus}
use Rattle.ws_board.specs.declared.work.JobStatus.TheVariants.{Ready, Running, Blocked}
use Rattle.ws_board.specs.declared.table.Row.{Row}
use Rattle.ws_board.specs.Work.{JobStates, status_code}

-- where there is no job, that of one that is blocked
abbrev pub blank : Row
blank = record { status = Blocked; action = None; left = 0; was_back = false; imports = 0; importers = 0 }

abbrev pub row_at : List Row → ℕ → Row
row_at rows k = slice_index_or rows k blank

-- the states of the jobs, by their rows
abbrev pub job_states_of : List Row → JobStates
job_states_of rows = record { statuses = map (λ r. r.status) rows; actions = map (λ r. r.action) rows }

-- a worker with that number runs the job
abbrev pub given_to : ℕ → Row → Row
given_to hand row = record row { status = Running hand }

-- the job is ready again
abbrev pub given_back : Row → Row
given_back row = record row { status = Ready; was_back = true }

-- ---- by what proofs tell these apart

abbrev pub RowProduct : Type 0
RowProduct = (JobStatus × Option Action) × ((ℕ × Bool) × (ℕ × ℕ))

abbrev pub row_in : RowProduct → Row
row_in p = record { status = p.0.0; action = p.0.1; left = p.1.0.0; was_back = p.1.0.1; imports = p.1.1.0; importers = p.1.1.1 }

abbrev pub row_product_code : Coded RowProduct
row_product_code = coded× (coded× status_code (coded_option action_code)) (coded× (coded× coded_ℕ coded_bool) (coded× coded_ℕ coded_ℕ))

abbrev pub table_row_code : Coded Row
table_row_code = code_by RowProduct row_product_code (λ r. ((r.status, r.action), ((r.left, r.was_back), (r.imports, r.importers)))) row_in (λ _. refl)
