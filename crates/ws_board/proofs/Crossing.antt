-- A board may go to another thread: so may what it holds, type by type.
use denote.Struct.Declared as declared
use denote.Param.Send.{IsSend, struct_send, recorded_send, view_send, sendable}
use Rattle.std.proofs.Crossing.{crosses}
use Rattle.std.proofs.MapsCrossing as maps
use Rattle.ws_action.proofs.Crossing.{action_send, action_sync, files_send, files_sync}
use Rattle.ws_cache.proofs.Crossing.{cache_send}
use Rattle.ws_board.proofs.work.JobStatus.TheSendSync as status
use Rattle.ws_board.proofs.work.Event.TheSendSync as event
use Rattle.ws_board.specs.contracts.work.Identified as identified
use Rattle.ws_board.specs.contracts.work.Work as work
use Rattle.ws_board.specs.contracts.work.Job as job
use Rattle.ws_board.specs.contracts.rows.Numbers as numbers
use Rattle.ws_board.specs.contracts.table.Row as row
use Rattle.ws_board.specs.contracts.table.Table as table
use Rattle.ws_board.specs.contracts.rows.Rows as rows
use Rattle.ws_board.specs.contracts.flags.Flags as flags
use Rattle.ws_board.specs.contracts.index.Run as run
use Rattle.ws_board.specs.contracts.index.Id as id
use Rattle.ws_board.specs.contracts.index.Index as index
use Rattle.ws_board.specs.contracts.Board as board
use Rattle.ws_board.specs.contracts.Board.TheInside as inside

-- what owners share has to be both
identified_send : IsSend identified.the_row
identified_send = search (action_send, action_sync, crosses, maps.crosses, sendable) depth 20

work_send : IsSend work.the_row
work_send = search (files_send, files_sync, action_send, action_sync, crosses, maps.crosses, sendable) depth 20

job_send : IsSend job.the_row
job_send = search (work_send, crosses, sendable) depth 20

numbers_send : IsSend numbers.the_row
numbers_send = search (crosses, sendable) depth 20

row_send : IsSend row.the_row
row_send = search (identified_send, status.the_field_send, crosses, sendable) depth 20

table_send : IsSend table.the_row
table_send = search (row_send, crosses, sendable) depth 20

rows_send : IsSend (rows.the_field).row
rows_send = search (job_send, numbers_send, table_send, crosses, sendable) depth 20

flags_send : IsSend flags.the_row
flags_send = search (crosses, sendable) depth 20

run_send : IsSend run.the_row
run_send = search (crosses, sendable) depth 20

id_send : IsSend id.the_row
id_send = search (run_send, crosses, sendable) depth 20

index_send : IsSend (index.the_field).row
index_send = search (id_send, flags_send, crosses, maps.crosses, sendable) depth 20

fields_send : IsSend (inside.the_field).row
fields_send = struct_send (declared.shape inside.the_type) (
  search (crosses, sendable) depth 20,
  (
    rows_send,
    (
      search sendable depth 20,
      (
        index_send,
        (
          cache_send,
          (
            cache_send,
            (search (event.the_field_send, crosses, sendable) depth 20, tt),
          ),
        ),
      ),
    ),
  ),
)

inside_send : IsSend inside.the_row
inside_send = recorded_send (inside.the_field).row _ _ (inside.the_type).to_one fields_send

pub board_send : IsSend board.the_row
board_send = view_send inside.the_row _ _ board.the_view board.the_invariant inside_send
