-- Worlds in which a command reads the same.
use Rattle.std.specs.Prelude.{ℕ, List}
use Rattle.std.specs.List.{All}
use Rattle.ws_map.specs.Kept.{SameMembers}
use Rattle.ws_command.specs.Commands.{Command, Build, Run, Ids, Show}
use Rattle.ws_session.specs.World.{World, writes_of, actions_held}

-- the replica of that name took the same writes and the same results in both worlds
pub record TookTheSame (name : List ℕ) (v w : World) : Type 0 where
  pub writes : SameMembers (writes_of name v) (writes_of name w)
  pub results : SameMembers (actions_held name v) (actions_held name w)

-- so did each replica whose answer a command asks for
abbrev pub ReadsTheSame : Command → World → World → Type 0
ReadsTheSame (Show name) v w = TookTheSame name v w
ReadsTheSame (Run name directory ticks) v w = TookTheSame name v w
ReadsTheSame (Ids name directory) v w = TookTheSame name v w
ReadsTheSame (Build targets) v w = All (λ t. TookTheSame t.0 v w) targets
ReadsTheSame _ v w = Unit {0}
