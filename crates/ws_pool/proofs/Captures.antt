-- A closure may go to another thread, if what it captures may.
use Rattle.std.proofs.Common.{ℕ, List, [], ◌∷◌}
use denote.RattleType.{RattleType}
use denote.Struct.Tuple.{TupleAt}
use denote.Param.Send.{IsSend, sendable}

pub four_send : (name : List ℕ) (A B C D : RattleType) → IsSend A → IsSend B → IsSend C → IsSend D → IsSend (TupleAt name (A ∷ B ∷ C ∷ D ∷ []))
four_send name A B C D a b c d = search sendable depth 20
