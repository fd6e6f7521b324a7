-- How many events of each kind were made.
use Rattle.std.specs.Prelude.{ℕ, ◌+◌, List, [], ◌∷◌, refl}
use Rattle.std.specs.Coded.{Coded, code_by, coded×, coded_ℕ}
use Rattle.ws_board.specs.declared.work.Event.{Event}
use Rattle.ws_board.specs.declared.work.Event.TheVariants.{Take, Finish, Back, Idle}

pub record Counts : Type 0 where
  pub takes : ℕ
  pub finishes : ℕ
  pub backs : ℕ
  pub idles : ℕ

abbrev pub so_many : ℕ → ℕ → ℕ → ℕ → Counts
so_many takes finishes backs idles = record { takes = takes; finishes = finishes; backs = backs; idles = idles }

abbrev pub none_made : Counts
none_made = so_many 0 0 0 0

-- with one event more
abbrev pub count_event : Counts → Event → Counts
count_event made (Take hand job) = record { takes = made.takes + 1; finishes = made.finishes; backs = made.backs; idles = made.idles }
count_event made (Finish hand job) = record { takes = made.takes; finishes = made.finishes + 1; backs = made.backs; idles = made.idles }
count_event made (Back hand job) = record { takes = made.takes; finishes = made.finishes; backs = made.backs + 1; idles = made.idles }
count_event made (Idle hand) = record { takes = made.takes; finishes = made.finishes; backs = made.backs; idles = made.idles + 1 }

-- those of a history
abbrev pub counts_of : List Event → Counts
counts_of [] = none_made
counts_of (event ∷ events) = count_event (counts_of events) event

-- some parts of the right to know all counts, of which each worker has one, and what was made with them
pub record Stake : Type 0 where
  pub parts : ℕ
  pub made : Counts

-- the stake after an event of its own
abbrev pub noted : Stake → Event → Stake
noted stake event = record { parts = stake.parts; made = count_event stake.made event }

-- the names of four ledgers, and into how many parts their shares are cut
pub record LedgerNames : Type 0 where
  pub takes : ℕ
  pub finishes : ℕ
  pub backs : ℕ
  pub idles : ℕ
  pub hands : ℕ

-- ---- by what proofs tell these apart

abbrev pub counts_code : Coded Counts
counts_code = code_by ((ℕ × ℕ) × (ℕ × ℕ)) (coded× (coded× coded_ℕ coded_ℕ) (coded× coded_ℕ coded_ℕ)) (λ c. ((c.takes, c.finishes), (c.backs, c.idles)))
    (λ p. record { takes = p.0.0; finishes = p.0.1; backs = p.1.0; idles = p.1.1 }) (λ _. refl)

abbrev pub stake_code : Coded Stake
stake_code = code_by (ℕ × Counts) (coded× coded_ℕ counts_code) (λ s. (s.parts, s.made)) (λ p. record { parts = p.0; made = p.1 }) (λ _. refl)

abbrev pub names_code : Coded LedgerNames
names_code = code_by ((ℕ × ℕ) × (ℕ × (ℕ × ℕ))) (coded× (coded× coded_ℕ coded_ℕ) (coded× coded_ℕ (coded× coded_ℕ coded_ℕ)))
    (λ n. ((n.takes, n.finishes), (n.backs, (n.idles, n.hands))))
    (λ p. record { takes = p.0.0; finishes = p.0.1; backs = p.1.0; idles = p.1.1.0; hands = p.1.1.1 }) (λ _. refl)
