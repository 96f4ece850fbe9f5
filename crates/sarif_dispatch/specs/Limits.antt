-- The limits of a work and of its workers.
use Rattle.std.specs.Prelude.{ℕ}

-- the most runs of a work
abbrev pub most_runs : ℕ
most_runs = 10000

-- the most hands of a deal, which are the senders of its mailbox: one for each worker
abbrev pub most_hands : ℕ
most_hands = 64

-- the most parcels that a mailbox has room for
abbrev pub most_room : ℕ
most_room = 4096
