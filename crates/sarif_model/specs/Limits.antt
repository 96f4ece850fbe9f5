-- The limits of what a merge reads.
use Rattle.std.specs.Prelude.{ℕ}

-- the most bytes of a log, of a baseline and of the suppression file: 64 MiB
abbrev pub most_bytes : ℕ
most_bytes = 67108864

-- the most logs of a merge, and the most baselines
abbrev pub most_sources : ℕ
most_sources = 1000

-- the most runs of a log, and of a merge
abbrev pub most_runs : ℕ
most_runs = 10000

-- the most results of a log, and of a merge
abbrev pub most_results : ℕ
most_results = 1000000

-- the most entries of a suppression file
abbrev pub most_entries : ℕ
most_entries = 10000

-- the most worker threads
abbrev pub most_workers : ℕ
most_workers = 64

-- the first and the last date, as yyyymmdd
abbrev pub first_day : ℕ
first_day = 10000101

abbrev pub last_day : ℕ
last_day = 99991231
