-- A merge with more logs, whose results are all copies.
use Rattle.std.specs.Prelude.{◌≡◌, ◌++◌, ℕ, true, List}
use Rattle.std.specs.List.{AllByRecursion, list_any}
use Rattle.sarif_copies.specs.Copies.{are_alike}
use Rattle.sarif_options.specs.declared.policy.Policy.{Policy}
use Rattle.sarif_counts.specs.CountOf.{count_of}
use Rattle.sarif_counts.specs.Hits.{hits_of, verdict_of}
use Rattle.sarif_inputs.specs.Inputs.{Inputs}
use Rattle.sarif_merge.specs.MergedLog.{current_of, runs_counted, unused_counted}

-- the same inputs with these logs
abbrev pub with_logs : Inputs → List (List ℕ) → Inputs
with_logs inputs logs = record inputs { logs = logs }

-- the same inputs with these logs after theirs
abbrev pub with_more : Inputs → List (List ℕ) → Inputs
with_more inputs more = with_logs inputs (inputs.logs ++ more)

-- each result of these logs is alike to one of the logs of the inputs
abbrev pub AreAllCopies : Inputs → List (List ℕ) → Type 0
AreAllCopies inputs more =
    AllByRecursion (λ r. list_any (λ q. are_alike q r) (current_of inputs) ≡ true)
    (current_of (with_logs inputs more))

-- another merge with the same counts, hits, verdict and unused entries
pub record HasSameCounts (inputs other : Inputs) : Type 0 where
  pub counts : count_of (runs_counted other) ≡ count_of (runs_counted inputs)
  pub hits : (policy : Policy) → hits_of (count_of (runs_counted other)) policy
      ≡ hits_of (count_of (runs_counted inputs)) policy
  pub verdict : (policy : Policy) → verdict_of (count_of (runs_counted other)) policy
      ≡ verdict_of (count_of (runs_counted inputs)) policy
  pub unused : unused_counted other ≡ unused_counted inputs
