-- The check of all runs, one run at a time.
use Rattle.std.proofs.Common.{◌≡◌, ◌+◌, ℕ, Bool, List, [], ◌∷◌, Some, Ok, Err, refl, sym, ap}
use Rattle.serde_json.specs.Data.{Data}
use Rattle.sarif_model.specs.declared.fault.Fault.{Fault}
use Rattle.sarif_model.specs.Members.{◌>>=◌}
use Rattle.sarif_read.specs.Reading.{at_run, check_run, check_each}

pub goes_on : (allow : Bool) (n before now : ℕ) (run : Data) (runs : List Data) → Ok now ≡ check_run allow before run
    → check_each allow (n + 1) now runs ≡ check_each allow n before (run ∷ runs)
unfolding check_each
goes_on allow n before now run runs is = ap (λ r. at_run n r >>= λ m. check_each allow (n + 1) m runs) is

pub stops : (allow : Bool) (n before : ℕ) (fault : Fault) (run : Data) (runs : List Data) → Err fault ≡ check_run allow before run
    → check_each allow n before (run ∷ runs) ≡ Err (record { run = Some n; fault = fault })
unfolding check_each
stops allow n before fault run runs is = sym (ap (λ r. at_run n r >>= λ m. check_each allow (n + 1) m runs) is)

pub at_end : (allow : Bool) (n before : ℕ) → check_each allow n before [] ≡ Ok tt
unfolding check_each
at_end allow n before = refl
