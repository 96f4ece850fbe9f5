-- The gate object contains only integers.
use Rattle.std.proofs.Common.{◌≡◌, ℕ, Bool, true, false, refl}
use Rattle.serde_json.specs.View.{items_of}
use Rattle.serde_json.specs.Written.{has_float, items_have_float}
use Rattle.sarif_options.specs.declared.policy.Policy.{Policy}
use Rattle.sarif_counts.specs.Hits.{Count}
use Rattle.sarif_counts.specs.Gate.{gate_of, listed_names}

-- regardless of the states in the policy
names_whole : (a b c d : Bool)
    → items_have_float (items_of (listed_names (record { absent = a; fresh = b; unchanged = c; updated = d }))) ≡ false
names_whole true true true true = refl
names_whole true true true false = refl
names_whole true true false true = refl
names_whole true true false false = refl
names_whole true false true true = refl
names_whole true false true false = refl
names_whole true false false true = refl
names_whole true false false false = refl
names_whole false true true true = refl
names_whole false true true false = refl
names_whole false true false true = refl
names_whole false true false false = refl
names_whole false false true true = refl
names_whole false false true false = refl
names_whole false false false true = refl
names_whole false false false false = refl

pub gate_whole : (count : Count) (policy : Policy) (without unused : ℕ)
    → has_float (gate_of count policy without unused) ≡ false
gate_whole count policy without unused =
    let s = policy.states in rw (names_whole s.absent s.fresh s.unchanged s.updated) refl
