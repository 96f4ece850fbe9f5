-- A loop over the members of an object that keeps the pairs so far.
use Rattle.std.proofs.Common.{◌≡◌, ℕ, List, [], ◌∷◌, ◌++◌, None, Result, Ok, Err, refl, ap, append-nil}
use Rattle.serde_json.specs.Data.{null, string, Members, no_members, member}
use Rattle.sarif_model.specs.declared.fault.Fault.{Fault}
use Rattle.sarif_model.specs.Members.{result_map}
use Rattle.sarif_members.specs.Fingerprints.{Pair, with_pair, pairs_among}
use Rattle.sarif_model.proofs.ReadEach.{before, before-push}

pub begins : (r : Result (List Pair) Fault) → before [] r ≡ r
begins (Ok ys) = refl
begins (Err e) = refl

without_pair : (name : List ℕ) (r : Result (List Pair) Fault)
    → result_map (with_pair name None) r ≡ r
without_pair name (Ok pairs) = refl
without_pair name (Err e) = refl

pub skips_null : (pairs : List Pair) (name : List ℕ) (ms : Members)
    → before pairs (pairs_among (member name null ms)) ≡ before pairs (pairs_among ms)
skips_null pairs name ms = ap (before pairs) (without_pair name (pairs_among ms))

pub goes_on : (pairs : List Pair) (name text : List ℕ) (ms : Members)
    → before pairs (pairs_among (member name (string text) ms))
    ≡ before (pairs ++ (name, text) ∷ []) (pairs_among ms)
goes_on pairs name text ms = before-push pairs (name, text) (pairs_among ms)

pub at_end : (pairs : List Pair) → before pairs (pairs_among no_members) ≡ Ok pairs
at_end pairs = ap Ok (append-nil pairs)

pub ruleset pair_steps = (begins, skips_null, goes_on, at_end)
