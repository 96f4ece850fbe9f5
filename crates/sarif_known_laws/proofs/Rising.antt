-- Names that rise: pairs that were read from an object make that object again.
use Rattle.std.proofs.Common.{◌≡◌, ℕ, List, [], Option, Some, None, refl}
use Rattle.std.specs.Prelude.{Result, Ok, Err}
use Rattle.serde_json.specs.Data.{Data, Members, no_members, member}
use Rattle.json_parts.specs.Internal.Ordered.{IsBelow, AreMembersOrdered}
use Rattle.sarif_model.specs.declared.fault.Fault.{Fault}
use Rattle.sarif_model.specs.Members.{◌>>=◌, result_map}
use Rattle.sarif_members.specs.Fingerprints.{text_or_null, with_pair, pairs_among}
use Rattle.sarif_model.specs.Written.{text_members}

ok_same : (a b : List (List ℕ × List ℕ)) → ◌≡◌ {A = Result (List (List ℕ × List ℕ)) Fault} (Ok a) (Ok b) → a ≡ b
ok_same a b e = cc

-- what is read of members that rise, rises
pub record Rises (ps : List (List ℕ × List ℕ)) (ms : Members) : Type 0 where
  pub below : (k : List ℕ) → IsBelow k ms → IsBelow k (text_members ps)
  pub ordered : AreMembersOrdered (text_members ps)

rises_with : (name : List ℕ) (d : Data) (ms : Members) (o : Option (List ℕ)) (more : List (List ℕ × List ℕ)) → IsBelow name ms
    → Rises more ms → Rises (with_pair name o more) (member name d ms)
rises_with name d ms None more first rest = record { below = λ k b. rest.below k b.1; ordered = rest.ordered }
rises_with name d ms (Some text) more first rest = record {
  below = λ k b. (b.0, rest.below k b.1);
  ordered = (rest.below name first, tt, rest.ordered);
}

pub rises : (ms : Members) (ps : List (List ℕ × List ℕ)) → AreMembersOrdered ms → pairs_among ms ≡ Ok ps → Rises ps ms
rises no_members ps are read = let none : [] ≡ ps = ok_same [] ps read in rw (← none) (record { below = λ k b. tt; ordered = tt })
rises (member name d ms) ps are read =
    elim (text_or_null d) as (λ r. (r >>= λ value. result_map (with_pair name value) (pairs_among ms)) ≡ Ok ps → Rises ps (member name d ms)) [
      | Ok value ↦ λ rest.
          elim (pairs_among ms) as (λ r. pairs_among ms ≡ r → result_map (with_pair name value) r ≡ Ok ps → Rises ps (member name d ms)) [
            | Ok more ↦ λ later whole.
                let same : with_pair name value more ≡ ps = ok_same (with_pair name value more) ps whole in
                rw (← same) (rises_with name d ms value more are.0 (rises ms more are.2 later))
            | Err fault ↦ λ _ no. let never : ⊥ = cc in absurd never
          ] refl rest
      | Err fault ↦ λ no. let never : ⊥ = cc in absurd never
    ] read
