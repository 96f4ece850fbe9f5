-- The gate object of a gate for one change.
use Rattle.std.proofs.Common.{◌≡◌, ℕ, false, codes, refl, ap, ◌∙◌}
use Rattle.json_parts.proofs.Keeping.{put_whole}
use Rattle.serde_json.specs.Data.{Data, null, boolean, number, string, array, object, put}
use Rattle.serde_json.specs.Written.{has_float}
use Rattle.sarif_counts.specs.Gate.{gate_of, whole_number}
use Rattle.sarif_counts.specs.Hits.{Count, verdict_name}
use Rattle.sarif_counts.specs.declared.gate_verdict.Verdict.{Verdict}
use Rattle.sarif_options.specs.declared.policy.Policy.{Policy}
use Rattle.sarif_scope.specs.Counted.{verdict_on}
use Rattle.sarif_scope.specs.Gate.{diff_data, gate_of_change}
use Rattle.sarif_scope.specs.Internal.Narrowed.{narrowed}
use Rattle.sarif_scope.specs.declared.facts.ChangeFacts.{ChangeFacts}

pub gate_is : (count : Count) (facts : ChangeFacts) (policy : Policy) (without unused hits found : ℕ) (verdict : Verdict) (gate made : Data)
    → made ≡ narrowed facts found verdict gate → gate ≡ gate_of count policy without unused
    → found ≡ hits → verdict ≡ verdict_on hits policy
    → made ≡ gate_of_change count hits facts policy without unused
gate_is count facts policy without unused hits found verdict gate made is from found_is verdict_is =
    is ∙ ap (narrowed facts found verdict) from
    ∙ ap (λ h. narrowed facts h verdict (gate_of count policy without unused)) found_is
    ∙ ap (λ v. narrowed facts hits v (gate_of count policy without unused)) verdict_is

pub narrowed_whole : (facts : ChangeFacts) (hits : ℕ) (verdict : Verdict) (gate : Data) → has_float gate ≡ false
    → has_float (narrowed facts hits verdict gate) ≡ false
narrowed_whole facts hits verdict null whole = refl
narrowed_whole facts hits verdict (boolean b) whole = refl
narrowed_whole facts hits verdict (number n) whole = whole
narrowed_whole facts hits verdict (string s) whole = refl
narrowed_whole facts hits verdict (array ds) whole = whole
narrowed_whole facts hits verdict (object ms) whole =
    put_whole (codes "verdict") (string (verdict_name verdict))
    (put (codes "hits") (whole_number hits) (put (codes "diff") (diff_data facts) ms)) refl
    (put_whole (codes "hits") (whole_number hits) (put (codes "diff") (diff_data facts) ms) refl
    (put_whole (codes "diff") (diff_data facts) ms refl whole))
