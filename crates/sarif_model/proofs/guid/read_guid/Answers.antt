use Rattle.std.proofs.Common.{◌≡◌, Option, Some, None, refl, sym, ap, option_map}
use Rattle.std.specs.Int.{w128, from_be_bytes}
use Rattle.std.proofs.lemmas.Bool.{false≢true}
use Rattle.uuid.specs.Text.{parsed}
use Rattle.sarif_model.specs.Guid.{guid_of_text}
use Rattle.sarif_model.proofs.guid.read_guid.Goals as goal

-- what has no value is absent
is_none : {A : Type 0} (o : Option A) → (((x : A) × (o ≡ Some x)) → ⊥) → o ≡ None
is_none None h = refl
is_none (Some x) h = absurd (h (x, refl))

pub returns-in-Err : goal.returns-in-Err
unfolding guid_of_text
returns-in-Err c =
    let unread : parsed c.args.text.now ≡ None =
    is_none _ (λ found. false≢true (c.in-Err.ensures.ok.1 found)) in
    sym (ap (option_map (from_be_bytes w128)) unread)
