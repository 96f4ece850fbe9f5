use Rattle.std.proofs.Common.{◌≡◌, ◌++◌, Bool, List, IfOk, map, sym, subst, ap, ◌∙◌, string_bytes}
use Rattle.serde_json.specs.Data.{Data}
use Rattle.serde_json.specs.View.{view}
use Rattle.serde_json.specs.Written.{compact_text}
use Rattle.sarif_counts.specs.CountOf.{count_of}
use Rattle.sarif_counts.specs.Counts.{count_at}
use Rattle.sarif_model.specs.declared.kinds.Level.{Level}
use Rattle.sarif_model.specs.declared.kinds.State.{State}
use Rattle.sarif_log.specs.Beside.{IsToldBy}
use Rattle.sarif_log.specs.Copies.{naming}
use Rattle.sarif_log.specs.Internal.Copied.{places_by}
use Rattle.sarif_log.specs.Internal.Ruled.{gate_said}
use Rattle.sarif_log.specs.Internal.Side.{texts_of_left, texts_of_runs}
use Rattle.sarif_log.specs.Log.{log_with}
use Rattle.sarif_log.specs.Ruled.{verdict_ruled}
use Rattle.sarif_log.proofs.Ruled.{gate_is, verdict_is}
use Rattle.sarif_log.proofs.Uncopied.{counts_same}
use Rattle.sarif_scope.specs.Told.{facts_by, verdict_told}
use Rattle.sarif_log.proofs.written.write_log.Goals as goal

pub returns-clause-log : goal.returns-clause-log
returns-clause-log g c = λ runs counted change written facts.
    let sides = c.args.prepared in
    let policy = c.args.options.now.policy in
    let ruling = sides.ruling in
    let places = places_by sides.copies sides.current sides.baseline in
    let each = λ (s : State) (l : Level) (b : Bool). c.in_ok-weighed.ensures.counts s l b ∙ written.counts s l b in
    let count = count_at c.in_ok-weighed.weighed.counts in
    let same = counts_same count (count_of counted) each in
    let text =
    subst
    (λ r. IfOk r (λ s. (rs : List Data) → map compact_text rs ≡ texts_of_runs sides.current ++ texts_of_left sides.baseline
    → string_bytes s ≡ compact_text (log_with (view c.in_ok-weighed.weighed.gate) rs))) c.in_ok-text.was c.text_beside-text.ensures.text in
    record {
      log =
          c.merged_of-merged.ensures.log ∙ c.in_ok-log.ensures ∙ text runs written.texts
          ∙ ap (λ d. compact_text (log_with d runs))
          (c.in_ok-weighed.ensures.gate
          ∙ ap (λ f. naming places (gate_said ruling sides.change f policy sides.without sides.unused)) same
          ∙ ap (λ told. naming places (gate_said ruling told (count_of counted) policy sides.without sides.unused)) facts
          ∙ ap (naming places) (sym (gate_is ruling change counted policy sides.without sides.unused)));
      gate = record {
        counts = λ s l b. ap (λ f. count_at f s l b) c.merged_of-merged.ensures.counts ∙ each s l b;
        verdict =
            c.merged_of-merged.ensures.verdict ∙ c.verdict_of-verdict.ensures
            ∙ ap (λ told. verdict_ruled ruling (verdict_told told count policy)) facts
            ∙ ap (λ f. verdict_ruled ruling (verdict_told (facts_by change policy counted) f policy)) same
            ∙ sym (verdict_is ruling change counted policy);
        change = c.merged_of-merged.ensures.change ∙ facts;
        ruling = c.merged_of-merged.ensures.ruling;
        without = c.merged_of-merged.ensures.without;
        unused = c.merged_of-merged.ensures.unused;
      };
      named = c.merged_of-merged.ensures.copies ∙ c.in_ok-weighed.ensures.copies;
    }

pub returns-clause-told : goal.returns-clause-told
returns-clause-told g c =
    let merged = c.merged_of-merged.ensures in
    let facts = c.facts_of-facts.ensures in (
      _,
      subst (IsToldBy g.Tell.FnOnce c.args.tell _) c.in_ok-told.was c.text_beside-text.ensures.said,
      record {
        counts = facts.counts ∙ sym merged.counts;
        without = facts.without ∙ sym merged.without;
        unused = facts.unused ∙ sym merged.unused;
        expired = facts.expired ∙ sym merged.expired;
        findings = facts.findings ∙ sym merged.findings;
        change = facts.change ∙ sym merged.change;
        ruling = facts.ruling ∙ sym merged.ruling;
        copies = facts.copies ∙ sym merged.copies;
        life = facts.life ∙ sym merged.life;
      },
    )
