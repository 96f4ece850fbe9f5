use Rattle.std.proofs.Common.{◌≡◌, ◌+◌, ◌-◌, not, inl, inr, length, map, sym, ap, ◌∙◌, arith}
use Rattle.std.proofs.lemmas.Result.{err_from_is_err_and}
use Rattle.std.specs.Option.{option_map_or}
use Rattle.std.specs.Prelude.{Some, [], count_by}
use Rattle.sarif_model.specs.FirstFault.{first}
use Rattle.sarif_accept.specs.Adding.{once_each}
use Rattle.sarif_accept.specs.NewFile.{file_text}
use Rattle.sarif_upkeep.specs.Renewed.{entries_count, kept_in}
use Rattle.sarif_upkeep.proofs.NewEntries.{accepted_count, added_are, added_count, entries_number, faults_are, file_is, kept_long, kept_or_not, too_many}
use Rattle.sarif_upkeep.proofs.Shown.{in_both}
use Rattle.sarif_upkeep.proofs.renewing.renew.Goals as goal

pub returns-in_err-text-clause-refused : goal.returns-in_err-text-clause-refused
returns-in_err-text-clause-refused c = λ m is.
    let p = err_from_is_err_and c.from_residual-in_err-text.result c.from_residual-in_err-text.ensures.1 in
    let same =
    faults_are m c.args.renewal.now c.args.matched.now.bytes c.deref-3.result.now c.deref.result.now c.deref-4.result.now is.bytes
    (c.deref-3.ensures.value ∙ c.in_ok-kept.ensures.kept m is)
    (ap (map (λ r. r.now)) c.deref.ensures.value ∙ c.in_ok-accepted.ensures.accepted m is)
    (ap (map (λ r. r.now)) c.deref-4.ensures.value ∙ c.in_ok-added.ensures.ok
    ∙ ap (once_each []) (in_both c.in_ok-shown.shown c.deref.ensures.value c.deref-2.ensures.value c.in_ok-shown.ensures is.matching)) in
    rw (p.1, p.2) (elim c.in_err-text.ensures.err [ inl out ↦ inl out | inr found ↦ inr (ap first (sym same) ∙ found) ])

pub returns-in_err-added-clause-refused : goal.returns-in_err-added-clause-refused
returns-in_err-added-clause-refused c = λ m is.
    let p = err_from_is_err_and c.from_residual-in_err-added.result c.from_residual-in_err-added.ensures.1 in
    let accepted_is = ap (map (λ r. r.now)) c.deref.ensures.value ∙ c.in_ok-accepted.ensures.accepted m is in
    let shown_is = in_both c.in_ok-shown.shown c.deref.ensures.value c.deref-2.ensures.value c.in_ok-shown.ensures is.matching in
    rw (p.1, p.2)
    (elim c.in_err-added.ensures.err [
      | inl out ↦ inl out
      | inr found ↦ inr (too_many m c.args.renewal.now c.deref.result.now (option_map_or (λ v. v.items) c.in_ok-shown.shown (map (λ r. r.now) c.deref-2.result.now)) shown_is accepted_is found.1 ∙ ap Some (sym found.0))
    ])

pub returns-clause-sound : goal.returns-clause-sound
returns-clause-sound c = λ m is.
    sym (faults_are m c.args.renewal.now c.args.matched.now.bytes c.deref-3.result.now c.deref.result.now c.deref-4.result.now is.bytes
    (c.deref-3.ensures.value ∙ c.in_ok-kept.ensures.kept m is)
    (ap (map (λ r. r.now)) c.deref.ensures.value ∙ c.in_ok-accepted.ensures.accepted m is)
    (ap (map (λ r. r.now)) c.deref-4.ensures.value ∙ c.in_ok-added.ensures.ok
    ∙ ap (once_each []) (in_both c.in_ok-shown.shown c.deref.ensures.value c.deref-2.ensures.value c.in_ok-shown.ensures is.matching)))
    ∙ c.in_ok-text.ensures.sound

pub returns-clause-made : goal.returns-clause-made
returns-clause-made c = λ m is.
    let renewal = c.args.renewal.now in
    let bytes = c.args.matched.now.bytes in
    let kept_is = c.deref-3.ensures.value ∙ c.in_ok-kept.ensures.kept m is in
    let accepted_is = ap (map (λ r. r.now)) c.deref.ensures.value ∙ c.in_ok-accepted.ensures.accepted m is in
    let added_is = ap (map (λ r. r.now)) c.deref-4.ensures.value ∙ c.in_ok-added.ensures.ok
    ∙ ap (once_each []) (in_both c.in_ok-shown.shown c.deref.ensures.value c.deref-2.ensures.value c.in_ok-shown.ensures is.matching) in
    let accepted = accepted_count m renewal bytes c.deref-3.result.now c.deref.result.now c.deref-4.result.now is.bytes kept_is accepted_is added_is in
    let added = added_count m renewal bytes c.deref-3.result.now c.deref.result.now c.deref-4.result.now is.bytes kept_is accepted_is added_is in
    let left = c.count_kept-count.ensures.count ∙ ap (count_by (λ mark. mark)) (c.deref-6.ensures.value ∙ c.in_ok-kept.ensures.kept m is) in
    let text =
    c.in_ok-text.ensures.text
    ∙ ap file_text
    (file_is m renewal bytes c.deref-3.result.now c.deref.result.now c.deref-4.result.now is.bytes kept_is accepted_is added_is) in
    let accepted_now = ap length c.deref.ensures.value in
    let added_now = ap length c.deref-4.ensures.value in
    let many = kept_long m renewal in
    let both = kept_or_not (kept_in m renewal) in
    let entries = entries_number m renewal is.read in
    let all = c.len-all.ensures.count ∙ ap (λ f. length f.entries) is.file in
    let all_added = ap (map (λ r. r.now)) (c.deref-5.ensures.value ∙ sym c.deref-4.ensures.value)
    ∙ added_are m renewal bytes c.deref-3.result.now c.deref.result.now c.deref-4.result.now is.bytes kept_is accepted_is added_is in
    let alike = c.in_ok-left.ensures.alike m is all_added in
    let stays = c.in_ok-left.ensures.stay m is all_added in
    let taken = c.len.ensures ∙ c.in_ok-accepted.accepted.ok.0 ∙ sym accepted_now ∙ accepted in
    let added_all = c.len-2.ensures ∙ c.in_ok-added.added.ok.0 ∙ sym added_now ∙ added in
    let gone : c.len-all.result - c.count_kept-count.result ≡ count_by (λ kept. not kept) (kept_in m renewal) = omega (arith, all, left, both, many) in
    let count : c.count_kept-count.result + c.len-2.result ≡ entries_count m renewal = omega (arith, left, added_all, entries) in
    λ i. record {
      text = text i;
      accepted = taken i;
      alike = alike i;
      stay = stays i;
      pruned = gone i;
      entries = count i;
    }

pub returns-clause-reads : goal.returns-clause-reads
returns-clause-reads c = λ m is.
    c.in_ok-text.ensures.reads
    ∙ ap Some
    (file_is m c.args.renewal.now c.args.matched.now.bytes c.deref-3.result.now c.deref.result.now c.deref-4.result.now is.bytes
    (c.deref-3.ensures.value ∙ c.in_ok-kept.ensures.kept m is)
    (ap (map (λ r. r.now)) c.deref.ensures.value ∙ c.in_ok-accepted.ensures.accepted m is)
    (ap (map (λ r. r.now)) c.deref-4.ensures.value ∙ c.in_ok-added.ensures.ok
    ∙ ap (once_each []) (in_both c.in_ok-shown.shown c.deref.ensures.value c.deref-2.ensures.value c.in_ok-shown.ensures is.matching)))
