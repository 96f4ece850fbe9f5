use Rattle.std.proofs.Common.{rules, ◌≡◌, ◌∷◌, [], ◌++◌}
use Rattle.sarif_match.proofs.NumberLemmas.{grows_more, grows_none, shorts_more}
use Rattle.sarif_match.proofs.shortening.short_records.Goals as goal

pub loop-finding-init : goal.loop-finding-init
loop-finding-init g c = record { short = search rules; grows = grows_none c.args.numbers.now }

pub loop-finding-preserved : goal.loop-finding-preserved
loop-finding-preserved g c =
    let pushed : c.push.new.self.items ≡ c.loop-finding.short.items ++ (c.in_ok-short_record.field-0 ∷ []) = search rules in
    record {
      short = shorts_more c.loop-finding.numbers c.short_record.new.numbers c.args.findings.now c.loop-finding.finding-index
          c.finding-item.result c.loop-finding.short.items c.push.new.self.items c.in_ok-short_record.field-0 c.finding-item.is
          c.loop-finding-test.true pushed c.in_ok-short_record.ensures.grows c.in_ok-short_record.ensures.short c.loop-finding.invariant.short;
      grows = grows_more c.args.numbers.now c.loop-finding.numbers c.short_record.new.numbers c.loop-finding.invariant.grows
          c.in_ok-short_record.ensures.grows;
    }
