-- What is made of a merge besides its log.
use Rattle.std.specs.Prelude.{◌≡◌, option_map}
use Rattle.std.specs.Borrow.{Bor}
use Rattle.std.specs.Fn.{FnOnceReturns, Once}
use Rattle.sarif_log.specs.declared.facts.Facts.{Facts}
use Rattle.sarif_log.specs.declared.merged.Merged.{Merged}

-- facts are those of that merge
pub record AreFactsOf (merged : Merged) (facts : Facts) : Type 0 where
  pub counts : facts.counts.now ≡ merged.counts
  pub without : facts.without ≡ merged.without
  pub unused : facts.unused ≡ merged.unused
  pub expired : facts.expired ≡ merged.expired
  pub findings : facts.findings.now ≡ merged.findings
  pub change : facts.change ≡ merged.change
  pub ruling : option_map (λ f. f.now) facts.ruling ≡ merged.ruling
  pub copies : facts.copies ≡ merged.copies
  pub life : facts.life.now ≡ merged.life

-- a call of this function with these facts may return this
abbrev pub IsToldBy : {F R : Type 0} → Once F (Bor Facts × Unit {0}) R → F → Facts → R → Type 0
IsToldBy call tell facts made =
    (told : Bor Facts) × FnOnceReturns call tell (told, tt) made × (told.now ≡ facts)

-- a call of this function with the facts of this merge may return this
abbrev pub IsMadeBy : {F R : Type 0} → Once F (Bor Facts × Unit {0}) R → F → Merged → R → Type 0
IsMadeBy call tell merged made =
    (facts : Facts) × IsToldBy call tell facts made × AreFactsOf merged facts
