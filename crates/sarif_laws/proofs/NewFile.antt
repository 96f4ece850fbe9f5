-- The text of the new suppression file is read as the file.
use Rattle.std.proofs.Common.{◌≡◌, ℕ, ◌<◌, ◌^◌, ◌/◌, ◌%◌, true, ◌&&◌, Option, Some, None, refl, arith}
use Rattle.std.specs.Prelude.{nat_le}
use Rattle.std.specs.Str.{IsUtf8}
use Rattle.std.proofs.lemmas.Bool.{and_parts, leb-true}
use Rattle.sarif_options.specs.declared.policy.Policy.{Policy}
use Rattle.sarif_options.specs.declared.upkeep.Renewal.{Renewal}
use Rattle.json_parts.specs.Indexed.{json_of}
use Rattle.json_parts.specs.Mark.{without_mark}
use Rattle.sarif_model.specs.Limits.{first_day, last_day}
use Rattle.sarif_entries.specs.Entries.{is_day, is_within}
use Rattle.sarif_accept.specs.NewFile.{file_text}
use Rattle.sarif_accept.specs.Until.{IsDated}
use Rattle.sarif_accept.proofs.RenewedFile.{is_shallow, is_whole}
use Rattle.sarif_inputs.specs.Inputs.{Inputs}
use Rattle.sarif_merge.specs.Life.{merge_in}
use Rattle.sarif_upkeep.specs.Merge.{Merge}
use Rattle.sarif_upkeep.specs.Renewed.{added_in, kept_in, rules_after}
use Rattle.sarif_laws.specs.NextMerge.{IsNewFileOf}
use Rattle.sarif_laws.proofs.Reread.{text_read}
use Rattle.sarif_laws.proofs.Sound.{IsSmall, new_sound}

date_small : (n : ℕ) → is_day n ≡ true → n < 2 ^ 64
date_small n is =
    let parts = and_parts (is_within first_day last_day n) (is_within 1 12 (n / 100 % 100) && is_within 1 31 (n % 100)) is in
    let range = and_parts (nat_le first_day n) (nat_le n last_day) parts.0 in
    omega (arith, leb-true n last_day range.1)

small_until : (today until : Option ℕ) → IsDated today until → IsSmall until
small_until today None dated = tt
small_until today (Some last) dated = date_small last dated.0

module _ (m : Merge) (renewal : Renewal) (small : IsSmall renewal.until) where
  reread : IsUtf8 (file_text (rules_after m renewal)) → json_of (without_mark (file_text (rules_after m renewal))) ≡ Some (rules_after m renewal)
  reread utf8 =
      let sound = new_sound m.bytes (kept_in m renewal) (added_in m renewal) renewal small in
      text_read (rules_after m renewal) _ refl sound.rises sound.fits
      (is_whole m.bytes (kept_in m renewal) (added_in m renewal) renewal (rules_after m renewal) refl)
      (is_shallow m.bytes (kept_in m renewal) (added_in m renewal) renewal (rules_after m renewal) refl) utf8

pub new_file_read : (inputs : Inputs) (policy : Policy) (renewal : Renewal) → IsDated inputs.today renewal.until
    → IsUtf8 (file_text (rules_after (merge_in inputs policy) renewal))
    → IsNewFileOf inputs policy renewal (file_text (rules_after (merge_in inputs policy) renewal))
new_file_read inputs policy renewal dated utf8 = reread (merge_in inputs policy) renewal (small_until inputs.today renewal.until dated) utf8
