-- Which results a condition of a policy checks, and which ratings meet its minimum.
use Rattle.std.specs.Prelude.{Bool, true, false, not, ◌&&◌, List, Option, Some, None}
use Rattle.std.specs.List.{list_any}
use Rattle.sarif_model.specs.declared.record.Record.{Record}
use Rattle.sarif_model.specs.declared.kinds.Status.TheVariants.{Accepted}
use Rattle.sarif_entries.specs.declared.condition.Condition.{Condition}
use Rattle.sarif_entries.specs.declared.entry.Entry.{Entry}
use Rattle.sarif_entries.specs.Matching.{matches}
use Rattle.sarif_policy.specs.Decimal.{at_most}
use Rattle.sarif_policy.specs.declared.condition.GateCondition.{GateCondition}
use Rattle.sarif_policy.specs.declared.condition.Minimum.{Minimum}
use Rattle.sarif_policy.specs.declared.condition.Unrated.{Unrated}
use Rattle.sarif_policy.specs.declared.condition.Unrated.TheVariants.{Count, Skip}
use Rattle.sarif_policy.specs.declared.rating.Rating.{Rating}
use Rattle.sarif_policy.specs.declared.rating.Rating.TheVariants as ratings

-- a filter: an entry that has only these conditions. So it never expires, and has no `max`
abbrev pub filter_with : List Condition → Entry
filter_with cs = record {
  conditions = cs;
  expires = None;
  status = Accepted;
  justification = None;
  limit = None;
}

-- a filter matches as an entry does
abbrev pub any_matches : List Entry → Record → Bool
any_matches filters r = list_any (λ e. matches None e r) filters

abbrev pub is_chosen : Option (List Entry) → Record → Bool
is_chosen None r = true
is_chosen (Some only) r = any_matches only r

-- `only` is missing or one of its filters matches the result, and no filter of `except` does
abbrev pub checks : GateCondition → Record → Bool
checks c r = is_chosen c.only r && not (any_matches c.except r)

abbrev pub counts : Unrated → Bool
counts Count = true
counts Skip = false

-- a rating that is not a decimal meets every minimum: it says something, and it isn't known what
abbrev pub meets : Minimum → Rating → Bool
meets minimum ratings.Missing = counts minimum.unrated
meets minimum (ratings.Number n) = at_most minimum.least n
meets minimum ratings.Unknown = true
