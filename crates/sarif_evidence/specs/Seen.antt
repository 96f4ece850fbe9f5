-- What version 3 sees of a result.
use Rattle.std.specs.Prelude.{ℕ, List, [], not, Option, Some, None, ◌==◌, length, filter, if◌then◌else◌}
use Rattle.sarif_model.specs.WhiteSpace.{is_white_space}
use Rattle.sarif_model.specs.declared.record.Record.{Record}
use Rattle.sarif_evidence.specs.declared.version.MatchingVersion.{MatchingVersion}
use Rattle.sarif_evidence.specs.declared.version.MatchingVersion.TheVariants.{Two, Three}

-- the text without white space
abbrev pub packed : List ℕ → List ℕ
packed text = filter (λ b. not (is_white_space b)) text

-- the snippet without white space; one of white space alone is none
abbrev pub packed_snippet : Option (List ℕ) → Option (List ℕ)
packed_snippet None = None
packed_snippet (Some text) = if length (packed text) == 0 then None else Some (packed text)

-- the filled members, whose value isn't the empty string; an empty one says nothing about a result
abbrev pub filled : List (List ℕ × List ℕ) → List (List ℕ × List ℕ)
filled members = filter (λ member. not (length member.1 == 0)) members

-- the result without fingerprints that are not filled, without white space in its snippet, without its own
-- suppressions, and without the entries that admit it
abbrev pub seen : Record → Record
seen r = record {
  tool = r.tool;
  rule_id = r.rule_id;
  kind = r.kind;
  level = r.level;
  message = r.message;
  place = r.place;
  guid = r.guid;
  full = filled r.full;
  partial = filled r.partial;
  held = [];
  region = r.region;
  snippet = packed_snippet r.snippet;
  admitted = [];
}

-- what a version of matching reads from a result, unchanged: version 2 doesn't read snippets, and version 3 reads neither
-- fingerprints that are not filled nor the result's own suppressions
abbrev pub as_matched : MatchingVersion → Record → Record
as_matched Two r = record r { snippet = None }
as_matched Three r = record (seen r) { snippet = r.snippet; admitted = r.admitted }
