use Rattle.std.proofs.Common.{◌≡◌, ◌++◌, drop, map}
use Rattle.serde_json.specs.Data.{string}
use Rattle.sarif_known.specs.Internal.Tokens.{each_tokens}
use Rattle.sarif_known.proofs.members.push_strings.Given as goal

abbrev pub invariant-loop-text : goal.invariant-loop-text
invariant-loop-text l = l.out ++ each_tokens (map string (drop l.text-index l.texts)) ≡ l.initial.out ++ each_tokens (map string l.texts)
