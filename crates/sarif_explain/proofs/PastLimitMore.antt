-- Bytes that are JSON or not, and whether they have too many entries.
use Rattle.std.proofs.Common.{◌≡◌, ℕ, Bool, false, List, Some, None, sym, ap, ◌∙◌}
use Rattle.std.specs.Option.{option_map_or}
use Rattle.serde_json.specs.Data.{Data}
use Rattle.json_parts.specs.Indexed.{json_of}
use Rattle.sarif_explain.specs.Internal.PastLimit.{has_many_entries, has_many_in}

pub many_in_value : (bytes : List ℕ) (file : Data) (is : Bool) → json_of bytes ≡ Some file
    → is ≡ has_many_entries file → is ≡ has_many_in bytes
many_in_value bytes file is read same = same ∙ sym (ap (λ v. option_map_or has_many_entries v false) read)

pub not_many_in_none : (bytes : List ℕ) → json_of bytes ≡ None → false ≡ has_many_in bytes
not_many_in_none bytes refused = sym (ap (λ v. option_map_or has_many_entries v false) refused)
