use Rattle.sarif_match.proofs.PartsLemmas.{key_is_parts}
use Rattle.sarif_match_laws.proofs.laws.keys_are_equal_where_their_parts_are.Goals as goal

pub returns : goal.returns
returns c = key_is_parts
