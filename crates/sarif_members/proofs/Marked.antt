-- The marks of the names of members.
use Rattle.std.proofs.Common.{◌≡◌, ◌≢◌, ℕ, ◌<◌, Bool, true, false, List, None, length, slice_set, true≢false, refl, sym, ap, ◌∙◌}
use Rattle.std.specs.Prelude.{option_and_then, slice_index_or}
use Rattle.std.proofs.lemmas.List.{get_or-set_same, get_or-set_other}
use Rattle.json.specs.Token.{Token}
use Rattle.serde_json.specs.Data.{Data, null, boolean, number, string, array, object, Members, put}
use Rattle.serde_json.specs.Find.{get, get_member, as_object}
use Rattle.serde_json.proofs.Views.{get_member-put_other}
use Rattle.json_parts.specs.Indexed.{data_of}
use Rattle.sarif_model.specs.Members.{unless_null}
use Rattle.sarif_read.specs.Internal.Listed.{value_at}
use Rattle.sarif_read.proofs.NodeValues.{kept_none}
use Rattle.sarif_read.proofs.PickedMembers.{data_ordered}
use Rattle.sarif_members.specs.Internal.Marked.{mark_of}

-- none of these members has a name without a mark
abbrev pub AreAllMarked : List Bool → Members → Type 0
AreAllMarked marks ms = (name : List ℕ) → slice_index_or marks (mark_of name) false ≡ false → get_member name ms ≡ None

-- one more member and its mark
pub one_more : (marks : List Bool) (k : List ℕ) (d : Data) (ms : Members) → mark_of k < length marks → AreAllMarked marks ms
    → AreAllMarked (slice_set marks (mark_of k) true) (put k d ms)
one_more marks k d ms within marked name free =
    let apart : mark_of name ≢ mark_of k =
    λ same. true≢false (sym (get_or-set_same marks (mark_of k) true false within)
    ∙ ap (λ (i : ℕ). slice_index_or (slice_set marks (mark_of k) true) i false) (sym same) ∙ free) in
    get_member-put_other name k d ms (λ same. apart (ap mark_of same))
    ∙ marked name (sym (get_or-set_other marks (mark_of k) (mark_of name) true false apart) ∙ free)

-- without an object there is no member
pub no_object : (name : List ℕ) (d : Data) → as_object d ≡ None → get name d ≡ None
no_object name null is = refl
no_object name (boolean b) is = refl
no_object name (number n) is = refl
no_object name (string s) is = refl
no_object name (array ds) is = refl
no_object name (object ms) is = cc

-- a member without a mark, of the stripped value
pub unmarked_kept : (k : List ℕ) (ts : List Token) → get k (data_of ts) ≡ None → None ≡ get k (value_at ts)
unmarked_kept k ts none = kept_none k (data_of ts) (data_ordered ts) (sym none)

pub unmarked_at : (k : List ℕ) (ts : List Token) → get k (data_of ts) ≡ None → None ≡ option_and_then unless_null (get k (value_at ts))
unmarked_at k ts none = ap (option_and_then unless_null) (unmarked_kept k ts none)

pub ruleset unmarked_steps = (unmarked_kept, unmarked_at)
