-- The results that are found in a run that was written.
use Rattle.std.proofs.Common.{◌≡◌, ℕ, Bool, true, false, List, Some, None, Ordering, Less, Equal, Greater, nat_cmp, codes, bytes_eq, is_eq, if◌then◌else◌, refl, ap, true≢false}
use Rattle.std.proofs.lemmas.Map.Text.{is_eq-slice_cmp}
use Rattle.std.specs.Cmp.Lexicographic.{slice_cmp}
use Rattle.std.specs.Ordering.{match_ordering}
use Rattle.serde_json.specs.Data.{Data, array, object, Items, Members, no_members, member}
use Rattle.serde_json.specs.Find.{get_member}
use Rattle.serde_json.proofs.Views.{get_member-put}
use Rattle.sarif_counts.specs.CountOf.{items_in, results_in}
use Rattle.json_parts.specs.Without.{without}
use Rattle.sarif_log.specs.MergedRuns.{bare, with_results}

-- a name that is taken out isn't found
gone_at : (o : Ordering) (same : Bool) (name k : List ℕ) (d : Data) (ms : Members)
    → slice_cmp nat_cmp name k ≡ o → is_eq o ≡ same → get_member name ms ≡ None
    → get_member name (if same then ms else member k d ms) ≡ None
gone_at o true name k d ms is same later = later
gone_at Less false name k d ms is same later = rw is later
gone_at Equal false name k d ms is same later = absurd (true≢false same)
gone_at Greater false name k d ms is same later = rw is later

pub taken_out : (name : List ℕ) (ms : Members) → get_member name (without name ms) ≡ None
taken_out name no_members = refl
taken_out name (member k d ms) =
    gone_at (slice_cmp nat_cmp name k) (bytes_eq name k) name k d (without name ms) refl (is_eq-slice_cmp name k) (taken_out name ms)

-- a member that was not there is not there after something is taken out
stays_at : (o : Ordering) (same : Bool) (name k : List ℕ) (d : Data) (ms ns : Members)
    → slice_cmp nat_cmp name k ≡ o
    → match_ordering o (get_member name ms) (Some d) (get_member name ms) ≡ None
    → (get_member name ms ≡ None → get_member name ns ≡ None)
    → get_member name (if same then ns else member k d ns) ≡ None
stays_at Less true name k d ms ns is none later = later none
stays_at Less false name k d ms ns is none later = rw is (later none)
stays_at Equal same name k d ms ns is none later = absurd (some≢none none) where
  some≢none : {A : Type 0} {x : A} → Some x ≡ None → ⊥
  some≢none e = cc
stays_at Greater true name k d ms ns is none later = later none
stays_at Greater false name k d ms ns is none later = rw is (later none)

pub still_out : (name other : List ℕ) (ms : Members) → get_member name ms ≡ None → get_member name (without other ms) ≡ None
still_out name other no_members none = refl
still_out name other (member k d ms) none =
    stays_at (slice_cmp nat_cmp name k) (bytes_eq other k) name k d ms (without other ms) refl none (still_out name other ms)

-- a run has no members besides its results
pub bare_results : (ms : Members) → results_in (object (bare ms)) ≡ items_in None
bare_results ms =
    ap items_in (still_out (codes "results") (codes "baselineGuid") (without (codes "results") ms) (taken_out (codes "results") ms))

-- the inserted ones are found
pub put_results_found : (ds : Items) (ms : Members) → results_in (object (with_results (Some ds) ms)) ≡ ds
put_results_found ds ms = ap items_in (get_member-put (codes "results") (array ds) ms)
