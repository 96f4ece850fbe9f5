-- The meaning of keys for the objects of entries.
use Rattle.std.proofs.Common.{◌≡◌, ℕ, Bool, true, false, ◌&&◌, List, Option, Some, None, Bor, option_map, codes, bytes_eq, refl, sym, ap, ◌∙◌}
use Rattle.std.specs.Bool.{Decides}
use Rattle.std.specs.Option.{option_eq}
use Rattle.std.proofs.lemmas.Bool.{false≢true, false_from_ne_true}
use Rattle.std.proofs.lemmas.Bool.Decides.{Decides-and}
use Rattle.std.proofs.lemmas.Slice.Eq.{bytes_eq-Decides}
use Rattle.serde_json.specs.Data.{Data, object}
use Rattle.sarif_model.specs.declared.kinds.Status.{Status}
use Rattle.sarif_model.specs.declared.kinds.Status.TheVariants.{Accepted, UnderReview, Rejected}
use Rattle.sarif_model.specs.contracts.kinds.StatusPartialEq.TheImpl as status
use Rattle.sarif_entries.specs.declared.key.EntryKey.{EntryKey}
use Rattle.sarif_entries.specs.Internal.Keys.{texts_with, justification_of, has_key, same_key, status_in}
use Rattle.sarif_model.specs.Written.{text_members}
use Rattle.sarif_model.specs.Members.{text_in}
use Rattle.sarif_entries.proofs.ObjectTest.{texts_mean}

-- ---- what equality of keys means

status_means : (a b : Status) → Decides (status.ghosts.eq a b) (a ≡ b)
status_means Accepted Accepted = (λ _. refl, λ _. refl)
status_means Accepted UnderReview = (λ t. absurd (false≢true t), λ e. cc)
status_means Accepted Rejected = (λ t. absurd (false≢true t), λ e. cc)
status_means UnderReview Accepted = (λ t. absurd (false≢true t), λ e. cc)
status_means UnderReview UnderReview = (λ _. refl, λ _. refl)
status_means UnderReview Rejected = (λ t. absurd (false≢true t), λ e. cc)
status_means Rejected Accepted = (λ t. absurd (false≢true t), λ e. cc)
status_means Rejected UnderReview = (λ t. absurd (false≢true t), λ e. cc)
status_means Rejected Rejected = (λ _. refl, λ _. refl)

text_means : (a b : Option (List ℕ)) → Decides (option_eq bytes_eq a b) (a ≡ b)
text_means None None = (λ _. refl, λ _. refl)
text_means None (Some b) = (λ t. absurd (false≢true t), λ e. cc)
text_means (Some a) None = (λ t. absurd (false≢true t), λ e. cc)
text_means (Some a) (Some b) = (λ t. ap Some ((bytes_eq-Decides a b).0 t), λ e. (bytes_eq-Decides a b).1 cc)

same_texts : (j i : Option (Bor (List ℕ)))
    → option_eq (λ a b. bytes_eq a.now b.now) j i ≡ option_eq bytes_eq (option_map (λ text. text.now) j) (option_map (λ text. text.now) i)
same_texts None None = refl
same_texts None (Some b) = refl
same_texts (Some a) None = refl
same_texts (Some a) (Some b) = refl

same_parts : (k q : EntryKey) → same_key k q ≡ (status.ghosts.eq k.status q.status && option_eq bytes_eq (justification_of k) (justification_of q))
same_parts k q = ap (λ b. status.ghosts.eq k.status q.status && b) (same_texts k.justification q.justification)

key_means : (k q : EntryKey) → Decides (same_key k q) ((k.status ≡ q.status) × (justification_of k ≡ justification_of q))
key_means k q = rw (same_parts k q) (Decides-and _ _ (status_means k.status q.status) (text_means (justification_of k) (justification_of q)))

-- ---- the members that are read from an object

read_status : (s : Status) (j : Option (List ℕ)) → status_in (object (text_members (texts_with s j))) ≡ Some s
read_status Accepted None = refl
read_status Accepted (Some text) = refl
read_status UnderReview None = refl
read_status UnderReview (Some text) = refl
read_status Rejected None = refl
read_status Rejected (Some text) = refl

read_text : (s : Status) (j : Option (List ℕ)) → text_in (codes "justification") (object (text_members (texts_with s j))) ≡ j
read_text s None = refl
read_text s (Some text) = refl

-- an object with a key has what the key says
reads : (q : EntryKey) (d : Data) → has_key q d ≡ true → (status_in d ≡ Some q.status) × (text_in (codes "justification") d ≡ justification_of q)
reads q d t =
    let is : d ≡ object (text_members (texts_with q.status (justification_of q))) = (texts_mean (texts_with q.status (justification_of q)) d).0 t in
    rw is (read_status q.status (justification_of q), read_text q.status (justification_of q))

from_both : (a b : Bool) → (a ≡ true → b ≡ true) → (b ≡ true → a ≡ true) → a ≡ b
from_both true b f g = sym (f refl)
from_both false true f g = g refl
from_both false false f g = refl

-- the keys of one object are equal, and no others have it
pub told_by : (k q : EntryKey) (d : Data) → has_key k d ≡ true → has_key q d ≡ same_key k q
told_by k q d mine =
    let here : (status_in d ≡ Some k.status) × (text_in (codes "justification") d ≡ justification_of k) = reads k d mine in
    from_both _ _
    (λ t.
    let there : (status_in d ≡ Some q.status) × (text_in (codes "justification") d ≡ justification_of q) = reads q d t in
    (key_means k q).1 (cc, sym here.1 ∙ there.1))
    (λ t.
    let same : (k.status ≡ q.status) × (justification_of k ≡ justification_of q) = (key_means k q).0 t in
    sym (rw (same.0, same.1) refl) ∙ mine)

-- if no status is read, the value has no key
pub no_status : (q : EntryKey) (d : Data) → status_in d ≡ None → has_key q d ≡ false
no_status q d none = false_from_ne_true _ (λ t. let found : status_in d ≡ Some q.status = (reads q d t).0 in cc)

-- if the value lacks the key that is read, it has no key
pub no_other : (k q : EntryKey) (d : Data) → status_in d ≡ Some k.status → text_in (codes "justification") d ≡ justification_of k
    → has_key k d ≡ false → has_key q d ≡ false
no_other k q d status text unlike = false_from_ne_true _ (λ t.
    let there : (status_in d ≡ Some q.status) × (text_in (codes "justification") d ≡ justification_of q) = reads q d t in
    let one : k.status ≡ q.status = cc in
    let other : justification_of k ≡ justification_of q = sym text ∙ there.1 in
    let has : has_key k d ≡ true = rw (one, other) t in
    cc)
