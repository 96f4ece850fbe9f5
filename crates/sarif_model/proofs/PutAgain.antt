-- A member that is set twice, and lists of items there and back.
use Rattle.std.proofs.Common.{◌≡◌, ℕ, List, Ordering, Less, Equal, Greater, nat_cmp, refl, ap}
use Rattle.std.proofs.lemmas.Cmp.{nat_list_cmp_total, tied_itself}
use Rattle.std.specs.Cmp.Lexicographic.{slice_cmp}
use Rattle.std.specs.Ordering.{match_ordering}
use Rattle.serde_json.specs.Data.{Data, Items, no_items, item, Members, no_members, member, put}
use Rattle.serde_json.specs.View.{items_of}
use Rattle.sarif_model.specs.Members.{elements}

put_at : (o : Ordering) (k l : List ℕ) (d e x : Data) (ms : Members) → slice_cmp nat_cmp k l ≡ o
    → put k d (put k e ms) ≡ put k d ms
    → put k d (match_ordering o (member k e (member l x ms)) (member l e ms) (member l x (put k e ms)))
    ≡ match_ordering o (member k d (member l x ms)) (member l d ms) (member l x (put k d ms))
put_at Less k l d e x ms is later = rw (tied_itself nat_list_cmp_total k)
put_at Equal k l d e x ms is later = rw is
put_at Greater k l d e x ms is later = rw (is, later) refl

pub put_put : (k : List ℕ) (d e : Data) (ms : Members) → put k d (put k e ms) ≡ put k d ms
put_put k d e no_members = rw (tied_itself nat_list_cmp_total k)
put_put k d e (member l x ms) = put_at _ k l d e x ms refl (put_put k d e ms)

pub items_of_elements : (ds : Items) → items_of (elements ds) ≡ ds
items_of_elements no_items = refl
items_of_elements (item d ds) = ap (λ es. item d es) (items_of_elements ds)
