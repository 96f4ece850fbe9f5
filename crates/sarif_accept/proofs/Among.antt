-- Fingerprints that were put into a map are among those they came from.
use Rattle.std.proofs.Common.{◌≡◌, ℕ, true, List, [], ◌∷◌, Option, Some, None, bytes_eq, refl, sym, ap, ◌∙◌, Ordering, Less, Equal, Greater, is_eq, nat_cmp}
use Rattle.std.specs.List.{list_any}
use Rattle.std.specs.Cmp.Lexicographic.{slice_cmp}
use Rattle.std.specs.Ordering.{match_ordering}
use Rattle.std.proofs.lemmas.Bool.{and_from, or_right, and_parts}
use Rattle.std.proofs.lemmas.Map.Text.{is_eq-slice_cmp}
use Rattle.std.proofs.lemmas.Slice.Eq.{bytes_eq-Decides}
use Rattle.serde_json.specs.Data.{Data, string, Members, no_members, member, put}
use Rattle.serde_json.specs.Find.{as_str}
use Rattle.sarif_entries.specs.Entries.{with_pair, pairs_of}
use Rattle.sarif_entries.specs.Condition.{is_pair, are_among}
use Rattle.sarif_accept.specs.Entry.{texts_into, texts_put}

pub same_text : (text : List ℕ) → bytes_eq text text ≡ true
same_text text = (bytes_eq-Decides text text).1 refl

more_among : (q : List ℕ × List ℕ) (ps among : List (List ℕ × List ℕ)) → are_among ps among ≡ true → are_among ps (q ∷ among) ≡ true
more_among q [] among all = refl
more_among q (p ∷ ps) among all =
    let both = and_parts (list_any (λ x. is_pair x p) among) (are_among ps among) all in
    and_from _ _ (or_right (is_pair q p) _ both.0) (more_among q ps among both.1)

itself_among : (ps : List (List ℕ × List ℕ)) → are_among ps ps ≡ true
itself_among [] = refl
itself_among (p ∷ ps) = and_from _ _ (rw (same_text p.0, same_text p.1) refl) (more_among p ps ps (itself_among ps))

rest_among : (name : List ℕ) (o : Option (List ℕ)) (ps among : List (List ℕ × List ℕ)) → are_among (with_pair name o ps) among ≡ true
    → are_among ps among ≡ true
rest_among name None ps among all = all
rest_among name (Some text) ps among all = (and_parts _ (are_among ps among) all).1

change_among : (name : List ℕ) (o : Option (List ℕ)) (ps qs among : List (List ℕ × List ℕ)) → are_among (with_pair name o ps) among ≡ true
    → are_among qs among ≡ true → are_among (with_pair name o qs) among ≡ true
change_among name None ps qs among all new = new
change_among name (Some text) ps qs among all new = and_from _ _ (and_parts _ (are_among ps among) all).0 new

put_among_on : (o : Ordering) (k v l : List ℕ) (e : Data) (ms : Members) (among : List (List ℕ × List ℕ)) → list_any (λ x. is_pair x (k, v)) among ≡ true
    → slice_cmp nat_cmp k l ≡ o → are_among (pairs_of (member l e ms)) among ≡ true → are_among (pairs_of (put k (string v) ms)) among ≡ true
    → are_among (pairs_of (match_ordering o (member k (string v) (member l e ms)) (member l (string v) ms) (member l e (put k (string v) ms)))) among ≡ true
put_among_on Less k v l e ms among here is all later = and_from _ _ here all
put_among_on Equal k v l e ms among here is all later =
    let same : k ≡ l = (bytes_eq-Decides k l).0 (sym (is_eq-slice_cmp k l) ∙ ap is_eq is) in
    and_from _ _ (rw (← same) here) (rest_among l (as_str e) (pairs_of ms) among all)
put_among_on Greater k v l e ms among here is all later = change_among l (as_str e) (pairs_of ms) (pairs_of (put k (string v) ms)) among all later

put_among : (k v : List ℕ) (ms : Members) (among : List (List ℕ × List ℕ)) → list_any (λ x. is_pair x (k, v)) among ≡ true
    → are_among (pairs_of ms) among ≡ true → are_among (pairs_of (put k (string v) ms)) among ≡ true
put_among k v no_members among here all = and_from _ _ here refl
put_among k v (member l e ms) among here all =
    put_among_on (slice_cmp nat_cmp k l) k v l e ms among here refl all
    (put_among k v ms among here (rest_among l (as_str e) (pairs_of ms) among all))

into_among : (ms : Members) (ps among : List (List ℕ × List ℕ)) → are_among (pairs_of ms) among ≡ true → are_among ps among ≡ true
    → are_among (pairs_of (texts_into ms ps)) among ≡ true
into_among ms [] among before all = before
into_among ms (p ∷ ps) among before all =
    let both = and_parts (list_any (λ x. is_pair x p) among) (are_among ps among) all in
    into_among (put p.0 (string p.1) ms) ps among (put_among p.0 p.1 ms among both.0 before) both.1

texts_among : (ps among : List (List ℕ × List ℕ)) → are_among ps among ≡ true → are_among (pairs_of (texts_put ps)) among ≡ true
texts_among ps among all = into_among no_members ps among refl all

pub texts_itself : (ps : List (List ℕ × List ℕ)) → are_among (pairs_of (texts_put ps)) ps ≡ true
texts_itself ps = texts_among ps ps (itself_among ps)
