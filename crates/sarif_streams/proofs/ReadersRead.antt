-- One reader more of a list of readers that are read in place.
use Rattle.std.proofs.Common.{◌≡◌, ℕ, Bool, true, false, zero, suc, ◌+◌, ◌<◌, ◌≤◌, List, [], ◌∷◌, ◌++◌, inl, inr, Option, Some, None, take, drop, length, set, get_or, refl, subst, sym, ap, ◌∙◌, add-zero, add-one, arith}
use Rattle.std.proofs.lemmas.List.Sums.{sum_by-cons}
use Rattle.std.proofs.lemmas.List.{get_or-drop, drop-drop, drop-set-lt, drop_more, set_split, take_more, take_more_set, take-append-drop, length-take-le}
use Rattle.sarif_streams.specs.declared.counted.Counted.{Counted}
use Rattle.sarif_model.specs.declared.merge_fault.Source.{Source}
use Rattle.sarif_streams.specs.declared.readers.ReadersFault.{ReadersFault}
use Rattle.sarif_model.specs.declared.refusal.Refusal.{Refusal}
use Rattle.sarif_streams.specs.AreRead.{IsRead, AreRead, HasStopped, StopsIn}
use Rattle.sarif_streams.specs.Counted.{failed_calls, RisesIf}
use Rattle.sarif_streams.specs.declared.readers.Readers.{Readers}
use Rattle.sarif_streams.specs.Failing.{failed_calls_in, NoneFalls}
use Rattle.sarif_streams.specs.OptionalReader.{failed_calls_if}
use Rattle.sarif_streams.specs.WereRead.{failures, IsReadIf, SourceContents, WereRead}

pub same_at : {X : Type 0} (xs ys : List X) (i : ℕ) (d : X) → drop i xs ≡ drop i ys → get_or xs i d ≡ get_or ys i d
same_at xs ys i d same =
    ap (λ n. get_or xs n d) (sym (add-zero i))
    ∙ sym (get_or-drop i xs 0 d)
    ∙ ap (λ zs. get_or zs 0 d) same
    ∙ get_or-drop i ys 0 d
    ∙ ap (λ n. get_or ys n d) (add-zero i)

pub same_after : {X : Type 0} (xs ys : List X) (i : ℕ) (x : X) → drop i xs ≡ drop i ys → drop (i + 1) (set xs i x) ≡ drop (i + 1) ys
same_after xs ys i x same =
    drop-set-lt (i + 1) xs i x (omega arith)
    ∙ sym (drop-drop 1 i xs)
    ∙ ap (drop 1) same
    ∙ drop-drop 1 i ys

are_read_push : {R : Type 0} (remaining : R → Option (List ℕ)) (os ws : List (Counted R)) (bs : List (List ℕ)) (o w : Counted R) (b : List ℕ)
    → AreRead remaining os ws bs → IsRead remaining o w b
    → AreRead remaining (os ++ o ∷ []) (ws ++ w ∷ []) (bs ++ b ∷ [])
are_read_push remaining [] [] [] o w b all one = (one, tt)
are_read_push remaining [] [] (c ∷ bs) o w b all one = absurd all
are_read_push remaining [] (v ∷ ws) bs o w b all one = absurd all
are_read_push remaining (p ∷ os) [] bs o w b all one = absurd all
are_read_push remaining (p ∷ os) (v ∷ ws) [] o w b all one = absurd all
are_read_push remaining (p ∷ os) (v ∷ ws) (c ∷ bs) o w b all one = (all.0, are_read_push remaining os ws bs o w b all.1 one)

-- one reader more was read
pub are_read_more : {R : Type 0} (remaining : R → Option (List ℕ)) (os ws : List (Counted R)) (bs : List (List ℕ)) (i : ℕ) (d w : Counted R) (b : List ℕ)
    → i < length os → i < length ws → drop i ws ≡ drop i os
    → AreRead remaining (take i os) (take i ws) bs → IsRead remaining (get_or ws i d) w b
    → AreRead remaining (take (i + 1) os) (take (i + 1) (set ws i w)) (bs ++ b ∷ [])
are_read_more remaining os ws bs i d w b in_os in_ws same all one =
    let given : IsRead remaining (get_or os i d) w b = subst (λ o. IsRead remaining o w b) (same_at ws os i d same) one in
    rw (take_more os i d in_os, take_more_set ws i w in_ws) (are_read_push remaining (take i os) (take i ws) bs (get_or os i d) w b all given)

stops_after : {R : Type 0} (remaining : R → Option (List ℕ)) (name : ℕ → Source) (n : ℕ) (os ws : List (Counted R)) (bs : List (List ℕ))
    (o w : Counted R) (rest : List (Counted R)) (fault : Refusal ReadersFault)
    → AreRead remaining os ws bs → HasStopped remaining (name (n + length os)) o w fault
    → StopsIn remaining name n (os ++ o ∷ rest) (ws ++ w ∷ rest) fault
stops_after remaining name n [] [] [] o w rest fault all one =
    inl (rw (add-zero n) at one, refl)
stops_after remaining name n [] [] (c ∷ bs) o w rest fault all one = absurd all
stops_after remaining name n [] (v ∷ ws) bs o w rest fault all one = absurd all
stops_after remaining name n (p ∷ os) [] bs o w rest fault all one = absurd all
stops_after remaining name n (p ∷ os) (v ∷ ws) [] o w rest fault all one = absurd all
stops_after remaining name n (p ∷ os) (v ∷ ws) (c ∷ bs) o w rest fault all one =
    let same : n + length (p ∷ os) ≡ n + 1 + length os = omega arith in
    let later : HasStopped remaining (name (n + 1 + length os)) o w fault = rw (sym same) one in
    inr ((c, all.0), stops_after remaining name (n + 1) os ws bs o w rest fault all.1 later)

-- a number that rises or stays doesn't fall
pub no_fall : (failed : Bool) (old now : ℕ) → RisesIf failed old now → old ≤ now
no_fall true old now rise = omega (arith, rise)
no_fall false old now rise = omega (arith, rise)

-- nor do the others where one of them was read
pub none_falls_at : {R : Type 0} (os ws : List (Counted R)) (i : ℕ) (d w : Counted R) → i < length ws → NoneFalls os ws
    → failed_calls (get_or ws i d) ≤ failed_calls w → NoneFalls os (set ws i w)
none_falls_at [] [] i d w within none more = absurd (omega (arith, within))
none_falls_at [] (v ∷ ws) i d w within none more = absurd none
none_falls_at (o ∷ os) [] i d w within none more = absurd none
none_falls_at (o ∷ os) (v ∷ ws) zero d w within none more = (omega (arith, none.0, more), none.1)
none_falls_at (o ∷ os) (v ∷ ws) (suc i) d w within none more = (none.0, none_falls_at os ws i d w (omega (arith, within)) none.1 more)

-- nor at the beginning
pub none_has_fallen : {R : Type 0} (os : List (Counted R)) → NoneFalls os os
none_has_fallen [] = tt
none_has_fallen (o ∷ os) = (omega arith, none_has_fallen os)

-- reading ended at this one
pub stops_at : {R : Type 0} (remaining : R → Option (List ℕ)) (name : ℕ → Source) (os ws : List (Counted R)) (bs : List (List ℕ)) (i : ℕ)
    (d w : Counted R) (fault : Refusal ReadersFault)
    → i < length os → i < length ws → drop i ws ≡ drop i os
    → AreRead remaining (take i os) (take i ws) bs → HasStopped remaining (name i) (get_or ws i d) w fault
    → StopsIn remaining name 0 os (set ws i w) fault
stops_at remaining name os ws bs i d w fault in_os in_ws same all one =
    let o = get_or os i d in
    let rest = drop (i + 1) os in
    let whole : os ≡ take i os ++ o ∷ rest = sym (take-append-drop i os) ∙ ap (λ xs. take i os ++ xs) (drop_more os i d in_os) in
    let left : drop (suc i) ws ≡ rest =
    ap (λ n. drop n ws) (sym (add-one i)) ∙ sym (drop-drop 1 i ws) ∙ ap (drop 1) same ∙ drop-drop 1 i os in
    let now : set ws i w ≡ take i ws ++ w ∷ rest = set_split ws i w in_ws ∙ ap (λ xs. take i ws ++ w ∷ xs) left in
    let here : i ≡ 0 + length (take i os) = omega (arith, length-take-le i os (omega (arith, in_os))) in
    let stopped : HasStopped remaining (name (0 + length (take i os))) o w fault =
    subst (λ n. HasStopped remaining (name n) o w fault) here (subst (λ x. HasStopped remaining (name i) x w fault) (same_at ws os i d same) one) in
    let found = stops_after remaining name 0 (take i os) (take i ws) bs o w rest fault all stopped in
    subst (λ xs. StopsIn remaining name 0 xs (set ws i w) fault) (sym whole)
    (subst (λ xs. StopsIn remaining name 0 (take i os ++ o ∷ rest) xs fault) (sym now) found)

-- no call of readers that were read has failed
are_read_quiet : {R : Type 0} (remaining : R → Option (List ℕ)) (os ws : List (Counted R)) (bs : List (List ℕ)) → AreRead remaining os ws bs
    → failed_calls_in ws ≡ failed_calls_in os
are_read_quiet remaining [] [] bs all = refl
are_read_quiet remaining [] (w ∷ ws) bs all = absurd all
are_read_quiet remaining (o ∷ os) [] bs all = absurd all
are_read_quiet remaining (o ∷ os) (w ∷ ws) [] all = absurd all
are_read_quiet remaining (o ∷ os) (w ∷ ws) (b ∷ bs) all =
    let one : failed_calls w ≡ failed_calls o = all.0.3 in
    let rest : failed_calls_in ws ≡ failed_calls_in os = are_read_quiet remaining os ws bs all.1 in
    sum_by-cons failed_calls w ws ∙ (ap (λ n. n + failed_calls_in ws) one ∙ (ap (λ n. failed_calls o + n) rest ∙ sym (sum_by-cons failed_calls o os)))

is_read_quiet : {R : Type 0} (remaining : R → Option (List ℕ)) (o w : Option (Counted R)) (b : Option (List ℕ)) → IsReadIf remaining o w b
    → failed_calls_if w ≡ failed_calls_if o
is_read_quiet remaining None None b one = refl
is_read_quiet remaining None (Some w) b one = absurd one
is_read_quiet remaining (Some o) None b one = absurd one
is_read_quiet remaining (Some o) (Some w) None one = absurd one
is_read_quiet remaining (Some o) (Some w) (Some b) one = one.3

pub were_read_quiet : {R : Type 0} (remaining : R → Option (List ℕ)) (old new : Readers R) (contents : SourceContents)
    → WereRead remaining old new contents → failures new ≡ failures old
were_read_quiet remaining old new contents read =
    let logs = are_read_quiet remaining old.logs.items new.logs.items contents.logs read.logs in
    let baselines = are_read_quiet remaining old.baselines.items new.baselines.items contents.baselines read.baselines in
    let file = is_read_quiet remaining old.suppressions new.suppressions contents.suppressions read.suppressions in
    let policy = is_read_quiet remaining old.policy new.policy contents.policy read.policy in
    let diff = is_read_quiet remaining old.diff new.diff contents.diff read.diff in
    omega (arith, logs, baselines, file, policy, diff)
