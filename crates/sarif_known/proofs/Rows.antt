-- What is found under a name among rows.
use Rattle.std.proofs.Common.{◌≡◌, ℕ, Bool, true, false, List, [], ◌∷◌, Option, Some, None, bytes_eq, refl, sym, ap, ◌∙◌, Ordering, Less, Equal, Greater, is_eq, nat_cmp, true≢false, if◌then◌else◌}
use Rattle.std.specs.Cmp.Lexicographic.{slice_cmp}
use Rattle.std.specs.Ordering.{match_ordering}
use Rattle.std.proofs.lemmas.Map.Text.{is_eq-slice_cmp}
use Rattle.serde_json.specs.Data.{Data, Members, member}
use Rattle.serde_json.specs.Find.{get_member}
use Rattle.sarif_accept.specs.Entry.{members_from as put_from}
use Rattle.sarif_accept.proofs.Rows.{are_apart, at_put, found, get_row as get_put}
use Rattle.sarif_model.specs.Written.{Row}
use Rattle.sarif_known.specs.KnownResult.{members_from}

by_ordering : (o : Ordering) (b : Bool) (x y : Option Data) → is_eq o ≡ b → match_ordering o y x y ≡ (if b then x else y)
by_ordering Less true x y e = absurd (true≢false (sym e))
by_ordering Less false x y e = refl
by_ordering Equal true x y e = refl
by_ordering Equal false x y e = absurd (true≢false e)
by_ordering Greater true x y e = absurd (true≢false (sym e))
by_ordering Greater false x y e = refl

at_member : (q k : List ℕ) (d : Data) (ms : Members) → get_member q (member k d ms) ≡ (if bytes_eq q k then Some d else get_member q ms)
at_member q k d ms = by_ordering (slice_cmp nat_cmp q k) (bytes_eq q k) (Some d) (get_member q ms) (is_eq-slice_cmp q k)

-- a name finds the same value whether members are put among others or come before them
get_same : (q : List ℕ) (rows : List Row) → get_member q (members_from rows) ≡ get_member q (put_from rows)
get_same q [] = refl
get_same q ((k, None) ∷ rows) = get_same q rows
get_same q ((k, Some d) ∷ rows) =
    at_member q k d (members_from rows) ∙ ap (λ o. if bytes_eq q k then Some d else o) (get_same q rows) ∙ sym (at_put q k d (put_from rows))

-- what is found under a name among members that are made of rows, whose names differ
pub get_row : (q : List ℕ) (rows : List Row) → are_apart rows ≡ true → get_member q (members_from rows) ≡ found q rows
get_row q rows e = get_same q rows ∙ get_put q rows e
