-- What conditions see of results, without the marked ones among them.
use Rattle.std.proofs.Common.{◌≡◌, ◌&&◌, Bool, true, false, List, [], ◌∷◌, length, refl, ap, arith, if◌then◌else◌}
use Rattle.sarif_deciding.specs.Results.{judged_all, judged_by, seen_all, Seen}
use Rattle.sarif_model.specs.declared.kinds.State.{State}
use Rattle.sarif_model.specs.declared.record.Record.{Record}
use Rattle.sarif_outside.specs.Marks.{both}
use Rattle.sarif_policy.specs.declared.rating.Rating.{Rating}
use Rattle.sarif_read.specs.Unmarked.{unmarked}
use Rattle.sarif_results.specs.declared.draft.Draft.{Draft}

pub both_left : (ms asked marks : List Bool) → length marks ≡ length asked → both (unmarked ms asked) (unmarked ms marks) ≡ unmarked ms (both asked marks)
both_left [] asked marks same = refl
both_left (m ∷ ms) [] marks same = refl
both_left (m ∷ ms) (a ∷ asked) [] same = absurd (omega (arith, same))
both_left (true ∷ ms) (a ∷ asked) (b ∷ marks) same = both_left ms asked marks (omega (arith, same))
both_left (false ∷ ms) (a ∷ asked) (b ∷ marks) same = ap (λ l. (a && b) ∷ l) (both_left ms asked marks (omega (arith, same)))

pub seen_left : (ms : List Bool) (ratings : List Rating) (lines files gone : List Bool)
    → length lines ≡ length ratings → length files ≡ length ratings → length gone ≡ length ratings
    → seen_all (unmarked ms ratings) (unmarked ms lines) (unmarked ms files) (unmarked ms gone) ≡ unmarked ms (seen_all ratings lines files gone)
seen_left [] ratings lines files gone l f g = refl
seen_left (m ∷ ms) [] lines files gone l f g = refl
seen_left (m ∷ ms) (r ∷ rs) [] files gone l f g = absurd (omega (arith, l))
seen_left (m ∷ ms) (r ∷ rs) (line ∷ lines) [] gone l f g = absurd (omega (arith, f))
seen_left (m ∷ ms) (r ∷ rs) (line ∷ lines) (file ∷ files) [] l f g = absurd (omega (arith, g))
seen_left (true ∷ ms) (r ∷ rs) (line ∷ lines) (file ∷ files) (one ∷ gone) l f g =
    seen_left ms rs lines files gone (omega (arith, l)) (omega (arith, f)) (omega (arith, g))
seen_left (false ∷ ms) (r ∷ rs) (line ∷ lines) (file ∷ files) (one ∷ gone) l f g =
    let here : Seen = record { rating = r; in_lines = line; in_files = file; is_gone = one } in
    ap (λ l. here ∷ l) (seen_left ms rs lines files gone (omega (arith, l)) (omega (arith, f)) (omega (arith, g)))

pub judged_left : (ms : List Bool) (rs : List Record) (states : List State) (drafts : List Draft) (seen : List Seen)
    → length states ≡ length rs → length drafts ≡ length rs → length seen ≡ length rs
    → judged_all (unmarked ms rs) (unmarked ms states) (unmarked ms drafts) (unmarked ms seen) ≡ unmarked ms (judged_all rs states drafts seen)
judged_left [] rs states drafts seen s d o = refl
judged_left (m ∷ ms) [] states drafts seen s d o = refl
judged_left (m ∷ ms) (r ∷ rs) [] drafts seen s d o = absurd (omega (arith, s))
judged_left (m ∷ ms) (r ∷ rs) (state ∷ states) [] seen s d o = absurd (omega (arith, d))
judged_left (m ∷ ms) (r ∷ rs) (state ∷ states) (draft ∷ drafts) [] s d o = absurd (omega (arith, o))
judged_left (true ∷ ms) (r ∷ rs) (state ∷ states) (draft ∷ drafts) (one ∷ seen) s d o =
    judged_left ms rs states drafts seen (omega (arith, s)) (omega (arith, d)) (omega (arith, o))
judged_left (false ∷ ms) (r ∷ rs) (state ∷ states) (draft ∷ drafts) (one ∷ seen) s d o =
    ap (λ l. judged_by r state draft one ∷ l) (judged_left ms rs states drafts seen (omega (arith, s)) (omega (arith, d)) (omega (arith, o)))

pub if_left : {X : Type 0} (ms : List Bool) (asked : Bool) (xs ys found others : List X) → found ≡ unmarked ms xs → others ≡ unmarked ms ys
    → (if asked then found else others) ≡ unmarked ms (if asked then xs else ys)
if_left ms true xs ys found others x y = x
if_left ms false xs ys found others x y = y

pub if_long : {X Y : Type 0} (asked : Bool) (xs ys : List X) (zs : List Y) → length xs ≡ length zs → length ys ≡ length zs
    → length (if asked then xs else ys) ≡ length zs
if_long true xs ys zs x y = x
if_long false xs ys zs x y = y

-- without the marked ones and then without the taken ones, or the other way round
pub untaken_left : {X : Type 0} (taken ms : List Bool) (xs : List X) → length taken ≡ length xs → length ms ≡ length xs
    → unmarked (unmarked ms taken) (unmarked ms xs) ≡ unmarked (unmarked taken ms) (unmarked taken xs)
untaken_left [] [] [] same_t same_m = refl
untaken_left [] (m ∷ ms) [] same_t same_m = absurd (omega (arith, same_m))
untaken_left [] ms (x ∷ xs) same_t same_m = absurd (omega (arith, same_t))
untaken_left (t ∷ taken) ms [] same_t same_m = absurd (omega (arith, same_t))
untaken_left (t ∷ taken) [] (x ∷ xs) same_t same_m = absurd (omega (arith, same_m))
untaken_left (true ∷ taken) (true ∷ ms) (x ∷ xs) same_t same_m = untaken_left taken ms xs (omega (arith, same_t)) (omega (arith, same_m))
untaken_left (true ∷ taken) (false ∷ ms) (x ∷ xs) same_t same_m = untaken_left taken ms xs (omega (arith, same_t)) (omega (arith, same_m))
untaken_left (false ∷ taken) (true ∷ ms) (x ∷ xs) same_t same_m = untaken_left taken ms xs (omega (arith, same_t)) (omega (arith, same_m))
untaken_left (false ∷ taken) (false ∷ ms) (x ∷ xs) same_t same_m =
    ap (λ l. x ∷ l) (untaken_left taken ms xs (omega (arith, same_t)) (omega (arith, same_m)))
