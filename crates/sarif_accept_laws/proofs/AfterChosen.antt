-- What the entries of chosen hits make of results.
use Rattle.std.proofs.Common.{◌≡◌, ℕ, ◌<◌, zero, suc, Bool, true, false, ◌&&◌, ◌||◌, not, List, [], ◌∷◌, length, map, get_or, Some, None, refl, sym, ap, ◌∙◌, arith, true≢false}
use Rattle.std.proofs.lemmas.List.{get_or-map, length-map}
use Rattle.std.proofs.lemmas.Bool.{or_left}
use Rattle.sarif_evidence.specs.Seen.{as_matched}
use Rattle.sarif_model.specs.declared.kinds.State.{State}
use Rattle.sarif_model.specs.declared.record.Record.{Record}
use Rattle.sarif_entries.specs.File.{File}
use Rattle.sarif_suppress.specs.Suppressing.{is_suppressed}
use Rattle.sarif_accept.specs.Adding.{How, MayBeHit, added_for, file_after, is_hit, once_each, stays}
use Rattle.sarif_accept.specs.Choosing.{Marks, accepted_by, added_by, chosen_by, entries_read, file_adding, is_acceptable, is_chosen_at, is_left, is_met}
use Rattle.sarif_accept.specs.Keeping.{chosen}
use Rattle.sarif_accept.specs.Until.{IsUntil}
use Rattle.sarif_accept_laws.proofs.After.{among_accepted, once_said, said_matches, suppressed_adding}
use Rattle.sarif_accept_laws.proofs.EntryMatches.{any_as}

-- ---- a chosen hit gets an entry

-- a chosen result is among the chosen ones
chosen_among : (marks : List Bool) (rs : List Record) (states : List State) (r : Record) (state : State) (i : ℕ)
    → get_or marks i false ≡ true → i < length rs → i < length states → get_or rs i r ≡ r → get_or states i state ≡ state
    → (j : ℕ) × (j < length (chosen marks rs)) × (j < length (chosen marks states))
    × (get_or (chosen marks rs) j r ≡ r) × (get_or (chosen marks states) j state ≡ state)
chosen_among [] rs states r state i mark within inside is at = absurd (true≢false (sym mark))
chosen_among (m ∷ ms) [] states r state i mark within inside is at = absurd (omega arith)
chosen_among (m ∷ ms) (x ∷ xs) [] r state i mark within inside is at = absurd (omega arith)
chosen_among (true ∷ ms) (x ∷ xs) (s ∷ ss) r state zero mark within inside is at = (0, omega arith, omega arith, is, at)
chosen_among (false ∷ ms) (x ∷ xs) (s ∷ ss) r state zero mark within inside is at = absurd (true≢false (sym mark))
chosen_among (true ∷ ms) (x ∷ xs) (s ∷ ss) r state (suc i) mark within inside is at =
    let more = chosen_among ms xs ss r state i mark (omega arith) (omega arith) is at in
    (suc more.0, omega (arith, more.1), omega (arith, more.2), more.3, more.4)
chosen_among (false ∷ ms) (x ∷ xs) (s ∷ ss) r state (suc i) mark within inside is at =
    chosen_among ms xs ss r state i mark (omega arith) (omega arith) is at

among_chosen : (marks : Marks) (rs : List Record) (states : List State) (r : Record) (state : State) (i : ℕ)
    → is_chosen_at marks i ≡ true → i < length rs → i < length states → get_or rs i r ≡ r → get_or states i state ≡ state
    → (j : ℕ) × (j < length (chosen_by marks rs)) × (j < length (chosen_by marks states))
    × (get_or (chosen_by marks rs) j r ≡ r) × (get_or (chosen_by marks states) j state ≡ state)
among_chosen None rs states r state i mark within inside is at = (i, within, inside, is, at)
among_chosen (Some marks) rs states r state i mark within inside is at = chosen_among marks rs states r state i mark within inside is at

-- a current result that is chosen, is a hit and doesn't stay is matched by an added entry
pub added_meet : (how : How) (marks : Marks) (counts : MayBeHit) (file : File) (rs : List Record) (states : List State)
    (r : Record) (state : State) (i : ℕ)
    → i < length rs → i < length states → get_or rs i r ≡ r → get_or states i state ≡ state → is_chosen_at marks i ≡ true
    → how.renewal.accept ≡ true → IsUntil file.today how.renewal.until → is_acceptable counts file r state ≡ true
    → is_met file (entries_read how (added_by how marks counts file rs states)) r ≡ true
added_meet how marks counts file rs states r state i within inside is at mark accepts until hit =
    let own = among_chosen marks rs states r state i mark within inside is at in
    let place = among_accepted counts file (chosen_by marks rs) (chosen_by marks states) r state own.0 own.1 own.2 own.3 own.4 hit in
    let shown = as_matched how.matching in
    let accepted = accepted_by marks counts file rs states in
    let all = map shown accepted in
    let there : get_or all place.0 (shown r) ≡ shown r = get_or-map shown accepted place.0 r (shown r) place.1 ∙ ap shown place.2 in
    let inside_all : place.0 < length all = omega (arith, place.1, length-map accepted shown) in
    rw accepts
    (any_as how.matching file.today (entries_read how (once_each [] all)) r
    (said_matches file.today how.renewal.reason how.renewal.until (shown r) (once_each [] all) until
    (once_said [] all (shown r) place.0 inside_all there)))

-- ---- the hits of afterwards

-- afterwards the hits are those of before that stay, or that no added entry matches
pub hits_left : (how : How) (counts : MayBeHit) (file : File) (rs added : List Record) (r : Record) (state : State) (i : ℕ)
    → i < length rs → get_or rs i r ≡ r
    → is_hit counts (file_adding how file rs added) r state ≡ is_left counts file (entries_read how added) r state
hits_left how counts file rs added r state i within is =
    ap (λ b. counts r state && not b) (suppressed_adding how file rs added r i within is)
    ∙ by_tests (counts r state) (is_suppressed file r) (stays file r) (is_met file (entries_read how added) r)
  where
    by_tests : (a b c m : Bool) → (a && not (b || (not c && m))) ≡ ((a && not b) && (c || not m))
    by_tests false b c m = refl
    by_tests true true c m = refl
    by_tests true false true m = refl
    by_tests true false false m = refl

pub still_adding : (how : How) (file : File) (rs added : List Record) (r : Record) (i : ℕ) → i < length rs → get_or rs i r ≡ r
    → is_suppressed file r ≡ true → is_suppressed (file_adding how file rs added) r ≡ true
still_adding how file rs added r i within is was = suppressed_adding how file rs added r i within is ∙ or_left (is_suppressed file r) _ was

-- ---- where all hits are chosen

pub all_added : (how : How) (counts : MayBeHit) (file : File) (rs : List Record) (states : List State)
    → added_by how None counts file rs states ≡ added_for how counts file rs states
all_added how counts file rs states = refl

pub all_after : (how : How) (counts : MayBeHit) (file : File) (rs : List Record) (states : List State)
    → file_adding how file rs (added_by how None counts file rs states) ≡ file_after how counts file rs states
all_after how counts file rs states = refl
