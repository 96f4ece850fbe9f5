-- What is left of the entries with `max` after some results, and which of them admit a result.
use Rattle.std.proofs.Common.{◌≡◌, ℕ, ◌+◌, ◌-◌, ◌==◌, ◌<◌, ◌≤◌, Bool, true, false, not, ◌&&◌, cond, List, [], ◌∷◌, ◌++◌, map, filter, length, take, drop, get_or, Option, Some, None, nat_le, refl, sym, subst, ap, ◌∙◌, arith, eq-eqb, if◌then◌else◌}
use Rattle.std.specs.Prelude.{is_some, option_map, slice_get, slice_index_or, slice_set}
use Rattle.std.specs.Option.{option_map_or}
use Rattle.std.proofs.Math.Seq.{get_or-append_seam, set-append_seam}
use Rattle.std.proofs.lemmas.Bool.{false≢true, lt-ltb}
use Rattle.std.proofs.lemmas.Bool.Decides.{nat_tests}
use Rattle.std.proofs.lemmas.List.{append_assoc, drop_more, length-append, take_more}
use Rattle.std.proofs.lemmas.List.Sums.{sum_by-append}
use Rattle.std.proofs.lemmas.Option.{slice_get-get_or}
use Rattle.sarif_model.specs.declared.record.Record.{Record}
use Rattle.sarif_entries.specs.declared.entry.Entry.{Entry}
use Rattle.sarif_entries.specs.declared.limit.Limit.{Limit}
use Rattle.sarif_entries.specs.File.{File}
use Rattle.sarif_entries.specs.Matching.{hold, is_admitted, is_met, is_past, matches}
use Rattle.sarif_filing.specs.Numbers.{numbers_from}
use Rattle.sarif_suppress.specs.Internal.Admission.{counted_down, has_left, has_left_at, left_after, left_for, one_less, closed, opened, opened_from, released, with_one_less, Admitting, AreOpen, IsAfter, IsOpen}
use Rattle.sarif_suppress.specs.Limited.{all_admitted_after, has_room_after, met_by, admitted_after}
use Rattle.sarif_suppress.specs.Suppressing.{matching_numbers}

-- ---- one entry

-- one result more meets the entry, or doesn't
pub met_more : (today : Option ℕ) (e : Entry) (before : List Record) (r : Record)
    → met_by today e (before ++ r ∷ []) ≡ met_by today e before + cond (is_met today e r) 1 0
met_more today e before r =
    let both : met_by today e (before ++ r ∷ []) ≡ met_by today e before + met_by today e (r ∷ []) =
    sum_by-append (λ q. cond (is_met today e q) 1 0) before (r ∷ []) in
    let one : met_by today e (r ∷ []) ≡ cond (is_met today e r) 1 0 = omega arith in
    both ∙ ap (λ n. met_by today e before + n) one

left_step : (limit : Option Limit) (b : Bool) (old new : ℕ) → new ≡ old + cond b 1 0
    → option_map (λ (l : Limit). l.most - new) limit
    ≡ (if b && has_left (option_map (λ (l : Limit). l.most - old) limit) then one_less (option_map (λ (l : Limit). l.most - old) limit)
    else option_map (λ (l : Limit). l.most - old) limit)
left_step None true old new is = refl
left_step None false old new is = refl
left_step (Some limit) true old new is = by_test (limit.most - old == 0) refl
  where
    by_test : (none : Bool) → (limit.most - old == 0) ≡ none
        → Some (limit.most - new) ≡ (if not none then Some ((limit.most - old) - 1) else Some (limit.most - old))
    by_test true zero =
        let nothing : limit.most - old ≡ 0 = grind (arith, nat_tests) in
        let same : limit.most - new ≡ limit.most - old = omega (arith, is, nothing) in
        ap Some same
    by_test false some =
        let less : limit.most - new ≡ (limit.most - old) - 1 = omega (arith, is) in
        ap Some less
left_step (Some limit) false old new is =
    let same : new ≡ old = omega (arith, is) in
    ap (λ n. Some (limit.most - n)) same

-- what is left of the entry after one result more
left_more : (today : Option ℕ) (before : List Record) (r : Record) (e : Entry)
    → left_for today (before ++ r ∷ []) e
    ≡ (if is_met today e r && has_left (left_for today before e) then one_less (left_for today before e) else left_for today before e)
left_more today before r e = left_step e.limit (is_met today e r) (met_by today e before) (met_by today e (before ++ r ∷ [])) (met_more today e before r)

-- an entry that admits a result after one more admitted results before it
had_left : (b : Bool) (left : Option ℕ) → has_left (if b && has_left left then one_less left else left) ≡ true → has_left left ≡ true
had_left b left has = by_test (has_left left) refl has
  where
    and_false : (b : Bool) → (b && false) ≡ false
    and_false true = refl
    and_false false = refl

    by_test : (some : Bool) → has_left left ≡ some → has_left (if b && some then one_less left else left) ≡ true → has_left left ≡ true
    by_test true is now = is
    by_test false is now = ap (λ any. has_left (if any then one_less left else left)) (sym (and_false b)) ∙ now

-- an entry admits more results exactly if it has a `max` that isn't used up
left_by : (limit : Option Limit) (met : ℕ)
    → has_left (option_map (λ (l : Limit). l.most - met) limit)
    ≡ (is_some limit && not (option_map_or (λ (l : Limit). nat_le l.most met) limit false))
left_by None met = refl
left_by (Some limit) met = ap not (no_more limit.most met)
  where
    some_left : (n : ℕ) → 1 ≤ n → (n == 0) ≡ false
    some_left n some = grind (arith, nat_tests)

    no_more : (most met : ℕ) → (most - met == 0) ≡ nat_le most met
    no_more most met = by_test (nat_le most met) refl
      where
        by_test : (b : Bool) → nat_le most met ≡ b → (most - met == 0) ≡ b
        by_test true is =
            let past : most ≤ met = grind (arith, nat_tests) in
            eq-eqb (most - met) 0 (omega (arith, past))
        by_test false is =
            let above : met < most = grind (arith, nat_tests) in
            some_left (most - met) (omega (arith, above))

room_is : (today : Option ℕ) (before : List Record) (e : Entry) → has_left (left_for today before e) ≡ has_room_after today before e
room_is today before e = left_by e.limit (met_by today e before)

-- an open entry matches what meets the entry
open_matches : (today : Option ℕ) (e o : Entry) (r : Record) → IsOpen e o → matches today o r ≡ is_met today e r
open_matches today e o r live =
    ap (λ limit. is_admitted limit r && is_met today o r) live.limit
    ∙ (λ i. not (is_past today (live.expires i)) && hold (live.conditions i) r)

-- ---- all entries

-- what is left of the entry at that place
at_seam : (front : List (Option ℕ)) (left : Option ℕ) (rest : List (Option ℕ)) (n : ℕ) → n ≡ length front
    → slice_get (front ++ left ∷ rest) n ≡ Some left
at_seam front left rest n here =
    let within : length front < length (front ++ left ∷ rest) = omega (arith, length-append front (left ∷ rest)) in
    rw here (slice_get-get_or (front ++ left ∷ rest) (length front) left within ∙ ap Some (get_or-append_seam front left rest left))

module _ (f : Entry → Option ℕ) where
  kept : (p q has : Bool) (n : ℕ) (keeps : ℕ → Bool) (ms ns : List ℕ) → keeps n ≡ has → filter keeps ms ≡ ns → (has ≡ true → p ≡ q)
      → filter keeps (if p then n ∷ ms else ms) ≡ (if q && has then n ∷ ns else ns)
  kept true true true n keeps ms ns here next same = ap (λ b. if b then n ∷ filter keeps ms else filter keeps ms) here ∙ ap (λ l. n ∷ l) next
  kept true true false n keeps ms ns here next same = ap (λ b. if b then n ∷ filter keeps ms else filter keeps ms) here ∙ next
  kept true false false n keeps ms ns here next same = ap (λ b. if b then n ∷ filter keeps ms else filter keeps ms) here ∙ next
  kept false true false n keeps ms ns here next same = next
  kept false false has n keeps ms ns here next same = next
  kept true false true n keeps ms ns here next same = let never : true ≡ false = same refl in absurd (false≢true (sym never))
  kept false true true n keeps ms ns here next same = let never : false ≡ true = same refl in absurd (false≢true never)

  -- the matching numbers of open entries that have something left
  kept_from : (p q : Entry → Bool) (front : List (Option ℕ)) (n : ℕ) (es os : List Entry) → n ≡ length front
      → ((e o : Entry) → IsOpen e o → p o ≡ q e) → AreOpen (λ e. has_left (f e)) es os
      → filter (has_left_at (front ++ map f es)) (numbers_from p n os) ≡ numbers_from (λ e. q e && has_left (f e)) n es
  kept_from p q front n [] os here same live = ap (λ l. filter (has_left_at (front ++ [])) (numbers_from p n l)) live
  kept_from p q front n (e ∷ es) [] here same live = absurd live
  kept_from p q front n (e ∷ es) (o ∷ os) here same live =
      let longer : n + 1 ≡ length (front ++ f e ∷ []) = omega (arith, length-append front (f e ∷ [])) in
      let next : filter (has_left_at (front ++ f e ∷ map f es)) (numbers_from p (n + 1) os) ≡ numbers_from (λ x. q x && has_left (f x)) (n + 1) es =
      sym (ap (λ left. filter (has_left_at left) (numbers_from p (n + 1) os)) (append_assoc front (f e ∷ []) (map f es)))
      ∙ kept_from p q (front ++ f e ∷ []) (n + 1) es os longer same live.1 in
      let here_left : has_left_at (front ++ f e ∷ map f es) n ≡ has_left (f e) =
      ap (λ o. option_map_or has_left o false) (at_seam front (f e) (map f es) n here) in
      kept (p o) (q e) (has_left (f e)) n (has_left_at (front ++ f e ∷ map f es)) (numbers_from p (n + 1) os)
      (numbers_from (λ x. q x && has_left (f x)) (n + 1) es) here_left next (λ has. same e o (live.0 has))

  is_open : (left : Option ℕ) (e : Entry) → has_left left ≡ true → IsOpen e (opened left e)
  is_open left e has = subst (λ b. IsOpen e (if b then released e else closed)) (sym has) (record { conditions = refl; expires = refl; limit = refl })

  -- the entries that have something left are open
  opened_are : (front : List (Option ℕ)) (n : ℕ) (es : List Entry) → n ≡ length front
      → AreOpen (λ e. has_left (f e)) es (opened_from (front ++ map f es) n es)
  opened_are front n [] here = refl
  opened_are front n (e ∷ es) here =
      let longer : n + 1 ≡ length (front ++ f e ∷ []) = omega (arith, length-append front (f e ∷ [])) in
      let seam : slice_index_or (front ++ f e ∷ map f es) n None ≡ f e = rw here (get_or-append_seam front (f e) (map f es) None) in (
        λ has. subst (λ left. IsOpen e (opened left e)) (sym seam) (is_open (f e) e has),
        subst (λ left. AreOpen (λ x. has_left (f x)) es (opened_from left (n + 1) es)) (append_assoc front (f e ∷ []) (map f es))
            (opened_are (front ++ f e ∷ []) (n + 1) es longer),
      )

module _ (f : Entry → Option ℕ) (is : Entry → Bool) where
  -- one less is left of the front's next
  less_at_seam : (front : List (Option ℕ)) (left : Option ℕ) (rest : List (Option ℕ)) (n : ℕ) → n ≡ length front
      → with_one_less (front ++ left ∷ rest) n ≡ front ++ one_less left ∷ rest
  less_at_seam front left rest n here =
      let within : length front < length (front ++ left ∷ rest) = omega (arith, length-append front (left ∷ rest)) in
      rw (here, lt-ltb _ _ within)
      (ap (λ o. slice_set (front ++ left ∷ rest) (length front) (one_less o)) (get_or-append_seam front left rest None)
      ∙ set-append_seam front left rest (one_less left))

  -- one result less for those of these numbers
  down_from : (front : List (Option ℕ)) (n : ℕ) (es : List Entry) → n ≡ length front
      → counted_down (front ++ map f es) (numbers_from is n es) ≡ front ++ map (λ e. if is e then one_less (f e) else f e) es
  down_from front n [] here = refl
  down_from front n (e ∷ es) here =
      let left : List (Option ℕ) = map f es in
      let more : List (Option ℕ) = map (λ x. if is x then one_less (f x) else f x) es in
      let numbers : List ℕ = numbers_from is (n + 1) es in
      let longer : (o : Option ℕ) → n + 1 ≡ length (front ++ o ∷ []) = λ o. omega (arith, length-append front (o ∷ [])) in
      let next : (o : Option ℕ) → counted_down (front ++ o ∷ left) numbers ≡ front ++ o ∷ more =
      λ o. sym (ap (λ ls. counted_down ls numbers) (append_assoc front (o ∷ []) left))
      ∙ down_from (front ++ o ∷ []) (n + 1) es (longer o) ∙ append_assoc front (o ∷ []) more in
      elim (is e) as (λ b. counted_down (front ++ f e ∷ left) (if b then n ∷ numbers else numbers) ≡ front ++ (if b then one_less (f e) else f e) ∷ more) [
        | true ↦ ap (λ ls. counted_down ls numbers) (less_at_seam front (f e) left n here) ∙ next (one_less (f e))
        | false ↦ next (f e)
      ]

numbers_same : (p q : Entry → Bool) (n : ℕ) (es : List Entry) → ((e : Entry) → p e ≡ q e) → numbers_from p n es ≡ numbers_from q n es
numbers_same p q n es same = ap (λ (test : Entry → Bool). numbers_from test n es) (λ i e. same e i)

map_same : {A : Type 0} (f g : Entry → A) (es : List Entry) → ((e : Entry) → f e ≡ g e) → map f es ≡ map g es
map_same f g [] same = refl
map_same f g (e ∷ es) same = λ i. same e i ∷ map_same f g es same i

-- entries that are open stay so if fewer need to be
open_less : (p q : Entry → Bool) (es os : List Entry) → ((e : Entry) → q e ≡ true → p e ≡ true) → AreOpen p es os → AreOpen q es os
open_less p q [] os less live = live
open_less p q (e ∷ es) [] less live = live
open_less p q (e ∷ es) (o ∷ os) less live = (λ has. live.0 (less e has), open_less p q es os less live.1)

-- the next entry
pub open_next : (left : List (Option ℕ)) (es : List Entry) (n : ℕ) (e o : Entry) (old new whole : List Entry) → n < length es → e ≡ get_or es n e
    → o ≡ opened (slice_index_or left n None) e → new ≡ old ++ o ∷ [] → old ++ opened_from left n (drop n es) ≡ whole
    → new ++ opened_from left (n + 1) (drop (n + 1) es) ≡ whole
open_next left es n e o old new whole within is made pushed held =
    let rest = opened_from left (n + 1) (drop (n + 1) es) in
    let split : drop n es ≡ e ∷ drop (n + 1) es = drop_more es n e within ∙ ap (λ x. x ∷ drop (n + 1) es) (sym is) in
    ap (λ l. l ++ rest) pushed
    ∙ append_assoc old (o ∷ []) rest
    ∙ ap (λ x. old ++ (x ∷ rest)) made
    ∙ ap (λ l. old ++ opened_from left n l) (sym split)
    ∙ held

pub opened_long : (left : List (Option ℕ)) (n : ℕ) (es : List Entry) → length (opened_from left n es) ≡ length es
opened_long left n [] = refl
opened_long left n (e ∷ es) = let rest = opened_long left (n + 1) es in omega (arith, rest)

-- ---- one result more

pub admitted_is : (file : File) (before : List Record) (r : Record) (state : Admitting) (numbers admitted : List ℕ) → IsAfter file before state
    → numbers ≡ matching_numbers state.live r → admitted ≡ filter (has_left_at state.left) numbers → admitted ≡ admitted_after file before r
admitted_is file before r state numbers admitted after found is =
    is
    ∙ ap (λ left. filter (has_left_at left) numbers) after.left
    ∙ ap (filter (has_left_at (left_after file before)))
    (found ∙ ap (λ today. numbers_from (λ e. matches today e r) 0 state.live.entries) after.today)
    ∙ kept_from (left_for file.today before) (λ o. matches file.today o r) (λ e. is_met file.today e r) [] 0 file.entries state.live.entries refl
    (λ e o live. open_matches file.today e o r live) after.live
    ∙ numbers_same _ _ 0 file.entries (λ e. ap (λ b. is_met file.today e r && b) (room_is file.today before e))

pub counted_is : (file : File) (before : List Record) (r : Record) (old new : Admitting) (admitted : List ℕ) → IsAfter file before old
    → admitted ≡ admitted_after file before r → new.left ≡ counted_down old.left admitted → new.live ≡ old.live → IsAfter file (before ++ r ∷ []) new
counted_is file before r old new admitted after is down live = record {
  left = down
      ∙ ap (λ left. counted_down left admitted) after.left
      ∙ ap (counted_down (left_after file before))
      (is ∙ numbers_same _ _ 0 file.entries (λ e. ap (λ b. is_met file.today e r && b) (sym (room_is file.today before e))))
      ∙ down_from (left_for file.today before) (λ e. is_met file.today e r && has_left (left_for file.today before e)) [] 0 file.entries refl
      ∙ map_same _ _ file.entries (λ e. sym (left_more file.today before r e));
  live = subst (λ (o : File). AreOpen (λ e. has_left (left_for file.today (before ++ r ∷ []) e)) file.entries o.entries) (sym live)
      (open_less _ _ file.entries old.live.entries
      (λ e has. had_left (is_met file.today e r) (left_for file.today before e) (ap has_left (sym (left_more file.today before r e)) ∙ has)) after.live);
  today = ap (λ (o : File). o.today) live ∙ after.today;
}

-- the tables are made again
pub opened_again : (file : File) (before : List Record) (old new : Admitting) → IsAfter file before old → new.left ≡ old.left
    → new.live.entries ≡ opened_from old.left 0 file.entries → new.live.today ≡ file.today → IsAfter file before new
opened_again file before old new after left live today = record {
  left = left ∙ after.left;
  live = subst (AreOpen (λ e. has_left (left_for file.today before e)) file.entries) (sym (live ∙ ap (λ l. opened_from l 0 file.entries) after.left))
      (opened_are (left_for file.today before) [] 0 file.entries refl);
  today = today;
}

-- before any result all is left
all_left : (file : File) → map (λ (e : Entry). option_map (λ (l : Limit). l.most) e.limit) file.entries ≡ left_after file []
all_left file = map_same _ _ file.entries (λ e. by_option e.limit)
  where
    by_option : (limit : Option Limit) → option_map (λ (l : Limit). l.most) limit ≡ option_map (λ (l : Limit). l.most - 0) limit
    by_option None = refl
    by_option (Some limit) = let same : limit.most ≡ limit.most - 0 = omega arith in ap Some same

pub is_before : (file : File) (new : Admitting) → new.left ≡ map (λ (e : Entry). option_map (λ (l : Limit). l.most) e.limit) file.entries
    → new.live.entries ≡ opened_from new.left 0 file.entries → new.live.today ≡ file.today → IsAfter file [] new
is_before file new left live today = record {
  left = left ∙ all_left file;
  live = subst (AreOpen (λ e. has_left (left_for file.today [] e)) file.entries)
      (sym (live ∙ ap (λ l. opened_from l 0 file.entries) (left ∙ all_left file)))
      (opened_are (left_for file.today []) [] 0 file.entries refl);
  today = today;
}

-- the numbers of the next result
pub admitted_next : (file : File) (rs : List Record) (n : ℕ) (r : Record) (old new : Admitting) (lists more whole : List (List ℕ)) (admitted : List ℕ)
    → n < length rs → r ≡ get_or rs n r
    → ((before : List Record) → IsAfter file before old → admitted ≡ admitted_after file before r)
    → ((before : List Record) → IsAfter file before old → IsAfter file (before ++ r ∷ []) new)
    → more ≡ lists ++ admitted ∷ [] → IsAfter file (take n rs) old → lists ++ all_admitted_after file (take n rs) (drop n rs) ≡ whole
    → IsAfter file (take (n + 1) rs) new × (more ++ all_admitted_after file (take (n + 1) rs) (drop (n + 1) rs) ≡ whole)
admitted_next file rs n r old new lists more whole admitted within is one counted pushed after held =
    let taken : take (n + 1) rs ≡ take n rs ++ r ∷ [] = take_more rs n r within ∙ ap (λ q. take n rs ++ q ∷ []) (sym is) in
    let left : drop n rs ≡ r ∷ drop (n + 1) rs = drop_more rs n r within ∙ ap (λ q. q ∷ drop (n + 1) rs) (sym is) in
    let later = drop (n + 1) rs in (
      subst (λ b. IsAfter file b new) (sym taken) (counted (take n rs) after),
      ap (λ l. l ++ all_admitted_after file (take (n + 1) rs) later) pushed
          ∙ append_assoc lists (admitted ∷ []) (all_admitted_after file (take (n + 1) rs) later)
          ∙ ap (λ l. lists ++ (l ∷ all_admitted_after file (take (n + 1) rs) later)) (one (take n rs) after)
          ∙ ap (λ b. lists ++ (admitted_after file (take n rs) r ∷ all_admitted_after file b later)) taken
          ∙ ap (λ l. lists ++ all_admitted_after file (take n rs) l) (sym left)
          ∙ held,
    )
