-- Groups of results by name, one fingerprint and one result at a time.
use Rattle.std.proofs.Common.{◌≡◌, ℕ, ◌+◌, ◌-◌, ◌<◌, ◌≤◌, zero, suc, Bool, true, false, cond, List, [], ◌∷◌, ◌++◌, Option, Some, None, ◌==◌, length, get_or, take, slice_get, bytes_eq, refl, sym, ap, ◌∙◌, arith, eq-eqb, append-nil, Result, Ok, Err, IfOk, ap₂, not, slice_index_or}
use Rattle.std.proofs.lemmas.Option.{slice_get-map}
use Rattle.std.proofs.lemmas.Bool.{ne_eqb}
use Rattle.std.proofs.lemmas.List.{take_more, map-append, length-map, length-take-le}
use Rattle.std.specs.Borrow.{Bor}
use Rattle.std.specs.declared.alloc.Global.{Global}
use Rattle.std.specs.declared.vec.Vec.{Vec}
use Rattle.std.specs.Option.{option_map, option_map_or}
use Rattle.sarif_model.specs.declared.record.Record.{Record}
use Rattle.std.specs.Prelude.{option_and_then}
use Rattle.sarif_match.specs.declared.tier.Tier.{Tier}
use Rattle.sarif_match.specs.declared.tier.Tier.TheVariants.{Fingerprint, FingerprintHere}
use Rattle.sarif_match.specs.declared.tier_key.Key.{Key}
use Rattle.sarif_match.specs.Key.{group_of, key_of, value_of}
use Rattle.sarif_match.specs.KeyParts.{KeyParts, parts_of, fingerprint_parts, fingerprint_here_parts}
use Rattle.sarif_match.specs.Internal.Paired.{key_at}
use Rattle.std.proofs.lemmas.List.Elements.{filter-append}
use Rattle.sarif_match.specs.Internal.Named.{with_parts, ends_with, keyed_at, put_once, AreNumberedBelow, unmarked}
use Rattle.sarif_match.specs.Partners.{with_key, keyed_from}
use Rattle.sarif_evidence.proofs.EqualLemmas.{same_text}
use Rattle.sarif_match.proofs.ListLemmas.{slice_get-last}

-- the first, otherwise the second
abbrev pub first_some : {X : Type 0} → Option X → Option X → Option X
first_some (Some x) o = Some x
first_some None o = o

-- the value after one more pair
pub value_of-push : (q : List ℕ) (pairs : List (List ℕ × List ℕ)) (p : List ℕ × List ℕ)
    → value_of q (pairs ++ (p ∷ [])) ≡ first_some (value_of q pairs) (cond (bytes_eq p.0 q) (Some p.1) None)
value_of-push q [] p = refl
value_of-push q (x ∷ xs) p =
    ap (λ (o : Option (List ℕ)). cond (bytes_eq x.0 q) (Some x.1) o) (value_of-push q xs p) ∙ by_test (bytes_eq x.0 q)
  where
    by_test : (b : Bool) → cond b (Some x.1) (first_some (value_of q xs) (cond (bytes_eq p.0 q) (Some p.1) None))
        ≡ first_some (cond b (Some x.1) (value_of q xs)) (cond (bytes_eq p.0 q) (Some p.1) None)
    by_test true = refl
    by_test false = refl

-- borrowed keys have the numbers of their parts
ends_with-with_parts : (n : ℕ) (xs : List (ℕ × Key)) → ends_with n (with_parts xs) ≡ ends_with n xs
ends_with-with_parts n xs =
    let parts = λ (e : ℕ × Key). (let keyed : ℕ × KeyParts = (e.0, parts_of e.1) in keyed) in
    let is_n = λ (o : Option (ℕ × KeyParts)). option_map_or (λ (e : ℕ × KeyParts). e.0 == n) o false in
    ap (λ (k : ℕ). is_n (slice_get (with_parts xs) (k - 1))) (length-map xs parts) ∙ ap is_n (slice_get-map parts xs (length xs - 1))
    ∙ at (slice_get xs (length xs - 1))
  where
    at : (o : Option (ℕ × Key))
        → option_map_or (λ (e : ℕ × KeyParts). e.0 == n)
        (option_map (λ (e : ℕ × Key). (let keyed : ℕ × KeyParts = (e.0, parts_of e.1) in keyed)) o) false
        ≡ option_map_or (λ (e : ℕ × Key). e.0 == n) o false
    at None = refl
    at (Some e) = refl

module _ {K : Type 0} where
  pub with_key-append : (n : ℕ) (o : Option K) (xs ys : List (ℕ × K)) → with_key n o (xs ++ ys) ≡ with_key n o xs ++ ys
  with_key-append n None xs ys = refl
  with_key-append n (Some k) xs ys = refl

  -- no result below n has the number n
  is_not-below : (n : ℕ) (xs : List (ℕ × K)) (i : ℕ) → AreNumberedBelow n xs → option_map_or (λ (e : ℕ × K). e.0 == n) (slice_get xs i) false ≡ false
  is_not-below n [] i below = refl
  is_not-below n (x ∷ xs) zero below = let lt : x.0 < n = below.0 in ne_eqb x.0 n (λ same. omega arith)
  is_not-below n (x ∷ xs) (suc i) below = is_not-below n xs i below.1

  -- one result is put once
  put_once-first : (n : ℕ) (k : K) (xs : List (ℕ × K)) → AreNumberedBelow n xs → put_once n k xs ≡ xs ++ ((n, k) ∷ [])
  put_once-first n k xs below =
      ap (λ (b : Bool). cond b xs (xs ++ ((n, k) ∷ []))) (is_not-below n xs (length xs - 1) below)

  put_once-again : (n : ℕ) (k k' : K) (xs : List (ℕ × K)) → put_once n k (xs ++ ((n, k') ∷ [])) ≡ xs ++ ((n, k') ∷ [])
  put_once-again n k k' xs =
      let ys : List (ℕ × K) = xs ++ ((n, k') ∷ []) in
      let same : n == n ≡ true = eq-eqb n n refl in
      ap (λ (o : Option (ℕ × K)). cond (option_map_or (λ (e : ℕ × K). e.0 == n) o false) ys (ys ++ ((n, k) ∷ [])))
      (slice_get-last xs (n, k')) ∙ ap (λ (b : Bool). cond b ys (ys ++ ((n, k) ∷ []))) same

-- the keys of one result more
pub keyed_from-push : (tier : Tier) (n : ℕ) (rs : List Record) (r : Record)
    → keyed_from tier n (rs ++ (r ∷ [])) ≡ keyed_from tier n rs ++ with_key (n + length rs) (key_of r tier) []
keyed_from-push tier n [] r =
    let at : n ≡ n + 0 = omega arith in
    ap (λ (m : ℕ). with_key m (key_of r tier) []) at
keyed_from-push tier n (x ∷ rs) r =
    let at : suc n + length rs ≡ n + suc (length rs) = omega arith in
    ap (with_key n (key_of x tier))
    (keyed_from-push tier (suc n) rs r ∙ ap (λ (m : ℕ). keyed_from tier (suc n) rs ++ with_key m (key_of r tier) []) at)
    ∙ with_key-append n (key_of x tier) (keyed_from tier (suc n) rs) (with_key (n + suc (length rs)) (key_of r tier) [])

with_key-below : {K : Type 0} (n m : ℕ) (o : Option K) (xs : List (ℕ × K)) → n < m → AreNumberedBelow m xs → AreNumberedBelow m (with_key n o xs)
with_key-below n m None xs lt below = below
with_key-below n m (Some k) xs lt below = (lt, below)

pub AreNumberedBelow-keyed_from : (tier : Tier) (n m : ℕ) (rs : List Record) → n + length rs ≤ m → AreNumberedBelow m (keyed_from tier n rs)
AreNumberedBelow-keyed_from tier n m [] h = tt
AreNumberedBelow-keyed_from tier n m (r ∷ rs) h =
    with_key-below n m (key_of r tier) (keyed_from tier (suc n) rs) (omega arith) (AreNumberedBelow-keyed_from tier (suc n) m rs (omega arith))

-- a group after one fingerprint more of the result with number n
group_more : (b : Bool) (n : ℕ) (tool name q value : List ℕ) (o : Option (List ℕ)) (old now : List (ℕ × KeyParts)) → (b ≡ true → name ≡ q)
    → AreNumberedBelow n old → now ≡ old ++ with_key n (option_map (λ v. fingerprint_parts tool q v) o) []
    → cond b (put_once n (fingerprint_parts tool name value) now) now
    ≡ old ++ with_key n (option_map (λ v. fingerprint_parts tool q v) (first_some o (cond b (Some value) None))) []
group_more true n tool name q value None old now same below so_far =
    ap (put_once n (fingerprint_parts tool name value)) (so_far ∙ append-nil old)
    ∙ put_once-first n (fingerprint_parts tool name value) old below
    ∙ ap (λ (name : List ℕ). old ++ ((n, fingerprint_parts tool name value) ∷ [])) (same refl)
group_more true n tool name q value (Some v) old now same below so_far =
    ap (put_once n (fingerprint_parts tool name value)) so_far ∙ put_once-again n (fingerprint_parts tool name value) (fingerprint_parts tool q v) old
group_more false n tool name q value None old now same below so_far = so_far
group_more false n tool name q value (Some v) old now same below so_far = so_far

-- a key is put among borrowed keys as its parts are among parts
with_parts-put_once : (n : ℕ) (key : Key) (xs : List (ℕ × Key)) → with_parts (put_once n key xs) ≡ put_once n (parts_of key) (with_parts xs)
with_parts-put_once n key xs =
    at (ends_with n xs) ∙ ap (λ (b : Bool). cond b (with_parts xs) (with_parts xs ++ ((n, parts_of key) ∷ []))) (sym (ends_with-with_parts n xs))
  where
    at : (b : Bool) → with_parts (cond b xs (xs ++ ((n, key) ∷ []))) ≡ cond b (with_parts xs) (with_parts xs ++ ((n, parts_of key) ∷ []))
    at true = refl
    at false = map-append (λ (e : ℕ × Key). (let keyed : ℕ × KeyParts = (e.0, parts_of e.1) in keyed)) xs ((n, key) ∷ [])

-- a group of borrowed keys after one fingerprint more of the result with number n
pub group_step : (n : ℕ) (tool q : List ℕ) (pairs : List (List ℕ × List ℕ)) (i : ℕ) (p : List ℕ × List ℕ) (key : Key)
    (group new : List (ℕ × Key)) (old : List (ℕ × KeyParts)) → p ≡ get_or pairs i p → i < length pairs
    → parts_of key ≡ fingerprint_parts tool p.0 p.1 → AreNumberedBelow n old → new ≡ cond (bytes_eq p.0 q) (put_once n key group) group
    → with_parts group ≡ old ++ with_key n (option_map (λ v. fingerprint_parts tool q v) (value_of q (take i pairs))) []
    → with_parts new ≡ old ++ with_key n (option_map (λ v. fingerprint_parts tool q v) (value_of q (take (i + 1) pairs))) []
group_step n tool q pairs i p key group new old here within parts below step so_far =
    let now : List (ℕ × KeyParts) = with_parts group in
    let told = λ (o : Option (List ℕ)). old ++ with_key n (option_map (λ (v : List ℕ). fingerprint_parts tool q v) o) [] in
    let more : value_of q (take (i + 1) pairs) ≡ first_some (value_of q (take i pairs)) (cond (bytes_eq p.0 q) (Some p.1) None) =
    ap (value_of q) (take_more pairs i p within ∙ ap (λ (x : List ℕ × List ℕ). take i pairs ++ (x ∷ [])) (sym here))
    ∙ value_of-push q (take i pairs) p in
    ap with_parts step ∙ by_test (bytes_eq p.0 q) ∙ ap (λ (k : KeyParts). cond (bytes_eq p.0 q) (put_once n k now) now) parts
    ∙ group_more (bytes_eq p.0 q) n tool p.0 q p.1 (value_of q (take i pairs)) old now (same_text p.0 q) below so_far ∙ ap told (sym more)
  where
    by_test : (b : Bool) → with_parts (cond b (put_once n key group) group) ≡ cond b (put_once n (parts_of key) (with_parts group)) (with_parts group)
    by_test true = with_parts-put_once n key group
    by_test false = refl

-- the groups of one result more
pub groups_step : (tier : Tier) (rs : List Record) (i : ℕ) (r : Record) (old new : List (ℕ × KeyParts)) → r ≡ get_or rs i r → i < length rs
    → new ≡ old ++ with_key i (key_of r tier) [] → old ≡ keyed_from tier 0 (take i rs) → new ≡ keyed_from tier 0 (take (i + 1) rs)
groups_step tier rs i r old new here within step so_far =
    let at : i ≡ 0 + length (take i rs) = omega (arith, length-take-le i rs (omega arith)) in
    step ∙ ap (λ (xs : List (ℕ × KeyParts)). xs ++ with_key i (key_of r tier) []) so_far
    ∙ ap (λ (m : ℕ). keyed_from tier 0 (take i rs) ++ with_key m (key_of r tier) []) at ∙ sym (keyed_from-push tier 0 (take i rs) r)
    ∙ ap (keyed_from tier 0) (ap (λ (x : Record). take i rs ++ (x ∷ [])) here ∙ sym (take_more rs i r within))

-- what has no mark among one result more
pub unmarked_step : (tier : Tier) (marks : List Bool) (rs : List Record) (i : ℕ) (r : Record) (old new : List (ℕ × KeyParts))
    → r ≡ get_or rs i r → i < length rs → new ≡ old ++ unmarked marks (with_key i (key_of r tier) [])
    → old ≡ unmarked marks (keyed_from tier 0 (take i rs)) → new ≡ unmarked marks (keyed_from tier 0 (take (i + 1) rs))
unmarked_step tier marks rs i r old new here within step so_far =
    step ∙ ap (λ (xs : List (ℕ × KeyParts)). xs ++ unmarked marks (with_key i (key_of r tier) [])) so_far
    ∙ sym
    (filter-append (λ (e : ℕ × KeyParts). not (slice_index_or marks e.0 false)) (keyed_from tier 0 (take i rs))
    (with_key i (key_of r tier) [])) ∙ ap (unmarked marks) (groups_step tier rs i r (keyed_from tier 0 (take i rs)) _ here within refl refl)

-- what has no mark, as parts
pub with_parts-unmarked : (marks : List Bool) (xs : List (ℕ × Key)) → with_parts (unmarked marks xs) ≡ unmarked marks (with_parts xs)
with_parts-unmarked marks [] = refl
with_parts-unmarked marks (x ∷ xs) =
    at (not (slice_index_or marks x.0 false))
    ∙ ap (λ (rest : List (ℕ × KeyParts)). cond (not (slice_index_or marks x.0 false)) ((x.0, parts_of x.1) ∷ rest) rest)
    (with_parts-unmarked marks xs)
  where
    at : (b : Bool) → with_parts (cond b (x ∷ unmarked marks xs) (unmarked marks xs))
        ≡ cond b ((x.0, parts_of x.1) ∷ with_parts (unmarked marks xs)) (with_parts (unmarked marks xs))
    at true = refl
    at false = refl

pub IfOk-with_parts : {E : Type 0} (r : Result (Vec (ℕ × Key) Global) E) (marks : List Bool) (group : List (ℕ × Key))
    (all : List (ℕ × KeyParts)) → with_parts group ≡ all → IfOk r (λ left. left.items ≡ unmarked marks group)
    → IfOk r (λ left. with_parts left.items ≡ unmarked marks all)
IfOk-with_parts (Ok left) marks group all same told = ap with_parts told ∙ with_parts-unmarked marks group ∙ ap (unmarked marks) same
IfOk-with_parts (Err e) marks group all same told = tt

-- ---- the results of a group, with their keys at another tier

module _ (tier : Tier) (rs : List Record) where
  keyed_at-with_parts : (es : List (ℕ × Key)) → keyed_at tier rs es ≡ keyed_at tier rs (with_parts es)
  keyed_at-with_parts [] = refl
  keyed_at-with_parts (e ∷ es) = ap (with_key e.0 (key_at tier rs e.0)) (keyed_at-with_parts es)

  keyed_at-push : (es : List (ℕ × Key)) (e : ℕ × Key) → keyed_at tier rs (es ++ (e ∷ [])) ≡ keyed_at tier rs es ++ with_key e.0 (key_at tier rs e.0) []
  keyed_at-push [] e = refl
  keyed_at-push (x ∷ es) e =
      ap (with_key x.0 (key_at tier rs x.0)) (keyed_at-push es e)
      ∙ with_key-append x.0 (key_at tier rs x.0) (keyed_at tier rs es) (with_key e.0 (key_at tier rs e.0) [])

  -- what has no mark among one result of the group more
  pub grouped_step : (marks : List Bool) (es : List (ℕ × Key)) (i : ℕ) (e : ℕ × Key) (old new : List (ℕ × KeyParts)) → e ≡ get_or es i e
      → i < length es → new ≡ old ++ unmarked marks (with_key e.0 (key_at tier rs e.0) [])
      → old ≡ unmarked marks (keyed_at tier rs (take i es)) → new ≡ unmarked marks (keyed_at tier rs (take (i + 1) es))
  grouped_step marks es i e old new here within step so_far =
      let more : List (ℕ × KeyParts) = with_key e.0 (key_at tier rs e.0) [] in
      let longer : take i es ++ (e ∷ []) ≡ take (i + 1) es = ap (λ (x : ℕ × Key). take i es ++ (x ∷ [])) here ∙ sym (take_more es i e within) in
      step ∙ ap (λ (xs : List (ℕ × KeyParts)). xs ++ unmarked marks more) so_far
      ∙ sym (filter-append (λ (e : ℕ × KeyParts). not (slice_index_or marks e.0 false)) (keyed_at tier rs (take i es)) more)
      ∙ ap (unmarked marks) (sym (keyed_at-push (take i es) e)) ∙ ap (λ (xs : List (ℕ × Key)). unmarked marks (keyed_at tier rs xs)) longer

-- all results with a key at the tier of a name at one place are among those with a key at the tier of that name
keyed_at-keyed_from : (name : List ℕ) (all rs : List Record) (n : ℕ) → ((k : ℕ) → slice_get all (n + k) ≡ slice_get rs k)
    → keyed_at (FingerprintHere name) all (keyed_from (Fingerprint name) n rs) ≡ keyed_from (FingerprintHere name) n rs
keyed_at-keyed_from name all [] n same = refl
keyed_at-keyed_from name all (r ∷ rs) n same = by_value (value_of name r.full) refl (keyed_at-keyed_from name all rs (suc n) later)
  where
    later : (k : ℕ) → slice_get all (suc n + k) ≡ slice_get rs k
    later k = let at : suc n + k ≡ n + suc k = omega arith in ap (slice_get all) at ∙ same (suc k)

    here : slice_get all n ≡ Some r
    here = let at : n ≡ n + 0 = omega arith in ap (slice_get all) at ∙ same 0

    by_value : (o : Option (List ℕ)) → value_of name r.full ≡ o
        → keyed_at (FingerprintHere name) all (keyed_from (Fingerprint name) (suc n) rs) ≡ keyed_from (FingerprintHere name) (suc n) rs
        → keyed_at (FingerprintHere name) all
        (with_key n (option_map (λ v. fingerprint_parts r.tool name v) o) (keyed_from (Fingerprint name) (suc n) rs))
        ≡ with_key n (option_map (λ v. fingerprint_here_parts (group_of r) name v) o) (keyed_from (FingerprintHere name) (suc n) rs)
    by_value None is others = others
    by_value (Some v) is others =
        let key : key_at (FingerprintHere name) all n ≡ Some (fingerprint_here_parts (group_of r) name v) =
        ap (option_and_then (λ (x : Record). key_of x (FingerprintHere name))) here
        ∙ ap (option_map (λ (w : List ℕ). fingerprint_here_parts (group_of r) name w)) is in
        ap₂ (λ (o : Option KeyParts) (xs : List (ℕ × KeyParts)). with_key n o xs) key others

pub grouped_here : (name : List ℕ) (rs : List Record) (group : List (ℕ × Key)) → with_parts group ≡ keyed_from (Fingerprint name) 0 rs
    → keyed_at (FingerprintHere name) rs group ≡ keyed_from (FingerprintHere name) 0 rs
grouped_here name rs group same =
    keyed_at-with_parts (FingerprintHere name) rs group ∙ ap (keyed_at (FingerprintHere name) rs) same
    ∙ keyed_at-keyed_from name rs rs 0 (λ k. (let at : 0 + k ≡ k = omega arith in ap (slice_get rs) at))

-- whether two borrowed names are equal
abbrev pub same_name : Bor (List ℕ) → Bor (List ℕ) → Bool
same_name a b = bytes_eq a.now b.now
