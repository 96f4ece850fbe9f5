-- Reported results that are hits are those that the gate counts.
use Rattle.std.proofs.Common.{◌≡◌, ◌+◌, ℕ, Bool, true, false, ◌&&◌, List, Option, Some, None, bytes_eq, if◌then◌else◌, refl, ap, sym, ◌∙◌, arith}
use Rattle.std.specs.Prelude.{option_and_then}
use Rattle.std.proofs.lemmas.Bool.{false_from_ne_true, true≢false}
use Rattle.std.proofs.lemmas.Slice.Eq.{bytes_eq-Decides}
use Rattle.sarif_model.specs.declared.kinds.Level.{Level}
use Rattle.sarif_model.specs.declared.kinds.Level.TheVariants.{NoLevel, Note, Warning, Error}
use Rattle.sarif_model.specs.declared.kinds.State.{State}
use Rattle.sarif_model.specs.declared.kinds.State.TheVariants.{New, Unchanged, Updated, Absent}
use Rattle.sarif_model.specs.Level.{level_name, level_named}
use Rattle.sarif_model.specs.State.{state_name, state_named}
use Rattle.sarif_options.specs.declared.policy.Policy.{Policy}
use Rattle.sarif_model.specs.Level.{is_at_least}
use Rattle.sarif_options.specs.Policy.{is_listed}
use Rattle.sarif_counts.specs.Hits.{Count, count_if, severe_of, hits_at, hits_of}
use Rattle.sarif_counts.specs.Counts.{same_state}
use Rattle.sarif_counts.specs.Tally.{same_level, same_side}
use Rattle.sarif_model.specs.Run.{is_text}
use Rattle.sarif_counts.proofs.Carried.{same_state_name, same_level_name}

-- ---- states and levels by their names

other_text : (name text : List ℕ) → bytes_eq text name ≡ false → bytes_eq name text ≡ false
other_text name text e =
    false_from_ne_true _ (λ same. true≢false (sym ((bytes_eq-Decides text name).1 (sym ((bytes_eq-Decides name text).0 same))) ∙ e))

abbrev pub is_one : {X : Type 0} → (X → X → Bool) → X → Option X → Bool
is_one same x None = false
is_one same x (Some y) = same x y

-- four values with a name each
module _ {X : Type 0} (name : X → List ℕ) (same : X → X → Bool) (same_name : (x y : X) → bytes_eq (name x) (name y) ≡ same x y)
    (a b c d : X) (each : (P : X → Type 0) → P a → P b → P c → P d → (x : X) → P x) where
  same_as : (text : List ℕ) (x y : X) → bytes_eq text (name y) ≡ true → bytes_eq (name x) text ≡ same x y
  same_as text x y e = ap (bytes_eq (name x)) ((bytes_eq-Decides text (name y)).0 e) ∙ same_name x y

  one_by : (b0 b1 b2 b3 : Bool) (x : X) (text : List ℕ) → bytes_eq text (name a) ≡ b0 → bytes_eq text (name b) ≡ b1
      → bytes_eq text (name c) ≡ b2 → bytes_eq text (name d) ≡ b3
      → bytes_eq (name x) text ≡ is_one same x (if b0 then Some a else (if b1 then Some b else (if b2 then Some c else (if b3 then Some d else None))))
  one_by true b1 b2 b3 x text e0 e1 e2 e3 = same_as text x a e0
  one_by false true b2 b3 x text e0 e1 e2 e3 = same_as text x b e1
  one_by false false true b3 x text e0 e1 e2 e3 = same_as text x c e2
  one_by false false false true x text e0 e1 e2 e3 = same_as text x d e3
  one_by false false false false x text e0 e1 e2 e3 =
      each (λ y. bytes_eq (name y) text ≡ false) (other_text (name a) text e0) (other_text (name b) text e1) (other_text (name c) text e2)
      (other_text (name d) text e3) x

each_state : (P : State → Type 0) → P New → P Unchanged → P Updated → P Absent → (s : State) → P s
each_state P n u p o New = n
each_state P n u p o Unchanged = u
each_state P n u p o Updated = p
each_state P n u p o Absent = o

each_level : (P : Level → Type 0) → P NoLevel → P Note → P Warning → P Error → (l : Level) → P l
each_level P o n w e NoLevel = o
each_level P o n w e Note = n
each_level P o n w e Warning = w
each_level P o n w e Error = e

abbrev pub is_state : State → Option State → Bool
is_state s o = is_one same_state s o

abbrev pub is_level : Level → Option Level → Bool
is_level l o = is_one same_level l o

pub state_tells : (s : State) (o : Option (List ℕ)) → is_text (state_name s) o ≡ is_state s (option_and_then state_named o)
state_tells s None = refl
state_tells s (Some text) = one_by state_name same_state same_state_name New Unchanged Updated Absent each_state _ _ _ _ s text refl refl refl refl

pub level_tells : (l : Level) (o : Option (List ℕ)) → is_text (level_name l) o ≡ is_level l (option_and_then level_named o)
level_tells l None = refl
level_tells l (Some text) = one_by level_name same_level same_level_name NoLevel Note Warning Error each_level _ _ _ _ l text refl refl refl refl

-- ---- sums

pub zero_if : (b : Bool) → count_if b 0 ≡ 0
zero_if true = refl
zero_if false = refl

add_if : (b : Bool) (m n : ℕ) → count_if b (m + n) ≡ count_if b m + count_if b n
add_if true m n = refl
add_if false m n = refl

both_if : (a b : Bool) → count_if a (count_if b 1) ≡ count_if (a && b) 1
both_if true b = refl
both_if false b = refl

severe_zero : (least : Level) → severe_of (λ _. 0) least ≡ 0
severe_zero least =
    omega (arith, zero_if (is_at_least least Error), zero_if (is_at_least least Warning), zero_if (is_at_least least Note), zero_if (is_at_least least NoLevel))

severe_add : (a b : Level → ℕ) (least : Level) → severe_of (λ l. a l + b l) least ≡ severe_of a least + severe_of b least
severe_add a b least =
    let e = add_if (is_at_least least Error) (a Error) (b Error) in
    let w = add_if (is_at_least least Warning) (a Warning) (b Warning) in
    let n = add_if (is_at_least least Note) (a Note) (b Note) in
    let o = add_if (is_at_least least NoLevel) (a NoLevel) (b NoLevel) in
    omega (arith, e, w, n, o)

hits_at-add : (a b : Count) (policy : Policy) (s : State) → hits_at (λ s l x. a s l x + b s l x) policy s ≡ hits_at a policy s + hits_at b policy s
hits_at-add a b policy s =
    ap (count_if (is_listed policy.states s)) (severe_add (λ l. a s l false) (λ l. b s l false) policy.fail_on)
    ∙ add_if (is_listed policy.states s) (severe_of (λ l. a s l false) policy.fail_on) (severe_of (λ l. b s l false) policy.fail_on)

pub hits_add : (a b : Count) (policy : Policy) → hits_of (λ s l x. a s l x + b s l x) policy ≡ hits_of a policy + hits_of b policy
hits_add a b policy =
    let n = hits_at-add a b policy New in
    let u = hits_at-add a b policy Unchanged in
    let p = hits_at-add a b policy Updated in
    let o = hits_at-add a b policy Absent in
    omega (arith, n, u, p, o)

-- no result in that state
none_at : (listed : Bool) (least : Level) → count_if listed (severe_of (λ _. 0) least) ≡ 0
none_at listed least = ap (count_if listed) (severe_zero least) ∙ zero_if listed

pub hits_zero : (policy : Policy) → hits_of (λ _ _ _. 0) policy ≡ 0
hits_zero policy =
    let n = none_at (is_listed policy.states New) policy.fail_on in
    let u = none_at (is_listed policy.states Unchanged) policy.fail_on in
    let p = none_at (is_listed policy.states Updated) policy.fail_on in
    let o = none_at (is_listed policy.states Absent) policy.fail_on in
    omega (arith, n, u, p, o)

-- ---- one result

abbrev pub at_least_in : Level → Option Level → Bool
at_least_in least None = false
at_least_in least (Some l) = is_at_least least l

severe_one : (o : Option Level) (side : Bool) (least : Level)
    → severe_of (λ l. count_if (is_level l o && side) 1) least ≡ count_if (at_least_in least o && side) 1
severe_one None side least = severe_zero least
severe_one (Some Error) side least =
    omega (
      arith,
      both_if (is_at_least least Error) side,
      zero_if (is_at_least least Warning),
      zero_if (is_at_least least Note),
      zero_if (is_at_least least NoLevel),
    )
severe_one (Some Warning) side least =
    omega (
      arith,
      both_if (is_at_least least Warning) side,
      zero_if (is_at_least least Error),
      zero_if (is_at_least least Note),
      zero_if (is_at_least least NoLevel),
    )
severe_one (Some Note) side least =
    omega (
      arith,
      both_if (is_at_least least Note) side,
      zero_if (is_at_least least Error),
      zero_if (is_at_least least Warning),
      zero_if (is_at_least least NoLevel),
    )
severe_one (Some NoLevel) side least =
    omega (
      arith,
      both_if (is_at_least least NoLevel) side,
      zero_if (is_at_least least Error),
      zero_if (is_at_least least Warning),
      zero_if (is_at_least least Note),
    )

-- a result of this state and level, on that side
abbrev pub one_of : Option State → Option Level → Bool → Count
one_of os ol side s l x = count_if (is_state s os && (is_level l ol && same_side x side)) 1

abbrev pub hits_in : Policy → Option State → Option Level → Bool → ℕ
hits_in policy None ol side = 0
hits_in policy (Some s) ol side = count_if (is_listed policy.states s) (count_if (at_least_in policy.fail_on ol && side) 1)

-- the result is a hit of its state, and not one of another
hit_in : (policy : Policy) (ol : Option Level) (side : Bool) (s : State)
    → count_if (is_listed policy.states s) (severe_of (λ l. count_if (is_level l ol && same_side false side) 1) policy.fail_on)
    ≡ hits_in policy (Some s) ol (same_side false side)
hit_in policy ol side s = ap (count_if (is_listed policy.states s)) (severe_one ol (same_side false side) policy.fail_on)

none_in : (policy : Policy) (s : State) → count_if (is_listed policy.states s) (severe_of (λ _. 0) policy.fail_on) ≡ 0
none_in policy s = none_at (is_listed policy.states s) policy.fail_on

pub hits_one : (policy : Policy) (os : Option State) (ol : Option Level) (side : Bool)
    → hits_of (one_of os ol side) policy ≡ hits_in policy os ol (same_side false side)
hits_one policy None ol side = hits_zero policy
hits_one policy (Some New) ol side = omega (arith, hit_in policy ol side New, none_in policy Unchanged, none_in policy Updated, none_in policy Absent)
hits_one policy (Some Unchanged) ol side = omega (arith, hit_in policy ol side Unchanged, none_in policy New, none_in policy Updated, none_in policy Absent)
hits_one policy (Some Updated) ol side = omega (arith, hit_in policy ol side Updated, none_in policy New, none_in policy Unchanged, none_in policy Absent)
hits_one policy (Some Absent) ol side = omega (arith, hit_in policy ol side Absent, none_in policy New, none_in policy Unchanged, none_in policy Updated)

-- ---- counts that are the same

severe_same : (a b : Level → ℕ) (least : Level) → ((l : Level) → a l ≡ b l) → severe_of a least ≡ severe_of b least
severe_same a b least same =
    let e = ap (count_if (is_at_least least Error)) (same Error) in
    let w = ap (count_if (is_at_least least Warning)) (same Warning) in
    let n = ap (count_if (is_at_least least Note)) (same Note) in
    let o = ap (count_if (is_at_least least NoLevel)) (same NoLevel) in
    omega (arith, e, w, n, o)

hits_at-same : (a b : Count) (policy : Policy) (s : State) → ((l : Level) → a s l false ≡ b s l false) → hits_at a policy s ≡ hits_at b policy s
hits_at-same a b policy s same =
    ap (count_if (is_listed policy.states s)) (severe_same (λ l. a s l false) (λ l. b s l false) policy.fail_on same)

pub hits_same : (a b : Count) (policy : Policy) → ((s : State) (l : Level) → a s l false ≡ b s l false) → hits_of a policy ≡ hits_of b policy
hits_same a b policy same =
    let n = hits_at-same a b policy New (same New) in
    let u = hits_at-same a b policy Unchanged (same Unchanged) in
    let p = hits_at-same a b policy Updated (same Updated) in
    let o = hits_at-same a b policy Absent (same Absent) in
    omega (arith, n, u, p, o)
