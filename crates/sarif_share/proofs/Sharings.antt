-- What was given for parts of some work is what was given for the whole.
use Rattle.std.proofs.Common.{◌≡◌, ◌++◌, ◌∷◌, [], List, zero, suc, refl, sym, ap, ◌∙◌, subst, take, drop, ℕ, ◌+◌, ◌*◌, ◌/◌, ◌%◌, ◌<◌, ◌≤◌, length, map, arith, append-nil}
use mathlib.Core.Logic.{⊎_elim}
use native.Mathlib.Nat.{add-mul, one-mul, suc-mul, zero-mul}
use Rattle.std.proofs.lemmas.Bool.{cases_lt}
use Rattle.std.proofs.lemmas.Nat.{div-add-mod', mod_below}
use denote.Ref.{Bor}
use denote.Param.Members.{Shared}
use Rattle.std.proofs.lemmas.List.{take-append-drop, length-append, length-take, length-take-le, length-drop, get_or_append_left, get_or-append-add, drop-drop, map-append, take_more}
use Rattle.std.proofs.lemmas.Grind.{flat_map-append}
use Rattle.std.proofs.lemmas.Slice.Zip.{AllZip-map, all_zipped_more}
use Rattle.std.specs.Prelude.{Result, Ok, min, slice_index_or}
use Rattle.std.specs.declared.alloc.Global.{Global}
use Rattle.std.specs.declared.vec.Vec.{Vec}
use Rattle.std.specs.Fork.{AcceptsChunks, GivesChunk}
use Rattle.std.specs.List.{AllByRecursion, AllZip, flat_map}
use Rattle.sarif_share.specs.Sharing.{AcceptsParts, AreJoined, GivesEach, GivesEachAt, GivesInParts, GivesPart, GivesParts}

-- how the number of chunks compares with the length
pub spans : (count len size : ℕ) → 0 < size → count ≡ len / size + min 1 (len % size) → (len ≤ count * size) × (count * size < len + size)
spans count len size pos is =
    let q = len / size in
    let r = len % size in
    let parts : q * size + r ≡ len = div-add-mod' len size in
    let below : r < size = mod_below len size pos in
    ⊎_elim
    (λ some. let one : count ≡ q + 1 = omega arith in let w = ap (λ n. n * size) one ∙ add-mul q 1 size in let o = one-mul size in (omega arith, omega arith))
    (λ none. let same : count ≡ q = omega arith in let w = ap (λ n. n * size) same in (omega arith, omega arith))
    (cases_lt 0 r)

pub both_zipped : {A B : Type 0} (R : A → B → Type 0) (xs xs' : List A) (ys ys' : List B) → AllZip R xs ys → AllZip R xs' ys' → AllZip R (xs ++ xs') (ys ++ ys')
both_zipped R [] xs' [] ys' low high = high
both_zipped R [] xs' (y ∷ ys) ys' low high = absurd low
both_zipped R (x ∷ xs) xs' [] ys' low high = absurd low
both_zipped R (x ∷ xs) xs' (y ∷ ys) ys' low high = (low.0, both_zipped R xs xs' ys ys' low.1 high)

-- a list that was cut after n
pub cut_zipped : {A B : Type 0} (R : A → B → Type 0) (n : ℕ) (all xs xs' : List A) (ys ys' made : List B)
    → xs ≡ take n all → xs' ≡ drop n all → made ≡ ys ++ ys' → AllZip R xs ys → AllZip R xs' ys' → AllZip R all made
cut_zipped R n all xs xs' ys ys' made front back is low high =
    subst (λ us. AllZip R all us) (sym is)
    (subst (λ js. AllZip R js (ys ++ ys')) (ap (λ l. l ++ xs') front ∙ ap (λ l. take n all ++ l) back ∙ take-append-drop n all)
    (both_zipped R xs xs' ys ys' low high))

-- one more value after the others
pub joined_more : {V U E : Type 0} (content : V → List U) (rs : List (Result V E)) (us : List U) (v : V)
    → AreJoined content rs us → AreJoined content (rs ++ Ok v ∷ []) (us ++ content v)
joined_more content rs us v are = (
  are.0 ++ v ∷ [],
  map-append Ok are.0 (v ∷ []) ∙ ap (λ l. l ++ Ok v ∷ []) are.1,
  flat_map-append content are.0 (v ∷ []) ∙ ap (λ l. l ++ (content v ++ [])) are.2 ∙ ap (λ l. us ++ l) (append-nil (content v)),
)

module _ {F T R : Type 0} (g : Shared F (ℕ × (Bor (List T) × Unit {0})) R) (f : F) where
  -- a chunk is a part
  pub chunks_accepted : (size : ℕ) (xs : List T) → AcceptsParts g f xs → AcceptsChunks g f size xs
  chunks_accepted size xs takes start p is =
      let before = take start xs in
      let after = drop size (drop start xs) in
      let whole : before ++ (p.now ++ after) ≡ xs =
      ap (λ l. before ++ (l ++ after)) is.value ∙ ap (λ l. before ++ l) (take-append-drop size (drop start xs)) ∙ take-append-drop start xs in
      let inside = is.in_bounds in
      subst (λ k. g.pre f (k, (p, tt))) (length-take-le start xs (omega arith)) (takes before after p whole)

  module _ (size : ℕ) where
    -- this many chunks of xs
    abbrev pub cut : ℕ → List T → List (List T)
    cut zero xs = []
    cut (suc n) xs = take size xs ∷ cut n (drop size xs)

    pub cut_whole : (n : ℕ) (xs : List T) → length xs ≤ n * size → flat_map (λ p. p) (cut n xs) ≡ xs
    cut_whole zero [] le = refl
    cut_whole zero (x ∷ xs) le = absurd (omega (arith, zero-mul size))
    cut_whole (suc n) xs le =
        ap (λ l. take size xs ++ l) (cut_whole n (drop size xs) (omega (arith, length-drop size xs, suc-mul n size))) ∙ take-append-drop size xs

    one_part : (xs : List T) (n : ℕ) (ys : List T) (r : R) → ys ≡ drop (n * size) xs → GivesChunk g f size xs n r → GivesPart g f (n * size) (take size ys) r
    one_part xs n ys r is h = record { shown = h.argument; shows = h.argument_is.value ∙ ap (take size) (sym is); call = h.call }

    -- if each but the last is full, none is empty
    pub cut_some : (n : ℕ) (xs : List T) → 0 < size → n * size < length xs + size → AllByRecursion (λ p. 0 < length p) (cut n xs)
    cut_some zero xs pos long = tt
    cut_some (suc n) xs pos long =
        let more = suc-mul n size in
        (omega (arith, more, length-take size xs), cut_some n (drop size xs) pos (omega (arith, more, length-drop size xs)))

    -- chunks from the one with this number on
    pub chunks_given : (n from : ℕ) (xs ys : List T) (rs : List R) → ys ≡ drop (from * size) xs → length rs ≡ n → n * size < length ys + size
        → ((i : ℕ) (d : R) → i < n → GivesChunk g f size xs (from + i) (slice_index_or rs i d)) → GivesParts g f (from * size) (cut n ys) rs
    chunks_given zero from xs ys [] is long span each = tt
    chunks_given zero from xs ys (r ∷ rs) is long span each = absurd (omega arith)
    chunks_given (suc n) from xs ys [] is long span each = absurd (omega arith)
    chunks_given (suc zero) from xs ys (r ∷ s ∷ rs) is long span each = absurd (omega arith)
    chunks_given (suc zero) from xs ys (r ∷ []) is long span each =
        (one_part xs from ys r is (subst (λ k. GivesChunk g f size xs k r) {x = from + 0} (omega arith) (each 0 r (omega arith))), tt)
    chunks_given (suc (suc n)) from xs ys (r ∷ rs) is long span each =
        let two = suc-mul (suc n) size in
        let one = suc-mul n size in
        let full : length (take size ys) ≡ size = length-take-le size ys (omega arith) in
        let next : drop size ys ≡ drop (suc from * size) xs = ap (drop size) is ∙ drop-drop size (from * size) xs
        ∙ ap (λ k. drop k xs) (sym (suc-mul from size)) in
        let rest = chunks_given (suc n) (suc from) xs (drop size ys) rs next (omega arith) (omega (arith, length-drop size ys))
        (λ i d l. subst (λ k. GivesChunk g f size xs k (slice_index_or rs i d)) {x = from + suc i} (omega arith) (each (suc i) d (omega arith))) in (
          one_part xs from ys r is (subst (λ k. GivesChunk g f size xs k r) {x = from + 0} (omega arith) (each 0 r (omega arith))),
          subst (λ k. GivesParts g f k (cut (suc n) (drop size ys)) rs) (suc-mul from size ∙ ap (λ k. from * size + k) (sym full)) rest,
        )

-- the lists of all parts, concatenated
pub parts_zipped : {F T U E : Type 0} (g : Shared F (ℕ × (Bor (List T) × Unit {0})) (Result (Vec U Global) E)) (f : F) (R : T → U → Type 0)
    → ((start : ℕ) (p : List T) (v : Vec U Global) → GivesPart g f start p (Ok v) → AllZip R p v.items)
    → (start : ℕ) (ps : List (List T)) (vs : List (Vec U Global)) → GivesParts g f start ps (map Ok vs)
    → AllZip R (flat_map (λ p. p) ps) (flat_map (λ v. v.items) vs)
parts_zipped g f R each start [] [] given = tt
parts_zipped g f R each start [] (v ∷ vs) given = absurd given
parts_zipped g f R each start (p ∷ ps) [] given = absurd given
parts_zipped g f R each start (p ∷ ps) (v ∷ vs) given =
    both_zipped R p (flat_map (λ q. q) ps) v.items (flat_map (λ w. w.items) vs) (each start p v given.0)
    (parts_zipped g f R each (start + length p) ps vs given.1)

-- the next list after those before it
pub one_more : {A B : Type 0} (R : A → B → Type 0) (xs : List A) (i : ℕ) (d : A) (ys : List B) (y : B) → i < length xs
    → AllZip R (take i xs) ys → R (slice_index_or xs i d) y → AllZip R (take (i + 1) xs) (ys ++ y ∷ [])
one_more R xs i d ys y below so_far here =
    subst (λ l. AllZip R l (ys ++ y ∷ [])) (sym (take_more xs i d below)) (all_zipped_more R (take i xs) ys (slice_index_or xs i d) y so_far here)

pub parts_whole : {F T U E : Type 0} (g : Shared F (ℕ × (Bor (List T) × Unit {0})) (Result (Vec U Global) E)) (f : F) (R : T → U → Type 0)
    → ((start : ℕ) (p : List T) (v : Vec U Global) → GivesPart g f start p (Ok v) → AllZip R p v.items)
    → (xs : List T) (rs : List (Result (Vec U Global) E)) (us : List U) → GivesInParts g f xs rs → AreJoined (λ v. v.items) rs us → AllZip R xs us
parts_whole g f R each xs rs us made are =
    let lists = are.0 in
    let zipped = parts_zipped g f R each 0 made.parts lists (subst (λ l. GivesParts g f 0 made.parts l) (sym are.1) made.given) in
    subst (λ l. AllZip R l us) made.whole (subst (λ l. AllZip R (flat_map (λ p. p) made.parts) l) are.2 zipped)

-- an element of a part is one of the whole
pub part_within : {T : Type 0} (xs before part after : List T) (k : ℕ) (d : T) → before ++ (part ++ after) ≡ xs → k < length part
    → (length before + k < length xs) × (slice_index_or part k d ≡ slice_index_or xs (length before + k) d)
part_within xs before part after k d whole below =
    let inner = length-append part after in
    let outer = length-append before (part ++ after) in (
      omega (arith, ap length whole, inner, outer),
      sym (get_or_append_left part after d k below) ∙ sym (get_or-append-add before (part ++ after) k d)
          ∙ ap (λ l. slice_index_or l (length before + k) d) whole,
    )

module _ {F T U E : Type 0} (g : Shared F (Bor T × Unit {0}) (Result U E)) (f : F) where
  -- for a caller: what is true for the result of one call is true for the results of all
  pub each_holds : (R : T → U → Type 0) → ((p : Bor T) (u : U) → g.post f (p, tt) (Ok u) → R p.now u) → (xs : List T) (us : List U)
      → GivesEachAt g f xs us → AllZip R xs us
  each_holds R one [] [] given = tt
  each_holds R one [] (u ∷ us) given = absurd given
  each_holds R one (x ∷ xs) [] given = absurd given
  each_holds R one (x ∷ xs) (u ∷ us) given = (subst (λ y. R y u) given.0.shows (one given.0.shown u given.0.says.met), each_holds R one xs us given.1)

  pub each_mapped : (v : T → U) → ((p : Bor T) (u : U) → g.post f (p, tt) (Ok u) → u ≡ v p.now) → (xs : List T) (us : List U)
      → GivesEachAt g f xs us → us ≡ map v xs
  each_mapped v one xs us given = AllZip-map v xs us (each_holds (λ x u. u ≡ v x) one xs us given)

module _ {F J U E : Type 0} (g : Shared F (J × Unit {0}) (Result U E)) (f : F) where
  pub jobs_hold : (R : J → U → Type 0) → ((j : J) (u : U) → g.post f (j, tt) (Ok u) → R j u) → (js : List J) (us : List U)
      → GivesEach g f js us → AllZip R js us
  jobs_hold R one [] [] given = tt
  jobs_hold R one [] (u ∷ us) given = absurd given
  jobs_hold R one (j ∷ js) [] given = absurd given
  jobs_hold R one (j ∷ js) (u ∷ us) given = (one j u given.0, jobs_hold R one js us given.1)

  -- for a caller: the same where the jobs are references to xs
  pub refs_hold : {T : Type 0} (see : J → T) (R : T → U → Type 0) → ((j : J) (u : U) → g.post f (j, tt) (Ok u) → R (see j) u)
      → (js : List J) (xs : List T) (us : List U) → map see js ≡ xs → GivesEach g f js us → AllZip R xs us
  refs_hold see R one js xs us are given = subst (λ l. AllZip R l us) are (seen js us given) where
    seen : (ks : List J) (vs : List U) → GivesEach g f ks vs → AllZip R (map see ks) vs
    seen [] [] made = tt
    seen [] (v ∷ vs) made = absurd made
    seen (k ∷ ks) [] made = absurd made
    seen (k ∷ ks) (v ∷ vs) made = (one k v made.0, seen ks vs made.1)
