-- What a table shows at each key after one key's value is written.
use Rattle.std.proofs.Common.{◌≡◌, Bool, true, false, cond, Option, Some, refl, sym, ap, ◌∙◌}
use Rattle.std.specs.Cmp.{IsEquivalence}
use Rattle.std.specs.HashMap.{HashMap, get}
use Rattle.std.specs.HashMap.Eq.{lookup_congr}

module _ {V X : Type 0} (read : Option V → X) (f : X → X) where
  -- at a key that is equal to the written one f is done, and at each other key nothing
  at_key : (b : Bool) (w there here : Option V) → (b ≡ true → here ≡ there) → read w ≡ f (read there)
      → read (cond b w here) ≡ cond b (f (read here)) (read here)
  at_key true w there here same written = written ∙ sym (ap (λ (o : Option V). f (read o)) (same refl))
  at_key false w there here same written = refl

module _ {K V S X : Type 0} {eq : K → K → Bool} (laws : IsEquivalence eq) (read : Option V → X) (f : X → X) (m n : HashMap K V S) (key q : K) where
  -- equal keys have one value
  one_value : eq key q ≡ true → get eq m q ≡ get eq m key
  one_value same = sym (lookup_congr eq laws.congr m.entries key q same)

  -- f is done at the key that is written, for any table that shows o there
  pub read-written : (o : Option V) (w : V) → o ≡ cond (eq key q) (Some w) (get eq m q) → read (Some w) ≡ f (read (get eq m key))
      → read o ≡ cond (eq key q) (f (read (get eq m q))) (read (get eq m q))
  read-written o w updated written =
      ap read updated ∙ at_key read f (eq key q) (Some w) (get eq m key) (get eq m q) one_value written

  pub read-updated : (w : V) → get eq n q ≡ cond (eq key q) (Some w) (get eq m q) → read (Some w) ≡ f (read (get eq m key))
      → read (get eq n q) ≡ cond (eq key q) (f (read (get eq m q))) (read (get eq m q))
  read-updated w updated written = read-written (get eq n q) w updated written

  -- nothing is written, where f changes nothing at the key
  pub read-kept : n ≡ m → read (get eq m key) ≡ f (read (get eq m key)) → read (get eq n q) ≡ cond (eq key q) (f (read (get eq m q))) (read (get eq m q))
  read-kept same kept =
      ap (λ (t : HashMap K V S). read (get eq t q)) same ∙ kept_cond (eq key q) one_value
    where
      kept_cond : (b : Bool) → (b ≡ true → get eq m q ≡ get eq m key) → read (get eq m q) ≡ cond b (f (read (get eq m q))) (read (get eq m q))
      kept_cond true one = ap read (one refl) ∙ kept ∙ sym (ap (λ (o : Option V). f (read o)) (one refl))
      kept_cond false one = refl
