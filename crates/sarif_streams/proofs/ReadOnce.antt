-- If readers say what they have left, the bytes that were read are determined.
use Rattle.std.proofs.Common.{◌≡◌, ℕ, ◌++◌, List, [], ◌∷◌, Option, Some, None, refl, sym, ap, ◌∙◌}
use Rattle.std.proofs.lemmas.List.{append-nil}
use Rattle.std.specs.Io.KnownBytes.{Consumes, IsAtEnd}
use Rattle.std.specs.List.{AllByRecursion}
use Rattle.std.specs.Prelude.{IsSome, IfSome}
use Rattle.sarif_streams.specs.declared.counted.Counted.{Counted}
use Rattle.sarif_streams.specs.declared.readers.Readers.{Readers}
use Rattle.sarif_streams.specs.AreRead.{IsRead, AreRead}
use Rattle.sarif_streams.specs.Counted.{inner_of}
use Rattle.sarif_streams.specs.WereRead.{AllTell, IsReadIf, SourceContents, Tells, WereRead}

once : (before after : Option (List ℕ)) (a b : List ℕ) → IsSome before → Consumes before after a → IsAtEnd after → Consumes before after b → a ≡ b
once None after a b tells one end other = cc
once (Some xs) None a b tells one end other = absurd one
once (Some xs) (Some ys) a b tells one end other =
    sym (append-nil a) ∙ (ap (λ z. a ++ z) (sym end) ∙ (sym one ∙ (other ∙ (ap (λ z. b ++ z) end ∙ append-nil b))))

module _ {R : Type 0} (remaining : R → Option (List ℕ)) where
  one_reader : (old new : Counted R) (a b : List ℕ) → Tells remaining old → IsRead remaining old new a → IsRead remaining old new b → a ≡ b
  one_reader old new a b tells one other =
      once (remaining (inner_of old)) (remaining (inner_of new)) a b tells one.0 one.1 other.0

  readers_once : (olds news : List (Counted R)) (one other : List (List ℕ)) → AllByRecursion (Tells remaining) olds
      → AreRead remaining olds news one → AreRead remaining olds news other → one ≡ other
  readers_once [] [] [] [] tells h k = refl
  readers_once [] [] [] (b ∷ bs) tells h k = absurd k
  readers_once [] [] (a ∷ rest) other tells h k = absurd h
  readers_once [] (new ∷ news) one other tells h k = absurd h
  readers_once (old ∷ olds) [] one other tells h k = absurd h
  readers_once (old ∷ olds) (new ∷ news) [] other tells h k = absurd h
  readers_once (old ∷ olds) (new ∷ news) (a ∷ rest) [] tells h k = absurd k
  readers_once (old ∷ olds) (new ∷ news) (a ∷ rest) (b ∷ bs) tells h k =
      ap (λ x. x ∷ rest) (one_reader old new a b tells.0 h.0 k.0) ∙ ap (λ xs. b ∷ xs) (readers_once olds news rest bs tells.1 h.1 k.1)

  file_once : (old new : Option (Counted R)) (one other : Option (List ℕ)) → IfSome old (Tells remaining) → IsReadIf remaining old new one
      → IsReadIf remaining old new other → one ≡ other
  file_once None None None None tells h k = refl
  file_once None None None (Some b) tells h k = absurd k
  file_once None None (Some a) other tells h k = absurd h
  file_once None (Some new) one other tells h k = absurd h
  file_once (Some old) None one other tells h k = absurd h
  file_once (Some old) (Some new) None other tells h k = absurd h
  file_once (Some old) (Some new) (Some a) None tells h k = absurd k
  file_once (Some old) (Some new) (Some a) (Some b) tells h k = ap Some (one_reader old new a b tells h k)

  pub contents_once : (old new : Readers R) (one other : SourceContents) → AllTell remaining old → WereRead remaining old new one
      → WereRead remaining old new other → one ≡ other
  contents_once old new one other tells h k =
      let logs = readers_once old.logs.items new.logs.items one.logs other.logs tells.logs h.logs k.logs in
      let baselines = readers_once old.baselines.items new.baselines.items one.baselines other.baselines tells.baselines h.baselines k.baselines in
      let file = file_once old.suppressions new.suppressions one.suppressions other.suppressions tells.suppressions h.suppressions k.suppressions in
      let policy = file_once old.policy new.policy one.policy other.policy tells.policy h.policy k.policy in
      let diff = file_once old.diff new.diff one.diff other.diff tells.diff h.diff k.diff in
      ap (λ x. record { logs = x; baselines = one.baselines; suppressions = one.suppressions; policy = one.policy; diff = one.diff }) logs
      ∙ (ap (λ x. record { logs = other.logs; baselines = x; suppressions = one.suppressions; policy = one.policy; diff = one.diff }) baselines
      ∙ (ap (λ x. record { logs = other.logs; baselines = other.baselines; suppressions = x; policy = one.policy; diff = one.diff }) file
      ∙ (ap (λ x. record { logs = other.logs; baselines = other.baselines; suppressions = other.suppressions; policy = x; diff = one.diff }) policy
      ∙ ap (λ x. record { logs = other.logs; baselines = other.baselines; suppressions = other.suppressions; policy = other.policy; diff = x }) diff)))
