-- Lists of senders with what each sent.
use Rattle.std.specs.Prelude.{ℕ, ◌==◌, List, map, filter}

-- what this sender sent, in its order
abbrev pub of_sender : {P : Type 0} → ℕ → List (ℕ × P) → List P
of_sender sender h = map (λ x. x.1) (filter (λ x. x.0 == sender) h)
