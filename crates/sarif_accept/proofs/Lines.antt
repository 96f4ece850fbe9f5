-- The parts of a line, joined.
use Rattle.std.proofs.Common.{◌≡◌, ℕ, List, ◌++◌, ◌∙◌, append_assoc}

-- five parts after a string
pub head_joined : (t a b c d e : List ℕ) → ((((t ++ a) ++ b) ++ c) ++ d) ++ e ≡ t ++ (a ++ (b ++ (c ++ (d ++ e))))
head_joined t a b c d e =
    append_assoc (((t ++ a) ++ b) ++ c) d e
    ∙ append_assoc ((t ++ a) ++ b) c (d ++ e)
    ∙ append_assoc (t ++ a) b (c ++ (d ++ e))
    ∙ append_assoc t a (b ++ (c ++ (d ++ e)))

-- three parts
pub line_joined : (t a b c : List ℕ) → ((t ++ a) ++ b) ++ c ≡ t ++ (a ++ (b ++ c))
line_joined t a b c = append_assoc (t ++ a) b c ∙ append_assoc t a (b ++ c)
