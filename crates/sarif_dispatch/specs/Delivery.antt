-- The delivery core: what each sender sent is what was received from it, followed by what the mailbox holds from
-- it.
use Rattle.std.specs.Prelude.{◌≡◌, ℕ, suc, ◌+◌, ◌≤◌, List, [], ◌++◌, length}
use mathlib.Core.Option.{some}
use lib.ListN.{get_elem?}
use Rattle.sarif_dispatch.specs.declared.mailbox.rule.View.{View}
use Rattle.sarif_dispatch.specs.declared.mailbox.rule.View.TheVariants.{Taker, Sender, Gone}
use Rattle.sarif_dispatch.specs.Senders.{of_sender}

module _ {P : Type 0} where
  -- what a view has, as a taker's and as a sender's
  abbrev pub taken_in : View P → List (ℕ × P)
  taken_in (Taker taken made settled) = taken
  taken_in (Sender number sent) = []
  taken_in Gone = []

  abbrev pub made_in : View P → ℕ
  made_in (Taker taken made settled) = made
  made_in (Sender number sent) = 0
  made_in Gone = 0

  abbrev pub settled_in : View P → List (ℕ × List P)
  settled_in (Taker taken made settled) = settled
  settled_in (Sender number sent) = []
  settled_in Gone = []

  abbrev pub number_in : View P → ℕ
  number_in (Taker taken made settled) = 0
  number_in (Sender number sent) = number
  number_in Gone = 0

  abbrev pub sent_in : View P → List P
  sent_in (Taker taken made settled) = []
  sent_in (Sender number sent) = sent
  sent_in Gone = []

  -- the view of the end of sender k, if `now` is what was received from it and what the mailbox holds from it
  abbrev pub FitsSender : List P → ℕ → View P → Type 0
  FitsSender now k (Taker taken made settled) = ⊥
  FitsSender now k (Sender number sent) = (number ≡ k) × (sent ≡ now)
  FitsSender now k Gone = Unit {0}

  -- what the receiver learns: later senders sent nothing, and what each returned sender sent arrived or is in the
  -- mailbox
  pub record Settles (taken : List (ℕ × P)) (made : ℕ) (settled : List (ℕ × List P))
      (items : List (ℕ × P)) : Type 0 where
    pub strangers : (k : ℕ) → made ≤ k → of_sender k (taken ++ items) ≡ []
    pub past : (i k : ℕ) (s : List P) → get_elem? settled i ≡ some (k, s)
        → s ≡ of_sender k (taken ++ items)

  -- the taker has the first end, and sender k the end k + 1
  pub record Delivers (items : List (ℕ × P)) (views : List (View P)) : Type 0 where
    pub taken : List (ℕ × P)
    pub made : ℕ
    pub settled : List (ℕ × List P)
    pub taker : get_elem? views 0 ≡ some (Taker taken made settled)
    pub count : length views ≡ made + 1
    pub senders : (k : ℕ) (v : View P) → get_elem? views (suc k) ≡ some v
        → FitsSender (of_sender k (taken ++ items)) k v
    pub strangers : (k : ℕ) → made ≤ k → of_sender k (taken ++ items) ≡ []
    pub past : (i k : ℕ) (s : List P) → get_elem? settled i ≡ some (k, s)
        → (s ≡ of_sender k (taken ++ items)) × (get_elem? views (suc k) ≡ some Gone)
