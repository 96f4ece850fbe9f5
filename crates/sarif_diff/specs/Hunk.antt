-- The lines of a hunk, and its runs of changes.
use Rattle.std.specs.Prelude.{ℕ, ◌+◌, ◌-◌, Bool, true, false, ◌&&◌, ◌||◌, nat_lt, ◌==◌, List, [], ◌∷◌, length, Option, Some, None, unwrap_or, if◌then◌else◌}
use Rattle.sarif_diff.specs.declared.header.Range.{Range}
use Rattle.sarif_diff.specs.declared.hunk.Hunk.{Hunk}
use Rattle.sarif_diff.specs.declared.hunk.Sign.{Sign}
use Rattle.sarif_diff.specs.declared.hunk.Sign.TheVariants.{Old, New, Both, Neither}
use Rattle.sarif_diff.specs.declared.section.Span.{Span}

-- what a line of a hunk is, by its first byte; a lone carriage return is an empty line
abbrev pub sign_by : ℕ → List ℕ → Option Sign
sign_by b rest =
    if b == 45 then Some Old else if b == 43 then Some New else if b == 32 then Some Both
    else if b == 92 then Some Neither else if b == 13 && length rest == 0 then Some Both else None

abbrev pub sign_of : List ℕ → Option Sign
sign_of [] = Some Both
sign_of (b ∷ rest) = sign_by b rest

-- the number of the first line of the new file that is in or after these lines
abbrev pub next_of : Range → ℕ
next_of new = if new.count == 0 then new.first + 1 else new.first

-- a hunk before its first line
abbrev pub begun : ℕ → Range → Range → Hunk
begun header old new = record {
  header = header;
  old = old.count;
  next = next_of new;
  end = next_of new + new.count;
  run = None;
  changes = false;
}

-- whether lines of the hunk follow
abbrev pub is_open : Hunk → Bool
is_open h = nat_lt 0 h.old || nat_lt h.next h.end

-- the run of changes that goes on: the number of the line of the new file at its start
abbrev pub run_of : Hunk → Option ℕ
run_of h = Some (unwrap_or h.run h.next)

-- a hunk after one more line of this kind, unless it is one too many
abbrev pub with_sign : Hunk → Sign → Option Hunk
with_sign h Old =
    if nat_lt 0 h.old then Some (record h { old = h.old - 1; run = run_of h; changes = true }) else None
with_sign h New =
    if nat_lt h.next h.end then Some (record h { next = h.next + 1; run = run_of h; changes = true }) else None
with_sign h Both =
    if nat_lt 0 h.old && nat_lt h.next h.end then Some (record h { old = h.old - 1; next = h.next + 1; run = None })
    else None
with_sign h Neither = Some h

-- the changed lines of a run: those that it adds, or if it adds none, those right before and right after it
abbrev pub span_of : ℕ → ℕ → Span
span_of first next =
    if nat_lt first next then record { first = first; last = next - 1 }
    else record { first = (if nat_lt 1 first then first - 1 else first); last = first }

-- the changed lines of the run that ends here, if there is one
abbrev pub spans_to : ℕ → Option ℕ → List Span
spans_to next None = []
spans_to next (Some first) = span_of first next ∷ []

abbrev pub ended_run : Hunk → List Span
ended_run h = spans_to h.next h.run
