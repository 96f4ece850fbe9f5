-- Reading the entries in order, as a loop does.
use Rattle.std.proofs.Common.{◌≡◌, ℕ, ◌+◌, ◌<◌, ◌≤◌, List, [], ◌∷◌, ◌++◌, map, length, drop, slice_index_or, Option, Result, Ok, Err, refl, sym, ap, ◌∙◌}
use Rattle.std.proofs.lemmas.List.{append-nil, append_assoc, drop_more, at_drop_all}
use Rattle.serde_json.specs.declared.value.Value.{Value}
use Rattle.serde_json.specs.View.{view}
use Rattle.sarif_model.specs.Members.{◌>>=◌}
use Rattle.sarif_entries.specs.declared.entry.Entry.{Entry}
use Rattle.sarif_entries.specs.declared.fault.FileFault.{FileFault}
use Rattle.sarif_entries.specs.declared.version.Version.{Version}
use Rattle.sarif_entries.specs.Entries.{entry_of}
use Rattle.sarif_entries.specs.File.{entries_from}

-- the entries read so far, and then those of what is left
abbrev pub joined : List Entry → Result (List Entry) FileFault → Result (List Entry) FileFault
joined front (Ok es) = Ok (front ++ es)
joined front (Err fault) = Err fault

-- what is left begins with the value at the number
left_of : (values : List Value) (n : ℕ) (value : Value) → n < length values → value ≡ slice_index_or values n value
    → drop n values ≡ value ∷ drop (n + 1) values
left_of values n value within is = drop_more values n value within ∙ ap (λ v. v ∷ drop (n + 1) values) (sym is)

-- one more entry
joined_push : (front : List Entry) (e : Entry) (left : Result (List Entry) FileFault)
    → joined (front ++ e ∷ []) left ≡ joined front (left >>= λ es. Ok (e ∷ es))
joined_push front e (Ok es) = ap Ok (append_assoc front (e ∷ []) es)
joined_push front e (Err fault) = refl

pub goes_on : (version : Version) (today : Option ℕ) (front : List Entry) (values : List Value) (n : ℕ) (value : Value) (e : Entry)
    → n < length values → value ≡ slice_index_or values n value → entry_of version today n (view value) ≡ Ok e
    → joined (front ++ e ∷ []) (entries_from version today (n + 1) (map view (drop (n + 1) values)))
    ≡ joined front (entries_from version today n (map view (drop n values)))
unfolding entries_from
goes_on version today front values n value e within is read =
    let split : drop n values ≡ value ∷ drop (n + 1) values = left_of values n value within is in
    rw (split, read) (joined_push front e (entries_from version today (n + 1) (map view (drop (n + 1) values))))

pub stops : (version : Version) (today : Option ℕ) (front : List Entry) (values : List Value) (n : ℕ) (value : Value) (fault : FileFault)
    → n < length values → value ≡ slice_index_or values n value → entry_of version today n (view value) ≡ Err fault
    → joined front (entries_from version today n (map view (drop n values))) ≡ Err fault
unfolding entries_from
stops version today front values n value fault within is read =
    let split : drop n values ≡ value ∷ drop (n + 1) values = left_of values n value within is in
    rw (split, read) refl

pub at_end : (version : Version) (today : Option ℕ) (front : List Entry) (values : List Value) (n : ℕ) → length values ≤ n
    → joined front (entries_from version today n (map view (drop n values))) ≡ Ok front
unfolding entries_from
at_end version today front values n past =
    let none : drop n values ≡ [] = at_drop_all (λ vs. vs) values n past in
    rw (none, append-nil) refl
