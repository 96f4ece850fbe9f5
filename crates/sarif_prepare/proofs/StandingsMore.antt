-- A list of the standings of results, with one more.
use Rattle.std.proofs.Common.{◌≡◌, ℕ, suc, ◌+◌, ◌<◌, ◌++◌, List, [], ◌∷◌, Option, Some, None, length, map, drop, get_or, append_assoc, add-one, add-zero, Ok, Result, refl, sym, ap, subst, ◌∙◌, arith}
use Rattle.std.specs.Prelude.{slice_index_or}
use Rattle.std.specs.List.{flat_map}
use Rattle.std.specs.declared.alloc.Global.{Global}
use Rattle.std.specs.declared.vec.Vec.{Vec}
use denote.Ref.{Bor}
use denote.Param.Members.{Shared}
use Rattle.sarif_share.specs.Sharing.{AreJoined, GivesInParts, GivesPart, GivesParts}
use Rattle.std.proofs.Math.Seq.{drop-cons}
use Rattle.sarif_known.specs.declared.standing.Standing.{Standing}
use Rattle.sarif_model.specs.declared.record.Record.{Record}
use Rattle.sarif_evidence.specs.declared.version.MatchingVersion.{MatchingVersion}
use Rattle.sarif_evidence.specs.Evidence.{state_in}
use Rattle.sarif_known.specs.Standing.{standing_of}
use Rattle.sarif_log.specs.LogBy.{partner_in, states_from}
use Rattle.sarif_prepare.specs.Kept.{standings_from}

-- one more of these, which has position i among the results from first on, and number n
pub standings_more : (v : MatchingVersion) (bs : List Record) (ps : List (Option ℕ)) (cs : List Record) (ss : List Standing) (i n : ℕ) (r : Record)
    (state : Standing) (all : List Standing) → i < length cs → r ≡ get_or cs i r → state ≡ standing_of v r (partner_in bs (slice_index_or ps n None))
    → ss ++ standings_from v bs ps n (drop i cs) ≡ all → (ss ++ state ∷ []) ++ standings_from v bs ps (n + 1) (drop (i + 1) cs) ≡ all
standings_more v bs ps cs ss i n r state all below is said so_far =
    let front : drop i cs ≡ r ∷ drop (i + 1) cs = rw add-one (drop-cons cs i r below ∙ ap (λ x. x ∷ drop (suc i) cs) (sym is)) in
    append_assoc ss (state ∷ []) (standings_from v bs ps (n + 1) (drop (i + 1) cs))
    ∙ ap (λ x. ss ++ (x ∷ standings_from v bs ps (n + 1) (drop (i + 1) cs))) said
    ∙ sym (ap (λ rs. ss ++ standings_from v bs ps n rs) front)
    ∙ so_far

-- the standings of some results and of others after them
standings_onto : (v : MatchingVersion) (bs : List Record) (ps : List (Option ℕ)) (n : ℕ) (cs ds : List Record)
    → standings_from v bs ps n cs ++ standings_from v bs ps (n + length cs) ds ≡ standings_from v bs ps n (cs ++ ds)
standings_onto v bs ps n [] ds = ap (λ m. standings_from v bs ps m ds) (add-zero n)
standings_onto v bs ps n (c ∷ cs) ds =
    ap (λ rest. standing_of v c (partner_in bs (slice_index_or ps n None)) ∷ rest)
    (ap (λ m. standings_from v bs ps (n + 1) cs ++ standings_from v bs ps m ds) (omega arith)
    ∙ standings_onto v bs ps (n + 1) cs ds)

-- the standings of all parts, together
module _ {F E : Type 0} (g : Shared F (ℕ × (Bor (List Record) × Unit {0})) (Result (Vec Standing Global) E)) (f : F) (v : MatchingVersion)
    (bs : List Record) (ps : List (Option ℕ))
    (each : (start : ℕ) (part : List Record) (made : Vec Standing Global) → GivesPart g f start part (Ok made)
    → made.items ≡ standings_from v bs ps start part) where
  parts_standing : (start : ℕ) (parts : List (List Record)) (lists : List (Vec Standing Global)) → GivesParts g f start parts (map Ok lists)
      → flat_map (λ list. list.items) lists ≡ standings_from v bs ps start (flat_map (λ part. part) parts)
  parts_standing start [] [] given = refl
  parts_standing start [] (list ∷ lists) given = absurd given
  parts_standing start (part ∷ parts) [] given = absurd given
  parts_standing start (part ∷ parts) (list ∷ lists) given =
      ap (λ items. items ++ flat_map (λ l. l.items) lists) (each start part list given.0)
      ∙ ap (λ rest. standings_from v bs ps start part ++ rest) (parts_standing (start + length part) parts lists given.1)
      ∙ standings_onto v bs ps start part (flat_map (λ p. p) parts)

  pub all_standing : (cs : List Record) (rs : List (Result (Vec Standing Global) E)) (all : List Standing) → GivesInParts g f cs rs
      → AreJoined (λ list. list.items) rs all → all ≡ standings_from v bs ps 0 cs
  all_standing cs rs all made joined =
      sym joined.2
      ∙ parts_standing 0 made.parts joined.0 (subst (λ made_lists. GivesParts g f 0 made.parts made_lists) (sym joined.1) made.given)
      ∙ ap (standings_from v bs ps 0) made.whole

-- the states of standings
pub states_there : (v : MatchingVersion) (bs : List Record) (ps : List (Option ℕ)) (n : ℕ) (cs : List Record)
    → map (λ standing. Some standing.state) (standings_from v bs ps n cs) ≡ map Some (states_from v bs ps n cs)
states_there v bs ps n [] = refl
states_there v bs ps n (c ∷ cs) =
    ap (λ l. Some (state_in v c (partner_in bs (slice_index_or ps n None))) ∷ l) (states_there v bs ps (n + 1) cs)
