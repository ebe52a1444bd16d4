-- Excision: an event is taken out of the middle of a branch, and the rest happens again without it (this project's profile).
use Rattle.std.specs.Prelude.{◌+◌, ◌-◌, ℕ, Bool, ◌&&◌, nat_le, List, [], ◌∷◌, ◌++◌, length, map, filter, take, drop, Some, None, Result, Ok, Err}
use Rattle.std.specs.List.{fold}
use Rattle.pfl_base.specs.declared.refusal.Refusal.{Refusal}
use Rattle.pfl_language.specs.declared.event.Event.{Event}
use Rattle.pfl_search.specs.world.Events.{step}
use Rattle.pfl_search.specs.world.Meanings.{Stepped}
use Rattle.pfl_search.specs.world.Worlds.{World}
use Rattle.pfl_timeline.specs.Timelines.{Branch, Former}

-- an event, and its place in the list that it comes from
pub record Placed : Type 0 where
  pub place : ℕ
  pub event : Event

-- the events with their places, counted on from a number
abbrev pub placed_behind : ℕ → List Event → List Placed
placed_behind n [] = []
placed_behind n (e ∷ es) = record { place = n + 1; event = e } ∷ placed_behind (n + 1) es

-- the events with their places, the first of which is 1
abbrev pub placed : List Event → List Placed
placed es = placed_behind 0 es

-- the list without its k-th entry
abbrev pub without : {X : Type 0} → ℕ → List X → List X
without k xs = take (k - 1) xs ++ drop k xs

-- how far a list has happened, of which some are refused: the world, those that happened, and those that fell out
pub record Sieved : Type 0 where
  pub world : World
  pub kept : List Placed
  pub fallen : List Placed

-- an event that is accepted happens; one that is refused falls out
abbrev pub sifted : Sieved → Placed → Result Stepped Refusal → Sieved
sifted at p (Ok s) = record { world = s.world; kept = at.kept ++ p ∷ []; fallen = at.fallen }
sifted at p (Err why) = record at { fallen = at.fallen ++ p ∷ [] }

-- an event more
abbrev pub sift : Sieved → Placed → Sieved
sift at p = sifted at p (step at.world p.event)

-- the events one after another, from the opening on
unfoldable pub sieve : World → List Placed → Sieved
sieve opening ps = fold sift (record { world = opening; kept = []; fallen = [] }) ps

-- what happens where the k-th event of the branch does not
abbrev pub sieved_without : World → ℕ → Branch → Sieved
sieved_without opening k b = sieve opening (without k (placed b.events))

-- the branch has a k-th event
abbrev pub has_event : ℕ → Branch → Bool
has_event k b = nat_le 1 k && nat_le k (length b.events)

-- the branch without its k-th event: those stand that stood, and what it had can be brought back
abbrev pub excised : World → ℕ → Branch → Branch
excised opening k b =
    let s = sieved_without opening k b in
    record b {
      events = map (λ p. p.event) s.kept;
      cursor = length (filter (λ p. nat_le p.place b.cursor) s.kept);
      former = Some (record { events = b.events; cursor = b.cursor });
    }

-- the places in the branch of the events that fall out then
abbrev pub fallen_places : World → ℕ → Branch → List ℕ
fallen_places opening k b = map (λ p. p.place) (sieved_without opening k b).fallen

-- the branch as it was before
abbrev pub restored : Branch → Former → Branch
restored b f = record b { events = f.events; cursor = f.cursor; former = None }
