-- Seats that are served, and the lab that is closed after them (this project's profile).
use Rattle.std.specs.Prelude.{◌≡◌, ℕ, List, length, map}
use Rattle.std.specs.List.{AllByRecursion}
use Rattle.pfl_base.specs.declared.output.Output as Output
use Rattle.pfl_script.specs.timeline.Timelines.{Timeline}
use Rattle.pfl_session.specs.declared.entry.Entry.{Entry}
use Rattle.pfl_session.specs.declared.which.Which as Which
use Rattle.pfl_session.specs.Labs.{HasSeenOwn, IsClosed}
use Rattle.pfl_session.specs.Passes.{Seen}
use Rattle.pfl_serve.specs.Seats.{AreServed}
use Rattle.pfl_serve.specs.declared.closing.EndedSeat.{EndedSeat}
use Rattle.pfl_serve.specs.declared.seat.Seat.{Seat}
use Rattle.pfl_serve.specs.declared.seat.Served.{Served}

module _ {A I W : Type 0} where
  -- the pass that the lab takes back
  abbrev pub pass_of : Served A I W → Seen A
  pass_of s = s.seat.pass

  -- what is left of a seat without its pass
  abbrev pub ended_seat : Served A I W → EndedSeat I W
  ended_seat s = record { reader = s.seat.reader; writer = s.seat.writer; result = s.result }

module _ {K A I W : Type 0} (j : Which.Ghosts K) (o : Output.Ghosts W) (heard : ℕ → Type 0) where
  -- the seats were served, and this is left of each; then the lab was closed: the journal is one of its sessions, and its replay gives
  -- the timeline; and the pass of each seat has seen a beginning of the journal, in which every entry of its session stands
  pub record IsService (seats : List (Seat A I W)) (timeline : Timeline) (js : List (Entry A)) (ended : List (EndedSeat I W)) : Type 0 where
    pub served : List (Served A I W)
    pub all : AreServed j o heard seats served
    pub ended_is : ended ≡ map ended_seat served
    pub closed : IsClosed j.opening (length j.tallies) j.limit timeline js
    pub seen : AllByRecursion (HasSeenOwn j.opening js) (map pass_of served)
