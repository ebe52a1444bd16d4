-- What serving a lab over doors does (this project's profile). Of doors in memory, whose connections show their bytes, all of it is
-- known; of the network, whose connections show none, the same statement says less.
use Rattle.std.specs.Prelude.{◌≡◌, ℕ, Bool, false, List, [], ◌∷◌, ◌++◌, length, map, take, Option, Some, ◌⊎◌, codes, ⊤}
use Rattle.std.specs.Fmt.{decimal}
use Rattle.std.specs.Io.KnownBytes.{Appends, Keeps}
use Rattle.std.specs.List.{AllByRecursion}
use Rattle.std.specs.Option.{option_map}
use Rattle.std.specs.declared.alloc.Global.{Global}
use Rattle.std.specs.declared.marker.Brand.{Brand}
use Rattle.atomic_table.specs.Seated.{TableId}
use Rattle.pfl_base.specs.declared.input.Input as Input
use Rattle.pfl_base.specs.declared.output.Output as Output
use Rattle.pfl_doors.specs.Screens.{left_in, screened, Screen}
use Rattle.pfl_doors.specs.Visits.{Entrance}
use Rattle.pfl_doors.specs.declared.doors.DoorFault.{DoorFault}
use Rattle.pfl_doors.specs.declared.doors.DoorFault.TheVariants as door
use Rattle.pfl_doors.specs.declared.doors.Sides.{Sides}
use Rattle.pfl_run.specs.timeline.Timelines.{Timeline}
use Rattle.pfl_run.specs.script.declared.fault.EngineFault.{EngineFault}
use Rattle.pfl_serve.specs.session.declared.entry.Entry.{Entry}
use Rattle.pfl_serve.specs.session.declared.which.Which as Which
use Rattle.pfl_serve.specs.session.Journals.{revisions_of}
use Rattle.pfl_serve.specs.session.Labs.{AreNewPasses}
use Rattle.pfl_serve.specs.Services.{IsService}
use Rattle.pfl_serve.specs.declared.closing.EndedSeat.{EndedSeat}
use Rattle.pfl_serve.specs.declared.seat.Seat.{Seat}
use Rattle.pfl_serve.specs.declared.seat.ServeFault.{ServeFault}
use Rattle.pfl_serve.specs.declared.seat.ServeFault.TheVariants as serve
use Rattle.pfl_run.specs.declared.fault.RunFault.{RunFault}
use Rattle.pfl_run.specs.declared.fault.RunFault.TheVariants as fault
use Rattle.pfl_run.specs.reader.Readers.{Releases}
use Rattle.pfl_run.specs.script.Setups.{IsKeptText}
use Rattle.pfl_run.specs.script.declared.setup_text.SetupText.{SetupText}
use Rattle.pfl_run.specs.script.declared.setup_text.SetupText.TheVariants as kept
use Rattle.pfl_run.specs.Runs.{IsSetupStop, SetsUp}
use Rattle.pfl_host.specs.Reports.{first_fault}

-- the port is listened on
abbrev pub listening_text : ℕ → List ℕ
listening_text port = codes "listening 127.0.0.1:" ++ decimal port ++ codes "\n"

-- all sessions have ended, and the journal has this many entries
abbrev pub closed_text : ℕ → List ℕ
closed_text entries = codes "closed " ++ decimal entries ++ codes "\n"

-- what sessions are shown for the lines of a setup: those that were kept, or that they are too long
abbrev pub too_long_text : List ℕ
too_long_text = codes "setup too long\n"

abbrev pub IsShown : {M : Type 0} → SetupText M → List ℕ → Type 0
IsShown (kept.Kept lines) shown = shown ≡ lines.items
IsShown kept.TooLong shown = shown ≡ too_long_text
IsShown kept.NoMemory shown = ⊥

-- what a lab is opened over: a pair with its branches, and what sessions are shown for the lines that set it up
pub record Base : Type 0 where
  pub opening : Timeline
  pub setup : List ℕ

-- a lab over these with these counts of its sessions, whose journal has at most 1000000 entries
abbrev pub lab_over : Base → TableId → List TableId → Which.Ghosts Brand
lab_over base publisher tallies = record { publisher = publisher; tallies = tallies; opening = base.opening; setup = base.setup; limit = 1000000 }

-- the lines of a reader set up the base, of which number is the last
pub record SetsUpBase (old new : Option (List ℕ)) (number : ℕ) (base : Base) : Type 0 where
  pub sets_up : SetsUp old new number base.opening
  pub text : SetupText Global
  pub kept : IsKeptText old new text
  pub shown : IsShown text base.setup

-- why sessions were not served, as a fault of the run
abbrev pub of_serve : ServeFault → RunFault
of_serve serve.NoThread = fault.NoThread
of_serve serve.NoMemory = fault.NoMemory

-- why nobody came, as a fault of the run
abbrev pub of_door : DoorFault → RunFault
of_door door.Network = fault.Network
of_door door.NoMemory = fault.NoMemory

-- no call of a side of these connections has failed
abbrev pub AreUnfailed : {I W : Type 0} → (I → Bool) → (W → Bool) → List (Sides I W) → Type 0
AreUnfailed reader writer = AllByRecursion (λ s. (reader s.reader ≡ false) × (writer s.writer ≡ false))

-- why no connections came: the port was not listened on, or that was reported, whole or in part
abbrev pub IsAwaitStop : ℕ → RunFault → Option (List ℕ) → Option (List ℕ) → Type 0
IsAwaitStop port fault.Network w v = Keeps w v ⊎ Appends w v (listening_text port)
IsAwaitStop port fault.NoMemory w v = Keeps w v ⊎ Appends w v (listening_text port)
IsAwaitStop port fault.Write w v = (part : ℕ) × Appends w v (take part (listening_text port))
IsAwaitStop port _ w v = ⊥

-- what of a connection's reader is left to read, and what is seen of its writer
module _ {I W : Type 0} (left : I → Option (List ℕ)) (o : Output.Ghosts W) where
  -- the seat is over the connection, and nothing was read or written there: of what a browser sends its reader gives nothing
  pub record SitsAt (sides : Sides I W) (seat : Seat Global Screen W) : Type 0 where
    pub reader : seat.reader.left ≡ option_map screened (left sides.reader)
    pub lines : seat.reader.lines ≡ 0
    pub turns : seat.reader.turns ≡ 0
    pub failed : seat.reader.failed ≡ false
    pub writer : seat.writer ≡ sides.writer
    pub unfailed : o.has_failed seat.writer ≡ false

  -- each seat is over the connection in its place
  abbrev pub SitAt : List (Sides I W) → List (Seat Global Screen W) → Type 0
  SitAt [] [] = ⊤
  SitAt [] (s ∷ seats) = ⊥
  SitAt (c ∷ given) [] = ⊥
  SitAt (c ∷ given) (s ∷ seats) = SitsAt c s × SitAt given seats

module _ {I W : Type 0} (i : Input.Ghosts I) where
  -- what is left of a connection came back from its session: its writer, and its reader, of which some bytes may have been read that the
  -- session was not given
  pub record CameBack (ended : EndedSeat Screen W) (sides : Sides I W) : Type 0 where
    pub screen : Screen
    pub left : Releases ended.reader.left (left_in screen)
    pub rest : screen.rest ≡ i.left sides.reader
    pub failed : ended.reader.failed ≡ i.has_failed sides.reader
    pub writer : ended.writer ≡ sides.writer

  -- what is left of each connection came back, in its place
  abbrev pub CameBackAll : List (EndedSeat Screen W) → List (Sides I W) → Type 0
  CameBackAll [] [] = ⊤
  CameBackAll [] (s ∷ sides) = ⊥
  CameBackAll (e ∷ ended) [] = ⊥
  CameBackAll (e ∷ ended) (s ∷ sides) = CameBack e s × CameBackAll ended sides

-- what is seen of a connection's reader and of its writer, and when a session's next line has come
module _ {I W : Type 0} (i : Input.Ghosts I) (o : Output.Ghosts W) (heard : ℕ → Type 0) where
  -- the lab's sessions were served, each by a new pass over the connection in its place, and then the lab was closed: the first fault of a
  -- session's end is this one, and this is the number of the journal's entries. What is left of the connections came back
  pub record ServesAll {K : Type 0} (j : Which.Ghosts K) (given returned : List (Sides I W)) (first : Option EngineFault) (entries : ℕ) : Type 0 where
    pub seats : List (Seat Global Screen W)
    pub new : AreNewPasses j.publisher (revisions_of j.opening []) 1 j.tallies (map (λ s. s.pass) seats)
    pub over : SitAt i.left o given seats
    pub timeline : Timeline
    pub journal : List (Entry Global)
    pub ended : List (EndedSeat Screen W)
    pub service : IsService j o heard seats timeline journal ended
    pub back : CameBackAll i ended returned
    pub first_is : first ≡ first_fault (map (λ e. e.result) ended)
    pub count : entries ≡ length journal

  module _ (doors : Entrance I W) (port n : ℕ) where
    -- a lab of n sessions over the base was served over the connections that the doors gave, and closed, with this first fault and this number
    -- of entries
    pub record Closes (base : Base) (first : Option EngineFault) (entries : ℕ) : Type 0 where
      pub port_is : doors.port ≡ Some port
      pub publisher : TableId
      pub tallies : List TableId
      pub all : length tallies ≡ n
      pub serves : ServesAll (lab_over base publisher tallies) doors.given doors.returned first entries

    -- n sessions have ended, and that was reported
    pub record PrintsClosed (base : Base) (first : Option EngineFault) (w v : Option (List ℕ)) : Type 0 where
      pub entries : ℕ
      pub closes : Closes base first entries
      pub written : Appends w v (closed_text entries)

    -- n sessions have ended, and only a part of that was reported
    pub record ClosesPart (base : Base) (w v : Option (List ℕ)) : Type 0 where
      pub first : Option EngineFault
      pub entries : ℕ
      pub closes : Closes base first entries
      pub part : ℕ
      pub written : Appends w v (take part (closed_text entries))

    -- why it was not reported that n sessions have ended: they could not begin, or the writer failed
    abbrev pub IsCloseStop : RunFault → Base → Option (List ℕ) → Option (List ℕ) → Type 0
    IsCloseStop fault.NoThread base w v = Keeps w v
    IsCloseStop fault.NoMemory base w v = Keeps w v
    IsCloseStop fault.Write base w v = ClosesPart base w v
    IsCloseStop _ base w v = ⊥

    -- a lab over the base was served to its end: that the port is listened on, and then that the sessions have ended, was written
    pub record HostServesWhole (base : Base) (first : Option EngineFault) (w v : Option (List ℕ)) : Type 0 where
      pub mid : Option (List ℕ)
      pub listens : Appends w mid (listening_text port)
      pub closes : PrintsClosed base first mid v

    -- the port was listened on and that was reported, and then it stopped
    abbrev pub StopsListening : RunFault → Base → Option (List ℕ) → Option (List ℕ) → Type 0
    StopsListening why base w v = (mid : Option (List ℕ)) × Appends w mid (listening_text port) × IsCloseStop why base mid v

    -- why serving a lab over the base stopped: there was no memory for it, no connections came, or it stopped after that
    abbrev pub IsLabStop : RunFault → Base → Option (List ℕ) → Option (List ℕ) → Type 0
    IsLabStop why base w v = ((why ≡ fault.NoMemory) × Keeps w v) ⊎ (IsAwaitStop port why w v ⊎ StopsListening why base w v)

    -- a pair was set up by the first lines, and a lab over it was served to its end; the other lines are left
    pub record ServesToEnd (old new : Option (List ℕ)) (w v : Option (List ℕ)) (first : Option EngineFault) : Type 0 where
      pub number : ℕ
      pub base : Base
      pub sets_up : SetsUpBase old new number base
      pub whole : HostServesWhole base first w v

    -- the same of a device: the other lines are left in it, but for the bytes of one block at most, which it gave and no line took
    pub record ServesFromDevice (old new : Option (List ℕ)) (w v : Option (List ℕ)) (first : Option EngineFault) : Type 0 where
      pub rest : Option (List ℕ)
      pub serves : ServesToEnd old rest w v first
      pub releases : Releases rest new

    -- a pair was set up, and then serving stopped
    pub record StopsServing (fault : RunFault) (old : Option (List ℕ)) (w v : Option (List ℕ)) : Type 0 where
      pub mid : Option (List ℕ)
      pub number : ℕ
      pub base : Base
      pub sets_up : SetsUpBase old mid number base
      pub stop : IsLabStop fault base w v

    -- why serving stopped: no pair was set up, and nothing was written; or it stopped after the setup
    abbrev pub IsServeStop : RunFault → Option (List ℕ) → Option (List ℕ) → Option (List ℕ) → Type 0
    IsServeStop fault old w v = (IsSetupStop fault old × Keeps w v) ⊎ StopsServing fault old w v
