-- Seats of sessions that are served (this project's profile).
use Rattle.std.specs.Prelude.{◌≡◌, ◌≤◌, ℕ, List, [], ◌∷◌, length, IfOk, IfErr, OnOk, ⊤}
use Rattle.pfl_base.specs.Counts.{Counts}
use Rattle.pfl_base.specs.declared.output.Output as Output
use Rattle.pfl_script.specs.Readers.{IsRunFault, counted_on}
use Rattle.pfl_session.specs.Passes.{GoesOn, IsPassOf}
use Rattle.pfl_session.specs.declared.which.Which as Which
use Rattle.pfl_serve.specs.Sessions.{ServesUntil, ServesWhole, Site}
use Rattle.pfl_serve.specs.declared.seat.Seat.{Seat}
use Rattle.pfl_serve.specs.declared.seat.Served.{Served}

-- what the sessions of a lab are served over
abbrev pub site_of : {K : Type 0} → Which.Ghosts K → Site
site_of j = record { opening = j.opening; sessions = length j.tallies; limit = j.limit; setup = j.setup }

-- `heard` says of a session that its next line has come, or its end, as its gate hears that
module _ {K A I W : Type 0} (j : Which.Ghosts K) (o : Output.Ghosts W) (heard : ℕ → Type 0) where
  -- the seat, once its session has ended
  pub record IsServed (old : Seat A I W) (s : Served A I W) : Type 0 where
    pub lab : IsPassOf j.publisher j.tallies s.seat.pass
    pub goes_on : GoesOn old.pass s.seat.pass
    pub whole : IfOk s.result (λ e. ServesWhole (site_of j) (heard old.pass.session) old.reader.left s.seat.reader.left old.pass s.seat.pass
        (o.written old.writer) (o.written s.seat.writer) e.lines e.bad)
    pub until : IfErr s.result (λ e. ServesUntil (site_of j) e old.reader.left s.seat.reader.left old.pass s.seat.pass
        (o.written old.writer) (o.written s.seat.writer))
    pub lines : IfOk s.result (λ e. s.seat.reader.lines ≡ counted_on old.reader.lines e.lines)
    pub reads : Counts old.reader.reads s.seat.reader.reads s.seat.reader.turns
    pub few : s.seat.reader.turns ≤ 16777216
    pub stays : OnOk s.result (s.seat.reader.failed ≡ old.reader.failed)
    pub writer_stays : OnOk s.result (o.has_failed s.seat.writer ≡ o.has_failed old.writer)
    pub fault : IfErr s.result (λ e. IsRunFault e s.seat.reader (o.has_failed s.seat.writer))

  -- each seat is served, in order
  abbrev pub AreServed : List (Seat A I W) → List (Served A I W) → Type 0
  AreServed [] [] = ⊤
  AreServed [] (s ∷ ss) = ⊥
  AreServed (old ∷ olds) [] = ⊥
  AreServed (old ∷ olds) (s ∷ ss) = IsServed old s × AreServed olds ss
