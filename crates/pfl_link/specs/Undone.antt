-- What is kept of an operation of a link that is taken back for a while (this project's profile).
use Rattle.std.specs.Prelude.{◌≡◌, ℕ, Option, Some, None, refl}
use Rattle.std.specs.Coded.{Coded, code_by, coded×, coded_ℕ, coded_option}
use Rattle.pfl_link.specs.declared.change.LinkChange.{LinkChange}
use Rattle.pfl_link.specs.declared.change.LinkChange.TheVariants.{Sent, Taken, Cut}
use Rattle.pfl_link.specs.declared.undone.UndoneChange.{UndoneChange}
use Rattle.pfl_link.specs.declared.undone.UndoneChange.TheVariants as change
use Rattle.pfl_link.specs.contracts.change.LinkChange as link_change
use Rattle.pfl_link.specs.Links.{InFlight, coded_in_flight}
use Rattle.pfl_link.specs.LinkEdits.{LinkEdit, frame_after}

-- what was done under a ticket, and what stands there once it is done again; what stands there before is on the link meanwhile
pub record LinkUndone : Type 0 where
  pub ticket : ℕ
  pub frame : Option InFlight
  pub change : LinkChange

-- what is kept of an edit
abbrev pub undone : LinkEdit → LinkUndone
undone e = record { ticket = e.ticket; frame = frame_after e.change e.frame; change = e.change }

-- the frame that is kept
abbrev pub kept_frame : {M : Type 0} → UndoneChange M → Option InFlight
kept_frame (change.Sent f copy) = Some f
kept_frame change.Taken = None
kept_frame (change.Cut f n) = Some f

-- what was done
abbrev pub kept_change : {M : Type 0} → UndoneChange M → LinkChange
kept_change (change.Sent f copy) = Sent
kept_change change.Taken = Taken
kept_change (change.Cut f n) = Cut n

-- the edit's copy of a frame that was sent is that frame
abbrev pub HasSameCopy : {M : Type 0} → UndoneChange M → Type 0
HasSameCopy (change.Sent f copy) = copy ≡ f
HasSameCopy change.Taken = Unit {0}
HasSameCopy (change.Cut f n) = Unit {0}

-- what is kept is stored as the tuple of its fields
abbrev pub coded_link_undone : Coded LinkUndone
coded_link_undone =
    code_by (ℕ × (Option InFlight × LinkChange)) (coded× coded_ℕ (coded× (coded_option coded_in_flight) link_change.the_row.coded))
    (λ u. (u.ticket, (u.frame, u.change)))
    (λ p. record { ticket = p.0; frame = p.1.0; change = p.1.1 }) (λ _. refl)
