-- The edits of a link. A frame that is sent and the next ticket count as one place (this project's profile).
use Rattle.std.specs.Prelude.{◌≡◌, ℕ, ◌+◌, List, Option, Some, None, refl}
use Rattle.std.specs.Coded.{Coded, code_by, coded×, coded_ℕ}
use Rattle.pfl_edits.specs.Maps as maps
use Rattle.pfl_edits.specs.Maps.{set_at}
use Rattle.pfl_edits.specs.Changes.{LeadsBack}
use Rattle.pfl_link.specs.declared.change.LinkChange.{LinkChange}
use Rattle.pfl_link.specs.declared.change.LinkChange.TheVariants.{Sent, Taken, Cut}
use Rattle.pfl_link.specs.contracts.change.LinkChange as link_change
use Rattle.pfl_link.specs.Links.{Link, InFlight, IsLink, cut_to, coded_in_flight}

-- what one operation did under a ticket: the frame that it sent, took or cut, whole
pub record LinkEdit : Type 0 where
  pub ticket : ℕ
  pub frame : InFlight
  pub change : LinkChange

-- what stood under the ticket before
abbrev pub frame_before : LinkChange → InFlight → Option InFlight
frame_before Sent f = None
frame_before Taken f = Some f
frame_before (Cut n) f = Some f

-- what stands there after
abbrev pub frame_after : LinkChange → InFlight → Option InFlight
frame_after Sent f = Some f
frame_after Taken f = None
frame_after (Cut n) f = Some (cut_to f n)

-- The next ticket before: a frame that is sent takes it. The other changes leave the next ticket as it is.
abbrev pub next_before : LinkChange → ℕ → ℕ → ℕ
next_before Sent ticket next = ticket
next_before Taken ticket next = next
next_before (Cut n) ticket next = next

-- the next ticket after
abbrev pub next_after : LinkChange → ℕ → ℕ → ℕ
next_after Sent ticket next = ticket + 1
next_after Taken ticket next = next
next_after (Cut n) ticket next = next

-- the place has this value: what stands under the ticket, and the next ticket
pub record Stands (ticket : ℕ) (at : Option InFlight) (next : ℕ) (l : Link) : Type 0 where
  pub frame : maps.get l.frames ticket ≡ at
  pub next_is : l.next ≡ next

-- the link with this value in the place
abbrev pub with_place : ℕ → Option InFlight → ℕ → Link → Link
with_place ticket at next l = record l { next = next; frames = set_at l.frames ticket at }

-- the edit finds its new value in its place; where it took no ticket, the next one may be any
abbrev pub Finds : LinkEdit → Link → Type 0
Finds e l = Stands e.ticket (frame_after e.change e.frame) (next_after e.change e.ticket l.next) l

-- and its former value
abbrev pub FindsFormer : LinkEdit → Link → Type 0
FindsFormer e l = Stands e.ticket (frame_before e.change e.frame) (next_before e.change e.ticket l.next) l

-- the link with the former value in the edit's place
abbrev pub put_back : LinkEdit → Link → Link
put_back e l = with_place e.ticket (frame_before e.change e.frame) (next_before e.change e.ticket l.next) l

-- the link with the new value there
abbrev pub redone : LinkEdit → Link → Link
redone e l = with_place e.ticket (frame_after e.change e.frame) (next_after e.change e.ticket l.next) l

-- the edits lead back from new to old
abbrev pub LinkLeadsBack : List LinkEdit → Link → Link → Type 0
LinkLeadsBack = LeadsBack Finds IsLink put_back

-- an edit is stored as the tuple of its fields
abbrev pub coded_link_edit : Coded LinkEdit
coded_link_edit =
    code_by (ℕ × (InFlight × LinkChange)) (coded× coded_ℕ (coded× coded_in_flight link_change.the_row.coded)) (λ e. (e.ticket, (e.frame, e.change)))
    (λ p. record { ticket = p.0; frame = p.1.0; change = p.1.1 }) (λ _. refl)
