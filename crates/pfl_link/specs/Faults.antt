-- Why a link refuses (this project's profile).
use Rattle.std.specs.Prelude.{ℕ, Option, Some, None, cond}
use Rattle.pfl_edits.specs.Maps as maps
use Rattle.pfl_base.specs.declared.refusal.Refusal.{Refusal}
use Rattle.pfl_base.specs.declared.refusal.Refusal.TheVariants as refusal
use Rattle.pfl_link.specs.declared.fault.LinkFault.{LinkFault}
use Rattle.pfl_link.specs.declared.fault.LinkFault.TheVariants.{NoSuchFrame, LinkFull, CountFull, NoMemory}
use Rattle.pfl_link.specs.Links.{Link, is_full, is_counted_out}

-- no room for another frame comes before want of a ticket
abbrev pub room_fault : Link → Option LinkFault
room_fault l = cond (is_full l) (Some LinkFull) (cond (is_counted_out l) (Some CountFull) None)

-- no frame has the ticket
abbrev pub missing_fault : Link → ℕ → Option LinkFault
missing_fault l ticket = cond (maps.contains_key l.frames ticket) None (Some NoSuchFrame)

-- a copy wants a frame to be copied, and then room and a ticket for it
abbrev pub copy_fault : Link → ℕ → Option LinkFault
copy_fault l ticket = cond (maps.contains_key l.frames ticket) (room_fault l) (Some NoSuchFrame)

-- where no other fault applies, memory is wanting
abbrev pub or_no_memory : Option LinkFault → LinkFault
or_no_memory (Some fault) = fault
or_no_memory None = NoMemory

-- the refusal of an event that the link refuses
abbrev pub refusal_of : LinkFault → Refusal
refusal_of NoSuchFrame = refusal.NoSuchFrame
refusal_of LinkFull = refusal.LinkFull
refusal_of CountFull = refusal.CountFull
refusal_of NoMemory = refusal.NoMemory
