-- Edits of the held packets: the place of one is a position of the list. This project's profile.
use Rattle.std.specs.Prelude.{ℕ, List, [], ◌∷◌, ◌++◌, Option, Some, None}
use Rattle.std.specs.Option.{option_to_list}
use Rattle.pfl_edits.specs.Changes.{LeadsBack}
use Rattle.pfl_edits.specs.Places.{StandsAt, with_position}
use Rattle.pfl_defer.specs.declared.Held.{Held}
use Rattle.pfl_defer.specs.declared.edits.DeferEdit.{DeferEdit}
use Rattle.pfl_defer.specs.declared.edits.DeferEdit.TheVariants.{Added, Removed}
use Rattle.pfl_defer.specs.declared.edits.HoldChange.{HoldChange}
use Rattle.pfl_defer.specs.Deferring.{Deferrals, IsDeferrals}

-- the packet that was held or let go
abbrev pub held_by : DeferEdit → Held
held_by (Added place held) = held
held_by (Removed place held) = held

-- the position in the list
abbrev pub place_of : DeferEdit → ℕ
place_of (Added place held) = place
place_of (Removed place held) = place

-- what stood there before the edit
abbrev pub former : DeferEdit → Option Held
former (Added place held) = None
former (Removed place held) = Some held

-- and what stands there after it
abbrev pub present : DeferEdit → Option Held
present (Added place held) = Some held
present (Removed place held) = None

-- the edit finds its new value in its place
abbrev pub Finds : DeferEdit → Deferrals → Type 0
Finds e d = StandsAt d.list (place_of e) (present e)

-- the edit finds its former value in its place
abbrev pub FindsFormer : DeferEdit → Deferrals → Type 0
FindsFormer e d = StandsAt d.list (place_of e) (former e)

-- with the former value in its place
abbrev pub put_back : DeferEdit → Deferrals → Deferrals
put_back e d = record d { list = with_position d.list (place_of e) (present e) (former e) }

-- with the new value in its place
abbrev pub redone : DeferEdit → Deferrals → Deferrals
redone e d = record d { list = with_position d.list (place_of e) (former e) (present e) }

-- the edits, the oldest first, lead from old to new and back
abbrev pub DefersBack : List DeferEdit → Deferrals → Deferrals → Type 0
DefersBack = LeadsBack Finds IsDeferrals put_back

-- the edits of one call, the oldest first
abbrev pub edits_of : HoldChange → List DeferEdit
edits_of change = option_to_list change.released ++ change.held ∷ []
