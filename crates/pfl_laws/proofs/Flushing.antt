-- A flush clears counts of updates alone.
use Rattle.std.specs.Prelude.{◌≡◌, false, List, [], ◌∷◌, Option, Some, None, refl}
use Rattle.std.specs.List.{fold}
use Rattle.std.specs.Option.{option_map_or}
use Rattle.std.proofs.Common.{◌∙◌, ap, sym, subst}
use Rattle.pfl_base.specs.declared.state_name.StateName.{StateName}
use Rattle.pfl_edits.specs.Maps as maps
use Rattle.pfl_world.specs.queue.declared.Entry.{Entry}
use Rattle.pfl_world.specs.queue.declared.Entry.TheVariants.{Marked, Request, Status, Clear}
use Rattle.pfl_world.specs.queue.Taking.{next_frame, left_by}
use Rattle.pfl_world.specs.table.Tables.{AreStates}
use Rattle.pfl_world.proofs.ForCallers.table.{OwnsKeys-known, AreStates-with}
use Rattle.pfl_world.specs.track.declared.state.State.{State}
use Rattle.pfl_world.specs.desk.Nodes.{Node}
use Rattle.pfl_world.specs.desk.Changes.{put_state}
use Rattle.pfl_world.specs.node.Flushing.{update_count_cleared, flushed}
use Rattle.pfl_laws.proofs.Following.{Alike, Alike-itself, Filed}
use Rattle.pfl_laws.proofs.Keeping.{Keeps, keeps-itself, alike-then, on_some, put-keeps}

-- the state that is there has no updates left to announce
abbrev cleared : Node → Option State → Node
cleared n o = option_map_or (λ s. put_state n (record s { updates = 0 })) o n

cleared-keeps : (q : StateName) (n : Node) (name : StateName) → Filed n.states → Keeps Alike q n (cleared n (maps.get n.states name))
cleared-keeps q n name filed = on_some Alike q n (maps.get n.states name) (λ s. put_state n (record s { updates = 0 })) n
    (λ s at. put-keeps Alike q n (record s { updates = 0 }) Alike-itself
    (λ same. record { state = s; at = ap (maps.get n.states) (same ∙ filed name s at) ∙ at; so = refl }))
    (keeps-itself Alike q n Alike-itself)

cleared-apart : (n : Node) (name : StateName) (o : Option State) → maps.get n.states name ≡ o → AreStates n.states → AreStates (cleared n o).states
cleared-apart n name None at are = are
cleared-apart n name (Some s) at are =
    let own : maps.get n.states s.name ≡ Some s = subst (λ q. maps.get n.states q ≡ Some s) (sym (are.filed name s at)) at in
    AreStates-with n.states (record s { updates = 0 }) are
    (OwnsKeys-known n.states s (record s { updates = 0 }) are own (record { name = refl; wire = refl; stack = refl }))

-- ---- an entry

entry-keeps : (q : StateName) (n : Node) (e : Entry) → Filed n.states → Keeps Alike q n (update_count_cleared n e)
entry-keeps q n (Marked kind number name) filed = cleared-keeps q n name filed
entry-keeps q n (Request name) filed = keeps-itself Alike q n Alike-itself
entry-keeps q n (Status status) filed = keeps-itself Alike q n Alike-itself
entry-keeps q n (Clear creator bound) filed = keeps-itself Alike q n Alike-itself

pub entry-apart : (n : Node) (e : Entry) → AreStates n.states → AreStates (update_count_cleared n e).states
entry-apart n (Marked kind number name) are = cleared-apart n name (maps.get n.states name) refl are
entry-apart n (Request name) are = are
entry-apart n (Status status) are = are
entry-apart n (Clear creator bound) are = are

-- ---- all of a frame

entries-keep : (q : StateName) (es : List Entry) (n : Node) → AreStates n.states → Keeps Alike q n (fold update_count_cleared n es)
entries-keep q [] n are = keeps-itself Alike q n Alike-itself
entries-keep q (e ∷ es) n are =
    alike-then q n (update_count_cleared n e) (fold update_count_cleared (update_count_cleared n e) es)
    (entry-keeps q n e are.filed) (entries-keep q es (update_count_cleared n e) (entry-apart n e are))

entries-apart : (es : List Entry) (n : Node) → AreStates n.states → AreStates (fold update_count_cleared n es).states
entries-apart [] n are = are
entries-apart (e ∷ es) n are = entries-apart es (update_count_cleared n e) (entry-apart n e are)

-- what is left pending, and whether a frame is wanted soon, is no matter
abbrev sending : Node → Node
sending n = record n { queue = left_by n.queue (next_frame n.queue n.limits.mtu); push = false }

pub flushed-keeps : (q : StateName) (n : Node) → AreStates n.states → Keeps Alike q n (flushed n)
unfolding flushed
flushed-keeps q n are =
    alike-then q n (sending n) (fold update_count_cleared (sending n) (next_frame n.queue n.limits.mtu))
    (record { creator = refl; next = (keeps-itself Alike q n Alike-itself).next; limits = refl; comes = (keeps-itself Alike q n Alike-itself).comes })
    (entries-keep q (next_frame n.queue n.limits.mtu) (sending n) are)

pub flushed-apart : (n : Node) → AreStates n.states → AreStates (flushed n).states
unfolding flushed
flushed-apart n are = entries-apart (next_frame n.queue n.limits.mtu) (sending n) are
