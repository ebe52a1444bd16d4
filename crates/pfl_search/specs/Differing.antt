-- Whether a state that is at both nodes is the same there (this project's profile).
use Rattle.std.specs.Prelude.{Bool, true, false, not, ◌&&◌, ◌||◌, ◌==◌, ℕ, Option, Some, None}
use Rattle.std.specs.List.{list_any}
use Rattle.std.specs.Option.{option_map_or}
use Rattle.pfl_base.specs.Classes.{class_number}
use Rattle.pfl_base.specs.declared.node_id.NodeId.TheVariants.{A, B}
use Rattle.pfl_edits.specs.Maps as maps
use Rattle.pfl_table.specs.Tables.{States}
use Rattle.pfl_track.specs.declared.peer.Peer.{Peer}
use Rattle.pfl_track.specs.declared.state.State.{State}
use Rattle.pfl_world.specs.Worlds.{World, node_at}

-- the scales are the same, or there is none in either
abbrev pub same_scale : Option ℕ → Option ℕ → Bool
same_scale None None = true
same_scale None (Some other) = false
same_scale (Some scale) None = false
same_scale (Some scale) (Some other) = scale == other

-- the ends have the same level, numbers, window and scale
abbrev pub same_end : Peer → Peer → Bool
same_end p q = (p.level == q.level) && (p.lo == q.lo) && (p.hi == q.hi) && (p.window == q.window) && same_scale p.scale q.scale

-- both ends are the same, and the class
abbrev pub same_state : State → State → Bool
same_state s t = same_end s.src t.src && same_end s.dst t.dst && (class_number s.class == class_number t.class)

-- the states are of a rule with `no-sync` at either node, or the same
abbrev pub agree : State → State → Bool
agree s t = s.no_sync || t.no_sync || same_state s t

-- the state is among others too, and they do not agree
abbrev pub differs : States → State → Bool
differs others s = option_map_or (λ t. not (agree s t)) (maps.get others s.name) false

-- a state is at both nodes, and they do not agree on it
abbrev pub are_differing : World → Bool
are_differing w = list_any (differs (node_at w B).states) (maps.values (node_at w A).states)
