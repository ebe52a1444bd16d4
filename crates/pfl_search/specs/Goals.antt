-- What is asked of the worlds that runs lead to (this project's profile).
use Rattle.std.specs.Prelude.{Bool, true, false, not, ◌&&◌, nat_eq, List, [], ◌∷◌, Option}
use Rattle.pfl_base.specs.Names.{is_name}
use Rattle.pfl_base.specs.Nodes.{other_node}
use Rattle.pfl_base.specs.declared.node_id.NodeId.{NodeId}
use Rattle.pfl_base.specs.declared.node_id.NodeId.TheVariants.{A, B}
use Rattle.pfl_base.specs.declared.state_name.StateName.{StateName}
use Rattle.pfl_bulk.specs.declared.BulkClient.{BulkClient}
use Rattle.pfl_bulk.specs.declared.BulkClient.TheVariants as client
use Rattle.pfl_bulk.specs.declared.BulkServer.{BulkServer}
use Rattle.pfl_bulk.specs.declared.BulkServer.TheVariants as server
use Rattle.pfl_edits.specs.Maps as maps
use Rattle.pfl_language.specs.declared.event.Event.{Event}
use Rattle.pfl_language.specs.declared.event.Event.TheVariants.{At}
use Rattle.pfl_language.specs.declared.fate.Fate.{Fate}
use Rattle.pfl_language.specs.declared.node_event.NodeEvent.{NodeEvent}
use Rattle.pfl_world.specs.queue.Queues.{pending}
use Rattle.pfl_world.specs.Events.{step}
use Rattle.pfl_world.specs.Worlds.{World, node_at}
use Rattle.pfl_search.specs.Differing.{are_differing}
use Rattle.pfl_search.specs.Fates.{fate_after, is_admitted, is_dropped, is_passed}
use Rattle.pfl_language.specs.declared.goal.Goal.{Goal}
use Rattle.pfl_language.specs.declared.goal.Question.{Question}
use Rattle.pfl_language.specs.declared.goal.Question.TheVariants.{Admitted, Apart, Differ, Dropped, Passed, Split, Unpassed}
use Rattle.pfl_language.specs.declared.goal.Scope.{Scope}
use Rattle.pfl_language.specs.declared.goal.Scope.TheVariants.{Everywhere, Landed, Quiet, Settled}

-- the names are the same ones, in the same order
abbrev pub same_names : List StateName → List StateName → Bool
same_names [] [] = true
same_names [] (o ∷ os) = false
same_names (n ∷ ns) [] = false
same_names (n ∷ ns) (o ∷ os) = is_name n o && same_names ns os

-- the names of a node's states, in order
abbrev pub names_at : World → NodeId → List StateName
names_at w id = maps.keys (node_at w id).states

-- the nodes do not have states of the same names
abbrev pub are_apart : World → Bool
are_apart w = not (same_names (names_at w A) (names_at w B))

-- no frame is in flight
abbrev pub is_landed : World → Bool
is_landed w = nat_eq (maps.len w.link.frames) 0

-- a bulk update is served
abbrev pub serves : BulkServer → Bool
serves server.Idle = false
serves _ = true

-- a bulk update is waited for
abbrev pub waits : BulkClient → Bool
waits client.Idle = false
waits _ = true

-- nothing is pending at a node, which serves no bulk update
abbrev pub is_quiet : World → NodeId → Bool
is_quiet w id = let n = node_at w id in nat_eq (pending n.queue) 0 && not (serves n.server)

-- and it waits for none
abbrev pub is_idle : World → NodeId → Bool
is_idle w id = is_quiet w id && not (waits (node_at w id).client)

-- what would become of the packet that the event brings
abbrev pub fate_by : World → Event → Option Fate
fate_by w e = fate_after (step w e)

-- the packet would be dropped at the node, and admitted at the other
abbrev pub is_split : NodeId → NodeEvent → World → Bool
is_split node e w = is_dropped (fate_by w (At node e)) && is_admitted (fate_by w (At (other_node node) e))

-- the answer to a question in a world
abbrev pub answer : Question → World → Bool
answer Apart w = are_apart w
answer Differ w = are_differing w
answer (Passed e) w = is_passed (fate_by w e)
answer (Unpassed e) w = not (is_passed (fate_by w e))
answer (Dropped e) w = is_dropped (fate_by w e)
answer (Admitted e) w = is_admitted (fate_by w e)
answer (Split node e) w = is_split node e w

-- a question of the scope is asked in the world
abbrev pub is_asked : Scope → World → Bool
is_asked Everywhere w = true
is_asked Landed w = is_landed w
is_asked Quiet w = is_landed w && is_quiet w A && is_quiet w B
is_asked Settled w = is_landed w && is_idle w A && is_idle w B

-- the world meets the goal: the question is asked there, and the answer is yes
unfoldable pub meets : Goal → World → Bool
meets g w = is_asked g.scope w && answer g.question w
