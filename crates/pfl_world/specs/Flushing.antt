-- A node sends one frame (if_pfsync.c; the event and its refusals are this project's profile).
use Rattle.std.specs.Prelude.{ℕ, ◌==◌, [], ◌∷◌, length, Option, Result}
use Rattle.pfl_base.specs.Nodes.{other_node}
use Rattle.pfl_base.specs.declared.refusal.Refusal.{Refusal}
use Rattle.pfl_base.specs.declared.refusal.Refusal.TheVariants.{NothingPending, LinkFull, CountFull}
use Rattle.pfl_base.specs.declared.node_id.NodeId.{NodeId}
use Rattle.pfl_wire.specs.Spelling.{spelling}
use Rattle.pfl_node.specs.queue.Queues.{pending}
use Rattle.pfl_node.specs.queue.Taking.{next_frame}
use Rattle.pfl_language.specs.declared.outcome.Outcome.TheVariants.{Sent}
use Rattle.pfl_node.specs.desk.Nodes.{refused_by, unless_refused}
use Rattle.pfl_node.specs.Flushing.{frame_of, flushed}
use Rattle.pfl_link.specs.Links.{InFlight, is_full, is_counted_out, sent}
use Rattle.pfl_world.specs.Meanings.{Meaning, Stepped}
use Rattle.pfl_world.specs.Worlds.{World, node_at, with_node, with_link}

-- no frame goes out of a node that has nothing pending, nor to a link without room or a number for it
abbrev pub flush_refusal : World → NodeId → Option Refusal
flush_refusal w node = refused_by ((pending (node_at w node).queue == 0, NothingPending) ∷ (is_full w.link, LinkFull) ∷ (is_counted_out w.link, CountFull) ∷ [])

-- the frame of a node, on its way to the other node
abbrev pub sent_frame : World → NodeId → InFlight
sent_frame w node = record { to = other_node node; bytes = spelling (frame_of (node_at w node)) }

-- one frame goes to the other node
unfoldable pub flush_step : World → NodeId → Result Stepped Refusal
flush_step w node = unless_refused (flush_refusal w node) (record {
  world = with_link (with_node w node (flushed (node_at w node))) (sent w.link (sent_frame w node));
  outcome = Sent w.link.next (length (sent_frame w node).bytes);
})

-- what a flush is about: the entries that its frame takes
abbrev pub flush_work : World → NodeId → ℕ
flush_work w node = let n = node_at w node in length (next_frame n.queue n.limits.mtu)

-- what a flush means
abbrev pub flush_meaning : World → NodeId → Meaning
flush_meaning w node = record {
  gives = flush_step w node;
  points = λ at. node_at (with_node w node (flushed (node_at w node))) at ∷ [];
  work = flush_work w node;
}
