-- Each edit of the pair holds little, but for those of a restart.
use Rattle.std.specs.Prelude.{◌≡◌, ℕ, true, List, [], ◌∷◌, ◌++◌, Option, Some, None, refl}
use Rattle.std.specs.List.{AllByRecursion}
use Rattle.pfl_base.specs.declared.node_id.NodeId.{NodeId}
use Rattle.pfl_node.specs.queue.declared.Mark.{Mark}
use Rattle.pfl_node.specs.queue.declared.edits.QueueEdit.TheVariants.{OfMark, OfName, OfRequest, OfStatus, OfClear}
use Rattle.pfl_node.specs.defer.Edits as deferrals
use Rattle.pfl_node.specs.desk.declared.edit.NodeEdit.TheVariants.{OfState, Moved, OfQueue, OfHeld, Server, Client, Clock, NextId, Push, Count}
use Rattle.pfl_node.specs.desk.declared.edit.NodeEdit.{NodeEdit}
use Rattle.pfl_link.specs.LinkEdits.{LinkEdit}
use Rattle.pfl_link.specs.declared.change.LinkChange.{LinkChange}
use Rattle.pfl_link.specs.declared.change.LinkChange.TheVariants.{Sent, Taken, Cut}
use Rattle.pfl_link.specs.Links.{InFlight}
use Rattle.pfl_world.specs.declared.edit.WorldEdit.TheVariants.{OfNode, OfLink}
use Rattle.pfl_world.specs.inner.WorldEdits as edits
use Rattle.pfl_world.specs.Values.{Thing, AState, AMark, ARequest, AStatus, AClear, APacket, ANumber, Values, things, link_values, is_part, is_small}
use Rattle.pfl_world.specs.Values.{HoldsLittle}

few : {X : Type 0} (thing : X → Thing) → ((x : X) → is_part (thing x) ≡ true) → (x : Option X) → is_small (things thing x) ≡ true
few thing part None = refl
few thing part (Some x) = part x

numbered : (m : Option Mark) (n : ℕ) → is_small (things AMark m ++ ANumber n ∷ []) ≡ true
numbered None n = refl
numbered (Some m) n = refl

-- both values are small
abbrev Little : Values → Type 0
Little v = (is_small v.former ≡ true) × (is_small v.present ≡ true)

of_link : (c : LinkChange) (ticket : ℕ) (f : InFlight) → Little (link_values c ticket f)
of_link Sent ticket f = (refl, refl)
of_link Taken ticket f = (refl, refl)
of_link (Cut n) ticket f = (refl, refl)

pub of_node-little : {M : Type 0} (id : NodeId) (e : NodeEdit) → HoldsLittle {M = M} (OfNode id e)
of_node-little id (OfState e) = record { former = few AState (λ x. refl) e.before; present = few AState (λ x. refl) e.after }
of_node-little id (Moved e) = record { former = refl; present = refl }
of_node-little id (OfQueue (OfMark name before after next_before next_after)) =
    record { former = numbered before next_before; present = numbered after next_after }
of_node-little id (OfQueue (OfName name before after)) = record { former = few AMark (λ x. refl) before; present = few AMark (λ x. refl) after }
of_node-little id (OfQueue (OfRequest position before after)) = record { former = few ARequest (λ x. refl) before; present = few ARequest (λ x. refl) after }
of_node-little id (OfQueue (OfStatus position before after)) = record { former = few AStatus (λ x. refl) before; present = few AStatus (λ x. refl) after }
of_node-little id (OfQueue (OfClear position before after)) = record { former = few AClear (λ x. refl) before; present = few AClear (λ x. refl) after }
of_node-little id (OfHeld e) = record { former = few APacket (λ x. refl) (deferrals.former e); present = few APacket (λ x. refl) (deferrals.present e) }
of_node-little id (Server before after) = record { former = refl; present = refl }
of_node-little id (Client before after) = record { former = refl; present = refl }
of_node-little id (Clock before after) = record { former = refl; present = refl }
of_node-little id (NextId before after) = record { former = refl; present = refl }
of_node-little id (Push before after) = record { former = refl; present = refl }
of_node-little id (Count counter before after) = record { former = refl; present = refl }

pub of_link-little : {M : Type 0} (e : LinkEdit) → HoldsLittle {M = M} (OfLink e)
of_link-little e = let l = of_link e.change e.ticket e.frame in record { former = l.0; present = l.1 }

-- what a node changed
pub node_edits-little : (M : Type 0) (id : NodeId) (es : List NodeEdit) → AllByRecursion HoldsLittle (edits.of_node {M = M} id es)
node_edits-little M id [] = tt
node_edits-little M id (e ∷ es) = (of_node-little id e, node_edits-little M id es)
