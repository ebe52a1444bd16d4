-- Why an event has its outcome, by its kind.
use Rattle.std.specs.Prelude.{◌≡◌, ◌≢◌, ℕ, Result, refl}
use Rattle.std.specs.Result.{IfOk}
use Rattle.std.proofs.Common.{ap, subst, sym}
use Rattle.pfl_base.specs.declared.direction.Dir.{Dir}
use Rattle.pfl_base.specs.declared.node_id.NodeId.{NodeId}
use Rattle.pfl_base.specs.declared.packet.Packet.{Packet}
use Rattle.pfl_language.specs.declared.event.Event.{Event}
use Rattle.pfl_language.specs.declared.event.Event.TheVariants as event
use Rattle.pfl_language.specs.declared.event.FrameEvent.{FrameEvent}
use Rattle.pfl_language.specs.declared.event.FrameEvent.TheVariants as frame
use Rattle.pfl_language.specs.declared.node_event.NodeEvent.{NodeEvent}
use Rattle.pfl_language.specs.declared.node_event.NodeEvent.TheVariants as own
use Rattle.pfl_world.specs.desk.Nodes.{Node}
use Rattle.pfl_world.specs.Worlds.{World, node_at}
use Rattle.pfl_reasons.specs.declared.explained.Explained.{Explained as Given}
use Rattle.pfl_reasons.specs.Explaining.{Explained, Plain, explained_at, explained_of, explained_of_frame, explained_outcome}

-- the same is explained
pub as_same : {M X : Type 0} (result : Result (Given M) X) (a b : Explained) → a ≡ b → IfOk result (λ r. explained_of r ≡ a)
    → IfOk result (λ r. explained_of r ≡ b)
as_same result a b same is = subst (λ (e : Explained). IfOk result (λ r. explained_of r ≡ e)) same is

pub plain_at : (n : Node) (e : NodeEvent) → ((dir : Dir) (p : Packet) → e ≢ own.Packet dir p) → e ≢ own.Purge → Plain ≡ explained_at n e
plain_at n (own.Packet dir p) packet purge = absurd (packet dir p refl)
plain_at n own.Purge packet purge = absurd (purge refl)
plain_at n (own.Tick ms) packet purge = refl
plain_at n own.Release packet purge = refl
plain_at n (own.Kill name) packet purge = refl
plain_at n own.Clear packet purge = refl
plain_at n own.BulkTurn packet purge = refl
plain_at n own.BulkRetry packet purge = refl

pub plain_of_frame : (w : World) (ticket : ℕ) (e : FrameEvent) → e ≢ frame.Deliver → Plain ≡ explained_of_frame w ticket e
plain_of_frame w ticket frame.Deliver deliver = absurd (deliver refl)
plain_of_frame w ticket frame.Lose deliver = refl
plain_of_frame w ticket frame.Repeat deliver = refl
plain_of_frame w ticket (frame.Cut len) deliver = refl

pub plain_of : (w : World) (e : Event) → ((id : NodeId) (x : NodeEvent) → e ≢ event.At id x)
    → ((ticket : ℕ) (x : FrameEvent) → e ≢ event.Of ticket x) → Plain ≡ explained_outcome w e
plain_of w (event.At id x) at of = absurd (at id x refl)
plain_of w (event.Of ticket x) at of = absurd (of ticket x refl)
plain_of w (event.Flush id) at of = refl
plain_of w (event.Restart id) at of = refl

pub at_node : (w : World) (e : Event) (id : NodeId) (x : NodeEvent) → e ≡ event.At id x → explained_at (node_at w id) x ≡ explained_outcome w e
at_node w e id x is = ap (explained_outcome w) (sym is)

pub of_frame : (w : World) (e : Event) (ticket : ℕ) (x : FrameEvent) → e ≡ event.Of ticket x → explained_of_frame w ticket x ≡ explained_outcome w e
of_frame w e ticket x is = ap (explained_outcome w) (sym is)
