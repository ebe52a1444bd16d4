use Rattle.std.specs.Prelude.{◌==◌}
use Rattle.std.proofs.Common.{◌∙◌, ◌≤◌, ◌+◌, ◌*◌, ℕ, List, length, ap, sym, subst, refl, arith}
use Rattle.pfl_link.specs.Faults.{room_fault}
use Rattle.pfl_link.specs.Links.{Link, is_full, is_counted_out}
use Rattle.pfl_node.specs.queue.Queues.{pending}
use Rattle.pfl_node.specs.queue.Taking.{next_frame}
use Rattle.pfl_node.specs.Flushing.{flushed, frame_of}
use Rattle.pfl_node.specs.desk.Nodes.{Node}
use Rattle.pfl_wire.specs.Spelling.{spelling}
use Rattle.pfl_world.specs.Worlds.{World, node_at, joined}
use Rattle.pfl_world.proofs.Leads.{agrees_after, fits_after, back_after, made_as, lent_from}
use Rattle.pfl_world.proofs.Recording.{recorded-as}
use Rattle.pfl_world.proofs.Sending.{has_room, link_kept, sent_short, sent_is, outcome_is}
use Rattle.pfl_world.proofs.world.World.flush.Goals as goal

pub invariant_of-self-2 : goal.invariant_of-self-2
invariant_of-self-2 g c =
    agrees_after (joined c.self.inside.nodes c.self.inside.link c.self.inside.next_boot) c.args.node c.at_mut.ensures.node c.in_ok-bytes.ensures.gives.leads_back
    c.self.invariant

pub send-requires-clause-fits : goal.send-requires-clause-fits
send-requires-clause-fits g c =
    fits_after (joined c.self.inside.nodes c.self.inside.link c.self.inside.next_boot) c.args.node c.at_mut.ensures.node
    c.in_ok-bytes.ensures.gives.leads_back

pub send-requires-clause-room : goal.send-requires-clause-room
send-requires-clause-room g c =
    ap (λ (l : Link). room_fault l) (link_kept (joined c.self.inside.nodes c.self.inside.link c.self.inside.next_boot) c.args.node c.flush.new.self)
    ∙ ap (λ (w : World). room_fault w.link) c.self.view_is
    ∙ has_room (pending (node_at c.args.self.now c.args.node).queue == 0) (is_full c.args.self.now.link)
    (is_counted_out c.args.self.now.link) (sym c.in_default.is ∙ c.flush_refusal.ensures.refusal)

pub send-requires-clause-short : goal.send-requires-clause-short
send-requires-clause-short g c =
    let short = subst (λ (bytes : List ℕ). length bytes ≤ c.at_mut.result.now.limits.mtu) (sym c.from.ensures) c.in_ok-bytes.ensures.fits in
    sent_short (joined c.self.inside.nodes c.self.inside.link c.self.inside.next_boot) _ c.self.invariant c.args.node c.at_mut.result.now
    c.flush.new.self c.from.result c.at_mut.ensures.node refl short

pub returns-in-Err-clause-unchanged : goal.returns-in-Err-clause-unchanged
returns-in-Err-clause-unchanged g c =
    c.in-Err.ensures.undone
    ∙ back_after (joined c.self.inside.nodes c.self.inside.link c.self.inside.next_boot) c.args.node c.at_mut.ensures.node c.in_ok-bytes.ensures.gives.leads_back
    ∙ c.self.view_is

pub returns-in-Ok-clause-world : goal.returns-in-Ok-clause-world
returns-in-Ok-clause-world g c =
    sent_is c.args.self.now _ c.send.new.self c.args.node _ c.from.result
    (made_as (joined c.self.inside.nodes c.self.inside.link c.self.inside.next_boot) c.args.node c.at_mut.ensures.node c.in_ok-bytes.ensures.gives.leads_back
    c.args.self.now _ c.self.view_is refl flushed c.in_ok-bytes.ensures.gives.node)
    (c.from.ensures ∙ c.in_ok-bytes.ensures.gives.answer
    ∙ ap (λ (n : Node). spelling (frame_of n))
    (lent_from (joined c.self.inside.nodes c.self.inside.link c.self.inside.next_boot) c.args.node c.at_mut.ensures.node
    c.in_ok-bytes.ensures.gives.leads_back c.args.self.now c.self.view_is))
    c.in-Ok.ensures.world

pub returns-in-Ok-clause-outcome : goal.returns-in-Ok-clause-outcome
returns-in-Ok-clause-outcome g c =
    outcome_is c.args.self.now _ c.args.node _ c.from.result _
    (made_as (joined c.self.inside.nodes c.self.inside.link c.self.inside.next_boot) c.args.node c.at_mut.ensures.node c.in_ok-bytes.ensures.gives.leads_back
    c.args.self.now _ c.self.view_is refl flushed c.in_ok-bytes.ensures.gives.node)
    (c.from.ensures ∙ c.in_ok-bytes.ensures.gives.answer
    ∙ ap (λ (n : Node). spelling (frame_of n))
    (lent_from (joined c.self.inside.nodes c.self.inside.link c.self.inside.next_boot) c.args.node c.at_mut.ensures.node
    c.in_ok-bytes.ensures.gives.leads_back c.args.self.now c.self.view_is))
    c.in-Ok.ensures.outcome

pub returns-in-Ok-clause-recorded : goal.returns-in-Ok-clause-recorded
returns-in-Ok-clause-recorded g c =
    recorded-as c.in-Ok.ensures.recorded
    (back_after (joined c.self.inside.nodes c.self.inside.link c.self.inside.next_boot) c.args.node c.at_mut.ensures.node c.in_ok-bytes.ensures.gives.leads_back
    ∙ c.self.view_is) refl

pub returns-in-Ok-clause-few : goal.returns-in-Ok-clause-few
returns-in-Ok-clause-few g c =
    let few = subst (λ (n : Node). length c.in_ok-bytes.change.list ≤ 1 + 2 * length (next_frame n.queue n.limits.mtu))
    (lent_from (joined c.self.inside.nodes c.self.inside.link c.self.inside.next_boot) c.args.node c.at_mut.ensures.node
    c.in_ok-bytes.ensures.gives.leads_back c.args.self.now c.self.view_is) c.in_ok-bytes.ensures.gives.weight in
    omega (arith, c.in-Ok.ensures.few, few)
