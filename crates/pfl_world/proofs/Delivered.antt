-- A delivery in words of what the node and the link answer.
use Rattle.std.specs.Prelude.{◌≡◌, ◌≤◌, ◌+◌, ◌*◌, length, ℕ, List, Option, Some, None, is_some, IsTrue, Result, Ok, Err, refl, cond}
use Rattle.std.specs.Option.{option_map_or}
use Rattle.std.proofs.Common.{◌∙◌, ap, sym, subst, arith}
use Rattle.pfl_base.specs.declared.node_id.NodeId.{NodeId}
use Rattle.pfl_base.specs.declared.node_id.NodeId.TheVariants.{A, B}
use Rattle.pfl_base.specs.declared.refusal.Refusal.{Refusal}
use Rattle.pfl_base.specs.declared.refusal.Refusal.TheVariants.{NoSuchFrame}
use Rattle.pfl_edits.specs.Maps as maps
use Rattle.pfl_wire.specs.declared.fault.BadFrame.{BadFrame}
use Rattle.pfl_wire.specs.Frames.{Frame}
use Rattle.pfl_wire.specs.Reading.{reading}
use Rattle.pfl_language.specs.declared.outcome.Outcome.{Outcome}
use Rattle.pfl_node.specs.desk.Nodes.{Node, IsRefusal, points_refusal, unless_refused}
use Rattle.pfl_node.specs.Weights.{edits_for}
use Rattle.pfl_link.specs.declared.fault.LinkFault.{LinkFault}
use Rattle.pfl_link.specs.declared.fault.LinkFault.TheVariants as link_fault
use Rattle.pfl_link.specs.Faults.{missing_fault}
use Rattle.pfl_link.specs.Links.{Link, InFlight}
use Rattle.pfl_world.specs.inner.Delivering.{arrived, arrival, arrival_edits}
use Rattle.pfl_world.specs.Delivering.{read_taken, deliver_step, frame_points, read_work, deliver_work}
use Rattle.pfl_world.specs.Events.{IsRefusalOf}
use Rattle.pfl_world.specs.Meanings.{Stepped}
use Rattle.pfl_world.specs.Tickets.{without_ticket}
use Rattle.pfl_world.specs.Worlds.{World, IsWorld, node_at, with_node}
use Rattle.pfl_world.proofs.Sending.{link_kept, node_mtu}
use Rattle.pfl_world.proofs.Stepping.{accepted, refusal_of}

-- ---- the step

abbrev delivered : World → ℕ → InFlight → Result Stepped Refusal
delivered w ticket f = read_taken (without_ticket w ticket) f.to (node_at w f.to) (reading f.bytes)

-- the node after the frame in its place, and then the frame gone
abbrev gone_to : World → ℕ → NodeId → Node → Result Frame BadFrame → Stepped
gone_to w ticket to n read = record { world = without_ticket (with_node w to (arrived n read)) ticket; outcome = arrival read }

abbrev arrives : World → ℕ → NodeId → Node → Result Frame BadFrame → Result Stepped Refusal
arrives w ticket to n read = unless_refused (points_refusal (frame_points n read)) (gone_to w ticket to n read)

-- which is the same in either order
either_order : (w : World) (ticket : ℕ) (to : NodeId) (n : Node) (read : Result Frame BadFrame)
    → read_taken (without_ticket w ticket) to n read ≡ arrives w ticket to n read
either_order w ticket A n (Ok f) = refl
either_order w ticket A n (Err why) = refl
either_order w ticket B n (Ok f) = refl
either_order w ticket B n (Err why) = refl

deliver_step-found : (w : World) (ticket : ℕ) (f : InFlight) → maps.get w.link.frames ticket ≡ Some f
    → deliver_step w ticket ≡ arrives w ticket f.to (node_at w f.to) (reading f.bytes)
unfolding deliver_step
deliver_step-found w ticket f at =
    ap (λ (o : Option InFlight). option_map_or (delivered w ticket) o (Err NoSuchFrame)) at ∙ either_order w ticket f.to (node_at w f.to) (reading f.bytes)

deliver_step-missing : (w : World) (ticket : ℕ) → maps.get w.link.frames ticket ≡ None → deliver_step w ticket ≡ Err NoSuchFrame
unfolding deliver_step
deliver_step-missing w ticket at = ap (λ (o : Option InFlight). option_map_or (delivered w ticket) o (Err NoSuchFrame)) at

pub deliver_missing : (w old : World) (ticket : ℕ) → w ≡ old → maps.get w.link.frames ticket ≡ None → IsRefusalOf (deliver_step old ticket) NoSuchFrame
deliver_missing w old ticket view at =
    subst (λ (v : World). IsRefusalOf (deliver_step v ticket) NoSuchFrame) view
    (subst (λ (v : Result Stepped Refusal). IsRefusalOf v NoSuchFrame) (sym (deliver_step-missing w ticket at)) refl)

-- ---- the edits of the receiver

few_arrive : (n : Node) (read : Result Frame BadFrame) → arrival_edits n read ≤ 11 + 12 * read_work n read
few_arrive n (Ok f) = omega arith
few_arrive n (Err why) = omega arith

-- ---- the frame of the ticket, and the node that it goes to

-- a frame of these bytes is in flight under the ticket, and its receiver was lent
pub record Comes (w : World) (ticket : ℕ) (to : NodeId) (bytes : List ℕ) (was : Node) : Type 0 where
  pub frame : InFlight
  pub at : maps.get w.link.frames ticket ≡ Some frame
  pub goes : to ≡ frame.to
  pub spelt : bytes ≡ frame.bytes
  pub lent : was ≡ node_at w to

module _ {w : World} {ticket : ℕ} {to : NodeId} {bytes : List ℕ} {was : Node} (comes : Comes w ticket to bytes was) where
  -- the receiver takes frames of that length
  pub arrives_short : IsWorld w → length bytes ≤ was.limits.mtu
  arrives_short is =
      let short = is.link.short ticket comes.frame comes.at in
      let len : length bytes ≡ length comes.frame.bytes = ap (λ (bs : List ℕ). length bs) comes.spelt in
      let mtu : was.limits.mtu ≡ w.link.mtu = ap (λ (n : Node). n.limits.mtu) comes.lent ∙ node_mtu w is.parts to in
      omega (arith, short, len, mtu)

  -- the frame is on the link yet when the receiver took its records
  pub there-still : (mid : World) (n : Node) → mid ≡ with_node w to n → IsTrue (is_some (maps.get mid.link.frames ticket))
  there-still mid n made =
      let link : w.link ≡ mid.link = sym (ap (λ (v : World). v.link) made ∙ link_kept w to n) in
      let here : IsTrue (is_some (maps.get w.link.frames ticket)) = subst (λ (o : Option InFlight). IsTrue (is_some o)) (sym comes.at) refl in
      subst (λ (l : Link). IsTrue (is_some (maps.get l.frames ticket))) link here

  -- the step, by what was read of these bytes
  read_here : deliver_step w ticket ≡ arrives w ticket to was (reading bytes)
  read_here =
      subst (λ (n : Node). deliver_step w ticket ≡ arrives w ticket to n (reading bytes)) (sym comes.lent)
      (subst (λ (k : NodeId). deliver_step w ticket ≡ arrives w ticket k (node_at w k) (reading bytes)) (sym comes.goes)
      (subst (λ (bs : List ℕ). deliver_step w ticket ≡ arrives w ticket comes.frame.to (node_at w comes.frame.to) (reading bs)) (sym comes.spelt)
      (deliver_step-found w ticket comes.frame comes.at)))

  work_here : deliver_work w ticket ≡ read_work was (reading bytes)
  work_here =
      subst (λ (n : Node). deliver_work w ticket ≡ read_work n (reading bytes)) (sym comes.lent)
      (subst (λ (k : NodeId). deliver_work w ticket ≡ read_work (node_at w k) (reading bytes)) (sym comes.goes)
      (subst (λ (bs : List ℕ). deliver_work w ticket ≡ read_work (node_at w comes.frame.to) (reading bs)) (sym comes.spelt)
      (ap (λ (o : Option InFlight). option_map_or (λ f. read_work (node_at w f.to) (reading f.bytes)) o 0) comes.at)))

  module _ (old : World) (view : w ≡ old) where
    step_here : deliver_step old ticket ≡ arrives w ticket to was (reading bytes)
    step_here = subst (λ (v : World). deliver_step v ticket ≡ arrives w ticket to was (reading bytes)) view read_here

    -- the receiver refuses it
    pub deliver_refused : (r : Refusal) → IsRefusal (points_refusal (frame_points was (reading bytes))) r → IsRefusalOf (deliver_step old ticket) r
    deliver_refused r why =
        subst (λ (v : Result Stepped Refusal). IsRefusalOf v r) (sym step_here)
        (refusal_of (points_refusal (frame_points was (reading bytes))) (gone_to w ticket to was (reading bytes)) r why)

    -- the receiver takes it, and it leaves the link
    pub deliver_accepted : (mid new : World) (n : Node) (o : Outcome) → points_refusal (frame_points was (reading bytes)) ≡ None
        → n ≡ arrived was (reading bytes) → o ≡ arrival (reading bytes)
        → mid ≡ with_node w to n → new ≡ without_ticket mid ticket → deliver_step old ticket ≡ accepted new o
    deliver_accepted mid new n o none is out made gone =
        step_here
        ∙ ap (λ (why : Option Refusal). unless_refused why (gone_to w ticket to was (reading bytes))) none
        ∙ ap (λ (m : Node). accepted (without_ticket (with_node w to m) ticket) (arrival (reading bytes))) (sym is)
        ∙ ap (λ (v : World). accepted (without_ticket v ticket) (arrival (reading bytes))) (sym made)
        ∙ ap (λ (v : World). accepted v (arrival (reading bytes))) (sym gone)
        ∙ ap (λ (a : Outcome). accepted new a) (sym out)

    -- one edit more than those of the receiver
    pub deliver_few : (before mid after : ℕ) → mid ≤ before + arrival_edits was (reading bytes) → after ≡ mid + 1
        → after ≤ before + edits_for (deliver_work old ticket)
    deliver_few before mid after most one =
        let work : deliver_work old ticket ≡ read_work was (reading bytes) =
        subst (λ (v : World). deliver_work v ticket ≡ read_work was (reading bytes)) view work_here in
        let least = few_arrive was (reading bytes) in
        omega (arith, least, most, one, work)

-- ---- the frame leaves the link

-- a frame that is there is not missing
present : (o : Option InFlight) (fault : LinkFault) → IsTrue (is_some o) → cond (is_some o) None (Some link_fault.NoSuchFrame) ≡ Some fault → ⊥
present None fault is missing = cc
present (Some f) fault is missing = cc

pub not_missing : (w : World) (ticket : ℕ) (fault : LinkFault) → IsTrue (is_some (maps.get w.link.frames ticket)) → missing_fault w.link ticket ≡ Some fault → ⊥
not_missing w ticket fault is missing = present (maps.get w.link.frames ticket) fault is missing
