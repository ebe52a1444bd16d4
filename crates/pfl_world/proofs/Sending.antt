-- A flush in words of what the node and the link answer.
use Rattle.std.specs.Prelude.{◌≡◌, ◌≤◌, ◌+◌, ◌*◌, length, ℕ, Bool, true, false, List, [], ◌∷◌, Option, Some, None, Result, Ok, Err, IfOk, IfErr, OnOk}
use Rattle.std.specs.Prelude.{refl, cond}
use Rattle.std.proofs.Common.{◌∙◌, ap, sym, subst, arith}
use Rattle.pfl_base.specs.declared.refusal.Refusal.{Refusal}
use Rattle.pfl_base.specs.declared.refusal.Refusal.TheVariants as refusal
use Rattle.pfl_base.specs.declared.node_id.NodeId.{NodeId}
use Rattle.pfl_base.specs.declared.node_id.NodeId.TheVariants.{A, B}
use Rattle.pfl_base.specs.Nodes.{other_node}
use Rattle.pfl_wire.specs.Spelling.{spelling}
use Rattle.pfl_language.specs.declared.event.Event.{Event}
use Rattle.pfl_language.specs.declared.event.Event.TheVariants as event
use Rattle.pfl_language.specs.declared.limits.Limits.{Limits}
use Rattle.pfl_language.specs.declared.outcome.Outcome.{Outcome}
use Rattle.pfl_language.specs.declared.outcome.Outcome.TheVariants as outcome
use Rattle.pfl_node.specs.Flushing.{flushed, frame_of}
use Rattle.pfl_node.specs.desk.Nodes.{Node, IsRefusal, refused_by, unless_refused}
use Rattle.pfl_link.specs.declared.fault.LinkFault.{LinkFault}
use Rattle.pfl_link.specs.declared.fault.LinkFault.TheVariants.{LinkFull, CountFull}
use Rattle.pfl_link.specs.Links.{Link, sent}
use Rattle.pfl_world.specs.Events.{step, IsRefusalOf}
use Rattle.pfl_world.specs.Meanings.{Stepped}
use Rattle.pfl_world.specs.Flushing.{flush_refusal, sent_frame, flush_step, flush_work}
use Rattle.pfl_world.specs.Weights.{weight}
use Rattle.pfl_world.specs.Worlds.{World, PartsAgree, node_at, with_node, with_link}
use Rattle.pfl_world.proofs.Stepping.{accepted, refused_as}

-- ---- why no frame goes out

abbrev no_room : Bool → Bool → Option LinkFault
no_room full counted = cond full (Some LinkFull) (cond counted (Some CountFull) None)

abbrev none_goes_out : Bool → Bool → Bool → Option Refusal
none_goes_out none full counted = refused_by ((none, refusal.NothingPending) ∷ (full, refusal.LinkFull) ∷ (counted, refusal.CountFull) ∷ [])

pub has_room : (none full counted : Bool) → None ≡ none_goes_out none full counted → no_room full counted ≡ None
has_room true full counted is = absurd (cc)
has_room false true counted is = absurd (cc)
has_room false false true is = absurd (cc)
has_room false false false is = refl

-- ---- the event

abbrev flushed_to : World → NodeId → Stepped
flushed_to w id = record {
  world = with_link (with_node w id (flushed (node_at w id))) (sent w.link (sent_frame w id));
  outcome = outcome.Sent w.link.next (length (sent_frame w id).bytes);
}

step_flush : (w : World) (e : Event) (id : NodeId) → e ≡ event.Flush id → step w e ≡ unless_refused (flush_refusal w id) (flushed_to w id)
unfolding step flush_step
step_flush w e id is = ap (step w) is

pub flush_refused : {X : Type 0} (w : World) (e : Event) (id : NodeId) → e ≡ event.Flush id → (result : Result X Refusal)
    → IfErr result (IsRefusal (flush_refusal w id)) → IfErr result (IsRefusalOf (step w e))
flush_refused w e id is result r = refused_as (flush_refusal w id) (flushed_to w id) (step w e) (step_flush w e id is) result r

pub flush_accepted : (old new : World) (e : Event) (id : NodeId) → e ≡ event.Flush id → (result : Result Outcome Refusal)
    → OnOk result (flush_refusal old id ≡ None)
    → OnOk result (new ≡ (flushed_to old id).world)
    → IfOk result (λ given. given ≡ outcome.Sent old.link.next (length (sent_frame old id).bytes))
    → IfOk result (λ given. step old e ≡ Ok (record { world = new; outcome = given }))
flush_accepted old new e id at (Err r) none made is = tt
flush_accepted old new e id at (Ok r) none made is =
    step_flush old e id at
    ∙ ap (λ (o : Option Refusal). unless_refused o (flushed_to old id)) none
    ∙ ap (λ (w : World). accepted w (flushed_to old id).outcome) (sym made)
    ∙ ap (λ (a : Outcome). accepted new a) (sym is)

-- two edits for each entry at most, one of the push and one of the link
pub flush_weight : {T : Type 0} (w : World) (e : Event) (id : NodeId) (before after : ℕ) → e ≡ event.Flush id → (result : Result T Refusal)
    → OnOk result (after ≤ before + (2 + 2 * flush_work w id)) → OnOk result (after ≤ before + weight w e)
flush_weight w e id before after is (Err r) few = tt
flush_weight w e id before after is (Ok x) few =
    let most : after ≤ before + weight w (event.Flush id) = omega (arith, few) in
    subst (λ (v : Event). after ≤ before + weight w v) (sym is) most

-- ---- the parts

-- the link stays beside another node
pub link_kept : (w : World) (id : NodeId) (n : Node) → (with_node w id n).link ≡ w.link
link_kept w A n = refl
link_kept w B n = refl

-- the link takes what either node sends
pub node_mtu : (w : World) → PartsAgree w → (id : NodeId) → (node_at w id).limits.mtu ≡ w.link.mtu
node_mtu w is A = sym is.mtu
node_mtu w is B = ap (λ (l : Limits). l.mtu) is.nodes ∙ sym is.mtu

-- the node was lent, and its frame fits the link beside the node after it
pub sent_short : (w mid : World) → PartsAgree w → (id : NodeId) (was n : Node) (bytes : List ℕ) → was ≡ node_at w id
    → mid ≡ with_node w id n → length bytes ≤ was.limits.mtu → length bytes ≤ mid.link.mtu
sent_short w mid is id was n bytes at made short =
    let node : was.limits.mtu ≡ w.link.mtu = ap (λ (m : Node). m.limits.mtu) at ∙ node_mtu w is id in
    let link : mid.link.mtu ≡ w.link.mtu = ap (λ (v : World). v.link.mtu) made ∙ ap (λ (l : Link). l.mtu) (link_kept w id n) in
    omega (arith, short, node, link)

-- the frame on its way is the node's, to the other node
pub sent_is : (old mid new : World) (id : NodeId) (n : Node) (bytes : List ℕ) → mid ≡ with_node old id n → bytes ≡ spelling (frame_of (node_at old id))
    → new ≡ with_link mid (sent mid.link (record { to = other_node id; bytes = bytes }))
    → new ≡ with_link (with_node old id n) (sent old.link (sent_frame old id))
sent_is old mid new id n bytes made spelt is =
    is
    ∙ ap (λ (w : World). with_link w (sent w.link (record { to = other_node id; bytes = bytes }))) made
    ∙ ap (λ (l : Link). with_link (with_node old id n) (sent l (record { to = other_node id; bytes = bytes }))) (link_kept old id n)
    ∙ ap (λ (bs : List ℕ). with_link (with_node old id n) (sent old.link (record { to = other_node id; bytes = bs }))) spelt

pub outcome_is : (old mid : World) (id : NodeId) (n : Node) (bytes : List ℕ) (out : Outcome) → mid ≡ with_node old id n
    → bytes ≡ spelling (frame_of (node_at old id))
    → out ≡ outcome.Sent mid.link.next (length bytes) → out ≡ outcome.Sent old.link.next (length (spelling (frame_of (node_at old id))))
outcome_is old mid id n bytes out made spelt is =
    is
    ∙ ap (λ (l : Link). outcome.Sent l.next (length bytes)) (ap (λ (w : World). w.link) made ∙ link_kept old id n)
    ∙ ap (λ (bs : List ℕ). outcome.Sent old.link.next (length bs)) spelt
