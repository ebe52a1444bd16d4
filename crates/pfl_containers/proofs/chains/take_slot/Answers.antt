use Rattle.std.proofs.Common.{◌≢◌, ◌∙◌, sym, refl, arith, ap}
use Rattle.pfl_edits.specs.declared.in_order.Node.{Node}
use Rattle.pfl_containers.specs.inner.Rings.{node_of, next_of}
use Rattle.pfl_containers.proofs.Kept.{take-fresh, take-back, fresh-room, back-near}
use Rattle.pfl_containers.proofs.RingNodes.{fits-head, fits-node, fits-slot}
use Rattle.pfl_containers.proofs.chains.take_slot.Goals as goal

pub node-slot-requires : goal.node-slot-requires
node-slot-requires g c = record { node = fits-head _ _ _ _ c.requires.room.1 0 _ (omega arith) (omega arith) }

pub unwrap-requires : goal.unwrap-requires
unwrap-requires g c =
    let none = sym (ap (λ (n : Node). n.next) c.node-slot.ensures.node) ∙ c.if-slot-rings.true in
    let room = fresh-room _ _ _ _ _ c.requires.room.0.kept none c.requires.room.0.room in
    c.push.ensures.succeeds (omega (arith, c.requires.room.1.value_room))

pub grow-requires-clause-below : goal.grow-requires-clause-below
grow-requires-clause-below g c =
    let none = sym (ap (λ (n : Node). n.next) c.node-slot.ensures.node) ∙ c.if-slot-rings.true in
    let room = fresh-room _ _ _ _ _ c.requires.room.0.kept none c.requires.room.0.room in
    omega (arith, c.requires.room.1.used)

pub returns-then-slot-rings-clause-taken : goal.returns-then-slot-rings-clause-taken
returns-then-slot-rings-clause-taken g c = λ room.
    let none = sym (ap (λ (n : Node). n.next) c.node-slot.ensures.node) ∙ c.if-slot-rings.true in
    let items = rw c.unwrap.ensures at c.push.ensures.items in
    let used = c.requires.room.1.used in
    let same = c.grow.ensures.slot ∙ used in
    rw (items, same) (take-fresh _ _ _ _ _ room.kept c.args.value none room.room (node_of c.grow.new.self)
    (λ i ne. c.grow.ensures.grown.others i (λ e. ne (e ∙ used))))

pub unlink-requires : goal.unlink-requires
unlink-requires g c =
    let is = ap (λ (n : Node). n.next) c.node-slot.ensures.node in
    let some : next_of (node_of c.args.rings.now) c.args.rings.now.limit ≢ c.args.rings.now.limit = λ e. c.if-slot-rings.false (is ∙ e) in
    let kept = c.requires.room.0.kept in
    let fits = c.requires.room.1 in
    let near = back-near _ _ _ _ _ kept some in
    rw is (record {
      slot = fits-slot _ _ _ _ fits _ near.slot kept.few;
      previous = fits-node _ _ _ _ fits _ _ refl near.previous;
      next = fits-node _ _ _ _ fits _ _ refl near.next;
    })

pub index_mut-requires : goal.index_mut-requires
index_mut-requires g c =
    let is = ap (λ (n : Node). n.next) c.node-slot.ensures.node in
    let some : next_of (node_of c.args.rings.now) c.args.rings.now.limit ≢ c.args.rings.now.limit = λ e. c.if-slot-rings.false (is ∙ e) in
    let near = back-near _ _ _ _ _ c.requires.room.0.kept some in
    omega (arith, is, near.slot)

pub returns-clause-taken : goal.returns-clause-taken
returns-clause-taken g c = λ room.
    let is = ap (λ (n : Node). n.next) c.node-slot.ensures.node in
    let some : next_of (node_of c.args.rings.now) c.args.rings.now.limit ≢ c.args.rings.now.limit = λ e. c.if-slot-rings.false (is ∙ e) in
    let unlinked = rw is at c.unlink.ensures.unlinked in
    rw is (take-back _ _ _ _ _ room.kept c.args.value some _ unlinked)
