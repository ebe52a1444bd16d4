use Rattle.pfl_containers.proofs.Mapping.{former_some, former_before, former_lost, entry_changed, entry_removed, entry_added, less_than, room_left}
use Rattle.pfl_containers.proofs.Mapping.{not_full, is_arena}
use Rattle.pfl_containers.proofs.order.OrderedMap.set.Goals as goal

-- the entry taken out, if there was one
pub remove-requires : goal.remove-requires
remove-requires g c = record { stored = is_arena c.self.invariant }

pub invariant_of-self : goal.invariant_of-self
invariant_of-self g c = (entry_removed g.met.K.Ordered.total _ _ c.self.invariant c.args.key c.args.at c.remove.ensures.loses c.in_default.is).kept

pub returns-in_default-clause-former : goal.returns-in_default-clause-former
returns-in_default-clause-former g c = rw (← c.self.view_is) (former_lost g.met.K.Ordered.total _ _ c.self.invariant c.args.key c.remove.ensures.loses)

pub returns-in_default-clause-map : goal.returns-in_default-clause-map
returns-in_default-clause-map g c =
    rw (← c.self.view_is) (entry_removed g.met.K.Ordered.total _ _ c.self.invariant c.args.key c.args.at c.remove.ensures.loses c.in_default.is).map

-- the entry put in where there is room for one more
pub insert-requires : goal.insert-requires
insert-requires g c = record { room = room_left g.met.K.Ordered.total _ _ c.self.invariant c.args.key c.if-self.true }

pub invariant_of-self-then-self : goal.invariant_of-self-then-self
invariant_of-self-then-self g c =
    (entry_added g.met.K.Ordered.total _ _ c.self.invariant c.args.key c.args.at _
    (less_than g.met.K.Ordered.total _ _ c.self.invariant c.args.key c.if-self.true) c.insert.ensures.gains c.in-Some.is).kept

pub returns-then-self-clause-former : goal.returns-then-self-clause-former
returns-then-self-clause-former g c =
    rw (← c.self.view_is)
    (former_before g.met.K.Ordered.total _ _ c.self.invariant c.args.key
    (less_than g.met.K.Ordered.total _ _ c.self.invariant c.args.key c.if-self.true) c.insert.ensures.gains)

pub returns-then-self-clause-map : goal.returns-then-self-clause-map
returns-then-self-clause-map g c =
    rw (← c.self.view_is)
    (entry_added g.met.K.Ordered.total _ _ c.self.invariant c.args.key c.args.at _
    (less_than g.met.K.Ordered.total _ _ c.self.invariant c.args.key c.if-self.true) c.insert.ensures.gains c.in-Some.is).map

-- a full map has the key
pub returns-in_default-find-clause-former : goal.returns-in_default-find-clause-former
returns-in_default-find-clause-former g c =
    absurd (not_full g.met.K.Ordered.total _ _ c.self.invariant c.args.key c.args.at _ c.self.view_is c.requires.room _
    c.in_default-find.ensures.locates c.in-Some.is c.if-self.false)

pub returns-in_default-find-clause-map : goal.returns-in_default-find-clause-map
returns-in_default-find-clause-map g c =
    absurd (not_full g.met.K.Ordered.total _ _ c.self.invariant c.args.key c.args.at _ c.self.view_is c.requires.room _
    c.in_default-find.ensures.locates c.in-Some.is c.if-self.false)

-- and another value under it
pub invariant_of-self-2 : goal.invariant_of-self-2
invariant_of-self-2 g c =
    (entry_changed g.met.K.Ordered.total _ _ c.self.invariant c.args.key c.args.at _ c.in-Some-find.ensures.locates
    c.change.ensures.changes c.in-Some.is).kept

pub returns-clause-former : goal.returns-clause-former
returns-clause-former g c = rw (← c.self.view_is) (former_some g.met.K.Ordered.total _ _ c.self.invariant c.args.key c.in-Some-find.ensures.locates)

pub returns-clause-map : goal.returns-clause-map
returns-clause-map g c = rw (← c.self.view_is)
    (entry_changed g.met.K.Ordered.total _ _ c.self.invariant c.args.key c.args.at _ c.in-Some-find.ensures.locates
    c.change.ensures.changes c.in-Some.is).map
