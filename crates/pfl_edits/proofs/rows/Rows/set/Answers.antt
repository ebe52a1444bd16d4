use Rattle.std.proofs.Common.{sym, ◌∙◌, ap, arith, length, get_or}
use Rattle.pfl_edits.proofs.Setting.{former_here, former_gap, row_changed, row_removed, row_added, room_left, row_absent}
use Rattle.pfl_edits.proofs.rows.Rows.set.Goals as goal

-- another row under the key
pub invariant_of-self : goal.invariant_of-self
invariant_of-self g c =
    let k = g.X.Keyed in
    let l = g.met.X.Keyed in
    let set = row_changed l.total l.exact k.key _ c.self.invariant.1.rising c.args.key _ _ c.self.view_is c.args.at c.requires.keyed
    c.requires.room _ c.deref.ensures.value _ c.in-Ok-Some.ensures.place c.replace.new.dest (rw c.replace.ensures.after c.in-Ok-Some.is-1) in
    (c.self.invariant.0, set.kept)

pub returns-in-Ok-Some-clause-former : goal.returns-in-Ok-Some-clause-former
returns-in-Ok-Some-clause-former g c =
    let k = g.X.Keyed in
    let l = g.met.X.Keyed in
    rw (← c.self.view_is) (former_here l.total l.exact k.key _ c.self.invariant.1.rising c.args.key _ c.deref.ensures.value _
    c.in-Ok-Some.ensures.place _ (c.replace.ensures.value
    ∙ (c.index_mut.ensures.value ∙ ap (get_or c.self.inside.rows.items c.in-Ok-Some.place) (sym c.replace.ensures.value))))

pub returns-in-Ok-Some-clause-map : goal.returns-in-Ok-Some-clause-map
returns-in-Ok-Some-clause-map g c =
    let k = g.X.Keyed in
    let l = g.met.X.Keyed in
    let set = row_changed l.total l.exact k.key _ c.self.invariant.1.rising c.args.key _ _ c.self.view_is c.args.at c.requires.keyed
    c.requires.room _ c.deref.ensures.value _ c.in-Ok-Some.ensures.place c.replace.new.dest (rw c.replace.ensures.after c.in-Ok-Some.is-1) in
    rw (← c.self.view_is) set.map

-- the row taken out
pub invariant_of-self-in-Ok-None : goal.invariant_of-self-in-Ok-None
invariant_of-self-in-Ok-None g c =
    let k = g.X.Keyed in
    let l = g.met.X.Keyed in
    let set = row_removed l.total l.exact k.key _ c.self.invariant.1.rising c.args.key _ _ c.self.view_is c.args.at c.requires.keyed
    c.requires.room _ c.deref.ensures.value _ c.in-Ok-None.ensures.place c.in-Ok-None.is-1 _ c.remove.ensures.items in
    (rw c.remove.ensures.capacity c.self.invariant.0, set.kept)

pub returns-in-Ok-None-clause-former : goal.returns-in-Ok-None-clause-former
returns-in-Ok-None-clause-former g c =
    let k = g.X.Keyed in
    let l = g.met.X.Keyed in
    rw (← c.self.view_is) (former_here l.total l.exact k.key _ c.self.invariant.1.rising c.args.key _ c.deref.ensures.value _
    c.in-Ok-None.ensures.place _ c.remove.ensures.value)

pub returns-in-Ok-None-clause-map : goal.returns-in-Ok-None-clause-map
returns-in-Ok-None-clause-map g c =
    let k = g.X.Keyed in
    let l = g.met.X.Keyed in
    let set = row_removed l.total l.exact k.key _ c.self.invariant.1.rising c.args.key _ _ c.self.view_is c.args.at c.requires.keyed
    c.requires.room _ c.deref.ensures.value _ c.in-Ok-None.ensures.place c.in-Ok-None.is-1 _ c.remove.ensures.items in
    rw (← c.self.view_is) set.map

-- a row more
pub unwrap-requires : goal.unwrap-requires
unwrap-requires g c =
    let k = g.X.Keyed in
    let l = g.met.X.Keyed in
    let less = room_left l.total l.exact k.key _ c.self.invariant.1.rising c.args.key _ _ c.self.view_is c.args.at c.requires.keyed
    c.requires.room _ c.deref.ensures.value _ c.in-Err-Some.ensures.place _ c.in-Err-Some.is-1 in
    c.insert.ensures.succeeds (omega (arith, less, c.self.invariant.0, c.deref.ensures.len, ap length c.deref.ensures.value))

pub invariant_of-self-in-Err-Some : goal.invariant_of-self-in-Err-Some
invariant_of-self-in-Err-Some g c =
    let k = g.X.Keyed in
    let l = g.met.X.Keyed in
    let set = row_added l.total l.exact k.key _ c.self.invariant.1.rising c.args.key _ _ c.self.view_is c.args.at c.requires.keyed
    c.requires.room _ c.deref.ensures.value _ c.in-Err-Some.ensures.place _ c.in-Err-Some.is-1 _
    (rw c.unwrap.ensures at c.insert.ensures.items) in
    (omega (arith, c.self.invariant.0, c.insert.ensures.capacity), set.kept)

pub returns-in-Err-Some-clause-former : goal.returns-in-Err-Some-clause-former
returns-in-Err-Some-clause-former g c =
    let k = g.X.Keyed in
    let l = g.met.X.Keyed in
    rw (← c.self.view_is) (former_gap l.total l.exact k.key _ c.self.invariant.1.rising c.args.key _ c.deref.ensures.value _ c.in-Err-Some.ensures.place)

pub returns-in-Err-Some-clause-map : goal.returns-in-Err-Some-clause-map
returns-in-Err-Some-clause-map g c =
    let k = g.X.Keyed in
    let l = g.met.X.Keyed in
    let set = row_added l.total l.exact k.key _ c.self.invariant.1.rising c.args.key _ _ c.self.view_is c.args.at c.requires.keyed
    c.requires.room _ c.deref.ensures.value _ c.in-Err-Some.ensures.place _ c.in-Err-Some.is-1 _
    (rw c.unwrap.ensures at c.insert.ensures.items) in
    rw (← c.self.view_is) set.map

-- nothing stood there, and nothing does
pub returns-in-Err-None-clause-former : goal.returns-in-Err-None-clause-former
returns-in-Err-None-clause-former g c =
    let k = g.X.Keyed in
    let l = g.met.X.Keyed in
    rw (← c.self.view_is) (former_gap l.total l.exact k.key _ c.self.invariant.1.rising c.args.key _ c.deref.ensures.value _ c.in-Err-None.ensures.place)

pub returns-in-Err-None-clause-map : goal.returns-in-Err-None-clause-map
returns-in-Err-None-clause-map g c =
    let k = g.X.Keyed in
    let l = g.met.X.Keyed in
    let same = row_absent l.total l.exact k.key _ c.self.invariant.1.rising c.args.key _ _ c.self.view_is c.args.at c.requires.keyed
    c.requires.room _ c.deref.ensures.value _ c.in-Err-None.ensures.place c.in-Err-None.is-1 in
    rw (← c.self.view_is) same
