use Rattle.std.proofs.Common.{◌∙◌, sym, arith}
use Rattle.pfl_containers.proofs.SlotSpread.{put-new, put-room}
use Rattle.pfl_containers.proofs.slots.growth.put_all.Goals as goal

pub put-requires-clause-new : goal.put-requires-clause-new
put-requires-clause-new g c =
    let is = sym c.entry.ensures.entry ∙ c.in-Some-entry.is in
    put-new c.loop-word.invariant.put c.pop.new.self.items c.in-Some.word c.in-Some.ensures.items c.in-Some-entry.slot c.in-Some-entry.tag
    is c.requires.distinct

pub put-requires-clause-room : goal.put-requires-clause-room
put-requires-clause-room g c = omega (arith, put-room c.loop-word.invariant.put, c.requires.room)
