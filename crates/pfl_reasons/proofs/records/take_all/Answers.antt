use Rattle.std.proofs.Common.{◌≡◌, ◌++◌, ◌∷◌, [], rules}
use Rattle.pfl_wire.specs.Frames.{records_of}
use Rattle.pfl_reasons.proofs.Fated.{fated-all, fated-first, fated-more}
use Rattle.pfl_reasons.proofs.records.take_all.Goals as goal

pub loop-message-init : goal.loop-message-init
loop-message-init g c =
    rw (c.into_iter-message-iterator.ensures.into_iter_gives, c.records-message-items.ensures, c.new-list.ensures.items, c.requires.empty)
    (fated-first c.args.world.now c.args.to c.args.frame.now.print (records_of c.args.frame.now))

pub loop-message-preserved : goal.loop-message-preserved
loop-message-preserved g c =
    let ends = c.in_ok-fate.ensures in
    let pushed : c.push.new.self.items ≡ c.loop-message.list.items ++ record { message = c.in-Some.message; fate = c.in_ok-fate.fate } ∷ [] = search rules in
    rw pushed
    (fated-more c.records_leave_the_rest.ensures _ _ _ _ _ _ _ _ c.loop-message.invariant c.in-Some.message _ c.in-Some.ensures.steps
    c.take_next.new.world (rw c.print.ensures at ends.world) c.in_ok-fate.fate (rw c.print.ensures at ends.fate)
    c.take_next.new.tape.list ends.taped ends.fits ends.back)

pub returns-clause-fates : goal.returns-clause-fates
returns-clause-fates g c = fated-all _ _ _ _ _ _ _ _ c.loop-message.invariant c.in-None.ensures.steps.0
