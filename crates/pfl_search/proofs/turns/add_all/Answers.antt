use Rattle.std.specs.Prelude.{◌<◌, ◌≤◌, length}
use Rattle.std.proofs.Common.{◌∙◌, arith}
use Rattle.pfl_search.proofs.Turning.{turns_all, turns_more}
use Rattle.pfl_search.proofs.turns.add_all.Goals as goal

pub loop-place-preserved : goal.loop-place-preserved
loop-place-preserved g c =
    let within : c.loop-place.place < length c.args.choices.now = omega arith in
    turns_more c.args.last c.args.begun c.args.world.now c.args.choices.now c.loop-place.place c.index-choices-place.result
    c.loop-place.turns.items c.add_choice.new.turns.items within c.index-choices-place.is c.in_ok-add_choice.ensures
    ∙ c.loop-place.invariant

pub returns : goal.returns
returns g c =
    let past : length c.args.choices.now ≤ c.loop-place.place = omega arith in
    turns_all c.args.last c.args.begun c.args.world.now c.args.choices.now c.loop-place.place c.args.turns.now.items c.loop-place.turns.items past c.loop-place.invariant
