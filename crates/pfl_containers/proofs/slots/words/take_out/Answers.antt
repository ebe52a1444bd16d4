use Rattle.std.proofs.Common.{◌∙◌}
use Rattle.pfl_containers.proofs.SlotEntries.{stands, free-taken, words-taken, map-less}
use Rattle.pfl_containers.proofs.slots.words.take_out.Goals as goal

pub place_of-place-requires : goal.place_of-place-requires
place_of-place-requires c = rw c.home_of.ensures.home (record { stands = stands c.args.words.now c.requires.words c.args.slot c.args.tag c.requires.stands })

pub close_gap-requires-clause-free : goal.close_gap-requires-clause-free
close_gap-requires-clause-free c =
    free-taken c.args.words.now c.requires.words c.args.slot _ _ c.place_of-place.ensures.here.1 c.free.result c.free.ensures.free

pub close_gap-requires-clause-words : goal.close_gap-requires-clause-words
close_gap-requires-clause-words c =
    words-taken c.args.words.now c.requires.words c.args.slot _ _ c.place_of-place.ensures.here.1 c.free.result c.free.ensures.free

pub returns-clause-map : goal.returns-clause-map
returns-clause-map c = c.close_gap.ensures.map
    ∙ map-less c.args.words.now c.requires.words c.args.slot _ _ c.place_of-place.ensures.here.1 c.free.result c.free.ensures.free
