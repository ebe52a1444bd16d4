use Rattle.pfl_containers.proofs.SlotEntries.{place_left, words-put, map-put}
use Rattle.pfl_containers.proofs.slots.words.put.Goals as goal

pub bounds-words-place : goal.bounds-words-place
bounds-words-place c = place_left c.args.words.now c.requires.words c.free_from-place.ensures.free c.home_of.ensures.within c.requires.room

pub returns-clause-words : goal.returns-clause-words
returns-clause-words c =
    let within = place_left c.args.words.now c.requires.words c.free_from-place.ensures.free c.home_of.ensures.within c.requires.room in
    let free = rw c.home_of.ensures.home at c.free_from-place.ensures.free in
    words-put c.args.words.now c.requires.words c.args.slot c.args.tag free within c.requires.new c.requires.small

pub returns-clause-map : goal.returns-clause-map
returns-clause-map c =
    let within = place_left c.args.words.now c.requires.words c.free_from-place.ensures.free c.home_of.ensures.within c.requires.room in
    let free = rw c.home_of.ensures.home at c.free_from-place.ensures.free in
    map-put c.args.words.now c.requires.words c.args.slot c.args.tag free within c.requires.new c.requires.small
