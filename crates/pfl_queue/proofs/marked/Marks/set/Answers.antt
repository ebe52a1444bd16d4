use Rattle.std.proofs.Common.{◌∙◌, ap, sym}
use Rattle.pfl_edits.specs.Maps.{set_at}
use Rattle.pfl_queue.specs.inner.Marked.{marks_of}
use Rattle.pfl_queue.proofs.Marking.{set-named}
use Rattle.pfl_queue.proofs.marked.Marks.set.Goals as goal

pub insert-requires : goal.insert-requires
insert-requires g c =
    let m = marks_of c.args.self.now.lists in
    let may = set-named m c.args.name c.args.at c.in-Some.mark c.in-Some.is c.requires.keyed c.args.self.now.limit c.requires.room
    c.requires.apart _ c.remove.ensures.marks _ c.remove.ensures.limit in
    record { room = may.room; off = may.off; new = may.new }

pub returns-in-Some : goal.returns-in-Some
returns-in-Some g c =
    let m = marks_of c.args.self.now.lists in
    let may = set-named m c.args.name c.args.at c.in-Some.mark c.in-Some.is c.requires.keyed c.args.self.now.limit c.requires.room
    c.requires.apart _ c.remove.ensures.marks _ c.remove.ensures.limit in
    record { set = c.insert.ensures.marks ∙ may.set; limit = c.insert.ensures.limit ∙ c.remove.ensures.limit }

pub returns-in-None : goal.returns-in-None
returns-in-None g c =
    let m = marks_of c.args.self.now.lists in
    record { set = c.remove.ensures.marks ∙ ap (set_at m c.args.name) (sym c.in-None.is); limit = c.remove.ensures.limit }
