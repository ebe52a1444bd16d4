use Rattle.pfl_queue.proofs.Naming.{tag-place, slot-found}
use Rattle.pfl_queue.proofs.marked.slot_of.Goals as goal

pub find-requires : goal.find-requires
find-requires g c = record { callable = λ slot has. tag-place c.args.queues.now c.args.names.now.tags c.requires.tagged slot c.tag.result has }

pub returns : goal.returns
returns g c = record {
  slot = slot-found c.args.queues.now c.args.names.now.tags c.requires.tagged c.args.name c.tag.result c.find.result
      c.tag.ensures.tag c.find.ensures.found;
}
