use Rattle.std.proofs.Common.{◌∙◌, length, refl, ap, length-append}
use Rattle.pfl_containers.proofs.RingNodes.{grows-others}
use Rattle.pfl_containers.proofs.chains.rings.Rings.grow.Goals as goal

pub returns-clause-grown : goal.returns-clause-grown
returns-clause-grown g c =
    let items = rw c.unwrap.ensures at c.push.ensures.items in
    record {
      limit = refl;
      used = ap length items ∙ length-append c.args.self.now.nodes.items _;
      heads = refl;
      room = c.push.ensures.capacity;
      others = grows-others _ _ _ refl items refl;
    }
