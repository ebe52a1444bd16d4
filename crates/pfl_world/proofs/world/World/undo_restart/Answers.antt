use Rattle.std.proofs.Common.{ap, sym, subst}
use Rattle.pfl_world.specs.WorldEdits.{with_boot}
use Rattle.pfl_world.specs.Worlds.{World, PartsAgree}
use Rattle.pfl_world.proofs.world.World.undo_restart.Goals as goal

pub invariant_of-self : goal.invariant_of-self
invariant_of-self g c =
    rw (c.replace-anew.ensures.after, c.into_former.ensures.former, c.node-node.ensures.node, c.boot-boot.ensures.boot)
    (subst (λ (v : World). PartsAgree (with_boot v c.args.edit.node c.args.edit.former c.args.edit.boot)) (sym c.self.view_is) c.requires.allowed.parts)

pub returns : goal.returns
returns g c =
    record {
      undone = rw (c.replace-anew.ensures.after, c.into_former.ensures.former, c.node-node.ensures.node, c.boot-boot.ensures.boot)
          (ap (λ (v : World). with_boot v c.args.edit.node c.args.edit.former c.args.edit.boot) c.self.view_is);
    }
