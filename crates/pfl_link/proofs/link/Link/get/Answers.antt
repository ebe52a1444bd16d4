use Rattle.std.proofs.Common.{◌∙◌, ap, Some, None}
use Rattle.pfl_link.proofs.Setting.{get_frame}
use Rattle.pfl_link.proofs.link.Link.get.Goals as goal

pub returns-in-Some : goal.returns-in-Some
returns-in-Some g c = rw (← c.self.view_is)
    (record {
      frame = ap Some c.frame.ensures.frame
          ∙ get_frame c.self.inside.rows.list c.args.ticket (Some c.in-Some.row.now) c.in-Some.ensures.found;
    })

pub returns-in-None : goal.returns-in-None
returns-in-None g c = rw (← c.self.view_is) (record { frame = get_frame c.self.inside.rows.list c.args.ticket None c.in-None.ensures.found })
