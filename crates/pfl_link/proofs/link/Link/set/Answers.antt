use Rattle.std.proofs.Common.{◌∙◌}
use Rattle.pfl_link.proofs.Setting.{set_room, set_kept, set_link, get_frame}
use Rattle.pfl_link.proofs.link.Link.set.Goals as goal

pub set-requires-clause-room : goal.set-requires-clause-room
set-requires-clause-room g c =
    set_room _ _ _ c.self.inside.rows c.self.invariant _ c.self.view_is c.args.ticket c.row_of.result c.args.at c.row_of.ensures.frame
    c.args.next c.requires.kept

pub invariant_of-self : goal.invariant_of-self
invariant_of-self g c =
    set_kept _ _ _ c.self.inside.rows c.self.invariant _ c.self.view_is c.args.ticket c.row_of.result c.args.at c.row_of.ensures.frame
    c.args.next c.requires.kept _ c.set.ensures.map c.set.ensures.limit

pub returns-clause-former : goal.returns-clause-former
returns-clause-former g c = rw (← c.self.view_is) (c.frame_of.ensures.frame ∙ get_frame c.self.inside.rows.list c.args.ticket c.set.result c.set.ensures.former)

pub returns-clause-link : goal.returns-clause-link
returns-clause-link g c =
    set_link _ _ _ c.self.inside.rows c.self.invariant _ c.self.view_is c.args.ticket c.row_of.result c.args.at c.row_of.ensures.frame
    c.args.next c.requires.kept _ c.set.ensures.map c.set.ensures.limit
