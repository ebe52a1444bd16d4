use Rattle.std.proofs.Common.{◌∙◌}
use Rattle.pfl_link.proofs.Setting.{len_frames}
use Rattle.pfl_link.proofs.link.Link.len.Goals as goal

pub returns : goal.returns
returns g c = rw (← c.self.view_is) (record { len = c.len.ensures.map ∙ len_frames c.self.inside.rows.list })
