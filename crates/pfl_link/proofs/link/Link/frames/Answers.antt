use Rattle.std.proofs.Common.{sym, ◌∙◌, ap, map}
use Rattle.pfl_link.specs.Framed.{entry_of}
use Rattle.pfl_link.proofs.Framed.{entries-frames_of}
use Rattle.pfl_link.proofs.link.Link.frames.Goals as goal

pub returns : goal.returns
returns g c = rw (← c.self.view_is)
    (record {
      frames = ap (map entry_of) (c.of.ensures.entries ∙ c.as_slice.ensures.rows)
          ∙ sym (entries-frames_of c.self.inside.rows.list c.as_slice.ensures.ordered.rising);
    })
