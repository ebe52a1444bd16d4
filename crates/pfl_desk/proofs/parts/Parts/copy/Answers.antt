use Rattle.pfl_desk.proofs.parts.Parts.copy.Goals as goal

pub returns : goal.returns
returns g c =
    record {
      same = rw (c.in_ok-copy.ensures.same, c.in_ok-copy-2.ensures.same, c.in_ok-copy-3.ensures.same, c.in_ok-copy-4.ensures.same) c.self.view_is;
    }
