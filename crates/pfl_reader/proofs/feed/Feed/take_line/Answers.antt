use Rattle.std.proofs.Common.{arith}
use Rattle.std.proofs.lemmas.Bool.{eq-eqb, eqb-true}
use Rattle.pfl_reader.proofs.Whole.{TakesLine-whole, waits-within}
use Rattle.pfl_reader.proofs.feed.Feed.take_line.Goals as goal

pub returns-clause-line : goal.returns-clause-line
returns-clause-line g c =
    let found = c.in_ok-found.ensures in
    let within = waits-within c.self.inside.block c.self.inside.start c.self.inside.end c.in_ok-found.found found.0.high in
    rw (← c.self.view_is) (record {
      line = TakesLine-whole c.self.inside.block c.self.inside.start c.self.inside.end c.in_ok-found.found c.body_len-len.result _
          found.0.high c.body_len-len.ensures.within (eqb-true _ _ found.1)
          (λ j l e. found.0.before j (omega arith) l (eq-eqb _ _ e)) c.body_len-len.ensures.body;
      less = omega (arith, within);
    })
