use Rattle.pfl_serve.specs.Seats.{site_of}
use Rattle.pfl_serve.proofs.Broken.{Asks, breaks-asked, whole-asked}
use Rattle.pfl_serve.proofs.serving.Serving.answer_command.Goals as goal

-- the answer was written whole
pub returns-clause-whole : goal.returns-clause-whole
returns-clause-whole g c =
    let e = c.ask-asked.ensures in
    let asks : Asks (site_of g.J.Which) c.args.pass.now c.ask-asked.new.pass c.args.command c.ask-asked.result = record {
      goes_on = e.goes_on;
      journal = e.journal;
      own = e.counted;
      called = e.called;
      one_more = e.one_more;
      refused = e.refused;
      not_called = e.not_called;
      no_more = e.no_more;
    } in
    whole-asked (site_of g.J.Which) _ _ _ c.ask-asked.result asks c.write_asked.result g.W.Output.written c.args.writer.now c.write_asked.new.writer
    c.write_asked.ensures.answered c.write_asked.ensures.whole

-- ... or not
pub returns-clause-breaks : goal.returns-clause-breaks
returns-clause-breaks g c =
    let e = c.ask-asked.ensures in
    let asks : Asks (site_of g.J.Which) c.args.pass.now c.ask-asked.new.pass c.args.command c.ask-asked.result = record {
      goes_on = e.goes_on;
      journal = e.journal;
      own = e.counted;
      called = e.called;
      one_more = e.one_more;
      refused = e.refused;
      not_called = e.not_called;
      no_more = e.no_more;
    } in
    breaks-asked (site_of g.J.Which) _ _ _ c.ask-asked.result asks c.write_asked.result g.W.Output.written c.args.writer.now c.write_asked.new.writer _
    c.write_asked.ensures.fault c.write_asked.ensures.begun c.write_asked.ensures.part c.write_asked.ensures.untouched c.write_asked.ensures.memory
