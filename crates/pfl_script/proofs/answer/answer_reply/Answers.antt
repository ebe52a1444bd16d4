use Rattle.std.proofs.Common.{take, ap, sym, subst}
use Rattle.pfl_timeline.proofs.ForCallers.{listing-keeps, listing-wants}
use Rattle.std.specs.Io.KnownBytes.{Appends}
use Rattle.std.proofs.lemmas.Result.{IfErr-weaker}
use Rattle.pfl_script.proofs.Pieces.{any-ok}
use Rattle.pfl_timeline.specs.Replies.{Reply}
use Rattle.pfl_script.specs.Replies.{reply_text}
use Rattle.pfl_script.proofs.answer.answer_reply.Goals as goal

pub returns-clause-timeline : goal.returns-clause-timeline
returns-clause-timeline g c = any-ok c.write_reply.result _ (sym (ap (λ r. r.timeline) c.in-Ok.ensures.step))

pub returns-clause-breaks : goal.returns-clause-breaks
returns-clause-breaks g c = IfErr-weaker c.write_reply.result _ _ (λ _ part _.
    let reply = sym (ap (λ r. r.reply) c.in-Ok.ensures.step) in (
      sym (ap (λ r. r.timeline) c.in-Ok.ensures.step),
      (
        part.0,
        subst (λ (r : Reply). Appends (g.W.Output.written c.args.writer.now) (g.W.Output.written c.write_reply.new.writer)
            (take part.0 (reply_text r))) reply part.1,
      ),
    )) c.write_reply.ensures.part

-- a command whose reply takes memory has changed nothing
pub returns-clause-unchanged : goal.returns-clause-unchanged
returns-clause-unchanged g c =
    IfErr-weaker c.write_reply.result _ _ (λ _ memory none. listing-keeps _ _ _ _ c.in-Ok.ensures.step (memory none)) c.write_reply.ensures.memory

-- ... and makes something that nothing refuses
pub returns-clause-memory : goal.returns-clause-memory
returns-clause-memory g c =
    IfErr-weaker c.write_reply.result _ _ (λ _ memory none. listing-wants _ _ _ _ c.in-Ok.ensures.step (memory none)) c.write_reply.ensures.memory
