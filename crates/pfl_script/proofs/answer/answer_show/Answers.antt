use Rattle.std.proofs.Common.{ap, sym, subst, take, refl}
use Rattle.std.specs.Io.KnownBytes.{Appends}
use Rattle.pfl_timeline.specs.Memory.{is_refusal}
use Rattle.pfl_timeline.specs.Replies.{Replied, Reply}
use Rattle.pfl_timeline.specs.Rooted.{shown}
use Rattle.pfl_script.specs.Replies.{reply_text}
use Rattle.pfl_script.proofs.Wanting.{refusal-wants-none, where-none}
use Rattle.pfl_script.proofs.Showing.{of-shown, ok-shown, err-shown}
use Rattle.pfl_script.proofs.answer.answer_show.Goals as goal

pub returns-in-Ok-clause-whole : goal.returns-in-Ok-clause-whole
returns-in-Ok-clause-whole g c =
    ok-shown (shown c.in-Ok.branch.now) _ _ _ c.write_shown.result (λ world is whole.
    subst (λ (r : Reply). Appends (g.W.Output.written c.args.writer.now) (g.W.Output.written c.write_shown.new.writer) (reply_text r))
    (sym (ap (λ r. r.reply) is)) whole)
    c.in-Ok.ensures.branch c.write_shown.ensures.whole

pub returns-in-Ok-clause-still : goal.returns-in-Ok-clause-still
returns-in-Ok-clause-still g c = of-shown (shown c.in-Ok.branch.now) _ _ (λ world is. ap (λ r. r.timeline) is) c.in-Ok.ensures.branch

pub returns-in-Ok-clause-part : goal.returns-in-Ok-clause-part
returns-in-Ok-clause-part g c =
    err-shown (shown c.in-Ok.branch.now) _ _ _ c.write_shown.result (λ world is part. (
      part.0,
      subst (λ (r : Reply). Appends (g.W.Output.written c.args.writer.now) (g.W.Output.written c.write_shown.new.writer)
          (take part.0 (reply_text r))) (sym (ap (λ r. r.reply) is)) part.1,
    ))
    c.in-Ok.ensures.branch c.write_shown.ensures.part

-- what is shown is no refusal
pub returns-in-Ok-clause-memory : goal.returns-in-Ok-clause-memory
returns-in-Ok-clause-memory g c =
    where-none _ c.write_shown.result (of-shown (shown c.in-Ok.branch.now) _ _
    (λ world is. record { makes = refl; not_refused = ap (λ (r : Replied). is_refusal r.reply) is }) c.in-Ok.ensures.branch)

pub returns-in-Err-clause-memory : goal.returns-in-Err-clause-memory
returns-in-Err-clause-memory g c = refusal-wants-none _ c.write_reply.result _ c.in-Err.why refl c.write_reply.ensures.memory
