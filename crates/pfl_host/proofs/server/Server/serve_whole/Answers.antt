use Rattle.std.proofs.Common.{inr}
use Rattle.std.proofs.lemmas.Result.{IfOk-weaker, IfErr-weaker}
use Rattle.pfl_host.proofs.server.Server.serve_whole.Goals as goal

pub returns-in-Ok-clause-serves : goal.returns-in-Ok-clause-serves
returns-in-Ok-clause-serves g c =
    IfOk-weaker c.serve_pair.result _ _
    (λ outcome whole. record { number = _; base = _; sets_up = c.in-Ok.ensures.sets_up; whole = whole }) c.serve_pair.ensures.serves

pub returns-in-Ok-clause-stop : goal.returns-in-Ok-clause-stop
returns-in-Ok-clause-stop g c =
    IfErr-weaker c.serve_pair.result _ _
    (λ why stop. inr (record { mid = _; number = _; base = _; sets_up = c.in-Ok.ensures.sets_up; stop = stop })) c.serve_pair.ensures.stop
