use Rattle.pfl_run.proofs.Runs.{stops_engine, device_engine}
use Rattle.pfl_run.proofs.run.run_whole.Goals as goal

pub returns-in-Ok-clause-stop : goal.returns-in-Ok-clause-stop
returns-in-Ok-clause-stop g c =
    rw c.from.ensures (stops_engine c.in-Err-run_lines.fault _ _ c.run_lines.new.reader.left _ _ c.run_lines.new.timeline _ _
    c.in-Ok.ensures.sets_up c.in-Err-run_lines.ensures.until)

pub returns-in-Ok-clause-device : goal.returns-in-Ok-clause-device
returns-in-Ok-clause-device g c =
    rw c.from.ensures (device_engine c.in-Err-run_lines.fault c.run_lines.new.reader
    (g.W.Output.has_failed c.run_lines.new.writer) c.in-Err-run_lines.ensures.fault)
