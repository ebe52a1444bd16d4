use Rattle.std.proofs.Common.{refl}
use Rattle.pfl_receive.proofs.Importing.{imported-so}
use Rattle.pfl_receive.proofs.import.import_decision.Goals as goal

pub returns-in-None-clause-may : goal.returns-in-None-clause-may
returns-in-None-clause-may g c = imported-so c.args.parts.now c.args.same_rules c.args.sent.now c.import_fault.result c.imported.result c.args.ack_wanted _
    c.import_fault.ensures.parts c.import_fault.ensures.fault c.in-None.is c.imported.ensures.state c.imported.ensures.known
    c.imported.ensures.past c.imported.ensures.ahead refl
