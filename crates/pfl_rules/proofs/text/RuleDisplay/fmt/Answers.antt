use Rattle.std.proofs.Common.{append_assoc, [], ◌∷◌}
use Rattle.std.specs.Prelude.{codes}
use Rattle.std.specs.List.{zip}
use Rattle.std.proofs.Output.{has_written_of_eq}
use Rattle.pfl_base.specs.Classes.{classes}
use Rattle.pfl_rules.proofs.Lines.{line_of, marked, timeouts_spaced}
use Rattle.pfl_rules.proofs.text.RuleDisplay.fmt.Goals as goal

pub returns-clause-writes : goal.returns-clause-writes
returns-clause-writes g c plain done =
    let r = c.args.self.now in
    has_written_of_eq _ _ _ _ _
    (simp append_assoc
    (line_of _ _ _ _ _ _ _ _ _ _ _ _ _ _ _ _ _ _ _ _ _ _ _ _ _ _
    (marked r.quick (codes "quick" ∷ []))
    c.proto-proto.ensures c.net-from.ensures c.ports-from_port.ensures c.net-to.ensures c.ports-to_port.ensures
    (marked r.any_flags (codes "flags" ∷ codes "any" ∷ []))
    (marked r.no_sync (codes "no-sync" ∷ []))
    c.number-max.ensures c.pool-nat.ensures c.pool-rdr.ensures
    (timeouts_spaced (zip classes r.timeouts))))
    (c.write.ensures.writes plain done)
