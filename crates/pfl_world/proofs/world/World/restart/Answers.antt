use Rattle.std.proofs.Common.{◌∙◌, sym}
use Rattle.pfl_world.proofs.Restarted.{restart_step-begun, restart_out, is_left}
use Rattle.pfl_world.proofs.Tickets.{wanted_memory}
use Rattle.std.specs.Prelude.{refl}
use Rattle.pfl_world.proofs.world.World.restart.Goals as goal

pub returns-then-is_booted_out-clause-refused : goal.returns-then-is_booted_out-clause-refused
returns-then-is_booted_out-clause-refused g c = restart_out c.args.self.now c.args.node (sym c.is_booted_out.ensures.counted ∙ c.if-is_booted_out.true)

pub begin_anew-requires : goal.begin_anew-requires
begin_anew-requires g c = record { countable = is_left c.args.self.now.next_boot (sym c.is_booted_out.ensures.counted ∙ c.if-is_booted_out.false) }

pub returns-in-Err-clause-refused : goal.returns-in-Err-clause-refused
returns-in-Err-clause-refused g c =
    wanted_memory _ _ _ (restart_step-begun c.args.self.now c.args.node (sym c.is_booted_out.ensures.counted ∙ c.if-is_booted_out.false)) refl

pub returns-in-Ok-clause-step : goal.returns-in-Ok-clause-step
returns-in-Ok-clause-step g c =
    rw (c.in-Ok.ensures.world, c.next_boot-boot.ensures.boot)
    (restart_step-begun c.args.self.now c.args.node (sym c.is_booted_out.ensures.counted ∙ c.if-is_booted_out.false))
