use Rattle.std.proofs.Common.{◌≡◌, ◌+◌, ◌-◌, ◌<◌, ◌≤◌, ℕ, Some, None, true, false, ◌∙◌, ap, arith}
use Rattle.std.specs.Prelude.{nat_lt, if◌then◌else◌}
use Rattle.std.proofs.lemmas.Bool.Decides.{nat_tests}
use Rattle.pfl_base.specs.declared.refusal.Refusal.TheVariants.{ClockFull}
use Rattle.pfl_language.specs.declared.node_event.NodeOutcome.TheVariants.{Clock}
use Rattle.pfl_receive.specs.desk.Nodes.{is_overcounted, last_millisecond, Node}
use Rattle.pfl_node.proofs.Judged.{at-once}
use Rattle.pfl_node.proofs.tick.tick.Goals as goal

late : (last clock ms : ℕ) → last - clock < ms → nat_lt last (clock + ms) ≡ true
late last clock ms h = grind (arith, nat_tests)

early : (last clock ms : ℕ) → clock ≤ last → ms ≤ last - clock → nat_lt last (clock + ms) ≡ false
early last clock ms within h = grind (arith, nat_tests)

pub returns-then-now-ms : goal.returns-then-now-ms
returns-then-now-ms g c =
    let n = c.args.desk.now.node in
    let clock = (c.clock-now.ensures.clock ∙ ap (λ (k : Node). k.clock) c.parts.ensures.parts) in
    at-once _ _ _ _ c.args.desk.now ClockFull
    (ap (λ b. if b then Some ClockFull else None) (late last_millisecond n.clock c.args.ms (omega (arith, clock))))

pub returns : goal.returns
returns g c =
    let n = c.args.desk.now.node in
    let clock : c.clock-now.result ≡ n.clock = (c.clock-now.ensures.clock ∙ ap (λ (k : Node). k.clock) c.parts.ensures.parts) in
    let within = c.requires.idle.node.parts.clock in
    record {
      refused = tt;
      not_refused = ap (λ b. if b then Some ClockFull else None) (early last_millisecond n.clock c.args.ms within (omega (arith, clock)));
      node = c.set_clock.ensures.node ∙ ap (λ (k : ℕ). record n { clock = k + c.args.ms }) clock;
      answer = ap (λ (k : ℕ). Clock (k + c.args.ms)) clock;
      counted = ap is_overcounted c.set_clock.ensures.node ∙ c.requires.idle.node.counted;
      writes = c.set_clock.ensures.writes;
    }
