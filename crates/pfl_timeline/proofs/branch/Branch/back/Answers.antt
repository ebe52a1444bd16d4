use Rattle.std.specs.Prelude.{◌-◌, box_value}
use Rattle.std.specs.Option.{option_map}
use Rattle.std.proofs.Common.{◌∙◌, ap}
use Rattle.pfl_timeline.specs.Histories.{History}
use Rattle.pfl_timeline.specs.inner.Histories.{standing_at}
use Rattle.pfl_timeline.proofs.Giving.{gave-back, gave-not_back, moved-to}
use Rattle.pfl_timeline.proofs.branch.Branch.back.Goals as goal

pub returns-then-cursor-n : goal.returns-then-cursor-n
returns-then-cursor-n g c = record { gave = gave-not_back c.args.self.now c.args.n _ c.cursor-cursor.ensures.cursor c.if-cursor-n.true }

pub returns : goal.returns
returns g c =
    let k = c.cursor-cursor.result - c.args.n in
    record {
      gave = gave-back c.args.self.now _ c.args.n _ c.cursor-cursor.ensures.cursor c.if-cursor-n.false
          (moved-to c.self.inside.name c.self.inside.history.value c.take_back_to.new.self (option_map box_value c.self.inside.former) c.args.self.now k
          c.self.view_is (c.take_back_to.ensures.history ∙ ap (λ (h : History). standing_at h k) c.deref_mut.ensures.value));
    }
