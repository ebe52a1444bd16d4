use Rattle.std.specs.Prelude.{◌≡◌, Option, Some, None, IfSome, box_value}
use Rattle.std.specs.Option.{option_map}
use Rattle.std.proofs.Common.{◌∙◌, ap, subst, sym}
use Rattle.pfl_timeline.specs.Histories.{History}
use Rattle.pfl_timeline.specs.Kept.{rooted}
use Rattle.pfl_timeline.proofs.Giving.{gave-nothing, gave-restored}
use Rattle.pfl_timeline.proofs.branch.Branch.restore.Goals as goal

pub returns-in-Some : goal.returns-in-Some
returns-in-Some g c =
    let former : option_map box_value c.self.inside.former ≡ Some c.in-Some.former.value =
    ap (option_map box_value) (sym c.take.ensures.value ∙ c.in-Some.is) in
    let begins = subst (λ (o : Option History). IfSome o (λ f. f.opening ≡ c.self.inside.history.value.opening)) former c.self.invariant.one_opening in
    record {
      gave = gave-restored c.self.inside.name c.self.inside.history.value c.in-Some.former.value (option_map box_value c.self.inside.former) c.args.self.now _ _
          c.self.view_is former begins
          (ap (λ (o : Option _). rooted c.self.inside.name c.in-Some.former.value (option_map box_value o)) c.take.ensures.after) c.cursor.ensures.cursor;
    }

pub returns-in-None : goal.returns-in-None
returns-in-None g c =
    record {
      gave = gave-nothing c.self.inside.name c.self.inside.history.value (option_map box_value c.self.inside.former) c.args.self.now _ c.self.view_is
          (ap (option_map box_value) (sym c.take.ensures.value ∙ c.in-None.is))
          (ap (λ (o : Option _). rooted c.self.inside.name c.self.inside.history.value (option_map box_value o)) c.take.ensures.after);
    }
