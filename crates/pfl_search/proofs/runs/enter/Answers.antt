use Rattle.std.specs.Prelude.{◌≡◌, slice_get, Some, refl}
use Rattle.std.proofs.Common.{sym, subst}
use Rattle.pfl_search.proofs.Turning.{get_read, used-is}
use Rattle.pfl_language.specs.declared.choice.Choice.{Choice}
use Rattle.pfl_search.proofs.runs.enter.Goals as goal

pub returns-in-Ok-clause-enters : goal.returns-in-Ok-clause-enters
returns-in-Ok-clause-enters g c =
    let cs = c.args.choices.now in
    let place = c.args.turn.now.place in
    let read = get_read cs place c.requires.turn.choice c.index-choices-turn.result c.requires.turn.at c.index-choices-turn.is in
    record {
      gives = record { world = c.apply_on.new.self; outcome = c.in-Ok.field-0 };
      accepted = c.in-Ok.ensures.step;
      world = refl;
      choices = used-is cs place c.index-choices-turn.result (subst (λ (d : Choice). slice_get cs place ≡ Some d) (sym read) c.requires.turn.at);
      taped = c.in-Ok.ensures.taped;
      fits = c.in-Ok.ensures.fits;
      leads_back = c.in-Ok.ensures.back;
    }
