use Rattle.std.proofs.Common.{sym, ◌∙◌, ap}
use Rattle.std.specs.Prelude.{if◌then◌else◌}
use Rattle.pfl_session.specs.Listings.{most_places, takes_out}
use Rattle.pfl_session.proofs.Telling.{events-found}
use Rattle.pfl_session.proofs.room.most_places.Goals as goal

pub returns-in-On : goal.returns-in-On
returns-in-On g c =
    c.most_listed.ensures
    ∙ (ap (λ n. if takes_out c.in-On.ask then n else 0) (events-found c.args.timeline.now _ _ c.branches.ensures.branches)
    ∙ ap (most_places c.args.timeline.now) (sym c.in-On.is))
