-- A history, a branch and a timeline as nested pairs, by which the logic distinguishes two of them. It says nothing of them.
use Rattle.std.specs.Prelude.{ℕ, List, Option, refl}
use Rattle.std.specs.Coded.{Coded, code_by, coded×, coded_ℕ, coded_list, coded_option}
use Rattle.pfl_language.specs.declared.event.Event.{Event}
use Rattle.pfl_language.specs.contracts.event.Event as event_type
use Rattle.pfl_search.specs.world.Codes.{coded_world}
use Rattle.pfl_search.specs.world.Worlds.{World}
use Rattle.pfl_timeline.specs.Histories.{History}
use Rattle.pfl_timeline.specs.Rooted.{Rooted}
use Rattle.pfl_timeline.specs.Timelines.{Former, Branch, Timeline}

abbrev coded_events : Coded (List Event)
coded_events = coded_list event_type.the_row.coded

abbrev coded_former : Coded Former
coded_former = code_by (List Event × ℕ) (coded× coded_events coded_ℕ) (λ f. (f.events, f.cursor)) (λ p. record { events = p.0; cursor = p.1 }) (λ _. refl)

abbrev coded_branch : Coded Branch
coded_branch =
    code_by (List ℕ × (List Event × (ℕ × Option Former))) (coded× (coded_list coded_ℕ) (coded× coded_events (coded× coded_ℕ (coded_option coded_former))))
    (λ b. (b.name, (b.events, (b.cursor, b.former)))) (λ p. record { name = p.0; events = p.1.0; cursor = p.1.1.0; former = p.1.1.1 }) (λ _. refl)

abbrev pub coded_history : Coded History
coded_history = code_by (World × (List Event × ℕ)) (coded× coded_world (coded× coded_events coded_ℕ))
    (λ h. (h.opening, (h.events, h.cursor))) (λ p. record { opening = p.0; events = p.1.0; cursor = p.1.1 }) (λ _. refl)

abbrev pub coded_rooted : Coded Rooted
coded_rooted = code_by (World × Branch) (coded× coded_world coded_branch) (λ r. (r.opening, r.branch)) (λ p. record { opening = p.0; branch = p.1 }) (λ _. refl)

abbrev pub coded_timeline : Coded Timeline
coded_timeline = code_by (World × List Branch) (coded× coded_world (coded_list coded_branch)) (λ t. (t.opening, t.branches))
    (λ p. record { opening = p.0; branches = p.1 }) (λ _. refl)
