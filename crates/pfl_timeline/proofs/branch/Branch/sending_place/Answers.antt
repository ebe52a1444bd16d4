use Rattle.std.specs.Prelude.{◌≡◌, ◌+◌, ◌-◌, ℕ, List}
use Rattle.std.proofs.Common.{◌∙◌, ap, arith}
use Rattle.pfl_language.specs.declared.event.Event.{Event}
use Rattle.pfl_search.specs.world.link.Links.{Link}
use Rattle.pfl_reasons.specs.Senders.{senders, sending_place}
use Rattle.pfl_timeline.specs.Timelines.{standing}
use Rattle.pfl_timeline.proofs.Traces.{next-ticket, standing-senders}
use Rattle.pfl_timeline.proofs.branch.Branch.sending_place.Goals as goal

pub overflow_cast-first : goal.overflow_cast-first
overflow_cast-first g c =
    let r = c.args.self.now in
    let next : c.next.result ≡ r.opening.link.next + senders (standing r.branch) =
    c.next.ensures.next ∙ ap (λ (l : Link). l.next) c.link.ensures.link
    ∙ next-ticket c.frames_are_counted.ensures.tickets r c.world.result.now c.world.ensures.world in
    let sent : c.count_senders-sent.result ≡ senders (standing r.branch) =
    c.count_senders-sent.ensures ∙ standing-senders r c.cursor.result c.events-events.result.now c.cursor.ensures.cursor c.events-events.ensures.events in
    omega (arith, next, sent)

pub overflow_sub-first : goal.overflow_sub-first
overflow_sub-first g c =
    let r = c.args.self.now in
    let next : c.next.result ≡ r.opening.link.next + senders (standing r.branch) =
    c.next.ensures.next ∙ ap (λ (l : Link). l.next) c.link.ensures.link
    ∙ next-ticket c.frames_are_counted.ensures.tickets r c.world.result.now c.world.ensures.world in
    let sent : c.count_senders-sent.result ≡ senders (standing r.branch) =
    c.count_senders-sent.ensures ∙ standing-senders r c.cursor.result c.events-events.result.now c.cursor.ensures.cursor c.events-events.ensures.events in
    omega (arith, next, sent)

pub returns-clause-place : goal.returns-clause-place
returns-clause-place g c =
    let r = c.args.self.now in
    let next : c.next.result ≡ r.opening.link.next + senders (standing r.branch) =
    c.next.ensures.next ∙ ap (λ (l : Link). l.next) c.link.ensures.link
    ∙ next-ticket c.frames_are_counted.ensures.tickets r c.world.result.now c.world.ensures.world in
    let sent : c.count_senders-sent.result ≡ senders (standing r.branch) =
    c.count_senders-sent.ensures ∙ standing-senders r c.cursor.result c.events-events.result.now c.cursor.ensures.cursor c.events-events.ensures.events in
    let first : c.next.result - c.count_senders-sent.result ≡ r.opening.link.next = omega (arith, next, sent) in
    c.sending_place.ensures.place
    ∙ ap (λ (n : ℕ). sending_place n c.args.ticket c.events-events.result.now) first
    ∙ ap (λ (es : List Event). sending_place r.opening.link.next c.args.ticket es) c.events-events.ensures.events
