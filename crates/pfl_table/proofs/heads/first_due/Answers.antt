use Rattle.std.specs.List.{HoldsAt}
use Rattle.std.specs.Option.{option_copied, option_map}
use Rattle.std.specs.Prelude.{[], refl, get_or, ◌+◌, ◌*◌, ◌<◌, ◌≤◌, IfSome, MatchOption, None, Some, drop, length, map}
use Rattle.std.proofs.Common.{◌≡◌, ◌∙◌, ap, sym, subst}
use Rattle.std.proofs.lemmas.List.{drop_all}
use Rattle.std.proofs.lemmas.List.Elements.{All-get_or}
use Rattle.pfl_rules.specs.Scaling.{scaled}
use Rattle.pfl_table.specs.declared.heads.Head.{Head}
use Rattle.pfl_table.specs.inner.Heads.{entry_of}
use Rattle.pfl_table.specs.inner.Ordering.{due_at}
use Rattle.pfl_table.specs.inner.Scales.{IsScaled}
use Rattle.pfl_table.proofs.DueFirst.{earlier-entry, earlier-timed, entry_due}
use Rattle.pfl_table.proofs.Earliest.{earlier, entry_before}
use Rattle.pfl_table.proofs.FirstOfEach.{heads-next}
use Rattle.pfl_table.proofs.Foremost.{foremost, joined}
use Rattle.pfl_table.proofs.heads.first_due.Goals as goal

pub seconds_of-seconds-requires : goal.seconds_of-seconds-requires
seconds_of-seconds-requires c =
    let here = c.args.scales.now in
    let is_scaled = IsScaled c.args.adaptive c.args.states in
    record {
      scaled = elim c.get.result as (λ o. IfSome o (λ x. x.now ≡ get_or here c.loop-place.place x.now)
          → MatchOption o (length here ≤ c.loop-place.place) (λ x. (c.loop-place.place < length here)
          × HoldsAt (λ y. x.now ≡ y) here c.loop-place.place) → IfSome (option_copied o) is_scaled) [
            | None ↦ λ same cases. tt
            | Some x ↦ λ same cases. subst is_scaled (sym same) (All-get_or is_scaled here c.loop-place.place x.now cases.0 c.requires.scaled)
          ] c.get.ensures.lookup.1 c.get.ensures.lookup.3;
    }

pub loop-place-preserved : goal.loop-place-preserved
loop-place-preserved c =
    let a = c.args.adaptive in
    let states = c.args.states in
    let before = entry_before a states in
    let none : Head = record { key = record { timeout = 0; creator = 0; time = 0; id = 0 }; slot = 0 } in
    let head = get_or c.args.heads.now c.loop-place.place none in
    let of_head : c.of.result.head ≡ head = ap (λ d. d.head) c.of.ensures in
    let seconds = c.seconds_of-seconds.ensures ∙ ap (λ t. scaled t a states) c.timeout.ensures in
    let at : c.of.result.at ≡ due_at a states c.of.result.head.key =
    ap (λ d. d.at) c.of.ensures ∙ (ap (λ n. head.key.time + n * 1000) seconds ∙ ap (λ (h : Head). due_at a states h.key) (sym of_head)) in
    let next = heads-next a states
    (option_map entry_due c.loop-place.first) c.args.heads.now c.loop-place.place none c.loop-place-test.true c.loop-place.invariant.1 in
    let same : entry_due c.earlier.result ≡ earlier a states (option_map entry_due c.loop-place.first) (entry_of head) =
    ap entry_due c.earlier.ensures
    ∙ (earlier-entry a states c.loop-place.first c.of.result c.loop-place.invariant.0 at
    ∙ ap (λ h. earlier a states (option_map entry_due c.loop-place.first) (entry_of h)) of_head) in (
      subst (λ d. d.at ≡ due_at a states d.head.key) (sym c.earlier.ensures)
          (earlier-timed a states c.loop-place.first c.of.result c.loop-place.invariant.0 at),
      ap (λ e. joined before (Some e) (foremost before (map entry_of (drop (c.loop-place.place + 1) c.args.heads.now)))) same ∙ next,
    )

pub returns : goal.returns
returns c =
    let before = entry_before c.args.adaptive c.args.states in
    let first = option_map entry_due c.loop-place.first in
    let none : drop c.loop-place.place c.args.heads.now ≡ [] = drop_all c.loop-place.place c.args.heads.now c.loop-place-test.false in
    let alone : first ≡ joined before first None = elim c.loop-place.first as (λ o. option_map entry_due o ≡ joined before (option_map entry_due o) None) [
      | None ↦ refl
      | Some d ↦ refl
    ] in
    record { first = c.entry_in.ensures ∙ (alone ∙ (ap (λ hs. joined before first (foremost before (map entry_of hs))) (sym none) ∙ c.loop-place.invariant.1)) }
