use Rattle.std.specs.Prelude.{◌≡◌, ◌+◌, ◌-◌, ◌≤◌, ℕ, List, None, Vec, nat_eq}
use Rattle.std.proofs.Common.{◌∙◌, ap, arith}
use Rattle.pfl_language.specs.declared.event.Event.{Event}
use Rattle.pfl_search.proofs.Leading.{answer-ended, answer-found, answer-never, answer-none}
use Rattle.pfl_search.proofs.Visiting.{tally_fewer}
use Rattle.pfl_search.specs.Choices.{start}
use Rattle.pfl_search.specs.Runs.{first_run}
use Rattle.pfl_search.specs.Visits.{asking, at_end, tally_of}
use Rattle.pfl_language.specs.declared.choice.Choice.{Choice}
use Rattle.pfl_search.proofs.runs.search.Goals as goal

pub returns-clause-first : goal.returns-clause-first
returns-clause-first g c =
    c.in_order-found.ensures ∙ c.in_ok-backwards.ensures.first
    ∙ ap (λ (cs : List Choice). first_run c.args.goal.now c.args.depth cs c.args.world.now) (c.deref_mut.ensures.value ∙ c.in_ok-uses.ensures)

pub returns-clause-found : goal.returns-clause-found
returns-clause-found g c =
    let first = c.in_order-found.ensures ∙ c.in_ok-backwards.ensures.first
    ∙ ap (λ (cs : List Choice). first_run c.args.goal.now c.args.depth cs c.args.world.now) (c.deref_mut.ensures.value ∙ c.in_ok-uses.ensures) in
    answer-found (λ (run : Vec Event g.row.A.Denot). run.items) c.args.goal.now c.args.depth c.args.choices.now c.args.world.now c.in_order-found.result first

pub returns-clause-none : goal.returns-clause-none
returns-clause-none g c =
    let first = c.in_order-found.ensures ∙ c.in_ok-backwards.ensures.first
    ∙ ap (λ (cs : List Choice). first_run c.args.goal.now c.args.depth cs c.args.world.now) (c.deref_mut.ensures.value ∙ c.in_ok-uses.ensures) in
    answer-none (λ (run : Vec Event g.row.A.Denot). run.items) c.args.goal.now c.args.depth c.args.choices.now c.args.world.now c.in_order-found.result
    c.known.ensures.world first

-- none were counted before
from_none : (m n k : ℕ) → m ≡ 0 + n → n ≡ k → m ≡ k
from_none m n k is same = omega arith

pub returns-clause-ends : goal.returns-clause-ends
returns-clause-ends g c =
    let same = c.deref_mut.ensures.value ∙ c.in_ok-uses.ensures in
    let ends = from_none _ _ _ c.in_ok-backwards.ensures.counted.at_end
    (ap (λ (cs : List Choice). tally_of at_end c.args.goal.now c.args.depth cs c.args.world.now) same) in
    ap (λ (n : ℕ). nat_eq n 0) ends

pub returns-clause-ended : goal.returns-clause-ended
returns-clause-ended g c =
    let same = c.deref_mut.ensures.value ∙ c.in_ok-uses.ensures in
    let first = c.in_order-found.ensures ∙ c.in_ok-backwards.ensures.first
    ∙ ap (λ (cs : List Choice). first_run c.args.goal.now c.args.depth cs c.args.world.now) same in
    let ends = from_none _ _ _ c.in_ok-backwards.ensures.counted.at_end
    (ap (λ (cs : List Choice). tally_of at_end c.args.goal.now c.args.depth cs c.args.world.now) same) in
    answer-ended (λ (run : Vec Event g.row.A.Denot). run.items) c.args.goal.now c.args.depth c.args.choices.now c.args.world.now c.in_order-found.result
    _ c.known.ensures.world first (ap (λ (n : ℕ). nat_eq n 0) ends)

pub returns-clause-never : goal.returns-clause-never
returns-clause-never g c =
    let same = c.deref_mut.ensures.value ∙ c.in_ok-uses.ensures in
    let first = c.in_order-found.ensures ∙ c.in_ok-backwards.ensures.first
    ∙ ap (λ (cs : List Choice). first_run c.args.goal.now c.args.depth cs c.args.world.now) same in
    let ends = from_none _ _ _ c.in_ok-backwards.ensures.counted.at_end
    (ap (λ (cs : List Choice). tally_of at_end c.args.goal.now c.args.depth cs c.args.world.now) same) in
    answer-never (λ (run : Vec Event g.row.A.Denot). run.items) c.args.goal.now c.args.depth c.args.choices.now c.args.world.now c.in_order-found.result
    _ c.known.ensures.world first (ap (λ (n : ℕ). nat_eq n 0) ends)

fewer_of : (left most all some asked : ℕ) → left + all ≡ most → asked ≡ 0 + some → some ≤ all → asked ≤ most - left
fewer_of left most all some asked is counts fewer = omega arith

pub returns-clause-fewer : goal.returns-clause-fewer
returns-clause-fewer g c =
    fewer_of _ _ _ _ _ c.in_ok-backwards.ensures.counted.left c.in_ok-backwards.ensures.counted.asked
    (tally_fewer c.args.goal.now (asking c.args.goal.now) None c.args.depth (start c.deref_mut.result.now) c.args.world.now)
