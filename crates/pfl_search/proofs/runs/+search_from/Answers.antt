use Rattle.std.specs.Prelude.{◌≡◌, ◌++◌, ◌+◌, ◌-◌, ◌<◌, ◌≤◌, ℕ, List, Vec, drop, length, nat_eq, reverse, Some, refl}
use Rattle.std.proofs.Common.{◌∙◌, ap, arith, sym, subst, rules}
use Rattle.std.proofs.lemmas.List.{at_drop_all}
use Rattle.std.proofs.lemmas.Result.{err_from_is_err_and}
use Rattle.pfl_edits.specs.Tapes.{Taped}
use Rattle.pfl_world.specs.declared.edit.WorldEdit.{WorldEdit}
use Rattle.pfl_world.specs.Worlds.{World}
use Rattle.pfl_search.proofs.Lists.{from_added}
use Rattle.pfl_search.proofs.Searching.{back_again, found_count, found_first, held_of, is_of, part_count, passed_count, passed_first, place_left}
use Rattle.pfl_search.proofs.Searching.{place_within, refused_count, refused_first, reversed, stops, stops_soon}
use Rattle.pfl_search.proofs.Taking.{tape_back, world_back}
use Rattle.pfl_search.proofs.Visiting.{among_none, first_among, first_here, first_none, first_on, one_small, tally_among, tally_fewer, tally_here}
use Rattle.pfl_search.proofs.Visiting.{tally_no_turn, tally_none_on, tally_on, visited_some}
use Rattle.pfl_search.specs.Choices.{stage, turns}
use Rattle.pfl_search.specs.Goals.{is_asked}
use Rattle.pfl_search.specs.declared.tally.Tally.{Tally}
use Rattle.pfl_search.specs.declared.turns.Candidate.{Candidate}
use Rattle.pfl_search.specs.Visits.{Kind, asking, at_end, each, in_turn, tally_after}
use Rattle.pfl_search.specs.inner.Turns.{Entered, Enters, IsOf, Stays}
use Rattle.pfl_search.proofs.runs.+search_from.Goals as goal
use Rattle.pfl_search.proofs.runs.+search_from.Goals.{then-branch-2+in_ok-run+in_default, else-branch-2}

pub returns-in_err-visit-clause-stopped : goal.returns-in_err-visit-clause-stopped
returns-in_err-visit-clause-stopped g t c =
    let p = err_from_is_err_and c.from_residual.result c.from_residual.ensures.1 in
    rw (p.1, p.2) (stops_soon c.in_err-visit.field-0.0 c.args.tally.now.left
    (tally_after each c.args.before c.args.goal.now c.args.depth (stage c.args.choices.now c.args.begun) c.args.world.now)
    c.in_err-visit.ensures.stopped (visited_some c.args.goal.now c.args.before c.args.depth (stage c.args.choices.now c.args.begun) c.args.world.now))

pub returns-then-branch-clause-first : goal.returns-then-branch-clause-first
returns-then-branch-clause-first g t c =
    (rw c.new.ensures.items refl)
    ∙ sym (first_here c.args.goal.now c.args.before c.args.depth (stage c.args.choices.now c.args.begun) c.args.world.now (sym c.in_ok-visit.ensures.meets ∙ c.if-branch.true))

pub returns-then-branch-clause-counted : goal.returns-then-branch-clause-counted
returns-then-branch-clause-counted g t c =
    let h = c.args.goal.now in
    let d = c.args.depth in
    let st = stage c.args.choices.now c.args.begun in
    let w = c.args.world.now in
    let met = sym c.in_ok-visit.ensures.meets ∙ c.if-branch.true in
    let left = c.in_ok-visit.ensures.left in
    let one = tally_here h each c.args.before d st w met in
    record {
      left = omega arith;
      asked = c.in_ok-visit.ensures.asked ∙ ap (λ (n : ℕ). c.args.tally.now.asked + n) (sym (tally_here h (asking h) c.args.before d st w met));
      at_end = c.in_ok-visit.ensures.at_end ∙ ap (λ (n : ℕ). c.args.tally.now.at_end + n) (sym (tally_here h at_end c.args.before d st w met));
    }

pub returns-then-depth-eq0-clause-first : goal.returns-then-depth-eq0-clause-first
returns-then-depth-eq0-clause-first g t c =
    sym (first_none c.args.goal.now c.args.before c.args.depth (stage c.args.choices.now c.args.begun) c.args.world.now (sym c.in_ok-visit.ensures.meets
    ∙ c.if-branch.false) c.if-depth-eq0.true)

pub returns-then-depth-eq0-clause-counted : goal.returns-then-depth-eq0-clause-counted
returns-then-depth-eq0-clause-counted g t c =
    let h = c.args.goal.now in
    let d = c.args.depth in
    let st = stage c.args.choices.now c.args.begun in
    let w = c.args.world.now in
    let met = sym c.in_ok-visit.ensures.meets ∙ c.if-branch.false in
    let none = c.if-depth-eq0.true in
    let left = c.in_ok-visit.ensures.left in
    let one = tally_none_on h each c.args.before d st w met none in
    record {
      left = omega arith;
      asked = c.in_ok-visit.ensures.asked ∙ ap (λ (n : ℕ). c.args.tally.now.asked + n) (sym (tally_none_on h (asking h) c.args.before d st w met none));
      at_end = c.in_ok-visit.ensures.at_end ∙ ap (λ (n : ℕ). c.args.tally.now.at_end + n) (sym (tally_none_on h at_end c.args.before d st w met none));
    }

pub loop-index-init : goal.loop-index-init
loop-index-init g t c =
    let h = c.args.goal.now in
    let d = c.args.depth in
    let cs = c.args.choices.now in
    let begun = c.args.begun in
    let st = stage cs begun in
    let w = c.args.world.now in
    let items = c.add_all.new.turns.items in
    let here : items ≡ c.args.turns.now.items ++ in_turn c.args.before begun w (turns st w) = c.in_ok-add_all.ensures
    ∙ ap (λ (u : World). c.args.turns.now.items ++ in_turn c.args.before begun u (turns st u)) c.in_ok-visit.ensures.world in
    let all : drop c.len-first.result items ≡ in_turn c.args.before begun w (turns st w) =
    from_added c.args.turns.now.items (in_turn c.args.before begun w (turns st w)) items c.len-first.result here (c.len-first.ensures
    ∙ c.args.turns.now.ok.0) in
    let shut = sym c.in_ok-visit.ensures.meets ∙ c.if-branch.false in
    let some : 0 < d = omega arith in
    let left = c.in_ok-visit.ensures.left in
    let asked = c.in_ok-visit.ensures.asked in
    let ends = c.in_ok-visit.ensures.at_end in
    let each_count = tally_on h each c.args.before d st w shut some in
    let each_same = ap (tally_among h each (d - 1) st w) all in
    let ask_count = tally_on h (asking h) c.args.before d st w shut some in
    let ask_same = ap (tally_among h (asking h) (d - 1) st w) all in
    let end_count = tally_on h at_end c.args.before d st w shut some in
    let end_same = ap (tally_among h at_end (d - 1) st w) all in
    let ask_small = one_small (is_asked h.scope w) in
    let end_small = one_small (nat_eq d 0) in
    let asked_room = c.requires.asked in
    let end_room = c.requires.at_end in
    record {
      world = c.in_ok-visit.ensures.world;
      tape = c.in_ok-visit.ensures.tape;
      turns = here;
      end = c.len-index-end.ensures ∙ c.add_all.new.turns.ok.0;
      choices = refl;
      rest = ap (first_among h (d - 1) st w) all ∙ sym (first_on h c.args.before d st w shut some);
      left = omega arith;
      asked = omega arith;
      at_end = omega arith;
      asked_room = omega arith;
      at_end_room = omega arith;
    }

pub bounds-choices-turn : goal.bounds-choices-turn
bounds-choices-turn g t c =
    let cs = c.args.choices.now in
    let w = c.args.world.now in
    let within : c.loop-index.index < length c.loop-index.turns.items = omega arith in
    let of : IsOf cs c.index.result.now =
    is_of c.args.before c.args.begun cs w c.args.turns.now.items c.loop-index.turns.items c.len-first.result c.loop-index.index c.index.result.now
    c.loop-index.invariant.turns (c.len-first.ensures ∙ c.args.turns.now.ok.0) c.loop-index.auto.index within c.index.ensures in
    place_within cs c.loop-index.choices c.index.result.now c.loop-index.invariant.choices of

pub offset_bounds-choices-turn : goal.offset_bounds-choices-turn
offset_bounds-choices-turn g t c =
    let cs = c.args.choices.now in
    let w = c.args.world.now in
    let within : c.loop-index.index < length c.loop-index.turns.items = omega arith in
    let of : IsOf cs c.index.result.now =
    is_of c.args.before c.args.begun cs w c.args.turns.now.items c.loop-index.turns.items c.len-first.result c.loop-index.index c.index.result.now
    c.loop-index.invariant.turns (c.len-first.ensures ∙ c.args.turns.now.ok.0) c.loop-index.auto.index within c.index.ensures in
    let under : c.index.result.now.place < length c.loop-index.choices =
    place_within cs c.loop-index.choices c.index.result.now c.loop-index.invariant.choices of in
    search rules

pub enter-requires : goal.enter-requires
enter-requires g t c =
    let cs = c.args.choices.now in
    let w = c.args.world.now in
    let within : c.loop-index.index < length c.loop-index.turns.items = omega arith in
    let of : IsOf cs c.index.result.now =
    is_of c.args.before c.args.begun cs w c.args.turns.now.items c.loop-index.turns.items c.len-first.result c.loop-index.index c.index.result.now
    c.loop-index.invariant.turns (c.len-first.ensures ∙ c.args.turns.now.ok.0) c.loop-index.auto.index within c.index.ensures in
    record { turn = held_of cs c.loop-index.choices c.index.result.now c.loop-index.invariant.choices of }

pub bounds-choices-turn-then-branch-2 : goal.bounds-choices-turn-then-branch-2
bounds-choices-turn-then-branch-2 g t c =
    let cs = c.args.choices.now in
    let w = c.args.world.now in
    let within : c.loop-index.index < length c.loop-index.turns.items = omega arith in
    let of : IsOf cs c.index.result.now =
    is_of c.args.before c.args.begun cs w c.args.turns.now.items c.loop-index.turns.items c.len-first.result c.loop-index.index c.index.result.now
    c.loop-index.invariant.turns (c.len-first.ensures ∙ c.args.turns.now.ok.0) c.loop-index.auto.index within c.index.ensures in
    let e : Entered c.index.result.now c.loop-index.world c.enter.new.world c.loop-index.tape.list c.enter.new.tape.list
    c.loop-index.choices c.enter.new.choices =
    subst (Enters c.index.result.now c.loop-index.world c.enter.new.world c.loop-index.tape.list c.enter.new.tape.list c.loop-index.choices
    c.enter.new.choices) c.if-branch-2.true c.in_ok-enter.ensures.enters in
    place_left cs c.loop-index.choices c.search_from-run.new.choices c.index.result.now c.loop-index.invariant.choices of
    (c.search_from-run.ensures.choices ∙ e.choices)

pub offset_bounds-choices-turn-then-branch-2 : goal.offset_bounds-choices-turn-then-branch-2
offset_bounds-choices-turn-then-branch-2 g t c =
    let cs = c.args.choices.now in
    let w = c.args.world.now in
    let within : c.loop-index.index < length c.loop-index.turns.items = omega arith in
    let of : IsOf cs c.index.result.now =
    is_of c.args.before c.args.begun cs w c.args.turns.now.items c.loop-index.turns.items c.len-first.result c.loop-index.index c.index.result.now
    c.loop-index.invariant.turns (c.len-first.ensures ∙ c.args.turns.now.ok.0) c.loop-index.auto.index within c.index.ensures in
    let under : c.index.result.now.place < length c.loop-index.choices =
    place_within cs c.loop-index.choices c.index.result.now c.loop-index.invariant.choices of in
    search rules

pub returns-in_err-run-clause-choices : goal.returns-in_err-run-clause-choices
returns-in_err-run-clause-choices g t c =
    let cs = c.args.choices.now in
    let w = c.args.world.now in
    let within : c.loop-index.index < length c.loop-index.turns.items = omega arith in
    let of : IsOf cs c.index.result.now =
    is_of c.args.before c.args.begun cs w c.args.turns.now.items c.loop-index.turns.items c.len-first.result c.loop-index.index c.index.result.now
    c.loop-index.invariant.turns (c.len-first.ensures ∙ c.args.turns.now.ok.0) c.loop-index.auto.index within c.index.ensures in
    let e : Entered c.index.result.now c.loop-index.world c.enter.new.world c.loop-index.tape.list c.enter.new.tape.list
    c.loop-index.choices c.enter.new.choices =
    subst (Enters c.index.result.now c.loop-index.world c.enter.new.world c.loop-index.tape.list c.enter.new.tape.list c.loop-index.choices
    c.enter.new.choices) c.if-branch-2.true c.in_ok-enter.ensures.enters in
    back_again cs c.loop-index.choices c.search_from-run.new.choices c.index.result.now c.index-choices-turn.result
    c.loop-index.invariant.choices of c.index-choices-turn.is (c.search_from-run.ensures.choices ∙ e.choices)

pub returns-in_err-run-clause-stopped : goal.returns-in_err-run-clause-stopped
returns-in_err-run-clause-stopped g t c =
    let cs = c.args.choices.now in
    let w = c.args.world.now in
    let within : c.loop-index.index < length c.loop-index.turns.items = omega arith in
    let of : IsOf cs c.index.result.now =
    is_of c.args.before c.args.begun cs w c.args.turns.now.items c.loop-index.turns.items c.len-first.result c.loop-index.index c.index.result.now
    c.loop-index.invariant.turns (c.len-first.ensures ∙ c.args.turns.now.ok.0) c.loop-index.auto.index within c.index.ensures in
    let e : Entered c.index.result.now c.loop-index.world c.enter.new.world c.loop-index.tape.list c.enter.new.tape.list
    c.loop-index.choices c.enter.new.choices =
    subst (Enters c.index.result.now c.loop-index.world c.enter.new.world c.loop-index.tape.list c.enter.new.tape.list c.loop-index.choices
    c.enter.new.choices) c.if-branch-2.true c.in_ok-enter.ensures.enters in
    let part = part_count c.args.goal.now
    (c.args.depth - 1) cs c.args.begun w c.loop-index.turns.items c.loop-index.index c.index.result.now within c.index.ensures c.loop-index.world
    c.loop-index.invariant.world c.loop-index.choices c.loop-index.invariant.choices
    c.enter.new.world c.enter.new.choices c.last_of.result e.gives e.accepted e.world e.choices c.last_of.ensures each in
    let p = err_from_is_err_and c.from_residual-in_err-run.result c.from_residual-in_err-run.ensures.1 in
    rw (p.1, p.2) (stops c.in_err-run.field-0.0 c.loop-index.tally.left _ _ _ c.args.tally.now.left c.in_err-run.ensures.stopped part c.loop-index.invariant.left)

pub returns-in_err-append-clause-choices : goal.returns-in_err-append-clause-choices
returns-in_err-append-clause-choices g t c =
    let cs = c.args.choices.now in
    let w = c.args.world.now in
    let within : c.loop-index.index < length c.loop-index.turns.items = omega arith in
    let of : IsOf cs c.index.result.now =
    is_of c.args.before c.args.begun cs w c.args.turns.now.items c.loop-index.turns.items c.len-first.result c.loop-index.index c.index.result.now
    c.loop-index.invariant.turns (c.len-first.ensures ∙ c.args.turns.now.ok.0) c.loop-index.auto.index within c.index.ensures in
    let e : Entered c.index.result.now c.loop-index.world c.enter.new.world c.loop-index.tape.list c.enter.new.tape.list
    c.loop-index.choices c.enter.new.choices =
    subst (Enters c.index.result.now c.loop-index.world c.enter.new.world c.loop-index.tape.list c.enter.new.tape.list c.loop-index.choices
    c.enter.new.choices) c.if-branch-2.true c.in_ok-enter.ensures.enters in
    back_again cs c.loop-index.choices c.search_from-run.new.choices c.index.result.now c.index-choices-turn.result
    c.loop-index.invariant.choices of c.index-choices-turn.is (c.search_from-run.ensures.choices ∙ e.choices)

pub returns-in-Some-clause-choices : goal.returns-in-Some-clause-choices
returns-in-Some-clause-choices g t c =
    let cs = c.args.choices.now in
    let w = c.args.world.now in
    let within : c.loop-index.index < length c.loop-index.turns.items = omega arith in
    let of : IsOf cs c.index.result.now =
    is_of c.args.before c.args.begun cs w c.args.turns.now.items c.loop-index.turns.items c.len-first.result c.loop-index.index c.index.result.now
    c.loop-index.invariant.turns (c.len-first.ensures ∙ c.args.turns.now.ok.0) c.loop-index.auto.index within c.index.ensures in
    let e : Entered c.index.result.now c.loop-index.world c.enter.new.world c.loop-index.tape.list c.enter.new.tape.list
    c.loop-index.choices c.enter.new.choices =
    subst (Enters c.index.result.now c.loop-index.world c.enter.new.world c.loop-index.tape.list c.enter.new.tape.list c.loop-index.choices
    c.enter.new.choices) c.if-branch-2.true c.in_ok-enter.ensures.enters in
    back_again cs c.loop-index.choices c.search_from-run.new.choices c.index.result.now c.index-choices-turn.result
    c.loop-index.invariant.choices of c.index-choices-turn.is (c.search_from-run.ensures.choices ∙ e.choices)

pub returns-in-Some-clause-first : goal.returns-in-Some-clause-first
returns-in-Some-clause-first g t c =
    let cs = c.args.choices.now in
    let w = c.args.world.now in
    let within : c.loop-index.index < length c.loop-index.turns.items = omega arith in
    let e : Entered c.index.result.now c.loop-index.world c.enter.new.world c.loop-index.tape.list c.enter.new.tape.list
    c.loop-index.choices c.enter.new.choices =
    subst (Enters c.index.result.now c.loop-index.world c.enter.new.world c.loop-index.tape.list c.enter.new.tape.list c.loop-index.choices
    c.enter.new.choices) c.if-branch-2.true c.in_ok-enter.ensures.enters in
    let child = rw c.in-Some.is at c.in_ok-run.ensures.first in
    let found = found_first c.args.goal.now
    (c.args.depth - 1) cs c.args.begun w c.loop-index.turns.items c.loop-index.index c.index.result.now within c.index.ensures c.loop-index.world
    c.loop-index.invariant.world c.loop-index.choices c.loop-index.invariant.choices
    c.enter.new.world c.enter.new.choices c.last_of.result e.gives e.accepted e.world e.choices c.last_of.ensures (reverse c.in-Some.run'.items) (sym child) in
    ap Some (reversed c.index.result.now.event c.in-Some.run'.items c.append.new.list.items c.in_ok-append.ensures) ∙ sym found ∙ c.loop-index.invariant.rest

pub returns-in-Some-clause-counted : goal.returns-in-Some-clause-counted
returns-in-Some-clause-counted g t c =
    let cs = c.args.choices.now in
    let w = c.args.world.now in
    let within : c.loop-index.index < length c.loop-index.turns.items = omega arith in
    let e : Entered c.index.result.now c.loop-index.world c.enter.new.world c.loop-index.tape.list c.enter.new.tape.list
    c.loop-index.choices c.enter.new.choices =
    subst (Enters c.index.result.now c.loop-index.world c.enter.new.world c.loop-index.tape.list c.enter.new.tape.list c.loop-index.choices
    c.enter.new.choices) c.if-branch-2.true c.in_ok-enter.ensures.enters in
    let child = rw c.in-Some.is at c.in_ok-run.ensures.first in
    let h = c.args.goal.now in
    let same_run = found_count h
    (c.args.depth - 1) cs c.args.begun w c.loop-index.turns.items c.loop-index.index c.index.result.now within c.index.ensures c.loop-index.world
    c.loop-index.invariant.world c.loop-index.choices c.loop-index.invariant.choices
    c.enter.new.world c.enter.new.choices c.last_of.result e.gives e.accepted e.world e.choices c.last_of.ensures in
    let each_all = same_run each (reverse c.in-Some.run'.items) (sym child) in
    let ask_all = same_run (asking h) (reverse c.in-Some.run'.items) (sym child) in
    let end_all = same_run at_end (reverse c.in-Some.run'.items) (sym child) in
    let left_there = c.in_ok-run.ensures.counted.left in
    let asked_there = c.in_ok-run.ensures.counted.asked in
    let end_there = c.in_ok-run.ensures.counted.at_end in
    let left = c.loop-index.invariant.left in
    let asked = c.loop-index.invariant.asked in
    let ends = c.loop-index.invariant.at_end in
    record { left = omega arith; asked = omega arith; at_end = omega arith }

pub loop-index-preserved : goal.loop-index-preserved
loop-index-preserved g t c =
    let cs = c.args.choices.now in
    let w = c.args.world.now in
    let within : c.loop-index.index < length c.loop-index.turns.items = omega arith in
    let of : IsOf cs c.index.result.now =
    is_of c.args.before c.args.begun cs w c.args.turns.now.items c.loop-index.turns.items c.len-first.result c.loop-index.index c.index.result.now
    c.loop-index.invariant.turns (c.len-first.ensures ∙ c.args.turns.now.ok.0) c.loop-index.auto.index within c.index.ensures in
    elim c.if-branch-2.branch [
      | then-branch-2+in_ok-run+in_default u ↦
          let e : Entered c.index.result.now c.loop-index.world c.enter.new.world c.loop-index.tape.list c.enter.new.tape.list
          c.loop-index.choices c.enter.new.choices =
          subst (Enters c.index.result.now c.loop-index.world c.enter.new.world c.loop-index.tape.list c.enter.new.tape.list
          c.loop-index.choices c.enter.new.choices) u.if-branch-2.true c.in_ok-enter.ensures.enters in
          let none = rw u.in_default.is at u.in_ok-run.ensures.first in
          let back = rw u.in_default.is at u.in_ok-run.ensures.turns in
          let stand : c.if-branch-2.turns.items ≡ c.loop-index.turns.items = ap (λ (ts : Vec Candidate g.row.A.Denot). ts.items) u.turns-is ∙ back in
          let h = c.args.goal.now in
          let st = stage cs c.args.begun in
          let next = λ (kind : Kind). ap (λ (ts : List Candidate). tally_among h kind (c.args.depth - 1) st w (drop (c.loop-index.index + 1) ts)) stand in
          let passed = passed_count h
          (c.args.depth - 1) cs c.args.begun w c.loop-index.turns.items c.loop-index.index c.index.result.now within c.index.ensures
          c.loop-index.world c.loop-index.invariant.world c.loop-index.choices c.loop-index.invariant.choices
          c.enter.new.world c.enter.new.choices c.last_of.result e.gives e.accepted e.world e.choices c.last_of.ensures in
          let each_next = next each in
          let ask_next = next (asking h) in
          let end_next = next at_end in
          let each_all = passed each (sym none) in
          let ask_all = passed (asking h) (sym none) in
          let end_all = passed at_end (sym none) in
          let fewer = λ (kind : Kind). tally_fewer h kind (Some c.last_of.result) (c.args.depth - 1) (stage c.enter.new.choices c.index.result.now.phase) c.enter.new.world in
          let ask_fewer = fewer (asking h) in
          let end_fewer = fewer at_end in
          let left_there = u.in_ok-run.ensures.counted.left in
          let asked_there = u.in_ok-run.ensures.counted.asked in
          let end_there = u.in_ok-run.ensures.counted.at_end in
          let left = c.loop-index.invariant.left in
          let asked = c.loop-index.invariant.asked in
          let ends = c.loop-index.invariant.at_end in
          let asked_room = c.loop-index.invariant.asked_room in
          let end_room = c.loop-index.invariant.at_end_room in
          let left_is = ap (λ (t : Tally). t.left) u.tally-is in
          let asked_is = ap (λ (t : Tally). t.asked) u.tally-is in
          let end_is = ap (λ (t : Tally). t.at_end) u.tally-is in
          record {
            world = u.world-is ∙ world_back c.loop-index.world c.enter.new.world c.loop-index.tape.list c.enter.new.tape.list e.taped
                e.fits e.leads_back c.len-mark.result c.len-mark.ensures.length u.search_from-run.new.world u.search_from-run.new.tape.list
                u.search_from-run.ensures.world u.search_from-run.ensures.tape u.undo_to.new.value u.undo_to.ensures.value
                ∙ c.loop-index.invariant.world;
            tape = ap (λ (t : Taped (WorldEdit g.row.A.Denot)). t.list) u.tape-is
                ∙ tape_back c.loop-index.world c.enter.new.world c.loop-index.tape.list c.enter.new.tape.list e.taped e.fits e.leads_back
                c.len-mark.result c.len-mark.ensures.length u.search_from-run.new.world u.search_from-run.new.tape.list
                u.search_from-run.ensures.world u.search_from-run.ensures.tape u.undo_to.new.tape.list u.undo_to.ensures.list
                ∙ c.loop-index.invariant.tape;
            choices = u.choices-is ∙ back_again cs c.loop-index.choices u.search_from-run.new.choices c.index.result.now
                c.index-choices-turn.result c.loop-index.invariant.choices of c.index-choices-turn.is (u.search_from-run.ensures.choices ∙ e.choices);
            turns = stand ∙ c.loop-index.invariant.turns;
            end = c.loop-index.invariant.end ∙ ap length (sym stand);
            rest = ap (λ (ts : List Candidate). first_among c.args.goal.now (c.args.depth - 1) (stage cs c.args.begun) w (drop (c.loop-index.index + 1) ts)) stand
                ∙ passed_first c.args.goal.now
                (c.args.depth - 1) cs c.args.begun w c.loop-index.turns.items c.loop-index.index c.index.result.now within c.index.ensures
                c.loop-index.world c.loop-index.invariant.world c.loop-index.choices c.loop-index.invariant.choices
                c.enter.new.world c.enter.new.choices c.last_of.result e.gives e.accepted e.world e.choices c.last_of.ensures (sym none)
                ∙ c.loop-index.invariant.rest;
            left = omega arith;
            asked = omega arith;
            at_end = omega arith;
            asked_room = omega arith;
            at_end_room = omega arith;
          }
      | else-branch-2 u ↦
          let e : Stays c.index.result.now c.loop-index.world c.enter.new.world c.loop-index.tape.list c.enter.new.tape.list
          c.loop-index.choices c.enter.new.choices =
          subst (Enters c.index.result.now c.loop-index.world c.enter.new.world c.loop-index.tape.list c.enter.new.tape.list
          c.loop-index.choices c.enter.new.choices) u.if-branch-2.false c.in_ok-enter.ensures.enters in
          let stand : c.if-branch-2.turns.items ≡ c.loop-index.turns.items = ap (λ (ts : Vec Candidate g.row.A.Denot). ts.items) u.turns-is in
          let h = c.args.goal.now in
          let st = stage cs c.args.begun in
          let next = λ (kind : Kind). ap (λ (ts : List Candidate). tally_among h kind (c.args.depth - 1) st w (drop (c.loop-index.index + 1) ts)) stand in
          let none = refused_count h
          (c.args.depth - 1) cs c.args.begun w c.loop-index.turns.items c.loop-index.index c.index.result.now within c.index.ensures
          c.loop-index.world c.loop-index.invariant.world c.loop-index.choices c.loop-index.invariant.choices
          e.why e.refused in
          let each_next = next each in
          let ask_next = next (asking h) in
          let end_next = next at_end in
          let each_all = none each in
          let ask_all = none (asking h) in
          let end_all = none at_end in
          let left = c.loop-index.invariant.left in
          let asked = c.loop-index.invariant.asked in
          let ends = c.loop-index.invariant.at_end in
          let asked_room = c.loop-index.invariant.asked_room in
          let end_room = c.loop-index.invariant.at_end_room in
          let left_is = ap (λ (t : Tally). t.left) u.tally-is in
          let asked_is = ap (λ (t : Tally). t.asked) u.tally-is in
          let end_is = ap (λ (t : Tally). t.at_end) u.tally-is in
          record {
            world = u.world-is ∙ e.world ∙ c.loop-index.invariant.world;
            tape = ap (λ (t : Taped (WorldEdit g.row.A.Denot)). t.list) u.tape-is ∙ e.tape_stays ∙ c.loop-index.invariant.tape;
            choices = u.choices-is ∙ e.choices ∙ c.loop-index.invariant.choices;
            turns = stand ∙ c.loop-index.invariant.turns;
            end = c.loop-index.invariant.end ∙ ap length (sym stand);
            rest = ap (λ (ts : List Candidate). first_among c.args.goal.now (c.args.depth - 1) (stage cs c.args.begun) w (drop (c.loop-index.index + 1) ts)) stand
                ∙ refused_first c.args.goal.now
                (c.args.depth - 1) cs c.args.begun w c.loop-index.turns.items c.loop-index.index c.index.result.now within c.index.ensures
                c.loop-index.world c.loop-index.invariant.world c.loop-index.choices c.loop-index.invariant.choices
                e.why e.refused ∙ c.loop-index.invariant.rest;
            left = omega arith;
            asked = omega arith;
            at_end = omega arith;
            asked_room = omega arith;
            at_end_room = omega arith;
          }
    ]

pub returns-clause-first : goal.returns-clause-first
returns-clause-first g t c =
    let h = c.args.goal.now in
    let d = c.args.depth in
    let st = stage c.args.choices.now c.args.begun in
    let w = c.args.world.now in
    let items = c.loop-index.turns.items in
    let past : length items ≤ c.loop-index.index = omega arith in
    sym (among_none h (d - 1) st w) ∙ sym (at_drop_all (first_among h (d - 1) st w) items c.loop-index.index past) ∙ c.loop-index.invariant.rest

pub returns-clause-counted : goal.returns-clause-counted
returns-clause-counted g t c =
    let h = c.args.goal.now in
    let d = c.args.depth in
    let st = stage c.args.choices.now c.args.begun in
    let w = c.args.world.now in
    let items = c.loop-index.turns.items in
    let past : length items ≤ c.loop-index.index = omega arith in
    let none = λ (kind : Kind). at_drop_all (tally_among h kind (d - 1) st w) items c.loop-index.index past ∙ tally_no_turn h kind (d - 1) st w in
    let each_none = none each in
    let ask_none = none (asking h) in
    let end_none = none at_end in
    let left = c.loop-index.invariant.left in
    let asked = c.loop-index.invariant.asked in
    let ends = c.loop-index.invariant.at_end in
    record { left = omega arith; asked = omega arith; at_end = omega arith }
