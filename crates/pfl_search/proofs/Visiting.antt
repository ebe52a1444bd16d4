-- The first visit that meets a goal, along the way of the search.
use Rattle.std.specs.Prelude.{◌≡◌, ℕ, zero, suc, ◌+◌, ◌-◌, ◌<◌, ◌≤◌, Bool, true, false, List, [], ◌∷◌, ◌++◌, map, find, Option, Some, None, Ok, Err, refl}
use Rattle.std.specs.List.{flat_map}
use Rattle.std.specs.Option.{option_map, option_or}
use Rattle.std.proofs.Common.{◌∙◌, ap, arith}
use Rattle.std.proofs.lemmas.List.Folds.{find-append}
use Rattle.pfl_base.specs.declared.refusal.Refusal.{Refusal}
use Rattle.pfl_language.specs.declared.event.Event.{Event}
use Rattle.pfl_world.specs.Events.{step}
use Rattle.pfl_world.specs.Meanings.{Stepped}
use Rattle.pfl_world.specs.Worlds.{World}
use Rattle.pfl_search.proofs.Lists.{find-map, option_map-or, tally-fewer, tally-map, tally-more, tally-none, tally-some}
use Rattle.pfl_search.specs.Choices.{Stage, taken, turns}
use Rattle.pfl_search.specs.Goals.{meets}
use Rattle.pfl_search.specs.Runs.{first_run_after}
use Rattle.pfl_search.specs.Orders.{last_of}
use Rattle.pfl_search.specs.Visits.{Kind, Visit, after, each, in_turn, one_if, onward, tally, tally_after, visits}
use Rattle.pfl_search.specs.declared.order.Last.{Last}
use Rattle.pfl_language.specs.declared.goal.Goal.{Goal}
use Rattle.pfl_search.specs.declared.turns.Candidate.{Candidate}

pub one_small : (b : Bool) → one_if b ≤ 1
one_small true = omega arith
one_small false = omega arith

-- what is visited after a turn
abbrev pub turn_visits : ℕ → Stage → World → Candidate → List Visit
turn_visits d st w t = onward t.event (λ v. visits (Some (last_of w t.event)) d (taken st t.place t.phase) v) (step w t.event)

module _ (g : Goal) where
  -- the world itself meets it
  pub first_here : (last : Option Last) (d : ℕ) (st : Stage) (w : World) → meets g w ≡ true → first_run_after last g d st w ≡ Some []
  unfolding visits
  first_here last zero st w h = rw h
  first_here last (suc d) st w h = rw h

  -- it does not, and no event may come
  pub first_none : (last : Option Last) (d : ℕ) (st : Stage) (w : World) → meets g w ≡ false → d ≡ 0 → first_run_after last g d st w ≡ None
  unfolding visits
  first_none last zero st w h is = rw h
  first_none last (suc d) st w h is = absurd (omega arith)

  -- the first run that begins with one of the turns
  unfoldable pub first_among : ℕ → Stage → World → List Candidate → Option (List Event)
  first_among d st w ts = option_map (λ v. v.run) (find (λ v. meets g v.world) (flat_map (turn_visits d st w) ts))

  first_on_suc : (last : Option Last) (d : ℕ) (st : Stage) (w : World) → meets g w ≡ false
      → first_run_after last g (suc d) st w ≡ first_among d st w (in_turn last st.phase w (turns st w))
  unfolding visits first_among
  first_on_suc last d st w h = rw h

  -- it does not, and events may come
  pub first_on : (last : Option Last) (d : ℕ) (st : Stage) (w : World) → meets g w ≡ false → 0 < d
      → first_run_after last g d st w ≡ first_among (d - 1) st w (in_turn last st.phase w (turns st w))
  first_on last zero st w h is = absurd (omega arith)
  first_on last (suc d) st w h is =
      let same : d ≡ suc d - 1 = omega arith in
      first_on_suc last d st w h ∙ ap (λ (n : ℕ). first_among n st w (in_turn last st.phase w (turns st w))) same

  pub among_none : (d : ℕ) (st : Stage) (w : World) → first_among d st w [] ≡ None
  unfolding first_among
  among_none d st w = refl

  -- the event of a turn is refused
  pub among_refused : (d : ℕ) (st : Stage) (w : World) (t : Candidate) (ts : List Candidate) (why : Refusal)
      → step w t.event ≡ Err why → first_among d st w (t ∷ ts) ≡ first_among d st w ts
  unfolding first_among
  among_refused d st w t ts why h = rw h

  run_after : (e : Event) (o : Option Visit) → option_map (λ v. v.run) (option_map (after e) o) ≡ option_map (λ es. e ∷ es) (option_map (λ v. v.run) o)
  run_after e None = refl
  run_after e (Some v) = refl

  split : (e : Event) (vs rest : List Visit)
      → option_map (λ v. v.run) (find (λ v. meets g v.world) (map (after e) vs ++ rest))
      ≡ option_or (option_map (λ es. e ∷ es) (option_map (λ v. v.run) (find (λ v. meets g v.world) vs)))
      (option_map (λ v. v.run) (find (λ v. meets g v.world) rest))
  split e vs rest =
      let p : Visit → Bool = λ v. meets g v.world in
      let r : Visit → List Event = λ v. v.run in
      ap (option_map r) (find-append p (map (after e) vs) rest)
      ∙ option_map-or r (find p (map (after e) vs)) (find p rest)
      ∙ ap (λ (o : Option (List Event)). option_or o (option_map r (find p rest))) (ap (option_map r) (find-map (after e) p vs) ∙ run_after e (find p vs))

  -- it is accepted
  pub among_on : (d : ℕ) (st : Stage) (w : World) (t : Candidate) (ts : List Candidate) (s : Stepped) → step w t.event ≡ Ok s
      → first_among d st w (t ∷ ts)
      ≡ option_or (option_map (λ es. t.event ∷ es) (first_run_after (Some (last_of w t.event)) g d (taken st t.place t.phase) s.world)) (first_among d st w ts)
  unfolding first_among
  among_on d st w t ts s h = rw h (split t.event (visits (Some (last_of w t.event)) d (taken st t.place t.phase) s.world) (flat_map (turn_visits d st w) ts))

  -- nothing is found after it
  pub among_passed : (d : ℕ) (st : Stage) (w : World) (t : Candidate) (ts : List Candidate) (s : Stepped) → step w t.event ≡ Ok s
      → first_run_after (Some (last_of w t.event)) g d (taken st t.place t.phase) s.world ≡ None
      → first_among d st w (t ∷ ts) ≡ first_among d st w ts
  among_passed d st w t ts s h none = among_on d st w t ts s h ∙ (rw none refl)

  -- a run is found after it
  pub among_found : (d : ℕ) (st : Stage) (w : World) (t : Candidate) (ts : List Candidate) (s : Stepped) (es : List Event) → step w t.event ≡ Ok s
      → first_run_after (Some (last_of w t.event)) g d (taken st t.place t.phase) s.world ≡ Some es
      → first_among d st w (t ∷ ts) ≡ Some (t.event ∷ es)
  among_found d st w t ts s es h found = among_on d st w t ts s h ∙ (rw found refl)

  -- ---- how many worlds of a kind are visited

  module _ (kind : Kind) where
    pub tally_here : (last : Option Last) (d : ℕ) (st : Stage) (w : World) → meets g w ≡ true → tally_after kind last g d st w ≡ one_if (kind w d)
    unfolding visits
    tally_here last zero st w h = rw h (omega arith)
    tally_here last (suc d) st w h = rw h (omega arith)

    pub tally_none_on : (last : Option Last) (d : ℕ) (st : Stage) (w : World) → meets g w ≡ false → d ≡ 0
        → tally_after kind last g d st w ≡ one_if (kind w d)
    unfolding visits
    tally_none_on last zero st w h is = rw h (omega arith)
    tally_none_on last (suc d) st w h is = absurd (omega arith)

    -- how many are visited after some turns
    unfoldable pub tally_among : ℕ → Stage → World → List Candidate → ℕ
    tally_among d st w ts = tally (λ v. kind v.world v.more) (λ v. meets g v.world) (flat_map (turn_visits d st w) ts)

    tally_on_suc : (last : Option Last) (d : ℕ) (st : Stage) (w : World) → meets g w ≡ false
        → tally_after kind last g (suc d) st w ≡ one_if (kind w (suc d)) + tally_among d st w (in_turn last st.phase w (turns st w))
    unfolding visits tally_among
    tally_on_suc last d st w h = rw h refl

    pub tally_on : (last : Option Last) (d : ℕ) (st : Stage) (w : World) → meets g w ≡ false → 0 < d
        → tally_after kind last g d st w ≡ one_if (kind w d) + tally_among (d - 1) st w (in_turn last st.phase w (turns st w))
    tally_on last zero st w h is = absurd (omega arith)
    tally_on last (suc d) st w h is =
        let same : d ≡ suc d - 1 = omega arith in
        tally_on_suc last d st w h ∙ ap (λ (n : ℕ). one_if (kind w (suc d)) + tally_among n st w (in_turn last st.phase w (turns st w))) same

    pub tally_no_turn : (d : ℕ) (st : Stage) (w : World) → tally_among d st w [] ≡ 0
    unfolding tally_among
    tally_no_turn d st w = refl

    pub tally_refused : (d : ℕ) (st : Stage) (w : World) (t : Candidate) (ts : List Candidate) (why : Refusal)
        → step w t.event ≡ Err why → tally_among d st w (t ∷ ts) ≡ tally_among d st w ts
    unfolding tally_among
    tally_refused d st w t ts why h = rw h

    no_visit : (o : Option Visit) → option_map (λ v. v.run) o ≡ None → o ≡ None
    no_visit None e = refl
    no_visit (Some v) e = absurd cc

    -- all worlds after a turn are visited, and none meets the goal
    pub tally_passed : (d : ℕ) (st : Stage) (w : World) (t : Candidate) (ts : List Candidate) (s : Stepped) → step w t.event ≡ Ok s
        → first_run_after (Some (last_of w t.event)) g d (taken st t.place t.phase) s.world ≡ None
        → tally_among d st w (t ∷ ts)
        ≡ tally_after kind (Some (last_of w t.event)) g d (taken st t.place t.phase) s.world + tally_among d st w ts
    unfolding tally_among
    tally_passed d st w t ts s h none =
        let p : Visit → Bool = λ v. meets g v.world in
        let k : Visit → Bool = λ v. kind v.world v.more in
        let vs = visits (Some (last_of w t.event)) d (taken st t.place t.phase) s.world in
        let rest : List Visit = flat_map (turn_visits d st w) ts in
        let shut : find p (map (after t.event) vs) ≡ None = find-map (after t.event) p vs ∙ ap (option_map (after t.event)) (no_visit (find p vs) none) in
        rw h (tally-none k p (map (after t.event) vs) rest shut ∙ ap (λ (n : ℕ). n + tally k p rest) (tally-map (after t.event) k p vs))

    some_visit : (o : Option Visit) (es : List Event) → option_map (λ v. v.run) o ≡ Some es → (v : Visit) × (o ≡ Some v)
    some_visit None es e = absurd cc
    some_visit (Some v) es e = (v, refl)

    -- one of them meets it
    pub tally_found : (d : ℕ) (st : Stage) (w : World) (t : Candidate) (ts : List Candidate) (s : Stepped) (es : List Event) → step w t.event ≡ Ok s
        → first_run_after (Some (last_of w t.event)) g d (taken st t.place t.phase) s.world ≡ Some es
        → tally_among d st w (t ∷ ts) ≡ tally_after kind (Some (last_of w t.event)) g d (taken st t.place t.phase) s.world
    unfolding tally_among
    tally_found d st w t ts s es h found =
        let p : Visit → Bool = λ v. meets g v.world in
        let k : Visit → Bool = λ v. kind v.world v.more in
        let vs = visits (Some (last_of w t.event)) d (taken st t.place t.phase) s.world in
        let rest : List Visit = flat_map (turn_visits d st w) ts in
        let v = some_visit (find p vs) es found in
        let there : find p (map (after t.event) vs) ≡ Some (after t.event v.0) = find-map (after t.event) p vs ∙ ap (option_map (after t.event)) v.1 in
        rw h (tally-some k p (map (after t.event) vs) rest (after t.event v.0) there ∙ tally-map (after t.event) k p vs)

    -- no more are visited after one turn than after all that are left
    pub tally_part : (d : ℕ) (st : Stage) (w : World) (t : Candidate) (ts : List Candidate) (s : Stepped) → step w t.event ≡ Ok s
        → tally_after kind (Some (last_of w t.event)) g d (taken st t.place t.phase) s.world ≤ tally_among d st w (t ∷ ts)
    unfolding tally_among
    tally_part d st w t ts s h =
        let p : Visit → Bool = λ v. meets g v.world in
        let k : Visit → Bool = λ v. kind v.world v.more in
        let vs = visits (Some (last_of w t.event)) d (taken st t.place t.phase) s.world in
        let rest : List Visit = flat_map (turn_visits d st w) ts in
        let same : tally k p (map (after t.event) vs) ≡ tally k p vs = tally-map (after t.event) k p vs in
        let more = tally-more k p (map (after t.event) vs) rest in
        rw h (rw same at more)

    -- no more are of a kind than there are
    pub tally_fewer : (last : Option Last) (d : ℕ) (st : Stage) (w : World) → tally_after kind last g d st w ≤ tally_after each last g d st w
    tally_fewer last d st w = tally-fewer (λ v. kind v.world v.more) (λ v. meets g v.world) (visits last d st w)

  some_counted : (n : ℕ) → 0 < 1 + n
  some_counted n = omega arith

  -- one is visited, in any case
  pub visited_some : (last : Option Last) (d : ℕ) (st : Stage) (w : World) → 0 < tally_after each last g d st w
  unfolding visits
  visited_some last zero st w = some_counted _
  visited_some last (suc d) st w = some_counted _
