use Rattle.std.specs.Prelude.{◌≡◌, ◌+◌, ◌-◌, ◌<◌, ◌≤◌, ◌↔◌, ℕ, false, List, IfNone, IsTrue, Vec, is_some, refl}
use Rattle.std.proofs.Common.{◌∙◌, ap, arith, inl, inr, subst, sym}
use Rattle.pfl_language.specs.declared.event.Event.{Event}
use Rattle.pfl_search.proofs.Deepening.{NoneBelow, either, ended_deeper, ends_at_last, ends_count, ends_deeper, ends_first, found-deeper}
use Rattle.pfl_search.proofs.Deepening.{found-shortest, found_same}
use Rattle.pfl_search.proofs.Deepening.{never_deeper, next_count, next_first, none-after, none-at_first, none_deeper, stops-below, stops_first, stops_here}
use Rattle.pfl_world.specs.Worlds.{World}
use Rattle.pfl_search.specs.Runs.{EndBefore, IsStop, LeadsTo, first_deeper, first_run}
use Rattle.pfl_search.specs.Visits.{asking, each, tally_deeper, tally_of, worlds_visited}
use Rattle.pfl_search.proofs.shortest.search_shortest.Goals as goal

pub loop-few-init : goal.loop-few-init
loop-few-init g c =
    let h = c.args.goal.now in
    let d = c.args.depth in
    let cs = c.args.choices.now in
    let w = c.args.world.now in
    let all : d - 0 ≡ d = omega arith in
    let count = ap (λ (n : ℕ). tally_deeper each h n 0 cs w) all in
    let asks = ap (λ (n : ℕ). tally_deeper (asking h) h n 0 cs w) all in
    record {
      world = refl;
      below = none-at_first h d cs w;
      first = ap (λ (n : ℕ). first_deeper h n 0 cs w) all;
      worlds = omega arith;
      asked = omega arith;
      fewer = omega arith;
      within = omega arith;
    }

pub loop-few-preserved : goal.loop-few-preserved
loop-few-preserved g c =
    let h = c.args.goal.now in
    let d = c.args.depth in
    let cs = c.args.choices.now in
    let w = c.args.world.now in
    let few = c.loop-few.few in
    let same = c.loop-few.invariant.world in
    let found = c.in-Ok.searched.found in
    let ends = c.in-Ok.searched.ended in
    let last = sym c.is_last.ensures ∙ c.if-is_last.false in
    let no = either (is_some found) ends last in
    let items = λ (run : Vec Event g.row.A.Denot). run.items in
    let here = sym (stops_here items h few cs w c.loop-few.world found ends same c.in-Ok.ensures.first c.in-Ok.ensures.ends) ∙ last in
    let none : is_some (first_run h few cs w) ≡ false =
    sym (found_same items found (first_run h few cs w) (c.in-Ok.ensures.first ∙ ap (first_run h few cs) same)) ∙ no.0 in
    let less : few < d = omega arith in
    let count = next_count each h cs w c.loop-few.world same few d c.loop-few.worlds c.loop-few.invariant.worlds less here in
    let asks = next_count (asking h) h cs w c.loop-few.world same few d c.loop-few.asked c.loop-few.invariant.asked less here in
    let there = c.in-Ok.ensures.worlds in
    let asked_there = c.in-Ok.ensures.asked in
    let fits = c.in-Ok.ensures.within in
    let fewer = c.in-Ok.ensures.fewer in
    let fewer_before = c.loop-few.invariant.fewer in
    let within = c.loop-few.invariant.within in
    record {
      world = c.in-Ok.ensures.unchanged ∙ same;
      below = none-after h few d cs w c.loop-few.world found same no.0 c.loop-few.invariant.below c.in-Ok.ensures.none;
      first = next_first h cs w c.loop-few.world same few d c.loop-few.invariant.first less none;
      worlds = omega arith;
      asked = omega arith;
      fewer = omega arith;
      within = omega arith;
    }

pub returns-in-Err-clause-stopped : goal.returns-in-Err-clause-stopped
returns-in-Err-clause-stopped g c =
    stops-below c.args.goal.now c.args.choices.now c.args.world.now c.loop-few.world c.loop-few.invariant.world c.loop-few.few c.args.depth c.loop-few.worlds
    c.loop-few.invariant.worlds c.in-Err.stopped c.args.most c.loop-few.invariant.within c.in-Err.ensures.stopped

pub returns-then-is_last-clause-first : goal.returns-then-is_last-clause-first
returns-then-is_last-clause-first g c =
    let last = sym c.is_last.ensures ∙ c.if-is_last.true in
    stops_first (λ (run : Vec Event g.row.A.Denot). run.items) c.args.goal.now c.args.choices.now c.args.world.now c.loop-few.world
    c.loop-few.invariant.world c.loop-few.few c.args.depth c.loop-few.invariant.first c.in-Ok.searched.found c.in-Ok.searched.ended last
    c.in-Ok.ensures.first c.in-Ok.ensures.never

pub returns-then-is_last-clause-found : goal.returns-then-is_last-clause-found
returns-then-is_last-clause-found g c =
    let less : c.loop-few.few ≤ c.args.depth = omega arith in
    found-deeper (λ (run : Vec Event g.row.A.Denot). run.items) c.args.goal.now c.loop-few.few c.args.depth c.args.choices.now c.args.world.now
    c.loop-few.world c.in-Ok.searched.found c.loop-few.invariant.world less c.in-Ok.ensures.found

pub returns-then-is_last-clause-shortest : goal.returns-then-is_last-clause-shortest
returns-then-is_last-clause-shortest g c =
    found-shortest (λ (run : Vec Event g.row.A.Denot). run.items) c.args.goal.now c.loop-few.few c.args.depth c.args.choices.now c.args.world.now
    c.loop-few.world c.in-Ok.searched.found c.loop-few.invariant.below c.in-Ok.ensures.found

pub returns-then-is_last-clause-none : goal.returns-then-is_last-clause-none
returns-then-is_last-clause-none g c =
    let last = sym c.is_last.ensures ∙ c.if-is_last.true in
    none_deeper c.args.goal.now c.args.depth c.args.choices.now c.args.world.now c.in-Ok.searched.found c.in-Ok.searched.ended last
    (never_deeper c.args.goal.now c.args.choices.now c.args.world.now c.loop-few.world c.in-Ok.searched.found c.in-Ok.searched.ended
    c.loop-few.invariant.world c.in-Ok.ensures.never)

pub returns-then-is_last-clause-ended : goal.returns-then-is_last-clause-ended
returns-then-is_last-clause-ended g c =
    let last = sym c.is_last.ensures ∙ c.if-is_last.true in
    let less : c.loop-few.few ≤ c.args.depth = omega arith in
    ended_deeper c.loop-few.few c.args.depth c.args.choices.now c.args.world.now c.loop-few.world c.in-Ok.searched.found c.in-Ok.searched.ended
    c.loop-few.invariant.world less last c.in-Ok.ensures.ended

pub returns-then-is_last-clause-ends : goal.returns-then-is_last-clause-ends
returns-then-is_last-clause-ends g c =
    let last = sym c.is_last.ensures ∙ c.if-is_last.true in
    let less : c.loop-few.few ≤ c.args.depth = omega arith in
    ends_deeper c.args.goal.now c.loop-few.few c.args.depth c.args.choices.now c.args.world.now c.loop-few.world c.in-Ok.searched.found
    c.in-Ok.searched.ended c.loop-few.invariant.world less last c.in-Ok.ensures.ended

pub returns-then-is_last-clause-never : goal.returns-then-is_last-clause-never
returns-then-is_last-clause-never g c =
    never_deeper c.args.goal.now c.args.choices.now c.args.world.now c.loop-few.world c.in-Ok.searched.found c.in-Ok.searched.ended
    c.loop-few.invariant.world c.in-Ok.ensures.never

pub returns-then-is_last-clause-worlds : goal.returns-then-is_last-clause-worlds
returns-then-is_last-clause-worlds g c =
    let h = c.args.goal.now in
    let d = c.args.depth in
    let cs = c.args.choices.now in
    let w = c.args.world.now in
    let few = c.loop-few.few in
    let last = sym c.is_last.ensures ∙ c.if-is_last.true in
    let here = sym (stops_here (λ (run : Vec Event g.row.A.Denot). run.items) h few cs w c.loop-few.world c.in-Ok.searched.found c.in-Ok.searched.ended
    c.loop-few.invariant.world c.in-Ok.ensures.first c.in-Ok.ensures.ends) ∙ last in
    ap (λ (n : ℕ). c.loop-few.worlds + n) c.in-Ok.ensures.worlds
    ∙ ends_count each h cs w c.loop-few.world c.loop-few.invariant.world few d c.loop-few.worlds c.loop-few.invariant.worlds (d - few) refl (inr here)

pub returns-then-is_last-clause-asked : goal.returns-then-is_last-clause-asked
returns-then-is_last-clause-asked g c =
    let h = c.args.goal.now in
    let d = c.args.depth in
    let cs = c.args.choices.now in
    let w = c.args.world.now in
    let few = c.loop-few.few in
    let last = sym c.is_last.ensures ∙ c.if-is_last.true in
    let here = sym (stops_here (λ (run : Vec Event g.row.A.Denot). run.items) h few cs w c.loop-few.world c.in-Ok.searched.found c.in-Ok.searched.ended
    c.loop-few.invariant.world c.in-Ok.ensures.first c.in-Ok.ensures.ends) ∙ last in
    ap (λ (n : ℕ). c.loop-few.asked + n) c.in-Ok.ensures.asked
    ∙ ends_count (asking h) h cs w c.loop-few.world c.loop-few.invariant.world few d c.loop-few.asked c.loop-few.invariant.asked (d - few) refl (inr here)

pub returns-in-Err-search-clause-stopped : goal.returns-in-Err-search-clause-stopped
returns-in-Err-search-clause-stopped g c =
    let all : c.loop-few.few ≡ c.args.depth = omega arith in
    stops-below c.args.goal.now c.args.choices.now c.args.world.now c.loop-few.world c.loop-few.invariant.world c.loop-few.few c.args.depth c.loop-few.worlds
    c.loop-few.invariant.worlds c.in-Err-search.stopped c.args.most c.loop-few.invariant.within
    (subst (λ (n : ℕ). IsStop (c.args.most - c.loop-few.worlds)
    (worlds_visited c.args.goal.now n c.args.choices.now c.loop-few.world) c.in-Err-search.stopped) (sym all) c.in-Err-search.ensures.stopped)

pub returns-in-Ok-search-clause-first : goal.returns-in-Ok-search-clause-first
returns-in-Ok-search-clause-first g c =
    let h = c.args.goal.now in
    let d = c.args.depth in
    let cs = c.args.choices.now in
    let w = c.args.world.now in
    let all : c.loop-few.few ≡ d = omega arith in
    let last : d - c.loop-few.few ≡ 0 = omega arith in
    c.in-Ok-search.ensures.first
    ∙ ap (λ (n : ℕ). first_run h n cs c.loop-few.world) (sym all)
    ∙ ends_first h cs w c.loop-few.world c.loop-few.invariant.world c.loop-few.few d c.loop-few.invariant.first 0 last (inl refl)

pub returns-in-Ok-search-clause-worlds : goal.returns-in-Ok-search-clause-worlds
returns-in-Ok-search-clause-worlds g c =
    let h = c.args.goal.now in
    let d = c.args.depth in
    let cs = c.args.choices.now in
    let w = c.args.world.now in
    let all : c.loop-few.few ≡ d = omega arith in
    let last : d - c.loop-few.few ≡ 0 = omega arith in
    ap (λ (n : ℕ). c.loop-few.worlds + n) (c.in-Ok-search.ensures.worlds ∙ ap (λ (n : ℕ). worlds_visited h n cs c.loop-few.world) (sym all))
    ∙ ends_count each h cs w c.loop-few.world c.loop-few.invariant.world c.loop-few.few d c.loop-few.worlds c.loop-few.invariant.worlds 0 last (inl refl)

pub returns-in-Ok-search-clause-asked : goal.returns-in-Ok-search-clause-asked
returns-in-Ok-search-clause-asked g c =
    let h = c.args.goal.now in
    let d = c.args.depth in
    let cs = c.args.choices.now in
    let w = c.args.world.now in
    let all : c.loop-few.few ≡ d = omega arith in
    let last : d - c.loop-few.few ≡ 0 = omega arith in
    ap (λ (n : ℕ). c.loop-few.asked + n) (c.in-Ok-search.ensures.asked ∙ ap (λ (n : ℕ). tally_of (asking h) h n cs c.loop-few.world) (sym all))
    ∙ ends_count (asking h) h cs w c.loop-few.world c.loop-few.invariant.world c.loop-few.few d c.loop-few.asked c.loop-few.invariant.asked 0 last (inl refl)

pub returns-in-Ok-search-clause-found : goal.returns-in-Ok-search-clause-found
returns-in-Ok-search-clause-found g c =
    let h = c.args.goal.now in
    let d = c.args.depth in
    let cs = c.args.choices.now in
    let w = c.args.world.now in
    let less : d ≤ d = omega arith in
    found-deeper (λ (run : Vec Event g.row.A.Denot). run.items) h d d cs w c.loop-few.world c.in-Ok-search.searched.found
    c.loop-few.invariant.world less c.in-Ok-search.ensures.found

pub returns-in-Ok-search-clause-shortest : goal.returns-in-Ok-search-clause-shortest
returns-in-Ok-search-clause-shortest g c =
    let h = c.args.goal.now in
    let d = c.args.depth in
    let cs = c.args.choices.now in
    let w = c.args.world.now in
    let all : c.loop-few.few ≡ d = omega arith in
    let below = subst (λ (n : ℕ). NoneBelow h n d cs w) all c.loop-few.invariant.below in
    found-shortest (λ (run : Vec Event g.row.A.Denot). run.items) h d d cs w c.loop-few.world c.in-Ok-search.searched.found below c.in-Ok-search.ensures.found

pub returns-in-Ok-search-clause-none : goal.returns-in-Ok-search-clause-none
returns-in-Ok-search-clause-none g c =
    let h = c.args.goal.now in
    let d = c.args.depth in
    let cs = c.args.choices.now in
    let w = c.args.world.now in
    subst (λ (v : World). IfNone c.in-Ok-search.searched.found ((es : List Event)
    → ¬ (LeadsTo h d cs v es))) c.loop-few.invariant.world c.in-Ok-search.ensures.none

pub returns-in-Ok-search-clause-ended : goal.returns-in-Ok-search-clause-ended
returns-in-Ok-search-clause-ended g c =
    subst (λ (v : World). IfNone c.in-Ok-search.searched.found (IsTrue c.in-Ok-search.searched.ended ↔ EndBefore c.args.depth c.args.choices.now v))
    c.loop-few.invariant.world c.in-Ok-search.ensures.ended

pub returns-in-Ok-search-clause-ends : goal.returns-in-Ok-search-clause-ends
returns-in-Ok-search-clause-ends g c =
    ends_at_last c.args.goal.now c.args.depth c.args.choices.now c.args.world.now c.loop-few.world c.in-Ok-search.searched.found
    c.in-Ok-search.searched.ended c.loop-few.invariant.world c.in-Ok-search.ensures.ends

pub returns-in-Ok-search-clause-never : goal.returns-in-Ok-search-clause-never
returns-in-Ok-search-clause-never g c =
    never_deeper c.args.goal.now c.args.choices.now c.args.world.now c.loop-few.world c.in-Ok-search.searched.found c.in-Ok-search.searched.ended
    c.loop-few.invariant.world c.in-Ok-search.ensures.never
