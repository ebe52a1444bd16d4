-- Searches of one depth after another.
use Rattle.std.specs.Prelude.{◌≡◌, ◌⊎◌, ℕ, zero, suc, ◌+◌, ◌-◌, ◌<◌, ◌≤◌, ◌↔◌, Bool, true, false, ◌||◌, List, length, Option, Some, None, is_some, IfSome, IfNone, IsTrue, refl}
use Rattle.std.specs.Option.{option_map, option_or}
use Rattle.std.proofs.Common.{◌∙◌, ap, sym, subst, inl, inr, arith}
use Rattle.std.proofs.Math.Nat.{eq-or-lt_of_le}
use Rattle.pfl_language.specs.declared.event.Event.{Event}
use Rattle.pfl_world.specs.Worlds.{World, IsWorld}
use Rattle.pfl_search.proofs.Leading.{asked-never, ended-before, ends-before, first-leads, never-asked}
use Rattle.pfl_search.specs.Laws.{NeverAsked, NoVisitIsNeverAsked}
use Rattle.pfl_search.specs.Runs.{EndBefore, IsRunOf, IsStop, LeadsTo, NeverLeads, first_deeper, first_run, shortest_run}
use Rattle.pfl_search.specs.Visits.{Kind, Visit, asking, each, first_visit, is_ended, tally_deeper, tally_of, visited_to_shortest, worlds_visited}
use Rattle.pfl_language.specs.declared.choice.Choice.{Choice}
use Rattle.pfl_language.specs.declared.goal.Goal.{Goal}
use Rattle.pfl_search.specs.declared.stopped.Stopped.{Stopped}
use Rattle.pfl_search.specs.declared.stopped.Stopped.TheVariants.{NoMemory, TooMany}

-- a run that leads to the goal within a depth does so within any that it has no more events than
pub leads_within : (g : Goal) (d few : ℕ) (cs : List Choice) (w : World) (es : List Event) → LeadsTo g d cs w es → length es ≤ few → LeadsTo g few cs w es
leads_within g d few cs w es l short = record { is_run = l.is_run; within = short; world = l.world; reached = l.reached; met = l.met }

-- no run of fewer events leads to the goal
abbrev pub NoneBelow : Goal → ℕ → ℕ → List Choice → World → Type 0
NoneBelow g few d cs w = (es : List Event) → LeadsTo g d cs w es → few ≤ length es

pub none-at_first : (g : Goal) (d : ℕ) (cs : List Choice) (w : World) → NoneBelow g 0 d cs w
none-at_first g d cs w es l = omega arith

long : (g : Goal) (few d : ℕ) (cs : List Choice) (w : World) (es : List Event) → LeadsTo g d cs w es → few ≤ length es
    → (LeadsTo g few cs w es → ⊥) → (few ≡ length es) ⊎ (few < length es) → few + 1 ≤ length es
long g few d cs w es l past none (inl same) = absurd (none (leads_within g d few cs w es l (omega arith)))
long g few d cs w es l past none (inr more) = omega arith

-- none of this many events either
pub none-more : (g : Goal) (few d : ℕ) (cs : List Choice) (w : World) → NoneBelow g few d cs w
    → ((es : List Event) → LeadsTo g few cs w es → ⊥) → NoneBelow g (few + 1) d cs w
none-more g few d cs w below none es l = long g few d cs w es l (below es l) (none es) (let past = below es l in eq-or-lt_of_le past)

none_of : {V : Type 0} (P : Type 0) (o : Option V) → is_some o ≡ false → IfNone o P → P
none_of P None e h = h
none_of P (Some v) e h = absurd cc

-- a search to this depth found nothing
pub none-after : {V : Type 0} (g : Goal) (few d : ℕ) (cs : List Choice) (w at : World) (o : Option V) → at ≡ w → is_some o ≡ false → NoneBelow g few d cs w
    → IfNone o ((es : List Event) → ¬ (LeadsTo g few cs at es)) → NoneBelow g (few + 1) d cs w
none-after g few d cs w at o same shut below none =
    none-more g few d cs w below (subst (λ (v : World). (es : List Event)
    → ¬ (LeadsTo g few cs v es)) same (none_of ((es : List Event) → ¬ (LeadsTo g few cs at es)) o shut none))

-- what it found leads to the goal within the depth
pub found-deeper : {V : Type 0} (items : V → List Event) (g : Goal) (few d : ℕ) (cs : List Choice) (w at : World) (o : Option V) → at ≡ w → few ≤ d
    → IfSome o (λ v. LeadsTo g few cs at (items v)) → IfSome o (λ v. LeadsTo g d cs w (items v))
found-deeper items g few d cs w at None same less h = tt
found-deeper items g few d cs w at (Some v) same less h =
    let short = h.within in
    leads_within g few d cs w (items v) (subst (λ (u : World). LeadsTo g few cs u (items v)) same h) (omega arith)

-- and is no longer than any other that does
pub found-shortest : {V : Type 0} (items : V → List Event) (g : Goal) (few d : ℕ) (cs : List Choice) (w at : World) (o : Option V) → NoneBelow g few d cs w
    → IfSome o (λ v. LeadsTo g few cs at (items v)) → IfSome o (λ v. (es : List Event) → LeadsTo g d cs w es → length (items v) ≤ length es)
found-shortest items g few d cs w at None below h = tt
found-shortest items g few d cs w at (Some v) below h = λ es l. let short = h.within in let past = below es l in omega arith

-- ---- what is found first, and how many worlds are visited

pub found_same : {V X : Type 0} (items : V → X) (o : Option V) (r : Option X) → option_map items o ≡ r → is_some o ≡ is_some r
found_same items None r e = ap is_some e
found_same items (Some v) r e = ap is_some e

visit_found : (g : Goal) (depth : ℕ) (cs : List Choice) (w : World) → is_some (first_visit g depth cs w) ≡ is_some (first_run g depth cs w)
visit_found g depth cs w = found_same (λ (v : Visit). v.run) (first_visit g depth cs w) (first_run g depth cs w) refl

-- where a search finds no run, `option_or` goes on to the next
or_none : {X : Type 0} (o r : Option X) → is_some o ≡ false → option_or o r ≡ r
or_none None r e = refl
or_none (Some x) r e = absurd cc

-- and where it finds one, it stays with it
or_some : {X : Type 0} (o r : Option X) → is_some o ≡ true → option_or o r ≡ o
or_some None r e = absurd cc
or_some (Some x) r e = refl

module _ (kind : Kind) where
  tally_last : (g : Goal) (depth : ℕ) (cs : List Choice) (w : World) → tally_deeper kind g zero depth cs w ≡ tally_of kind g depth cs w
  unfolding tally_deeper
  tally_last g depth cs w = refl

  -- the search finds a run, or ends
  tally_stops : (g : Goal) (more depth : ℕ) (cs : List Choice) (w : World) → is_some (first_visit g depth cs w) || is_ended g depth cs w ≡ true
      → tally_deeper kind g (suc more) depth cs w ≡ tally_of kind g depth cs w
  unfolding tally_deeper
  tally_stops g more depth cs w found = rw found (omega arith)

  tally_next : (g : Goal) (more depth : ℕ) (cs : List Choice) (w : World) → is_some (first_visit g depth cs w) || is_ended g depth cs w ≡ false
      → tally_deeper kind g (suc more) depth cs w ≡ tally_of kind g depth cs w + tally_deeper kind g more (depth + 1) cs w
  unfolding tally_deeper
  tally_next g more depth cs w none = rw none refl

visited_part : (g : Goal) (more depth : ℕ) (cs : List Choice) (w : World) → worlds_visited g depth cs w ≤ tally_deeper each g more depth cs w
unfolding tally_deeper
visited_part g zero depth cs w = omega arith
visited_part g (suc more) depth cs w = omega arith

pub either : (a b : Bool) → a || b ≡ false → (a ≡ false) × (b ≡ false)
either true b h = absurd cc
either false b h = (refl, h)

or_right : (a b : Bool) → b ≡ true → a || b ≡ true
or_right true b h = refl
or_right false b h = h

or_neither : (a b : Bool) → a ≡ false → b ≡ false → a || b ≡ false
or_neither true b h k = absurd cc
or_neither false b h k = k

first_last : (g : Goal) (depth : ℕ) (cs : List Choice) (w : World) → first_deeper g zero depth cs w ≡ first_run g depth cs w
unfolding first_deeper
first_last g depth cs w = refl

first_found : (g : Goal) (more depth : ℕ) (cs : List Choice) (w : World) → is_some (first_run g depth cs w) ≡ true
    → first_deeper g (suc more) depth cs w ≡ first_run g depth cs w
unfolding first_deeper
first_found g more depth cs w found = or_some (first_run g depth cs w) (first_deeper g more (depth + 1) cs w) found

first_next : (g : Goal) (more depth : ℕ) (cs : List Choice) (w : World) → is_some (first_run g depth cs w) ≡ false
    → first_deeper g (suc more) depth cs w ≡ first_deeper g more (depth + 1) cs w
unfolding first_deeper
first_next g more depth cs w none = or_none (first_run g depth cs w) (first_deeper g more (depth + 1) cs w) none

no_run : (g : Goal) (depth : ℕ) (cs : List Choice) (w : World) → NeverLeads g cs w → (o : Option (List Event)) → first_run g depth cs w ≡ o → o ≡ None
no_run g depth cs w never None is = refl
no_run g depth cs w never (Some es) is = absurd (never depth es (first-leads g depth cs w es is))

first_never : (g : Goal) (more depth : ℕ) (cs : List Choice) (w : World) → NeverLeads g cs w → first_deeper g more depth cs w ≡ None
unfolding first_deeper
first_never g zero depth cs w never = no_run g depth cs w never (first_run g depth cs w) refl
first_never g (suc more) depth cs w never =
    rw (no_run g depth cs w never (first_run g depth cs w) refl) (first_never g more (depth + 1) cs w never)

-- The loop has come to a depth: the run that is found first is the first of the searches that are left.
module _ (g : Goal) (cs : List Choice) (w at : World) (same : at ≡ w) (few d : ℕ)
    (first : first_deeper g (d - few) few cs w ≡ shortest_run g d cs w) where
  -- this search is the last, or finds a run
  module _ (more : ℕ) (left : d - few ≡ more) (ends : (more ≡ 0) ⊎ (is_some (first_run g few cs w) ≡ true)) where
    last_first : (n : ℕ) → (n ≡ 0) ⊎ (is_some (first_run g few cs w) ≡ true) → first_deeper g n few cs w ≡ first_run g few cs w
    last_first zero e = first_last g few cs w
    last_first (suc n) (inl none) = absurd (omega arith)
    last_first (suc n) (inr found) = first_found g n few cs w found

    pub ends_first : first_run g few cs at ≡ shortest_run g d cs w
    ends_first = ap (first_run g few cs) same ∙ sym (last_first more ends) ∙ ap (λ (n : ℕ). first_deeper g n few cs w) (sym left) ∙ first

  -- this search finds none, and there is none of any length
  pub never_first : NeverLeads g cs w → first_run g few cs at ≡ shortest_run g d cs w
  never_first never =
      no_run g few cs at (subst (λ (v : World). NeverLeads g cs v) (sym same) never) (first_run g few cs at) refl
      ∙ sym (first_never g (d - few) few cs w never) ∙ first

  left_is : few < d → d - few ≡ suc (d - (few + 1))
  left_is less = omega arith

  -- this search finds none, and is not the last
  pub next_first : few < d → is_some (first_run g few cs w) ≡ false → first_deeper g (d - (few + 1)) (few + 1) cs w ≡ shortest_run g d cs w
  next_first less none =
      sym (ap (λ (n : ℕ). first_deeper g n few cs w) (left_is less) ∙ first_next g (d - (few + 1)) few cs w none) ∙ first

-- `so_far` of the worlds of a kind that are visited in all were, when the loop has come to a depth.
module _ (kind : Kind) (g : Goal) (cs : List Choice) (w at : World) (same : at ≡ w) (few d so_far : ℕ)
    (count : so_far + tally_deeper kind g (d - few) few cs w ≡ tally_deeper kind g d 0 cs w) where
  pub here : tally_of kind g few cs at ≡ tally_of kind g few cs w
  here = ap (tally_of kind g few cs) same

  -- this search is the last, or finds a run, or ends
  module _ (more : ℕ) (left : d - few ≡ more) (ends : (more ≡ 0) ⊎ (is_some (first_visit g few cs w) || is_ended g few cs w ≡ true)) where
    last_count : (n : ℕ) → (n ≡ 0) ⊎ (is_some (first_visit g few cs w) || is_ended g few cs w ≡ true)
        → tally_deeper kind g n few cs w ≡ tally_of kind g few cs w
    last_count zero e = tally_last kind g few cs w
    last_count (suc n) (inl none) = absurd (omega arith)
    last_count (suc n) (inr found) = tally_stops kind g n few cs w found

    pub ends_count : so_far + tally_of kind g few cs at ≡ tally_deeper kind g d 0 cs w
    ends_count =
        let all = ap (λ (n : ℕ). tally_deeper kind g n few cs w) left ∙ last_count more ends in
        let seen = here in
        omega arith

  pub next_count : few < d → is_some (first_visit g few cs w) || is_ended g few cs w ≡ false
      → so_far + tally_of kind g few cs at + tally_deeper kind g (d - (few + 1)) (few + 1) cs w ≡ tally_deeper kind g d 0 cs w
  next_count less none =
      let more : d - few ≡ suc (d - (few + 1)) = omega arith in
      let all = ap (λ (n : ℕ). tally_deeper kind g n few cs w) more ∙ tally_next kind g (d - (few + 1)) few cs w none in
      let seen = here in
      omega arith

-- where too few worlds are left for the search of a depth, too few were to be had for all
pub stops-below : (g : Goal) (cs : List Choice) (w at : World) → at ≡ w → (few d worlds : ℕ)
    → worlds + tally_deeper each g (d - few) few cs w ≡ visited_to_shortest g d cs w
    → (s : Stopped) (most : ℕ) → worlds ≤ most → IsStop (most - worlds) (worlds_visited g few cs at) s
    → IsStop most (visited_to_shortest g d cs w) s
stops-below g cs w at same few d worlds count NoMemory most within h = tt
stops-below g cs w at same few d worlds count TooMany most within h =
    let part = visited_part g (d - few) few cs w in
    let seen : worlds_visited g few cs at ≡ worlds_visited g few cs w = ap (worlds_visited g few cs) same in
    omega arith

-- ---- whether the search of a depth is the last

-- it finds a run, or ends
pub stops_here : {V : Type 0} (items : V → List Event) (g : Goal) (few : ℕ) (cs : List Choice) (w at : World) (o : Option V) (ended : Bool) → at ≡ w
    → option_map items o ≡ first_run g few cs at → ended ≡ is_ended g few cs at
    → is_some o || ended ≡ is_some (first_visit g few cs w) || is_ended g few cs w
stops_here items g few cs w at o ended same first is =
    ap (λ (b : Bool). b || ended) (found_same items o (first_run g few cs w) (first ∙ ap (first_run g few cs) same) ∙ sym (visit_found g few cs w))
    ∙ ap (λ (b : Bool). is_some (first_visit g few cs w) || b) (is ∙ ap (is_ended g few cs) same)

-- a search that ends says of each depth what it says of its own
pub ended_deeper : {V : Type 0} (few d : ℕ) (cs : List Choice) (w at : World) (o : Option V) (ended : Bool) → at ≡ w → few ≤ d → is_some o || ended ≡ true
    → IfNone o (IsTrue ended ↔ EndBefore few cs at) → IfNone o (IsTrue ended ↔ EndBefore d cs w)
ended_deeper few d cs w at (Some v) ended same less stops h = tt
ended_deeper few d cs w at None ended same less stops h = (
  λ yes es is.
      let short = h.0 yes es (subst (λ (v : World). IsRunOf cs v es) (sym same) is) in
      omega arith,
  λ short. stops,
)

-- and its own depth says of runs what each does
pub ends_deeper : {V : Type 0} (g : Goal) (few d : ℕ) (cs : List Choice) (w at : World) (o : Option V) (ended : Bool) → at ≡ w → few ≤ d
    → is_some o || ended ≡ true → IfNone o (IsTrue ended ↔ EndBefore few cs at) → IfNone o (ended ≡ is_ended g d cs w)
ends_deeper g few d cs w at (Some v) ended same less stops h = tt
ends_deeper {V = V} g few d cs w at None ended same less stops h =
    let deeper = ended_deeper {V = V} few d cs w at None ended same less stops h in
    stops ∙ sym (ended-before g d cs w (deeper.0 stops))

-- the same where it is the last one
pub ends_at_last : {V : Type 0} (g : Goal) (d : ℕ) (cs : List Choice) (w at : World) (o : Option V) (ended : Bool) → at ≡ w
    → ended ≡ is_ended g d cs at → IfNone o (ended ≡ is_ended g d cs w)
ends_at_last g d cs w at (Some v) ended same is = tt
ends_at_last g d cs w at None ended same is = is ∙ ap (is_ended g d cs) same

pub never_deeper : {V : Type 0} (g : Goal) (cs : List Choice) (w at : World) (o : Option V) (ended : Bool) → at ≡ w
    → IfNone o (IsTrue ended → NeverLeads g cs at) → IfNone o (IsTrue ended → NeverLeads g cs w)
never_deeper g cs w at (Some v) ended same h = tt
never_deeper g cs w at None ended same h = λ yes. subst (λ (v : World). NeverLeads g cs v) same (h yes)

-- and where it finds none, none is found
pub none_deeper : {V : Type 0} (g : Goal) (d : ℕ) (cs : List Choice) (w : World) (o : Option V) (ended : Bool) → is_some o || ended ≡ true
    → IfNone o (IsTrue ended → NeverLeads g cs w) → IfNone o ((es : List Event) → ¬ (LeadsTo g d cs w es))
none_deeper g d cs w (Some v) ended stops h = tt
none_deeper g d cs w None ended stops h = λ es leads. h stops d es leads

-- the first run of a search that finds one, or ends, is the first of all
pub stops_first : {V : Type 0} (items : V → List Event) (g : Goal) (cs : List Choice) (w at : World) (same : at ≡ w) (few d : ℕ)
    → first_deeper g (d - few) few cs w ≡ shortest_run g d cs w
    → (o : Option V) (ended : Bool) → is_some o || ended ≡ true → option_map items o ≡ first_run g few cs at
    → IfNone o (IsTrue ended → NeverLeads g cs at)
    → option_map items o ≡ shortest_run g d cs w
stops_first items g cs w at same few d first (Some v) ended stops is never =
    let found : is_some (first_run g few cs w) ≡ true =
    sym (found_same items (Some v) (first_run g few cs w) (is ∙ ap (first_run g few cs) same)) in
    is ∙ ends_first g cs w at same few d first (d - few) refl (inr found)
stops_first items g cs w at same few d first None ended stops is never =
    is ∙ never_first g cs w at same few d first (subst (λ (v : World). NeverLeads g cs v) same (never stops))

-- ---- where the question is asked

asked_within : (g : Goal) (few d : ℕ) (cs : List Choice) (w : World) → few ≤ d → NeverAsked g d cs w → NeverAsked g few cs w
asked_within g few d cs w less never es last is short at = never es last is (omega arith) at

-- where runs end there is no longer one
asked_ends : (g : Goal) (few d : ℕ) (cs : List Choice) (w : World) → EndBefore few cs w → NeverAsked g few cs w → NeverAsked g d cs w
asked_ends g few d cs w ends never es last is short at = let less = ends es is in never es last is (omega arith) at

neither_run : (o r : Option (List Event)) → option_or o r ≡ None → (o ≡ None) × (r ≡ None)
neither_run None r e = (refl, e)
neither_run (Some es) r e = absurd cc

first_none : (g : Goal) (more depth : ℕ) (cs : List Choice) (w : World) → first_deeper g (suc more) depth cs w ≡ None
    → (first_run g depth cs w ≡ None) × (first_deeper g more (depth + 1) cs w ≡ None)
unfolding first_deeper
first_none g more depth cs w none = neither_run (first_run g depth cs w) (first_deeper g more (depth + 1) cs w) none

sum_zero : (m n k : ℕ) → k ≡ m + n → k ≡ 0 → n ≡ 0
sum_zero m n k is none = omega arith

zero_sum : (m n k : ℕ) → k ≡ m + n → m ≡ 0 → n ≡ 0 → k ≡ 0
zero_sum m n k is one other = omega arith

module _ (g : Goal) (cs : List Choice) (w : World) (known : IsWorld w) where
  asked_next : (more depth d : ℕ) → depth ≤ d → first_run g depth cs w ≡ None
      → (tally_deeper (asking g) g more (depth + 1) cs w ≡ 0) ↔ NeverAsked g d cs w
      → (ends : Bool) → is_ended g depth cs w ≡ ends → (tally_deeper (asking g) g (suc more) depth cs w ≡ 0) ↔ NeverAsked g d cs w
  asked_next more depth d less none later true is =
      let all = tally_stops (asking g) g more depth cs w (or_right (is_some (first_visit g depth cs w)) (is_ended g depth cs w) is) in (
        λ unasked. asked_ends g depth d cs w (ends-before g depth cs w known none is) (asked-never g depth cs w known none (sym all ∙ unasked)),
        λ never. all ∙ never-asked g depth cs w (asked_within g depth d cs w less never),
      )
  asked_next more depth d less none later false is =
      let shut = visit_found g depth cs w ∙ ap is_some none in
      let all = tally_next (asking g) g more depth cs w (or_neither (is_some (first_visit g depth cs w)) (is_ended g depth cs w) shut is) in (
        λ unasked. later.0 (sum_zero _ _ _ all unasked),
        λ never. zero_sum _ _ _ all (never-asked g depth cs w (asked_within g depth d cs w less never)) (later.1 never),
      )

  asked_deeper : (more depth d : ℕ) → depth + more ≡ d → first_deeper g more depth cs w ≡ None
      → (tally_deeper (asking g) g more depth cs w ≡ 0) ↔ NeverAsked g d cs w
  asked_deeper zero depth d all none =
      let last = tally_last (asking g) g depth cs w in
      let no_run_here = sym (first_last g depth cs w) ∙ none in (
        λ unasked. asked_within g d depth cs w (omega arith) (asked-never g depth cs w known no_run_here (sym last ∙ unasked)),
        λ never. last ∙ never-asked g depth cs w (asked_within g depth d cs w (omega arith) never),
      )
  asked_deeper (suc more) depth d all none =
      let parts = first_none g more depth cs w none in
      asked_next more depth d (omega arith) parts.0 (asked_deeper more (depth + 1) d (omega arith) parts.1) (is_ended g depth cs w) refl

pub no_visit_asked : NoVisitIsNeverAsked
no_visit_asked g depth cs w known none = asked_deeper g cs w known depth 0 depth (omega arith) none
