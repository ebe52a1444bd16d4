-- A search, from the world that it is given to the answer of a timeline.
use Rattle.std.specs.Prelude.{◌≡◌, ◌<◌, ◌≤◌, ◌↔◌, ℕ, Bool, List, length, Option, Some, None, Result, Ok, Err, IfOk, IfSome, IfNone, IsTrue, if◌then◌else◌, refl}
use Rattle.std.specs.Option.{option_map, option_map_or}
use Rattle.std.proofs.Common.{◌∙◌, ap, sym, subst}
use Rattle.std.proofs.lemmas.Bool.{le-ltb, lt-ltb}
use Rattle.pfl_language.specs.declared.event.Event.{Event}
use Rattle.pfl_search.specs.Runs.{EndBefore, IsStop, NeverLeads, shortest_run}
use Rattle.pfl_search.specs.world.Runs.{run}
use Rattle.pfl_search.specs.world.Worlds.{World}
use Rattle.pfl_language.specs.declared.refused.Refused.TheVariants as refused
use Rattle.pfl_search.specs.declared.stopped.Stopped.{Stopped}
use Rattle.pfl_search.specs.declared.stopped.Stopped.TheVariants.{TooMany}
use Rattle.pfl_timeline.specs.Rooted.{Rooted, shown}
use Rattle.pfl_timeline.specs.Searches.{Finding, GaveUp, Refused, Sought, Reaches, IsAnswer, IsNone, all_end, finding, finding_from, finding_on}
use Rattle.pfl_timeline.specs.Searches.{found_by, runs_to_try, times_asked}
use Rattle.pfl_timeline.specs.Timelines.{Branch, Timeline, branch_of, standing, world_of}
use Rattle.pfl_timeline.specs.inner.Searching.{Gives}

some_same : {X : Type 0} {x y : X} → Some x ≡ Some y → x ≡ y
some_same is = cc

-- where there is no run, what is said of that is one record
none_is : {V : Type 0} (s : Sought) (w : World) (ended : Bool) (o : Option V) → IfNone o ((events : List Event) → ¬ (Reaches s w events))
    → IfNone o (IsTrue ended ↔ EndBefore s.depth s.choices w) → IfNone o (IsTrue ended → NeverLeads s.goal s.choices w)
    → IfNone o (IsNone s w ended)
none_is s w ended None none ends never = record { none = none; fewer = ends; never = never }
none_is s w ended (Some v) none ends never = tt

-- what a search gives, clause by clause, is one record
pub gives_all : {S V E : Type 0} (found_of : S → Option V) (tried asked : S → ℕ) (ended : S → Bool) (items : V → List Event) (s : Sought)
    (w : World) (r : Result S E)
    → IfOk r (λ x. option_map items (found_of x) ≡ shortest_run s.goal s.depth s.choices w)
    → IfOk r (λ x. IfSome (found_of x) (λ run. Reaches s w (items run)))
    → IfOk r (λ x. IfSome (found_of x) (λ run. (events : List Event) → Reaches s w events → length (items run) ≤ length events))
    → IfOk r (λ x. IfNone (found_of x) ((events : List Event) → ¬ (Reaches s w events)))
    → IfOk r (λ x. IfNone (found_of x) (IsTrue (ended x) ↔ EndBefore s.depth s.choices w))
    → IfOk r (λ x. IfNone (found_of x) (IsTrue (ended x) → NeverLeads s.goal s.choices w))
    → IfOk r (λ x. IfNone (found_of x) (ended x ≡ all_end s w))
    → IfOk r (λ x. tried x ≡ runs_to_try s w) → IfOk r (λ x. asked x ≡ times_asked s w) → IfOk r (λ x. tried x ≤ s.most)
    → IfOk r (λ x. Gives items s w (found_of x) (tried x) (asked x) (ended x))
gives_all found_of tried asked ended items s w (Ok x) first leads shortest none before never ends counted asks within =
    record {
      first = first;
      leads = leads;
      shortest = shortest;
      none = none_is s w (ended x) (found_of x) none before never;
      ends = ends;
      counted = counted;
      asks = asks;
      within = within;
    }
gives_all found_of tried asked ended items s w (Err e) first leads shortest none before never ends counted asks within = tt

-- whether all runs end is said where there is none alone
said_of_none : {V : Type 0} (items : V → List Event) (name : List ℕ) (depth tried asked : ℕ) (ended ends : Bool) (o : Option V)
    → IfNone o (ended ≡ ends)
    → found_by name depth tried asked ended (option_map items o) ≡ found_by name depth tried asked ends (option_map items o)
said_of_none items name depth tried asked ended ends None is = ap (λ (e : Bool). found_by name depth tried asked e None) is
said_of_none items name depth tried asked ended ends (Some v) is = refl

-- what is answered where as many runs as there are to try were allowed
abbrev all_tried : Sought → Branch → World → Finding
all_tried s b w = found_by b.name s.depth (runs_to_try s w) (times_asked s w) (all_end s w) (shortest_run s.goal s.depth s.choices w)

-- the answer where as many runs as there are to try were allowed
pub answered : {V : Type 0} (items : V → List Event) (s : Sought) (b : Branch) (w : World) (found : Option V) (tried asked : ℕ) (ended : Bool)
    → Gives items s w found tried asked ended → found_by b.name s.depth tried asked ended (option_map items found) ≡ finding_from s b w
unfolding finding_from
answered items s b w found tried asked ended gives =
    let within : runs_to_try s w ≤ s.most = subst (λ (n : ℕ). n ≤ s.most) gives.counted gives.within in
    ap (λ (n : ℕ). found_by b.name s.depth n asked ended (option_map items found)) gives.counted
    ∙ ap (λ (n : ℕ). found_by b.name s.depth (runs_to_try s w) n ended (option_map items found)) gives.asks
    ∙ said_of_none items b.name s.depth (runs_to_try s w) (times_asked s w) ended (all_end s w) found gives.ends
    ∙ ap (found_by b.name s.depth (runs_to_try s w) (times_asked s w) (all_end s w)) gives.first
    ∙ sym (ap (λ (t : Bool). if t then GaveUp s.most else all_tried s b w) (le-ltb s.most (runs_to_try s w) within))

-- what it means
pub meant : {V : Type 0} (items : V → List Event) (s : Sought) (b : Branch) (w : World) (found : Option V) (tried asked : ℕ) (ended : Bool)
    → Gives items s w found tried asked ended → IsAnswer s w (found_by b.name s.depth tried asked ended (option_map items found))
meant items s b w None tried asked ended gives = gives.none
meant items s b w (Some run) tried asked ended gives = (gives.leads, gives.shortest)

-- the answer where more runs are to be tried than were allowed
pub given_up : (s : Sought) (b : Branch) (w : World) → s.most < runs_to_try s w → GaveUp s.most ≡ finding_from s b w
unfolding finding_from
given_up s b w more = sym
    (ap (λ (t : Bool). if t then GaveUp s.most else all_tried s b w)
    (lt-ltb s.most (runs_to_try s w) more))

-- the same of the reason why the search stopped
pub stopped_at : (s : Sought) (b : Branch) (w : World) (why : Stopped) → IsStop s.most (runs_to_try s w) why → why ≡ TooMany
    → GaveUp s.most ≡ finding_from s b w
stopped_at s b w why stop is = given_up s b w (subst (λ (y : Stopped). IsStop s.most (runs_to_try s w) y) is stop)

-- the world that a branch of the timeline shows
pub world_at : (t : Timeline) (r : Rooted) → r.opening ≡ t.opening → world_of t r.branch ≡ shown r
unfolding world_of
world_at t r begins = ap (λ (o : World). run o (standing r.branch)) (sym begins)

-- the answer from where the branch of the name stands
pub finding-at : (t : Timeline) (name : List ℕ) (s : Sought) (b : Branch) (w : World) (f : Finding) → branch_of t name ≡ Some b
    → world_of t b ≡ Some w → f ≡ finding_from s b w
    → f ≡ finding t name s
finding-at t name s b w f here shows is =
    is ∙ sym (ap (λ (o : Option World). option_map_or (finding_from s b) o (Refused refused.NoBranch)) shows)
    ∙ sym (ap (λ (o : Option Branch). option_map_or (finding_on t s) o (Refused refused.NoBranch)) here)

-- where no branch has the name
pub finding-none : (t : Timeline) (name : List ℕ) (s : Sought) → branch_of t name ≡ None → Refused refused.NoBranch ≡ finding t name s
finding-none t name s none = sym (ap (λ (o : Option Branch). option_map_or (finding_on t s) o (Refused refused.NoBranch)) none)

-- what the answer means there
pub means-at : (t : Timeline) (name : List ℕ) (s : Sought) (b : Branch) (w : World) (f : Finding) → branch_of t name ≡ Some b
    → world_of t b ≡ Some w → IsAnswer s w f
    → (c : Branch) (v : World) → branch_of t name ≡ Some c → world_of t c ≡ Some v → IsAnswer s v f
means-at t name s b w f here shows is c v there sees =
    let one : b ≡ c = some_same (sym here ∙ there) in
    let seen : w ≡ v = some_same (sym shows ∙ ap (world_of t) one ∙ sees) in
    subst (λ (u : World). IsAnswer s u f) seen is
