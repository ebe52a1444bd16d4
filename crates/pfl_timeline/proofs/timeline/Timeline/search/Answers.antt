use Rattle.std.specs.Prelude.{is_some}
use Rattle.std.proofs.Common.{◌∙◌, ap}
use Rattle.std.proofs.lemmas.Result.{IfOk-weaker}
use Rattle.pfl_timeline.specs.Rooted.{Rooted}
use Rattle.pfl_timeline.specs.Searches.{sought}
use Rattle.pfl_timeline.proofs.Results.{anyway}
use Rattle.pfl_timeline.proofs.Places.{begins-there, found, kept-at, none-at, same_there}
use Rattle.pfl_timeline.proofs.Searched.{finding-at, finding-none, means-at, world_at}
use Rattle.pfl_timeline.proofs.timeline.Timeline.search.Goals as goal

pub returns-in_default-clause-finding : goal.returns-in_default-clause-finding
returns-in_default-clause-finding g c =
    finding-none c.args.self.now c.args.name.now (sought c.args.goal.now c.args.depth c.args.choices.now c.args.most)
    (none-at c.args.name.now _ _ c.self.view_is c.self.invariant c.in_default.ensures.value)

pub invariant_of-self-2 : goal.invariant_of-self-2
invariant_of-self-2 g c =
    let w = c.get_mut.follows.holds c.search-searched.new.self in
    let same = c.search-searched.ensures.unchanged in
    kept-at c.args.name.now _ _ _ c.self.view_is c.self.invariant c.in-Some.ensures.value _ _ w.0 (ap (λ (r : Rooted). r.opening) same)
    (ap (λ (r : Rooted). r.branch.name) same) c.known.ensures.branch

pub returns-clause-finding : goal.returns-clause-finding
returns-clause-finding g c =
    let t = c.args.self.now in
    let old = c.in-Some.branch.now in
    let here = found c.args.name.now _ _ _ c.self.view_is c.self.invariant c.in-Some.ensures.value in
    let begins = begins-there c.args.name.now _ _ _ c.self.view_is c.self.invariant c.in-Some.ensures.value in
    IfOk-weaker c.search-searched.result _ _
    (λ f h. finding-at t c.args.name.now (sought c.args.goal.now c.args.depth c.args.choices.now c.args.most) old.branch h.0 _ here
    (world_at t old begins ∙ h.1) h.2)
    c.search-searched.ensures.finding

pub returns-clause-means : goal.returns-clause-means
returns-clause-means g c =
    let t = c.args.self.now in
    let old = c.in-Some.branch.now in
    let here = found c.args.name.now _ _ _ c.self.view_is c.self.invariant c.in-Some.ensures.value in
    let begins = begins-there c.args.name.now _ _ _ c.self.view_is c.self.invariant c.in-Some.ensures.value in
    IfOk-weaker c.search-searched.result _ _
    (λ f h. means-at t c.args.name.now (sought c.args.goal.now c.args.depth c.args.choices.now c.args.most) old.branch h.0 _ here
    (world_at t old begins ∙ h.1) h.2)
    c.search-searched.ensures.means

pub returns-clause-memory : goal.returns-clause-memory
returns-clause-memory g c =
    anyway _ (ap is_some (found c.args.name.now _ _ _ c.self.view_is c.self.invariant c.in-Some.ensures.value))

pub returns-clause-unchanged : goal.returns-clause-unchanged
returns-clause-unchanged g c =
    let w = c.get_mut.follows.holds c.search-searched.new.self in
    same_there c.args.name.now _ _ _ c.self.view_is c.self.invariant c.in-Some.ensures.value _ _ w.0 c.search-searched.ensures.unchanged
