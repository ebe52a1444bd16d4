-- Counts that are added up branch by branch are the sums of a summary.
use Rattle.std.specs.Prelude.{◌≡◌, ◌<◌, ℕ, ◌+◌, List, [], ◌∷◌, map, take, length, get_or, refl}
use Rattle.std.specs.List.{fold, sum_by, AllByRecursion}
use Rattle.std.specs.Option.{option_map_or}
use Rattle.std.proofs.Common.{sym, ◌∙◌, ap, subst, arith}
use Rattle.std.proofs.lemmas.List.{length-map}
use Rattle.std.proofs.lemmas.List.Sums.{fold_more}
use Rattle.pfl_edits.specs.Maps as maps
use Rattle.pfl_timeline.specs.queue.Queues.{pending}
use Rattle.pfl_timeline.specs.world.Runs.{run}
use Rattle.pfl_timeline.specs.world.Worlds.{World}
use Rattle.pfl_timeline.specs.Rooted.{Rooted}
use Rattle.pfl_timeline.specs.Summaries.{summary, over_worlds}
use Rattle.pfl_timeline.specs.Timelines.{Branch, Timeline, standing, world_of}
use Rattle.pfl_session.specs.declared.counts.Counts.{Counts}
use Rattle.pfl_session.specs.Totals.{no_counts, in_world, counts_of_branch, added, counts_of_branches, AreAtMost, HasAtMost, HasFew}

few-each : (n : ℕ) (rs : List Rooted) → AllByRecursion (HasFew n) (map (λ r. r.branch) rs) → AllByRecursion (HasAtMost n) rs
few-each n [] all = tt
few-each n (r ∷ rs) all = (all.0.0, few-each n rs all.1)

-- each branch of a timeline has few events
pub few-rooted : (n : ℕ) (rs : List Rooted) (bs : List Branch) → map (λ r. r.branch) rs ≡ bs → AllByRecursion (HasFew n) bs → AllByRecursion (HasAtMost n) rs
few-rooted n rs bs is few = few-each n rs (subst (AllByRecursion (HasFew n)) (sym is) few)

abbrev add : Counts → Rooted → Counts
add c r = added c (counts_of_branch r)

-- each count of a fold is the fold of the counts
events-of : (c : Counts) (rs : List Rooted) → (fold add c rs).events ≡ fold (λ n r. n + length r.branch.events) c.events rs
events-of c [] = refl
events-of c (r ∷ rs) = events-of (add c r) rs

cursors-of : (c : Counts) (rs : List Rooted) → (fold add c rs).cursors ≡ fold (λ n r. n + r.branch.cursor) c.cursors rs
cursors-of c [] = refl
cursors-of c (r ∷ rs) = cursors-of (add c r) rs

states_a-of : (c : Counts) (rs : List Rooted) → (fold add c rs).states_a ≡ fold (λ n r. n + in_world (λ w. maps.len w.a.states) r) c.states_a rs
states_a-of c [] = refl
states_a-of c (r ∷ rs) = states_a-of (add c r) rs

states_b-of : (c : Counts) (rs : List Rooted) → (fold add c rs).states_b ≡ fold (λ n r. n + in_world (λ w. maps.len w.b.states) r) c.states_b rs
states_b-of c [] = refl
states_b-of c (r ∷ rs) = states_b-of (add c r) rs

frames-of : (c : Counts) (rs : List Rooted) → (fold add c rs).frames ≡ fold (λ n r. n + in_world (λ w. maps.len w.link.frames) r) c.frames rs
frames-of c [] = refl
frames-of c (r ∷ rs) = frames-of (add c r) rs

pending-of : (c : Counts) (rs : List Rooted) → (fold add c rs).pending ≡ fold (λ n r. n + in_world (λ w. pending w.a.queue + pending w.b.queue) r) c.pending rs
pending-of c [] = refl
pending-of c (r ∷ rs) = pending-of (add c r) rs

-- over branches that begin from one opening
over-branches : (opening : World) (g : Rooted → ℕ) (h : Branch → ℕ) → ((r : Rooted) → r.opening ≡ opening → g r ≡ h r.branch)
    → (a : ℕ) (rs : List Rooted) → AllByRecursion (λ r. r.opening ≡ opening) rs
    → fold (λ n r. n + g r) a rs ≡ fold (λ n b. n + h b) a (map (λ r. r.branch) rs)
over-branches opening g h same a [] all = refl
over-branches opening g h same a (r ∷ rs) all = ap (λ (m : ℕ). fold (λ n x. n + g x) (a + m) rs) (same r all.0)
    ∙ over-branches opening g h same (a + h r.branch) rs all.1

-- the world that it shows in its timeline
in-world : (t : Timeline) (count : World → ℕ) (r : Rooted) → r.opening ≡ t.opening → in_world count r ≡ option_map_or count (world_of t r.branch) 0
unfolding world_of
in-world t count r is = ap (λ (o : World). option_map_or count (run o (standing r.branch)) 0) is

module _ (t : Timeline) (rs : List Rooted) (is : map (λ r. r.branch) rs ≡ t.branches) (openings : AllByRecursion (λ r. r.opening ≡ t.opening) rs) where
  over : (h : Branch → ℕ) → fold (λ n b. n + h b) 0 (map (λ r. r.branch) rs) ≡ sum_by h t.branches
  over h = ap (λ (bs : List Branch). fold (λ n b. n + h b) 0 bs) is

  shown-over : (count : World → ℕ) → fold (λ n r. n + in_world count r) 0 rs ≡ over_worlds count t
  shown-over count = over-branches t.opening (in_world count) (λ b. option_map_or count (world_of t b) 0) (in-world t count) 0 rs openings
      ∙ over (λ b. option_map_or count (world_of t b) 0)

  -- the words are those of the summary
  pub summary-is : (n : ℕ) → n ∷ length rs ∷ (counts_of_branches rs).events ∷ (counts_of_branches rs).cursors
      ∷ (counts_of_branches rs).states_a ∷ (counts_of_branches rs).states_b ∷ (counts_of_branches rs).frames
      ∷ (counts_of_branches rs).pending ∷ [] ≡ summary t n
  unfolding summary
  summary-is n =
      let many : length rs ≡ length t.branches = sym (length-map rs (λ r. r.branch)) ∙ ap (λ (bs : List Branch). length bs) is in
      let events = events-of no_counts rs
      ∙ (over-branches t.opening (λ r. length r.branch.events) (λ b. length b.events) (λ _ _. refl) 0 rs openings
      ∙ over (λ b. length b.events)) in
      let cursors = cursors-of no_counts rs
      ∙ (over-branches t.opening (λ r. r.branch.cursor) (λ b. b.cursor) (λ _ _. refl) 0 rs openings ∙ over (λ b. b.cursor)) in
      let states_a = states_a-of no_counts rs ∙ shown-over (λ w. maps.len w.a.states) in
      let states_b = states_b-of no_counts rs ∙ shown-over (λ w. maps.len w.b.states) in
      let frames = frames-of no_counts rs ∙ shown-over (λ w. maps.len w.link.frames) in
      let pendings = pending-of no_counts rs ∙ shown-over (λ w. pending w.a.queue + pending w.b.queue) in
      λ z. n ∷ many z ∷ events z ∷ cursors z ∷ states_a z ∷ states_b z ∷ frames z ∷ pendings z ∷ []

-- one branch more is counted
pub counts-more : (rs : List Rooted) (i : ℕ) (r : Rooted) (c d now : Counts) → r ≡ get_or rs i r → i < length rs → now ≡ added c d
    → c ≡ counts_of_branches (take i rs) → d ≡ counts_of_branch r → now ≡ counts_of_branches (take (i + 1) rs)
counts-more rs i r c d now here within sum before new =
    sum ∙ ((λ z. added (before z) (new z))
    ∙ (ap (λ (x : Rooted). added (counts_of_branches (take i rs)) (counts_of_branch x)) here ∙ sym (fold_more add no_counts rs i r within)))

pub more-at-most : (n m k : ℕ) (c d now : Counts) → now ≡ added c d → k ≡ n + m → AreAtMost n c → AreAtMost m d → AreAtMost k now
more-at-most n m k c d now sum all a b =
    subst (AreAtMost k) (sym sum) (record {
      events = omega (arith, all, a.events, b.events);
      cursors = omega (arith, all, a.cursors, b.cursors);
      states_a = omega (arith, all, a.states_a, b.states_a);
      states_b = omega (arith, all, a.states_b, b.states_b);
      frames = omega (arith, all, a.frames, b.frames);
      pending = omega (arith, all, a.pending, b.pending);
    })
