-- An edit that is recorded leads back, and counts at most one more.
use Rattle.std.specs.Prelude.{◌≡◌, ◌≤◌, ◌<◌, ℕ, ◌+◌, ◌*◌, Bool, true, false, not, ◌&&◌, nat_le, nat_lt, List, [], ◌∷◌, ◌++◌, length, Option, Some}
use Rattle.std.specs.Prelude.{None, is_some, if◌then◌else◌, refl}
use Rattle.std.proofs.Common.{cond, ◌∙◌, ap, sym, subst, arith, length-append}
use Rattle.std.proofs.lemmas.Bool.Decides.{nat_tests}
use Rattle.pfl_base.specs.declared.state_name.StateName.{StateName}
use Rattle.pfl_base.proofs.ForCallers.{names_total}
use Rattle.pfl_base.specs.Names.{is_name}
use Rattle.pfl_base.specs.Numbers.{greatest}
use Rattle.pfl_edits.specs.Changes.{Edits, LeadsBack}
use Rattle.pfl_edits.proofs.ForCallers.{LeadsBack-one, LeadsBack-append, len-insert}
use Rattle.pfl_edits.specs.Maps as maps
use Rattle.pfl_queue.specs.declared.Kind.{Kind}
use Rattle.pfl_queue.specs.declared.Mark.{Mark}
use Rattle.pfl_queue.specs.declared.QueueFault.{QueueFault}
use Rattle.pfl_queue.specs.declared.QueueFault.TheVariants.{QueueFull}
use Rattle.pfl_queue.specs.declared.edits.QueueEdit.TheVariants.{OfMark, OfName, OfRequest, OfStatus, OfClear}
use Rattle.pfl_queue.specs.Queues.{Queue, most_numbers, pending, marked, room_fault}
use Rattle.pfl_defer.specs.declared.edits.DeferEdit.{DeferEdit}
use Rattle.pfl_defer.specs.Deferring.{Deferrals, let_go}
use Rattle.pfl_defer.specs.Edits.{DefersBack}
use Rattle.pfl_defer.proofs.ForCallers.{let_go-keeps, kept_stood}
use Rattle.pfl_desk.specs.declared.edit.Counter.{Counter}
use Rattle.pfl_desk.specs.declared.edit.Counter.TheVariants.{Passed, Blocked, Freed, Lost, Bad, Stale, Broken}
use Rattle.pfl_desk.specs.declared.edit.NodeEdit.{NodeEdit}
use Rattle.pfl_desk.specs.declared.edit.NodeEdit.TheVariants.{OfState, Moved, OfQueue, OfHeld, Server, Client, Clock, NextId, Push, Count}
use Rattle.pfl_desk.specs.Changes.{without_held, mark}
use Rattle.pfl_desk.specs.Drafts.{Draft, Writes, began}
use Rattle.pfl_desk.specs.Edits.{Finds, FindsFormer, put_back, redone, total, count_of}
use Rattle.pfl_desk.specs.inner.BothWays.{edit-both_ways}
use Rattle.pfl_desk.specs.inner.Drafting.{IsDraft, Makes, MakesIf, Wrote}
use Rattle.pfl_desk.specs.Nodes.{Node, AreParts, is_overcounted, is_overfull}
use Rattle.pfl_desk.proofs.Keeps.{AreCounted, counted_all, keeps_held}

-- ---- what is recorded one after another

-- a draft of this node, with these edits
abbrev pub draft : Node → Edits NodeEdit → Draft
draft n x = record { node = n; edits = x }

-- nothing
pub writes-none : (k : ℕ) (d : Draft) → Writes k d d
writes-none k d = record { spare = omega arith; room = refl; began = refl }

-- at most k edits, and then at most l
pub writes-then : (k l : ℕ) (d e f : Draft) → Writes k d e → Writes l e f → Writes (k + l) d f
writes-then k l d e f v w =
    let first = v.spare in
    let second = w.spare in
    record { spare = omega (arith, first, second); room = w.room ∙ v.room; began = w.began ∙ v.began }

-- a larger bound
pub writes-more : (k l : ℕ) (d e : Draft) → k ≤ l → Writes k d e → Writes l d e
writes-more k l d e h w = let few = w.spare in record { spare = omega (arith, few, h); room = w.room; began = w.began }

-- ---- what was made, recorded

module _ (a b : Node) (x y : Edits NodeEdit) (es : List NodeEdit) (is : IsDraft (draft a x)) (made : Makes es a b)
    (lists : y.list ≡ x.list ++ es) (spares : y.spare + length es ≡ x.spare) where
  long : length y.list ≡ length x.list + length es
  long = ap (λ (l : List NodeEdit). length l) lists ∙ length-append x.list es

  leads : LeadsBack Finds AreParts put_back y.list (began (draft a x)) b
  leads = subst (λ (l : List NodeEdit). LeadsBack Finds AreParts put_back l (began (draft a x)) b) (sym lists)
      (LeadsBack-append Finds AreParts put_back x.list es (began (draft a x)) a b (record { fits = is.fits; back = refl }) made.leads_back)

  pub draft-all : IsDraft (draft b y)
  draft-all =
      let more = made.counted in
      let before = is.counted in
      let all = is.room in
      let same = ap total leads.back in
      record {
        fits = leads.fits;
        start = ap is_overcounted leads.back ∙ is.start;
        counted = omega (arith, more, before, long, same);
        room = omega (arith, all, long, spares);
      }

  pub writes-all : Writes (length es) (draft a x) (draft b y)
  writes-all = record { spare = omega (arith, spares); room = omega (arith, long, spares); began = leads.back }

-- one edit
module _ (a b : Node) (x y : Edits NodeEdit) (e : NodeEdit) (is : IsDraft (draft a x)) (made : Makes (e ∷ []) a b)
    (lists : y.list ≡ x.list ++ e ∷ []) (spares : y.spare + 1 ≡ x.spare) where
  pub draft-one : IsDraft (draft b y)
  draft-one = draft-all a b x y (e ∷ []) is made lists spares

  pub writes-one : Writes 1 (draft a x) (draft b y)
  writes-one = writes-all a b x y (e ∷ []) is made lists spares

-- one edit, if any
pub draft-if : (a b : Node) (x y : Edits NodeEdit) (o : Option NodeEdit) → IsDraft (draft a x) → MakesIf o a b → Wrote o x y → IsDraft (draft b y)
draft-if a b x y (Some e) is made wrote = draft-one a b x y e is made wrote.0 wrote.1
draft-if a b x y None is made wrote = subst (λ (n : Node). IsDraft (draft n y)) (sym made) (subst (λ (z : Edits NodeEdit). IsDraft (draft a z)) (sym wrote) is)

pub writes-if : (a b : Node) (x y : Edits NodeEdit) (o : Option NodeEdit) → IsDraft (draft a x) → MakesIf o a b → Wrote o x y → Writes 1 (draft a x) (draft b y)
writes-if a b x y (Some e) is made wrote = writes-one a b x y e is made wrote.0 wrote.1
writes-if a b x y None is made wrote =
    subst (λ (n : Node). Writes 1 (draft a x) (draft n y)) (sym made)
    (subst (λ (z : Edits NodeEdit). Writes 1 (draft a x) (draft a z)) (sym wrote) (writes-none 1 (draft a x)))

-- what is counted is far from the last number that the code has
total-small : (n : Node) → AreCounted n → total n ≤ 9 * greatest
unfolding total
total-small n (i, (q, (p, (b, (f, (l, (d, (s, (k, none))))))))) = omega arith

-- so one more can be counted
pub countable : (d : Draft) → IsDraft d → total d.node < most_numbers
countable d is =
    let small = total-small (began d) (counted_all (began d) is.start) in
    let more = is.counted in
    let few = is.room in
    omega (arith, small, more, few)

-- ---- an edit of what is there

-- the edit counts at most one more
abbrev pub CountsOne : NodeEdit → Type 0
CountsOne (OfQueue (OfMark name before after next_before next_after)) = next_after ≤ next_before + 1
CountsOne (NextId before after) = after ≤ before + 1
CountsOne (Count counter before after) = after ≤ before + 1
CountsOne _ = Unit {0}

total-redone : (n : Node) (e : NodeEdit) → FindsFormer e n → CountsOne e → total (redone e n) ≤ total n + 1
unfolding total
total-redone n (OfState e) f h = omega arith
total-redone n (Moved e) f h = omega arith
total-redone n (OfQueue (OfMark name before after next_before next_after)) f h = let now = f.0.1 in omega arith
total-redone n (OfQueue (OfName name before after)) f h = omega arith
total-redone n (OfQueue (OfRequest position before after)) f h = omega arith
total-redone n (OfQueue (OfStatus position before after)) f h = omega arith
total-redone n (OfQueue (OfClear position before after)) f h = omega arith
total-redone n (OfHeld e) f h = omega arith
total-redone n (Server before after) f h = omega arith
total-redone n (Client before after) f h = omega arith
total-redone n (Clock before after) f h = omega arith
total-redone n (NextId before after) f h = let now = f.0 in omega arith
total-redone n (Push before after) f h = omega arith
total-redone n (Count Passed before after) f h = let now = f.0 in omega arith
total-redone n (Count Blocked before after) f h = let now = f.0 in omega arith
total-redone n (Count Freed before after) f h = let now = f.0 in omega arith
total-redone n (Count Lost before after) f h = let now = f.0 in omega arith
total-redone n (Count Bad before after) f h = let now = f.0 in omega arith
total-redone n (Count Stale before after) f h = let now = f.0 in omega arith
total-redone n (Count Broken before after) f h = let now = f.0 in omega arith

-- the edit was made
pub makes : (n : Node) (e : NodeEdit) → AreParts n → FindsFormer e n → CountsOne e → Makes (e ∷ []) n (redone e n)
makes n e is former one =
    let both = edit-both_ways e in
    record {
      leads_back = LeadsBack-one Finds AreParts put_back e n (redone e n) (both.redone_finds n former) is (both.put_back_redone n former);
      counted = total-redone n e former one;
    }

-- the same, where the edit is known to be this one
pub makes_as : (n : Node) (e f : NodeEdit) → e ≡ f → AreParts n → FindsFormer f n → CountsOne f → Makes (e ∷ []) n (redone f n)
makes_as n e f same is former one = subst (λ (d : NodeEdit). Makes (d ∷ []) n (redone f n)) (sym same) (makes n f is former one)

-- a number is below the last one that the code has, where there is room for one edit more
pub total-least : (n : Node) → (n.next_id ≤ total n) × (n.queue.next ≤ total n)
unfolding total
total-least n = (omega arith, omega arith)

pub total-count : (n : Node) (k : Counter) → count_of k n.counters ≤ total n
unfolding total
total-count n Passed = omega arith
total-count n Blocked = omega arith
total-count n Freed = omega arith
total-count n Lost = omega arith
total-count n Bad = omega arith
total-count n Stale = omega arith
total-count n Broken = omega arith

-- ---- held packets

total-held : (n : Node) (d : Deferrals) → total (record n { held = d }) ≡ total n
unfolding total
total-held n d = refl

-- a change of the held packets
pub makes_held : (n : Node) (e : DeferEdit) (d : Deferrals) → AreParts n → DefersBack (e ∷ []) n.held d → Makes (OfHeld e ∷ []) n (record n { held = d })
makes_held n e d is back =
    let same = total-held n d in
    record {
      leads_back = LeadsBack-one Finds AreParts put_back (OfHeld e) n (record n { held = d }) back.fits.1 is
          (ap (λ (h : Deferrals). record n { held = h }) back.back);
      counted = omega (arith, same);
    }

-- a node without the packet of a name
pub without_held-node : (n : Node) (name : StateName) → AreParts n → AreParts (without_held n name)
without_held-node n name is =
    keeps_held n (let_go n.held name) is (let_go-keeps n.held name is.deferrals) refl
    (λ i h at. let m = kept_stood (λ k. not (is_name name k.name)) n.held.list i h at in is.held m.0 h m.1)

-- ---- marks

-- a name that is on no queue is one entry more
marked-pending : (q : Queue) (name : StateName) (kind : Kind) → maps.get q.marks name ≡ None → pending (marked q name kind) ≡ pending q + 1
marked-pending q name kind none =
    let more = len-insert names_total q.marks name (record { name = name; kind = kind; number = q.next })
    ∙ ap (λ (o : Option Mark). cond (is_some o) (maps.len q.marks) (maps.len q.marks + 1)) none in
    omega (arith, more)

-- where there is no room to mark a name, too much would be pending
pub full-marked : (n : Node) (name : StateName) (kind : Kind) {f : QueueFault} → room_fault n.queue name ≡ Some f → is_overfull (mark n name kind) ≡ true
full-marked n name kind {f} e = by (maps.get n.queue.marks name) refl e
  where
    by : (o : Option Mark) → maps.get n.queue.marks name ≡ o
        → (if not (is_some o) && nat_le n.queue.limit (pending n.queue) then Some QueueFull else None) ≡ Some f
        → is_overfull (mark n name kind) ≡ true
    by (Some m) at e = absurd (cc)
    by None at e =
        let full : nat_le n.queue.limit (pending n.queue) ≡ true = tested (nat_le n.queue.limit (pending n.queue)) e in
        ap (nat_lt n.queue.limit) (marked-pending n.queue name kind at) ∙ over n.queue.limit (pending n.queue) full
      where
        tested : (b : Bool) → (if b then Some QueueFull else None) ≡ Some f → b ≡ true
        tested true e = refl
        tested false e = absurd (cc)

        over : (l p : ℕ) → nat_le l p ≡ true → nat_lt l (p + 1) ≡ true
        over l p e = grind (arith, nat_tests)
