-- A node that has seen nothing is a node.
use Rattle.std.specs.Prelude.{◌≡◌, ◌≤◌, ℕ, ◌+◌, Bool, false, ◌||◌, nat_lt, Some, refl}
use Rattle.std.specs.List.{IsDistinct}
use Rattle.std.proofs.Common.{◌∙◌, ap, sym, subst, arith}
use Rattle.std.proofs.lemmas.Bool.{le-ltb}
use Rattle.pfl_base.specs.Names.{name_cmp}
use Rattle.pfl_base.specs.declared.state_name.StateName.{StateName}
use Rattle.pfl_base.specs.Numbers.{greatest}
use Rattle.pfl_edits.specs.Maps as maps
use Rattle.pfl_edits.proofs.ForCallers.{get-empty, len-empty, some_is_none}
use Rattle.pfl_rules.specs.Rules.{Rules}
use Rattle.pfl_track.specs.declared.state.State.{State}
use Rattle.pfl_table.specs.Tables.{Table, AreStates}
use Rattle.pfl_table.proofs.ForCallers.{states_of-empty}
use Rattle.pfl_queue.specs.declared.Mark.{Mark}
use Rattle.pfl_queue.specs.Queues.{Queue, IsQueue, empty_queue}
use Rattle.pfl_defer.specs.Deferring.{Deferrals, IsDeferrals, no_deferrals}
use Rattle.pfl_bulk.specs.declared.BulkServer.TheVariants as server
use Rattle.pfl_bulk.specs.declared.BulkClient.TheVariants as client
use Rattle.pfl_language.specs.declared.limits.Limits.{Limits}
use Rattle.pfl_desk.specs.Laws.{NewNodesAreNodes}
use Rattle.pfl_desk.specs.declared.counters.Counters.{Counters}
use Rattle.pfl_desk.specs.inner.Kept.{node_of}
use Rattle.pfl_desk.specs.Nodes.{is_overcounted, new_node, no_counts}

-- an empty map has nothing at a name
nothing : {X : Type 0} {A : Type 0} (n : StateName) (x : X) → maps.get (maps.empty {R = name_cmp}) n ≡ Some x → A
nothing n x is = absurd (some_is_none x (sym is ∙ get-empty name_cmp n))

no_states : AreStates maps.empty
no_states = record {
  filed = λ n s is. nothing n s is;
  one_wire = λ n o s t is there. nothing n s is;
  one_stack = λ n o s t is there. nothing n s is;
}

none_pending : (limit next : ℕ) → next ≤ greatest → IsQueue (empty_queue limit next)
unfolding IsDistinct
none_pending limit next low = record {
  few = subst (λ (k : ℕ). k + 0 + 0 + 0 ≤ limit) (sym (len-empty name_cmp Mark)) (omega arith);
  filed = λ n m is. nothing n m is;
  below = λ n m is. nothing n m is;
  one_number = λ n o m k is there. nothing n m is;
  asked_once = tt;
  countable = omega (arith, low);
}

none_held : (limit : ℕ) → IsDeferrals (no_deferrals limit)
unfolding IsDistinct
none_held limit = record {
  few = omega arith;
  once = tt;
  by_age = λ i j h k le is there. absurd (some_is_none h (sym is));
}

neither : (a b : Bool) → a ≡ false → b ≡ false → (a || b) ≡ false
neither a b p q = ap (λ c. c || b) p ∙ q

-- a node that has seen nothing has no number past the greatest
pub new_node-counts : (l : Limits) (r : Rules) (creator next clock : ℕ) → next ≤ greatest → is_overcounted (new_node l r creator next clock) ≡ false
new_node-counts l r creator next clock low =
    let high : nat_lt greatest next ≡ false = le-ltb greatest next low in
    neither (nat_lt greatest next) _ high (neither (nat_lt greatest next) false high refl)

pub new_node-is : NewNodesAreNodes
new_node-is l r creator next clock limits rules low on_time = record {
  parts = record {
    limits = limits;
    rules = rules;
    states = no_states;
    few = subst (λ (k : ℕ). k ≤ l.states) (sym (len-empty name_cmp State)) (omega arith);
    each = λ n s is. nothing n s is;
    queue = none_pending l.queue next low;
    queue_limit = refl;
    marks = λ n m is. nothing n m is;
    deferrals = none_held l.held;
    held_limit = refl;
    held = λ i h is. absurd (some_is_none h (sym is));
    serving = tt;
    waiting = tt;
    clock = on_time;
  };
  counted = new_node-counts l r creator next clock low;
}

-- empty parts make a node that has seen nothing
pub made_new : (l : Limits) (r : Rules) (t : Table) (q : Queue) (d : Deferrals) (c : Counters) (creator next : ℕ)
    → t.rows ≡ maps.empty → q ≡ empty_queue l.queue next → d ≡ no_deferrals l.held → c ≡ no_counts
    → node_of l r t q d server.Idle client.Idle 0 creator next false c ≡ new_node l r creator next 0
made_new l r t q d c creator next rows queue held counts = rw (states_of-empty t rows, queue, held, counts) refl
