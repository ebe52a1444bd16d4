-- An edit of a node knows both values of its place.
use Rattle.std.specs.Prelude.{◌≡◌, ℕ, Option, Some, None, refl}
use Rattle.std.specs.Option.{option_map}
use Rattle.std.proofs.Common.{ap, sym}
use Rattle.pfl_base.specs.declared.state_name.StateName.{StateName}
use Rattle.pfl_base.proofs.ForCallers.{names_total, names_exact}
use Rattle.pfl_edits.specs.Changes.{LeadsBothWays}
use Rattle.pfl_edits.specs.Maps as maps
use Rattle.pfl_edits.specs.Maps.{set_at}
use Rattle.pfl_edits.proofs.ForCallers.{value-both_ways, part-both_ways, key-both_ways, get-set_at_same, set_at-same, set_at-set_at}
use Rattle.pfl_track.specs.declared.motion.Motion.{Motion}
use Rattle.pfl_track.specs.declared.state.State.{State}
use Rattle.pfl_track.specs.Motions.{motion, with_motion}
use Rattle.pfl_table.specs.Tables.{States}
use Rattle.pfl_queue.specs.inner.BothWays as queues
use Rattle.pfl_defer.specs.inner.BothWays as deferrals
use Rattle.pfl_desk.specs.declared.counters.Counters.{Counters}
use Rattle.pfl_desk.specs.declared.edit.Counter.{Counter}
use Rattle.pfl_desk.specs.declared.edit.Counter.TheVariants.{Passed, Blocked, Freed, Lost, Bad, Stale, Broken}
use Rattle.pfl_desk.specs.declared.edit.NodeEdit.{NodeEdit}
use Rattle.pfl_desk.specs.declared.edit.NodeEdit.TheVariants.{OfState, Moved, OfQueue, OfHeld, Server, Client, Clock, NextId, Push, Count}
use Rattle.pfl_desk.specs.Edits.{count_of, with_count, moved_at, Finds, FindsFormer, put_back, redone}
use Rattle.pfl_desk.specs.Nodes.{Node}

-- what stays of an edit, beside how it leads both ways
both_ways-with : {S P : Type 0} {F G : S → Type 0} {p r : S → S} → LeadsBothWays F G p r → LeadsBothWays (λ s. F s × P) (λ s. G s × P) p r
both_ways-with l = record {
  put_back_finds = λ s is. (l.put_back_finds s is.0, is.1);
  redone_finds = λ s is. (l.redone_finds s is.0, is.1);
  redone_put_back = λ s is. l.redone_put_back s is.0;
  put_back_redone = λ s is. l.put_back_redone s is.0;
}

-- one number of the counters leads both ways
count-both_ways : (counter : Counter) (former new : ℕ)
    → LeadsBothWays (λ (c : Counters). count_of counter c ≡ former) (λ c. count_of counter c ≡ new) (λ c. with_count counter c former)
    (λ c. with_count counter c new)
count-both_ways Passed former new = part-both_ways (λ (c : Counters). c.passed) (λ c k. record c { passed = k }) (λ c k. refl) (λ c. refl)
    (λ c k l. refl) _ _ _ _ (value-both_ways former new)
count-both_ways Blocked former new = part-both_ways (λ (c : Counters). c.blocked) (λ c k. record c { blocked = k }) (λ c k. refl)
    (λ c. refl) (λ c k l. refl) _ _ _ _ (value-both_ways former new)
count-both_ways Freed former new = part-both_ways (λ (c : Counters). c.freed) (λ c k. record c { freed = k }) (λ c k. refl) (λ c. refl)
    (λ c k l. refl) _ _ _ _ (value-both_ways former new)
count-both_ways Lost former new = part-both_ways (λ (c : Counters). c.lost) (λ c k. record c { lost = k }) (λ c k. refl) (λ c. refl)
    (λ c k l. refl) _ _ _ _ (value-both_ways former new)
count-both_ways Bad former new = part-both_ways (λ (c : Counters). c.bad) (λ c k. record c { bad = k }) (λ c k. refl) (λ c. refl)
    (λ c k l. refl) _ _ _ _ (value-both_ways former new)
count-both_ways Stale former new = part-both_ways (λ (c : Counters). c.stale) (λ c k. record c { stale = k }) (λ c k. refl) (λ c. refl)
    (λ c k l. refl) _ _ _ _ (value-both_ways former new)
count-both_ways Broken former new = part-both_ways (λ (c : Counters). c.broken) (λ c k. record c { broken = k }) (λ c k. refl) (λ c. refl)
    (λ c k l. refl) _ _ _ _ (value-both_ways former new)

-- what is put back of a motion undoes what is redone, where a state moved so
moved_back : (was new : Motion) (at : Option State) → option_map motion at ≡ Some was → option_map (with_motion was) (option_map (with_motion new) at) ≡ at
moved_back was new None is = refl
moved_back was new (Some s) is = let same : motion s ≡ was = cc in ap (λ (m : Motion). Some (with_motion m s)) (sym same)

-- what was moved so has the motion
moved_finds : (was new : Motion) (at : Option State) → option_map motion at ≡ Some was → option_map motion (option_map (with_motion new) at) ≡ Some new
moved_finds was new None is = cc
moved_finds was new (Some s) is = refl

-- the motion of the state of a name leads both ways
motion-both_ways : (name : StateName) (former new : Motion)
    → LeadsBothWays (λ (m : States). option_map motion (maps.get m name) ≡ Some former)
    (λ (m : States). option_map motion (maps.get m name) ≡ Some new) (λ m. moved_at m name former) (λ m. moved_at m name new)
motion-both_ways name former new =
    part-both_ways (λ (m : States). maps.get m name) (λ m at. set_at m name at) (λ m at. get-set_at_same names_total names_exact m name at)
    (λ m. set_at-same names_total names_exact m name (maps.get m name) refl) (λ m at to. set_at-set_at names_total names_exact m name at to) _ _ _ _
    (record {
      put_back_finds = λ (at : Option State) is. moved_finds new former at is;
      redone_finds = λ at is. moved_finds former new at is;
      redone_put_back = λ at is. moved_back new former at is;
      put_back_redone = λ at is. moved_back former new at is;
    })

-- each edit leads both ways
pub edit-both_ways : (e : NodeEdit) → LeadsBothWays (FindsFormer e) (Finds e) (put_back e) (redone e)
edit-both_ways (OfState e) = part-both_ways (λ (n : Node). n.states) (λ n m. record n { states = m }) (λ n m. refl) (λ n. refl)
    (λ n m l. refl) _ _ _ _ (key-both_ways names_total names_exact e.name e.before e.after)
edit-both_ways (Moved e) = part-both_ways (λ (n : Node). n.states) (λ n m. record n { states = m }) (λ n m. refl) (λ n. refl)
    (λ n m l. refl) _ _ _ _ (motion-both_ways e.name e.before e.after)
edit-both_ways (OfQueue e) =
    both_ways-with (part-both_ways (λ (n : Node). n.queue) (λ n q. record n { queue = q }) (λ n q. refl) (λ n. refl)
    (λ n q r. refl) _ _ _ _ (queues.edit-both_ways e))
edit-both_ways (OfHeld e) = part-both_ways (λ (n : Node). n.held) (λ n d. record n { held = d }) (λ n d. refl) (λ n. refl)
    (λ n d k. refl) _ _ _ _ (deferrals.edit-both_ways e)
edit-both_ways (Server before after) = part-both_ways (λ (n : Node). n.server) (λ n s. record n { server = s }) (λ n s. refl) (λ n. refl)
    (λ n s t. refl) _ _ _ _ (value-both_ways before after)
edit-both_ways (Client before after) = part-both_ways (λ (n : Node). n.client) (λ n c. record n { client = c }) (λ n c. refl) (λ n. refl)
    (λ n c k. refl) _ _ _ _ (value-both_ways before after)
edit-both_ways (Clock before after) = part-both_ways (λ (n : Node). n.clock) (λ n c. record n { clock = c }) (λ n c. refl) (λ n. refl)
    (λ n c k. refl) _ _ _ _ (value-both_ways before after)
edit-both_ways (NextId before after) =
    both_ways-with (part-both_ways (λ (n : Node). n.next_id) (λ n i. record n { next_id = i }) (λ n i. refl) (λ n. refl)
    (λ n i k. refl) _ _ _ _ (value-both_ways before after))
edit-both_ways (Push before after) = part-both_ways (λ (n : Node). n.push) (λ n p. record n { push = p }) (λ n p. refl) (λ n. refl)
    (λ n p q. refl) _ _ _ _ (value-both_ways before after)
edit-both_ways (Count counter before after) =
    both_ways-with (part-both_ways (λ (n : Node). n.counters) (λ n c. record n { counters = c }) (λ n c. refl) (λ n. refl)
    (λ n c k. refl) _ _ _ _ (count-both_ways counter before after))
