-- A turn and a retry of a bulk update change what is to be sent and who waits: neither states, nor held packets, nor names, nor limits.
use Rattle.std.specs.Prelude.{◌≡◌, ℕ, Bool, true, false, List, [], ◌∷◌, refl}
use Rattle.std.proofs.Common.{cond, ap, sym, subst, arith}
use Rattle.pfl_base.specs.declared.state_name.StateName.{StateName}
use Rattle.pfl_language.specs.declared.limits.Limits.{Limits}
use Rattle.pfl_world.specs.table.Tables.{States, AreStates}
use Rattle.pfl_world.specs.queue.declared.Kind.TheVariants.{Update}
use Rattle.pfl_world.specs.bulk.Bulk.{no_name, asks_again, is_last_turn}
use Rattle.pfl_world.specs.defer.declared.Held.{Held}
use Rattle.pfl_world.specs.defer.Deferring.{Deferrals}
use Rattle.pfl_world.specs.desk.Nodes.{Node}
use Rattle.pfl_world.specs.desk.Changes.{mark, ask}
use Rattle.pfl_world.specs.node.Retrying.{retried_client}
use Rattle.pfl_world.specs.node.Turning.{queued, ended, turn_of, turned, eligible_names}
use Rattle.pfl_laws.specs.Laws.{IsTied, Holds}
use Rattle.pfl_laws.proofs.Following.{Alike, Alike-itself, comes-same}
use Rattle.pfl_laws.proofs.Keeping.{Keeps}
use Rattle.pfl_laws.proofs.Tied.{tied-same}
use Rattle.pfl_laws.proofs.Holding.{same-holds}

-- what the laws speak of
abbrev pub Basis : Type 0
Basis = States × (Deferrals × (ℕ × (ℕ × Limits)))

abbrev pub basis : Node → Basis
basis n = (n.states, (n.held, (n.creator, (n.next_id, n.limits))))

queued-basis : (names : List StateName) (n : Node) → basis (queued n names) ≡ basis n
queued-basis [] n = refl
queued-basis (name ∷ names) n = queued-basis names (mark n name Update)

pub turned-basis : (n : Node) → basis (turned n) ≡ basis n
unfolding turned
turned-basis n = by (is_last_turn n.server (eligible_names n n.server) n.limits.batch)
  where
    by : (last : Bool) → basis (ended last (queued n (turn_of n))) ≡ basis n
    by true = queued-basis (turn_of n) n
    by false = queued-basis (turn_of n) n

pub retried-basis : (n : Node) → basis (retried_client n) ≡ basis n
unfolding retried_client
retried-basis n = by (asks_again n.client)
  where
    by : (again : Bool) → basis (cond again (ask n no_name) n) ≡ basis n
    by true = refl
    by false = refl

-- ---- what it is enough for

pub basis-keeps : (q : StateName) (n m : Node) → basis m ≡ basis n → Keeps Alike q n m
basis-keeps q n m e =
    let next : m.next_id ≡ n.next_id = ap (λ (b : Basis). b.1.1.1.0) e in
    record {
      creator = ap (λ (b : Basis). b.1.1.0) e;
      next = omega arith;
      limits = ap (λ (b : Basis). b.1.1.1.1) e;
      comes = comes-same Alike n.states m.states q Alike-itself (ap (λ (b : Basis). b.0) e);
    }

pub basis-apart : (n m : Node) → basis m ≡ basis n → AreStates n.states → AreStates m.states
basis-apart n m e are = subst AreStates (sym (ap (λ (b : Basis). b.0) e)) are

pub basis-tied : (n m : Node) → basis m ≡ basis n → IsTied n → IsTied m
basis-tied n m e tied = tied-same n m tied (ap (λ (b : Basis). b.0) e) (ap (λ (b : Basis). b.1.0) e)

pub basis-holds : (h : Held) (n m : Node) → basis m ≡ basis n → Holds n h → Holds m h
basis-holds h n m e holds = same-holds h n m (ap (λ (b : Basis). b.1.0) e) holds
