-- A client of a bulk update that waited long enough (if_pfsync.c; tries are this project's profile).
use Rattle.std.specs.Prelude.{◌+◌, [], ◌∷◌, Option, if◌then◌else◌}
use Rattle.std.specs.Option.{option_or}
use Rattle.pfl_base.specs.declared.refusal.Refusal.{Refusal}
use Rattle.pfl_base.specs.declared.refusal.Refusal.TheVariants.{QueueFull}
use Rattle.pfl_bulk.specs.Bulk.{no_name, ask_refusal, asks_again, retried, tries_of}
use Rattle.pfl_language.specs.declared.retried.Retried.{Retried}
use Rattle.pfl_language.specs.declared.retried.Retried.TheVariants.{Asked, Served}
use Rattle.pfl_language.specs.declared.node_event.NodeOutcome.TheVariants.{Tried}
use Rattle.pfl_receive.specs.desk.Nodes.{Node, is_overfull, refused_by}
use Rattle.pfl_receive.specs.desk.Changes.{ask}
use Rattle.pfl_node.specs.Meanings.{NodeMeaning}

-- a client that waited long enough asks again, or goes on as if served
unfoldable pub retried_client : Node → Node
retried_client n = record (if asks_again n.client then ask n no_name else n) { client = retried n.client n.clock }

-- what the client did
abbrev pub retry_answer : Node → Retried
retry_answer n = if asks_again n.client then Asked (tries_of n.client + 1) else Served

-- why a retry is refused: the client can't ask again, or there is no room for its request
abbrev pub retry_refusal : Node → Option Refusal
retry_refusal n = option_or (ask_refusal n.client n.limits.bulk_ms n.clock) (refused_by ((is_overfull (retried_client n), QueueFull) ∷ []))

-- what a retry means
abbrev pub retry_meaning : Node → NodeMeaning
retry_meaning n = record {
  refusal = retry_refusal n;
  after = retried_client n;
  outcome = Tried (retry_answer n);
  points = retried_client n ∷ [];
  work = 0;
}
