-- A client of a bulk update that asks again, or gives up.
use Rattle.std.specs.Prelude.{◌≡◌, ◌+◌, Bool, true, false, not, ◌||◌, [], ◌∷◌, ◌++◌, Option, Some, None, if◌then◌else◌, refl}
use Rattle.std.specs.Option.{option_or}
use Rattle.std.proofs.Common.{◌∙◌, ap, sym}
use Rattle.pfl_base.specs.declared.refusal.Refusal.{Refusal}
use Rattle.pfl_base.specs.declared.refusal.Refusal.TheVariants.{QueueFull, CountFull}
use Rattle.pfl_bulk.specs.Bulk as bulk
use Rattle.pfl_bulk.specs.Bulk.{no_name, asks_again, retried, tries_of}
use Rattle.pfl_bulk.specs.declared.BulkClient.{BulkClient}
use Rattle.pfl_bulk.specs.declared.BulkClient.TheVariants as client
use Rattle.pfl_receive.specs.queue.Queues.{is_requested}
use Rattle.pfl_language.specs.declared.retried.Retried.TheVariants.{Asked, Served}
use Rattle.pfl_node.specs.Retrying.{retried_client, retry_answer, retry_refusal}
use Rattle.pfl_receive.specs.desk.Changes.{ask, push_if}
use Rattle.pfl_receive.specs.desk.Nodes.{Node, is_overfull, is_overcounted, refused_by, points_refusal}

-- ---- it asks again, or not

-- what a test with `!` says of what it tests
pub from_not : (b c : Bool) → not b ≡ c → b ≡ not c
from_not true c e = ap not e
from_not false c e = ap not e

pub asked-is : (n m k : Node) → asks_again n.client ≡ true → m ≡ ask n no_name → k ≡ record m { client = retried n.client n.clock } → k ≡ retried_client n
unfolding retried_client
asked-is n m k asks asked set =
    set ∙ (ap (λ (h : Node). record h { client = retried n.client n.clock }) asked
    ∙ ap (λ b. record (if b then ask n no_name else n) { client = retried n.client n.clock }) (sym asks))

pub asked-full : (n : Node) → asks_again n.client ≡ true → is_overfull (ask n no_name) ≡ true → is_overfull (retried_client n) ≡ true
unfolding retried_client
asked-full n asks e = ap (λ b. is_overfull (if b then ask n no_name else n)) asks ∙ e

pub served-is : (n k : Node) → asks_again n.client ≡ false → k ≡ record n { client = retried n.client n.clock } → k ≡ retried_client n
unfolding retried_client
served-is n k asks set = set ∙ ap (λ b. record (if b then ask n no_name else n) { client = retried n.client n.clock }) (sym asks)

pub answer-served : (n : Node) → asks_again n.client ≡ false → Served ≡ retry_answer n
answer-served n asks = ap (λ b. if b then Asked (tries_of n.client + 1) else Served) (sym asks)

pub answer-asked : (n : Node) → asks_again n.client ≡ true → Asked (tries_of (retried n.client n.clock)) ≡ retry_answer n
answer-asked n asks = ap Asked (by n.client asks) ∙ ap (λ b. if b then Asked (tries_of n.client + 1) else Served) (sym asks)
  where
    by : (c : BulkClient) → asks_again c ≡ true → tries_of (retried c n.clock) ≡ tries_of c + 1
    by client.Idle e = absurd (cc)
    by (client.Waiting tries asked) e = ap (λ b. tries_of (if b then client.Waiting (tries + 1) n.clock else client.Idle)) e

-- ---- it counts nothing

pub retried-counted : (n : Node) → is_overcounted (retried_client n) ≡ is_overcounted n
unfolding retried_client
retried-counted n = by (asks_again n.client) (is_requested n.queue no_name)
  where
    by : (a b : Bool) → is_overcounted
        (record (if a then push_if (not b)
        (record n { queue = if b then n.queue else record n.queue { requests = n.queue.requests ++ no_name ∷ [] } }) else n) {
          client =
              retried n.client n.clock;
        }) ≡ is_overcounted n
    by true true = refl
    by true false = refl
    by false b = refl

-- ---- why it is refused

-- it does not wait, or has not waited long enough
pub retry-early : (n : Node) (r : Refusal) → bulk.ask_refusal n.client n.limits.bulk_ms n.clock ≡ Some r → retry_refusal n ≡ Some r
retry-early n r e = ap (λ (o : Option Refusal). option_or o (refused_by ((is_overfull (retried_client n), QueueFull) ∷ []))) e

full_alone : (b : Bool) → refused_by ((b, QueueFull) ∷ []) ≡ refused_by ((b || false, QueueFull) ∷ (false || false, CountFull) ∷ [])
full_alone true = refl
full_alone false = refl

-- else its end is judged
pub retry-late : (n : Node) → bulk.ask_refusal n.client n.limits.bulk_ms n.clock ≡ None → is_overcounted n ≡ false
    → retry_refusal n ≡ points_refusal (retried_client n ∷ [])
retry-late n e low =
    ap (λ (o : Option Refusal). option_or o (refused_by ((is_overfull (retried_client n), QueueFull) ∷ []))) e
    ∙ (full_alone (is_overfull (retried_client n))
    ∙ ap (λ b. refused_by ((is_overfull (retried_client n) || false, QueueFull) ∷ (b || false, CountFull) ∷ [])) (sym (retried-counted n ∙ low)))
