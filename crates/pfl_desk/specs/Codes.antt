-- A node as nested pairs, by which the logic distinguishes two nodes. It says nothing of nodes.
use Rattle.std.specs.Prelude.{ℕ, Bool, List, Option, refl}
use Rattle.std.specs.Coded.{Coded, code_by, coded×, coded_ℕ, coded_list, coded_bool, coded_option}
use Rattle.pfl_base.specs.Names.{coded_state_name}
use Rattle.pfl_edits.specs.Maps as maps
use Rattle.pfl_rules.specs.Rules.{Rules}
use Rattle.pfl_rules.specs.declared.rule.Rule.{Rule}
use Rattle.pfl_rules.specs.contracts.rule.Rule as rule_type
use Rattle.pfl_track.specs.contracts.state.State as state_type
use Rattle.pfl_table.specs.Tables.{States}
use Rattle.pfl_queue.specs.Queues.{Queue, coded_queue}
use Rattle.pfl_defer.specs.Deferring.{Deferrals}
use Rattle.pfl_defer.specs.declared.Held.{Held}
use Rattle.pfl_defer.specs.contracts.Held as held_type
use Rattle.pfl_bulk.specs.declared.BulkServer.{BulkServer}
use Rattle.pfl_bulk.specs.contracts.BulkServer as server_type
use Rattle.pfl_bulk.specs.declared.BulkClient.{BulkClient}
use Rattle.pfl_bulk.specs.contracts.BulkClient as client_type
use Rattle.pfl_language.specs.declared.limits.Limits.{Limits}
use Rattle.pfl_language.specs.contracts.limits.Limits as limits_type
use Rattle.pfl_desk.specs.declared.counters.Counters.{Counters}
use Rattle.pfl_desk.specs.contracts.counters.Counters as counters_type
use Rattle.pfl_desk.specs.Nodes.{Node}

abbrev coded_rules : Coded Rules
coded_rules = code_by (List Rule × (List (Option ℕ) × List ℕ))
    (coded× (coded_list rule_type.the_row.coded) (coded× (coded_list (coded_option coded_ℕ)) (coded_list coded_ℕ)))
    (λ r. (r.list, (r.timeouts, r.print))) (λ p. record { list = p.0; timeouts = p.1.0; print = p.1.1 }) (λ _. refl)

abbrev coded_deferrals : Coded Deferrals
coded_deferrals = code_by (ℕ × List Held) (coded× coded_ℕ (coded_list held_type.the_row.coded)) (λ d. (d.limit, d.list))
    (λ p. record { limit = p.0; list = p.1 }) (λ _. refl)

abbrev pub coded_node : Coded Node
coded_node = code_by
    (Limits × (Rules × (States × (Queue × (Deferrals × (BulkServer × (BulkClient × (ℕ × (ℕ × (ℕ × (Bool × Counters)))))))))))
    (coded× limits_type.the_row.coded (coded× coded_rules (coded× (maps.code coded_state_name state_type.the_row.coded)
    (coded× coded_queue (coded× coded_deferrals (coded× server_type.the_row.coded (coded× client_type.the_row.coded
    (coded× coded_ℕ (coded× coded_ℕ (coded× coded_ℕ (coded× coded_bool counters_type.the_row.coded)))))))))))
    (λ n. (n.limits, (n.rules, (n.states, (n.queue, (n.held, (n.server, (n.client, (n.clock, (n.creator, (n.next_id, (n.push, n.counters))))))))))))
    (λ p. record {
      limits = p.0;
      rules = p.1.0;
      states = p.1.1.0;
      queue = p.1.1.1.0;
      held = p.1.1.1.1.0;
      server = p.1.1.1.1.1.0;
      client = p.1.1.1.1.1.1.0;
      clock = p.1.1.1.1.1.1.1.0;
      creator = p.1.1.1.1.1.1.1.1.0;
      next_id = p.1.1.1.1.1.1.1.1.1.0;
      push = p.1.1.1.1.1.1.1.1.1.1.0;
      counters = p.1.1.1.1.1.1.1.1.1.1.1;
    })
    (λ _. refl)
