use Rattle.std.proofs.Common.{◌≡◌, Some, ◌∙◌, ap, sym}
use Rattle.pfl_base.specs.declared.addr.End.{End}
use Rattle.pfl_base.specs.Keys.{key as flow_of}
use Rattle.pfl_rules.specs.Pools.{end_at}
use Rattle.pfl_table.specs.Tables.{states_of}
use Rattle.pfl_table.specs.Translating.{free_end, is_taken, keys_to}
use Rattle.pfl_table.specs.inner.Translated.{free_port, own_in_use, takes_port, translated_of}
use Rattle.pfl_table.proofs.Translated.{at_any_port, at_first_port, at_free_port, at_last_port, keys_at, of_none, of_pool, proto-of_flow}
use Rattle.pfl_table.proofs.table.StateTable.new_keys.Goals.{else-has_own, then-has_own}
use Rattle.pfl_table.proofs.table.StateTable.new_keys.Goals.{then-not-takes_port-via-else-not-takes_port+then-not-has_either}
use Rattle.pfl_table.proofs.table.StateTable.new_keys.Goals.{then-not-takes_port-via-then-not-takes_port}
use Rattle.pfl_table.proofs.table.StateTable.new_keys.Goals as goal

pub returns-in_default : goal.returns-in_default
returns-in_default g c =
    let m = states_of c.args.self.now in
    let r = c.args.rule.now in
    let k = flow_of c.args.packet.now c.args.dir in
    record { keys = c.keys_at.ensures ∙ of_none m r k (sym c.or.ensures ∙ c.in_default.is) }

pub returns-then-not-takes_port : goal.returns-then-not-takes_port
returns-then-not-takes_port g c =
    let m = states_of c.args.self.now in
    let r = c.args.rule.now in
    let k = flow_of c.args.packet.now c.args.dir in
    let pool = c.in-Some.pool in
    let port = pool.ports.first in
    let at : c.keys_at-keys.result ≡ keys_at m r k pool port = c.keys_at-keys.ensures
    ∙ ap (λ (e : End). keys_to r k (Some e)) (c.end.ensures ∙ ap (end_at pool) c.first.ensures) in
    let same : keys_at m r k pool port ≡ keys_to r k (Some (free_end m r k pool)) =
    elim c.then-not-takes_port.branch [
      | then-not-takes_port-via-then-not-takes_port w ↦
          at_any_port m r k pool port (ap takes_port (proto-of_flow c.args.packet.now c.args.dir ∙ sym c.proto.ensures)
          ∙ (sym c.takes_port.ensures ∙ w.if-not-takes_port.true))
      | then-not-takes_port-via-else-not-takes_port+then-not-has_either w ↦
          at_first_port m r k pool (ap (is_taken m) (sym at) ∙ (sym w.has_either.ensures.taken ∙ w.if-not-has_either.true))
    ] in
    record { keys = at ∙ (same ∙ of_pool m r k pool (sym c.or.ensures ∙ c.in-Some.is)) }

pub returns : goal.returns
returns g c =
    let m = states_of c.args.self.now in
    let r = c.args.rule.now in
    let k = flow_of c.args.packet.now c.args.dir in
    let pool = c.in-Some.pool in
    let port = pool.ports.first in
    let at : c.keys_at-keys.result ≡ keys_at m r k pool port = c.keys_at-keys.ensures
    ∙ ap (λ (e : End). keys_to r k (Some e)) (c.end.ensures ∙ ap (end_at pool) c.first.ensures) in
    let used = ap (own_in_use m r) (sym at) ∙ sym c.has_own.ensures in
    let same : end_at pool c.if-has_own.port ≡ free_end m r k pool =
    elim c.if-has_own.branch [
      | then-has_own w ↦ ap (end_at pool) (w.port-is ∙ w.last-port.ensures) ∙ at_last_port m r k pool port (used ∙ w.if-has_own.true)
      | else-has_own w ↦
          ap (end_at pool) (w.port-is ∙ (w.free_port-port.ensures ∙ ap (λ key. free_port m r key pool.ports) (w.translated.ensures ∙ ap (translated_of r) at)))
          ∙ at_free_port m r k pool port (used ∙ w.if-has_own.false)
    ] in
    record {
      keys = c.keys_at-2.ensures
          ∙ (ap (λ (e : End). keys_to r k (Some e)) (c.end-2.ensures ∙ same) ∙ of_pool m r k pool (sym c.or.ensures ∙ c.in-Some.is));
    }
