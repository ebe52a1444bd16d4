use Rattle.std.proofs.Common.{◌≡◌, length, ap, refl, arith}
use Rattle.std.proofs.lemmas.Result.{IfOk-weaker}
use Rattle.pfl_edits.specs.Maps as maps
use Rattle.pfl_language.specs.declared.node_event.NodeOutcome.TheVariants.{Purged}
use Rattle.pfl_node.specs.Purging.{purged, purge_points, purge_refusal, expired_states}
use Rattle.pfl_node.proofs.Expired.{expired-few}
use Rattle.pfl_node.proofs.Judged.{by-points}
use Rattle.pfl_node.proofs.Purged.{purged-ends}
use Rattle.pfl_node.proofs.Ready.{begins}
use Rattle.pfl_node.proofs.purge.purge.Goals as goal

pub delete_expired-requires : goal.delete_expired-requires
delete_expired-requires g c =
    let a = c.args.desk.now in
    let room = (begins a c.requires.idle.ready).room in
    let few = expired-few (maps.len a.node.states) a.node in
    let states = c.requires.idle.node.parts.few in
    record { parts = c.requires.idle.node.parts; room = omega (arith, few, states, room) }

pub returns : goal.returns
returns g c =
    let a = c.args.desk.now in
    let n = a.node in
    let b = c.delete_expired.new.desk in
    let d = c.delete_expired.ensures in
    let count = length (expired_states n) in
    by-points _ (purge_refusal n) (purged n) (λ k. Purged k ≡ Purged count) (purge_points n) a b c.delete_expired.result c.judged.result
    c.judged.ensures.refused c.judged.ensures.answer refl d.went d.node
    (IfOk-weaker c.delete_expired.result (λ r. r.0 ≡ count) (λ r. Purged r.0 ≡ Purged count) (λ r same. ap Purged same) d.count)
    (purged-ends n b.node c.delete_expired.result c.requires.idle.node.counted d.node) d.writes
