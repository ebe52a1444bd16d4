use Rattle.std.proofs.Common.{◌+◌, leb, rules}
use Rattle.std.proofs.lemmas.List.Sorted.{IsPartitionPoint-from_clause}
use Rattle.pfl_defer.specs.declared.Held.{Held}
use Rattle.pfl_defer.proofs.Ripening.{parted, due_point}
use Rattle.pfl_defer.proofs.deferrals.Deferrals.due.Goals as goal

pub returns : goal.returns
returns g c =
    let point = IsPartitionPoint-from_clause
    (λ (h : Held). leb (h.held_at + c.args.defer_ms) c.args.now) _ _ c.partition_point.ensures.partitioned
    (parted _ c.as_slice-held.ensures.deferrals c.args.now c.args.defer_ms _ c.as_slice-held.ensures.list) (λ a r q k. search rules) in
    record {
      due = due_point _ c.as_slice-held.ensures.deferrals c.args.now c.args.defer_ms _ c.as_slice-held.ensures.list _
          c.partition_point.ensures.bound point;
    }
