use Rattle.std.proofs.Common.{not, rules}
use Rattle.std.specs.Ordering.{is_lt}
use Rattle.std.proofs.lemmas.List.Sorted.{IsPartitionPoint-from_clause}
use Rattle.pfl_base.specs.Names.{name_cmp}
use Rattle.pfl_bulk.proofs.Turns.{parted, after_point}
use Rattle.pfl_bulk.proofs.names_after.Goals as goal

pub returns : goal.returns
returns c =
    let point = IsPartitionPoint-from_clause (λ n. not (is_lt (name_cmp c.args.cursor n))) _ _ c.partition_point.ensures.partitioned
    (parted c.args.cursor _ c.requires.rising) (λ a r q k. search rules) in
    record { names = after_point c.args.cursor _ _ c.partition_point.ensures.bound point }
