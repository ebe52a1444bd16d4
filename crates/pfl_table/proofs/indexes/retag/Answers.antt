use Rattle.std.proofs.Common.{◌≡◌, ℕ, Option, Some, None, cond, is_some, ◌+◌, ◌∙◌, ap, sym, arith}
use Rattle.std.specs.Cmp.{nat_cmp_total}
use Rattle.std.specs.FinMap.{nat_cmp-IsAntisymmetric}
use Rattle.pfl_edits.specs.Maps as maps
use Rattle.pfl_edits.proofs.ForCallers.{get-set_at_same, len-insert, set_at-back}
use Rattle.pfl_table.proofs.indexes.retag.Goals as goal

pub returns-then-was-now-clause-tagged : goal.returns-then-was-now-clause-tagged
returns-then-was-now-clause-tagged g c =
    let same : c.args.now ≡ c.args.was = omega arith in
    sym (ap (λ t. maps.insert (maps.remove c.args.index.now.tags c.args.slot) c.args.slot t) same
    ∙ set_at-back nat_cmp_total nat_cmp-IsAntisymmetric c.args.index.now.tags c.args.slot (Some c.args.was) None c.requires.there)

pub insert-requires-clause-new : goal.insert-requires-clause-new
insert-requires-clause-new g c =
    ap (λ m. maps.get m c.args.slot) c.remove.ensures.tags ∙ get-set_at_same nat_cmp_total nat_cmp-IsAntisymmetric c.args.index.now.tags c.args.slot None

pub insert-requires-clause-room : goal.insert-requires-clause-room
insert-requires-clause-room g c =
    let tags = c.args.index.now.tags in
    let less = maps.remove tags c.args.slot in
    let back : maps.insert less c.args.slot c.args.was ≡ tags =
    set_at-back nat_cmp_total nat_cmp-IsAntisymmetric tags c.args.slot (Some c.args.was) None c.requires.there in
    let more = len-insert nat_cmp_total less c.args.slot c.args.was
    ∙ ap (λ (t : Option ℕ). cond (is_some t) (maps.len less) (maps.len less + 1))
    (get-set_at_same nat_cmp_total nat_cmp-IsAntisymmetric tags c.args.slot None) in
    omega (arith, ap maps.len c.remove.ensures.tags, ap maps.len back, more, c.requires.few, c.remove.ensures.limit)
