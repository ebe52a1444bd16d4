use Rattle.std.specs.Prelude.{◌≡◌, refl}
use Rattle.std.proofs.Common.{◌∙◌, sym, subst, arith}
use Rattle.pfl_base.specs.Names.{name_cmp}
use Rattle.pfl_edits.specs.Maps as maps
use Rattle.pfl_edits.proofs.ForCallers.{get-empty, some_is_none}
use Rattle.pfl_desk.specs.Nodes.{AreParts}
use Rattle.pfl_desk.proofs.NewNodes.{made_new, new_node-is}
use Rattle.pfl_desk.proofs.parts.Parts.new.Goals as goal

pub invariant_of-result : goal.invariant_of-result
invariant_of-result g c =
    let same = made_new c.args.limits c.args.rules c.in_ok-table.table c.in_ok-queue.queue c.in_ok-held.held c.none.result c.args.creator
    c.args.next c.in_ok-table.ensures.empty c.in_ok-queue.ensures.empty c.in_ok-held.ensures.empty c.none.ensures in (
      record {
        room = c.in_ok-table.ensures.limit;
        timeouts = λ name row at. absurd
            (some_is_none row (sym at
            ∙ (subst (λ m. maps.get m name ≡ maps.get (maps.empty {R = name_cmp}) name) (sym c.in_ok-table.ensures.empty) refl
            ∙ get-empty name_cmp name)));
      },
      subst AreParts (sym same) (new_node-is c.args.limits c.args.rules c.args.creator c.args.next 0 c.requires.limits c.known.ensures
          (omega (arith, c.ranges.next.fits)) (omega arith)).parts,
    )

pub returns : goal.returns
returns g c =
    let same = made_new c.args.limits c.args.rules c.in_ok-table.table c.in_ok-queue.queue c.in_ok-held.held c.none.result c.args.creator
    c.args.next c.in_ok-table.ensures.empty c.in_ok-queue.ensures.empty c.in_ok-held.ensures.empty c.none.ensures in
    record {
      new = same;
      parts = subst AreParts (sym same)
          (new_node-is c.args.limits c.args.rules c.args.creator c.args.next 0 c.requires.limits c.known.ensures
          (omega (arith, c.ranges.next.fits)) (omega arith)).parts;
    }
