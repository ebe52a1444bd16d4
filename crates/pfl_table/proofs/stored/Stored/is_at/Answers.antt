use Rattle.std.proofs.Common.{◌≡◌, IsTrue, Some, ◌∙◌, ap, sym, subst, rules}
use Rattle.std.specs.Option.{option_map}
use Rattle.pfl_base.specs.Names.{name_cmp}
use Rattle.pfl_edits.proofs.ForCallers.{row_at}
use Rattle.pfl_containers.specs.SlotIndexes.{key_of}
use Rattle.pfl_table.specs.inner.Filed.{Filing, name_of, slot_of_link}
use Rattle.pfl_table.proofs.Storing.{place-named}
use Rattle.pfl_table.proofs.stored.Stored.is_at.Goals as goal

pub returns-in-Some : goal.returns-in-Some
returns-in-Some g c =
    let same : IsTrue c.eq.result → c.name.result ≡ c.args.name = search rules in
    let found = c.in-Some.ensures.found in
    record {
      at = λ is.
          let named = ap name_of found.1 ∙ (sym c.name.ensures ∙ same is) in
          subst (λ (f : Filing). Some c.args.slot ≡ option_map slot_of_link (row_at name_cmp (key_of name_of) f.links c.args.name)) c.self.view_is
          (place-named c.self.inside.rows c.self.inside.indexes c.self.invariant c.args.name c.args.slot found.0 named);
    }
