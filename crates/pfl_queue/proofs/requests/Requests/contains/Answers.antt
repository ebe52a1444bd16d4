use Rattle.std.proofs.Common.{◌∙◌, ap, is_some}
use Rattle.std.specs.List.{list_any}
use Rattle.pfl_base.specs.Names.{is_name}
use Rattle.pfl_queue.specs.inner.Asked.{Asked}
use Rattle.pfl_queue.proofs.Asking.{asked-test}
use Rattle.pfl_queue.proofs.requests.Requests.contains.Goals as goal

pub returns : goal.returns
returns g c =
    let test = asked-test c.self.inside.listed.items _ c.args.name c.self.invariant.index in
    record {
      contains = c.is_some.ensures
          ∙ (ap is_some c.get.ensures.found ∙ (test ∙ ap (λ (r : Asked). list_any (is_name c.args.name) r.listed) c.self.view_is));
    }
