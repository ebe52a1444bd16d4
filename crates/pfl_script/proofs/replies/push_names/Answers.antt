use Rattle.std.proofs.Common.{◌++◌, ◌∙◌, ap, refl}
use Rattle.pfl_script.specs.Replies.{named}
use Rattle.pfl_script.proofs.Lists.{pushed_more, pushed_name}
use Rattle.pfl_script.proofs.replies.push_names.Goals as goal

pub loop-name-preserved : goal.loop-name-preserved
loop-name-preserved g c =
    pushed_more named _ _ _ _ _ _ _ c.loop-name.invariant
    (pushed_name _ _ _ _ _ refl c.in_ok-extend_from_slice.ensures.items c.in_ok-extend_from_slice-2.ensures.items
    ∙ ap (λ name. c.loop-name.text.items ++ named name) c.bytes.ensures)
    c.name-item.is c.loop-name-test.true
