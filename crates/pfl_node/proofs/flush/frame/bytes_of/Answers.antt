use Rattle.std.proofs.Common.{◌∙◌}
use Rattle.pfl_node.proofs.Grouped.{can-be-sent, spelled-len}
use Rattle.pfl_node.proofs.flush.frame.bytes_of.Goals as goal

pub encode-requires : goal.encode-requires
encode-requires g c =
    can-be-sent c.args.parts.now c.requires.parts c.args.entries.now c.requires.told c.requires.short c.new-frame.result
    (c.new-frame.ensures.groups ∙ c.in_ok-groups.ensures.groups)

pub returns-clause-len : goal.returns-clause-len
returns-clause-len g c =
    spelled-len c.args.parts.now c.requires.parts c.args.entries.now c.requires.told c.new-frame.result (c.new-frame.ensures.groups
    ∙ c.in_ok-groups.ensures.groups) c.encode.result c.encode.ensures.spelled
