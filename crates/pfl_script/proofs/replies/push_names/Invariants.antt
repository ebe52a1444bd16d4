use Rattle.std.proofs.Common.{◌≡◌, ◌++◌, take}
use Rattle.std.specs.List.{flat_map}
use Rattle.pfl_script.specs.Replies.{named}
use Rattle.pfl_script.proofs.replies.push_names.Given as goal

-- the names so far stand after the text
abbrev pub invariant-loop-name : goal.invariant-loop-name
invariant-loop-name g l = l.text.items ≡ l.initial.text.items ++ flat_map named (take l.name-index l.names)
