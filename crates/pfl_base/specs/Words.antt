-- Words as lines are read: the value with a word is the one that prints as it (this project's profile).
use Rattle.std.specs.Prelude.{ℕ, false, List, [], ◌∷◌, find, bytes_eq, Option}
use Rattle.std.specs.Option.{option_map_or}
use Rattle.pfl_base.specs.declared.class.Class.{Class}
use Rattle.pfl_base.specs.declared.direction.Dir.{Dir}
use Rattle.pfl_base.specs.declared.direction.Dir.TheVariants.{Inbound, Outbound}
use Rattle.pfl_base.specs.declared.node_id.NodeId.{NodeId}
use Rattle.pfl_base.specs.declared.node_id.NodeId.TheVariants.{A, B}
use Rattle.pfl_base.specs.declared.proto.Proto.{Proto}
use Rattle.pfl_base.specs.declared.proto.Proto.TheVariants.{Tcp, Udp, Icmp}
use Rattle.pfl_base.specs.Classes.{classes}
use Rattle.pfl_base.specs.Texts.{class_text, dir_text, node_text, proto_word}

-- the direction with the word, if there is one
abbrev pub dir_at_word : List ℕ → Option Dir
dir_at_word word = find (λ dir. bytes_eq (dir_text dir) word) (Inbound ∷ Outbound ∷ [])

-- the node with the word, if there is one
abbrev pub node_at_word : List ℕ → Option NodeId
node_at_word word = find (λ node. bytes_eq (node_text node) word) (A ∷ B ∷ [])

-- the class with the word, if there is one
abbrev pub class_at_word : List ℕ → Option Class
class_at_word word = find (λ class. bytes_eq (class_text class) word) classes

-- the protocol with the word, if there is one; others have none
abbrev pub proto_at_word : List ℕ → Option Proto
proto_at_word word = find (λ proto. option_map_or (λ own. bytes_eq own word) (proto_word proto) false) (Tcp ∷ Udp ∷ Icmp ∷ [])
