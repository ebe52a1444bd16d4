-- Words that are read.
use Rattle.std.proofs.Common.{◌≡◌, ℕ, List, [], ◌∷◌, true, false, Option, Some, None, IfSome, cond, refl, ap, subst, sym, bytes_eq, find}
use Rattle.std.specs.Option.{option_map_or}
use Rattle.std.proofs.lemmas.Slice.Eq.{bytes_eq-Decides}
use Rattle.pfl_base.specs.declared.proto.Proto.{Proto}
use Rattle.pfl_base.specs.declared.proto.Proto.TheVariants.{Tcp, Udp, Icmp}
use Rattle.pfl_base.specs.Texts.{proto_word}
use Rattle.pfl_base.specs.Words.{proto_at_word}

-- a word that is there, and is this one
own_word : (o : Option (List ℕ)) (word : List ℕ) → option_map_or (λ own. bytes_eq own word) o false ≡ true → o ≡ Some word
own_word None word h = cc
own_word (Some own) word h = ap Some ((bytes_eq-Decides own word).0 h)

-- what is found has the word
found_first : (ps : List Proto) (word : List ℕ) →
    IfSome (find (λ proto. option_map_or (λ own. bytes_eq own word) (proto_word proto) false) ps) (λ proto. proto_word proto ≡ Some word)
found_first [] word = tt
found_first (p ∷ ps) word =
    elim (option_map_or (λ own. bytes_eq own word) (proto_word p) false) as (λ b. option_map_or (λ own. bytes_eq own word) (proto_word p) false ≡ b →
    IfSome (cond b (Some p) (find (λ proto. option_map_or (λ own. bytes_eq own word) (proto_word proto) false) ps)) (λ proto. proto_word proto ≡ Some word)) [
      | true ↦ λ h. own_word (proto_word p) word h
      | false ↦ λ h. found_first ps word
    ] refl

pub found_word : (o : Option Proto) (word : List ℕ) → o ≡ proto_at_word word → IfSome o (λ proto. proto_word proto ≡ Some word)
found_word o word e = subst (λ t. IfSome t (λ proto. proto_word proto ≡ Some word)) (sym e) (found_first (Tcp ∷ Udp ∷ Icmp ∷ []) word)
