-- A frame at a node: where its records are taken, none of them counted too high, the node after the last has not either.
use Rattle.std.specs.Prelude.{◌≡◌, ℕ, Bool, true, false, ◌||◌, List, [], ◌∷◌, Result, Ok, OnOk, refl}
use Rattle.std.specs.List.{fold, list_any}
use Rattle.std.proofs.Common.{◌∙◌, ap, subst}
use Rattle.pfl_wire.specs.declared.message.Message.{Message}
use Rattle.pfl_wire.specs.Frames.{Frame, records_of}
use Rattle.pfl_receive.specs.desk.declared.parts.judge.Overfull.{Overfull}
use Rattle.pfl_receive.specs.desk.Nodes.{Node, is_overcounted}
use Rattle.pfl_receive.specs.Delivering.{receive_points, received, same_rules, taken_points}
use Rattle.pfl_receive.specs.Receiving.{taken}

abbrev step : Bool → Node → Message → Node
step same = λ m r. taken m same r

-- where no number was too high after a record, none is at the end
ends : (same : Bool) (ms : List Message) (n : Node) → is_overcounted n ≡ false → list_any is_overcounted (taken_points n same ms) ≡ false
    → is_overcounted (fold (step same) n ms) ≡ false
ends same [] n e h = e
ends same (r ∷ ms) n e h = by (ends same ms (taken n same r)) (is_overcounted (taken n same r)) refl h
  where
    by : (is_overcounted (taken n same r) ≡ false → list_any is_overcounted (taken_points (taken n same r) same ms) ≡ false
        → is_overcounted (fold (step same) (taken n same r) ms) ≡ false)
        → (b : Bool) → is_overcounted (taken n same r) ≡ b → (b || list_any is_overcounted (taken_points (taken n same r) same ms)) ≡ false
        → is_overcounted (fold (step same) (taken n same r) ms) ≡ false
    by rest true is h = absurd (cc)
    by rest false is h = rest is h

pub received-ends : (n b : Node) (f : Frame) (tried : Result (ℕ × Bool) Overfull) → is_overcounted n ≡ false
    → OnOk tried (b ≡ received n f) → (t : ℕ) → tried ≡ Ok (t, false) → list_any is_overcounted (receive_points n f) ≡ false
    → is_overcounted b ≡ false
received-ends n b f tried low node t stands none =
    let same : b ≡ received n f = subst (λ (q : Result (ℕ × Bool) Overfull). OnOk q (b ≡ received n f)) stands node in
    ap is_overcounted same ∙ ends (same_rules n f) (records_of f) n low none
