-- The points that a packet went through.
use Rattle.std.specs.Prelude.{◌≡◌, ◌≤◌, ℕ, Bool, true, false, ◌||◌, List, [], ◌∷◌, Result, Ok, Err, IfOk}
use Rattle.std.specs.List.{list_any}
use Rattle.std.proofs.Common.{◌∙◌, ap, sym, subst}
use Rattle.pfl_base.specs.declared.direction.Dir.{Dir}
use Rattle.pfl_base.specs.declared.packet.Packet.{Packet}
use Rattle.pfl_track.specs.declared.state.State.{State}
use Rattle.pfl_track.specs.declared.tracked.Tracked.{Tracked}
use Rattle.pfl_language.specs.declared.fate.Fate.{Fate}
use Rattle.pfl_receive.specs.desk.declared.parts.judge.Overfull.{Overfull}
use Rattle.pfl_receive.specs.desk.Drafts.{Draft, Writes}
use Rattle.pfl_node.specs.inner.Carried.{Handles}
use Rattle.pfl_receive.specs.desk.Nodes.{Node, is_overfull, is_overcounted}
use Rattle.pfl_node.specs.Packets.{followed, on_the_way, handled, packet_points}
use Rattle.pfl_node.specs.Starting.{Handled}
use Rattle.pfl_receive.proofs.ForCallers.desk.{writes-more}

or_false : (a : Bool) → a ≡ (a || false)
or_false true = λ i. true
or_false false = λ i. false

-- a packet stops at its end
pub stops-last : (e : Overfull) (k : ℕ) (old new : Draft) (h : Handled) (before : List Node) → k ≤ 14 → is_overfull h.node ≡ true
    → Writes k old new → Handles (Err e) old new h (h.node ∷ before)
stops-last e k old new h before few full writes = record {
  went = ap (λ b. b || list_any is_overfull before) full;
  step = tt;
  writes = writes-more k 14 old new few writes;
}

-- or on its way there
pub stops-first : (e : Overfull) (k : ℕ) (old new : Draft) (l : Node) (h : Handled) → k ≤ 14 → is_overfull l ≡ true → Writes k old new
    → Handles (Err e) old new h (h.node ∷ l ∷ [])
stops-first e k old new l h few full writes = record {
  went = second (is_overfull h.node) (is_overfull l) full;
  step = tt;
  writes = writes-more k 14 old new few writes;
}
  where
    second : (a b : Bool) → b ≡ true → (a || (b || false)) ≡ true
    second true b e = λ i. true
    second false b e = ap (λ c. c || false) e

-- a packet that goes through its end alone
pub ends : (fate : Fate) (over : Bool) (k : ℕ) (old new : Draft) (h : Handled) → k ≤ 14 → record { fate = fate; node = new.node } ≡ h
    → is_overfull new.node ≡ false → over ≡ is_overcounted new.node → Writes k old new
    → Handles (Ok (fate, over)) old new h (h.node ∷ [])
ends fate over k old new h few step fits counts writes =
    let node = ap (λ (g : Handled). g.node) step in
    record {
      went = (ap (λ b. b || false) (sym (ap is_overfull node) ∙ fits), counts ∙ (ap is_overcounted node ∙ or_false (is_overcounted h.node)));
      step = step;
      writes = writes-more k 14 old new few writes;
    }

-- and one that goes through another point before
pub ends-after : (fate : Fate) (over : Bool) (old new : Draft) (l : Node) (h : Handled) → record { fate = fate; node = new.node } ≡ h
    → is_overfull new.node ≡ false → is_overfull l ≡ false → over ≡ (is_overcounted new.node || is_overcounted l) → Writes 14 old new
    → Handles (Ok (fate, over)) old new h (h.node ∷ l ∷ [])
ends-after fate over old new l h step fits fitted counts writes =
    let node = ap (λ (g : Handled). g.node) step in
    record {
      went = (
        (λ i. (sym (ap is_overfull node) ∙ fits) i || (fitted i || false)),
        counts ∙ (λ i. is_overcounted (node i) || or_false (is_overcounted l) i),
      );
      step = step;
      writes = writes;
    }

-- what is the same
pub handles-as : (r : Result (Fate × Bool) Overfull) (old new : Draft) (h g : Handled) (ps qs : List Node) → g ≡ h → qs ≡ ps
    → Handles r old new h ps → Handles r old new g qs
handles-as r old new h g ps qs same points handles =
    subst (λ (k : Handled). Handles r old new k qs) (sym same) (subst (λ (rs : List Node). Handles r old new h rs) (sym points) handles)

-- a packet of a state, as tracking has it
pub handles-tracked : (r : Result (Fate × Bool) Overfull) (old new : Draft) (n : Node) (dir : Dir) (p : Packet) (s : State) (t u : Tracked) → u ≡ t
    → Handles r old new (followed n dir p s t) ((followed n dir p s t).node ∷ on_the_way n s t)
    → Handles r old new (followed n dir p s u) ((followed n dir p s u).node ∷ on_the_way n s u)
handles-tracked r old new n dir p s t u same handles =
    subst (λ (v : Tracked). Handles r old new (followed n dir p s v) ((followed n dir p s v).node ∷ on_the_way n s v)) (sym same) handles

-- where no number was too high at a point of a packet, none is where it ends
pub packet-ends : (n m : Node) (dir : Dir) (p : Packet) (tried : Result (Fate × Bool) Overfull)
    → IfOk tried (λ r. record { fate = r.0; node = m } ≡ handled n dir p)
    → (fate : Fate) → tried ≡ Ok (fate, false) → list_any is_overcounted (packet_points n dir p) ≡ false → is_overcounted m ≡ false
unfolding packet_points
packet-ends n m dir p tried step fate stands none =
    let same : record { fate = fate; node = m } ≡ handled n dir p =
    subst (λ (q : Result (Fate × Bool) Overfull). IfOk q (λ r. record { fate = r.0; node = m } ≡ handled n dir p)) stands step in
    ap (λ (h : Handled). is_overcounted h.node) same ∙ first (is_overcounted (handled n dir p).node) _ none
  where
    first : (a b : Bool) → (a || b) ≡ false → a ≡ false
    first true b e = e
    first false b e = λ i. false
