-- What a state has left fits a record, where the same is left of another one.
use Rattle.std.specs.Prelude.{◌≡◌, ◌≤◌, ◌<◌, ◌+◌, ◌*◌, ℕ}
use Rattle.std.proofs.Common.{subst, sym}
use Rattle.pfl_rules.specs.Rules.{timeout}
use Rattle.pfl_track.specs.declared.state.State.{State}
use Rattle.pfl_desk.specs.Nodes.{Node, LeftFits, most_left}

-- a state of the rule, the class and the last use of one has as much left
pub left-same : (n : Node) (s t : State) → t.rule ≡ s.rule → t.class ≡ s.class → t.last ≡ s.last → (n.clock < s.last → LeftFits n s)
    → n.clock < t.last → LeftFits n t
left-same n s t rule class last ahead later =
    subst (λ (end : ℕ). end ≤ n.clock + most_left) (sym same) (ahead (subst (λ (at : ℕ). n.clock < at) last later))
  where
    same : t.last + timeout n.rules t.rule t.class * 1000 ≡ s.last + timeout n.rules s.rule s.class * 1000
    same = λ i. last i + timeout n.rules (rule i) (class i) * 1000
