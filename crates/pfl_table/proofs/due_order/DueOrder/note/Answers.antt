use Rattle.std.proofs.Common.{◌≡◌, ◌+◌, ◌-◌, ◌<◌, ◌≤◌, ℕ, List, ◌++◌, length, ◌∙◌, ap, sym, arith}
use Rattle.std.specs.Prelude.{replicate, set, take}
use Rattle.std.proofs.lemmas.List.{append-nil, take_all}
use Rattle.pfl_table.specs.inner.Dues.{timed}
use Rattle.pfl_table.proofs.due_order.DueOrder.note.Goals as goal
use Rattle.pfl_table.proofs.due_order.DueOrder.note.Goals.{then-slot-len, else-slot-len}

-- there are as many times as the slot needs, if need be by zeros
more : (times new : List ℕ) (slot n : ℕ) → n ≡ length times → n ≤ slot → new ≡ take (slot + 1) times ++ replicate (slot + 1 - n) 0
    → new ≡ times ++ replicate (slot + 1 - length times) 0
more times new slot n long out is =
    is ∙ (ap (λ (ts : List ℕ). ts ++ replicate (slot + 1 - n) 0) (take_all (slot + 1) times (omega arith)) ∙ ap (λ m. times ++ replicate (slot + 1 - m) 0) long)

enough : (times : List ℕ) (slot : ℕ) → slot < length times → times ≡ times ++ replicate (slot + 1 - length times) 0
enough times slot within =
    let none : slot + 1 - length times ≡ 0 = omega arith in
    sym (ap (λ n. times ++ replicate n 0) none ∙ append-nil times)

pub returns-clause-filed : goal.returns-clause-filed
unfolding timed
returns-clause-filed g c =
    let old = c.self.inside.filed.items in
    let long : c.len.result ≡ length old = c.len.ensures ∙ c.self.inside.filed.ok.0 in
    let padded : c.if-slot-len.self-inside.filed.items ≡ old ++ replicate (c.args.slot + 1 - length old) 0 = elim c.if-slot-len.branch [
      | then-slot-len w ↦ more old _ c.args.slot _ c.self.inside.filed.ok.0 (omega (arith, w.if-slot-len.true, c.len.ensures))
          (ap (λ s. s.filed.items) w.self-inside-is ∙ rw w.unwrap.ensures at w.resize.ensures.items)
      | else-slot-len w ↦ ap (λ s. s.filed.items) w.self-inside-is ∙ enough old c.args.slot (omega (arith, w.if-slot-len.false, long))
    ] in
    ap (λ (ts : List ℕ). set ts c.args.slot c.args.time) padded
    ∙ ap (λ d. set (d.filed ++ replicate (c.args.slot + 1 - length d.filed) 0) c.args.slot c.args.time) c.self.view_is
