-- A mark that was taken off goes back into later queues too.
use Rattle.std.proofs.Common.{◌≡◌, ◌≢◌, ◌<◌, Some, None, inl, inr, sym, ◌∙◌, ap, arith}
use Rattle.pfl_base.specs.declared.state_name.StateName.{StateName}
use Rattle.pfl_base.proofs.ForCallers.{names_total, names_exact}
use Rattle.pfl_edits.specs.Maps as maps
use Rattle.pfl_edits.proofs.ForCallers.{len-insert, get-set_at_cases}
use Rattle.pfl_queue.specs.declared.Mark.{Mark}
use Rattle.pfl_queue.specs.Queues.{Queue, IsQueue, pending}
use Rattle.pfl_queue.specs.Edits.{with_name}
use Rattle.pfl_queue.specs.Laws.{FormerMarksGoBack}

module _ (q : Queue) (m : Mark) (is : IsQueue q) (off : maps.get q.marks m.name ≡ None) (room : pending q < q.limit) (low : m.number < q.next)
    (other : (n : StateName) (k : Mark) → maps.get q.marks n ≡ Some k → k.number ≢ m.number) where
  put_back_kept : IsQueue (with_name q m.name (Some m))
  put_back_kept =
      let cases = get-set_at_cases names_total names_exact q.marks m.name (Some m) in
      record {
        few = rw (len-insert names_total q.marks m.name m, off) (omega (arith, room));
        filed = λ n k at. elim (cases n k at) [
          | inl h ↦ (let same : m ≡ k = cc in ap (λ (g : Mark). g.name) (sym same))
              ∙ sym h.0
          | inr old ↦ is.filed n k old.1
        ];
        below = λ n k at. elim (cases n k at) [
          | inl h ↦ let same : m ≡ k = cc in let number = ap (λ (g : Mark). g.number) same in omega (arith, number, low)
          | inr old ↦ is.below n k old.1
        ];
        one_number = λ n o k l at there same. elim (cases n k at) [
          | inl h ↦ elim (cases o l there) [
            | inl j ↦ h.0 ∙ sym j.0
            | inr old ↦ absurd (let it : m ≡ k = cc in other o l old.1 (sym same ∙ sym (ap (λ (g : Mark). g.number) it)))
          ]
          | inr old ↦ elim (cases o l there) [
            | inl j ↦ absurd (let it : m ≡ l = cc in other n k old.1 (same ∙ sym (ap (λ (g : Mark). g.number) it)))
            | inr older ↦ is.one_number n o k l old.1 older.1 same
          ]
        ];
        asked_once = is.asked_once;
        countable = is.countable;
      }

pub former_marks_go_back : FormerMarksGoBack
former_marks_go_back q m is off room low other = (tt, off, put_back_kept q m is off room low other)
