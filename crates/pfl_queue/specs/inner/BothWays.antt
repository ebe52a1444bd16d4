-- An edit of a queue knows both values of its place.
use Rattle.std.specs.Prelude.{◌≡◌, ℕ, Option, refl}
use Rattle.std.proofs.Common.{ap, sym, ◌∙◌}
use Rattle.pfl_base.specs.declared.state_name.StateName.{StateName}
use Rattle.pfl_base.proofs.ForCallers.{names_total, names_exact}
use Rattle.pfl_edits.specs.Changes.{LeadsBothWays}
use Rattle.pfl_edits.specs.Maps as maps
use Rattle.pfl_edits.proofs.ForCallers.{set_at-back, position-both_ways, part-both_ways, key-both_ways, get-set_at_same}
use Rattle.pfl_queue.specs.declared.Mark.{Mark}
use Rattle.pfl_queue.specs.declared.edits.QueueEdit.{QueueEdit}
use Rattle.pfl_queue.specs.declared.edits.QueueEdit.TheVariants.{OfMark, OfName, OfRequest, OfStatus, OfClear}
use Rattle.pfl_queue.specs.Queues.{Queue}
use Rattle.pfl_queue.specs.Edits.{with_mark, FindsFormer, redone, Finds, put_back}

mark-back : (q : Queue) (name : StateName) (was at : Option Mark) (next former : ℕ) → maps.get q.marks name ≡ was → q.next ≡ former
    → with_mark (with_mark q name at next) name was former ≡ q
mark-back q name was at next former is same =
    ap (λ m. record q { next = former; marks = m }) (set_at-back names_total names_exact q.marks name was at is) ∙ ap (λ n. record q { next = n }) (sym same)

-- a name with the next number or alone, a position of each list: an edit leads both ways
pub edit-both_ways : (e : QueueEdit) → LeadsBothWays (FindsFormer e) (Finds e) (put_back e) (redone e)
edit-both_ways (OfMark name before after next_before next_after) = record {
  put_back_finds = λ q is. (get-set_at_same names_total names_exact q.marks name before, refl);
  redone_finds = λ q is. (get-set_at_same names_total names_exact q.marks name after, refl);
  redone_put_back = λ q is. mark-back q name after before next_before next_after is.0 is.1;
  put_back_redone = λ q is. mark-back q name before after next_after next_before is.0 is.1;
}
edit-both_ways (OfName name before after) =
    part-both_ways (λ (q : Queue). q.marks) (λ q ms. record q { marks = ms }) (λ q ms. refl) (λ q. refl) (λ q ms ns. refl) _ _ _ _
    (key-both_ways names_total names_exact name before after)
edit-both_ways (OfRequest position before after) =
    part-both_ways (λ (q : Queue). q.requests) (λ q xs. record q { requests = xs }) (λ q xs. refl) (λ q. refl) (λ q xs ys. refl) _ _ _ _
    (position-both_ways position before after)
edit-both_ways (OfStatus position before after) =
    part-both_ways (λ (q : Queue). q.statuses) (λ q xs. record q { statuses = xs }) (λ q xs. refl) (λ q. refl) (λ q xs ys. refl) _ _ _ _
    (position-both_ways position before after)
edit-both_ways (OfClear position before after) =
    part-both_ways (λ (q : Queue). q.clears) (λ q xs. record q { clears = xs }) (λ q xs. refl) (λ q. refl) (λ q xs ys. refl) _ _ _ _
    (position-both_ways position before after)
