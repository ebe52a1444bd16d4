-- What was carried out and is not refused leads back through nodes; what is refused is refused for its points.
use Rattle.std.specs.Prelude.{◌≡◌, ◌≤◌, ℕ, Bool, true, false, List, [], ◌∷◌, Some, None, Result, Ok, Err, if◌then◌else◌, refl}
use Rattle.std.specs.List.{list_any}
use Rattle.std.proofs.Common.{◌∙◌, ap, sym, subst}
use Rattle.pfl_base.specs.declared.refusal.Refusal.TheVariants.{QueueFull, CountFull}
use Rattle.pfl_base.specs.Numbers.{greatest}
use Rattle.pfl_edits.specs.Changes.{Fits, LeadsBack, back}
use Rattle.pfl_queue.specs.declared.edits.QueueEdit.TheVariants.{OfMark, OfName, OfRequest, OfStatus, OfClear}
use Rattle.pfl_desk.specs.declared.edit.Counter.TheVariants.{Passed, Blocked, Freed, Lost, Bad, Stale, Broken}
use Rattle.pfl_desk.specs.declared.edit.NodeEdit.{NodeEdit}
use Rattle.pfl_desk.specs.declared.edit.NodeEdit.TheVariants.{OfState, Moved, OfQueue, OfHeld, Server, Client, Clock, NextId, Push, Count}
use Rattle.pfl_desk.specs.declared.parts.judge.Overfull.{Overfull}
use Rattle.pfl_desk.specs.Edits.{Finds, Stays, put_back, NodeLeadsBack}
use Rattle.pfl_desk.specs.inner.Judging.{Went, judgement}
use Rattle.pfl_desk.specs.Nodes.{Node, AreParts, IsNode, is_overfull, is_overcounted, refused_by, points_refusal}
use Rattle.pfl_desk.proofs.Keeps.{AreCounted, counted_all, all_counted}

-- ---- the way back is through nodes

-- the former number is not past the greatest, where the one that is there is not
former : (before after x : ℕ) → (x ≡ after) × Stays before after → x ≤ greatest → before ≤ greatest
former before after x f low = f.1 (subst (λ i. i ≤ greatest) f.0 low)

-- what is put back is not past the greatest, where nothing was
counted : (e : NodeEdit) (n : Node) → Finds e n → AreCounted n → AreCounted (put_back e n)
counted (OfState e) n f c = c
counted (Moved e) n f c = c
counted (OfQueue (OfMark name before after next_before next_after)) n f (i, (k, more)) = (i, (former next_before next_after n.queue.next (f.0.1, f.1) k, more))
counted (OfQueue (OfName name before after)) n f c = c
counted (OfQueue (OfRequest position before after)) n f c = c
counted (OfQueue (OfStatus position before after)) n f c = c
counted (OfQueue (OfClear position before after)) n f c = c
counted (OfHeld e) n f c = c
counted (Server before after) n f c = c
counted (Client before after) n f c = c
counted (Clock before after) n f c = c
counted (Push before after) n f c = c
counted (NextId before after) n f (k, more) = (former before after n.next_id f k, more)
counted (Count Passed before after) n f (i, (q, (k, more))) = (i, (q, (former before after n.counters.passed f k, more)))
counted (Count Blocked before after) n f (i, (q, (p, (k, more)))) = (i, (q, (p, (former before after n.counters.blocked f k, more))))
counted (Count Freed before after) n f (i, (q, (p, (b, (k, more))))) = (i, (q, (p, (b, (former before after n.counters.freed f k, more)))))
counted (Count Lost before after) n f (i, (q, (p, (b, (x, (k, more)))))) = (i, (q, (p, (b, (x, (former before after n.counters.lost f k, more))))))
counted (Count Bad before after) n f (i, (q, (p, (b, (x, (l, (k, more))))))) = (i, (q, (p, (b, (x, (l, (former before after n.counters.bad f k, more)))))))
counted (Count Stale before after) n f (i, (q, (p, (b, (x, (l, (d, (k, more)))))))) = (i, (q, (p, (b, (x, (l, (d, (former before after n.counters.stale f k, more))))))))
counted (Count Broken before after) n f (i, (q, (p, (b, (x, (l, (d, (s, (k, more))))))))) = (i, (q, (p, (b, (x, (l, (d, (s, (former before after n.counters.broken f k, more)))))))))

stays : (e : NodeEdit) (n : Node) → Finds e n → is_overcounted n ≡ false → is_overcounted (put_back e n) ≡ false
stays e n f c = all_counted (put_back e n) (counted e n f (counted_all n c))

through_nodes : (es : List NodeEdit) (n : Node) → Fits Finds AreParts put_back es n → is_overcounted n ≡ false
    → Fits Finds IsNode put_back es n × (is_overcounted (back put_back es n) ≡ false)
through_nodes [] n f c = (tt, c)
through_nodes (e ∷ es) n f c =
    let rest = through_nodes es n f.0 c in
    let here = stays e (back put_back es n) f.1 rest.1 in
    ((rest.0, f.1, record { parts = f.2; counted = here }), here)

-- what leads back from where no number is too high leads back through nodes
pub leads_through : (es : List NodeEdit) (a b : Node) → LeadsBack Finds AreParts put_back es a b → is_overcounted b ≡ false → NodeLeadsBack es a b
leads_through es a b l c = record { fits = (through_nodes es b l.fits c).0; back = l.back }

-- ---- what is refused

by_tests : (a b : Bool) → refused_by ((a, QueueFull) ∷ (b, CountFull) ∷ []) ≡ (if a then Some QueueFull else if b then Some CountFull else None)
by_tests true b = refl
by_tests false true = refl
by_tests false false = refl

-- an event is refused for the points that it went through
pub went-refusal : {T : Type 0} (r : Result (T × Bool) Overfull) (points : List Node) → Went r points → points_refusal points ≡ judgement r
went-refusal (Ok r) points w =
    by_tests (list_any is_overfull points) (list_any is_overcounted points)
    ∙ (λ i. if w.0 i then Some QueueFull else if sym w.1 i then Some CountFull else None)
went-refusal (Err e) points w =
    by_tests (list_any is_overfull points) (list_any is_overcounted points)
    ∙ ap (λ b. if b then Some QueueFull else if list_any is_overcounted points then Some CountFull else None) w

-- where it is not, none was too high
pub went-counted : {T : Type 0} (r : Result (T × Bool) Overfull) (t : T) (points : List Node) → Went r points → r ≡ Ok (t, false)
    → list_any is_overcounted points ≡ false
went-counted {T} r t points w e = let all = subst (λ (q : Result (T × Bool) Overfull). Went q points) e w in sym all.1
