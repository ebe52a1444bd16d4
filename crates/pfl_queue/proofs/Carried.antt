-- A frame with room for one record carries one, where something is pending.
use Rattle.std.proofs.Common.{◌≡◌, ℕ, ◌<◌, ◌≤◌, Bool, true, false, cond, List, [], ◌∷◌, ◌++◌, map, length, refl, sym, ◌∙◌, ap, subst, arith, nat_le}
use Rattle.std.specs.Prelude.{filter, unwrap_or}
use Rattle.std.specs.List.{AllByRecursion, sum_by}
use Rattle.std.proofs.lemmas.Bool.Decides.{nat_tests}
use Rattle.std.proofs.lemmas.List.{length-append, length-map}
use Rattle.std.proofs.lemmas.List.Sums.{sum_by-cons}
use Rattle.pfl_base.specs.Lists.{in_order, last_of, prefixes}
use Rattle.pfl_base.proofs.ForCallers.{each-filter}
use Rattle.pfl_edits.specs.Maps as maps
use Rattle.pfl_edits.proofs.ForCallers.{len-entries}
use Rattle.pfl_edits.specs.Maps.{entries}
use Rattle.pfl_wire.specs.Actions.{record_len}
use Rattle.pfl_wire.specs.declared.action.Action.{Action}
use Rattle.pfl_wire.specs.declared.action.Action.TheVariants as action
use Rattle.pfl_queue.specs.declared.Entry.{Entry}
use Rattle.pfl_queue.specs.declared.Entry.TheVariants.{Request, Status}
use Rattle.pfl_queue.specs.inner.Fitting.{entry_bytes, longest}
use Rattle.pfl_queue.specs.Queues.{Queue, pending}
use Rattle.pfl_queue.specs.Taking.{mark_before, entry_of, clear_of, in_turn, next_frame, entry_action}
use Rattle.pfl_queue.proofs.Fitting.{next_frame-longest}
use Rattle.pfl_queue.proofs.Sorting.{order-sum}

-- ---- what is pending stands in turn

ones : {X : Type 0} (xs : List X) → sum_by (λ x. 1) xs ≡ length xs
ones [] = refl
ones (x ∷ xs) = omega (arith, sum_by-cons (λ y. 1) x xs, ones xs)

pub marks-length : (q : Queue) → length (in_order mark_before (maps.values q.marks)) ≡ maps.len q.marks
marks-length q =
    let marks = in_order mark_before (maps.values q.marks) in
    sym (ones marks) ∙ (order-sum mark_before (λ m. 1) (maps.values q.marks)
    ∙ (ones (maps.values q.marks) ∙ (length-map (entries q.marks) (λ e. e.1) ∙ sym (len-entries q.marks))))

pub pending-in_turn : (q : Queue) → length (in_turn q) ≡ pending q
pending-in_turn q =
    let marks = in_order mark_before (maps.values q.marks) in
    let sorted = marks-length q in
    let clears = length-map q.clears clear_of in
    let statuses = length-map q.statuses Status in
    let requests = length-map q.requests Request in
    let named = length-map marks entry_of in
    let one = length-append (map entry_of marks) (map Request q.requests) in
    let two = length-append (map entry_of marks ++ map Request q.requests) (map Status q.statuses) in
    let three = length-append (map entry_of marks ++ map Request q.requests ++ map Status q.statuses) (map clear_of q.clears) in
    omega (arith, sorted, clears, statuses, requests, named, one, two, three)

-- ---- the longest prefix that passes is not empty, where the first element passes

last-filled : {X : Type 0} (front : List X) (fronts : List (List X)) → 0 < length front → AllByRecursion (λ f. 0 < length f) fronts
    → 0 < length (unwrap_or (last_of (front ∷ fronts)) [])
last-filled front [] first all = first
last-filled front (g ∷ gs) first all = last-filled g gs all.0 all.1

all-filled : {X : Type 0} (x : X) (fronts : List (List X)) → AllByRecursion (λ f. 0 < length f) (map (λ front. x ∷ front) fronts)
all-filled x [] = tt
all-filled x (f ∷ fs) = (omega arith, all-filled x fs)

-- the prefixes begin with the empty one
record FromNone {X : Type 0} (fronts : List (List X)) : Type 0 where
  more : List (List X)
  is : fronts ≡ [] ∷ more

from_none : {X : Type 0} (xs : List X) → FromNone (prefixes xs)
from_none [] = record { more = []; is = refl }
from_none (x ∷ xs) = record { more = map (λ front. x ∷ front) (prefixes xs); is = refl }

first-passes : {X : Type 0} (p : List X → Bool) (x : X) (xs : List X) → p (x ∷ []) ≡ true → 0 < length (unwrap_or (last_of (filter p (prefixes (x ∷ xs)))) [])
first-passes p x xs passes =
    let from = from_none xs in
    let others = filter p (map (λ front. x ∷ front) from.more) in
    let longer = filter p (map (λ front. x ∷ front) (prefixes xs)) in
    let first : longer ≡ (x ∷ []) ∷ others = ap (λ fronts. filter p (map (λ front. x ∷ front) fronts)) from.is
    ∙ ap (λ b. cond b ((x ∷ []) ∷ others) others) passes in
    let so = last-filled (x ∷ []) others (omega arith) (each-filter (λ f. 0 < length f) p (map (λ front. x ∷ front) from.more) (all-filled x from.more)) in
    elim (p []) as (λ b. 0 < length (unwrap_or (last_of (cond b ([] ∷ longer) longer)) [])) [
      | true ↦ subst (λ fronts. 0 < length (unwrap_or (last_of ([] ∷ fronts)) [])) (sym first) so
      | false ↦ subst (λ fronts. 0 < length (unwrap_or (last_of fronts) [])) (sym first) so
    ]

-- ---- a frame of one record

greatest_record : (a : Action) → record_len a ≤ 124
greatest_record action.Clear = omega arith
greatest_record action.Insert = omega arith
greatest_record action.InsertAck = omega arith
greatest_record action.Update = omega arith
greatest_record action.UpdateShort = omega arith
greatest_record action.UpdateRequest = omega arith
greatest_record action.Delete = omega arith
greatest_record action.DeleteShort = omega arith
greatest_record action.Bulk = omega arith

one_fits : (e : Entry) (mtu : ℕ) → 148 ≤ mtu → nat_le (entry_bytes (e ∷ [])) mtu ≡ true
one_fits e mtu room =
    let most = greatest_record (entry_action e) in
    let few : entry_bytes (e ∷ []) ≤ mtu = omega (arith, most, room) in
    grind (arith, nat_tests)

longest-filled : (es : List Entry) (mtu : ℕ) → 148 ≤ mtu → 0 < length es → 0 < length (longest es mtu)
longest-filled [] mtu room some = absurd (omega arith)
longest-filled (e ∷ es) mtu room some = first-passes (λ front. nat_le (entry_bytes front) mtu) e es (one_fits e mtu room)

pub frame_carries : (q : Queue) (mtu : ℕ) → 148 ≤ mtu → 0 < pending q → 0 < length (next_frame q mtu)
frame_carries q mtu room some =
    subst (λ (es : List Entry). 0 < length es) (sym (next_frame-longest q mtu)) (longest-filled (in_turn q) mtu room (omega (arith, pending-in_turn q, some)))
