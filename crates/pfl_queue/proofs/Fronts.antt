-- A frame takes from the front of what is pending.
use Rattle.std.proofs.Common.{◌≡◌, ℕ, List, [], ◌∷◌, ◌++◌, map, drop, Some, refl, sym, ◌∙◌, ap, subst, arith}
use Rattle.std.specs.Prelude.{unwrap_or, slice_get}
use Rattle.std.specs.List.{AllByRecursion, remove, sum_by}
use Rattle.std.proofs.lemmas.List.Sums.{sum_by-cons}
use Rattle.pfl_base.specs.declared.state_name.StateName.{StateName}
use Rattle.pfl_base.specs.Lists.{last_of, prefixes, in_order}
use Rattle.pfl_base.proofs.ForCallers.{each-filter, each-in_order, each-map}
use Rattle.pfl_edits.proofs.ForCallers.{LeadsBack-none, LeadsBack-append}
use Rattle.pfl_edits.specs.Maps as maps
use Rattle.pfl_wire.specs.declared.message.BulkStatus.{BulkStatus}
use Rattle.pfl_queue.specs.declared.Cleared.{Cleared}
use Rattle.pfl_queue.specs.declared.Entry.{Entry}
use Rattle.pfl_queue.specs.declared.Entry.TheVariants.{Marked, Request, Status, Clear}
use Rattle.pfl_queue.specs.declared.Mark.{Mark}
use Rattle.pfl_queue.specs.Edits.{FindsFormer, Finds, redone, put_back, QueueLeadsBack, taking}
use Rattle.pfl_queue.proofs.Leading.{redone-leads_back}
use Rattle.pfl_queue.specs.Queues.{Queue, IsQueue, unmarked}
use Rattle.pfl_queue.specs.Taking.{mark_before, entry_of, clear_of, in_turn, gone, left_by, next_frame}
use Rattle.pfl_queue.specs.inner.Fitting.{longest}
use Rattle.pfl_queue.specs.Laws.{FramesTakeFromTheFront}
use Rattle.pfl_queue.proofs.Fitting.{next_frame-longest}
use Rattle.pfl_queue.proofs.InTurn.{before_order, exact}
use Rattle.pfl_queue.proofs.Keeping.{kept, gone_kept, unmarked_kept}
use Rattle.pfl_queue.proofs.Sorting.{Rises, order-sum, order-rises, same_rising}
use Rattle.pfl_queue.proofs.Values.{values_stand, sum_without}

-- the list begins with these
pub record BeginsWith {X : Type 0} (xs front : List X) : Type 0 where
  pub rest : List X
  pub is : front ++ rest ≡ xs

all_longer : {X : Type 0} (x : X) (xs : List X) (fronts : List (List X)) → AllByRecursion (BeginsWith xs) fronts
    → AllByRecursion (λ front. BeginsWith (x ∷ xs) (x ∷ front)) fronts
all_longer x xs [] all = tt
all_longer x xs (front ∷ fronts) all = (record { rest = all.0.rest; is = ap (λ ys. x ∷ ys) all.0.is }, all_longer x xs fronts all.1)

prefixes_begin : {X : Type 0} (xs : List X) → AllByRecursion (BeginsWith xs) (prefixes xs)
prefixes_begin [] = (record { rest = []; is = refl }, tt)
prefixes_begin (x ∷ xs) = (
  record { rest = x ∷ xs; is = refl },
  each-map (BeginsWith (x ∷ xs)) (λ front. x ∷ front) (prefixes xs)
      (all_longer x xs (prefixes xs) (prefixes_begin xs)),
)

pub last_or : {X : Type 0} (P : X → Type 0) (d : X) (xs : List X) → P d → AllByRecursion P xs → P (unwrap_or (last_of xs) d)
last_or P d [] h all = h
last_or P d (x ∷ []) h all = all.0
last_or P d (x ∷ y ∷ ys) h all = last_or P d (y ∷ ys) h all.1

pub longest_begins : (es : List Entry) (mtu : ℕ) → BeginsWith es (longest es mtu)
longest_begins es mtu = last_or (BeginsWith es) [] _ (record { rest = es; is = refl }) (each-filter (BeginsWith es) _ (prefixes es) (prefixes_begin es))

stood : (q : Queue) (is : IsQueue q) (name : StateName) (ms : List Mark)
    → AllByRecursion (λ m. maps.get (maps.remove q.marks name) m.name ≡ Some m) ms → AllByRecursion (λ m. maps.get q.marks m.name ≡ Some m) ms
stood q is name [] all = tt
stood q is name (m ∷ ms) all = (kept q is name m.name m all.0, stood q is name ms all.1)

-- the marks in order, without their first
first_mark_gone : (q : Queue) → IsQueue q → (m : Mark) (ms : List Mark) → in_order mark_before (maps.values q.marks) ≡ m ∷ ms
    → in_order mark_before (maps.values (maps.remove q.marks m.name)) ≡ ms
first_mark_gone q is m ms first =
    let values = maps.values q.marks in
    let fewer = maps.values (maps.remove q.marks m.name) in
    let stands = subst (AllByRecursion (λ m. maps.get q.marks m.name ≡ Some m)) first
    (each-in_order (λ (m : Mark). maps.get q.marks m.name ≡ Some m) mark_before values (values_stand q is)) in
    let stand_too = each-in_order (λ (m : Mark). maps.get q.marks m.name ≡ Some m) mark_before fewer
    (stood q is m.name fewer (values_stand (unmarked q m.name) (unmarked_kept q is m.name))) in
    let rises = subst (Rises mark_before) first (order-rises mark_before before_order values) in
    same_rising mark_before before_order (λ m. maps.get q.marks m.name ≡ Some m) (exact q is) (in_order mark_before fewer) ms
    (order-rises mark_before before_order fewer) rises.1 stand_too stands.1
    (λ f. omega (
      arith,
      order-sum mark_before f fewer,
      sum_without f q.marks m m.name stands.0,
      order-sum mark_before f values,
      ap
          (sum_by f) first,
      sum_by-cons f m ms,
    ))

-- What is left where this is the first entry.
module _ (q : Queue) (is : IsQueue q) (e : Entry) (rest : List Entry) where
  abbrev parts : List Mark → List StateName → List BulkStatus → List Cleared → List Entry
  parts ms rs ss cs = map entry_of ms ++ map Request rs ++ map Status ss ++ map clear_of cs

  of_clears : in_order mark_before (maps.values q.marks) ≡ [] → q.requests ≡ [] → q.statuses ≡ [] → (cs : List Cleared) → q.clears ≡ cs
      → parts [] [] [] cs ≡ e ∷ rest → in_turn (gone q e) ≡ rest
  of_clears marks requests statuses [] clears turn = absurd (cc)
  of_clears marks requests statuses (c ∷ cs) clears turn =
      let same : e ≡ clear_of c = cc in
      let others : map clear_of cs ≡ rest = cc in
      ap (λ x. in_turn (gone q x)) same
      ∙ ap (λ ms. map entry_of ms ++ map Request q.requests ++ map Status q.statuses ++ map clear_of (drop 1 q.clears)) marks
      ∙ ap (λ rs. map Request rs ++ map Status q.statuses ++ map clear_of (drop 1 q.clears)) requests
      ∙ ap (λ ss. map Status ss ++ map clear_of (drop 1 q.clears)) statuses
      ∙ ap (λ (xs : List Cleared). map clear_of (drop 1 xs)) clears ∙ others

  of_statuses : in_order mark_before (maps.values q.marks) ≡ [] → q.requests ≡ [] → (ss : List BulkStatus) → q.statuses ≡ ss
      → parts [] [] ss q.clears ≡ e ∷ rest → in_turn (gone q e) ≡ rest
  of_statuses marks requests [] statuses turn = of_clears marks requests statuses q.clears refl turn
  of_statuses marks requests (s ∷ ss) statuses turn =
      let same : e ≡ Status s = cc in
      let others : map Status ss ++ map clear_of q.clears ≡ rest = cc in
      ap (λ x. in_turn (gone q x)) same
      ∙ ap (λ ms. map entry_of ms ++ map Request q.requests ++ map Status (drop 1 q.statuses) ++ map clear_of q.clears) marks
      ∙ ap (λ rs. map Request rs ++ map Status (drop 1 q.statuses) ++ map clear_of q.clears) requests
      ∙ ap (λ (xs : List BulkStatus). map Status (drop 1 xs) ++ map clear_of q.clears) statuses ∙ others

  of_requests : in_order mark_before (maps.values q.marks) ≡ [] → (rs : List StateName) → q.requests ≡ rs
      → parts [] rs q.statuses q.clears ≡ e ∷ rest → in_turn (gone q e) ≡ rest
  of_requests marks [] requests turn = of_statuses marks requests q.statuses refl turn
  of_requests marks (n ∷ rs) requests turn =
      let same : e ≡ Request n = cc in
      let others : map Request rs ++ map Status q.statuses ++ map clear_of q.clears ≡ rest = cc in
      ap (λ x. in_turn (gone q x)) same
      ∙ ap (λ ms. map entry_of ms ++ map Request (drop 1 q.requests) ++ map Status q.statuses ++ map clear_of q.clears) marks
      ∙ ap (λ (xs : List StateName). map Request (drop 1 xs) ++ map Status q.statuses ++ map clear_of q.clears) requests ∙ others

  of_marks : (ms : List Mark) → in_order mark_before (maps.values q.marks) ≡ ms → parts ms q.requests q.statuses q.clears ≡ e ∷ rest → in_turn (gone q e) ≡ rest
  of_marks [] marks turn = of_requests marks q.requests refl turn
  of_marks (m ∷ ms) marks turn =
      let same : e ≡ entry_of m = cc in
      let others : map entry_of ms ++ map Request q.requests ++ map Status q.statuses ++ map clear_of q.clears ≡ rest = cc in
      ap (λ x. in_turn (gone q x)) same
      ∙ ap (λ ms. map entry_of ms ++ map Request q.requests ++ map Status q.statuses ++ map clear_of q.clears) (first_mark_gone q is m ms marks) ∙ others

pub front_gone : (q : Queue) → IsQueue q → (e : Entry) (rest : List Entry) → in_turn q ≡ e ∷ rest → in_turn (gone q e) ≡ rest
front_gone q is e rest turn = of_marks q is e rest (in_order mark_before (maps.values q.marks)) refl turn

-- An edit that takes the first entry finds it there.
module _ (q : Queue) (is : IsQueue q) (e : Entry) (rest : List Entry) where
  abbrev Found : Entry → Type 0
  Found x = FindsFormer (taking x) q

  found_clear : (cs : List Cleared) → q.clears ≡ cs → map clear_of cs ≡ e ∷ rest → Found e
  found_clear [] clears turn = absurd (cc)
  found_clear (c ∷ cs) clears turn = let same : e ≡ clear_of c = cc in subst Found (sym same) (ap (λ (xs : List Cleared). slice_get xs 0) clears)

  found_status : (ss : List BulkStatus) → q.statuses ≡ ss → map Status ss ++ map clear_of q.clears ≡ e ∷ rest → Found e
  found_status [] statuses turn = found_clear q.clears refl turn
  found_status (s ∷ ss) statuses turn = let same : e ≡ Status s = cc in subst Found (sym same) (ap (λ (xs : List BulkStatus). slice_get xs 0) statuses)

  found_request : (rs : List StateName) → q.requests ≡ rs → map Request rs ++ map Status q.statuses ++ map clear_of q.clears ≡ e ∷ rest → Found e
  found_request [] requests turn = found_status q.statuses refl turn
  found_request (n ∷ rs) requests turn = let same : e ≡ Request n = cc in subst Found (sym same) (ap (λ (xs : List StateName). slice_get xs 0) requests)

  found_mark : (ms : List Mark) → in_order mark_before (maps.values q.marks) ≡ ms
      → map entry_of ms ++ map Request q.requests ++ map Status q.statuses ++ map clear_of q.clears ≡ e ∷ rest → Found e
  found_mark [] marks turn = found_request q.requests refl turn
  found_mark (m ∷ ms) marks turn =
      let same : e ≡ entry_of m = cc in
      let stands = subst (AllByRecursion (λ m. maps.get q.marks m.name ≡ Some m)) marks
      (each-in_order (λ (m : Mark). maps.get q.marks m.name ≡ Some m) mark_before (maps.values q.marks) (values_stand q is)) in
      subst Found (sym same) stands.0

pub first_found : (q : Queue) → IsQueue q → (e : Entry) (rest : List Entry) → in_turn q ≡ e ∷ rest → FindsFormer (taking e) q
first_found q is e rest turn = found_mark q is e rest (in_order mark_before (maps.values q.marks)) refl turn

-- a list without its first entry
pub without_first : {X : Type 0} (xs : List X) → remove xs 0 ≡ drop 1 xs
without_first [] = refl
without_first (x ∷ xs) = refl

-- and takes it out
pub redone_gone : (q : Queue) (e : Entry) → redone (taking e) q ≡ gone q e
redone_gone q (Marked kind number name) = refl
redone_gone q (Request name) = ap (λ (xs : List StateName). record q { requests = xs }) (without_first q.requests)
redone_gone q (Status status) = ap (λ (xs : List BulkStatus). record q { statuses = xs }) (without_first q.statuses)
redone_gone q (Clear creator bound) = ap (λ (xs : List Cleared). record q { clears = xs }) (without_first q.clears)

pub next_stays : (q : Queue) (e : Entry) → (gone q e).next ≡ q.next
next_stays q (Marked kind number name) = refl
next_stays q (Request name) = refl
next_stays q (Status status) = refl
next_stays q (Clear creator bound) = refl

limit_stays : (q : Queue) (e : Entry) → (gone q e).limit ≡ q.limit
limit_stays q (Marked kind number name) = refl
limit_stays q (Request name) = refl
limit_stays q (Status status) = refl
limit_stays q (Clear creator bound) = refl

-- the edits of the first entries lead back from what they leave
pub frame_leads_back : (es : List Entry) (q : Queue) → IsQueue q → (rest : List Entry) → es ++ rest ≡ in_turn q
    → QueueLeadsBack (map taking es) q (left_by q es)
frame_leads_back [] q is rest turn = LeadsBack-none Finds IsQueue put_back q
frame_leads_back (e ∷ es) q is rest turn =
    let found = first_found q is e (es ++ rest) (sym turn) in
    let later = frame_leads_back es (gone q e) (gone_kept q is e) rest (sym (front_gone q is e (es ++ rest) (sym turn))) in
    LeadsBack-append Finds IsQueue put_back (taking e ∷ []) (map taking es) q (gone q e) (left_by (gone q e) es)
    (subst (QueueLeadsBack (taking e ∷ []) q) (redone_gone q e) (redone-leads_back (taking e) q is found))
    later

all_gone : (es : List Entry) (q : Queue) → IsQueue q → (rest : List Entry) → es ++ rest ≡ in_turn q → in_turn (left_by q es) ≡ rest
all_gone [] q is rest turn = sym turn
all_gone (e ∷ es) q is rest turn = all_gone es (gone q e) (gone_kept q is e) rest (sym (front_gone q is e (es ++ rest) (sym turn)))

-- taking entries out leaves the room and the next number
all_stay : (es : List Entry) (q : Queue) → ((left_by q es).limit ≡ q.limit) × ((left_by q es).next ≡ q.next)
all_stay [] q = (refl, refl)
all_stay (e ∷ es) q = let later = all_stay es (gone q e) in (later.0 ∙ limit_stays q e, later.1 ∙ next_stays q e)

pub frames_take_from_the_front : FramesTakeFromTheFront
frames_take_from_the_front q mtu is =
    let begins = longest_begins (in_turn q) mtu in
    let frame = next_frame-longest q mtu in
    let same = all_stay (next_frame q mtu) q in (
      ap (λ es. es ++ in_turn (left_by q es)) frame
          ∙ (ap (λ ys. longest (in_turn q) mtu ++ ys) (all_gone (longest (in_turn q) mtu) q is begins.rest begins.is) ∙ begins.is),
      same.0,
      same.1,
    )
