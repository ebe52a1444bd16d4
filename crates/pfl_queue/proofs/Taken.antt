-- What a frame takes.
use Rattle.std.proofs.Common.{◌≡◌, ℕ, ◌+◌, ◌*◌, ◌/◌, ◌<◌, List, [], ◌∷◌, ◌++◌, map, take, drop, length, get_or, sym, ◌∙◌, ap, arith, add-one, append_assoc}
use Rattle.std.proofs.Math.Seq.{take-suc, take-append_seam}
use Rattle.std.proofs.lemmas.List.{map-append, take-append-drop}
use Rattle.pfl_queue.specs.declared.Entry.{Entry}
use Rattle.pfl_queue.specs.Edits.{QueueLeadsBack, taking}
use Rattle.pfl_queue.specs.inner.Fitting.{longest}
use Rattle.pfl_queue.specs.Queues.{Queue, IsQueue}
use Rattle.pfl_queue.specs.Taking.{in_turn, left_by, next_frame}
use Rattle.pfl_queue.proofs.Fitting.{next_frame-longest, longest_bounded}
use Rattle.pfl_queue.proofs.Fronts.{longest_begins, frame_leads_back}

-- one edit more
pub edits_next : {X Y : Type 0} (f : X → Y) (front : List Y) (xs : List X) (i : ℕ) (d : X) → i < length xs → (now next : List Y)
    → now ≡ front ++ map f (take i xs) → (y : Y) → y ≡ f (get_or xs i d) → next ≡ now ++ y ∷ [] → next ≡ front ++ map f (take (i + 1) xs)
edits_next f front xs i d within now next is y here more =
    rw (add-one, take-suc xs i d within)
    (more ∙ (ap (λ (zs : List _). zs ++ y ∷ []) is ∙ (append_assoc front (map f (take i xs)) (y ∷ [])
    ∙ ap (λ (zs : List _). front ++ zs) (ap (λ z. map f (take i xs) ++ z ∷ []) here ∙ sym (map-append f (take i xs) (get_or xs i d ∷ []))))))

-- the frame is found in the first of what is pending: as many entries as it has bytes for the least of them
pub frame_taken : (q : Queue) (mtu n : ℕ) → n ≡ mtu / 8 → (all : List Entry) → take n all ≡ take n (in_turn q) → (seen : List Entry)
    → seen ≡ all → (k : ℕ) → take k seen ≡ longest seen mtu
    → (kept : List Entry) → kept ≡ take k all → kept ≡ next_frame q mtu
frame_taken q mtu n few all turn seen same k fits kept is =
    let enough : mtu < 8 * n + 8 = omega (arith, few) in
    is ∙ (ap (take k) (sym same) ∙ (fits ∙ (ap (λ es. longest es mtu) same
    ∙ (sym (longest_bounded n all mtu enough)
    ∙ (ap (λ es. longest es mtu) turn ∙ (longest_bounded n (in_turn q) mtu enough ∙ sym (next_frame-longest q mtu)))))))

-- its entries are the first ones
pub first_taken : (q : Queue) (mtu : ℕ) (es : List Entry) → es ≡ next_frame q mtu → es ≡ take (length es) (in_turn q)
first_taken q mtu es frame =
    let begins = longest_begins (in_turn q) mtu in
    let all : es ++ begins.rest ≡ in_turn q = ap (λ (xs : List Entry). xs ++ begins.rest) (frame ∙ next_frame-longest q mtu) ∙ begins.is in
    sym (take-append_seam es begins.rest) ∙ ap (take (length es)) all

-- and their edits lead back
pub taken_leads_back : (q : Queue) → IsQueue q → (es : List Entry) → es ≡ take (length es) (in_turn q) → QueueLeadsBack (map taking es) q (left_by q es)
taken_leads_back q is es first =
    frame_leads_back es q is (drop (length es) (in_turn q)) (ap (λ (xs : List Entry). xs ++ drop (length es) (in_turn q)) first
    ∙ take-append-drop (length es) (in_turn q))
