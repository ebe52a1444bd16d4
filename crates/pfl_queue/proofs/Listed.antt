-- What is left where a frame took the first marks, and after them the first of the lists.
use Rattle.std.proofs.Common.{◌≡◌, ℕ, ◌+◌, ◌-◌, ◌<◌, zero, suc, List, [], ◌∷◌, ◌++◌, map, take, length, get_or, refl, sym, ◌∙◌, ap, arith, add-one, take-take}
use Rattle.std.proofs.Math.Seq.{take-suc}
use Rattle.std.proofs.lemmas.List.{length-take, take-map}
use Rattle.pfl_base.specs.Lists.{in_order}
use Rattle.pfl_edits.specs.Maps as maps
use Rattle.pfl_edits.specs.Maps.{Map}
use Rattle.pfl_queue.specs.declared.Entry.{Entry}
use Rattle.pfl_queue.specs.declared.Entry.TheVariants.{Request, Status}
use Rattle.pfl_queue.specs.inner.Parts.{first_of_each}
use Rattle.pfl_queue.specs.declared.Mark.{Mark}
use Rattle.pfl_queue.specs.Queues.{Queue}
use Rattle.pfl_queue.specs.Taking.{mark_before, entry_of, clear_of, in_turn, gone, left_by}

-- one part after another
pub left_by-append : (xs ys : List Entry) (q : Queue) → left_by q (xs ++ ys) ≡ left_by (left_by q xs) ys
left_by-append [] ys q = refl
left_by-append (x ∷ xs) ys q = left_by-append xs ys (gone q x)

take-append : {X : Type 0} (n : ℕ) (xs ys : List X) → take n (xs ++ ys) ≡ take n xs ++ take (n - length xs) ys
take-append {X} zero xs ys = let on : 0 ≡ 0 - length xs = omega arith in ap (λ k. take k ys) on
take-append {X} (suc n) [] ys = let on : suc n ≡ suc n - length {A = X} [] = omega arith in ap (λ k. take k ys) on
take-append {X} (suc n) (x ∷ xs) ys =
    let on : n - length xs ≡ suc n - length (x ∷ xs) = omega arith in
    ap (λ (zs : List X). x ∷ zs) (take-append n xs ys ∙ ap (λ k. take n xs ++ take k ys) on)

abbrev behind_marks : List Mark → Queue → List Entry
behind_marks ms q = map entry_of ms ++ map Request q.requests ++ map Status q.statuses ++ map clear_of q.clears

-- The first of each part are enough for the first of all.

same_front : {X : Type 0} (n : ℕ) (xs ys us vs : List X) → take n us ≡ take n xs → take n vs ≡ take n ys → take n (us ++ vs) ≡ take n (xs ++ ys)
same_front {X} n xs ys us vs here there =
    let left : n - length us ≡ n - length xs = omega (arith, length-take n us, length-take n xs, ap length here) in
    let k = n - length xs in
    let rest : take k vs ≡ take k ys = sym (take-take k n vs (omega arith)) ∙ (ap (take k) there ∙ take-take k n ys (omega arith)) in
    take-append n us vs ∙ (ap (λ (zs : List X). zs ++ take (n - length us) vs) here ∙ (ap (λ j. take n xs ++ take j vs) left
    ∙ (ap (λ (zs : List X). take n xs ++ zs) rest ∙ sym (take-append n xs ys))))

front_twice : {X : Type 0} (f : X → Entry) (n : ℕ) (xs : List X) → take n (map f (take n xs)) ≡ take n (map f xs)
front_twice f n xs = take-map f n (take n xs) ∙ (ap (map f) (take-take n n xs (omega arith)) ∙ sym (take-map f n xs))

pub first_in_turn : (n : ℕ) (ms : List Mark) (q : Queue) → ms ≡ in_order mark_before (maps.values q.marks)
    → take n (first_of_each n (take n ms) q) ≡ take n (in_turn q)
first_in_turn n ms q turn =
    same_front n _ _ _ _ (same_front n _ _ _ _ (same_front n _ _ _ _ (front_twice entry_of n ms) (front_twice Request n q.requests))
    (front_twice Status n q.statuses)) (front_twice clear_of n q.clears)
    ∙ ap (λ (xs : List Mark). take n (behind_marks xs q)) turn

-- ---- a frame's entries are taken out one by one

-- one entry more
pub entries_next : (q now next : Queue) (es : List Entry) (i : ℕ) (d : Entry) → i < length es → now ≡ left_by q (take i es)
    → next ≡ gone now (get_or es i d) → next ≡ left_by q (take (i + 1) es)
entries_next q now next es i d within is more =
    rw (add-one, take-suc es i d within)
    (more ∙ (ap (λ (p : Queue). gone p (get_or es i d)) is ∙ sym (left_by-append (take i es) (get_or es i d ∷ []) q)))
